-- What holds of what a judged history asks of one location, and of two judged histories where one leaves out what the other asks.
use Rattle.std.specs.Prelude.{◌≡◌, ◌≢◌, ◌⊎◌, ◌↔◌, ℕ, None, List, ◌++◌}
use Rattle.model_accesses.specs.declared.kind.Kind.{Kind}
use Rattle.model_accesses.specs.declared.kind.Rule.TheVariants.{Race}
use Rattle.model_accesses.specs.Table.{rule_between}
use Rattle.model_strands.specs.History.{Event, History}
use Rattle.model_strands.specs.Strands.{Running, Begun}
use Rattle.model_strands.specs.Blocks.{stack, enclosing}
use Rattle.model_strands.specs.Legal.{Legal}
use Rattle.model_strands.specs.Dag.{Reaches, IsParallel}
use Rattle.model_strands.specs.Extensions.{Extends}
use Rattle.model_strands.specs.Address.{Address}
use Rattle.model_strands.specs.Addresses.{address}
use Rattle.model_histories.specs.Entries.{Entries, control_part}
use Rattle.model_histories.specs.Shapes.{Shape}
use Rattle.model_histories.specs.Extensions.{IsClean}
use Rattle.model_races.specs.ViewReads.{Completes}
use Rattle.model_races.specs.Judged.{IsJudged}
use Rattle.law_traces.specs.Locations.{Accesses, HasRefusal, HasRaceAt, HasReadRefusal, HasViewRaceAt}
use Rattle.law_traces.specs.Sets.{HasRaceBetween, AreCovered, HaveSameAccesses}
use Rattle.law_traces.specs.Moves.{IsBelow, IsMoved, AreCoveredBehind, IsLike, IsOfOneLeftOut}
use Rattle.law_traces.specs.Functions.{begins_at, IsAskedInside}
use Rattle.law_traces.specs.Pairs.{HasNearRaceAt, StandsForPair, HasItsPairs, HasRefusedPair, deed}
use Rattle.law_traces.specs.Omissions.{LeavesOut, IsRepeated, IsReadByWriter, IsOfCell, IsOfOther}
use Rattle.law_traces.specs.Epochs.{HasNoOpenBlock, moved, AskChanged, unchanged}
use Rattle.law_traces.specs.CleanTraces.{SpeaksForOrders}
use Rattle.law_traces.specs.Spawns.{renamed, GoesThrough, IsSpawned, IsEmpty, LeavesOutSpawn}

-- some access of a cell is refused exactly where the cell has a race, in the dag of the history and in that of each legal longer one
abbrev pub LocationLaw : Type 0
LocationLaw =
    (shape : Shape) (entries : Entries) → IsJudged shape entries → (whole : History) → Extends whole (control_part entries) → Legal whole →
    (cell : ℕ) → HasRefusal entries cell ↔ HasRaceAt whole entries cell

-- some put or get of a reducer is refused exactly where, among those that were not unset, two are of strands with other peers, in the dag of
-- each finished extension
abbrev pub ReducerLaw : Type 0
ReducerLaw =
    (shape : Shape) (entries : Entries) → IsJudged shape entries → (whole : History) → Completes whole (control_part entries) →
    (reducer : ℕ) → HasReadRefusal entries reducer ↔ HasViewRaceAt whole entries reducer

-- whether some access of a cell is refused is decided by the set of the addresses and kinds of its accesses
abbrev pub SetLaw : Type 0
SetLaw = (shape : Shape) (entries : Entries) → IsJudged shape entries → (cell : ℕ) → HasRefusal entries cell ↔ HasRaceBetween entries cell

-- so it is the same in two histories, and of two cells, whose accesses cover one another
abbrev pub CoveringLaw : Type 0
CoveringLaw =
    (shape other_shape : Shape) (entries others : Entries) → IsJudged shape entries → IsJudged other_shape others → (cell other_cell : ℕ) →
    AreCovered entries cell others other_cell → AreCovered others other_cell entries cell → HasRefusal entries cell ↔ HasRefusal others other_cell

-- leaving out accesses that repeat one of the same kind by the same strand changes no verdict
abbrev pub RepeatedAccessLaw : Type 0
RepeatedAccessLaw =
    (shape kept_shape : Shape) (whole kept : Entries) → IsJudged shape whole → IsJudged kept_shape kept → LeavesOut (IsRepeated kept) whole kept →
    (cell : ℕ) → HasRefusal whole cell ↔ HasRefusal kept cell

-- nor does leaving out reads by strands that also write there
abbrev pub ReadBesideWriteLaw : Type 0
ReadBesideWriteLaw =
    (shape kept_shape : Shape) (whole kept : Entries) → IsJudged shape whole → IsJudged kept_shape kept → LeavesOut (IsReadByWriter kept) whole kept →
    (cell : ℕ) → HasRefusal whole cell ↔ HasRefusal kept cell

-- leaving out accesses of other cells, and of reducers, does not change the verdict on this one
abbrev pub OtherLocationsLaw : Type 0
OtherLocationsLaw =
    (shape kept_shape : Shape) (whole kept : Entries) → IsJudged shape whole → IsJudged kept_shape kept → (cell : ℕ) →
    LeavesOut (IsOfOther cell) whole kept → HasRefusal whole cell ↔ HasRefusal kept cell

-- two cells to which the same strands do the same have one verdict
abbrev pub EqualLocationsLaw : Type 0
EqualLocationsLaw =
    (shape : Shape) (entries : Entries) → IsJudged shape entries → (cell other : ℕ) → HaveSameAccesses entries cell other →
    HasRefusal entries cell ↔ HasRefusal entries other

-- so where all accesses of the one are left out, that of the other is its verdict, and all others stay
abbrev pub LeftOutLocationLaw : Type 0
LeftOutLocationLaw =
    (shape kept_shape : Shape) (whole kept : Entries) → IsJudged shape whole → IsJudged kept_shape kept → (cell left_out : ℕ) → cell ≢ left_out →
    HaveSameAccesses whole cell left_out → LeavesOut (IsOfCell left_out) whole kept →
    (HasRefusal whole left_out ↔ HasRefusal kept cell) × ((other : ℕ) → other ≢ left_out → HasRefusal whole other ↔ HasRefusal kept other)

-- strands are parallel by what is behind the address with which theirs begin, in one history or in two
abbrev pub MovedStrandsLaw : Type 0
MovedStrandsLaw =
    (history other_history : History) → Legal history → Legal other_history → (front other_front rest other_rest : Address) →
    (strand other : ℕ) → Begun history strand → Begun history other → (strand' other' : ℕ) → Begun other_history strand' →
    Begun other_history other' → address history strand ≡ front ++ rest → address history other ≡ front ++ other_rest →
    address other_history strand' ≡ other_front ++ rest → address other_history other' ≡ other_front ++ other_rest →
    IsParallel history strand other ↔ IsParallel other_history strand' other'

-- so two cells to which the same is done behind two addresses have one verdict, in one history or in two
abbrev pub MovedLocationLaw : Type 0
MovedLocationLaw =
    (shape other_shape : Shape) (entries others : Entries) → IsJudged shape entries → IsJudged other_shape others →
    (front other_front : Address) (cell other_cell : ℕ) → IsMoved entries front cell others other_front other_cell →
    HasRefusal entries cell ↔ HasRefusal others other_cell

-- and so have two cells whose accesses cover one another behind two addresses
abbrev pub MovedCoveringLaw : Type 0
MovedCoveringLaw =
    (shape other_shape : Shape) (entries others : Entries) → IsJudged shape entries → IsJudged other_shape others →
    (front other_front : Address) (cell other_cell : ℕ) → AreCoveredBehind entries front cell others other_front other_cell →
    AreCoveredBehind others other_front other_cell entries front cell → HasRefusal entries cell ↔ HasRefusal others other_cell

-- What is asked for in a function, and in those that are called and spawned from there, is asked for by strands whose addresses begin with
-- that of the function's first strand.
abbrev pub FunctionLaw : Type 0
FunctionLaw =
    (shape : Shape) (entries : Entries) → IsJudged shape entries → (function cell : ℕ) → IsAskedInside entries function cell →
    IsBelow entries (begins_at (control_part entries) function) cell

-- Where one cell of each kind stands for all, to which the same is done but for where, and the accesses of all others are left out, the
-- verdict on each cell is that on the one that stands for it.
abbrev pub StandInLaw : Type 0
StandInLaw =
    (shape kept_shape : Shape) (whole kept : Entries) → IsJudged shape whole → IsJudged kept_shape kept → (stand_in : ℕ → ℕ) →
    ((cell : ℕ) → stand_in (stand_in cell) ≡ stand_in cell) → ((cell : ℕ) → stand_in cell ≢ cell → IsLike whole cell (stand_in cell)) →
    LeavesOut (IsOfOneLeftOut stand_in) whole kept → (cell : ℕ) → HasRefusal whole cell ↔ HasRefusal kept (stand_in cell)

-- some access of a cell is refused exactly where the strands of a near pair of it are parallel, in the dag of the history and in that of each
-- legal longer one
abbrev pub NearPairLaw : Type 0
NearPairLaw =
    (shape : Shape) (entries : Entries) → IsJudged shape entries → (whole : History) → Extends whole (control_part entries) → Legal whole →
    (cell : ℕ) → HasRefusal entries cell ↔ HasNearRaceAt whole entries cell

-- some access of a cell that stands for two accesses is refused exactly where these conflict and their strands are parallel
abbrev pub PairCellLaw : Type 0
PairCellLaw =
    (history : History) → Legal history → (kept_shape : Shape) (kept : Entries) → IsJudged kept_shape kept → (strand other : ℕ) →
    Begun history strand → Begun history other → (kind other_kind : Kind) (pair_cell : ℕ) →
    StandsForPair history (deed strand kind) (deed other other_kind) kept pair_cell →
    HasRefusal kept pair_cell ↔ ((rule_between kind other_kind ≡ Race) × IsParallel history strand other)

-- so a cell may be left out where for each near pair of it a cell stands, in the same history or in another one: some access of it is refused
-- exactly where some access of one of these is
abbrev pub KeptPairsLaw : Type 0
KeptPairsLaw =
    (shape kept_shape : Shape) (whole kept : Entries) → IsJudged shape whole → IsJudged kept_shape kept → (cell : ℕ) →
    HasItsPairs whole cell kept → HasRefusal whole cell ↔ HasRefusedPair whole cell kept

-- no block is open exactly where a strand that runs stands in none: in the root function, or in functions called from there
abbrev pub OpenBlockLaw : Type 0
OpenBlockLaw =
    (history : History) → Legal history → (strand : ℕ) → Running history strand →
    HasNoOpenBlock history ↔ (enclosing (stack history strand) ≡ None)

-- where no block is open, all that have begun reach each strand that runs then or later
abbrev pub MomentLaw : Type 0
MomentLaw =
    (history : History) (later : List Event) → Legal (later ++ history) → HasNoOpenBlock history → (strand other : ℕ) → Begun history strand →
    Running (later ++ history) other → Reaches (later ++ history) strand other

-- so what is done to a cell after such a moment may be taken as done to another one that is not accessed: some access of the cell is refused
-- exactly where then some access of one of the two is, and all other verdicts stay
abbrev pub EpochLaw : Type 0
EpochLaw =
    (shape moved_shape : Shape) (later earlier moved_later same_earlier : Entries) → IsJudged shape (later ++ earlier) →
    IsJudged moved_shape (moved_later ++ same_earlier) → HasNoOpenBlock (control_part earlier) → (cell fresh : ℕ) →
    ((strand : ℕ) (kind : Kind) → Accesses (later ++ earlier) strand kind fresh → ⊥) →
    AskChanged (moved cell fresh) later moved_later → AskChanged unchanged earlier same_earlier →
    (HasRefusal (later ++ earlier) cell ↔ (HasRefusal (moved_later ++ same_earlier) cell ⊎ HasRefusal (moved_later ++ same_earlier) fresh)) ×
    ((other : ℕ) → other ≢ cell → other ≢ fresh → HasRefusal (later ++ earlier) other ↔ HasRefusal (moved_later ++ same_earlier) other)

-- strands that remain without a spawn are parallel exactly where those are that have their addresses without it
abbrev pub RemainingLaw : Type 0
RemainingLaw =
    (history shorter : History) → Legal history → Legal shorter → (spawner : Address) (blocks : ℕ) → GoesThrough history spawner blocks →
    (strand other : ℕ) → Begun history strand → Begun history other → (IsSpawned spawner (address history strand) → ⊥) →
    (IsSpawned spawner (address history other) → ⊥) → (strand' other' : ℕ) → Begun shorter strand' → Begun shorter other' →
    address shorter strand' ≡ renamed spawner blocks (address history strand) →
    address shorter other' ≡ renamed spawner blocks (address history other) → IsParallel history strand other ↔ IsParallel shorter strand' other'

-- leaving out a spawn of a function in which nothing is accessed changes no verdict
abbrev pub EmptySpawnLaw : Type 0
EmptySpawnLaw =
    (shape kept_shape : Shape) (whole kept : Entries) → IsJudged shape whole → IsJudged kept_shape kept → (spawner : Address) (blocks : ℕ) →
    IsEmpty whole spawner → GoesThrough (control_part whole) spawner blocks → LeavesOutSpawn spawner blocks whole kept →
    (cell : ℕ) → HasRefusal whole cell ↔ HasRefusal kept cell

-- a judged history in which nothing is refused speaks for each order in which its strands can come
abbrev pub CleanTraceLaw : Type 0
CleanTraceLaw = (shape : Shape) (clean : Entries) → IsJudged shape clean → IsClean clean → SpeaksForOrders shape clean
