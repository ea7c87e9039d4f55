-- What holds of all serial runs.
use Rattle.std.specs.Prelude.{◌≡◌, ◌≢◌, ◌⊎◌, ◌↔◌, ◌<◌, ℕ, Bool, true, List, [], ◌∷◌, ◌++◌, Contains, IsTrue}
use Rattle.model_strands.specs.Address.{Address, child, next, join, extended}
use Rattle.model_strands.specs.Addresses.{address}
use Rattle.model_strands.specs.History.{Event, split, History}
use Rattle.model_strands.specs.Strands.{Running, Begun, unused}
use Rattle.model_strands.specs.Blocks.{stack}
use Rattle.model_strands.specs.Legal.{Legal}
use Rattle.model_strands.specs.Dag.{IsParallel}
use Rattle.model_strands.specs.Extensions.{Extends, IsFinished}
use Rattle.law_addresses.specs.Address.{reaches, parallel, IsPrefix}
use Rattle.law_strands.specs.Addresses.{IsEnglishBefore, IsHebrewBefore}
use Rattle.model_serial_runs.specs.declared.access_kind.AccessKind.{AccessKind}
use Rattle.model_serial_runs.specs.Current.{strand_of, current, IsSerial}
use Rattle.model_serial_runs.specs.Conflicts.{conflict}
use Rattle.law_serial_runs.specs.Turns.{HasRun, IsDirect}
use Rattle.law_serial_runs.specs.Spawns.{Spawn, new_spawn, open_spawns, PartAtSpawn, IsInChild, IsOpen, IsOpenBlock, passed_spawners, IsPassing}
use Rattle.law_serial_runs.specs.Frames.{Frame, AreFrames}
use Rattle.law_serial_runs.specs.Accesses.{Moment, Tells, HasRaceAmong, AreRacing, on_first, on_second, first_cell, second_cell}
use Rattle.model_histories.specs.Entries.{Entries}
use Rattle.model_histories.specs.Shapes.{Shape}
use Rattle.model_races.specs.Judged.{IsJudged}
use Rattle.law_traces.specs.Locations.{HasRefusal, HasReadRefusal}
use Rattle.law_strands.specs.Branches.{branch}
use Rattle.model_serial_runs.specs.ReducerReads.{ReducerRead, ViewRaces}
use Rattle.law_serial_runs.specs.Told.{Step, IsRun, IsAnswered}
use Rattle.law_serial_runs.specs.Reads.{ReadMoment, TellsReads, HasViewRaceAmong}

-- the strand at which a serial run is runs, until the root function returns
abbrev pub CurrentLaw : Type 0
CurrentLaw = (history : History) → Legal history → IsSerial history → (IsFinished history → ⊥) → Running history (current history)

-- the root function's return is the last event
abbrev pub LastEventLaw : Type 0
LastEventLaw = (history : History) (event : Event) → Legal (event ∷ history) → IsSerial (event ∷ history) → IsFinished history → ⊥

-- no sync waits, so no return begins a join
abbrev pub DirectLaw : Type 0
DirectLaw = (history : History) (event : Event) → Legal (event ∷ history) → IsSerial (event ∷ history) → IsDirect event

-- an event moves no begun strand but the one that makes it
abbrev pub StackLaw : Type 0
StackLaw =
    (history : History) (event : Event) → Legal (event ∷ history) → (strand : ℕ) → Begun history strand → strand ≢ strand_of event →
    stack (event ∷ history) strand ≡ stack history strand

-- what has been current has begun, and is the current strand or before it in the English order; it is parallel to the current strand exactly
-- where their addresses part at a spawn, with the next on the side of the current strand, and so exactly where the current strand is before it
-- in the Hebrew order
pub record IsEarlier (history : History) (strand other : ℕ) : Type 0 where
  pub begun : Begun history strand
  pub english : IsEnglishBefore history strand other
  pub parts : IsParallel history strand other ↔ PartAtSpawn (address history strand) (address history other)
  pub hebrew : IsParallel history strand other ↔ IsHebrewBefore history other strand

abbrev pub SerialParallelLaw : Type 0
SerialParallelLaw =
    (history : History) → Legal history → IsSerial history → (strand : ℕ) → HasRun history strand → strand ≢ current history →
    IsEarlier history strand (current history)

-- later events do not change whether two begun strands are parallel
abbrev pub StabilityLaw : Type 0
StabilityLaw =
    (history longer : History) → Extends longer history → Legal longer → (strand other : ℕ) → Begun history strand → Begun history other →
    IsParallel longer strand other ↔ IsParallel history strand other

-- of those that are not before another one in the Hebrew order, none is parallel to the current strand where that one is not
abbrev pub HebrewLastLaw : Type 0
HebrewLastLaw =
    (history : History) → Legal history → IsSerial history → (strand other : ℕ) → HasRun history strand → HasRun history other →
    (strand ≡ other) ⊎ IsHebrewBefore history strand other → IsParallel history strand (current history) → IsParallel history other (current history)

-- so of an earlier access and one of the current strand, the earlier one tells of both from then on where the two are parallel, and the other
-- one where they are not
pub record TellsOfBoth (history later : History) (strand : ℕ) : Type 0 where
  pub earlier : IsParallel history strand (current history) → IsParallel later (current history) (current later) →
      IsParallel later strand (current later)
  pub newer : (IsParallel history strand (current history) → ⊥) → IsParallel later strand (current later) →
      IsParallel later (current history) (current later)

abbrev pub KeptLaw : Type 0
KeptLaw =
    (history later : History) → Extends later history → Legal later → IsSerial later → (strand : ℕ) → HasRun history strand →
    TellsOfBoth history later strand

-- what is parallel to the strands and the join that a spawn begins is what is parallel to the spawner
pub record StandsAsSpawner (history : History) (strand the_child the_next the_join : ℕ) (first : Bool) (one : ℕ) : Type 0 where
  pub at_child : parallel (address (split strand the_child the_next the_join first ∷ history) one)
      (address (split strand the_child the_next the_join first ∷ history) the_child) ≡ parallel (address history one) (address history strand)
  pub at_next : parallel (address (split strand the_child the_next the_join first ∷ history) one)
      (address (split strand the_child the_next the_join first ∷ history) the_next) ≡ parallel (address history one) (address history strand)
  pub at_join : first ≡ true → parallel (address (split strand the_child the_next the_join first ∷ history) one)
      (address (split strand the_child the_next the_join first ∷ history) the_join) ≡ parallel (address history one) (address history strand)

abbrev pub SpawnLaw : Type 0
SpawnLaw =
    (history : History) (strand the_child the_next the_join : ℕ) (first : Bool) → Legal (split strand the_child the_next the_join first ∷ history) →
    (one : ℕ) → Begun history one → StandsAsSpawner history strand the_child the_next the_join first one

-- the current strand leads to the join of each open block of the functions that the run is in, down to the root function
abbrev pub BlocksLaw : Type 0
BlocksLaw =
    (history : History) → Legal history → IsSerial history → (the_join : ℕ) → IsOpenBlock history the_join →
    (the_join < unused history) × (reaches (address history (current history)) (address history the_join) ≡ true)

-- where the current strand stands to the functions that the run is in
abbrev pub FramesLaw : Type 0
FramesLaw =
    (history : History) → Legal history → IsSerial history → (IsFinished history → ⊥) →
    (frame : Frame) × (others : List Frame) × AreFrames history frame others

-- what has been current is parallel to the current strand exactly where it is in the child of a spawn whose spawner the current strand has passed
abbrev pub SpansLaw : Type 0
SpansLaw =
    (history : History) → Legal history → IsSerial history → (strand : ℕ) → HasRun history strand →
    IsParallel history strand (current history) ↔
    ((spawner : Address) × Contains (passed_spawners (address history (current history))) spawner × IsInChild spawner (address history strand))

-- the address passes a spawner exactly where it begins with the address of its next
abbrev pub PassedLaw : Type 0
PassedLaw = (a spawner : Address) → Contains (passed_spawners a) spawner ↔ IsPrefix (extended spawner next) a

-- the last word, where it is `next`, passes one more
pub record PassesMore (a : Address) : Type 0 where
  pub at_child : passed_spawners (extended a child) ≡ passed_spawners a
  pub at_next : passed_spawners (extended a next) ≡ passed_spawners a ++ a ∷ []
  pub at_join : passed_spawners (extended a join) ≡ passed_spawners a

abbrev pub PassedMoreLaw : Type 0
PassedMoreLaw = (a : Address) → PassesMore a

-- a spawn changes nothing of what is passed, a return adds its spawner at the end, and a sync takes those of its block away
abbrev pub PassingLaw : Type 0
PassingLaw = (history : History) (event : Event) → Legal (event ∷ history) → IsSerial (event ∷ history) → IsPassing history event

-- the current strand is in the child of each open spawn, whose next waits
abbrev pub OpenLaw : Type 0
OpenLaw =
    (history : History) → Legal history → IsSerial history → (spawn : Spawn) → Contains (open_spawns history) spawn → IsOpen history spawn

-- no strand is in the child of a strand that runs
abbrev pub FreshLaw : Type 0
FreshLaw =
    (history : History) → Legal history → (strand other : ℕ) → Running history strand → Begun history other →
    IsInChild (address history strand) (address history other) → ⊥

-- so of the strands that have been current, those in the child of a spawn that has not returned are those that became so since the spawn
abbrev pub ChildLaw : Type 0
ChildLaw =
    (history : History) (strand the_child the_next the_join : ℕ) (first : Bool) (later : List Event) →
    Legal (later ++ split strand the_child the_next the_join first ∷ history) →
    IsSerial (later ++ split strand the_child the_next the_join first ∷ history) →
    Contains (open_spawns (later ++ split strand the_child the_next the_join first ∷ history))
    (new_spawn history strand the_child the_next the_join) → (one : ℕ) →
    HasRun (later ++ split strand the_child the_next the_join first ∷ history) one →
    IsInChild (address history strand) (address (later ++ split strand the_child the_next the_join first ∷ history) one) ↔
    (HasRun history one → ⊥)

-- two kinds conflict exactly where what they are on one of their two cells comes under the rule of races
abbrev pub KindsLaw : Type 0
KindsLaw =
    (kind other : AccessKind) →
    IsTrue (conflict kind other) ↔ (AreRacing (on_first kind) (on_first other) ⊎ AreRacing (on_second kind) (on_second other))

-- some access of a location races with an earlier one of it exactly where the gate refuses one on one of its two cells
abbrev pub GateLaw : Type 0
GateLaw =
    (shape : Shape) (entries : Entries) → IsJudged shape entries → (location : ℕ) (moments : List Moment) → Tells location entries moments →
    HasRaceAmong moments ↔ (HasRefusal entries (first_cell location) ⊎ HasRefusal entries (second_cell location))

-- and the gate has such answers to each run
abbrev pub AnswersLaw : Type 0
AnswersLaw = (locations : ℕ) (steps : List Step) → IsRun locations steps → IsAnswered steps

-- a read sees another view than an earlier one exactly where their strands have different branches, which are given when strands begin
abbrev pub ViewRacesLaw : Type 0
ViewRacesLaw =
    (history : History) → Legal history → (strand : ℕ) (read : ReducerRead) → Begun history read.strand → Begun history strand →
    ViewRaces history strand read ↔ (branch history read.strand ≢ branch history strand)

-- some read of a reducer sees another view than an earlier one of it exactly where the gate refuses a put or a get of the reducer
abbrev pub ReadGateLaw : Type 0
ReadGateLaw =
    (shape : Shape) (entries : Entries) → IsJudged shape entries → (reducer : ℕ) (moments : List ReadMoment) → TellsReads reducer entries moments →
    HasViewRaceAmong moments ↔ HasReadRefusal entries reducer
