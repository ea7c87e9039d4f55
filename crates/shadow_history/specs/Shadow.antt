-- What a shadow history keeps of the accesses that it has taken in.
use Rattle.std.specs.Prelude.{◌<◌, ℕ, List, length, Option, Some, None, IsTrue, slice_index_or}
use Rattle.model_accesses.specs.declared.kind.Kind.{Kind}
use Rattle.model_accesses.specs.declared.kind.Kind.TheVariants.{Write, Bump, Read}
use Rattle.model_accesses.specs.Table.{is_memory_kind}
use Rattle.law_addresses.specs.Address.{english, hebrew}
use Rattle.model_strands.specs.History.{History}
use Rattle.model_strands.specs.Strands.{Running}
use Rattle.sp_labels.specs.Roster.{Roster, Follows, HasBegun}
use Rattle.shadow_history.specs.declared.cell.Extreme.{Extreme}
use Rattle.shadow_history.specs.declared.cell.Extremes.{Extremes}
use Rattle.shadow_history.specs.declared.cell.Cell.{Cell}
use Rattle.model_accesses.specs.Accesses.{Access}
use Rattle.shadow_history.specs.Accesses.{IsAdded, HaveAllBegun, IsExtreme}

-- what a cell keeps of a kind
abbrev pub extremes_of : Cell → Kind → Option Extremes
extremes_of cell Write = cell.write
extremes_of cell Bump = cell.bump
extremes_of cell Read = cell.read
extremes_of cell kind = None

abbrev pub empty_cell : Cell
empty_cell = record { write = None; bump = None; read = None }

-- the access of which a strand and an entry are kept
abbrev pub access_of : ℕ → Kind → Extreme → Access
access_of location kind extreme = record { strand = extreme.strand; kind = kind; location = location; entry = extreme.entry }

-- the two are the last accesses of this location and kind in the two orders
pub record AreExtremes (history : History) (accesses : List Access) (location : ℕ) (kind : Kind) (extremes : Extremes) : Type 0 where
  pub english : IsExtreme english history accesses (access_of location kind extremes.english)
  pub hebrew : IsExtreme hebrew history accesses (access_of location kind extremes.hebrew)

-- so they are kept, and nothing is kept where there is no access of this location and kind
abbrev pub AreKept : History → List Access → ℕ → Kind → Option Extremes → Type 0
AreKept history accesses location kind None = (access : Access) → IsAdded accesses location kind access → ⊥
AreKept history accesses location kind (Some extremes) = AreExtremes history accesses location kind extremes

-- the cells keep the extremes of these accesses, whose strands have all begun
pub record Remembers (cells : List Cell) (history : History) (accesses : List Access) : Type 0 where
  pub begun : HaveAllBegun history accesses
  pub kept : (location : ℕ) → location < length cells → (kind : Kind) → IsTrue (is_memory_kind kind) →
      AreKept history accesses location kind (extremes_of (slice_index_or cells location empty_cell) kind)

-- the strands are those of the accesses that were taken in, in the same or a later state
abbrev pub StandsOn : List Cell → Roster → Type 0
StandsOn cells roster = (history : History) × (accesses : List Access) × Follows roster history × Remembers cells history accesses

-- the strand runs, in each history that the roster follows
abbrev pub Runs : Roster → ℕ → Type 0
Runs roster strand = (history : History) → Follows roster history → Running history strand

-- the strands that are kept have begun
abbrev pub HaveBegun : Roster → Option Extremes → Type 0
HaveBegun roster None = Unit {0}
HaveBegun roster (Some extremes) = HasBegun roster extremes.english.strand × HasBegun roster extremes.hebrew.strand
