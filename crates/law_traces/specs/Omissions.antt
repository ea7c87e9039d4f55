-- A history and one in which some of its accesses are left out.
use Rattle.std.specs.Prelude.{◌≡◌, ◌≢◌, ℕ, [], ◌∷◌, Some}
use Rattle.model_accesses.specs.declared.kind.Kind.{Kind}
use Rattle.model_accesses.specs.declared.kind.Kind.TheVariants as kinds
use Rattle.model_accesses.specs.declared.asked.Asked.{Asked}
use Rattle.model_accesses.specs.declared.request.Act.{Act}
use Rattle.model_accesses.specs.declared.request.Act.TheVariants.{Read}
use Rattle.model_accesses.specs.declared.request.Request.{Request}
use Rattle.model_accesses.specs.Asking.{access_asked}
use Rattle.model_histories.specs.declared.answer.Entry.{Entry}
use Rattle.model_histories.specs.Entries.{Entries}
use Rattle.model_races.specs.Accesses.{cell_access}
use Rattle.law_traces.specs.Locations.{access_of, Accesses}

-- the act is an access of a cell or of a reducer
abbrev pub IsAccess : Act → Type 0
IsAccess act = (asked : Asked) × (access_asked act ≡ Some asked)

-- one strand asks the same, perhaps on another line, and perhaps with another answer
abbrev pub AskSame : Entry → Entry → Type 0
AskSame entry other = (entry.request.strand ≡ other.request.strand) × (entry.request.act ≡ other.request.act)

-- the second history asks what the first asks, in the same order, but for some accesses that may be left out
pub data LeavesOut (May : Request → Type 0) : Entries → Entries → Type 0 where
  nothing : LeavesOut May [] []
  keeps : {whole kept : Entries} {entry other : Entry} → LeavesOut May whole kept → AskSame entry other →
      LeavesOut May (entry ∷ whole) (other ∷ kept)
  omits : {whole kept : Entries} {entry : Entry} → LeavesOut May whole kept → IsAccess entry.request.act → May entry.request →
      LeavesOut May (entry ∷ whole) kept

-- an access of a cell, of which its strand has one of the same kind among those that are kept
abbrev pub IsRepeated : Entries → Request → Type 0
IsRepeated kept request =
    (kind : Kind) × (cell : ℕ) × (cell_access request.act ≡ Some (access_of kind cell)) × Accesses kept request.strand kind cell

-- a read of a cell that its strand also writes, by a write that is kept
abbrev pub IsReadByWriter : Entries → Request → Type 0
IsReadByWriter kept request = (cell : ℕ) × (request.act ≡ Read cell) × Accesses kept request.strand kinds.Write cell

-- an access of this cell
abbrev pub IsOfCell : ℕ → Request → Type 0
IsOfCell cell request = (kind : Kind) × (cell_access request.act ≡ Some (access_of kind cell))

-- an access of another cell, or of a reducer
abbrev pub IsOfOther : ℕ → Request → Type 0
IsOfOther cell request = (kind : Kind) → cell_access request.act ≢ Some (access_of kind cell)
