-- The right answers to accesses of memory.
use Rattle.std.specs.Prelude.{◌≡◌, ◌↔◌, ℕ, [], ◌∷◌, MatchOption}
use Rattle.model_accesses.specs.declared.kind.Rule.{Rule}
use Rattle.model_accesses.specs.declared.witness.Witness.{Witness}
use Rattle.model_races.specs.declared.access.CellAccess.{CellAccess}
use Rattle.model_histories.specs.declared.answer.Answer.{Answer}
use Rattle.model_histories.specs.declared.answer.Answer.TheVariants.{Value, Refused}
use Rattle.model_histories.specs.Entries.{Entries, control_part}
use Rattle.model_races.specs.Accesses.{cell_access, granted}
use Rattle.model_races.specs.Races.{HasRace, IsTrueWitness}
use Rattle.model_races.specs.Memory.{cell_value}

abbrev pub IsRefused : Answer → Type 0
IsRefused (Refused rule witness) = Unit {0}
IsRefused answer = ⊥

-- what a refusal names
abbrev pub IfRefused : Answer → (Rule → Witness → Type 0) → Type 0
IfRefused (Refused rule witness) Names = Names rule witness
IfRefused answer Names = Unit {0}

-- the value that is answered
abbrev pub IfValue : Answer → (ℕ → Type 0) → Type 0
IfValue (Value value) Is = Is value
IfValue answer Is = Unit {0}

-- After these entries this is the right answer to the strand's access of a cell.
pub record IsRightVerdict (entries : Entries) (strand : ℕ) (access : CellAccess) (answer : Answer) : Type 0 where
  -- it is refused exactly where it races with an earlier granted access
  pub refused : IsRefused answer ↔ HasRace (control_part entries) (granted entries) strand access
  -- a refusal names a true witness and its rule
  pub witness : IfRefused answer (IsTrueWitness (control_part entries) (granted entries) strand access)
  -- a value is what the cell holds
  pub value : IfValue answer (λ value. value ≡ cell_value entries access.location)

-- each access of a cell was answered rightly when it came
abbrev pub MemoryIsJudged : Entries → Type 0
MemoryIsJudged [] = Unit {0}
MemoryIsJudged (entry ∷ entries) =
    MemoryIsJudged entries ×
    MatchOption (cell_access entry.request.act) (Unit {0}) (λ access. IsRightVerdict entries entry.request.strand access entry.answer)
