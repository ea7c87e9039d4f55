-- What holds of all judged histories.
use Rattle.std.specs.Prelude.{◌≡◌, ◌⊎◌, ◌↔◌, ◌++◌, ◌∷◌, ℕ, Some}
use Rattle.model_accesses.specs.declared.request.Act.TheVariants.{Put, Get}
use Rattle.model_strands.specs.History.{History}
use Rattle.model_histories.specs.Entries.{Entries, control_part}
use Rattle.model_histories.specs.Shapes.{Shape}
use Rattle.model_races.specs.declared.access.CellAccess.{CellAccess}
use Rattle.model_histories.specs.declared.answer.Entry.{Entry}
use Rattle.model_races.specs.Accesses.{cell_access, granted}
use Rattle.model_races.specs.Races.{HasRace}
use Rattle.model_races.specs.Verdicts.{IsRefused}
use Rattle.model_races.specs.Reducers.{granted_reads}
use Rattle.model_races.specs.ViewReads.{Completes, HasViewRace}
use Rattle.model_races.specs.Judged.{IsJudged}

-- each access of memory in a judged history is refused exactly where it races with an earlier granted access in the dag of the whole
-- history
abbrev pub VerdictLaw : Type 0
VerdictLaw =
    (shape : Shape) (later entries : Entries) (entry : Entry) (access : CellAccess) → IsJudged shape (later ++ entry ∷ entries) →
    cell_access entry.request.act ≡ Some access →
    IsRefused entry.answer ↔ HasRace (control_part (later ++ entry ∷ entries)) (granted entries) entry.request.strand access

-- each put or get in a judged history is refused exactly where an earlier granted one of its reducer is of a strand with other peers in the
-- dag of any finished extension of the whole history
abbrev pub ReadLaw : Type 0
ReadLaw =
    (shape : Shape) (later entries : Entries) (entry : Entry) (reducer value : ℕ) → IsJudged shape (later ++ entry ∷ entries) →
    (entry.request.act ≡ Put reducer value) ⊎ (entry.request.act ≡ Get reducer) → (whole : History) →
    Completes whole (control_part (later ++ entry ∷ entries)) →
    IsRefused entry.answer ↔ HasViewRace whole (granted_reads entries) entry.request.strand reducer
