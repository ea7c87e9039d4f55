-- The verdicts on puts and gets are those of each finished extension of the whole history.
use Rattle.std.proofs.Common.{◌≡◌, inl, inr, [], ◌∷◌, ◌++◌, append_assoc, ◌∙◌, ap, subst}
use Rattle.model_strands.specs.History.{History}
use Rattle.model_strands.specs.Extensions.{Extends}
use Rattle.model_histories.specs.declared.answer.Entry.{Entry}
use Rattle.model_histories.specs.Entries.{Entries, control_part}
use Rattle.model_histories.specs.Shapes.{Shape}
use Rattle.model_races.specs.ViewReads.{Completes}
use Rattle.model_races.specs.ReducerVerdicts.{IsRightFor, ReducersAreJudged, reads_before}
use Rattle.model_races.specs.Laws.{ReadLaw}
use Rattle.race_gate.proofs.Races.{extends-part}

-- a finished extension of a history is one of what it begins with
completes-earlier : (whole longer history : History) → Extends longer history → Completes whole longer → Completes whole history
completes-earlier whole longer history (middle, is) completes =
    let (later, same) = completes.extends in
    record { extends = (later ++ middle, append_assoc later middle history ∙ ap (λ h. later ++ h) is ∙ same); legal = completes.legal; finished = completes.finished }

-- each verdict was right when it came
read-then : (shape : Shape) (later entries : Entries) (entry : Entry) → ReducersAreJudged shape (later ++ entry ∷ entries) →
    IsRightFor (reads_before shape.monoids entries) entry.request.strand entry.request.act entry.answer
read-then shape [] entries entry judged = judged.1
read-then shape (newer ∷ later) entries entry judged = read-then shape later entries entry judged.0

pub read_law : ReadLaw
read_law shape later entries entry reducer value judged is whole completes =
    let right = read-then shape later entries entry judged.reducers in
    let longer = later ++ entry ∷ entries in
    let split : (later ++ entry ∷ []) ++ entries ≡ longer = append_assoc later (entry ∷ []) entries in
    let extends : Extends (control_part longer) (control_part entries) = subst (λ es. Extends (control_part es) (control_part entries)) split (extends-part (later ++ entry ∷ []) entries) in
    let before = completes-earlier whole (control_part longer) (control_part entries) extends completes in
    elim is [
      | inl e ↦ (let put = rw e at right in put.refused whole before)
      | inr e ↦ (let get = rw e at right in get.0.refused whole before)
    ]
