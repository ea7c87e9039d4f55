use Rattle.std.proofs.Common.{◌≡◌, List, reverse, sym, subst}
use Rattle.model_histories.specs.declared.answer.Entry.{Entry}
use Rattle.model_histories.specs.Entries.{Entries}
use Rattle.model_histories.specs.Shapes.{Shape}
use Rattle.model_races.specs.Judged.{IsJudged}
use Rattle.model_histories.specs.Extensions.{IsCleanAnswer}
use Rattle.race_report.specs.Conditions.{AreTellable}
use Rattle.race_report.proofs.Reversed.{all_reversed, all_reverses}
use Rattle.race_report.proofs.JudgedRuns.{judged_meets}
use Rattle.call_tests.proofs.programs.reports.whole_of.Goals as goal

meets : (shape other : Shape) (history : Entries) (told : List Entry) → shape ≡ other → reverse told ≡ history → IsJudged shape history → AreTellable other told
meets shape other history told same is judged =
    let here : IsJudged shape (reverse told) = subst (λ (es : Entries). IsJudged shape es) (sym is) judged in
    judged_meets other told (subst (λ (s : Shape). IsJudged s (reverse told)) same here)

pub returns-clause-entries : goal.returns-clause-entries
returns-clause-entries c =
    meets _ _ _ c.into_parts-entries.result.0.items c.requires c.into_parts-entries.ensures.entries c.into_parts-entries.ensures.judged

pub returns-clause-clean : goal.returns-clause-clean
returns-clause-clean c =
    let items = c.into_parts-entries.result.0.items in
    let tells = c.is_clean-clean.ensures in (
      λ clean. all_reverses (λ (one : Entry). IsCleanAnswer one.answer) items (tells.0 clean),
      λ all. tells.1 (all_reversed (λ (one : Entry). IsCleanAnswer one.answer) items all),
    )
