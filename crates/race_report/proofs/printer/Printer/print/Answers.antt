use Rattle.std.proofs.Common.{◌≡◌, ◌∷◌, ◌++◌, [], List, false, map, ap, ◌∙◌, rules}
use Rattle.serde_json.specs.Data.{array}
use Rattle.serde_json.specs.View.{items_of}
use Rattle.serde_json.specs.Written.{compact_text}
use Rattle.race_report.specs.declared.refusal.Refusal.{Refusal}
use Rattle.race_report.specs.RefusalValues.{refusal_in}
use Rattle.race_report.proofs.ItemTexts.{inner_text, array_text, printed}
use Rattle.race_report.proofs.printer.Printer.print.Goals as goal

pub push_items-requires : goal.push_items-requires
push_items-requires c =
    let refusals = c.args.self.now.next.items in (
      inner_text false (map refusal_in refusals),
      c.as_slice-2.ensures.value ∙ c.in_ok-told.ensures ∙
          ap (λ (told : List Refusal). compact_text (array (items_of (map refusal_in told)))) c.as_slice.ensures.value ∙
          array_text (map refusal_in refusals),
    )

pub returns-clause-text : goal.returns-clause-text
returns-clause-text c rest =
    let refusals = c.args.self.now.next.items in
    let inner = inner_text false (map refusal_in refusals) in
    let told : c.as_slice-2.result.now ≡ 91 ∷ (inner ++ 93 ∷ []) =
    c.as_slice-2.ensures.value ∙ c.in_ok-told.ensures ∙
    ap (λ (one : List Refusal). compact_text (array (items_of (map refusal_in one)))) c.as_slice.ensures.value ∙
    array_text (map refusal_in refusals) in
    let some : refusals ≡ [] → ⊥ = search rules in
    printed c.args.self.now.text.items c.push_items.new.text.items c.args.self.now.later refusals c.clear.new.self.items rest
    some c.clear.ensures.items (c.in_ok-push_items.ensures inner told)
