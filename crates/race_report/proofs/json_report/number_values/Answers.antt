use Rattle.std.proofs.Common.{◌++◌, ◌∷◌, ◌∙◌, ℕ, List, [], map, take, get_or, ap, sym, rules}
use Rattle.std.proofs.lemmas.List.{take_more, map-append}
use Rattle.serde_json.specs.Data.{Data, number, unsigned}
use Rattle.serde_json.specs.View.{view}
use Rattle.race_report.proofs.json_report.number_values.Goals as goal

pub loop-number-preserved : goal.loop-number-preserved
loop-number-preserved c =
    let numbers = c.args.numbers.now in
    let at = c.loop-number.number-index in
    let held = c.loop-number.values.items in
    let told : ℕ → Data = λ value. number (unsigned value) in
    ap (λ items. map view items) c.in_ok-push.ensures.items ∙ map-append view held (c.from.result ∷ []) ∙
    ap (λ (item : Data). map view held ++ item ∷ []) c.from.ensures ∙
    ap (λ (items : List Data). items ++ told (get_or numbers at 0) ∷ []) c.loop-number.invariant ∙
    sym (ap (λ (values : List ℕ). map told values) (take_more numbers at 0 (search rules)) ∙ map-append told (take at numbers) (get_or numbers at 0 ∷ []))
