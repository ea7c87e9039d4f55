use Rattle.std.proofs.Common.{rules, ◌<◌, ◌++◌, List, [], ◌∷◌, length, take, sym, ap, ◌∙◌}
use Rattle.std.proofs.lemmas.List.{take_more}
use Rattle.std.proofs.lemmas.Option.{get_or_from_slice_get}
use Rattle.model_histories.specs.declared.answer.Entry.{Entry}
use Rattle.packed_history.proofs.entries.Entries.to_vec.Goals as goal

pub loop-at-preserved : goal.loop-at-preserved
loop-at-preserved g c =
    let items = c.args.self.now.items in
    let low : c.loop-at.at < length items = search rules in
    let here = get_or_from_slice_get items c.loop-at.at c.get.result c.get.result c.get.ensures in
    c.in_ok-push.ensures.items ∙ ap (λ (l : List Entry). l ++ c.get.result ∷ []) c.loop-at.invariant
    ∙ ap (λ (e : Entry). take c.loop-at.at items ++ e ∷ []) (sym here) ∙ sym (take_more items c.loop-at.at c.get.result low)
