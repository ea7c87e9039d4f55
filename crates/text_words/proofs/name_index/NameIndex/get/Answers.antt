use Rattle.std.proofs.Common.{◌≡◌, map, ap, ◌∙◌}
use Rattle.std.specs.Prelude.{option_map, slice_get}
use Rattle.text_words.proofs.SlotLemmas.{now_of, item_got, numbered_item}
use Rattle.text_words.proofs.name_index.NameIndex.get.Goals as goal

pub returns-clause-number : goal.returns-clause-number
returns-clause-number g c =
    let items = c.self.inside.names.items in
    let same : option_map now_of c.copied.result ≡ slice_get (map now_of items) c.args.number =
    ap (option_map now_of) c.copied.ensures
    ∙ (item_got c.deref.result.now c.args.number c.get.result c.get.ensures.lookup
    ∙ ap (λ names. slice_get (map now_of names) c.args.number) c.deref.ensures.value) in
    rw (← c.self.view_is) (numbered_item (map now_of items) c.self.invariant.numbered c.args.number c.copied.result same)
