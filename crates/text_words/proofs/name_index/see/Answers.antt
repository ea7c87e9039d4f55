use Rattle.std.proofs.Common.{◌≡◌, true, false, map, sym, ap, ◌∙◌}
use Rattle.std.specs.Prelude.{slice_get, slice_index, option_map, option_copied, None, ◌-◌}
use Rattle.std.specs.Str.{bytes_eq}
use Rattle.text_words.proofs.SlotLemmas.{now_of, item_named, item_got, seen_same, seen_other, seen_none}
use Rattle.text_words.proofs.name_index.see.Goals as goal

pub returns-in-Some : goal.returns-in-Some
returns-in-Some c =
    let other = c.in-Some.other.now in
    let same : bytes_eq other.now c.args.name.now ≡ true = cc in
    let at = c.in-Some.ensures.lookup.3 in
    seen_same (map now_of c.args.names.now) c.args.slots.now c.args.slot c.if-next-eq0.false c.args.name.now other.now (item_named c.args.names.now _ other at.0 at.1) same

pub returns-in_default : goal.returns-in_default
returns-in_default c =
    let other = c.in-Some.other.now in
    let apart : bytes_eq other.now c.args.name.now ≡ false = cc in
    let at = c.in-Some.ensures.lookup.3 in
    seen_other (map now_of c.args.names.now) c.args.slots.now c.args.slot c.if-next-eq0.false c.args.name.now other.now (item_named c.args.names.now _ other at.0 at.1) apart

pub returns-in_default-2 : goal.returns-in_default-2
returns-in_default-2 c =
    let none : slice_get (map now_of c.args.names.now) (slice_index c.args.slots.now c.args.slot - 1) ≡ None =
    sym (item_got c.args.names.now _ c.get.result c.get.ensures.lookup) ∙ ap (λ o. option_map now_of (option_copied o)) c.in_default.is in
    seen_none (map now_of c.args.names.now) c.args.slots.now c.args.slot c.if-next-eq0.false c.args.name.now none
