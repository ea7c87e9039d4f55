use Rattle.std.proofs.Common.{◌≡◌, true, sym, ap, get_or, ◌∙◌}
use Rattle.std.specs.Prelude.{Some, slice_get, option_copied}
use Rattle.std.specs.Str.{bytes_eq}
use Rattle.text_words.specs.Slots.{name_number}
use Rattle.text_words.proofs.Numbers.{copied_get}
use Rattle.text_words.proofs.IndexLemmas.{meaning_found}
use Rattle.text_words.proofs.names.Meanings.find.Goals as goal

pub returns-in-Some-Some : goal.returns-in-Some-Some
returns-in-Some-Some g c =
    let inside = c.args.self.now in
    let key = c.in-Some-Some.key.now in
    let number = get_or inside.hints c.hint_of.result 0 in
    let same : bytes_eq key c.args.name.now ≡ true = cc in
    let numbered : name_number inside.index key ≡ Some number = rw c.in-Some-Some.is-0 at c.get.ensures.number in
    let lent : slice_get c.deref.result.now number ≡ Some c.in-Some-Some.found.now =
    sym (copied_get c.deref.result.now number c.get-2.result c.get-2.ensures.lookup) ∙ ap option_copied c.in-Some-Some.is-1 in
    meaning_found inside.index inside.meanings.items c.deref.result.now key c.args.name.now number c.in-Some-Some.found.now
    c.deref.ensures.value same numbered lent
