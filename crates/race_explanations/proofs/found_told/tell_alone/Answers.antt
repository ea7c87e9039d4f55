use Rattle.std.proofs.Common.{◌≡◌, ◌≤◌, [], length, sym, ap}
use Rattle.std.proofs.lemmas.Option.{slice_get_past}
use Rattle.race_explanations.specs.FoundGroups.{are_sure, alone_words, found_alone}
use Rattle.text_buffers.proofs.Builders.{these, none_adds}
use Rattle.race_explanations.proofs.found_told.tell_alone.Goals as goal

pub returns-in-None : goal.returns-in-None
returns-in-None c =
    let beyond : length c.args.findings.now ≤ c.args.head = rw c.in-None.is at c.get.ensures.lookup.3 in
    let none : found_alone c.args.findings.now c.args.head c.args.places.now ≡ [] =
    ap (λ finding. alone_words finding (are_sure c.args.findings.now c.args.places.now)) (slice_get_past c.args.findings.now c.args.head beyond) in
    these _ _ _ _ (none_adds c.args.text.now) (sym none)
