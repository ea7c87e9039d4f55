use Rattle.std.proofs.Common.{ap, length}
use Rattle.race_explanations.specs.FoundGroups.{found_first, found_rounds, found_sync}
use Rattle.text_buffers.proofs.Builders.{these, four_adds}
use Rattle.race_explanations.proofs.found_told.tell_head.Goals as goal

pub returns : goal.returns
returns c =
    four_adds _ _ _ _ _ _ _ _ _
    (these _ _ _ _ c.tell_first.ensures (ap (found_first c.args.findings.now c.args.head (length c.args.places.now)) c.first_place-first.ensures))
    (these _ _ _ _ c.tell_rounds.ensures (ap (found_rounds c.args.findings.now) c.round_place.ensures))
    (these _ _ _ _ c.tell_sync.ensures (ap (λ first. found_sync c.args.findings.now first c.args.places.now) c.first_place-first.ensures))
    c.push_words.ensures
