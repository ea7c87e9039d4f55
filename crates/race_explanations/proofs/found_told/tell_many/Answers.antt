use Rattle.std.proofs.Common.{rules, ◌≡◌, ◌∙◌, ap, min, length, take, flat_map}
use Rattle.race_explanations.specs.FoundGroups.{found_member, found_behind}
use Rattle.text_buffers.proofs.Builders.{these, three_adds}
use Rattle.race_explanations.proofs.Telling.{first_of_all}
use Rattle.race_explanations.proofs.found_told.tell_many.Goals as goal

pub returns : goal.returns
returns c =
    let front : c.split_at.result.0.now ≡ take (min (length c.args.places.now) c.args.most) c.args.places.now = search rules in
    three_adds _ _ _ _ _ _ _ c.tell_head.ensures
    (these _ _ _ (flat_map (found_member c.args.findings.now) (take c.args.most c.args.places.now)) c.tell_members.ensures
    (ap (flat_map (found_member c.args.findings.now)) (front ∙ first_of_all c.args.places.now c.args.most)))
    (these _ _ _ (found_behind c.args.most (length c.args.places.now)) c.push_more_pairs.ensures (search rules))
