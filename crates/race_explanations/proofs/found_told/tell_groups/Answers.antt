use Rattle.std.proofs.Common.{map, flat_map, ap, ◌∙◌}
use Rattle.race_explanations.specs.FoundGroups.{found_group}
use Rattle.text_buffers.proofs.Builders.{these}
use Rattle.race_explanations.proofs.FoundGrouping.{items_of, each_of_map}
use Rattle.race_explanations.proofs.found_told.tell_groups.Goals as goal

pub returns-in-Ok : goal.returns-in-Ok
returns-in-Ok c =
    let tells = found_group c.args.most c.args.findings.now in
    these _ _ _ _ c.tell_each.ensures
    (each_of_map tells c.as_slice.result.now ∙ ap (flat_map tells) (ap (map items_of) c.as_slice.ensures.value ∙ c.in-Ok.ensures))
