use Rattle.std.proofs.Common.{◌≡◌, map, ap, ◌∙◌}
use Rattle.std.proofs.lemmas.Result.{IfOk-weaker}
use Rattle.serde_json.specs.View.{view}
use Rattle.race_records.specs.RaceViews.{race_parts}
use Rattle.race_records.specs.Several.{found_groups, races_told}
use Rattle.race_records.proofs.several.races_value.Goals as goal

pub returns : goal.returns
returns c =
    let findings = c.args.findings.now in
    let races = map race_parts c.args.races.now in
    IfOk-weaker c.group_values.result _ (λ values. map view values.items ≡ races_told findings races)
    (λ values is. is ∙ ap (found_groups findings races 1) (ap (map (λ group. group.items)) c.as_slice.ensures.value ∙ c.in_ok-groups.ensures)) c.group_values.ensures
