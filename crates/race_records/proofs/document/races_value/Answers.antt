use Rattle.std.proofs.Common.{List, map, ap₂, subst, ◌∙◌}
use Rattle.std.proofs.lemmas.Result.{IfOk-weaker}
use Rattle.serde_json.specs.View.{view}
use Rattle.model_histories.specs.declared.answer.Entry.{Entry}
use Rattle.race_pairs.specs.declared.race.Race.{Race}
use Rattle.race_pairs.specs.Groups.{AreGroups}
use Rattle.race_pairs.specs.Digests.{IsDigest}
use Rattle.race_explanations.specs.Scenes.{setting_of}
use Rattle.race_records.specs.Races.{groups_told, TellsRaces}
use Rattle.race_records.proofs.document.races_value.Goals as goal

pub returns : goal.returns
returns c =
    let digest = c.args.scene.now.digest.now in
    let setting = setting_of c.args.scene.now in
    IfOk-weaker c.group_values.result _
    (λ values. (entries : List Entry) → IsDigest entries digest → TellsRaces setting entries digest.races.list.items (map view values.items))
    (λ values is entries d. record {
      cases = c.in_ok-cases.cases.items;
      are_cases = c.in_ok-cases.ensures entries d;
      groups = c.in_ok-groups.groups.items;
      are_groups = subst (λ (some : List Race). AreGroups some c.in_ok-groups.groups.items) c.races.ensures c.in_ok-groups.ensures;
      values_are = is ∙ ap₂ (λ some these. groups_told setting some 1 these) c.as_slice.ensures.value c.as_slice-2.ensures.value;
    })
    c.group_values.ensures
