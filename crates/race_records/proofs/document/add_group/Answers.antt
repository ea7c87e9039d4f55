use Rattle.std.proofs.Common.{rules, arith, ◌≡◌, ◌++◌, take, map, sym, ap₂, ◌∙◌, append-nil}
use Rattle.std.proofs.lemmas.Grind.{common_steps}
use Rattle.serde_json.specs.View.{view}
use Rattle.race_explanations.specs.Scenes.{setting_of}
use Rattle.race_explanations.proofs.Gathering.{listed_behind}
use Rattle.race_records.specs.Races.{told_at, places_told}
use Rattle.race_records.proofs.Recording.{case_here, case_past}
use Rattle.race_records.proofs.document.add_group.Goals.{in-Some+in_ok-case_value+in_ok-push, in_default}
use Rattle.race_records.proofs.document.add_group.Goals as goal

pub loop-place-init : goal.loop-place-init
loop-place-init c = sym (append-nil (map view c.args.values.now.items))

pub loop-place-preserved : goal.loop-place-preserved
loop-place-preserved c =
    let setting = setting_of c.args.scene.now in
    let cases = c.args.cases.now in
    let sure = c.in_ok-is_sure.is_sure in
    listed_behind (told_at setting cases c.args.number sure) c.as_slice-places.result.now c.loop-place.place-index 0 (map view c.args.values.now.items) _ _
    c.loop-place-test.true c.loop-place.invariant
    (elim c.match-get.branch [
      | in-Some+in_ok-case_value+in_ok-push w ↦ rw w.values-is (case_here setting cases c.args.number sure _ _ _ c.loop-place.values.items _ (search rules)
          w.in-Some.ensures.lookup.1 w.in_ok-case_value.ensures w.in_ok-push.ensures.items)
      | in_default w ↦ rw w.values-is (case_past setting cases c.args.number sure _ c.loop-place.values.items w.in_default.ensures.lookup.3)
    ])

pub returns : goal.returns
returns c =
    let all : take c.loop-place.place-index c.as_slice-places.result.now ≡ c.as_slice-places.result.now =
    first_of (search rules, grind (arith, common_steps)) in
    c.loop-place.invariant ∙
    ap₂ (λ sure places. map view c.args.values.now.items ++ places_told (setting_of c.args.scene.now) c.args.cases.now c.args.number sure places)
    c.in_ok-is_sure.ensures.value (all ∙ c.as_slice-places.ensures.value)
