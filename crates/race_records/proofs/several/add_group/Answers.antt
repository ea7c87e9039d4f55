use Rattle.std.proofs.Common.{rules, arith, ◌≡◌, ◌++◌, take, map, sym, ap₂, ◌∙◌, append-nil}
use Rattle.std.proofs.lemmas.Grind.{common_steps}
use Rattle.serde_json.specs.View.{view}
use Rattle.race_explanations.proofs.Gathering.{listed_behind}
use Rattle.race_records.specs.RaceViews.{race_parts}
use Rattle.race_records.specs.Several.{found_at, found_places}
use Rattle.race_records.proofs.Together.{found_here, found_past, race_past}
use Rattle.race_records.proofs.several.add_group.Goals.{in-Some+in-Some-get+in_ok-race_value+in_ok-push, in_default, in_default-via-in-None-1, in_default-via-in-Some+in-None-1}
use Rattle.race_records.proofs.several.add_group.Goals as goal

pub loop-place-init : goal.loop-place-init
loop-place-init c = sym (append-nil (map view c.args.values.now.items))

pub loop-place-preserved : goal.loop-place-preserved
loop-place-preserved c =
    let findings = c.args.findings.now in
    let races = c.args.races.now in
    let sure = c.are_sure-is_sure.result in
    listed_behind (found_at findings (map race_parts races) c.args.group sure) c.args.places.now c.loop-place.place-index 0
    (map view c.args.values.now.items) _ _ c.loop-place-test.true c.loop-place.invariant
    (elim c.match-get.branch [
      | in-Some+in-Some-get+in_ok-race_value+in_ok-push w ↦ rw w.values-is (found_here findings races c.args.group sure _ _ _ _ c.loop-place.values.items _
          (search rules) w.in-Some.ensures.lookup.1 (search rules) w.in-Some-get.ensures.lookup.1 w.in_ok-race_value.ensures w.in_ok-push.ensures.items)
      | in_default w ↦ rw w.values-is
          (elim w.in_default.branch [
            | in_default-via-in-None-1 w' ↦ found_past findings races c.args.group sure _ c.loop-place.values.items (search rules)
            | in_default-via-in-Some+in-None-1 w' ↦ race_past findings races c.args.group sure _ c.loop-place.values.items (search rules)
          ])
    ])

pub returns : goal.returns
returns c =
    let all : take c.loop-place.place-index c.args.places.now ≡ c.args.places.now = first_of (search rules, grind (arith, common_steps)) in
    c.loop-place.invariant ∙
    ap₂ (λ sure places. map view c.args.values.now.items ++ found_places c.args.findings.now (map race_parts c.args.races.now) c.args.group sure places)
    c.are_sure-is_sure.ensures.value all
