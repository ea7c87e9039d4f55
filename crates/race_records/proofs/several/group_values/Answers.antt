use Rattle.std.proofs.Common.{rules, arith, ◌≡◌, ℕ, List, suc, ◌+◌, ◌<◌, ◌++◌, length, map, get_or, ap, ap₂, ◌∙◌}
use Rattle.std.proofs.lemmas.Grind.{common_steps}
use Rattle.serde_json.specs.View.{view}
use Rattle.race_records.specs.RaceViews.{race_parts}
use Rattle.race_records.specs.Several.{found_group}
use Rattle.race_records.proofs.Together.{items_of, found_more}
use Rattle.race_records.proofs.several.group_values.Goals as goal

pub loop-before-preserved : goal.loop-before-preserved
loop-before-preserved c =
    let before = c.loop-before.before in
    let groups = c.args.groups.now in
    let races = map race_parts c.args.races.now in
    let told = map view c.loop-before.values.items in
    let below : before < length groups = first_of (search rules, grind (arith, common_steps)) in
    let same : c.index-groups-before.result ≡ get_or groups before c.index-groups-before.result = first_of (search rules, grind (arith, common_steps)) in
    let number : before + 1 ≡ suc before = omega arith in
    found_more c.args.findings.now races groups before c.index-groups-before.result told _ _ below c.loop-before.invariant
    (c.in_ok-add_group.ensures ∙ ap₂ (λ (n : ℕ) (places : List ℕ). told ++ found_group c.args.findings.now races n places) number
    (c.as_slice-places.ensures.value ∙ ap items_of same))
