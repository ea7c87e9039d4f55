use Rattle.std.proofs.Common.{◌≡◌, rules, arith, map, ap, length}
use Rattle.std.proofs.lemmas.Grind.{common_steps}
use Rattle.race_explanations.proofs.FoundGrouping.{items_of}
use Rattle.race_explanations.proofs.Numbering.{numbers_none, groups_next, groups_end}
use Rattle.race_explanations.proofs.found_groups.group_findings.Goals as goal

pub loop-place-init : goal.loop-place-init
loop-place-init c = record {
  grouped = ap (map items_of) c.new-groups.ensures.items;
  numbered = numbers_none c.args.findings.now c.new-groups.result.items c.new-numbers.result c.new-groups.ensures.items c.new-numbers.ensures.empty;
}

pub loop-place-preserved : goal.loop-place-preserved
loop-place-preserved c = record {
  grouped = groups_next c.args.findings.now c.loop-place.place _ _ c.loop-place.invariant.grouped c.in_ok-add_place.ensures.groups;
  numbered = c.in_ok-add_place.ensures.numbers;
}

pub returns : goal.returns
returns c =
    let end : c.loop-place.place ≡ length c.args.findings.now = first_of (search rules, grind (arith, common_steps)) in
    groups_end c.args.findings.now c.loop-place.place (map items_of c.loop-place.groups.items) c.loop-place.invariant.grouped end
