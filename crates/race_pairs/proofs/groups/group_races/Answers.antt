use Rattle.std.proofs.Common.{arith}
use Rattle.race_pairs.proofs.Grouped.{found_first, groups_at_first, of_spawn, up_one, groups_at_last}
use Rattle.race_pairs.proofs.groups.group_races.Goals as goal

pub loop-place-init : goal.loop-place-init
loop-place-init c = record {
  found = found_first c.new-known.result c.new-groups.result.items c.new-known.ensures.empty c.new-groups.ensures.items;
  grouped = groups_at_first c.args.races.now c.new-groups.result.items c.new-groups.ensures.items;
}

pub loop-place-preserved : goal.loop-place-preserved
loop-place-preserved c =
    let more = c.in_ok-add_race.ensures c.args.races.now c.loop-place.invariant.found c.loop-place.invariant.grouped
    (of_spawn c.args.races.now c.loop-place.place c.index-races-place.result c.loop-place-test.true c.index-races-place.is) in
    record { found = more.0; grouped = up_one c.args.races.now c.loop-place.place _ more.1 }

pub returns : goal.returns
returns c = groups_at_last c.args.races.now c.loop-place.place c.loop-place.groups.items c.loop-place.invariant.grouped (omega (arith, c.loop-place-test.false))
