use Rattle.std.proofs.Common.{refl, ◌∙◌, arith}
use Rattle.race_pairs.proofs.Numbers.{no_entry}
use Rattle.race_pairs.proofs.StrandCount.{all_counted, none_counted, other_counted, spawn_counted}
use Rattle.race_pairs.proofs.standing.count_strands.Goals as goal

pub back-init : goal.back-init
back-init c = (all_counted c.args.entries.now _ refl, omega arith)

pub returns-in-Some : goal.returns-in-Some
returns-in-Some c =
    c.count_behind.ensures ∙
    spawn_counted c.args.entries.now c.back.at no_entry c.back-test.true c.back.invariant.1 c.requires c.spawned_by.result c.spawned_by.ensures c.in-Some.spawned
    c.in-Some.is c.back.invariant.0

pub back-preserved : goal.back-preserved
back-preserved c = (
  other_counted c.args.entries.now c.back.at no_entry c.back-test.true c.back.invariant.1 c.spawned_by.result c.spawned_by.ensures c.in_default.not-Some
      c.back.invariant.0,
  omega (arith, c.back.invariant.1),
)

pub returns : goal.returns
returns c = none_counted c.args.entries.now c.back.at c.back-test.false c.back.invariant.0
