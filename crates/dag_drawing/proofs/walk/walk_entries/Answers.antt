use Rattle.std.proofs.Common.{take_all}
use Rattle.dag_drawing.proofs.Places.{walk_start}
use Rattle.dag_drawing.proofs.walk.walk_entries.Goals as goal

pub loop-before-init : goal.loop-before-init
loop-before-init c = walk_start _ _ _ c.in_ok-walk.ensures.begun c.in_ok-walk.ensures.blocks c.in_ok-walk.ensures.edges

pub loop-before-preserved : goal.loop-before-preserved
loop-before-preserved c = c.in_ok-follow.ensures

pub returns : goal.returns
returns c = rw (take_all c.loop-before.before c.args.entries.now c.loop-before-test.false) at c.loop-before.invariant
