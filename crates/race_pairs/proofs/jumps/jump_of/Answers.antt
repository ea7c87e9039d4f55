use Rattle.std.proofs.Common.{arith}
use Rattle.race_pairs.proofs.Raised.{no_jump, deeper_by}
use Rattle.race_pairs.proofs.jumps.jump_of.Goals as goal

pub bounds-jumps-spawner : goal.bounds-jumps-spawner
bounds-jumps-spawner c = c.requires.1.known

pub overflow_add-depth : goal.overflow_add-depth
overflow_add-depth c =
    let it = c.requires.1.raised.each c.args.spawner no_jump c.requires.1.known in
    omega (arith, it.low, c.requires.1.few)

pub jump_below-to-requires : goal.jump_below-to-requires
jump_below-to-requires c = c.requires

pub returns : goal.returns
returns c = λ entries can. (λ d. deeper_by c.args.jumps.now c.args.spawner no_jump d can.known, c.jump_below-to.ensures entries can)
