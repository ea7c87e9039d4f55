use Rattle.race_pairs.proofs.Jumping.{up_self, jumps_from}
use Rattle.race_pairs.proofs.Raised.{no_jump}
use Rattle.std.proofs.Common.{arith}
use Rattle.race_pairs.proofs.jumps.jump_below.Goals as goal

pub bounds-jumps-spawner : goal.bounds-jumps-spawner
bounds-jumps-spawner c = c.requires.1.known

pub bounds-jumps-near : goal.bounds-jumps-near
bounds-jumps-near c = (jumps_from c.args.jumps.now c.requires.0 c.requires.1.raised c.args.spawner no_jump c.requires.1.known).near_known

pub bounds-jumps-far : goal.bounds-jumps-far
bounds-jumps-far c = (jumps_from c.args.jumps.now c.requires.0 c.requires.1.raised c.args.spawner no_jump c.requires.1.known).far_known

pub overflow_sub-first : goal.overflow_sub-first
overflow_sub-first c = (jumps_from c.args.jumps.now c.requires.0 c.requires.1.raised c.args.spawner no_jump c.requires.1.known).near_higher

pub overflow_sub-second : goal.overflow_sub-second
overflow_sub-second c = (jumps_from c.args.jumps.now c.requires.0 c.requires.1.raised c.args.spawner no_jump c.requires.1.known).far_higher

pub returns-then-first-second : goal.returns-then-first-second
returns-then-first-second c = λ entries can. (jumps_from c.args.jumps.now entries can.raised c.args.spawner no_jump can.known).far_up

pub returns-else-first-second : goal.returns-else-first-second
returns-else-first-second c = λ entries can. up_self entries c.args.spawner (omega (arith, can.known, can.raised.len))
