use Rattle.std.proofs.Common.{inr, rules}
use Rattle.run_replay.proofs.frame_table.advance_slot.Goals as goal

pub returns-clause-strange : goal.returns-clause-strange
returns-clause-strange g c = λ e. inr (search (rules, c.if-slot-number.false), c.advance_frame.ensures.strange e)
