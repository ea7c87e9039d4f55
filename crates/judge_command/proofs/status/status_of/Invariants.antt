use Rattle.std.proofs.Common.{take}
use Rattle.judge_command.specs.StatusFlags.{HasMet}
use Rattle.judge_command.proofs.status.status_of.Given as goal

abbrev pub invariant-loop-reply : goal.invariant-loop-reply
invariant-loop-reply l = HasMet (take l.reply-index l.replies) l.met
