use Rattle.std.proofs.Common.{rules}
use Rattle.locked_replay.proofs.seat.Seat.asked.Goals as goal

pub returns : goal.returns
returns g c = search rules
