use Rattle.std.proofs.Common.{rules}
use Rattle.locked_replay.proofs.seat.Seat.parts.Goals as goal

pub returns : goal.returns
returns g c = search rules
