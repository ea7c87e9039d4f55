use Rattle.std.proofs.Common.{sym}
use Rattle.packed_history.proofs.Kept.{placed}
use Rattle.packed_history.proofs.packed.Packed.place.Goals as goal

pub returns : goal.returns
returns c = sym (placed c.args.self c.requires)
