use Rattle.std.proofs.Common.{refl}
use Rattle.fault_lists.proofs.Lost.{name_follows, nothing_follows}
use Rattle.fault_lists.proofs.doubt.follows.Goals as goal

pub returns-then-is_of_name : goal.returns-then-is_of_name
returns-then-is_of_name c line read =
    name_follows c.args.lost.now c.args.names.now line c.args.why c.is_of_name.result c.are_lost.result c.is_of_name.ensures c.if-is_of_name.true c.are_lost.ensures read

pub returns : goal.returns
returns c line read = nothing_follows _ line c.args.why c.is_of_name.result _ c.is_of_name.ensures c.if-is_of_name.false refl
