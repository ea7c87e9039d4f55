use Rattle.std.proofs.Common.{rules}
use Rattle.program_lines.proofs.LocationWords.{number_operand}
use Rattle.program_lines.proofs.place.operand.Goals as goal

pub returns-in-None : goal.returns-in-None
returns-in-None g c = search rules

pub returns-in-Ok : goal.returns-in-Ok
returns-in-Ok g c = c.in-Ok.ensures.reads c.args.scope.now.known

pub returns-in-Err : goal.returns-in-Err
returns-in-Err g c =
    number_operand c.args.scope.now c.args.word.now c.in-Err.why (λ n. let e = c.if-is_name.ensures.1 n in cc) (c.in-Err.ensures.reads c.args.scope.now.known)
