use Rattle.std.proofs.Common.{arith, rules}
use Rattle.std.proofs.lemmas.Grind.{common_steps}
use Rattle.command_streams.proofs.streams.read_piece.Goals as goal

pub returns-in-Err-clause-calls : goal.returns-in-Err-clause-calls
returns-in-Err-clause-calls g c = c.read.ensures.calls

pub returns-then-is_err-clause-calls : goal.returns-then-is_err-clause-calls
returns-then-is_err-clause-calls g c = c.read.ensures.calls

pub returns-clause-calls : goal.returns-clause-calls
returns-clause-calls g c = c.read.ensures.calls

pub returns-clause-taken : goal.returns-clause-taken
returns-clause-taken g c = first_of (search rules, grind (arith, common_steps))

pub returns-clause-fresh : goal.returns-clause-fresh
returns-clause-fresh g c = first_of (search rules, grind (arith, common_steps))

pub returns-clause-failed : goal.returns-clause-failed
returns-clause-failed g c = first_of (search rules, grind (arith, common_steps))

pub returns-in-Err-clause-taken : goal.returns-in-Err-clause-taken
returns-in-Err-clause-taken g c = tt

pub returns-in-Err-clause-fault : goal.returns-in-Err-clause-fault
returns-in-Err-clause-fault g c = tt

pub returns-in-Err-clause-fresh : goal.returns-in-Err-clause-fresh
returns-in-Err-clause-fresh g c = tt

pub returns-then-is_err-clause-taken : goal.returns-then-is_err-clause-taken
returns-then-is_err-clause-taken g c = tt

pub returns-then-is_err-clause-fault : goal.returns-then-is_err-clause-fault
returns-then-is_err-clause-fault g c = tt

pub returns-then-is_err-clause-fresh : goal.returns-then-is_err-clause-fresh
returns-then-is_err-clause-fresh g c = tt

pub returns-then-len-done-clause-taken : goal.returns-then-len-done-clause-taken
returns-then-len-done-clause-taken g c = tt

pub returns-then-len-done-clause-fresh : goal.returns-then-len-done-clause-fresh
returns-then-len-done-clause-fresh g c = tt

pub returns-then-len-done-clause-calls : goal.returns-then-len-done-clause-calls
returns-then-len-done-clause-calls g c = c.read.ensures.calls

pub returns-clause-fault : goal.returns-clause-fault
returns-clause-fault g c = tt
