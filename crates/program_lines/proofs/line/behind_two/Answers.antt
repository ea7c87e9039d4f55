use Rattle.program_lines.proofs.line.behind_two.Goals as goal

pub returns-in-Reducer : goal.returns-in-Reducer
returns-in-Reducer g c = rw c.in-Reducer.is (c.reduction.ensures c.args.at)

pub returns-in-Func : goal.returns-in-Func
returns-in-Func g c = rw c.in-Func.is (c.head.ensures c.args.at)

pub returns-in-Access : goal.returns-in-Access
returns-in-Access g c = rw c.in-Access.is c.access.ensures

pub returns-in-Spawn : goal.returns-in-Spawn
returns-in-Spawn g c = rw c.in-Spawn.is c.call.ensures

pub returns-in-Call : goal.returns-in-Call
returns-in-Call g c = rw c.in-Call.is c.call-in-Call.ensures

pub access-requires : goal.access-requires
access-requires g c = rw c.in-Access.is at c.requires.known
