use Rattle.program_lines.proofs.line.behind_keyword.Goals as goal

pub returns-in-Mem : goal.returns-in-Mem
returns-in-Mem g c = rw c.in-Mem.is (c.memory.ensures c.args.at)

pub returns-in-Let : goal.returns-in-Let
returns-in-Let g c = rw c.in-Let.is c.assignment.ensures

pub returns-in-ParallelFor : goal.returns-in-ParallelFor
returns-in-ParallelFor g c = rw c.in-ParallelFor.is c.parallel_for.ensures

pub returns-in-If : goal.returns-in-If
returns-in-If g c = rw c.in-If.is (c.decision.ensures c.args.at)
