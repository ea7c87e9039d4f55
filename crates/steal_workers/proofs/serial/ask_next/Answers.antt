use Rattle.steal_workers.proofs.serial.ask_next.Goals as goal

pub returns-clause-target : goal.returns-clause-target
returns-clause-target g c = c.in_ok-next.ensures.target
