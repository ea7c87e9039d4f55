use Rattle.judge_command.proofs.by_kind.tell.Goals as goal

pub returns-in-Illegal : goal.returns-in-Illegal
returns-in-Illegal g c wrote replies tells = rw c.in-Illegal.is (c.note_fault.ensures wrote replies tells)
