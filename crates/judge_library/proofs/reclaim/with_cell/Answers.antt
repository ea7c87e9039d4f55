-- What `Marks::mark` says, together.
use Rattle.std.proofs.Common.{subst}
use Rattle.serial_judge.specs.declared.cell.Cell.{Cell}
use Rattle.judge_library.specs.Marking.{IsMarkedBy}
use Rattle.judge_library.proofs.reclaim.with_cell.Goals as goal

pub returns : goal.returns
returns c =
    subst (λ (cell : Cell). IsMarkedBy c.args.marks c.mark.new.self cell) c.cell.ensures
    (record { marked = c.mark.ensures.marked; stays = c.mark.ensures.stays; alike = c.mark.ensures.alike })
