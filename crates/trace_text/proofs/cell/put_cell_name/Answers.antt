use Rattle.std.proofs.Common.{sym}
use Rattle.trace_text.proofs.CellNames.{found_first_le}
use Rattle.trace_text.proofs.cell.put_cell_name.Goals as goal

pub overflow_sub-location : goal.overflow_sub-location
overflow_sub-location g c = found_first_le c.args.location c.args.mems.now c.in-Some.mem.now (sym c.in-Some.ensures)
