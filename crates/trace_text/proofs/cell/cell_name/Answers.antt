use Rattle.std.proofs.Common.{arith, sym}
use Rattle.trace_text.proofs.CellNames.{found_first_le, cell_found}
use Rattle.trace_text.proofs.cell.cell_name.Goals as goal

pub overflow_sub-location : goal.overflow_sub-location
overflow_sub-location g c = found_first_le c.args.location c.args.mems.now c.in-Some.mem.now (sym c.in-Some.ensures)

pub unreachable-requires : goal.unreachable-requires
unreachable-requires g c = cell_found c.args.location 0 c.args.mems.now c.requires.numbered (omega arith) (omega (arith, c.requires.within)) (sym c.in-None.ensures)
