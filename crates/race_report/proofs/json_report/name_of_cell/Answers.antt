use Rattle.std.proofs.Common.{arith, sym, ap, ◌∙◌}
use Rattle.std.specs.Option.{option_copied}
use Rattle.trace_text.proofs.CellNames.{found_first_le, cell_found}
use Rattle.race_report.proofs.json_report.name_of_cell.Goals as goal

pub overflow_sub-result : goal.overflow_sub-result
overflow_sub-result c =
    found_first_le c.args.location c.args.mems.now c.in-Some.mem.now (sym c.memory_at.ensures ∙ ap option_copied c.in-Some.is)

pub unreachable-requires : goal.unreachable-requires
unreachable-requires c =
    cell_found c.args.location 0 c.args.mems.now c.requires.numbered (omega arith) (omega (arith, c.requires.within))
    (sym c.memory_at.ensures ∙ ap option_copied c.in-None.is)
