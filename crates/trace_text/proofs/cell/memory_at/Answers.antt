use Rattle.std.proofs.Common.{sym}
use Rattle.trace_text.proofs.CellSearch.{none_has, last_found, last_misses}
use Rattle.trace_text.proofs.cell.memory_at.Goals as goal

pub returns-then-begun-eq0 : goal.returns-then-begun-eq0
returns-then-begun-eq0 c = sym (none_has c.args.location c.args.mems.now c.requires.numbered (rw c.if-begun-eq0.true at c.count_begun-begun.ensures.begun))

pub returns-then-location-mem : goal.returns-then-location-mem
returns-then-location-mem c =
    sym (last_found c.args.location c.args.mems.now c.count_begun-begun.result c.index-mems-begun.result c.requires.numbered c.count_begun-begun.ensures.bound
    c.if-begun-eq0.false c.count_begun-begun.ensures.begun c.index-mems-begun.is c.if-location-mem.true)

pub returns-else-location-mem : goal.returns-else-location-mem
returns-else-location-mem c =
    sym (last_misses c.args.location c.args.mems.now c.count_begun-begun.result c.index-mems-begun.result c.requires.numbered c.count_begun-begun.ensures.bound
    c.if-begun-eq0.false c.count_begun-begun.ensures.begun c.index-mems-begun.is c.if-location-mem.false)
