use Rattle.std.proofs.lemmas.List.{length-map}
use Rattle.call_tests.proofs.openings.gate_for.Goals as goal

pub new-requires-clause-cells : goal.new-requires-clause-cells
new-requires-clause-cells c = rw c.in_ok-shape.ensures.cells c.args.program.now.few_cells

pub new-requires-clause-reducers : goal.new-requires-clause-reducers
new-requires-clause-reducers c = rw (c.in_ok-shape.ensures.monoids, length-map) c.args.program.now.few_reducers
