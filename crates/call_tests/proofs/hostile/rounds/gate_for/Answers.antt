use Rattle.std.proofs.lemmas.List.{length-map}
use Rattle.call_tests.proofs.hostile.rounds.gate_for.Goals as goal

pub new-requires-clause-cells : goal.new-requires-clause-cells
new-requires-clause-cells g c = rw c.in_ok-shape.ensures.cells c.args.program.now.few_cells

pub new-requires-clause-reducers : goal.new-requires-clause-reducers
new-requires-clause-reducers g c = rw (c.in_ok-shape.ensures.monoids, length-map) c.args.program.now.few_reducers
