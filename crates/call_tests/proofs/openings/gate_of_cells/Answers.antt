use Rattle.std.proofs.lemmas.List.{length-map}
use Rattle.call_tests.proofs.openings.gate_of_cells.Goals as goal

pub new-requires-clause-reducers : goal.new-requires-clause-reducers
new-requires-clause-reducers c = rw (c.in_ok-shape.ensures.monoids, length-map) c.args.program.now.few_reducers
