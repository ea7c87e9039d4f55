use Rattle.std.proofs.Common.{sym, ap, ◌∙◌}
use Rattle.race_gate.specs.Accesses.{act_of_sort}
use Rattle.race_gate.proofs.Tracked.{with-same-cells}
use Rattle.race_gate.proofs.tracks.Tracks.answer.Goals as goal

pub access_cell-requires-clause-is : goal.access_cell-requires-clause-is
access_cell-requires-clause-is g c = sym c.sort_of.ensures ∙ ap act_of_sort c.in-Cell.is

pub access_reducer-requires-clause-is : goal.access_reducer-requires-clause-is
access_reducer-requires-clause-is g c = sym c.sort_of.ensures ∙ ap act_of_sort c.in-Reducer.is

pub control-requires-clause-is : goal.control-requires-clause-is
control-requires-clause-is g c = sym c.sort_of.ensures ∙ ap act_of_sort c.in-Control.is

pub returns-in-Reducer : goal.returns-in-Reducer
returns-in-Reducer g c state ready = with-same-cells _ _ _ c.access_reducer.result (c.access_reducer.ensures state _ ready)

pub returns-in-Control : goal.returns-in-Control
returns-in-Control g c state ready = with-same-cells _ _ _ c.control.result (c.control.ensures state _ ready)
