use Rattle.std.proofs.Common.{subst, sym}
use Rattle.trace_text.specs.Traces.{contents}
use Rattle.model_histories.specs.Shapes.{Shape, most_entries}
use Rattle.model_histories.specs.States.{opening}
use Rattle.race_gate.specs.Cores.{CoreState, IsCoreOf}
use Rattle.command_streams.specs.Streams.{declared_shape}
use Rattle.tool_commands.proofs.clean.core_for.Goals as goal

pub returns : goal.returns
returns c =
    subst (λ (core : CoreState). IsCoreOf core (opening (declared_shape (contents c.args.trace.now)) most_entries)) (sym c.make_room.ensures)
    (subst (λ (shape : Shape). IsCoreOf c.in_ok-core.core (opening shape most_entries))
    (λ j. record { cells = c.in_ok-shape.ensures.cells j; monoids = c.in_ok-shape.ensures.monoids j }) c.in_ok-core.ensures)
