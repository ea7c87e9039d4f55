use Rattle.std.proofs.Common.{rules, arith, refl}
use Rattle.tool_commands.proofs.TracedCauses.{traced_tells}
use Rattle.tool_commands.proofs.traced_run.run_and_trace.Goals as goal

pub returns-clause-ok : goal.returns-clause-ok
returns-clause-ok g c = (
  _,
  traced_tells c.args.program.now c.args.limit _ _ _ _ _ c.in_ok-whole.ensures.whole.run c.in_ok-whole.ensures.whole.within (omega (arith, c.in_ok-whole.ensures.whole.within, c.requires.limit)) c.in_ok-whole.ensures.whole.memory
      refl (search rules) (search rules) (search rules),
)
