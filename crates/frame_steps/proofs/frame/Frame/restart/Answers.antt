use Rattle.std.proofs.Common.{refl}
use Rattle.frame_steps.proofs.Histories.{begun_stands, begun_after}
use Rattle.frame_steps.proofs.frame.Frame.restart.Goals as goal

pub returns-clause-stands : goal.returns-clause-stands
returns-clause-stands g c = begun_stands c.args.program.now.functions _ c.args.function c.requires refl c.clear.ensures.items c.begin-self-inside.ensures.function c.begin-self-inside.ensures.place c.begin-self-inside.ensures.turn

pub returns-clause-begun : goal.returns-clause-begun
returns-clause-begun g c = begun_after c.args.program.now.functions _ c.args.function c.args.argument c.requires refl c.clear.ensures.items c.begin-self-inside.ensures.function c.begin-self-inside.ensures.place c.begin-self-inside.ensures.registers c.begin-self-inside.ensures.join c.begin-self-inside.ensures.turn
