use Rattle.command_words.specs.Commands.{IsPart}
use Rattle.command_words.specs.Usages.{shape_of}
use Rattle.command_words.proofs.Building.{made_all, made_more}
use Rattle.command_words.proofs.commands.parts.Goals as goal

pub loop-usage-preserved : goal.loop-usage-preserved
loop-usage-preserved c =
    rw c.in_ok-push.ensures.items
    (made_more shape_of IsPart c.args.usages.now c.loop-usage.usage-index c.loop-usage.parts.items _ _ c.loop-usage-test.true c.loop-usage.invariant
    c.in_ok-command.ensures)

pub returns : goal.returns
returns c = made_all shape_of IsPart c.args.usages.now c.loop-usage.usage-index c.loop-usage.parts.items c.loop-usage-test.false c.loop-usage.invariant
