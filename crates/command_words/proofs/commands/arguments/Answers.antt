use Rattle.command_words.specs.Commands.{IsArgument}
use Rattle.command_words.specs.Usages.{rule_of}
use Rattle.command_words.proofs.Building.{made_all, made_more}
use Rattle.command_words.proofs.commands.arguments.Goals as goal

pub loop-word-preserved : goal.loop-word-preserved
loop-word-preserved c =
    rw c.in_ok-push.ensures.items
    (made_more rule_of IsArgument c.args.words.now c.loop-word.word-index c.loop-word.arguments.items _ _ c.loop-word-test.true c.loop-word.invariant
    c.argument.ensures)

pub returns : goal.returns
returns c = made_all rule_of IsArgument c.args.words.now c.loop-word.word-index c.loop-word.arguments.items c.loop-word-test.false c.loop-word.invariant
