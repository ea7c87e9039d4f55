use Rattle.std.proofs.Common.{[], map}
use Rattle.std.proofs.lemmas.Result.{IfOk-weaker}
use Rattle.command_words.specs.Commands.{IsCommand, leaf}
use Rattle.command_words.specs.Usages.{rule_of, shape_of}
use Rattle.command_words.proofs.Building.{arguments_added}
use Rattle.command_words.proofs.commands.command.Goals as goal

pub returns : goal.returns
returns c =
    let usage = c.args.usage.now in
    IfOk-weaker c.args-2.result _ (IsCommand (leaf (shape_of usage)))
    (λ made adds. arguments_added usage.name.now [] (map rule_of usage.words.now) c.in_ok-arguments.arguments.items c.begin.result made c.begin.ensures
    c.in_ok-arguments.ensures adds) c.args-2.ensures
