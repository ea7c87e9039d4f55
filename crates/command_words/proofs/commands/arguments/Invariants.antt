use Rattle.std.proofs.Common.{map, take}
use Rattle.command_words.specs.Commands.{IsArgument}
use Rattle.command_words.specs.Usages.{AreEach, rule_of}
use Rattle.command_words.proofs.commands.arguments.Given as goal

abbrev pub invariant-loop-word : goal.invariant-loop-word
invariant-loop-word l = AreEach IsArgument (map rule_of (take l.word-index l.words)) l.arguments.items
