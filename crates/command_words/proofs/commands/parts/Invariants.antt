use Rattle.std.proofs.Common.{map, take}
use Rattle.command_words.specs.Commands.{IsPart}
use Rattle.command_words.specs.Usages.{AreEach, shape_of}
use Rattle.command_words.proofs.commands.parts.Given as goal

abbrev pub invariant-loop-usage : goal.invariant-loop-usage
invariant-loop-usage l = AreEach IsPart (map shape_of (take l.usage-index l.usages)) l.parts.items
