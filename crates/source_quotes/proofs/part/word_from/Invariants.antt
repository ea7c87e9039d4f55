use Rattle.std.proofs.Common.{◌≤◌, length}
use Rattle.source_quotes.proofs.part.word_from.Given as goal

abbrev pub invariant-loop : goal.invariant-loop
invariant-loop l = l.from ≤ length l.line
