use Rattle.std.proofs.Common.{replicate}
use Rattle.text_buffers.specs.Builders.{Adds}
use Rattle.source_quotes.proofs.look.push_repeated.Given as goal

-- so many were added
abbrev pub invariant-loop : goal.invariant-loop
invariant-loop l = Adds l.initial.text (replicate l.counter l.byte) l.text
