use Rattle.std.proofs.Common.{◌≡◌, ◌+◌, drop}
use Rattle.source_quotes.specs.Lines.{blanks}
use Rattle.source_quotes.proofs.look.blanks_of.Given as goal

-- what was passed so far are blanks
abbrev pub invariant-loop-at : goal.invariant-loop-at
invariant-loop-at l = l.at + blanks (drop l.at l.line) ≡ blanks l.line
