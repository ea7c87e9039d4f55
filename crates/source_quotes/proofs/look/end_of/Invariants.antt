use Rattle.std.proofs.Common.{◌≡◌, ◌≤◌, drop}
use Rattle.source_quotes.specs.Lines.{end_from}
use Rattle.source_quotes.proofs.look.end_of.Given as goal

-- the end so far, and the bytes that are left, give the end of all
abbrev pub invariant-loop-at : goal.invariant-loop-at
invariant-loop-at l = (end_from l.at l.end (drop l.at l.line) ≡ end_from 0 0 l.line) × (l.end ≤ l.at)
