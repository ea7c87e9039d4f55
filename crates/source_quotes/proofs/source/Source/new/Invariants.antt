use Rattle.std.proofs.Common.{◌≡◌, ◌++◌, ℕ, List, length, map}
use denote.Ref.{Bor}
use Rattle.text_words.specs.Text.{lines}
use Rattle.source_quotes.proofs.source.Source.new.Given as goal

-- the lines so far and those of the rest are all lines
abbrev pub invariant-loop-rest : goal.invariant-loop-rest
invariant-loop-rest l = map (λ (line : Bor (List ℕ)). line.now) l.lines.items ++ lines l.rest ≡ lines l.text

abbrev pub decreases-loop-rest : goal.decreases-loop-rest
decreases-loop-rest l = length l.rest
