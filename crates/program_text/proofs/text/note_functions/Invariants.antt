use Rattle.std.proofs.Common.{◌≡◌, length}
use Rattle.text_words.specs.Text.{lines}
use Rattle.program_text.specs.Functions.{functions_from}
use Rattle.program_text.proofs.text.note_functions.Given as goal

-- What the names so far and the lines that are left make known, the text makes known.
abbrev pub invariant-loop-rest : goal.invariant-loop-rest
invariant-loop-rest g l = functions_from l.names (lines l.rest) ≡ functions_from l.fn.names (lines l.text)

abbrev pub decreases-loop-rest : goal.decreases-loop-rest
decreases-loop-rest g l = length l.rest
