use Rattle.std.proofs.Common.{◌≡◌, length}
use Rattle.text_words.specs.Text.{lines}
use Rattle.tool_commands.specs.Sorts.{comes_to_function, is_program_text}
use Rattle.tool_commands.proofs.sort.is_program.Given as goal

-- the lines that are left decide what the text is to mean
abbrev pub invariant-loop-rest : goal.invariant-loop-rest
invariant-loop-rest l = comes_to_function (lines l.rest) ≡ is_program_text l.text

abbrev pub decreases-loop-rest : goal.decreases-loop-rest
decreases-loop-rest l = length l.rest
