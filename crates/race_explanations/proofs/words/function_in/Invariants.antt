use Rattle.std.proofs.Common.{◌≡◌, drop}
use denote.Text.{Utf8}
use denote.Shadow.{shadow}
use Rattle.race_explanations.specs.Names.{name_before, function_at}
use Rattle.program_text.specs.Programs.{contents}
use Rattle.race_explanations.proofs.words.function_in.Given as goal

-- the name so far, and the functions that are left, give the name
abbrev pub invariant-loop-function : goal.invariant-loop-function
invariant-loop-function g l =
    shadow (Utf8 l.name) × (name_before l.name (drop l.function-index (contents l.program).functions) l.line ≡ function_at (contents l.program).functions l.line)
