-- How the code ends the parts of a function.
use Rattle.std.specs.Prelude.{◌≡◌, ℕ, ◌+◌, ◌<◌, ◌≤◌, Bool, true, false, Option, Some, None, List, [], ◌∷◌, length}
use Rattle.program_text.specs.declared.open_function.Part.{Part}
use Rattle.model_bodies.specs.Codes.{Code}
use Rattle.model_bodies.specs.Sound.{max_functions, max_statements}
use Rattle.program_text.specs.Drafts.{Open, begun_by, with_part_ended}

-- An innermost part has ended, or there was none and all stays.
abbrev pub EndsPart : ℕ → Open → List Part → Bool → Open → Type 0
EndsPart at before [] was_part after = (was_part ≡ false) × (after ≡ before)
EndsPart at before (part ∷ parts) was_part after = (was_part ≡ true) × (after ≡ with_part_ended at before part parts)

-- The body of the open function is shorter than the counted lines, which are not too many.
abbrev pub IsShort : Option Open → ℕ → Type 0
IsShort None lines = lines ≤ max_statements + 1
IsShort (Some current) lines = (length current.body < lines) × (lines ≤ max_statements + 1)

-- No limit on functions and statements is passed.
abbrev pub IsCounted : List Code → Option Open → ℕ → Type 0
IsCounted functions current lines = (begun_by functions current ≤ max_functions) × IsShort current lines
