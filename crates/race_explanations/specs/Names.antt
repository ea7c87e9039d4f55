-- Words for what stands in a program and in a run of it.
use Rattle.std.specs.Prelude.{ℕ, ◌&&◌, nat_lt, not, Bool, true, false, List, [], ◌∷◌, codes, take, drop, Option, Some, None, is_some, if◌then◌else◌}
use Rattle.std.specs.Str.{bytes_eq}
use Rattle.trace_notes.specs.declared.notes.Notes.{Notes}
use Rattle.trace_notes.specs.Places.{PlaceParts}
use Rattle.trace_notes.specs.Notes.{noted_place}
use Rattle.model_accesses.specs.Table.{spelling}
use Rattle.model_bodies.specs.Codes.{Code}
use Rattle.race_pairs.specs.declared.refusal.Side.{Side}
use Rattle.race_pairs.specs.declared.encounter.Way.{Way}
use Rattle.race_pairs.specs.declared.encounter.Way.TheVariants.{Spawned, Called}
use Rattle.source_quotes.specs.Lines.{blanks, statement_length}
use Rattle.race_explanations.specs.Settings.{Origin, in_program, in_trace}

-- the name of the last of the functions that begins before a line, and else this name
abbrev pub name_before : List ℕ → List Code → ℕ → List ℕ
name_before name [] line = name
name_before name (function ∷ functions) line = if nat_lt function.line line then name_before function.name functions line else name

-- the name of the function in which a line stands
abbrev pub function_at : List Code → ℕ → List ℕ
function_at functions line = name_before [] functions line

-- the function in which a place of a trace stands, where its note says so
abbrev pub noted_function : Option PlaceParts → Option (List ℕ)
noted_function (Some place) = place.function
noted_function None = None

-- the function in which a line stands, where it is known
abbrev pub function_of : Origin → ℕ → Option (List ℕ)
function_of (in_program file source functions) line = Some (function_at functions line)
function_of (in_trace notes) line = noted_function (noted_place notes line)

-- the two are one name, or there is none of both
abbrev pub is_one_name : Option (List ℕ) → Option (List ℕ) → Bool
is_one_name (Some one) (Some other) = bytes_eq one other
is_one_name (Some one) None = false
is_one_name None (Some other) = false
is_one_name None None = true

-- two lines stand in one function, as far as it is known
abbrev pub are_in_one_function : Origin → (line other : ℕ) → Bool
are_in_one_function origin line other = is_one_name (function_of origin line) (function_of origin other)

-- no note of the trace says where the line is
abbrev pub is_unnoted : Notes → ℕ → Bool
is_unnoted notes line = not (is_some (noted_place notes line))

-- Two lines are known to stand in one call of a function. The entries of a trace have their calls. The places of its notes need not have
-- them: where a function calls itself, a line of the callee is named as one of the caller.
abbrev pub are_in_one_call : Origin → (line other : ℕ) → Bool
are_in_one_call (in_program file source functions) line other = are_in_one_function (in_program file source functions) line other
are_in_one_call (in_trace notes) line other = is_unnoted notes line && is_unnoted notes other

-- what an access did, where there is one
abbrev pub side_word : Option Side → List ℕ
side_word (Some side) = spelling side.kind
side_word None = []

-- how a spawn or a call came to a function
abbrev pub way_word : Way → List ℕ
way_word Spawned = codes "spawned"
way_word Called = codes "called"

-- the statement on a line, without the blanks before it and what is behind it
abbrev pub statement : List ℕ → List ℕ
statement line = take (statement_length line) (drop (blanks line) line)
