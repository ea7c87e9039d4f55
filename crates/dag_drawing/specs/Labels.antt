-- What is written beside the strands and the races of a drawing.
use Rattle.std.specs.Prelude.{ℕ, ◌-◌, nat_lt, List, [], ◌∷◌, ◌++◌, codes, decimal, map, unwrap_or, length, take, Option, Some, None, cond}
use Rattle.std.specs.Option.{option_or}
use Rattle.model_accesses.specs.declared.request.Act.{Act}
use Rattle.model_accesses.specs.declared.request.Act.TheVariants.{Read, Write, Bump, Update, Put, Get}
use Rattle.text_words.specs.declared.value.Mem.{Mem}
use Rattle.text_words.specs.declared.value.Reducer.{Reducer}
use Rattle.trace_text.specs.Shapes.{name_of_cell}
use Rattle.trace_text.specs.Printing.{name_of_reducer}
use Rattle.trace_notes.specs.declared.notes.Notes.{Notes}
use Rattle.trace_notes.specs.Places.{PlaceParts}
use Rattle.trace_notes.specs.Notes.{noted_place, noted_text, kept_runs}
use Rattle.dag_drawing.specs.declared.drawing.Access.{Access}
use Rattle.dag_drawing.specs.declared.drawing.Race.{Race}
use Rattle.dag_drawing.specs.declared.labels.Names.{Names}
use Rattle.dag_drawing.specs.Texts.{kind_text, outcome_text, rule_text}

-- what a drawing's cells, reducers and marks are told by
pub record Naming : Type 0 where
  pub mems : List Mem
  pub reducers : List Reducer
  pub notes : Notes

abbrev pub naming_of : Names → Naming
naming_of names = record { mems = names.mems.now; reducers = names.reducers.now; notes = names.notes.now }

-- the name that the trace declares for what an act accesses
abbrev pub plain_name : Naming → Act → List ℕ
plain_name naming (Read location) = name_of_cell naming.mems location
plain_name naming (Write location value) = name_of_cell naming.mems location
plain_name naming (Bump location value) = name_of_cell naming.mems location
plain_name naming (Update reducer value) = name_of_reducer naming.reducers reducer
plain_name naming (Put reducer value) = name_of_reducer naming.reducers reducer
plain_name naming (Get reducer) = name_of_reducer naming.reducers reducer
plain_name naming act = []

-- what the notes say that it stands for, or the name
abbrev pub told_name : Naming → List ℕ → List ℕ
told_name naming name = unwrap_or (noted_text naming.notes name) name

-- the place of an access in a program's source, where a note says it
unfoldable pub place_of : Naming → Access → Option PlaceParts
place_of naming access = noted_place naming.notes access.request.line

-- the place, or the number of the entry
abbrev pub site_text : Option PlaceParts → ℕ → List ℕ
site_text (Some place) entry = place.location
site_text None entry = decimal entry

-- an access
abbrev pub access_line : Naming → Access → List ℕ
access_line naming access =
    site_text (place_of naming access) access.entry ++ codes " " ++ kind_text access.request.act ++ codes " " ++
    told_name naming (plain_name naming access.request.act) ++ outcome_text access.answer

-- the place of the first access that has one
abbrev pub first_place : Naming → List Access → Option PlaceParts
first_place naming [] = None
first_place naming (access ∷ rest) = option_or (place_of naming access) (first_place naming rest)

abbrev pub function_within : Option (List ℕ) → List ℕ
function_within (Some function) = codes " in " ++ function
function_within None = []

abbrev pub function_text : Option PlaceParts → List ℕ
function_text (Some place) = function_within place.function
function_text None = []

-- a strand's number and its function
abbrev pub head_line : Naming → ℕ → List Access → List ℕ
head_line naming strand own = decimal strand ++ function_text (first_place naming own)

-- the most accesses of a strand that are told
abbrev pub most_told : ℕ
most_told = 12

-- how many accesses are not told
abbrev pub rest_lines : ℕ → List (List ℕ)
rest_lines count = cond (nat_lt most_told count) ((codes "and " ++ decimal (count - most_told) ++ codes " more") ∷ []) []

-- the lines of a strand with its accesses
unfoldable pub node_lines : Naming → ℕ → List Access → List (List ℕ)
node_lines naming strand own = head_line naming strand own ∷ map (access_line naming) (take most_told own) ++ rest_lines (length own)

-- what is written beside a race: its rule and what was accessed
abbrev pub race_label : Naming → Race → List ℕ
race_label naming race =
    rule_text race.request.act race.witness.kind ++ codes " on " ++ told_name naming (plain_name naming race.request.act)

-- what was recorded, line by line
abbrev pub title_lines : Naming → List (List ℕ)
title_lines naming = kept_runs naming.notes
