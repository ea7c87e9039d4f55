-- The first lines of what is told of a race: the kind, on what, how often, and where.
use Rattle.std.specs.Prelude.{ℕ, ◌-◌, nat_lt, List, [], ◌∷◌, ◌++◌, codes, flat_map, map, length, take, decimal, Option, Some, None, if◌then◌else◌}
use Rattle.std.specs.BTreeSet.{insert_key}
use Rattle.std.specs.Ordering.{nat_cmp}
use Rattle.std.specs.Cmp.Lexicographic.{slice_cmp}
use Rattle.model_accesses.specs.Table.{spelling}
use Rattle.trace_text.specs.Shapes.{name_of_cell}
use Rattle.trace_text.specs.Printing.{name_of_reducer}
use Rattle.text_words.specs.declared.value.Mem.{Mem}
use Rattle.text_words.specs.declared.value.Reducer.{Reducer}
use Rattle.source_quotes.specs.declared.look.Look.{Look}
use Rattle.source_quotes.specs.declared.look.Paint.TheVariants.{Red}
use Rattle.source_quotes.specs.Quotes.{painted, counted, place}
use Rattle.trace_notes.specs.Notes.{noted_text}
use Rattle.race_pairs.specs.declared.refusal.Reason.{Reason}
use Rattle.race_pairs.specs.declared.refusal.Reason.TheVariants.{Race, ViewRead, Unset}
use Rattle.race_pairs.specs.declared.race.Pair.{Pair}
use Rattle.race_explanations.specs.Settings.{Origin, in_program, in_trace, Setting}

abbrev pub sort_word : Reason → List ℕ
sort_word (Race earlier refused) = codes "race"
sort_word ViewRead = codes "view-read race"
sort_word Unset = codes "unset get"

-- what was wrong, before the names of what it was done to
abbrev pub reason_words : Reason → List ℕ
reason_words (Race earlier refused) = spelling earlier ++ codes "-" ++ spelling refused ++ codes " on"
reason_words ViewRead = codes "reads with other peers of"
reason_words Unset = codes "nothing was put before into"

-- the name of what a refusal was about: of a cell or a reducer
abbrev pub name_of_place : List Mem → List Reducer → Reason → ℕ → List ℕ
name_of_place mems reducers (Race earlier refused) location = name_of_cell mems location
name_of_place mems reducers ViewRead reducer = name_of_reducer reducers reducer
name_of_place mems reducers Unset reducer = name_of_reducer reducers reducer

-- what the notes say that a name stands for, or the name where they say nothing
abbrev pub noted_name : Option (List ℕ) → List ℕ → List ℕ
noted_name (Some text) name = text
noted_name None name = name

-- what a name of a cell or a reducer is told as
abbrev pub told_name : Origin → List ℕ → List ℕ
told_name (in_program file source functions) name = name
told_name (in_trace notes) name = noted_name (noted_text notes name) name

abbrev pub spaced_name : Setting → Reason → ℕ → List ℕ
spaced_name setting reason location = 32 ∷ told_name setting.origin (name_of_place setting.mems setting.reducers reason location)

-- names behind the first
abbrev pub other_names : Setting → Reason → List ℕ → List ℕ
other_names setting reason places = flat_map (λ location. codes "," ++ spaced_name setting reason location) places

-- names in their order
abbrev pub listed_names : Setting → Reason → List ℕ → List ℕ
listed_names setting reason [] = []
listed_names setting reason (location ∷ places) = spaced_name setting reason location ++ other_names setting reason places

-- the most names that are told: what a name stands for in a trace is long
abbrev pub most_names : Origin → ℕ
most_names (in_program file source functions) = 8
most_names (in_trace notes) = 1

-- ---- how many names

-- a text among others in the order of their bytes, each once
abbrev pub with_text : List (List ℕ) → List ℕ → List (List ℕ)
with_text texts text = insert_key (slice_cmp nat_cmp) texts text

abbrev pub with_texts : List (List ℕ) → List (List ℕ) → List (List ℕ)
with_texts texts [] = texts
with_texts texts (text ∷ others) = with_texts (with_text texts text) others

-- what places are told as, each once: several cells may be told alike
abbrev pub told_names : Setting → Reason → List ℕ → List (List ℕ)
told_names setting reason places = with_texts [] (map (spaced_name setting reason) places)

-- how many names there are: each cell of a program has its own
abbrev pub name_count : Origin → Setting → Reason → List ℕ → ℕ
name_count (in_program file source functions) setting reason places = length places
name_count (in_trace notes) setting reason places = length (told_names setting reason places)

-- how many names are left out
abbrev pub left_out : ℕ → ℕ → List ℕ
left_out most count = if nat_lt most count then codes " and " ++ decimal (count - most) ++ codes " more" else []

-- the names of at most so many, and how many more there are
abbrev pub names_text : Setting → Reason → List ℕ → List ℕ
names_text setting reason places =
    listed_names setting reason (take (most_names setting.origin) places) ++
    left_out (most_names setting.origin) (name_count setting.origin setting reason places)

-- The kind of the race, what it was on, and how often it came.
abbrev pub headline : Setting → Pair → List ℕ → List ℕ
headline setting pair places =
    painted setting.look Red (sort_word pair.lines.reason) ++ codes ": " ++ reason_words pair.lines.reason ++
    names_text setting pair.lines.reason places ++ codes ", " ++ counted pair.times (codes "time")

-- where a program's line is; a place of a trace is told with the access
abbrev pub heading : Look → Origin → ℕ → List ℕ
heading look (in_program file source functions) line = place look file line
heading look (in_trace notes) line = []

-- and where
abbrev pub title_text : Setting → Pair → List ℕ → List ℕ
title_text setting pair places =
    headline setting pair places ++ codes "\n" ++ heading setting.look setting.origin pair.lines.line
