-- An access shown where it stands, and the spawns and calls that led there.
use Rattle.std.specs.Prelude.{ℕ, ◌-◌, nat_lt, List, [], ◌++◌, codes, flat_map, length, take, decimal, replicate, Option, Some, None, if◌then◌else◌}
use Rattle.source_quotes.specs.declared.look.Look.{Look}
use Rattle.source_quotes.specs.declared.look.Paint.TheVariants.{Blue}
use Rattle.source_quotes.specs.Lines.{line_in as source_line}
use Rattle.source_quotes.specs.Quotes.{marked, noted, gutter, painted}
use Rattle.trace_notes.specs.Places.{PlaceParts}
use Rattle.trace_notes.specs.Notes.{noted_place}
use Rattle.race_pairs.specs.declared.refusal.Side.{Side}
use Rattle.race_pairs.specs.declared.encounter.Link.{Link}
use Rattle.race_pairs.specs.Refusals.{line_in}
use Rattle.race_explanations.specs.Settings.{Origin, in_program, in_trace, Setting}
use Rattle.race_explanations.specs.Names.{function_at, side_word, way_word, statement}

-- ---- words

abbrev pub more_words : List ℕ
more_words = codes " more spawns and calls led there\n"

abbrev pub line_word : List ℕ
line_word = codes "line "

-- ---- where a line is

-- the place that a mark stands for, or its number where no note says it
abbrev pub site_words : Option PlaceParts → ℕ → List ℕ
site_words (Some place) line = place.location
site_words None line = line_word ++ decimal line

-- in a sentence
abbrev pub line_words : Origin → ℕ → List ℕ
line_words (in_program file source functions) line = line_word ++ decimal line
line_words (in_trace notes) line = site_words (noted_place notes line) line

abbrev pub function_within : Option (List ℕ) → List ℕ
function_within (Some name) = codes ", in " ++ name
function_within None = []

abbrev pub place_within : Option PlaceParts → List ℕ
place_within (Some place) = function_within place.function
place_within None = []

-- in which function a line stands
abbrev pub within : Origin → ℕ → List ℕ
within (in_program file source functions) line = codes ", in `" ++ function_at functions line ++ codes "`"
within (in_trace notes) line = place_within (noted_place notes line)

-- behind an access that is shown, which tells its place itself where it is one of a trace
abbrev pub shown_within : Origin → ℕ → List ℕ
shown_within (in_program file source functions) line = within (in_program file source functions) line
shown_within (in_trace notes) line = []

-- ---- what stands there

abbrev pub code_line : Look → Option (List ℕ) → List ℕ
code_line look (Some code) = gutter look ++ codes "  " ++ code ++ codes "\n"
code_line look None = []

abbrev pub code_at : Look → Option PlaceParts → List ℕ
code_at look (Some place) = code_line look place.code
code_at look None = []

-- a place of a trace, the code there, and the left of what is told of it
abbrev pub placed : Look → Option PlaceParts → ℕ → List ℕ
placed look place line =
    (replicate look.width 32 ++ painted look Blue (codes "-->")) ++ codes " " ++ site_words place line ++ place_within place ++
    codes "\n" ++ code_at look place ++ (replicate look.width 32 ++ painted look Blue (codes " ="))

-- a line where it stands, and below it this sign
abbrev pub shown : Look → Origin → ℕ → ℕ → List ℕ
shown look (in_program file source functions) line mark = marked look source line mark
shown look (in_trace notes) line mark = placed look (noted_place notes line) line

abbrev pub shown_line : Setting → ℕ → ℕ → List ℕ
shown_line setting line mark = shown setting.look setting.origin line mark

-- the statement on a line, behind what is told of it
abbrev pub statement_text : Origin → ℕ → List ℕ
statement_text (in_program file source functions) line = codes ": " ++ statement (source_line source line) ++ codes "\n"
statement_text (in_trace notes) line = codes "\n"

-- ---- texts

-- The line of the entry with this number, and below it what its access did and in which function.
abbrev pub access_text : Setting → ℕ → Option Side → ℕ → List ℕ
access_text setting entry_number side mark =
    shown_line setting (line_in setting.lines entry_number) mark ++ codes " this " ++ side_word side ++
    shown_within setting.origin (line_in setting.lines entry_number)

-- a spawn or a call on the way to an access
abbrev pub link_text : Setting → Link → List ℕ
link_text setting link =
    noted setting.look ++ way_word link.way ++ codes " at " ++ line_words setting.origin (line_in setting.lines link.entry) ++
    within setting.origin (line_in setting.lines link.entry) ++ statement_text setting.origin (line_in setting.lines link.entry)

abbrev pub links_text : Setting → List Link → List ℕ
links_text setting chain = flat_map (link_text setting) chain

-- how many spawns and calls are left out
abbrev pub links_left_out : Setting → ℕ → List ℕ
links_left_out setting count = if nat_lt 8 count then noted setting.look ++ decimal (count - 8) ++ more_words else []

-- The innermost eight of the spawns and calls that led to an access, and how many more there are.
abbrev pub chain_text : Setting → List Link → List ℕ
chain_text setting chain = links_text setting (take 8 chain) ++ links_left_out setting (length chain)
