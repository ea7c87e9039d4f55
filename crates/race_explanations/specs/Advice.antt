-- Where two strands part, and what would order them.
use Rattle.std.specs.Prelude.{ℕ, ◌==◌, ◌&&◌, Bool, List, [], ◌++◌, codes, Option, Some, None, if◌then◌else◌}
use Rattle.source_quotes.specs.declared.look.Look.{Look}
use Rattle.source_quotes.specs.Quotes.{noted, gutter}
use Rattle.race_pairs.specs.declared.lineage.Parting.{Parting}
use Rattle.race_pairs.specs.declared.lineage.OpenSpawn.{OpenSpawn}
use Rattle.race_pairs.specs.Refusals.{line_in}
use Rattle.race_pairs.specs.declared.race.Pair.{Pair}
use Rattle.race_explanations.specs.Settings.{Origin, in_program, in_trace, Setting}
use Rattle.race_explanations.specs.Names.{function_of, are_in_one_function, are_in_one_call}
use Rattle.race_explanations.specs.Paths.{line_words, shown_line}

-- ---- words

abbrev pub parts_words : List ℕ
parts_words = codes " here they part: what is spawned comes to "

abbrev pub outstanding_words : List ℕ
outstanding_words = codes " this spawn is outstanding at "

abbrev pub elsewhere_words : List ℕ
elsewhere_words = codes ", and not at "

abbrev pub onward_words : List ℕ
onward_words = codes " goes on to "

abbrev pub while_words : List ℕ
while_words = codes ", while "

-- ---- texts

-- what stands between two quotes
abbrev pub between_in : Look → Origin → List ℕ
between_in look (in_program file source functions) = gutter look ++ codes "\n"
between_in look (in_trace notes) = []

abbrev pub between : Setting → List ℕ
between setting = between_in setting.look setting.origin

-- the line of the one of a pair's two entries which is on this strand: the refused one, or else its witness
abbrev pub line_on : Pair → (refused : ℕ) → (strand : ℕ) → ℕ
line_on pair refused strand = if refused == strand then pair.lines.line else pair.lines.witness_line

-- the line of a spawn and a sign below it
abbrev pub spawn_line : Setting → ℕ → List ℕ
spawn_line setting entry_number = between setting ++ shown_line setting (line_in setting.lines entry_number) 45

-- a function in a sentence
abbrev pub spawner_word : Option (List ℕ) → List ℕ
spawner_word (Some name) = codes "`" ++ name ++ codes "`"
spawner_word None = codes "the spawner"

abbrev pub function_word : Setting → ℕ → List ℕ
function_word setting line = spawner_word (function_of setting.origin line)

-- That two strands part at a spawn: whither the child comes, and how its spawner goes on.
abbrev pub parts_text : Setting → Pair → (refused : ℕ) → Parting → ℕ → List ℕ
parts_text setting pair refused parting onward =
    spawn_line setting parting.entry ++ (parts_words ++ line_words setting.origin (line_on pair refused parting.by_child)) ++
    while_words ++ function_word setting (line_in setting.lines parting.entry) ++
    (onward_words ++ line_words setting.origin onward ++ codes "\n")

abbrev pub parted_text : Setting → Pair → (refused : ℕ) → Option Parting → ℕ → List ℕ
parted_text setting pair refused (Some parting) onward = parts_text setting pair refused parting onward
parted_text setting pair refused None onward = []

-- at which of two lines a spawn is outstanding
abbrev pub open_words : Origin → ℕ → ℕ → List ℕ
open_words origin at not_at =
    (outstanding_words ++ line_words origin at) ++ (elsewhere_words ++ line_words origin not_at) ++ codes "\n"

-- That a spawn is outstanding at one of two reads and not at the other.
abbrev pub open_text : Setting → Pair → (refused : ℕ) → OpenSpawn → List ℕ
open_text setting pair refused spawn =
    spawn_line setting spawn.entry ++ open_words setting.origin (line_on pair refused spawn.parallel) (line_on pair refused spawn.ordered)

abbrev pub opened_text : Setting → Pair → (refused : ℕ) → Option OpenSpawn → List ℕ
opened_text setting pair refused (Some spawn) = open_text setting pair refused spawn
opened_text setting pair refused None = []

-- ---- help

-- what would order the rounds of a loop
abbrev pub rounds_words : Origin → List ℕ
rounds_words (in_program file source functions) =
    codes "rounds of one `pfor` are never ordered: give each a cell of its own, or use a reducer"
rounds_words (in_trace notes) =
    codes "what is spawned here again and again is not ordered: give each a place of its own, or use a reducer"

-- what a function does, where it is known
abbrev pub doing_word : Option (List ℕ) → List ℕ
doing_word (Some name) = spawner_word (Some name) ++ codes " does"
doing_word None = codes "is done"

abbrev pub doing_in : Origin → ℕ → List ℕ
doing_in origin line = doing_word (function_of origin line)

-- between the spawn on a line and what another function does on another line
abbrev pub between_words : Origin → (line onward : ℕ) → List ℕ
between_words origin line onward =
    codes " between the spawn at " ++ line_words origin line ++ codes " and what " ++ doing_in origin onward ++ codes " at "

-- A line of another function does not say where in the function that spawns.
abbrev pub where_words : Origin → (line onward : ℕ) → List ℕ
where_words origin line onward =
    (if are_in_one_function origin line onward then codes " before " else between_words origin line onward) ++ line_words origin onward

-- a sync in the function that spawns on a line, before it goes on to another line
abbrev pub sync_place : Setting → (line onward : ℕ) → List ℕ
sync_place setting line onward = (codes "a `sync` in " ++ function_word setting line) ++ where_words setting.origin line onward

abbrev pub order_words : (is_sure : Bool) → List ℕ
order_words is_sure = if is_sure then codes " would order them" else codes " may order them"

-- The sync orders them for sure only where it is known to stand in the call that spawns.
abbrev pub missing_help : Setting → (line onward : ℕ) → (is_sure : Bool) → List ℕ
missing_help setting line onward is_sure =
    sync_place setting line onward ++ order_words (is_sure && are_in_one_call setting.origin line onward)

-- what orders two strands that part at a spawn on one line, behind which the spawner goes on to another
abbrev pub sync_help : Setting → (line onward : ℕ) → (is_sure : Bool) → List ℕ
sync_help setting line onward is_sure =
    if line == onward then rounds_words setting.origin else missing_help setting line onward is_sure

-- what makes a read on one line the same in every run, where a spawn on another is outstanding
abbrev pub move_help : Setting → (at line : ℕ) → List ℕ
move_help setting at line =
    codes "move what stands on " ++ line_words setting.origin at ++ codes " behind the `sync` of " ++ function_word setting line ++
    codes ", where this spawn has ended"

-- what makes a get find something
abbrev pub put_help : List ℕ
put_help = codes "a `put` into it has to come first in the serial order"

-- what orders two strands that part there
abbrev pub sync_help_of : Setting → (onward : ℕ) → (is_sure : Bool) → Option Parting → Option (List ℕ)
sync_help_of setting onward is_sure (Some parting) = Some (sync_help setting (line_in setting.lines parting.entry) onward is_sure)
sync_help_of setting onward is_sure None = None

-- what makes a read the same in every run, where that spawn is outstanding
abbrev pub move_help_of : Setting → Pair → (refused : ℕ) → Option OpenSpawn → Option (List ℕ)
move_help_of setting pair refused (Some spawn) =
    Some (move_help setting (line_on pair refused spawn.parallel) (line_in setting.lines spawn.entry))
move_help_of setting pair refused None = None

-- ---- notes of help

abbrev pub help_begun : Setting → List ℕ
help_begun setting = noted setting.look ++ codes "help: "

abbrev pub help_note : Setting → Option (List ℕ) → List ℕ
help_note setting (Some words) = help_begun setting ++ words ++ codes "\n"
help_note setting None = []

abbrev pub rounds_note : Setting → List ℕ
rounds_note setting = help_begun setting ++ rounds_words setting.origin ++ codes "\n"

-- a sync in the function that spawns on a line, before it goes on to another line, and what it does
abbrev pub sync_note : Setting → (line onward : ℕ) → (is_sure : Bool) → List ℕ
sync_note setting line onward is_sure = help_begun setting ++ missing_help setting line onward is_sure ++ codes "\n"
