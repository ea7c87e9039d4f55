-- Which job the words of a command ask for: a table from what the parser found of each word to the fields of the job.
use Rattle.std.specs.Prelude.{ℕ, ◌≡◌, ◌≢◌, ◌⊎◌, ◌<◌, ◌≤◌, Bool, true, false, Option, Some, None, List, [], ◌∷◌, codes, map, length, option_map, if◌then◌else◌}
use Rattle.std.specs.String.{string_bytes}
use Rattle.std.specs.List.{All}
use Rattle.std.specs.Str.{bytes_eq}
use Rattle.std.specs.Option.{option_map_or}
use Rattle.std.specs.Str.Parse.{IsNumeral, digits_value, without_leading_plus}
use Rattle.clap.specs.Words.{Row, Text, first_of, all_of, found_of, rows_of}
use Rattle.clap.specs.Words.{IsAmong, fault_of, subcommand_of}
use Rattle.clap.specs.declared.parser.matches.ArgMatches.{ArgMatches}
use Rattle.clap.specs.declared.error.kind.ErrorKind.{ErrorKind}
use Rattle.clap.specs.declared.error.kind.ErrorKind.TheVariants.{DisplayHelp, DisplayVersion}
use Rattle.command_words.specs.Commands.{cilkcheck}
use Rattle.model_histories.specs.Shapes.{most_entries}
use Rattle.command_words.specs.declared.words.Job.{Job}
use Rattle.command_words.specs.declared.words.Job.TheVariants.{Judge, Elide, Run, Trace, Record, Explain, ExplainInput, ExplainTraces, Replay, Draw, Show}
use Rattle.command_words.specs.declared.words.Color.{Color}
use Rattle.command_words.specs.declared.words.Color.TheVariants.{Auto, Always, Never}
use Rattle.command_words.specs.declared.words.Format.{Format}
use Rattle.command_words.specs.declared.words.Format.TheVariants.{Text as TextFormat, Json, Sarif}
use Rattle.command_words.specs.declared.words.Language.{Language}
use Rattle.command_words.specs.declared.words.Language.TheVariants.{Dot, Svg}

-- what was found of the words of a command
abbrev pub rows_in : ArgMatches → List Row
rows_in matches = rows_of (found_of matches)

-- ---- numbers

-- The text writes the number in decimal digits, before which a plus may stand.
abbrev pub Writes : Text → ℕ → Type 0
Writes text number = IsNumeral 10 (without_leading_plus text) × (digits_value 10 (without_leading_plus text) ≡ number)

-- the number that is written, in its range, or the default where none is
abbrev pub IsNumber : (least most default : ℕ) → Option Text → ℕ → Type 0
IsNumber least most default None number = number ≡ default
IsNumber least most default (Some text) number = Writes text number × (least ≤ number) × (number ≤ most)

-- what is written is no number in the range
abbrev pub IsNoNumber : (least most : ℕ) → Option Text → Type 0
IsNoNumber least most None = ⊥
IsNoNumber least most (Some text) = (number : ℕ) → Writes text number → least ≤ number → number ≤ most → ⊥

-- `--workers N`
abbrev pub IsWorkers : List Row → ℕ → Type 0
IsWorkers rows workers = IsNumber 1 64 2 (first_of (codes "workers") rows) workers

-- `--limit N`
abbrev pub IsLimit : List Row → ℕ → Type 0
IsLimit rows limit = IsNumber 0 most_entries most_entries (first_of (codes "limit") rows) limit

-- ---- words among a few

abbrev pub color_word : Color → Text
color_word Auto = codes "auto"
color_word Always = codes "always"
color_word Never = codes "never"

-- `--color WHEN`
abbrev pub IsColorOf : Option Text → Color → Type 0
IsColorOf None color = color ≡ Auto
IsColorOf (Some text) color = text ≡ color_word color

abbrev pub IsColor : List Row → Color → Type 0
IsColor rows color = IsColorOf (first_of (codes "color") rows) color

abbrev pub format_word : Format → Text
format_word TextFormat = codes "text"
format_word Json = codes "json"
format_word Sarif = codes "sarif"

-- `--format FORM`
abbrev pub IsFormatOf : Option Text → Format → Type 0
IsFormatOf None format = format ≡ TextFormat
IsFormatOf (Some text) format = text ≡ format_word format

abbrev pub IsFormat : List Row → Format → Type 0
IsFormat rows format = IsFormatOf (first_of (codes "format") rows) format

-- `--NAME`
abbrev pub has_flag : (name : Text) → List Row → Bool
has_flag name rows = option_map_or (λ text. bytes_eq text (codes "true")) (first_of name rows) false

-- `--svg`
abbrev pub language_of : List Row → Language
language_of rows = if has_flag (codes "svg") rows then Svg else Dot

-- `--serial`, which is no number of workers that steal
abbrev pub IsSerial : List Row → Bool → Type 0
IsSerial rows is_serial = (is_serial ≡ has_flag (codes "serial") rows)
    × (is_serial ≡ true → first_of (codes "workers") rows ≡ None)

-- ---- names of files

-- the word for standard input in place of a file
abbrev pub input_word : Text
input_word = codes "-"

-- the word for standard output in place of a trace's file
abbrev pub output_word : Text
output_word = codes "-"

-- The word of this name is the name of the file.
abbrev pub IsName : (name : Text) → List Row → Text → Type 0
IsName name rows file = first_of name rows ≡ Some file

-- A trace may be written into this file: it is not the program's, and not standard output; and the program is in a file.
abbrev pub IsOut : (file trace : Text) → Type 0
IsOut file trace = (trace ≢ file) × (trace ≢ output_word) × (file ≢ input_word)

-- ---- jobs

-- What the words of the command ask for. Each number that is not written has its default: 2 workers, and the largest limit.
abbrev pub IsAsked : (command : Text) → List Row → Job → Type 0
IsAsked command rows (Judge file limit) =
    (command ≡ codes "judge") × (option_map string_bytes file ≡ first_of (codes "file") rows) × IsLimit rows limit
IsAsked command rows (Elide file limit) =
    (command ≡ codes "elide") × IsName (codes "file") rows (string_bytes file) × IsLimit rows limit
IsAsked command rows (Run file workers limit) =
    (command ≡ codes "run") × IsName (codes "file") rows (string_bytes file) × IsWorkers rows workers × IsLimit rows limit
    × (first_of (codes "trace") rows ≡ None)
IsAsked command rows (Trace file workers limit) =
    (command ≡ codes "run") × IsName (codes "file") rows (string_bytes file) × IsWorkers rows workers × IsLimit rows limit
    × IsName (codes "trace") rows output_word
IsAsked command rows (Record file workers limit trace) =
    (command ≡ codes "run") × IsName (codes "file") rows (string_bytes file) × IsWorkers rows workers × IsLimit rows limit
    × IsName (codes "trace") rows (string_bytes trace) × IsOut (string_bytes file) (string_bytes trace)
IsAsked command rows (Explain file workers is_serial limit color format is_all) =
    (command ≡ codes "explain") × (all_of (codes "file") rows ≡ Some (string_bytes file ∷ [])) × (string_bytes file ≢ input_word)
    × IsWorkers rows workers × IsSerial rows is_serial × IsLimit rows limit × IsColor rows color × IsFormat rows format
    × (is_all ≡ has_flag (codes "all") rows)
IsAsked command rows (ExplainInput workers is_serial limit color format is_all) =
    (command ≡ codes "explain") × (all_of (codes "file") rows ≡ Some (input_word ∷ []))
    × IsWorkers rows workers × IsSerial rows is_serial × IsLimit rows limit × IsColor rows color × IsFormat rows format
    × (is_all ≡ has_flag (codes "all") rows)
IsAsked command rows (ExplainTraces files color format is_all) =
    (command ≡ codes "explain") × (all_of (codes "file") rows ≡ Some (map string_bytes files.items)) × (1 < length files.items)
    × All (λ file. string_bytes file ≢ input_word) files.items × IsColor rows color × IsFormat rows format × (first_of (codes "workers") rows ≡ None)
    × (first_of (codes "limit") rows ≡ None) × (has_flag (codes "serial") rows ≡ false)
    × (is_all ≡ has_flag (codes "all") rows)
IsAsked command rows (Replay file trace) =
    (command ≡ codes "replay") × IsName (codes "file") rows (string_bytes file) × IsName (codes "trace") rows (string_bytes trace)
    × (string_bytes file ≡ input_word → string_bytes trace ≢ input_word)
IsAsked command rows (Draw file language) =
    (command ≡ codes "draw") × IsName (codes "trace") rows (string_bytes file) × (language ≡ language_of rows)
IsAsked command rows (Show text) = ⊥

-- the same of the command that was found, with what was found of its words
abbrev pub IsAskedBy : Option (Text × List Row) → Job → Type 0
IsAskedBy None job = ⊥
IsAskedBy (Some found) job = IsAsked found.0 found.1 job

-- The job shows the text that the parser answers in place of matches: it is asked for the help, or the version.
abbrev pub IsShown : ErrorKind → Job → Type 0
IsShown DisplayHelp (Show text) = Unit {0}
IsShown DisplayVersion (Show text) = Unit {0}
IsShown kind job = ⊥

-- The words behind the program's name ask for the job: for the help or the version, or else for what the table above gives for the command
-- and its words that the parser finds among them.
abbrev pub IsJobOf : List Text → Job → Type 0
IsJobOf words job = ((kind : ErrorKind) × IsAmong kind (fault_of cilkcheck words) × IsShown kind job)
    ⊎ IsAskedBy (subcommand_of cilkcheck words) job
