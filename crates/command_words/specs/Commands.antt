-- The commands, and the words that each takes, as the parser of the command line reads them.
use Rattle.std.specs.Prelude.{◌≡◌, true, false, List, [], ◌∷◌, Some, codes}
use Rattle.clap.specs.Lexer.{usize_max}
use Rattle.clap.specs.Words.{App, Rule, Shape, Text, app_of, new_rule, rule_of}
use Rattle.clap.specs.Simple.{new_shape}
use Rattle.clap.specs.declared.builder.action.ArgAction.TheVariants.{Append, SetTrue}
use Rattle.clap.specs.declared.builder.arg.Arg.{Arg}
use Rattle.clap.specs.declared.builder.command.Command.{Command}
use Rattle.clap.specs.declared.builder.command.Command.TheViews.{out-Command as fields_of}

-- a word among the words, or none
abbrev pub free : Text → Rule
free name = record (new_rule name) { value_names = 1 }

-- a word that must stand among the words
abbrev pub wanted : Text → Rule
wanted name = record (free name) { required = true }

-- one word or more, of which one must stand among the words
abbrev pub several : Text → Rule
several name = record (wanted name) {
  action = Some Append;
  range = Some (record { start_inclusive = 1; end_inclusive = usize_max });
}

-- `--NAME VALUE`, or nothing
abbrev pub option : Text → Rule
option name = record (free name) { long = Some name }

-- `--NAME`, or nothing
abbrev pub flag : Text → Rule
flag name = record (new_rule name) { long = Some name; action = Some SetTrue }

abbrev pub command : Text → List Rule → Shape
command name rules = record (new_shape name) { rules = rules }

-- a command with no command of its own
abbrev pub leaf : Shape → App
leaf shape = record { top = shape; subs = [] }

abbrev pub judge : Shape
judge = command (codes "judge") (free (codes "file") ∷ option (codes "limit") ∷ [])

abbrev pub elide : Shape
elide = command (codes "elide") (wanted (codes "file") ∷ option (codes "limit") ∷ [])

abbrev pub run : Shape
run = command (codes "run")
    (wanted (codes "file") ∷ option (codes "workers") ∷ option (codes "limit") ∷ option (codes "trace") ∷ [])

abbrev pub explain : Shape
explain = command (codes "explain")
    (several (codes "file") ∷ option (codes "workers") ∷ flag (codes "serial") ∷ option (codes "limit") ∷ option (codes "color") ∷
    option (codes "format") ∷ flag (codes "all") ∷ [])

abbrev pub replay : Shape
replay = command (codes "replay") (wanted (codes "file") ∷ wanted (codes "trace") ∷ [])

abbrev pub draw : Shape
draw = command (codes "draw") (wanted (codes "trace") ∷ flag (codes "svg") ∷ [])

-- the program without its commands; its words stand behind its name
abbrev pub program : App
program = leaf (record (new_shape (codes "cilkcheck")) { no_binary_name = true; has_version = true })

-- the program with its commands
abbrev pub cilkcheck : App
cilkcheck = record {
  top = record program.top { is_leaf = false };
  subs = judge ∷ elide ∷ run ∷ explain ∷ replay ∷ draw ∷ [];
}

-- the parser's own argument and command for these

abbrev pub IsArgument : Rule → Arg → Type 0
IsArgument rule arg = (rule_of arg ≡ rule) × (arg.global ≡ false)

abbrev pub IsCommand : App → Command → Type 0
IsCommand app command = (app_of command ≡ app) × ((fields_of command).has_globals ≡ false)

-- a command with no command of its own
abbrev pub IsPart : Shape → Command → Type 0
IsPart shape part = IsCommand (leaf shape) part
