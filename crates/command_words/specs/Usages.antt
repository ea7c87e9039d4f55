-- What the table of the commands tells the parser.
use Rattle.std.specs.Prelude.{List, [], ◌∷◌, map}
use Rattle.clap.specs.Words.{App, Rule, Shape, with_subcommand}
use Rattle.command_words.specs.declared.commands.Word.{Word}
use Rattle.command_words.specs.declared.commands.Word.TheVariants.{Free, Wanted, Several, Option as Valued, Flag}
use Rattle.command_words.specs.declared.commands.Usage.{Usage}
use Rattle.command_words.specs.Commands.{free, wanted, several, option, flag, command}

abbrev pub rule_of : Word → Rule
rule_of (Free name value help) = free name.now
rule_of (Wanted name value help) = wanted name.now
rule_of (Several name value help) = several name.now
rule_of (Valued name value help) = option name.now
rule_of (Flag name help) = flag name.now

abbrev pub shape_of : Usage → Shape
shape_of usage = command usage.name.now (map rule_of usage.words.now)

-- a command with these commands of its own
abbrev pub with_subcommands : App → List Shape → App
with_subcommands app [] = app
with_subcommands app (shape ∷ shapes) = with_subcommands (with_subcommand app shape) shapes

-- each of these fits what stands at its place among those
abbrev pub AreEach : {X Y : Type 0} → (X → Y → Type 0) → List X → List Y → Type 0
AreEach fits [] [] = Unit {0}
AreEach fits (x ∷ xs) (y ∷ ys) = fits x y × AreEach fits xs ys
AreEach fits xs ys = ⊥
