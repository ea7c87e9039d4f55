-- A command that is built word by word, and command by command.
use Rattle.std.proofs.Common.{◌<◌, ◌≤◌, ◌∙◌, ◌||◌, ◌+◌, ◌++◌, ℕ, Bool, List, [], ◌∷◌, ap, ap₂, append-nil, append_assoc, get_or, length, map, subst, sym, take}
use Rattle.std.proofs.lemmas.List.{map-append, take_all, take_more}
use Rattle.clap.specs.Words.{App, Rule, Shape, Text, AddsArg, AddsInTurn, AddsSubcommand, with_rule, with_subcommand}
use Rattle.clap.specs.declared.builder.arg.Arg.{Arg}
use Rattle.clap.specs.declared.builder.command.Command.{Command}
use Rattle.command_words.specs.Commands.{IsArgument, IsCommand, IsPart, command, leaf}
use Rattle.command_words.specs.Usages.{AreEach, with_subcommands}

-- ---- the lists

each_more : {X Y : Type 0} (fits : X → Y → Type 0) (xs : List X) (ys : List Y) (x : X) (y : Y) → AreEach fits xs ys → fits x y →
    AreEach fits (xs ++ x ∷ []) (ys ++ y ∷ [])
each_more fits [] [] x y each one = (one, tt)
each_more fits (first ∷ xs) (other ∷ ys) x y each one = (each.0, each_more fits xs ys x y each.1 one)
each_more fits [] (other ∷ ys) x y each one = absurd each
each_more fits (first ∷ xs) [] x y each one = absurd each

module _ {X Y Z : Type 0} (of : X → Z) (fits : Z → Y → Type 0) (xs : List X) (index : ℕ) (ys : List Y) where
  -- one more was made
  pub made_more : (blank : X) (y : Y) → index < length xs → AreEach fits (map of (take index xs)) ys → fits (of (get_or xs index blank)) y →
      AreEach fits (map of (take (index + 1) xs)) (ys ++ y ∷ [])
  made_more blank y low each one =
      let x = get_or xs index blank in
      subst (λ some. AreEach fits some (ys ++ y ∷ []))
      (sym (ap (map of) (take_more xs index blank low) ∙ map-append of (take index xs) (x ∷ [])))
      (each_more fits (map of (take index xs)) ys (of x) y each one)

  -- all were made
  pub made_all : length xs ≤ index → AreEach fits (map of (take index xs)) ys → AreEach fits (map of xs) ys
  made_all all each = subst (λ some. AreEach fits (map of some) ys) (take_all index xs all) each

-- ---- what the parser makes of them

argument_more : (app : App) (rule : Rule) (old new : Command) (arg : Arg) → IsCommand app old → IsArgument rule arg → AddsArg old arg new →
    IsCommand (with_rule app rule) new
argument_more app rule old new arg is fits adds =
    (adds.shape fits.1 ∙ ap₂ with_rule is.0 fits.0, adds.globals ∙ ap₂ (λ (a b : Bool). a || b) is.1 fits.1)

-- a command with these words
pub arguments_added : (name : Text) (before rules : List Rule) (args : List Arg) (old new : Command) → IsCommand (leaf (command name before)) old →
    AreEach IsArgument rules args → AddsInTurn AddsArg old args new → IsCommand (leaf (command name (before ++ rules))) new
arguments_added name before [] [] old new is each adds =
    subst (λ rules. IsCommand (leaf (command name rules)) new) (sym (append-nil before)) (subst (λ made. IsCommand (leaf (command name before)) made) adds is)
arguments_added name before (rule ∷ rules) (arg ∷ args) old new is each adds =
    subst (λ all. IsCommand (leaf (command name all)) new) (append_assoc before (rule ∷ []) rules)
    (arguments_added name (before ++ rule ∷ []) rules args adds.0 new
    (argument_more (leaf (command name before)) rule old adds.0 arg is each.0 adds.1) each.1 adds.2)
arguments_added name before [] (arg ∷ args) old new is each adds = absurd each
arguments_added name before (rule ∷ rules) [] old new is each adds = absurd each

command_more : (app : App) (shape : Shape) (old new sub : Command) → IsCommand app old → IsCommand (leaf shape) sub → AddsSubcommand old sub new →
    IsCommand (with_subcommand app shape) new
command_more app shape old new sub is fits adds =
    (adds.shape fits.1 ∙ ap₂ (λ (a b : App). with_subcommand a b.top) is.0 fits.0, adds.globals ∙ ap₂ (λ (a b : Bool). a || b) is.1 fits.1)

-- a command with these commands
pub commands_added : (app : App) (shapes : List Shape) (subs : List Command) (old new : Command) → IsCommand app old → AreEach IsPart shapes subs →
    AddsInTurn AddsSubcommand old subs new → IsCommand (with_subcommands app shapes) new
commands_added app [] [] old new is each adds = subst (λ made. IsCommand app made) adds is
commands_added app (shape ∷ shapes) (sub ∷ subs) old new is each adds =
    commands_added (with_subcommand app shape) shapes subs adds.0 new (command_more app shape old adds.0 sub is each.0 adds.1) each.1 adds.2
commands_added app [] (sub ∷ subs) old new is each adds = absurd each
commands_added app (shape ∷ shapes) [] old new is each adds = absurd each
