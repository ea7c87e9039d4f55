-- What a function asks stands on the lines of its statements, and of its `end`.
use Rattle.std.proofs.Common.{◌≡◌, ℕ, zero, suc, ◌∷◌, [], List, Some, sym, subst}
use Rattle.std.specs.Prelude.{slice_get}
use Rattle.std.specs.List.{AllByRecursion}
use Rattle.model_accesses.specs.declared.request.Act.{Act}
use Rattle.text_words.specs.declared.value.Version.{Version}
use Rattle.text_words.specs.Names.{IsSecond}
use Rattle.model_bodies.specs.declared.statement.Register.{Register}
use Rattle.model_bodies.specs.declared.statement.Statement.{Statement}
use Rattle.model_bodies.specs.declared.statement.Statement.TheVariants.{If, Else, End}
use Rattle.model_bodies.specs.Codes.{Code}
use Rattle.model_bodies.specs.Trees.{Tree, Done, Step, Choice, and_then, Around, choose, divide, read_of, before, behind, left_of}
use Rattle.model_bodies.specs.Trees as trees
use Rattle.model_programs.specs.Values.{Registers, value_of}
use Rattle.model_programs.specs.Scripts.{script, closing, numbers, Passes, assigned, first_part, second_part, counted}
use Rattle.model_programs.specs.Answers.{Origin}
use Rattle.model_programs.specs.Exchanges.{Exchange}
use Rattle.model_programs.specs.Dialogue.{Extent, Dialogue, stopped, passed, read, write, bump, update, put, get, spawned, called, in_call, synced, returned}
use Rattle.model_programs.specs.Dialogue.{DialogueOf}
use Rattle.run_traces.proofs.Elements.{get_all, append_all}
use Rattle.run_traces.proofs.Marked.{IsLine, IsMarked, AreMarked, IsMarkedCode}

-- the act is one of the version
abbrev pub HasAct : Version → Act → Type 0
HasAct version (Act.Bump cell value) = IsSecond version
HasAct version act = Unit {0}

abbrev pub IsAsked : Version → Exchange → Type 0
IsAsked version x = IsLine x.line × HasAct version x.act

module _ (version : Version) where
  abbrev IsWritten : Tree → Type 0
  IsWritten Done = Unit {0}
  IsWritten (Step statement rest) = IsMarked version statement × IsWritten rest
  IsWritten (Choice line register first second rest) = IsWritten first × IsWritten second × IsWritten rest

  then_written : (tree later : Tree) → IsWritten tree → IsWritten later → IsWritten (and_then tree later)
  then_written Done later w v = v
  then_written (Step statement rest) later w v = (w.0, then_written rest later w.1 v)
  then_written (Choice line register first second rest) later w v = (w.0, w.1, then_written rest later w.2 v)

  abbrev AroundWritten : List Around → Type 0
  AroundWritten [] = Unit {0}
  AroundWritten (one ∷ more) = IsWritten one.second × IsWritten one.rest × AroundWritten more

  abbrev ReadWritten : trees.Read → Type 0
  ReadWritten found = IsWritten found.here × AroundWritten found.around

  chosen_written : (line : ℕ) (register : Register) (first : Tree) (around : List Around) → IsWritten first → AroundWritten around → ReadWritten (choose line register first around)
  chosen_written line register first [] w a = ((w, tt, tt), tt)
  chosen_written line register first (one ∷ more) w a = ((w, a.0, a.1), a.2)

  divided_written : (second : Tree) (around : List Around) → IsWritten second → AroundWritten around → ReadWritten (divide second around)
  divided_written second [] w a = (tt, (w, tt, tt))
  divided_written second (one ∷ more) w a = (tt, (w, a.1, a.2))

  before_written : (statement : Statement) (found : trees.Read) → IsMarked version statement → ReadWritten found → ReadWritten (before statement found)
  before_written (If line register otherwise) found s w = chosen_written line register found.here found.around w.0 w.1
  before_written (Else line after) found s w = divided_written found.here found.around w.0 w.1
  before_written (End line) found s w = (tt, (tt, w.0, w.1))
  before_written statement found s w = ((s, w.0), w.1)

  read_written : (body : List Statement) → AreMarked version body → ReadWritten (read_of body)
  read_written [] all = (tt, tt)
  read_written (statement ∷ body) all = before_written statement (read_of body) all.0 (read_written body all.1)

  behind_written : (around : List Around) → AroundWritten around → IsWritten (behind around)
  behind_written [] a = tt
  behind_written (one ∷ more) a = then_written one.rest (behind more) a.1 (behind_written more a.2)

  script_written : (code : Code) → IsMarkedCode version code → IsWritten (script code)
  script_written code h =
      let w = read_written code.body h.1 in
      then_written (left_of code.body) (closing code.end_line)
      (then_written (read_of code.body).here (behind (read_of code.body).around) w.0 (behind_written (read_of code.body).around w.1)) ((h.0, tt), tt)

  numbers_written : (line : ℕ) (register : Register) (function number remaining : ℕ) (rest : Tree) → IsLine line → IsWritten rest → IsWritten (numbers line register function number remaining rest)
  numbers_written line register function number zero rest l w = ((l, tt), w)
  numbers_written line register function number (suc remaining) rest l w =
      ((l, tt), ((l, tt), numbers_written line register function (suc number) remaining rest l w))

  passes_written : {rest later : Tree} {registers changed : Registers} → Passes rest registers later changed → IsWritten rest → IsWritten later
  passes_written (assigned) w = w.1
  passes_written (first_part {first = first} {rest = rest} held) w = then_written first rest w.0 w.2
  passes_written (second_part {second = second} {rest = rest} held) w = then_written second rest w.1 w.2
  passes_written {registers = registers} (counted {line = line} {function = function} {register = register} {count = count} {rest = rest}) w =
      numbers_written line register function 0 (value_of count registers) rest w.0.0 w.1

  module _ (functions : List Code) (marked : AllByRecursion (IsMarkedCode version) functions) where
    code_marked : (function : ℕ) (code : Code) → slice_get functions function ≡ Some code → IsMarkedCode version code
    code_marked function code h = get_all (IsMarkedCode version) functions function code marked h

    asked : {origin : Origin} {extent : Extent} {end_line : ℕ} {rest : Tree} {registers : Registers} {said : List Exchange} →
        Dialogue functions origin extent end_line rest registers said → IsLine end_line → IsWritten rest → AllByRecursion (IsAsked version) said
    asked stopped l w = tt
    asked (passed p d) l w = asked d l (passes_written p w)
    asked (read a h d) l w = (w.0, asked d l w.1)
    asked (write a h d) l w = (w.0, asked d l w.1)
    asked (bump a h d) l w = (w.0, asked d l w.1)
    asked (update a h d) l w = (w.0, asked d l w.1)
    asked (put a h d) l w = (w.0, asked d l w.1)
    asked (get a h d) l w = (w.0, asked d l w.1)
    asked (spawned a h d) l w = (w.0, asked d l w.1)
    asked (called {inner = inner} {outer = outer} {function = function} {callee = callee} f i o j) l w =
        let k = code_marked function callee f in
        (w.0, subst (λ (said : List Exchange). AllByRecursion (IsAsked version) said) (sym j) (append_all (IsAsked version) inner outer (asked i k.0 (script_written callee k)) (asked o l w.1)))
    asked (in_call {function = function} {callee = callee} f i) l w =
        let k = code_marked function callee f in
        (w.0, asked i k.0 (script_written callee k))
    asked (synced a h d) l w = (w.0, asked d l w.1)
    asked (returned a h) l w = ((l, tt), tt)

    -- what a spawned function asks
    pub spawned_asked : (function argument : ℕ) (extent : Extent) (said : List Exchange) → DialogueOf functions function argument extent said → AllByRecursion (IsAsked version) said
    spawned_asked function argument extent said d =
        let k = code_marked function d.code d.there in
        asked d.says k.0 (script_written d.code k)
