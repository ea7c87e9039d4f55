-- What holds of evaluations, and of clean runs.
use Rattle.std.specs.Prelude.{◌≡◌, ℕ, List, map, length}
use Rattle.model_reducers.specs.declared.monoid.Monoid.{Monoid}
use Rattle.model_histories.specs.Entries.{Entries}
use Rattle.model_histories.specs.Shapes.{Shape}
use Rattle.model_histories.specs.Legal.{IsLegal}
use Rattle.model_histories.specs.Extensions.{IsClean}
use Rattle.model_races.specs.Memory.{IsMemory}
use Rattle.model_bodies.specs.Codes.{Code}
use Rattle.model_bodies.specs.Sound.{IsSound}
use Rattle.model_bodies.specs.Trees.{Tree}
use Rattle.model_programs.specs.Values.{Registers}
use Rattle.model_programs.specs.Answers.{Origin}
use Rattle.model_programs.specs.Exchanges.{Exchange}
use Rattle.model_programs.specs.Dialogue.{Whole, Dialogue}
use Rattle.model_programs.specs.Evaluation.{Effect, Store, Evaluates}
use Rattle.model_programs.specs.Elisions.{HasMain, EvaluatesProgram, Elides}
use Rattle.model_runs.specs.Runs.{IsFinishedRun}
use Rattle.model_runs.specs.Serial.{IsSerialList}
use Rattle.law_elision.specs.Expansions.{after_all, AreRight, Inserts}
use Rattle.law_elision.specs.Placed.{Placed, own, Expands, numbered}

-- a whole dialogue, with what the spawned functions did inserted, is an evaluation, where each value is the serial one
abbrev pub ExpansionLaw : Type 0
ExpansionLaw =
    (functions : List Code) (monoids : List Monoid) (origin : Origin) (end_line : ℕ) (rest : Tree) (registers : Registers)
    (said : List Exchange) (all : List Effect) →
    Dialogue functions origin Whole end_line rest registers said → Inserts functions monoids said all →
    (store : Store) → AreRight monoids store all →
    Evaluates functions monoids end_line rest registers store all (after_all monoids all store)

-- the entries of the root's frame, with those of each frame behind the split that begins it, are all entries in serial order
abbrev pub SerialListLaw : Type 0
SerialListLaw =
    (shape : Shape) (entries : Entries) →
    IsLegal shape entries → (all : List Placed) × Expands entries (own entries 0) all × IsSerialList entries (map numbered all)

-- what is left of a function does one list of effects, and leaves one store
abbrev pub OneEvaluationLaw : Type 0
OneEvaluationLaw =
    (functions : List Code) (monoids : List Monoid) (end_line : ℕ) (rest : Tree) (registers : Registers) (store : Store)
    (effects others : List Effect) (last other_last : Store) →
    Evaluates functions monoids end_line rest registers store effects last →
    Evaluates functions monoids end_line rest registers store others other_last → (others ≡ effects) × (other_last ≡ last)

-- so a program has one `main`, and one serial elision: one list of effects, and one memory with one list of views
abbrev pub OneElisionLaw : Type 0
OneElisionLaw =
    (functions : List Code) (monoids : List Monoid) (cells : ℕ) (main other_main : Code) → HasMain functions main →
    HasMain functions other_main → (effects others : List Effect) (last other_last : Store) →
    EvaluatesProgram functions monoids cells main effects last → EvaluatesProgram functions monoids cells other_main others other_last →
    (other_main ≡ main) × (others ≡ effects) × (other_last ≡ last)

-- and what is told of it is so wherever there is an evaluation
abbrev pub EvaluatedLaw : Type 0
EvaluatedLaw =
    (functions : List Code) (monoids : List Monoid) (cells : ℕ) (main : Code) → HasMain functions main → (effects : List Effect)
    (last : Store) → EvaluatesProgram functions monoids cells main effects last →
    Elides functions monoids cells last.memory (length effects)

-- so a finished run in which nothing was refused tells how the program ends: with the memory that it leaves, after one request for each entry,
-- and in no other way
abbrev pub CleanElisionLaw : Type 0
CleanElisionLaw =
    (functions : List Code) (shape : Shape) → IsSound shape.cells (length shape.monoids) functions → (entries : Entries) →
    IsFinishedRun functions shape entries → IsClean entries → (memory : List ℕ) → IsMemory shape.cells entries memory →
    Elides functions shape.monoids shape.cells memory (length entries)
