-- What a gate keeps of reducers: the names of the strands' branches, the first read of each reducer, and the views of the strands.
use Rattle.std.specs.Prelude.{◌≡◌, ◌<◌, ◌++◌, ◌⊎◌, ℕ, true, List, [], ◌∷◌, length, Option, Some, None, IsTrue}
use Rattle.std.specs.Option.{option_to_list}
use Rattle.model_accesses.specs.declared.kind.Kind.{Kind}
use Rattle.model_accesses.specs.declared.kind.Kind.TheVariants as kind
use Rattle.model_accesses.specs.Table.{is_reducer_read}
use Rattle.model_reducers.specs.declared.monoid.Monoid.{Monoid}
use Rattle.model_accesses.specs.declared.request.Act.{Act}
use Rattle.model_strands.specs.History.{Event, History}
use Rattle.model_strands.specs.Strands.{Running}
use Rattle.model_strands.specs.Legal.{Allowed}
use Rattle.law_strands.specs.Branches.{branch}
use Rattle.branch_names.specs.Names.{Names, Follows}
use Rattle.model_accesses.specs.declared.witness.Witness.{Witness}
use Rattle.model_accesses.specs.Reads.{ReducerRead, IsReadOf}
use Rattle.view_read_rule.specs.Reads.{AreOfOneBranch, Remembers}
use Rattle.model_reducers.specs.Entries.{Entry, strand_of, HasPut}
use Rattle.model_reducers.specs.Steps.{Steps, control, items_of}
use Rattle.law_values.specs.Accesses.{control_steps, AreLegal}
use Rattle.reducer_views.specs.Held.{Holding, Holds, AreNumbers}
use Rattle.model_histories.specs.declared.answer.Answer.{Answer}
use Rattle.model_histories.specs.declared.answer.Answer.TheVariants.{Unset}
use Rattle.model_histories.specs.Entries.{event_between}
use Rattle.model_histories.specs.Legal.{Belongs}
use Rattle.model_races.specs.Verdicts.{IsRefused}
use Rattle.model_races.specs.Reducers.{step_with, read_at}
use Rattle.model_races.specs.ViewReads.{IsRightRead}
use Rattle.model_races.specs.ReducerVerdicts.{IsRightFor}
use Rattle.race_gate.specs.declared.access.ReducerAct.{ReducerAct}
use Rattle.race_gate.specs.declared.access.ReducerAct.TheVariants.{Get}

pub record Books : Type 0 where
  pub branches : Names
  pub reads : List (Option Witness)
  pub views : Holding

-- Of each reducer the puts are among the granted reads, and where there is a read, there is a put.
pub record PutsAreRead (steps : Steps) (earlier : List ReducerRead) (reducer : ℕ) : Type 0 where
  pub read_of : (put : Entry) → HasPut (items_of reducer steps) put →
      (read : ReducerRead) × IsReadOf earlier reducer read × (read.strand ≡ strand_of put)
  pub put_of : (read : ReducerRead) → IsReadOf earlier reducer read → (put : Entry) × HasPut (items_of reducer steps) put

-- The books are those of these steps, with these granted reads.
pub record Keeps (books : Books) (steps : Steps) (earlier : List ReducerRead) : Type 0 where
  pub legal : AreLegal steps
  pub branches : Follows books.branches (control_steps steps)
  pub counted : length books.reads ≡ length books.views.monoids
  pub remembers : Remembers books.reads earlier
  pub one_branch : (reducer : ℕ) → AreOfOneBranch (control_steps steps) earlier reducer
  pub kinds : (reducer : ℕ) (read : ReducerRead) → IsReadOf earlier reducer read → IsTrue (is_reducer_read read.kind)
  pub puts : (reducer : ℕ) → PutsAreRead steps earlier reducer
  pub numbers : AreNumbers steps
  pub views : Holds books.views steps

-- some steps are kept, after which the strand runs
abbrev pub KeepsRunning : Books → ℕ → Type 0
KeepsRunning books strand =
    (steps : Steps) × (earlier : List ReducerRead) × Keeps books steps earlier × Running (control_steps steps) strand

-- what was kept before is kept still
pub record KeepsStill (old new : Books) : Type 0 where
  pub monoids : new.views.monoids ≡ old.views.monoids
  pub keeps : (steps : Steps) (earlier : List ReducerRead) → Keeps old steps earlier → Keeps new steps earlier

-- what was kept before is kept with the event now, where that is allowed
pub record KeepsOn (old new : Books) (event : Event) : Type 0 where
  pub monoids : new.views.monoids ≡ old.views.monoids
  pub keeps : (steps : Steps) (earlier : List ReducerRead) → Keeps old steps earlier → Allowed (control_steps steps) event →
      Keeps new (control event ∷ steps) earlier

-- the act of the strand and its answer are an event, which is allowed after some steps that are kept
abbrev pub TakesEvent : Books → ℕ → Answer → Type 0
TakesEvent books strand answer =
    (act : Act) × (event : Event) × (event_between strand act answer ≡ Some event) ×
    ((steps : Steps) × (earlier : List ReducerRead) × Keeps books steps earlier × Allowed (control_steps steps) event)

-- All earlier reads of the reducer are of the strand's branch, and before a get there is one.
pub record MayRead (history : History) (earlier : List ReducerRead) (strand reducer : ℕ) (new : Kind) : Type 0 where
  pub same_branch : (read : ReducerRead) → IsReadOf earlier reducer read → branch history read.strand ≡ branch history strand
  pub found : new ≡ kind.Get → (read : ReducerRead) × IsReadOf earlier reducer read

-- the answer is a refusal, or that the reducer is unset, and is right
pub record IsRefusal (history : History) (earlier : List ReducerRead) (strand reducer : ℕ) (new : Kind) (answer : Answer) : Type 0 where
  pub right : IsRightRead history earlier strand reducer new answer
  pub none : IsRefused answer ⊎ (answer ≡ Unset)

-- what a strand asked, the answer, and the number of their entry
pub record AnsweredAct : Type 0 where
  pub number : ℕ
  pub strand : ℕ
  pub act : Act
  pub answer : Answer

abbrev pub answered_act : (number strand : ℕ) → Act → Answer → AnsweredAct
answered_act number strand act answer = record { number = number; strand = strand; act = act; answer = answer }

-- The answer to the strand's act after these steps is right, and the books are those of the steps and this one.
pub record IsAnswered (steps : Steps) (earlier : List ReducerRead) (done : AnsweredAct) (books : Books) : Type 0 where
  pub belongs : Belongs done.act done.answer
  pub right : IsRightFor
      (record { monoids = books.views.monoids; history = control_steps steps; steps = steps; earlier = earlier })
      done.strand done.act done.answer
  pub keeps : Keeps books (step_with None done.strand done.act done.answer ∷ steps)
      (earlier ++ option_to_list (read_at done.number done.strand done.act done.answer))

-- it is so after all steps that were kept
pub record AnswersAccess (old new : Books) (done : AnsweredAct) : Type 0 where
  pub monoids : new.views.monoids ≡ old.views.monoids
  pub answered : (steps : Steps) (earlier : List ReducerRead) → Keeps old steps earlier → Running (control_steps steps) done.strand →
      IsAnswered steps earlier done new

-- there is room for an event of control
abbrev pub HasRoom : Books → Type 0
HasRoom books = (books.branches.has_room ≡ true) × (books.views.has_room ≡ true)

-- there is room for the access of a reducer; a get needs none
abbrev pub HasRoomFor : Books → ReducerAct → Type 0
HasRoomFor books (Get reducer) = Unit {0}
HasRoomFor books act = books.views.has_room ≡ true

-- The same of books that there may be. There are none where the program has no reducers.

abbrev pub OpensBooks : Option Books → List Monoid → Type 0
OpensBooks None monoids = monoids ≡ []
OpensBooks (Some books) monoids = (books.views.monoids ≡ monoids) × Keeps books [] []

abbrev pub OptionKeepsStill : Option Books → Option Books → Type 0
OptionKeepsStill None None = Unit {0}
OptionKeepsStill (Some old) (Some new) = KeepsStill old new
OptionKeepsStill old new = ⊥

abbrev pub OptionKeepsOn : Option Books → Option Books → Event → Type 0
OptionKeepsOn None None event = Unit {0}
OptionKeepsOn (Some old) (Some new) event = KeepsOn old new event
OptionKeepsOn old new event = ⊥

-- some steps with this control history are kept
abbrev pub OptionKeepsSome : Option Books → History → Type 0
OptionKeepsSome None history = Unit {0}
OptionKeepsSome (Some books) history =
    (steps : Steps) × (earlier : List ReducerRead) × Keeps books steps earlier × (control_steps steps ≡ history)

abbrev pub OptionKeepsRunning : Option Books → ℕ → Type 0
OptionKeepsRunning None strand = ⊥
OptionKeepsRunning (Some books) strand = KeepsRunning books strand

-- the reducer is there
abbrev pub OptionHasReducer : Option Books → ℕ → Type 0
OptionHasReducer None reducer = ⊥
OptionHasReducer (Some books) reducer = reducer < length books.views.monoids

abbrev pub OptionAnswersAccess : Option Books → Option Books → AnsweredAct → Type 0
OptionAnswersAccess (Some old) (Some new) done = AnswersAccess old new done
OptionAnswersAccess old new done = ⊥
