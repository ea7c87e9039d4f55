-- The right answers to puts and gets of reducers.
use Rattle.std.specs.Prelude.{◌≡◌, ℕ, List, [], ◌∷◌, Some}
use Rattle.model_accesses.specs.declared.kind.Kind.TheVariants as kind
use Rattle.model_reducers.specs.declared.monoid.Monoid.{Monoid}
use Rattle.model_accesses.specs.declared.request.Act.{Act}
use Rattle.model_accesses.specs.declared.request.Act.TheVariants.{Put, Get}
use Rattle.model_strands.specs.History.{History}
use Rattle.model_accesses.specs.Reads.{ReducerRead}
use Rattle.model_reducers.specs.Steps.{Steps, items_of}
use Rattle.model_reducers.specs.GetValues.{IsValue}
use Rattle.model_reducers.specs.declared.view.View.{View}
use Rattle.model_reducers.specs.Products.{reducer_of, view_number, monoid_of}
use Rattle.model_histories.specs.declared.answer.Answer.{Answer}
use Rattle.model_histories.specs.Entries.{Entries, control_part}
use Rattle.model_histories.specs.Shapes.{Shape}
use Rattle.model_races.specs.Verdicts.{IfValue}
use Rattle.model_races.specs.Reducers.{steps_of, granted_reads}
use Rattle.model_races.specs.ViewReads.{IsRightRead}

-- The value of a get by the strand after these steps: the last granted put of the reducer, combined by its monoid with the granted updates
-- since then of strands that the put's strand reaches and that reach the get's, in serial order.
abbrev pub IsGetValue : List Monoid → Steps → ℕ → ℕ → ℕ → Type 0
IsGetValue monoids steps strand reducer value =
    (view : View) × IsValue (reducer_of (monoid_of monoids reducer)) (items_of reducer steps) strand view × (view_number view ≡ Some value)

-- what the right answer to a put or a get hangs on: the control history, the steps and the granted reads before it
pub record ReadsBefore : Type 0 where
  pub monoids : List Monoid
  pub history : History
  pub steps : Steps
  pub earlier : List ReducerRead

abbrev pub reads_before : List Monoid → Entries → ReadsBefore
reads_before monoids entries = record {
  monoids = monoids;
  history = control_part entries;
  steps = steps_of entries;
  earlier = granted_reads entries;
}

-- behind these this is the right answer to the strand's act, where that is a put or a get
abbrev pub IsRightFor : ReadsBefore → ℕ → Act → Answer → Type 0
IsRightFor before strand (Put reducer value) answer = IsRightRead before.history before.earlier strand reducer kind.Put answer
IsRightFor before strand (Get reducer) answer =
    IsRightRead before.history before.earlier strand reducer kind.Get answer × IfValue answer (IsGetValue before.monoids before.steps strand reducer)
IsRightFor before strand act answer = Unit {0}

-- each put and each get was answered rightly when it came
abbrev pub ReducersAreJudged : Shape → Entries → Type 0
ReducersAreJudged shape [] = Unit {0}
ReducersAreJudged shape (entry ∷ entries) =
    ReducersAreJudged shape entries ×
    IsRightFor (reads_before shape.monoids entries) entry.request.strand entry.request.act entry.answer
