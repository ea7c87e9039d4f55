-- Worked histories of one reducer, the newest entry first, and what they show.
use Rattle.std.specs.Prelude.{ℕ, true, false, [], ◌∷◌}
use Rattle.model_accesses.specs.declared.kind.Kind.TheVariants as kind
use Rattle.model_accesses.specs.declared.kind.Rule.{Rule}
use Rattle.model_accesses.specs.declared.kind.Rule.TheVariants.{View}
use Rattle.model_reducers.specs.declared.monoid.Monoid.TheVariants.{Sum}
use Rattle.model_accesses.specs.declared.request.Act.TheVariants.{Spawn, Sync, Return, Update, Put, Get}
use Rattle.model_accesses.specs.declared.witness.Witness.{Witness}
use Rattle.model_histories.specs.declared.answer.Answer.{Answer}
use Rattle.model_histories.specs.declared.answer.Answer.TheVariants.{Split, Joined, Ended, Granted, Value, Refused}
use Rattle.model_histories.specs.Entries.{Entries}
use Rattle.model_histories.specs.Shapes.{Shape}
use Rattle.model_races.specs.Judged.{IsJudged}
use Rattle.race_gate.specs.Examples.{asked, spawned}

abbrev pub one_sum : Shape
one_sum = record { cells = 0; monoids = Sum ∷ [] }

-- the root function puts 0 and spawns, and the child adds 5
abbrev pub added_by_child : Entries
added_by_child =
    asked 1 (Update 0 5) Granted ∷ asked 0 Spawn (Split (record { child = 1; next = 2; join = 3; first = true })) ∷
    asked 0 (Put 0 0) Granted ∷ []

abbrev pub refused_by_put : Answer
refused_by_put = Refused View (record { entry = 1; strand = 0; kind = kind.Put })

-- the next gets before its sync, and the join gets behind it
abbrev pub early_get : Answer → Entries
early_get answer = asked 3 (Get 0) (Value 5) ∷ asked 2 Sync (Joined 3) ∷ asked 1 Return Ended ∷ asked 2 (Get 0) answer ∷ added_by_child

-- the child puts 5, the next spawns once more, and then the child gets
abbrev pub grown_peers : Answer → Entries
grown_peers answer =
    asked 1 (Get 0) answer ∷ asked 2 Spawn (Split (record { child = 4; next = 5; join = 3; first = false })) ∷
    asked 1 (Put 0 5) Granted ∷ spawned

-- what the worked histories show
pub record WorkedReducers : Type 0 where
  -- before the sync a get is refused by the put, whose strand has other peers, and has no value; behind it the sum is got
  pub early_get_judged : IsJudged one_sum (early_get refused_by_put)
  pub early_get_not_granted : (value : ℕ) → IsJudged one_sum (early_get (Value value)) → ⊥
  -- the strand that put gets its own value, though it has more peers by then than it had at the put, and is not refused
  pub grown_peers_judged : IsJudged one_sum (grown_peers (Value 5))
  pub grown_peers_not_refused : (rule : Rule) (witness : Witness) → IsJudged one_sum (grown_peers (Refused rule witness)) → ⊥
