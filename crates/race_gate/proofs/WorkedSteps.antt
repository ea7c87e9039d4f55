-- What worked histories have in common: accesses without a race, and the steps up to the first spawn.
use Rattle.std.proofs.Common.{◌≡◌, inl, inr, ℕ, true, List, [], ◌∷◌, ◌++◌, refl, subst}
use Rattle.model_accesses.specs.declared.kind.Rule.TheVariants.{Race}
use Rattle.model_accesses.specs.Table.{rule_between}
use Rattle.model_strands.specs.Updated.{updated}
use Rattle.model_strands.specs.History.{split, History}
use Rattle.model_strands.specs.Strands.{Running}
use Rattle.model_strands.specs.Legal.{Allowed, open_split, Legal, start, then}
use Rattle.model_strands.specs.Dag.{IsParallel}
use Rattle.law_strands.specs.Examples.{first_spawn}
use Rattle.model_accesses.specs.Accesses.{Access}
use Rattle.shadow_history.proofs.Added.{listed-cases}
use Rattle.model_races.specs.declared.access.CellAccess.{CellAccess}
use Rattle.model_histories.specs.declared.answer.Answer.TheVariants.{Granted, Value}
use Rattle.model_histories.specs.Entries.{Entries, control_part}
use Rattle.model_races.specs.Accesses.{granted}
use Rattle.model_races.specs.Races.{HasRace}
use Rattle.model_races.specs.Memory.{cell_value}
use Rattle.model_races.specs.Verdicts.{IsRightVerdict}
use Rattle.race_gate.proofs.Races.{none-listed}

-- ---- accesses without a race

module _ (dag : History) (strand : ℕ) (new : CellAccess) where
  -- no access races with the first one
  pub free-at_first : HasRace dag [] strand new → ⊥
  free-at_first race = none-listed race.0 race.1.0

  -- nor does one more that is of another cell, or does not conflict, or is of a strand that is not parallel
  pub free-of_more : (earlier : List Access) (one : Access) → (HasRace dag earlier strand new → ⊥) →
      (one.location ≡ new.location → rule_between one.kind new.kind ≡ Race → IsParallel dag one.strand strand → ⊥) → HasRace dag (earlier ++ one ∷ []) strand new → ⊥
  free-of_more earlier one free none (access, (listed, at, rule, parallel)) = elim (listed-cases earlier one access listed) [
    | inl k ↦ free (access, (k, at, rule, parallel))
    | inr e ↦ none (subst (λ (a : Access). a.location ≡ new.location) e at) (subst (λ (a : Access). rule_between a.kind new.kind ≡ Race) e rule)
        (subst (λ (a : Access). IsParallel dag a.strand strand) e parallel)
  ]

  pub free-of_one : (one : Access) → (one.location ≡ new.location → rule_between one.kind new.kind ≡ Race → IsParallel dag one.strand strand → ⊥) →
      HasRace dag (one ∷ []) strand new → ⊥
  free-of_one one none = free-of_more [] one free-at_first none

-- so it is granted
module _ (entries : Entries) (strand : ℕ) (new : CellAccess) (free : HasRace (control_part entries) (granted entries) strand new → ⊥) where
  pub write-granted : IsRightVerdict entries strand new Granted
  write-granted = record { refused = ((λ t. absurd t), (λ race. absurd (free race))); witness = tt; value = tt }

  pub read-granted : (value : ℕ) → value ≡ cell_value entries new.location → IsRightVerdict entries strand new (Value value)
  read-granted value is = record { refused = ((λ t. absurd t), (λ race. absurd (free race))); witness = tt; value = is }

-- ---- the first spawn

pub root_runs : Running [] 0
unfolding updated
root_runs = refl

pub split_allowed : Allowed [] (split 0 1 2 3 true)
unfolding updated
split_allowed = open_split refl tt refl refl refl

pub first_spawn_legal : Legal first_spawn
first_spawn_legal = then start split_allowed

pub child_runs : Running first_spawn 1
unfolding updated
child_runs = refl

pub next_runs : Running first_spawn 2
unfolding updated
next_runs = refl
