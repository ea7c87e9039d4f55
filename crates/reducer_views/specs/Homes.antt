-- Where the views of the strands of a control history are kept.
use Rattle.std.specs.Prelude.{◌≡◌, ◌⊎◌, ℕ, true, false, [], ◌∷◌}
use Rattle.model_strands.specs.Updated.{updated}
use Rattle.model_strands.specs.History.{split, History}
use Rattle.model_strands.specs.Strands.{reserved, status, Running}
use Rattle.model_strands.specs.Dag.{Arrives}

-- A child goes on at its spawner's home and a join at that of the strand that opened its block; a continuation has a home of its own.
abbrev pub home : History → ℕ → ℕ
home [] = λ strand. 0
home (split strand child next join true ∷ history) =
    updated (updated (updated (home history) child (home history strand)) next next) join (home history strand)
home (split strand child next join false ∷ history) = updated (updated (home history) child (home history strand)) next next
home (_ ∷ history) = home history

-- of a join the first continuation of its block, of a continuation the one after it in its block, and else 0
abbrev pub later : History → ℕ → ℕ
later [] = λ strand. 0
later (split strand child next join true ∷ history) = updated (updated (updated (later history) child 0) next 0) join next
later (split strand child next join false ∷ history) = updated (updated (updated (later history) child 0) next 0) (home history strand) next
later (_ ∷ history) = later history

-- the strand runs, or has arrived at a join that has not begun
abbrev pub IsCurrent : History → ℕ → Type 0
IsCurrent history strand = Running history strand ⊎ ((join : ℕ) × (status history join ≡ reserved) × Arrives history strand join)
