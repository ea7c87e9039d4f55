-- Whose updates the view of a strand holds.
use Rattle.std.specs.Prelude.{◌≡◌, ◌≢◌, ◌⊎◌, ℕ, [], ◌∷◌}
use Rattle.model_strands.specs.History.{split, joined, ended_joined, History}
use Rattle.model_strands.specs.Strands.{Begun}
use Rattle.model_strands.specs.Dag.{Arrives, Edge}

-- the view of the strand `viewer` holds what `strand` did: a child goes on with its spawner's view, a next begins its own, a join takes
-- those of the strands that arrive at it
abbrev pub Covers : History → ℕ → ℕ → Type 0
Covers [] viewer strand = (viewer ≡ 0) × (strand ≡ 0)
Covers (split spawner child next join first ∷ history) viewer strand =
    ((viewer ≡ child) × ((strand ≡ child) ⊎ Covers history spawner strand)) ⊎ ((viewer ≡ next) × (strand ≡ next)) ⊎
    ((viewer ≢ child) × (viewer ≢ next) × Covers history viewer strand)
Covers (joined last join ∷ history) viewer strand =
    ((viewer ≡ join) ×
    ((strand ≡ join) ⊎ ((arriving : ℕ) × Arrives (joined last join ∷ history) arriving join × Covers history arriving strand))) ⊎
    ((viewer ≢ join) × Covers history viewer strand)
Covers (ended_joined last join ∷ history) viewer strand =
    ((viewer ≡ join) ×
    ((strand ≡ join) ⊎ ((arriving : ℕ) × Arrives (ended_joined last join ∷ history) arriving join × Covers history arriving strand))) ⊎
    ((viewer ≢ join) × Covers history viewer strand)
Covers (_ ∷ history) viewer strand = Covers history viewer strand

-- a begun strand from which no edge leads on
abbrev pub IsSink : History → ℕ → Type 0
IsSink history strand = Begun history strand × ((other : ℕ) → Edge history strand other → ⊥)
