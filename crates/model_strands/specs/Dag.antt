-- The dag of a control history: which strand reaches which, and which are parallel (Feng and Leiserson 1997).
use Rattle.std.specs.Prelude.{◌≡◌, ◌⊎◌, ℕ, [], ◌∷◌, Some}
use Rattle.model_strands.specs.History.{split, joined, waits, ended, ended_joined, History}
use Rattle.model_strands.specs.Strands.{Begun}
use Rattle.model_strands.specs.Blocks.{stack, enclosing}

-- the strand spawned, and the other is the child or the next that began
abbrev pub Forks : History → ℕ → ℕ → Type 0
Forks [] strand other = ⊥
Forks (split spawner child next join first ∷ history) strand other =
    (strand ≡ spawner) × ((other ≡ child) ⊎ (other ≡ next)) ⊎ Forks history strand other
Forks (_ ∷ history) strand other = Forks history strand other

-- the strand ended the join's block by its sync, or was the last strand of a child of that block
abbrev pub Arrives : History → ℕ → ℕ → Type 0
Arrives [] strand join = ⊥
Arrives (joined last own ∷ history) strand join =
    (strand ≡ last) × (enclosing (stack history last) ≡ Some join) ⊎ Arrives history strand join
Arrives (waits last ∷ history) strand join =
    (strand ≡ last) × (enclosing (stack history last) ≡ Some join) ⊎ Arrives history strand join
Arrives (ended last ∷ history) strand join =
    (strand ≡ last) × (enclosing (stack history last) ≡ Some join) ⊎ Arrives history strand join
Arrives (ended_joined last own ∷ history) strand join =
    (strand ≡ last) × (enclosing (stack history last) ≡ Some join) ⊎ Arrives history strand join
Arrives (_ ∷ history) strand join = Arrives history strand join

-- an edge of the dag, whose nodes are the begun strands
abbrev pub Edge : History → ℕ → ℕ → Type 0
Edge history strand other = Forks history strand other ⊎ (Arrives history strand other × Begun history other)

-- a path of steps, perhaps of none
pub data Path (Step : ℕ → ℕ → Type 0) : ℕ → ℕ → Type 0 where
  stay : {strand : ℕ} → Path Step strand strand
  step : {strand between other : ℕ} → Step strand between → Path Step between other → Path Step strand other

abbrev pub Reaches : History → ℕ → ℕ → Type 0
Reaches history strand other = Path (Edge history) strand other

-- there is no path either way
abbrev pub IsParallel : History → ℕ → ℕ → Type 0
IsParallel history strand other = (Reaches history strand other → ⊥) × (Reaches history other strand → ⊥)
