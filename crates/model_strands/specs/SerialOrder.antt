-- The serial order: that of a run in which each child is done before its spawner goes on.
use Rattle.std.specs.Prelude.{◌≡◌, ◌≢◌, ◌⊎◌, ℕ, [], ◌∷◌}
use Rattle.model_strands.specs.History.{split, History}
use Rattle.model_strands.specs.Dag.{Reaches}

-- a split by the strand began this child and this next
abbrev pub Splits : History → ℕ → ℕ → ℕ → Type 0
Splits [] strand child next = ⊥
Splits (split spawner its_child its_next join first ∷ history) strand child next =
    (strand ≡ spawner) × (child ≡ its_child) × (next ≡ its_next) ⊎ Splits history strand child next
Splits (_ ∷ history) strand child next = Splits history strand child next

-- the strand reaches the other and is not the other; or of some split the child reaches the strand and not the other, and the next reaches
-- the other and not the strand
abbrev pub IsSeriallyBefore : History → ℕ → ℕ → Type 0
IsSeriallyBefore history strand other =
    (Reaches history strand other × (strand ≢ other)) ⊎
    ((spawner child next : ℕ) × Splits history spawner child next × Reaches history child strand × (Reaches history child other → ⊥) ×
    Reaches history next other × (Reaches history next strand → ⊥))
