-- The edges of the dag by their kinds.
use Rattle.std.specs.Prelude.{◌≡◌, ◌⊎◌, ℕ, List, [], ◌∷◌, ◌++◌, Option, Some, None, Bool, true, false}
use Rattle.model_strands.specs.History.{split, joined, waits, ended, ended_joined, History}
use Rattle.model_strands.specs.Strands.{Status, absent, reserved, running, over, Begun}
use Rattle.model_strands.specs.Blocks.{stack, enclosing}
use Rattle.model_strands.specs.Dag.{Arrives}
use Rattle.dag_drawing.specs.declared.drawing.Edge.{Edge}
use Rattle.dag_drawing.specs.declared.drawing.EdgeKind.{EdgeKind}
use Rattle.dag_drawing.specs.declared.drawing.EdgeKind.TheVariants.{Child, Next, Join}

-- the strand spawned, and the other is the child that began
abbrev pub SpawnsChild : History → ℕ → ℕ → Type 0
SpawnsChild [] strand other = ⊥
SpawnsChild (split spawner child next join first ∷ history) strand other =
    (strand ≡ spawner) × (other ≡ child) ⊎ SpawnsChild history strand other
SpawnsChild (_ ∷ history) strand other = SpawnsChild history strand other

-- the strand spawned, and the other is the next strand of its function
abbrev pub SpawnsNext : History → ℕ → ℕ → Type 0
SpawnsNext [] strand other = ⊥
SpawnsNext (split spawner child next join first ∷ history) strand other =
    (strand ≡ spawner) × (other ≡ next) ⊎ SpawnsNext history strand other
SpawnsNext (_ ∷ history) strand other = SpawnsNext history strand other

-- an edge of the dag, of this kind
abbrev pub EdgeOf : EdgeKind → History → ℕ → ℕ → Type 0
EdgeOf Child history strand other = SpawnsChild history strand other
EdgeOf Next history strand other = SpawnsNext history strand other
EdgeOf Join history strand other = Arrives history strand other × Begun history other

-- the edges of a spawn
abbrev pub forks : ℕ → ℕ → ℕ → List Edge
forks strand child next = record { kind = Child; from = strand; to = child } ∷ record { kind = Next; from = strand; to = next } ∷ []

-- the edge of a strand that ends to the join of the block round it
abbrev pub arrival : ℕ → Option ℕ → List Edge
arrival strand None = []
arrival strand (Some join) = record { kind = Join; from = strand; to = join } ∷ []

-- the edges in order of the events that made them, also those to joins that have not begun
abbrev pub arrows : History → List Edge
arrows [] = []
arrows (split strand child next join first ∷ history) = arrows history ++ forks strand child next
arrows (joined strand join ∷ history) = arrows history ++ arrival strand (enclosing (stack history strand))
arrows (waits strand ∷ history) = arrows history ++ arrival strand (enclosing (stack history strand))
arrows (ended strand ∷ history) = arrows history ++ arrival strand (enclosing (stack history strand))
arrows (ended_joined strand join ∷ history) = arrows history ++ arrival strand (enclosing (stack history strand))
arrows (_ ∷ history) = arrows history

-- a strand of this status has begun
abbrev pub has_begun : Status → Bool
has_begun absent = false
has_begun reserved = false
has_begun running = true
has_begun over = true
