-- Moments at which all that was done is ordered before all that will be, and what is done to a cell after one taken as done to another.
use Rattle.std.specs.Prelude.{◌≡◌, ℕ, [], ◌∷◌, ◌==◌, if◌then◌else◌}
use Rattle.model_accesses.specs.declared.request.Act.{Act}
use Rattle.model_accesses.specs.declared.request.Act.TheVariants.{Read, Write, Bump}
use Rattle.model_strands.specs.History.{History}
use Rattle.model_strands.specs.Strands.{reserved, status}
use Rattle.model_histories.specs.Entries.{Entries}

-- no function that was spawned is outstanding, and none has returned that is not synced with: no block is open, so no join is kept back
abbrev pub HasNoOpenBlock : History → Type 0
HasNoOpenBlock history = (join : ℕ) → status history join ≡ reserved → ⊥

-- a cell's number, or the fresh one in place of the cell's
abbrev pub renumbered : ℕ → ℕ → ℕ → ℕ
renumbered cell fresh location = if location == cell then fresh else location

-- the act, done to the fresh cell where it is one of the cell
abbrev pub moved : ℕ → ℕ → Act → Act
moved cell fresh (Read location) = Read (renumbered cell fresh location)
moved cell fresh (Write location value) = Write (renumbered cell fresh location) value
moved cell fresh (Bump location value) = Bump (renumbered cell fresh location) value
moved cell fresh act = act

-- the second asks what the first asks, with each act changed so
abbrev pub AskChanged : (Act → Act) → Entries → Entries → Type 0
AskChanged change [] [] = Unit {0}
AskChanged change (entry ∷ entries) (other ∷ others) =
    (other.request.strand ≡ entry.request.strand) × (other.request.act ≡ change entry.request.act) × AskChanged change entries others
AskChanged change entries others = ⊥

-- just the same acts
abbrev pub unchanged : Act → Act
unchanged act = act
