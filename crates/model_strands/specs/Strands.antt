-- Which strands have begun, which of them run, and which number is the next to be given.
use Rattle.std.specs.Prelude.{◌≡◌, ◌⊎◌, ℕ, ◌+◌, true, false, [], ◌∷◌}
use Rattle.model_strands.specs.Updated.{updated}
use Rattle.model_strands.specs.History.{split, joined, waits, ended, ended_joined, finished, History}

-- A number is absent, or reserved for a join, until its strand begins; the strand runs until it ends, and is over from then on.
pub data Status : Type 0 where
  absent reserved running over : Status

abbrev pub status : History → ℕ → Status
status [] = updated (λ number. absent) 0 running
status (split strand child next join true ∷ history) =
    updated (updated (updated (updated (status history) strand over) child running) next running) join reserved
status (split strand child next join false ∷ history) = updated (updated (updated (status history) strand over) child running) next running
status (joined strand join ∷ history) = updated (updated (status history) strand over) join running
status (waits strand ∷ history) = updated (status history) strand over
status (ended strand ∷ history) = updated (status history) strand over
status (ended_joined strand join ∷ history) = updated (updated (status history) strand over) join running
status (finished strand ∷ history) = updated (status history) strand over
status (_ ∷ history) = status history

abbrev pub Running : History → ℕ → Type 0
Running history strand = status history strand ≡ running

-- running, or over
abbrev pub Begun : History → ℕ → Type 0
Begun history strand = (status history strand ≡ running) ⊎ (status history strand ≡ over)

-- the least number that no strand and no reserved join has
abbrev pub unused : History → ℕ
unused [] = 1
unused (split strand child next join true ∷ history) = 3 + unused history
unused (split strand child next join false ∷ history) = 2 + unused history
unused (_ ∷ history) = unused history
