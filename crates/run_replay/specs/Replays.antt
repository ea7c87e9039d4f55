-- What a replay tells of some entries.
use Rattle.std.specs.Prelude.{◌≡◌, ◌⊎◌, ◌<◌, ℕ, suc, List, ◌∷◌, ◌++◌, length, reverse}
use Rattle.model_histories.specs.declared.answer.Entry.{Entry}
use Rattle.model_histories.specs.Entries.{Entries}
use Rattle.model_histories.specs.Shapes.{Shape, most_entries}
use Rattle.model_races.specs.Verdicts.{IsRefused}
use Rattle.model_histories.specs.Extensions.{IsFinished}
use Rattle.model_bodies.specs.Codes.{Code}
use Rattle.model_runs.specs.Runs.{IsRun}

-- a run in which the root function has not returned
abbrev pub IsUnfinishedRun : List Code → Shape → Entries → Type 0
IsUnfinishedRun functions shape entries = IsRun functions shape entries × (IsFinished entries → ⊥)

-- The entry of this number, the oldest having 1, is the first strange one: those before it are a run. With it they are none, or they are
-- too many, or it is a refusal, which may name another witness than the gate does.
pub record IsStrange (functions : List Code) (shape : Shape) (entries : List Entry) (number : ℕ) : Type 0 where
  pub earlier : List Entry
  pub entry : Entry
  pub later : List Entry
  pub all : entries ≡ earlier ++ entry ∷ later
  pub place : number ≡ suc (length earlier)
  pub before : IsRun functions shape (reverse earlier)
  pub strange : (IsRun functions shape (entry ∷ reverse earlier) → ⊥) ⊎ (most_entries < number) ⊎ IsRefused entry.answer
