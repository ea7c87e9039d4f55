-- What is kept of one pair.
use Rattle.std.specs.Prelude.{ℕ, ◌≡◌, List}
use Rattle.model_histories.specs.declared.answer.Entry.{Entry}
use Rattle.race_pairs.specs.declared.race.Pair.{Pair}
use Rattle.race_explanations.specs.declared.finding.Finding.{Finding}
use Rattle.race_explanations.specs.Settings.{Setting}
use Rattle.race_explanations.specs.Findings.{IsFinding}
use Rattle.race_records.specs.Races.{RaceParts}
use Rattle.race_records.specs.Several.{Kept, with_kept, IsRace}

-- The finding and the race of this pair of the trace with this number were added.
pub record AddsPair (setting : Setting) (trace : ℕ) (entries : List Entry) (old : Kept) (pair : Pair) (new : Kept) : Type 0 where
  pub finding : Finding
  pub is_finding : IsFinding setting trace entries pair finding
  pub race : RaceParts
  pub is_race : IsRace setting entries pair race
  pub new_is : new ≡ with_kept old finding race
