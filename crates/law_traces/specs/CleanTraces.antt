-- What a clean history says of each order in which its strands can come.
use Rattle.std.specs.Prelude.{◌≡◌, ℕ}
use Rattle.model_strands.specs.History.{History}
use Rattle.model_strands.specs.Legal.{Legal}
use Rattle.model_strands.specs.Extensions.{Extends}
use Rattle.model_strands.specs.Address.{Address}
use Rattle.model_histories.specs.Entries.{Entries, control_part}
use Rattle.model_histories.specs.Shapes.{Shape}
use Rattle.model_histories.specs.Extensions.{IsClean}
use Rattle.model_races.specs.ViewReads.{Completes}
use Rattle.model_races.specs.Judged.{IsJudged}
use Rattle.law_interleavings.specs.Asked.{asked_at, values_at, AsksNoMore}
use Rattle.law_interleavings.specs.Laws.{LeaveTheSame, IsAnsweredAlike}
use Rattle.law_traces.specs.Locations.{HasRaceAt, HasViewRaceAt}

-- no location has a race
pub record IsRaceFree (entries : Entries) : Type 0 where
  -- no two accesses of a cell, granted or not, conflict and are of parallel strands, in the dag at hand and in that of each legal longer history
  pub cells : (whole : History) → Extends whole (control_part entries) → Legal whole → (cell : ℕ) → HasRaceAt whole entries cell → ⊥
  -- no two puts or gets of a reducer are of strands with other peers, in the dag of each finished extension
  pub reducers : (whole : History) → Completes whole (control_part entries) → (reducer : ℕ) → HasViewRaceAt whole entries reducer → ⊥

-- at each address the two ask the same, control included
abbrev pub AskTheSame : Entries → Entries → Type 0
AskTheSame entries other = (place : Address) → asked_at entries place ≡ asked_at other place

-- A history in which the strands of the clean one come in another order, and ask the same: nothing is refused in it, no location has a race,
-- each act is given the same value, and the same memory is left.
pub record IsOrderOf (shape : Shape) (clean entries : Entries) : Type 0 where
  pub is_clean : IsClean entries
  pub race_free : IsRaceFree entries
  pub values : (place : Address) → values_at entries place ≡ values_at clean place
  pub memory : LeaveTheSame shape entries clean

-- No location has a race, whatever asks the same is an order of it, and whatever asks at each address what it begins with there has no race
-- either and is answered alike: where that one is finished, it asks all of it and leaves the same memory.
pub record SpeaksForOrders (shape : Shape) (clean : Entries) : Type 0 where
  pub race_free : IsRaceFree clean
  pub orders : (entries : Entries) → IsJudged shape entries → AskTheSame entries clean → IsOrderOf shape clean entries
  pub parts : (entries : Entries) → IsJudged shape entries → AsksNoMore entries clean → IsRaceFree entries × IsAnsweredAlike shape clean entries
