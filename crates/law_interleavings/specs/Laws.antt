-- One clean history speaks for all interleavings of its strands.
use Rattle.std.specs.Prelude.{◌≡◌, ◌<◌, ℕ}
use Rattle.model_strands.specs.Address.{Address}
use Rattle.model_histories.specs.Entries.{Entries}
use Rattle.model_histories.specs.Shapes.{Shape}
use Rattle.model_histories.specs.Extensions.{IsFinished, IsClean}
use Rattle.model_races.specs.Memory.{cell_value}
use Rattle.model_races.specs.Judged.{IsJudged}
use Rattle.law_interleavings.specs.Asked.{asked_at, values_at, Begins, AsksNoMore}

-- the two histories leave the same memory
abbrev pub LeaveTheSame : Shape → Entries → Entries → Type 0
LeaveTheSame shape entries other = (cell : ℕ) → cell < shape.cells → cell_value entries cell ≡ cell_value other cell

-- Nothing is refused in the history, each act is given the value that it is given in the clean one, and where the history is finished, it
-- asks all that the clean one asks and leaves the same memory.
pub record IsAnsweredAlike (shape : Shape) (clean entries : Entries) : Type 0 where
  pub is_clean : IsClean entries
  pub values : (place : Address) → Begins (values_at entries place) (values_at clean place)
  pub equal : IsFinished entries → (place : Address) → asked_at entries place ≡ asked_at clean place
  pub memory : IsFinished entries → LeaveTheSame shape entries clean

-- Where one judged history is clean, each judged one over the same shape that asks no more at any address is answered alike.
abbrev pub InterleavingLaw : Type 0
InterleavingLaw =
    (shape : Shape) (clean : Entries) → IsJudged shape clean → IsClean clean → (entries : Entries) → IsJudged shape entries →
    AsksNoMore entries clean → IsAnsweredAlike shape clean entries

-- The same where it asks the same at each address: any order in which its strands can come is clean, gives the same values and leaves the
-- same memory.
abbrev pub SameStrandsLaw : Type 0
SameStrandsLaw =
    (shape : Shape) (clean : Entries) → IsJudged shape clean → IsClean clean → (entries : Entries) → IsJudged shape entries →
    ((place : Address) → asked_at entries place ≡ asked_at clean place) →
    IsClean entries × ((place : Address) → values_at entries place ≡ values_at clean place) × LeaveTheSame shape entries clean
