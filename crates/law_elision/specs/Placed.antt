-- The entries of a history with where they stand: their numbers, their frames, and the frames that they begin.
use Rattle.std.specs.Prelude.{◌≡◌, ◌⊎◌, ◌==◌, ℕ, suc, List, [], ◌∷◌, ◌++◌, length, if◌then◌else◌}
use Rattle.model_histories.specs.declared.answer.Entry.{Entry}
use Rattle.model_histories.specs.Entries.{Entries}
use Rattle.model_runs.specs.Frames.{IsSplit, frame_in, next_frame}
use Rattle.model_runs.specs.Serial.{Numbered}

-- an entry with its number, its frame, and the frame that it begins if it is a split
pub record Placed : Type 0 where
  pub number : ℕ
  pub frame : ℕ
  pub begins : ℕ
  pub entry : Entry

-- an entry that comes next
abbrev pub placed_at : Entries → Entry → Placed
placed_at entries entry =
    record { number = suc (length entries); frame = frame_in entries entry.request.strand; begins = next_frame entries; entry = entry }

-- it is one of the entries
abbrev pub IsPlaced : Entries → Placed → Type 0
IsPlaced [] x = ⊥
IsPlaced (entry ∷ entries) x = (x ≡ placed_at entries entry) ⊎ IsPlaced entries x

-- those of one frame, in order
abbrev pub own : Entries → ℕ → List Placed
own [] frame = []
own (entry ∷ entries) frame =
    own entries frame ++ (if frame_in entries entry.request.strand == frame then placed_at entries entry ∷ [] else [])

-- entries of a frame, with those of each frame that they begin behind the split that begins it
pub data Expands (entries : Entries) : List Placed → List Placed → Type 0 where
  none : Expands entries [] []
  alone : {x : Placed} {rest all : List Placed} →
      (IsSplit x.entry.answer → ⊥) → Expands entries rest all → Expands entries (x ∷ rest) (x ∷ all)
  began : {x : Placed} {rest inner outer all : List Placed} → IsSplit x.entry.answer → Expands entries (own entries x.begins) inner →
      Expands entries rest outer → all ≡ inner ++ outer → Expands entries (x ∷ rest) (x ∷ all)

abbrev pub numbered : Placed → Numbered
numbered x = record { number = x.number; entry = x.entry }
