-- Indexes that wrap in a run.
use Rattle.std.specs.Prelude.{◌≡◌, ◌⊎◌, ◌↔◌, ℕ, Option, Some, [], ◌∷◌, List}
use Rattle.std.specs.Ordering.{nat_cmp}
use Rattle.std.specs.BTreeMap.{BTreeMap, get}
use Rattle.model_histories.specs.declared.answer.Entry.{Entry}
use Rattle.model_histories.specs.Entries.{Entries}
use Rattle.model_histories.specs.Shapes.{Shape}
use Rattle.model_bodies.specs.Codes.{Code}
use Rattle.model_bodies.specs.Sound.{IsMain}
use Rattle.frame_steps.specs.Frames.{Wraps}
use Rattle.model_runs.specs.Frames.{Targets, frame_in, said_by}
use Rattle.model_runs.specs.Runs.{IsRunWith}

-- The frame stands, after what it said in these entries, before a statement whose index wraps, and the index is this.
abbrev pub FrameWraps : List Code → Targets → Entries → (frame index : ℕ) → Type 0
FrameWraps functions targets entries frame index =
    Wraps functions (targets frame).function (targets frame).argument (said_by targets entries frame) index

-- The entries are a run, and so stands the frame that asks this entry behind them.
pub record EntryWraps (functions : List Code) (shape : Shape) (entries : Entries) (entry : Entry) (index : ℕ) : Type 0 where
  pub main : ℕ
  pub is_main : IsMain functions main
  pub targets : Targets
  pub run : IsRunWith functions shape main targets entries
  pub wraps : FrameWraps functions targets entries (frame_in entries entry.request.strand) index

-- The index is the first in these entries that wraps at the line.
abbrev pub FirstWrap : List Code → Shape → Entries → (line index : ℕ) → Type 0
FirstWrap functions shape [] line index = ⊥
FirstWrap functions shape (entry ∷ entries) line index =
    FirstWrap functions shape entries line index
    ⊎ (((other : ℕ) → FirstWrap functions shape entries line other → ⊥)
    × (entry.request.line ≡ line) × EntryWraps functions shape entries entry index)

-- the index that is kept for a line
abbrev pub index_at : BTreeMap ℕ ℕ → (line : ℕ) → Option ℕ
index_at wraps line = get nat_cmp wraps line

-- For each line the first index is kept that wraps there, and for no other.
abbrev pub AreWraps : List Code → Shape → Entries → BTreeMap ℕ ℕ → Type 0
AreWraps functions shape entries wraps =
    (line index : ℕ) → (index_at wraps line ≡ Some index) ↔ FirstWrap functions shape entries line index
