-- The spawns and calls that enclose what a strand does.
use Rattle.std.specs.Prelude.{ℕ, suc, true, false, List, [], ◌∷◌, length, Option, Some}
use Rattle.model_strands.specs.Updated.{updated}
use Rattle.model_strands.specs.History.{Event, split, call, resumed}
use Rattle.model_histories.specs.Entries.{Entries, event_of}

-- without the first
abbrev pub behind : List ℕ → List ℕ
behind [] = []
behind (number ∷ numbers) = numbers

-- The frames of strands after an event with this number: a child stands in one more than its spawner, its next and the block's join where
-- the spawner stood, and a call goes into one more, which the called function's return leaves.
abbrev pub with_frame : Option Event → ℕ → (ℕ → List ℕ) → ℕ → List ℕ
with_frame (Some (split strand child next join true)) number frames =
    updated (updated (updated frames child (number ∷ frames strand)) next (frames strand)) join (frames strand)
with_frame (Some (split strand child next join false)) number frames =
    updated (updated frames child (number ∷ frames strand)) next (frames strand)
with_frame (Some (call strand)) number frames = updated frames strand (number ∷ frames strand)
with_frame (Some (resumed strand)) number frames = updated frames strand (behind (frames strand))
with_frame event number frames = frames

-- the numbers of the entries of the spawns and calls by which the strand's function was reached from the root, innermost first
abbrev pub frames : Entries → ℕ → List ℕ
frames [] = λ strand. []
frames (entry ∷ entries) = with_frame (event_of entry) (suc (length entries)) (frames entries)
