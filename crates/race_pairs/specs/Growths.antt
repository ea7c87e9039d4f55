-- What one entry more adds to what is kept.
use Rattle.std.specs.Prelude.{◌≡◌, ◌<◌, ℕ, suc, List, [], ◌∷◌, ◌++◌, length, set, Some, Bool, if◌then◌else◌}
use Rattle.model_strands.specs.History.{Event}
use Rattle.model_strands.specs.Legal.{Legal}
use Rattle.model_histories.specs.declared.answer.Entry.{Entry}
use Rattle.model_histories.specs.Entries.{Entries, event_of, control_part}
use Rattle.model_histories.specs.Shapes.{most_entries}
use Rattle.race_pairs.specs.declared.kept.Opener.{Opener}
use Rattle.race_pairs.specs.declared.kept.Frame.{Frame}
use Rattle.race_pairs.specs.declared.kept.Turn.{Turn}
use Rattle.race_pairs.specs.declared.kept.Strand.{Strand}
use Rattle.race_pairs.specs.Frames.{frames}
use Rattle.race_pairs.specs.Lineages.{IsAt, Encloses, AreKept}

-- it is kept of entries that may be one more, and the strand is known
abbrev pub CanGrow : List Frame → List Turn → List Strand → ℕ → Type 0
CanGrow opened turns strands strand =
    (entries : Entries) × AreKept opened turns strands entries × (length entries < most_entries) × (strand < length strands)

-- the entry may come next, and is this event
abbrev pub IsNext : Entries → Entry → Event → Type 0
IsNext entries entry event = (event_of entry ≡ Some event) × Legal (event ∷ control_part entries)

-- one frame more, which was opened where the opener's strand stands
abbrev pub IsFrameMore : List Frame → List Turn → List Strand → Opener → List Frame → Type 0
IsFrameMore opened turns strands opener longer =
    (outer : ℕ) × (longer ≡ opened ++ record { opener = opener; outer = outer } ∷ []) ×
    ((entries : Entries) → AreKept opened turns strands entries → Encloses opened outer (frames entries opener.strand))

-- a strand goes into the frame at a place by the entry with a number
pub record Move : Type 0 where
  pub strand : ℕ
  pub number : ℕ
  pub frame : ℕ

-- one turn more, which is the last of its strand
abbrev pub IsTurnMore : List Turn → List Strand → Move → List Turn → List Strand → Type 0
IsTurnMore turns strands move longer changed =
    (it : Strand) × IsAt strands (suc move.strand) it ×
    (longer ≡ turns ++ record { number = move.number; frame = move.frame; before = it.turn } ∷ []) ×
    (changed ≡ set strands move.strand (record { maker = it.maker; turn = suc (length turns) }))

-- the strands of the spawn of the frame at a place: three where it opens a block, else two
abbrev pub made_by : ℕ → Strand
made_by maker = record { maker = maker; turn = 0 }

abbrev pub strands_made : Bool → ℕ → List Strand
strands_made opens maker = if opens then made_by maker ∷ (made_by maker ∷ (made_by maker ∷ [])) else made_by maker ∷ (made_by maker ∷ [])
