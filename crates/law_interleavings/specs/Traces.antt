-- What the frames of a history did, without the numbers of its strands. With each act stands a note: what else of the entry is to be the same
-- where the act is.
use Rattle.std.specs.Prelude.{◌≡◌, ◌⊎◌, ◌<◌, ◌==◌, ℕ, suc, true, List, [], ◌∷◌, length, Option, if◌then◌else◌}
use Rattle.model_strands.specs.Address.{Address, child, extended}
use Rattle.law_addresses.specs.Address.{reaches}
use Rattle.model_accesses.specs.declared.request.Act.{Act}
use Rattle.model_strands.specs.Updated.{updated}
use Rattle.model_strands.specs.History.{split, History}
use Rattle.model_strands.specs.Addresses.{address}
use Rattle.model_histories.specs.declared.answer.Entry.{Entry}
use Rattle.model_histories.specs.Entries.{Entries, control_part}
use Rattle.model_runs.specs.Frames.{frame_in, next_frame}
use Rattle.model_runs.specs.Serial.{value_given}
use Rattle.law_interleavings.specs.Fronts.{Front, first_front, moved}

-- the note of an entry, by the number of the frame that it begins where it is a split
abbrev pub Notes : Type 0 → Type 0
Notes Note = (begins : ℕ) → Entry → Note

-- what was asked, with its note, and the value that was given
pub record Spoken (Note : Type 0) : Type 0 where
  pub act : Act
  pub note : Note
  pub value : Option ℕ

abbrev pub spoken_of : {Note : Type 0} → Notes Note → (begins : ℕ) → Entry → Spoken Note
spoken_of notes begins entry =
    record { act = entry.request.act; note = notes begins entry; value = value_given entry.answer }

-- what a frame did, the newest first
abbrev pub spoken_by : {Note : Type 0} → Notes Note → Entries → ℕ → List (Spoken Note)
spoken_by notes [] frame = []
spoken_by notes (entry ∷ entries) frame =
    if frame_in entries entry.request.strand == frame
    then spoken_of notes (next_frame entries) entry ∷ spoken_by notes entries frame
    else spoken_by notes entries frame

-- the address of a frame's first strand
abbrev pub beginning : History → ℕ → Address
beginning [] = λ frame. []
beginning (split strand the_child the_next the_join first ∷ history) =
    updated (beginning history) (suc (length history)) (extended (address history strand) child)
beginning (_ ∷ history) = beginning history

-- where a frame is that began there and did this
abbrev pub walk : {Note : Type 0} → Address → List (Spoken Note) → Front
walk begin [] = first_front begin
walk begin (one ∷ before) = moved (walk begin before) one.act

-- one deed of a frame, which began there and did this before
pub record Occurrence (Note : Type 0) : Type 0 where
  pub begin : Address
  pub newest : Spoken Note
  pub earlier : List (Spoken Note)

-- the address of the strand that did it
abbrev pub occurrence_address : {Note : Type 0} → Occurrence Note → Address
occurrence_address item = (walk item.begin item.earlier).here

abbrev pub occurrence_of : {Note : Type 0} → Notes Note → Entries → Entry → Occurrence Note
occurrence_of notes entries entry =
    record {
      begin = beginning (control_part entries) (frame_in entries entry.request.strand);
      newest = spoken_of notes (next_frame entries) entry;
      earlier = spoken_by notes entries (frame_in entries entry.request.strand);
    }

-- the deeds of a history, the newest first
abbrev pub trace : {Note : Type 0} → Notes Note → Entries → List (Occurrence Note)
trace notes [] = []
trace notes (entry ∷ entries) = occurrence_of notes entries entry ∷ trace notes entries

-- one deed comes before another in every interleaving: its strand reaches the other's, or their frame did it earlier
abbrev pub Precedes : {Note : Type 0} → Occurrence Note → Occurrence Note → Type 0
Precedes one other =
    ((reaches (occurrence_address one) (occurrence_address other) ≡ true) × (occurrence_address one ≡ occurrence_address other → ⊥)) ⊎
    ((one.begin ≡ other.begin) × (length one.earlier < length other.earlier))

-- the second list began with the first, both the newest first
abbrev pub IsLaterOf : {Note : Type 0} → List (Spoken Note) → List (Spoken Note) → Type 0
IsLaterOf before [] = before ≡ []
IsLaterOf before (one ∷ all) = (before ≡ one ∷ all) ⊎ IsLaterOf before all
