-- What a lineage keeps of a history.
use Rattle.std.specs.Prelude.{◌≡◌, ◌⊎◌, ◌<◌, ◌≤◌, ℕ, suc, List, [], ◌∷◌, ◌++◌, length, get_or, Some}
use Rattle.model_strands.specs.declared.spawned.Spawned.{Spawned}
use Rattle.model_strands.specs.Strands.{Begun, unused}
use Rattle.model_strands.specs.Legal.{Legal}
use Rattle.model_histories.specs.declared.answer.Entry.{Entry}
use Rattle.model_histories.specs.Entries.{Entries, control_part}
use Rattle.model_histories.specs.Shapes.{most_entries}
use Rattle.race_pairs.specs.declared.kept.Frame.{Frame}
use Rattle.race_pairs.specs.declared.kept.Turn.{Turn}
use Rattle.race_pairs.specs.declared.kept.Strand.{Strand}
use Rattle.race_pairs.specs.declared.kept.Jump.{Jump}
use Rattle.race_pairs.specs.Makers.{maker}
use Rattle.race_pairs.specs.Jumps.{AreRaised}
use Rattle.race_pairs.specs.Openers.{AreOpeners}
use Rattle.race_pairs.specs.Frames.{frames}

-- how many entries there were, the frames that they opened and the turns that they made, in order, and each strand and its jump by its
-- number
pub record Kept : Type 0 where
  pub count : ℕ
  pub opened : List Frame
  pub turns : List Turn
  pub strands : List Strand
  pub jumps : List Jump

-- the list has the item at this place, from 1 on
pub record IsAt {X : Type 0} (items : List X) (place : ℕ) (item : X) : Type 0 where
  pub index : ℕ
  pub place_is : place ≡ suc index
  pub within : index < length items
  pub item_is : (d : X) → get_or items index d ≡ item

-- the numbers of the openers of the frame at a place and of those round it, innermost first
pub data Encloses (opened : List Frame) : ℕ → List ℕ → Type 0 where
  outermost : Encloses opened 0 []
  inside : {place : ℕ} {numbers : List ℕ} {frame : Frame} → IsAt opened place frame → frame.outer < place → Encloses opened frame.outer numbers →
      Encloses opened place (frame.opener.number ∷ numbers)

-- the opener at a place has this number, and no opener has 0
abbrev pub IsNumberAt : List Frame → ℕ → ℕ → Type 0
IsNumberAt opened place number =
    ((place ≡ 0) × (number ≡ 0)) ⊎ ((frame : Frame) × IsAt opened place frame × (frame.opener.number ≡ number))

-- the strand, which the spawn at a place made, begins in the frame at this place: a child in the one that was opened, all others where its
-- spawner stood
pub data Begins (opened : List Frame) (strand : ℕ) : ℕ → ℕ → Type 0 where
  root : Begins opened strand 0 0
  in_child : {place : ℕ} {frame : Frame} {spawned : Spawned} → IsAt opened place frame → frame.opener.spawned ≡ Some spawned →
      strand ≡ spawned.child → Begins opened strand place place
  beside : {place : ℕ} {frame : Frame} {spawned : Spawned} → IsAt opened place frame → frame.opener.spawned ≡ Some spawned →
      (strand ≡ spawned.child → ⊥) → Begins opened strand place frame.outer

-- the strand stood in the frame at a place from the entry with the first number on, and still before the entry with the other
abbrev pub Stands : List Frame → Entries → ℕ → ℕ → ℕ → ℕ → Type 0
Stands opened entries strand since until place =
    (later earlier : Entries) → later ++ earlier ≡ entries → since ≤ length earlier → length earlier < until → Encloses opened place (frames earlier strand)

-- how a strand began: made by the entry with a number, in the frame at a place
pub record Beginning : Type 0 where
  pub strand : ℕ
  pub made : ℕ
  pub first : ℕ

-- Before the entry with a number the strand has had the turns that lead back from a place to its first frame; before it was made it has no
-- frames.
pub data Stood (opened : List Frame) (turns : List Turn) (entries : Entries) (began : Beginning) : ℕ → ℕ → Type 0 where
  begun : {until : ℕ} → began.made < until → Stands opened entries began.strand began.made until began.first →
      ((later earlier : Entries) → later ++ earlier ≡ entries → length earlier < began.made → frames earlier began.strand ≡ []) →
      Stood opened turns entries began 0 until
  turned : {place until : ℕ} {turn : Turn} → IsAt turns place turn → turn.before < place → turn.number < until →
      Stands opened entries began.strand turn.number until turn.frame → Stood opened turns entries began turn.before turn.number →
      Stood opened turns entries began place until

-- The frames are those of the entries' openers. By its number, each strand has the place of its maker.
pub record AreMade (opened : List Frame) (strands : List Strand) (entries : Entries) : Type 0 where
  pub legal : Legal (control_part entries)
  pub openers : AreOpeners entries opened
  pub len : length strands ≡ unused (control_part entries)
  pub each : (strand : ℕ) (it : Strand) → IsAt strands (suc strand) it → IsNumberAt opened it.maker (maker entries strand)

-- the makers of the strands and their jumps are those of the entries
abbrev pub AreWays : List Frame → List Strand → List Jump → Entries → Type 0
AreWays opened strands jumps entries = AreMade opened strands entries × AreRaised jumps entries

-- they are those of entries in which the two strands have begun
abbrev pub AreSides : List Frame → List Strand → List Jump → Entries → ℕ → ℕ → Type 0
AreSides opened strands jumps entries strand other =
    AreWays opened strands jumps entries × Begun (control_part entries) strand × Begun (control_part entries) other

-- where a strand has stood
pub record HasStood (opened : List Frame) (turns : List Turn) (entries : Entries) (strand : ℕ) (it : Strand) : Type 0 where
  pub first : ℕ
  pub begins : Begins opened strand it.maker first
  pub stood : Stood opened turns entries (record { strand = strand; made = maker entries strand; first = first }) it.turn (suc (length entries))

-- this is kept of the entries
pub record AreKept (opened : List Frame) (turns : List Turn) (strands : List Strand) (entries : Entries) : Type 0 where
  pub made : AreMade opened strands entries
  pub few_turns : length turns ≤ length entries
  pub stood : (strand : ℕ) (it : Strand) → IsAt strands (suc strand) it → HasStood opened turns entries strand it

-- it is kept of some entries
abbrev pub AreSomeKept : List Frame → List Turn → List Strand → Type 0
AreSomeKept opened turns strands = (entries : Entries) × AreKept opened turns strands entries

-- the lineage is that of the entries
pub record IsLineage (kept : Kept) (entries : Entries) : Type 0 where
  pub kept_are : AreKept kept.opened kept.turns kept.strands entries
  pub raised : AreRaised kept.jumps entries
  pub count_is : kept.count ≡ length entries
  pub few : length entries ≤ most_entries

-- it is that of some entries
abbrev pub IsSomeLineage : Kept → Type 0
IsSomeLineage kept = (entries : Entries) × IsLineage kept entries

-- the entry may come next, and there are not too many
abbrev pub MayGrow : Entries → Entry → Type 0
MayGrow entries entry = Legal (control_part (entry ∷ entries)) × (length entries < most_entries)

abbrev pub CanAdd : Kept → Entry → Type 0
CanAdd kept entry = (entries : Entries) × IsLineage kept entries × MayGrow entries entry

-- the lineage is that of entries in which the two strands have begun
abbrev pub AreBegun : Kept → Entries → ℕ → ℕ → Type 0
AreBegun kept entries strand other = IsLineage kept entries × Begun (control_part entries) strand × Begun (control_part entries) other
