-- The faults of a text that can be told apart.
use Rattle.std.specs.Prelude.{ℕ, ◌≡◌, ◌-◌, ◌<◌, ◌==◌, Bool, true, false, List, [], ◌∷◌, ◌++◌, if◌then◌else◌}
use Rattle.text_words.specs.Text.{lines}
use Rattle.text_words.specs.Values.{Contents as TraceContents}
use Rattle.trace_text.specs.Grammar.{TextMeans as TraceMeans}
use Rattle.trace_text.specs.Faults.{TextFaults as TraceFaults}
use Rattle.program_text.specs.Drafts.{Contents}
use Rattle.program_text.specs.Grammar.{TextMeans}
use Rattle.program_text.specs.Faults.{TextFaults}
use Rattle.source_quotes.specs.declared.meant.Meant.{Meant}
use Rattle.source_quotes.specs.declared.meant.Meant.TheVariants.{Program, Trace}
use Rattle.source_quotes.specs.Lines.{line_in}
use Rattle.fault_lists.specs.declared.fault.Fault.{Fault}
use Rattle.fault_lists.specs.Doubts.{leaves_doubt, lost_by, follows}

-- the most faults that are told of a text
abbrev pub most_told : ℕ
most_told = 20

-- the most lines that are left out of a text
abbrev pub most_left_out : ℕ
most_left_out = 100

abbrev pub HasMeaning : Meant → List ℕ → Type 0
HasMeaning Program text = (contents : Contents) × TextMeans text contents
HasMeaning Trace text = (contents : TraceContents) × TraceMeans text contents

-- The fault is that of the text: the first faulty line, with the lowest cause in it.
abbrev pub HasFault : Meant → List ℕ → Fault → Type 0
HasFault Program text fault = TextFaults text fault.line fault.why
HasFault Trace text fault = TraceFaults text fault.line fault.why

-- A text in which each byte of the line with this number is a space.
abbrev pub blanked : ℕ → List ℕ → List ℕ
blanked number [] = []
blanked number (byte ∷ bytes) =
    if byte == 10 then byte ∷ blanked (number - 1) bytes else (if number == 1 then 32 else byte) ∷ blanked number bytes

-- What is left of a text that is searched for faults. It is read `looks` times more, and `left` faults more may be told. The lines that were
-- left out are blank in the text, and these names are lost with them.
pub record Remainder : Type 0 where
  pub looks : ℕ
  pub left : ℕ
  pub text : List ℕ
  pub lost : List (List ℕ)

-- at first it is all of the text
abbrev pub all_of : List ℕ → Remainder
all_of text = record { looks = most_left_out; left = most_told; text = text; lost = [] }

-- what is left where the line of a fault is left out too
abbrev pub behind_passed : Meant → (source : List (List ℕ)) → Fault → Remainder → Remainder
behind_passed meant source fault rest = record {
  looks = rest.looks - 1;
  left = rest.left;
  text = blanked fault.line rest.text;
  lost = rest.lost ++ lost_by meant (line_in source fault.line);
}

-- the same, and the fault is told
abbrev pub behind_told : Meant → (source : List (List ℕ)) → Fault → Remainder → Remainder
behind_told meant source fault rest = record (behind_passed meant source fault rest) { left = rest.left - 1 }

-- These faults are told of what is left, and then either there are more, or not.
pub data Lists (meant : Meant) (source : List (List ℕ)) : Remainder → List Fault → Bool → Type 0 where
  -- what is left means something
  whole : {rest : Remainder} → HasMeaning meant rest.text → Lists meant source rest [] false
  -- it is read no more
  unread : {rest : Remainder} (fault : Fault) → HasFault meant rest.text fault → rest.looks ≡ 0 → Lists meant source rest [] true
  -- a fault that may follow from those above is not told
  passed : {rest : Remainder} {told : List Fault} {more : Bool} (fault : Fault) → HasFault meant rest.text fault →
      follows rest.lost (line_in source fault.line) fault.why ≡ true → 0 < rest.looks →
      Lists meant source (behind_passed meant source fault rest) told more → Lists meant source rest told more
  -- one more is not told
  full : {rest : Remainder} (fault : Fault) → HasFault meant rest.text fault →
      follows rest.lost (line_in source fault.line) fault.why ≡ false → 0 < rest.looks → rest.left ≡ 0 → Lists meant source rest [] true
  -- behind this one all is in doubt
  last : {rest : Remainder} {fault : Fault} → HasFault meant rest.text fault →
      follows rest.lost (line_in source fault.line) fault.why ≡ false → 0 < rest.looks → 0 < rest.left →
      leaves_doubt meant source fault.line fault.why ≡ true → Lists meant source rest (fault ∷ []) false
  -- this one is told, and what is behind it
  told : {rest : Remainder} {fault : Fault} {others : List Fault} {more : Bool} → HasFault meant rest.text fault →
      follows rest.lost (line_in source fault.line) fault.why ≡ false → 0 < rest.looks → 0 < rest.left →
      leaves_doubt meant source fault.line fault.why ≡ false →
      Lists meant source (behind_told meant source fault rest) others more → Lists meant source rest (fault ∷ others) more

-- To the faults that are told before, those of what is left are added.
pub record Adds (meant : Meant) (source : List (List ℕ)) (rest : Remainder) (before behind : List Fault) (more : Bool) : Type 0 where
  pub told : List Fault
  pub behind_is : behind ≡ before ++ told
  pub lists : Lists meant source rest told more

-- what is told behind the first fault, by whether all is in doubt there
abbrev pub ListsBehind : Bool → Meant → List ℕ → Fault → List Fault → Bool → Type 0
ListsBehind true meant text first others more = (others ≡ []) × (more ≡ false)
ListsBehind false meant text first others more = Lists meant (lines text) (behind_told meant (lines text) first (all_of text)) others more

-- The first fault is that of the text, and these are told behind it.
abbrev pub ListsFaults : Meant → List ℕ → Fault → List Fault → Bool → Type 0
ListsFaults meant text first others more =
    HasFault meant text first × ListsBehind (leaves_doubt meant (lines text) first.line first.why) meant text first others more
