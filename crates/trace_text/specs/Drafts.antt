-- What was read so far, and what one more line makes of it.
use Rattle.std.specs.Prelude.{◌≡◌, ℕ, ◌<◌, ◌≤◌, ◌⊎◌, Option, Some, None, List, [], ◌∷◌, ◌++◌, length}
use denote.Ref.{Bor}
use Rattle.text_words.specs.declared.fault.Cause.{Cause}
use Rattle.text_words.specs.declared.fault.Cause.TheVariants.{BadNesting, TooMany}
use Rattle.text_words.specs.declared.fault.TextFault.{TextFault}
use Rattle.text_words.specs.declared.fault.TextFault.TheVariants.{At, Memory}
use Rattle.text_words.specs.declared.value.Version.{Version}
use Rattle.text_words.specs.declared.value.TraceLine.{TraceLine}
use Rattle.text_words.specs.Text.{lines}
use Rattle.text_words.specs.Limits.{most_lines}
use Rattle.text_words.specs.Values.{Known, Contents}
use Rattle.trace_text.specs.Grammar.{Item, ItemMeans, IsInOrder, HasRoom, LineMeans, extended, nothing}
use Rattle.text_words.specs.Causes.{IsLowest}
use Rattle.trace_text.specs.Plain.{IsSettled}
use Rattle.trace_text.specs.Printing.{entry_text, OfRequest}
use Rattle.trace_text.specs.Faults.{LineFault, HeaderFault, LinesFault, TextFaults}

abbrev pub so_far : Known → List TraceLine → Contents
so_far known lines = record { known = known; lines = lines }

-- Some words say this behind the declarations.
abbrev pub SaysSo : ℕ → Known → Item → Type 0
SaysSo at known item = (words : List (List ℕ)) × ItemMeans at known words item

-- The item fits, and next is what was read with it.
abbrev pub AddsItem : ℕ → Contents → Item → Contents → Type 0
AddsItem at before item next = (at ≤ most_lines) × IsInOrder before item × HasRoom before item × (next ≡ extended at before item)

abbrev pub IsRoomCause : ℕ → Contents → Item → Cause → Type 0
IsRoomCause at before item BadNesting = IsInOrder before item → ⊥
IsRoomCause at before item TooMany = IsInOrder before item × ((most_lines < at) ⊎ (HasRoom before item → ⊥))
IsRoomCause at before item cause = ⊥

-- The fault is of the line with the number `at`, and its cause is so; or memory ran out.
abbrev pub IsFaultOf : (Cause → Type 0) → ℕ → TextFault → Type 0
IsFaultOf Holds at (At line why) = (line ≡ at) × Holds why
IsFaultOf Holds at Memory = Unit {0}

abbrev pub IsRoomFault : ℕ → Contents → Item → TextFault → Type 0
IsRoomFault at before item fault = IsFaultOf (IsRoomCause at before item) at fault

abbrev pub IsLineFault : ℕ → Contents → List ℕ → TextFault → Type 0
IsLineFault at before line fault = IsFaultOf (IsLowest (LineFault at before line)) at fault

-- The first line of the text is taken, the rest stands behind it, and next is what was read with it.
abbrev pub IsTaken : ℕ → Contents → List ℕ → List ℕ → Contents → Type 0
IsTaken at before text rest next =
    (line : List ℕ) × (lines text ≡ line ∷ lines rest) × (length rest < length text)
    × (item : Item) × LineMeans at before line item × (next ≡ extended at before item)

-- The fault is that of the first line of the text.
abbrev pub IsStopped : ℕ → Contents → List ℕ → TextFault → Type 0
IsStopped at before text fault = (line : List ℕ) × (rest : List ℕ) × (lines text ≡ line ∷ lines rest) × IsLineFault at before line fault

-- The first line of the text is one request, and it is taken: where the names are settled, it is the plain line of that request.
pub record IsTold (at : ℕ) (before : Contents) (text rest : List ℕ) (next : Contents) : Type 0 where
  pub front : List ℕ
  pub split : text ≡ front ++ 10 ∷ rest
  pub taken : IsTaken at before text rest next
  pub line : TraceLine
  pub added : next ≡ so_far before.known (before.lines ++ line ∷ [])
  pub exact : IsSettled before.known → front ≡ entry_text before.known (OfRequest line)

-- The first line of the text is such a request, and the rest behind it is given; or nothing is given, and nothing changes.
abbrev pub TellsIfSome : ℕ → Contents → List ℕ → Option (Bor (List ℕ)) → Contents → Type 0
TellsIfSome at before text (Some rest) next = IsTold at before text rest.now next
TellsIfSome at before text None next = next ≡ before

abbrev pub IsHeaderFault : List ℕ → TextFault → Type 0
IsHeaderFault line fault = IsFaultOf (IsLowest (HeaderFault line)) 1 fault

-- The fault is the first of the lines from the number `at` on; or memory ran out.
abbrev pub IsLinesFault : ℕ → Contents → List (List ℕ) → TextFault → Type 0
IsLinesFault at before lines (At line why) = LinesFault at before lines line why
IsLinesFault at before lines Memory = Unit {0}

-- The fault is the first of the lines behind the header.
abbrev pub IsBodyFault : Version → List ℕ → TextFault → Type 0
IsBodyFault version text fault = IsLinesFault 2 (nothing version) (lines text) fault

-- The fault is that of the text; or memory ran out.
abbrev pub IsTextFault : List ℕ → TextFault → Type 0
IsTextFault text (At line why) = TextFaults text line why
IsTextFault text Memory = Unit {0}
