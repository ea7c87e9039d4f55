-- What is wrong with a text that means no program: the first faulty line, and the lowest cause in it.
use Rattle.std.specs.Prelude.{◌≡◌, ◌≢◌, ℕ, ◌+◌, ◌<◌, ◌≤◌, ◌⊎◌, None, List, [], ◌∷◌}
use Rattle.text_words.specs.declared.fault.Cause.{Cause}
use Rattle.text_words.specs.declared.fault.Cause.TheVariants.{NotText, BadHeader, BadNesting, NoMain, TooMany}
use Rattle.text_words.specs.declared.fault.TextFault.{TextFault}
use Rattle.text_words.specs.declared.fault.TextFault.TheVariants.{At, Memory}
use Rattle.text_words.specs.declared.value.Version.{Version}
use Rattle.text_words.specs.Text.{lines, words, IsTextLine}
use Rattle.text_words.specs.Limits.{most_lines}
use Rattle.trace_text.specs.Grammar.{IsHeader}
use Rattle.text_words.specs.Causes.{IsLowest}
use Rattle.trace_text.specs.Faults.{HeaderFault}
use Rattle.trace_text.specs.Drafts.{IsFaultOf}
use Rattle.program_lines.specs.Grammar.{Item, ItemMeans}
use Rattle.program_lines.specs.Faults.{WordsFault}
use Rattle.program_text.specs.Functions.{functions_of}
use Rattle.program_text.specs.Drafts.{Draft, Contents, scope_of}
use Rattle.model_bodies.specs.Codes.{main_of}
use Rattle.program_text.specs.Grammar.{IsSaid, IsInOrder, HasRoom, LineMeans, LinesMean, extended, nothing}

-- ---- lines

-- What is wrong with the line with the number `at`, behind what was read so far, in a text with these functions.
abbrev pub LineFault : List (List ℕ) → ℕ → Draft → List ℕ → Cause → Type 0
LineFault names at so_far line NotText = IsTextLine line → ⊥
LineFault names at so_far line BadNesting =
    (item : Item) × ItemMeans at (scope_of names so_far) (words line) item × (IsInOrder so_far item → ⊥)
LineFault names at so_far line TooMany =
    (most_lines < at)
    ⊎ ((item : Item) × ItemMeans at (scope_of names so_far) (words line) item × (HasRoom so_far item → ⊥))
    ⊎ WordsFault (scope_of names so_far) (words line) TooMany
LineFault names at so_far line BadHeader = ⊥
LineFault names at so_far line NoMain = ⊥
LineFault names at so_far line cause = WordsFault (scope_of names so_far) (words line) cause

-- What is wrong at the end of a text: a function or an `if` has not ended, or there is no `main`.
abbrev pub EndFault : Draft → Cause → Type 0
EndFault so_far BadNesting = so_far.current ≢ None
EndFault so_far NoMain = main_of so_far.functions ≡ None
EndFault so_far cause = ⊥

-- ---- texts

-- The first faulty line among those from the number `at` on is that with the number `bad`, and the cause is its lowest. Behind the last
-- line stands what is wrong with the end.
abbrev pub LinesFault : List (List ℕ) → ℕ → Draft → List (List ℕ) → ℕ → Cause → Type 0
LinesFault names at so_far [] bad cause = (bad ≡ at) × IsLowest (EndFault so_far) cause
LinesFault names at so_far (line ∷ lines) bad cause =
    ((bad ≡ at) × IsLowest (LineFault names at so_far line) cause)
    ⊎ ((item : Item) × LineMeans names at so_far line item × LinesFault names (at + 1) (extended at so_far item) lines bad cause)

abbrev pub FaultOfLines : List (List ℕ) → ℕ → Cause → Type 0
FaultOfLines [] bad cause = (bad ≡ 1) × (cause ≡ BadHeader)
FaultOfLines (first ∷ rest) bad cause =
    ((bad ≡ 1) × IsLowest (HeaderFault first) cause)
    ⊎ ((version : Version) × IsHeader first version × LinesFault (functions_of rest) 2 (nothing version) rest bad cause)

abbrev pub TextFaults : List ℕ → ℕ → Cause → Type 0
TextFaults text bad cause = FaultOfLines (lines text) bad cause

-- The fault is that of the text; or memory ran out.
abbrev pub IsTextFault : List ℕ → TextFault → Type 0
IsTextFault text (At line why) = TextFaults text line why
IsTextFault text Memory = Unit {0}

-- ---- one line, as the code reads it

-- The item has its place and room.
abbrev pub Fits : Draft → Item → Type 0
Fits before item = IsSaid before item × IsInOrder before item × HasRoom before item

-- The item fits, and next is what was read with it.
abbrev pub AddsItem : ℕ → Draft → Item → Draft → Type 0
AddsItem at before item next = (at ≤ most_lines) × IsInOrder before item × HasRoom before item × (next ≡ extended at before item)

abbrev pub IsRoomCause : ℕ → Draft → Item → Cause → Type 0
IsRoomCause at before item BadNesting = IsInOrder before item → ⊥
IsRoomCause at before item TooMany = IsInOrder before item × ((most_lines < at) ⊎ (HasRoom before item → ⊥))
IsRoomCause at before item cause = ⊥

abbrev pub IsRoomFault : ℕ → Draft → Item → TextFault → Type 0
IsRoomFault at before item fault = IsFaultOf (IsRoomCause at before item) at fault

abbrev pub IsLineFault : List (List ℕ) → ℕ → Draft → List ℕ → TextFault → Type 0
IsLineFault names at before line fault = IsFaultOf (IsLowest (LineFault names at before line)) at fault

-- The fault is that of the end, before the line with the number `at`.
abbrev pub IsEndFault : Draft → ℕ → TextFault → Type 0
IsEndFault so_far at fault = IsFaultOf (IsLowest (EndFault so_far)) at fault

-- The fault is the first of these lines, which stand behind the header and behind what was read so far.
abbrev pub IsFaultOfLines : List (List ℕ) → Draft → List (List ℕ) → TextFault → Type 0
IsFaultOfLines names so_far lines (At line why) = LinesFault names 2 so_far lines line why
IsFaultOfLines names so_far lines Memory = Unit {0}

-- The fault is the first of the lines behind the header.
abbrev pub IsBodyFault : Version → List ℕ → TextFault → Type 0
IsBodyFault version text fault = IsFaultOfLines (functions_of (lines text)) (nothing version) (lines text) fault

-- What is left of these lines from the number `at` on decides them: what it means behind what was read, they mean, and its fault is theirs.
pub record DecidesLines (names : List (List ℕ)) (first : Draft) (whole : List (List ℕ))
    (at : ℕ) (before : Draft) (left : List (List ℕ)) : Type 0 where
  pub means : (contents : Contents) → LinesMean names at before left contents → LinesMean names 2 first whole contents
  pub faults : (bad : ℕ) (cause : Cause) → LinesFault names at before left bad cause → LinesFault names 2 first whole bad cause
