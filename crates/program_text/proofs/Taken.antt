-- One line that is read, and the lines behind the header.
use Rattle.std.proofs.Common.{◌≡◌, ◌≢◌, ℕ, ◌<◌, ◌+◌, ◌∷◌, [], List, Bool, true, false, cond, length, arith, refl, sym, ◌∙◌, subst, ap, inl, inr}
use Rattle.std.specs.Prelude.{◌⊎◌, IsTrue, codes, Option, Some, None, Result, Ok, Err, MatchResult, IfOk}
use Rattle.text_words.specs.declared.fault.Cause.{Cause}
use Rattle.text_words.specs.declared.fault.Cause.TheVariants.{NotText, BadHeader, BadWord, BadNumber, UnknownName, TwiceNamed, BadNesting, NoMain, TooMany}
use Rattle.text_words.specs.declared.fault.TextFault.{TextFault}
use Rattle.text_words.specs.declared.fault.TextFault.TheVariants.{At, Memory}
use Rattle.text_words.specs.declared.value.Version.{Version}
use Rattle.text_words.specs.Text.{words, lines, IsTextLine}
use Rattle.trace_text.specs.Grammar.{IsHeader}
use Rattle.text_words.specs.Causes.{IsLowest, cause_number}
use Rattle.text_words.specs.Values.{Known}
use Rattle.program_lines.specs.Scopes.{NameScope}
use Rattle.program_text.specs.declared.open_function.Part.{Part}
use Rattle.program_lines.specs.Grammar.{Item, Blank, Declared, Reduces, Begins, Does, Decides, Otherwise, Ends, ItemMeans}
use Rattle.program_lines.specs.Faults.{WordsFault}
use Rattle.std.specs.List.{position_from}
use Rattle.std.specs.Str.{bytes_eq}
use Rattle.model_bodies.specs.Codes.{Code, main_of}
use Rattle.program_text.specs.Functions.{functions_of}
use Rattle.program_text.specs.Drafts.{Draft, Contents, Open, begun, registers_of, scope_of, held}
use Rattle.program_text.specs.Grammar.{IsInOrder, HasRoom, extended, nothing, LineMeans, LinesMean, LinesOfProgram, TextMeans, ended, ended_by}
use Rattle.program_text.specs.Faults.{LineFault, EndFault, LinesFault, FaultOfLines, IsTextFault, AddsItem, IsRoomCause, IsRoomFault, IsLineFault, IsEndFault, IsFaultOfLines, IsBodyFault, DecidesLines}
use Rattle.program_lines.proofs.Once.{item_once, item_clean}
use Rattle.program_lines.proofs.Crowded.{no_words_fault}

-- the scope that the code makes
pub scope_is : (scope : NameScope) (names : List (List ℕ)) (so_far : Draft) (known : Known) (count : ℕ) (registers : List (List ℕ))
    → scope ≡ record { known = known; functions = names; begun = count; registers = registers } → known ≡ so_far.known → count ≡ begun so_far
    → registers ≡ registers_of so_far.current → scope ≡ scope_of names so_far
scope_is scope names so_far known count registers e f g h =
    let made : Known → ℕ → List (List ℕ) → NameScope = λ k n r. record { known = k; functions = names; begun = n; registers = r } in
    e ∙ (ap (λ (k : Known). made k count registers) f ∙ (ap (λ (n : ℕ). made so_far.known n registers) g ∙ ap (made so_far.known (begun so_far)) h))

module _ (names : List (List ℕ)) (at : ℕ) (before : Draft) (line : List ℕ) (text : IsTextLine line) where
  -- ---- a line that says something, and has no room or no right place

  module _ (item : Item) (m : ItemMeans at (scope_of names before) (words line) item) where
    below_nesting : (lower : Cause) → cause_number lower < 7 → LineFault names at before line lower → ⊥
    below_nesting NotText l f = f text
    below_nesting BadNesting l f = absurd (omega arith)
    below_nesting TooMany l f = absurd (omega arith)
    below_nesting BadHeader l f = f
    below_nesting NoMain l f = f
    below_nesting cause l f = item_clean (scope_of names before) at (words line) item m cause f

    below_too_many : IsInOrder before item → (lower : Cause) → cause_number lower < 9 → LineFault names at before line lower → ⊥
    below_too_many order NotText l f = f text
    below_too_many order BadNesting l f =
        f.2 (subst (λ (t : Item). IsInOrder before t) (item_once at (scope_of names before) (words line) item f.0 m f.1) order)
    below_too_many order TooMany l f = absurd (omega arith)
    below_too_many order BadHeader l f = f
    below_too_many order NoMain l f = f
    below_too_many order cause l f = item_clean (scope_of names before) at (words line) item m cause f

    too_many : ((4000000 < at) ⊎ (HasRoom before item → ⊥)) → LineFault names at before line TooMany
    too_many (inl f) = inl f
    too_many (inr f) = inr (inl (item, m, f))

    pub lowest_of_room : (cause : Cause) → IsRoomCause at before item cause → IsLowest (LineFault names at before line) cause
    lowest_of_room BadNesting f = ((item, m, f), below_nesting)
    lowest_of_room TooMany f = (too_many f.1, below_too_many f.0)
    lowest_of_room cause f = absurd f

    pub line_taken : {U : Type 0} (after : Draft) (r : Result U TextFault) → MatchResult r (λ _. AddsItem at before item after) (IsRoomFault at before item)
        → MatchResult r (λ _. (x : Item) × LineMeans names at before line x × (after ≡ extended at before x)) (IsLineFault names at before line)
    line_taken after (Ok u) e = (item, (e.0, text, m, e.1, e.2), e.3)
    line_taken after (Err (At bad why)) e = (e.0, lowest_of_room why e.1)
    line_taken after (Err Memory) e = tt

  -- ---- a line whose words have a fault

  module _ (cause : Cause) (f : IsLowest (WordsFault (scope_of names before) (words line)) cause) where
    lower_line : (lower : Cause) → cause_number lower < cause_number cause → LineFault names at before line lower → ⊥
    lower_line NotText l g = g text
    lower_line BadHeader l g = g
    lower_line NoMain l g = g
    lower_line BadNesting l g = item_clean (scope_of names before) at (words line) g.0 g.1 cause f.0
    lower_line TooMany l g = absurd (last cause l)
      where
        last : (c : Cause) → 9 < cause_number c → ⊥
        last NotText l = absurd (omega arith)
        last BadHeader l = absurd (omega arith)
        last BadWord l = absurd (omega arith)
        last BadNumber l = absurd (omega arith)
        last UnknownName l = absurd (omega arith)
        last TwiceNamed l = absurd (omega arith)
        last BadNesting l = absurd (omega arith)
        last NoMain l = absurd (omega arith)
        last TooMany l = absurd (omega arith)
    lower_line lower l g = f.1 lower l g

  fault_of_words : (cause : Cause) → WordsFault (scope_of names before) (words line) cause → LineFault names at before line cause
  fault_of_words NotText f = absurd (no_words_fault (scope_of names before) (words line) NotText (λ n. n) f)
  fault_of_words BadHeader f = absurd (no_words_fault (scope_of names before) (words line) BadHeader (λ n. n) f)
  fault_of_words BadNesting f = absurd (no_words_fault (scope_of names before) (words line) BadNesting (λ n. n) f)
  fault_of_words NoMain f = absurd (no_words_fault (scope_of names before) (words line) NoMain (λ n. n) f)
  fault_of_words TooMany f = inr (inr f)
  fault_of_words cause f = f

  pub lowest_of_words : (cause : Cause) → IsLowest (WordsFault (scope_of names before) (words line)) cause → IsLowest (LineFault names at before line) cause
  lowest_of_words cause f = (fault_of_words cause f.0, lower_line cause f)

-- ---- the lines behind the header

module _ (names : List (List ℕ)) (first : Draft) (whole : List (List ℕ)) (n : ℕ) (before : Draft) (ls : List (List ℕ)) (d : DecidesLines names first whole n before ls) where
  -- one line is read
  pub decides_more : (line : List ℕ) (rest : List (List ℕ)) (item : Item) → ls ≡ line ∷ rest → LineMeans names n before line item → DecidesLines names first whole (n + 1) (extended n before item) rest
  decides_more line rest item e m = record {
    means = λ contents k. d.means contents (subst (λ (t : List (List ℕ)). LinesMean names n before t contents) (sym e) (item, m, k));
    faults = λ bad cause k. d.faults bad cause (subst (λ (t : List (List ℕ)). LinesFault names n before t bad cause) (sym e) (inr (item, m, k)));
  }

  pub fault_here : (line : List ℕ) (rest : List (List ℕ)) (fault : TextFault) → ls ≡ line ∷ rest → IsLineFault names n before line fault → IsFaultOfLines names first whole fault
  fault_here line rest (At bad why) e f = d.faults bad why (subst (λ (t : List (List ℕ)). LinesFault names n before t bad why) (sym e) (inl f))
  fault_here line rest Memory e f = tt

  -- all lines are read
  pub decides_end : ls ≡ [] → DecidesLines names first whole n before []
  decides_end e = subst (λ (t : List (List ℕ)). DecidesLines names first whole n before t) e d

-- the end
module _ (before : Draft) where
  nothing_below_nesting : (lower : Cause) → cause_number lower < 7 → EndFault before lower → ⊥
  nothing_below_nesting BadNesting l f = absurd (omega arith)
  nothing_below_nesting NoMain l f = absurd (omega arith)
  nothing_below_nesting cause l f = f

  nothing_below_main : (before.current ≢ None → ⊥) → (lower : Cause) → cause_number lower < 8 → EndFault before lower → ⊥
  nothing_below_main ended BadNesting l f = ended f
  nothing_below_main ended NoMain l f = absurd (omega arith)
  nothing_below_main ended cause l f = f

  pub open_here : before.current ≢ None → IsLowest (EndFault before) BadNesting
  open_here o = (o, nothing_below_nesting)

  pub no_main_here : (before.current ≢ None → ⊥) → main_of before.functions ≡ None → IsLowest (EndFault before) NoMain
  no_main_here o none = (none, nothing_below_main o)

-- the lines with their end
pub ends_here : (names : List (List ℕ)) (first : Draft) (whole : List (List ℕ)) (n : ℕ) (before : Draft) (r : Result ℕ TextFault) → DecidesLines names first whole n before []
    → MatchResult r (λ main. (before.current ≡ None) × (main_of before.functions ≡ Some main)) (IsEndFault before n)
    → MatchResult r (λ _. LinesMean names 2 first whole (held before)) (IsFaultOfLines names first whole)
ends_here names first whole n before (Ok main) d e = d.means (held before) (e.0, (λ none. let is = e.1 in let clash : Some main ≡ None = sym is ∙ none in cc), refl)
ends_here names first whole n before (Err (At bad why)) d e = d.faults bad why e
ends_here names first whole n before (Err Memory) d e = tt

pub main_here : (before : Draft) (n : ℕ) (r : Result ℕ TextFault) → MatchResult r (λ main. (before.current ≡ None) × (main_of before.functions ≡ Some main)) (IsEndFault before n)
    → IfOk r (λ main. main_of before.functions ≡ Some main)
main_here before n (Ok main) e = e.1
main_here before n (Err fault) e = tt

-- ---- the whole text

version_ended_by : (at : ℕ) (before : Draft) (current : Open) (parts : List Part) → (ended_by at before current parts).known.version ≡ before.known.version
version_ended_by at before current [] = refl
version_ended_by at before current (part ∷ parts) = refl

version_ended : (at : ℕ) (before : Draft) (current : Option Open) → (ended at before current).known.version ≡ before.known.version
version_ended at before None = refl
version_ended at before (Some current) = version_ended_by at before current current.parts

version_extended : (at : ℕ) (before : Draft) (item : Item) → (extended at before item).known.version ≡ before.known.version
version_extended at before Blank = refl
version_extended at before (Declared name length) = refl
version_extended at before (Reduces name monoid) = refl
version_extended at before (Begins name parameter) = refl
version_extended at before (Does statement named) = refl
version_extended at before (Decides register) = refl
version_extended at before Otherwise = refl
version_extended at before Ends = version_ended at before before.current

version_kept : (names : List (List ℕ)) (at : ℕ) (before : Draft) (ls : List (List ℕ)) (contents : Contents) → LinesMean names at before ls contents
    → contents.known.version ≡ before.known.version
version_kept names at before [] contents m = ap (λ (c : Contents). c.known.version) m.2
version_kept names at before (line ∷ ls) contents m = version_kept names (at + 1) (extended at before m.0) ls contents m.2 ∙ version_extended at before m.0

-- a header and the lines behind it
pub lines_of_program : (version : Version) (first : List ℕ) (rest : List (List ℕ)) (contents : Contents) → IsHeader first version
    → LinesMean (functions_of rest) 2 (nothing version) rest contents → LinesOfProgram (first ∷ rest) contents
lines_of_program version first rest contents h m =
    let same : contents.known.version ≡ version = version_kept (functions_of rest) 2 (nothing version) rest contents m in
    let header : IsHeader first contents.known.version = subst (λ (v : Version). IsHeader first v) (sym same) h in
    let behind : LinesMean (functions_of rest) 2 (nothing contents.known.version) rest contents =
    subst (λ (v : Version). LinesMean (functions_of rest) 2 (nothing v) rest contents) (sym same) m in
    (header, behind)

text_means : (version : Version) (text first rest : List ℕ) (contents : Contents) → lines text ≡ first ∷ lines rest → IsHeader first version
    → LinesMean (functions_of (lines rest)) 2 (nothing version) (lines rest) contents → TextMeans text contents
text_means version text first rest contents e h m =
    subst (λ (t : List (List ℕ)). LinesOfProgram t contents) (sym e) (lines_of_program version first (lines rest) contents h m)

body_fault : (version : Version) (text first rest : List ℕ) (fault : TextFault) → lines text ≡ first ∷ lines rest → IsHeader first version → IsBodyFault version rest fault
    → IsTextFault text fault
body_fault version text first rest (At bad why) e h f = subst (λ (t : List (List ℕ)). FaultOfLines t bad why) (sym e) (inr (version, h, f))
body_fault version text first rest Memory e h f = tt

-- what the lines behind the header come to, the text comes to
pub whole_read : {D : Type 0} (view : D → Contents) (version : Version) (text first rest : List ℕ) (r : Result D TextFault) → lines text ≡ first ∷ lines rest → IsHeader first version
    → MatchResult r (λ d. LinesMean (functions_of (lines rest)) 2 (nothing version) (lines rest) (view d)) (IsBodyFault version rest) → MatchResult r (λ d. TextMeans text (view d)) (IsTextFault text)
whole_read view version text first rest (Ok d) e h m = text_means version text first rest (view d) e h m
whole_read view version text first rest (Err fault) e h f = body_fault version text first rest fault e h f

-- ---- the function `main`

main_below_by : (from main : ℕ) (functions : List Code) → position_from (λ (code : Code). bytes_eq code.name (codes "main")) from functions ≡ Some main → main < from + length functions
main_below_by from main [] e = cc
main_below_by from main (code ∷ functions) e = by (bytes_eq code.name (codes "main")) e (main_below_by (from + 1) main functions)
  where
    by : (b : Bool) → cond b (Some from) (position_from (λ (c : Code). bytes_eq c.name (codes "main")) (from + 1) functions) ≡ Some main
        → (position_from (λ (c : Code). bytes_eq c.name (codes "main")) (from + 1) functions ≡ Some main → main < from + 1 + length functions) → main < from + length (code ∷ functions)
    by true h later = let same : from ≡ main = cc in omega arith
    by false h later = let l = later h in omega (arith, l)

pub main_below : (functions : List Code) (main : ℕ) → main_of functions ≡ Some main → main < length functions
main_below functions main e = let l = main_below_by 0 main functions e in omega (arith, l)

pub is_none : (current : Option Open) → (current ≢ None → ⊥) → current ≡ None
is_none None h = refl
is_none (Some current) h = absurd (h (λ e. cc))

pub is_shut : (answer : Bool) → answer ≡ false → IsTrue answer → ⊥
is_shut true e t = cc
is_shut false e t = cc
