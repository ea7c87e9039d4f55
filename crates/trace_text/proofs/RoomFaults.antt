-- A line that says something, and has no room or no right place.
use Rattle.std.proofs.Common.{◌≡◌, ◌≢◌, ℕ, ◌<◌, ◌≤◌, ◌∷◌, [], List, length, true, false, arith, refl, sym, ◌∙◌, subst, ap, ◌+◌, inl, inr}
use Rattle.std.specs.Prelude.{◌⊎◌, Result, Ok, Err, MatchResult, map}
use Rattle.text_words.specs.declared.fault.Cause.{Cause}
use Rattle.text_words.specs.declared.fault.Cause.TheVariants.{NotText, BadNesting, NoMain, TooMany}
use Rattle.trace_text.specs.declared.keyword.Keyword.{Keyword}
use Rattle.trace_text.specs.declared.keyword.Keyword.TheVariants.{Mem as MemWord, Reducer as ReducerWord}
use Rattle.model_accesses.specs.declared.request.Act.{Act}
use Rattle.model_accesses.specs.declared.request.Act.TheVariants as act
use Rattle.text_words.specs.declared.value.Version.{Version}
use Rattle.text_words.specs.declared.fault.TextFault.{TextFault}
use Rattle.text_words.specs.declared.fault.TextFault.TheVariants.{At, Memory}
use Rattle.std.specs.Str.Lines.{strip_carriage_return}
use Rattle.text_words.specs.Text.{words, lines, pieces, IsTextLine}
use Rattle.text_words.specs.Values.{Known, Contents}
use Rattle.trace_text.specs.LineGrammar.{IsArranged}
use Rattle.trace_text.proofs.LineOutcomes.{nowhere}
use Rattle.trace_text.proofs.LineFaults.{arranged_once}
use Rattle.trace_text.specs.Lines.{Placed, table, asks, declares, spelling}
use Rattle.trace_text.specs.Grammar.{Item, Blank, Declared, Reduces, Asked, ItemMeans, IsInOrder, HasRoom, extended, nothing, LineMeans, LinesMean, LinesOfTrace, TextMeans, IsHeader}
use Rattle.text_words.specs.Causes.{IsLowest, cause_number}
use Rattle.trace_text.specs.Faults.{LineFault, LinesFault, FaultOfLines, WordFault, WordsFault}
use Rattle.text_words.specs.declared.value.Mem.{Mem}
use Rattle.text_words.specs.declared.value.Reducer.{Reducer}
use Rattle.text_words.specs.declared.value.TraceLine.{TraceLine}
use Rattle.trace_text.specs.Drafts.{so_far, IsRoomCause, AddsItem, IsRoomFault, IsLineFault, IsBodyFault, IsTextFault, IsTaken, IsStopped}
use Rattle.trace_text.proofs.Outcomes.{clear}

-- an act's keyword declares nothing
asks_no_declaration : (a : Act) → declares (asks a) ≡ false
asks_no_declaration act.Spawn = refl
asks_no_declaration act.Sync = refl
asks_no_declaration act.Call = refl
asks_no_declaration act.Return = refl
asks_no_declaration (act.Read cell) = refl
asks_no_declaration (act.Write cell value) = refl
asks_no_declaration (act.Bump cell value) = refl
asks_no_declaration (act.Update reducer value) = refl
asks_no_declaration (act.Put reducer value) = refl
asks_no_declaration (act.Get reducer) = refl

-- a line that a declaration's keyword begins declares something
pub out_of_order : (at : ℕ) (before : Contents) (ws : List (List ℕ)) (item : Item) (keyword : Keyword) (pairs : List Placed) → ItemMeans at before.known ws item
    → IsArranged table before.known.version ws keyword pairs → declares keyword ≡ true → before.lines ≢ [] → IsInOrder before item → ⊥
out_of_order at before ws Blank keyword pairs m arranged d some order = let e : [] ≡ spelling keyword ∷ arranged.0 = sym m ∙ arranged.1 in cc
out_of_order at before ws (Declared name length) keyword pairs m arranged d some order = some order
out_of_order at before ws (Reduces name monoid) keyword pairs m arranged d some order = some order
out_of_order at before ws (Asked line) keyword pairs m arranged d some order =
    let same : keyword ≡ asks line.request.act = (arranged_once (clear before.known) before.known.version ws keyword (asks line.request.act) pairs m.1.0 arranged m.1.1).0 in
    let clash : true ≡ false = sym d ∙ (ap declares same ∙ asks_no_declaration line.request.act) in
    cc

module _ (at : ℕ) (before : Contents) (line : List ℕ) (item : Item) (text : IsTextLine line) (m : ItemMeans at before.known (words line) item)
    (clean : (cause : Cause) → WordsFault before.known (words line) cause → ⊥) where
  below_nesting : (lower : Cause) → cause_number lower < 7 → LineFault at before line lower → ⊥
  below_nesting NotText l f = f text
  below_nesting BadNesting l f = absurd (omega arith)
  below_nesting TooMany l f = absurd (omega arith)
  below_nesting cause l f = clean cause f

  below_too_many : IsInOrder before item → (lower : Cause) → cause_number lower < 9 → LineFault at before line lower → ⊥
  below_too_many order NotText l f = f text
  below_too_many order BadNesting l f = out_of_order at before (words line) item f.0 f.1 m f.2 f.3 f.4 order
  below_too_many order TooMany l f = absurd (omega arith)
  below_too_many order cause l f = clean cause f

  nesting : (i : Item) → ItemMeans at before.known (words line) i → (IsInOrder before i → ⊥) → LineFault at before line BadNesting
  nesting Blank n f = absurd (f tt)
  nesting (Declared name length) n f = (MemWord, n.0, n.1, refl, f)
  nesting (Reduces name monoid) n f = (ReducerWord, n.0, n.1, refl, f)
  nesting (Asked asked) n f = absurd (f tt)

  too_many : ((4000000 < at) ⊎ (HasRoom before item → ⊥)) → LineFault at before line TooMany
  too_many (inl f) = inl f
  too_many (inr f) = inr (item, m, f)

  pub lowest_of_room : (cause : Cause) → IsRoomCause at before item cause → IsLowest (LineFault at before line) cause
  lowest_of_room BadNesting f = (nesting item m f, below_nesting)
  lowest_of_room TooMany f = (too_many f.1, below_too_many f.0)
  lowest_of_room cause f = absurd f

-- ---- a line whose words have a fault

module _ (at : ℕ) (before : Contents) (line : List ℕ) (text : IsTextLine line) where
  lower_line : (cause : Cause) → cause_number cause < 7 → IsLowest (WordsFault before.known (words line)) cause
      → (lower : Cause) → cause_number lower < cause_number cause → LineFault at before line lower → ⊥
  lower_line cause small f NotText l g = g text
  lower_line cause small f BadNesting l g = absurd (omega arith)
  lower_line cause small f NoMain l g = absurd (omega arith)
  lower_line cause small f TooMany l g = absurd (omega arith)
  lower_line cause small f lower l g = f.1 lower l g

  pub lowest_of_words : (cause : Cause) → IsLowest (WordsFault before.known (words line)) cause → IsLowest (LineFault at before line) cause
  lowest_of_words NotText f = absurd (nowhere (WordFault before.known) f.0.1 NotText (λ place word g. g) f.0.3)
  lowest_of_words BadNesting f = absurd (nowhere (WordFault before.known) f.0.1 BadNesting (λ place word g. g) f.0.3)
  lowest_of_words NoMain f = absurd (nowhere (WordFault before.known) f.0.1 NoMain (λ place word g. g) f.0.3)
  lowest_of_words TooMany f = absurd (nowhere (WordFault before.known) f.0.1 TooMany (λ place word g. g) f.0.3)
  lowest_of_words cause f = (f.0, lower_line cause (omega arith) f)

-- ---- one line

pub line_taken : {U : Type 0} (at : ℕ) (before after : Contents) (line : List ℕ) (item : Item) (r : Result U TextFault) → IsTextLine line
    → ItemMeans at before.known (words line) item → ((cause : Cause) → WordsFault before.known (words line) cause → ⊥)
    → MatchResult r (λ _. AddsItem at before item after) (IsRoomFault at before item)
    → MatchResult r (λ _. (x : Item) × LineMeans at before line x × (after ≡ extended at before x)) (IsLineFault at before line)
line_taken at before after line item (Ok u) text m clean e = (item, (e.0, text, m, e.1, e.2), e.3)
line_taken at before after line item (Err (At bad why)) text m clean e = (e.0, lowest_of_room at before line item text m clean why e.1)
line_taken at before after line item (Err Memory) text m clean e = tt

-- ---- the lines behind the header

-- what the rest means behind the first line, the text means
pub means_on : (n : ℕ) (before after contents : Contents) (text rest : List ℕ) → IsTaken n before text rest after
    → LinesMean (n + 1) after (lines rest) contents → LinesMean n before (lines text) contents
means_on n before after contents text rest taken m =
    subst (λ (t : List (List ℕ)). LinesMean n before t contents) (sym taken.1)
    (taken.3, taken.4, subst (λ (c : Contents). LinesMean (n + 1) c (lines rest) contents) taken.5 m)

-- and the first fault of the rest is that of the text
pub fault_on : (n : ℕ) (before after : Contents) (text rest : List ℕ) (bad : ℕ) (cause : Cause) → IsTaken n before text rest after
    → LinesFault (n + 1) after (lines rest) bad cause → LinesFault n before (lines text) bad cause
fault_on n before after text rest bad cause taken f =
    subst (λ (t : List (List ℕ)). LinesFault n before t bad cause) (sym taken.1)
    (inr (taken.3, taken.4, subst (λ (c : Contents). LinesFault (n + 1) c (lines rest) bad cause) taken.5 f))

pub fault_here : (n : ℕ) (before : Contents) (version : Version) (fault : TextFault) (rest text : List ℕ) → IsStopped n before rest fault
    → ((bad : ℕ) (cause : Cause) → LinesFault n before (lines rest) bad cause → LinesFault 2 (nothing version) (lines text) bad cause) → IsBodyFault version text fault
fault_here n before version (At bad why) rest text f h = h bad why (subst (λ (t : List (List ℕ)). LinesFault n before t bad why) (sym f.2) (inl f.3))
fault_here n before version Memory rest text f h = tt

-- the first line of a text and the others
pub lines_split : (text line rest : List ℕ) → pieces text ≡ line ∷ pieces rest → lines text ≡ strip_carriage_return line ∷ lines rest
lines_split text line rest e = ap (map strip_carriage_return) e

first_line : (text line stripped rest : List ℕ) → pieces text ≡ line ∷ pieces rest → stripped ≡ strip_carriage_return line → lines text ≡ stripped ∷ lines rest
first_line text line stripped rest e s = lines_split text line rest e ∙ ap (λ (l : List ℕ). l ∷ lines rest) (sym s)

-- the first line, read in the general way
pub first_taken : (at : ℕ) (before after : Contents) (text line stripped rest : List ℕ) → pieces text ≡ line ∷ pieces rest → stripped ≡ strip_carriage_return line
    → length rest < length text → (item : Item) × LineMeans at before stripped item × (after ≡ extended at before item) → IsTaken at before text rest after
first_taken at before after text line stripped rest e s l m = (stripped, first_line text line stripped rest e s, l, m.0, m.1, m.2)

pub first_stopped : (at : ℕ) (before : Contents) (text line stripped rest : List ℕ) (fault : TextFault) → pieces text ≡ line ∷ pieces rest → stripped ≡ strip_carriage_return line
    → IsLineFault at before stripped fault → IsStopped at before text fault
first_stopped at before text line stripped rest fault e s f = (stripped, rest, first_line text line stripped rest e s, f)

body_fault : (version : Version) (text first rest : List ℕ) (fault : TextFault) → lines text ≡ first ∷ lines rest → IsHeader first version → IsBodyFault version rest fault
    → IsTextFault text fault
body_fault version text first rest (At bad why) e h f = subst (λ (t : List (List ℕ)). FaultOfLines t bad why) (sym e) (inr (version, h, f))
body_fault version text first rest Memory e h f = tt

-- the version of what was read is that of the header
version_extended : (at : ℕ) (before : Contents) (item : Item) → (extended at before item).known.version ≡ before.known.version
version_extended at before Blank = refl
version_extended at before (Declared name length) = refl
version_extended at before (Reduces name monoid) = refl
version_extended at before (Asked line) = refl

version_kept : (at : ℕ) (before : Contents) (ls : List (List ℕ)) (contents : Contents) → LinesMean at before ls contents → contents.known.version ≡ before.known.version
version_kept at before [] contents m = ap (λ (c : Contents). c.known.version) m
version_kept at before (line ∷ ls) contents m = version_kept (at + 1) (extended at before m.0) ls contents m.2 ∙ version_extended at before m.0

-- a header and the lines behind it
pub lines_of_trace : (version : Version) (first : List ℕ) (rest : List (List ℕ)) (contents : Contents) → IsHeader first version → LinesMean 2 (nothing version) rest contents
    → LinesOfTrace (first ∷ rest) contents
lines_of_trace version first rest contents h m =
    let same : contents.known.version ≡ version = version_kept 2 (nothing version) rest contents m in
    let header : IsHeader first contents.known.version = subst (λ (v : Version). IsHeader first v) (sym same) h in
    let behind : LinesMean 2 (nothing contents.known.version) rest contents = subst (λ (v : Version). LinesMean 2 (nothing v) rest contents) (sym same) m in
    (header, behind)

text_means : (version : Version) (text first rest : List ℕ) (contents : Contents) → lines text ≡ first ∷ lines rest → IsHeader first version
    → LinesMean 2 (nothing version) (lines rest) contents → TextMeans text contents
text_means version text first rest contents e h m =
    subst (λ (t : List (List ℕ)). LinesOfTrace t contents) (sym e) (lines_of_trace version first (lines rest) contents h m)

-- what the lines behind the header come to, the text comes to
pub whole_read : {D : Type 0} (view : D → Contents) (number : D → ℕ) (version : Version) (text first rest : List ℕ) (r : Result D TextFault) → lines text ≡ first ∷ lines rest → IsHeader first version
    → MatchResult r (λ d. LinesMean 2 (nothing version) (lines rest) (view d) × (number d ≡ 1 + length (lines rest)) × (number d ≤ 4000000)) (IsBodyFault version rest)
    → MatchResult r (λ d. TextMeans text (view d) × (number d ≡ length (lines text)) × (number d ≤ 4000000)) (IsTextFault text)
whole_read view number version text first rest (Ok d) e h m = (text_means version text first rest (view d) e h m.0, omega (arith, m.1, ap length e), m.2)
whole_read view number version text first rest (Err fault) e h f = body_fault version text first rest fault e h f

-- what is read, in the parts of a trace
pub assembled : (text : List ℕ) (known : Known) (requests : List TraceLine) (version : Version) (ms mems : List Mem) (rs reducers : List Reducer)
    → known ≡ record { version = version; mems = ms; reducers = rs } → mems ≡ ms → reducers ≡ rs → TextMeans text (so_far known requests)
    → TextMeans text (so_far (record { version = version; mems = mems; reducers = reducers }) requests)
assembled text known requests version ms mems rs reducers e f g m =
    subst (λ (t : List Mem). TextMeans text (so_far (record { version = version; mems = t; reducers = reducers }) requests)) (sym f)
    (subst (λ (t : List Reducer). TextMeans text (so_far (record { version = version; mems = ms; reducers = t }) requests)) (sym g)
    (subst (λ (k : Known). TextMeans text (so_far k requests)) e m))
