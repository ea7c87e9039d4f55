-- The plain text of what a text means, a line at a time.
use Rattle.std.proofs.Common.{◌≡◌, ◌≢◌, ℕ, suc, ◌+◌, ◌-◌, ◌≤◌, ◌∷◌, ◌++◌, [], List, length, map, true, false, Bool, cond, arith, refl, sym, ap, subst, ◌∙◌, append_assoc, replicate}
use Rattle.std.specs.Prelude.{Option, Some, None, codes, nat_lt, unwrap_or, is_some}
use Rattle.std.specs.List.{AllByRecursion}
use Rattle.std.proofs.lemmas.Bool.Decides.{nat_tests}
use Rattle.std.proofs.lemmas.List.{append-nil}
use Rattle.text_words.specs.declared.value.Version.{Version}
use Rattle.text_words.specs.declared.value.Version.TheVariants.{One, Two}
use Rattle.trace_text.specs.declared.keyword.Keyword.TheVariants.{Mem as MemWord, Reducer as ReducerWord}
use Rattle.text_words.specs.declared.value.Mem.{Mem}
use Rattle.text_words.specs.declared.value.Reducer.{Reducer}
use Rattle.model_reducers.specs.declared.monoid.Monoid.{Monoid}
use Rattle.text_words.specs.declared.value.TraceLine.{TraceLine}
use Rattle.text_words.specs.Text.{lines, words, IsTextLine}
use Rattle.text_words.specs.Limits.{most_lines}
use Rattle.text_words.specs.Values.{Known, Contents, version_spelling}
use Rattle.trace_text.specs.Lines.{OfName, OfNumber, OfMonoid, asks, operands, if_there}
use Rattle.text_words.specs.Declarations.{memory_at, reducer_at}
use Rattle.trace_text.specs.Grammar.{Item, Blank, Declared, Reduces, Asked, LineMeans, LinesMean, LinesOfTrace, TextMeans, IsHeader, extended, nothing}
use Rattle.trace_text.specs.Printing.{spaced, plain_line, Entry, OfMemory, OfReducer, OfRequest, entry_line, mark_of, entry_text, merged_into, declarations, entries, lines_from, plain_lines, plain_text}
use Rattle.trace_text.proofs.Kept.{IsKept, kept_extended, kept_nothing}
use Rattle.trace_text.specs.Plain.{ArePlain}
use Rattle.trace_text.proofs.PlainWords.{words_spaced, text_spaced, AreText, lines_ended}
use Rattle.trace_text.proofs.PlainPlaces.{says_plain}

-- ---- entries

mark_by : (line : TraceLine) (at : ℕ) (mark : Option ℕ) → line.request.line ≡ unwrap_or mark at → line.marked ≡ is_some mark → mark_of line ≡ mark
mark_by line at None e f = ap (λ (b : Bool). cond b (Some line.request.line) None) f
mark_by line at (Some n) e f = ap (λ (b : Bool). cond b (Some line.request.line) None) f ∙ ap Some e

pub memory_first : (mem : Mem) (mems : List Mem) (reducers : List Reducer) → AllByRecursion (λ (r : Reducer). mem.line + 1 ≤ r.line) reducers
    → declarations (mem ∷ mems) reducers ≡ OfMemory mem ∷ declarations mems reducers
memory_first mem mems [] h = refl
memory_first mem mems (r ∷ reducers) h =
    let before : nat_lt mem.line r.line ≡ true = (let l : mem.line + 1 ≤ r.line = h.0 in grind (arith, nat_tests)) in
    ap (λ (b : Bool). cond b (OfMemory mem ∷ declarations mems (r ∷ reducers)) (OfReducer r ∷ merged_into mem (declarations mems) reducers)) before

pub reducer_first : (reducer : Reducer) (mems : List Mem) (reducers : List Reducer) → AllByRecursion (λ (m : Mem). reducer.line + 1 ≤ m.line) mems
    → declarations mems (reducer ∷ reducers) ≡ OfReducer reducer ∷ declarations mems reducers
reducer_first reducer [] reducers h = refl
reducer_first reducer (m ∷ mems) reducers h =
    let after : nat_lt m.line reducer.line ≡ false = (let l : reducer.line + 1 ≤ m.line = h.0 in grind (arith, nat_tests)) in
    ap (λ (b : Bool). cond b (OfMemory m ∷ declarations mems (reducer ∷ reducers)) (OfReducer reducer ∷ merged_into m (declarations mems) reducers)) after

abbrev pub AreLater : {X : Type 0} → (X → ℕ) → ℕ → List X → Type 0
AreLater {X} line at xs = AllByRecursion (λ (x : X). at ≤ line x) xs

pub later_weaker : {X : Type 0} (line : X → ℕ) (at : ℕ) (xs : List X) → AreLater line (at + 1) xs → AreLater line at xs
later_weaker line at [] h = tt
later_weaker line at (x ∷ xs) h = (omega (arith, h.0), later_weaker line at xs h.1)

-- ---- what is left behind what was read so far

pub record IsLeft (at : ℕ) (so_far contents : Contents) : Type 0 where
  pub ms : List Mem
  pub rs : List Reducer
  pub qs : List TraceLine
  pub version_is : contents.known.version ≡ so_far.known.version
  pub mems_are : contents.known.mems ≡ so_far.known.mems ++ ms
  pub reducers_are : contents.known.reducers ≡ so_far.known.reducers ++ rs
  pub lines_are : contents.lines ≡ so_far.lines ++ qs
  pub later_mems : AreLater (λ (m : Mem). m.line) at ms
  pub later_reducers : AreLater (λ (r : Reducer). r.line) at rs
  pub later : AreLater entry_line at (declarations ms rs ++ map OfRequest qs)
  pub closed : so_far.lines ≢ [] → (ms ≡ []) × (rs ≡ [])
  pub means : LinesMean at so_far (lines_from contents.known at (declarations ms rs ++ map OfRequest qs)) contents

left_nothing : (at : ℕ) (so_far contents : Contents) → contents ≡ so_far → IsLeft at so_far contents
left_nothing at so_far contents e = record {
  ms = [];
  rs = [];
  qs = [];
  version_is = ap (λ (c : Contents). c.known.version) e;
  mems_are = ap (λ (c : Contents). c.known.mems) e ∙ sym (append-nil so_far.known.mems);
  reducers_are = ap (λ (c : Contents). c.known.reducers) e ∙ sym (append-nil so_far.known.reducers);
  lines_are = ap (λ (c : Contents). c.lines) e ∙ sym (append-nil so_far.lines);
  later_mems = tt;
  later_reducers = tt;
  later = tt;
  closed = λ _. (refl, refl);
  means = e;
}

-- a blank line before the next entry
blank_before : (known : Known) (at : ℕ) (es : List Entry) (so_far contents : Contents) → at ≤ most_lines → AreLater entry_line (at + 1) es
    → LinesMean (at + 1) so_far (lines_from known (at + 1) es) contents → LinesMean at so_far (lines_from known at es) contents
blank_before known at [] so_far contents l h m = m
blank_before known at (e ∷ es) so_far contents l h m =
    let more : entry_line e - at ≡ suc (entry_line e - (at + 1)) = omega (arith, h.0) in
    subst (λ (n : ℕ). LinesMean at so_far (replicate {A = List ℕ} n [] ++ entry_text known e ∷ lines_from known (entry_line e + 1) es) contents) (sym more)
    (Blank, (l, none_is_text, refl, tt, tt), m)
  where
    none_is_text : IsTextLine []
    none_is_text = λ i d k. absurd (omega arith)

-- an entry on its own line
entry_here : (known : Known) (at : ℕ) (e : Entry) (es : List Entry) (so_far contents : Contents) (item : Item) → entry_line e ≡ at → LineMeans at so_far (entry_text known e) item
    → LinesMean (at + 1) (extended at so_far item) (lines_from known (at + 1) es) contents → LinesMean at so_far (lines_from known at (e ∷ es)) contents
entry_here known at e es so_far contents item same m h =
    let none : entry_line e - at ≡ 0 = omega (arith, same) in
    subst (λ (n : ℕ). LinesMean at so_far (replicate {A = List ℕ} n [] ++ entry_text known e ∷ lines_from known (entry_line e + 1) es) contents) (sym none)
    (subst (λ (n : ℕ). LinesMean at so_far (entry_text known e ∷ lines_from known (n + 1) es) contents) (sym same) (item, m, h))

pub left_blank : (at : ℕ) (so_far contents : Contents) → at ≤ most_lines → IsLeft (at + 1) so_far contents → IsLeft at so_far contents
left_blank at so_far contents l left = record {
  ms = left.ms;
  rs = left.rs;
  qs = left.qs;
  version_is = left.version_is;
  mems_are = left.mems_are;
  reducers_are = left.reducers_are;
  lines_are = left.lines_are;
  later_mems = later_weaker _ at left.ms left.later_mems;
  later_reducers = later_weaker _ at left.rs left.later_reducers;
  later = later_weaker entry_line at _ left.later;
  closed = left.closed;
  means = blank_before contents.known at (declarations left.ms left.rs ++ map OfRequest left.qs) so_far contents l left.later left.means;
}

left_memory : (at : ℕ) (so_far contents : Contents) (line : List ℕ) (name : List ℕ) (length : Option ℕ) → IsKept so_far → LineMeans at so_far line (Declared name length)
    → IsLeft (at + 1) (extended at so_far (Declared name length)) contents → IsLeft at so_far contents
left_memory at so_far contents line name length kept m left =
    let mem : Mem = memory_at at so_far.known.mems name length in
    let says = says_plain so_far.known kept.numbered kept.not_empty (words line) MemWord (OfName name ∷ if_there length) m.2 in
    let text : entry_text contents.known (OfMemory mem) ≡ plain_line so_far.known MemWord (OfName name ∷ if_there length) = memory_text contents.known so_far.known at so_far.known.mems name length in
    let here : LineMeans at so_far (entry_text contents.known (OfMemory mem)) (Declared name length) =
    subst (λ (l : List ℕ). LineMeans at so_far l (Declared name length)) (sym text) (m.0, says.0, says.1, m.3, m.4) in
    let first : declarations (mem ∷ left.ms) left.rs ++ map OfRequest left.qs ≡ OfMemory mem ∷ (declarations left.ms left.rs ++ map OfRequest left.qs) =
    ap (λ (es : List Entry). es ++ map OfRequest left.qs) (memory_first mem left.ms left.rs left.later_reducers) in
    record {
      ms = mem ∷ left.ms;
      rs = left.rs;
      qs = left.qs;
      version_is = left.version_is;
      mems_are = left.mems_are ∙ append_assoc so_far.known.mems (mem ∷ []) left.ms;
      reducers_are = left.reducers_are;
      lines_are = left.lines_are;
      later_mems = (omega arith, later_weaker _ at left.ms left.later_mems);
      later_reducers = later_weaker _ at left.rs left.later_reducers;
      later = subst (λ (es : List Entry). AreLater entry_line at es) (sym first) (omega arith, later_weaker entry_line at _ left.later);
      closed = λ some. absurd (some m.3);
      means = subst (λ (es : List Entry). LinesMean at so_far (lines_from contents.known at es) contents) (sym first)
          (entry_here contents.known at (OfMemory mem) (declarations left.ms left.rs ++ map OfRequest left.qs) so_far contents (Declared name length) refl here left.means);
    }
  where
    memory_text : (known other : Known) (at : ℕ) (mems : List Mem) (name : List ℕ) (length : Option ℕ)
        → entry_text known (OfMemory (memory_at at mems name length)) ≡ plain_line other MemWord (OfName name ∷ if_there length)
    memory_text known other at mems name None = refl
    memory_text known other at mems name (Some n) = refl

left_reducer : (at : ℕ) (so_far contents : Contents) (line : List ℕ) (name : List ℕ) (monoid : Monoid) → IsKept so_far → LineMeans at so_far line (Reduces name monoid)
    → IsLeft (at + 1) (extended at so_far (Reduces name monoid)) contents → IsLeft at so_far contents
left_reducer at so_far contents line name monoid kept m left =
    let reducer : Reducer = reducer_at at name monoid in
    let says = says_plain so_far.known kept.numbered kept.not_empty (words line) ReducerWord (OfName name ∷ OfMonoid monoid ∷ []) m.2 in
    let here : LineMeans at so_far (entry_text contents.known (OfReducer reducer)) (Reduces name monoid) = (m.0, says.0, says.1, m.3, m.4) in
    let first : declarations left.ms (reducer ∷ left.rs) ++ map OfRequest left.qs ≡ OfReducer reducer ∷ (declarations left.ms left.rs ++ map OfRequest left.qs) =
    ap (λ (es : List Entry). es ++ map OfRequest left.qs) (reducer_first reducer left.ms left.rs left.later_mems) in
    record {
      ms = left.ms;
      rs = reducer ∷ left.rs;
      qs = left.qs;
      version_is = left.version_is;
      mems_are = left.mems_are;
      reducers_are = left.reducers_are ∙ append_assoc so_far.known.reducers (reducer ∷ []) left.rs;
      lines_are = left.lines_are;
      later_mems = later_weaker _ at left.ms left.later_mems;
      later_reducers = (omega arith, later_weaker _ at left.rs left.later_reducers);
      later = subst (λ (es : List Entry). AreLater entry_line at es) (sym first) (omega arith, later_weaker entry_line at _ left.later);
      closed = λ some. absurd (some m.3);
      means = subst (λ (es : List Entry). LinesMean at so_far (lines_from contents.known at es) contents) (sym first)
          (entry_here contents.known at (OfReducer reducer) (declarations left.ms left.rs ++ map OfRequest left.qs) so_far contents (Reduces name monoid) refl here left.means);
    }

no_lines : (lines : List TraceLine) (q : TraceLine) → lines ++ q ∷ [] ≢ []
no_lines [] q e = cc
no_lines (line ∷ lines) q e = cc

pub same_known : (known other : Known) → known.version ≡ other.version → known.mems ≡ other.mems → known.reducers ≡ other.reducers → known ≡ other
same_known known other e f g =
    let made : Version → List Mem → List Reducer → Known = λ version mems reducers. record { version = version; mems = mems; reducers = reducers } in
    ap (λ (v : Version). made v known.mems known.reducers) e
    ∙ (ap (λ (ms : List Mem). made other.version ms known.reducers) f ∙ ap (λ (rs : List Reducer). made other.version other.mems rs) g)

left_request : (at : ℕ) (so_far contents : Contents) (line : List ℕ) (asked : TraceLine) → IsKept so_far → LineMeans at so_far line (Asked asked)
    → IsLeft (at + 1) (extended at so_far (Asked asked)) contents → IsLeft at so_far contents
left_request at so_far contents line asked kept m left =
    let a = m.2 in
    let none = left.closed (no_lines so_far.lines asked) in
    let mems : contents.known.mems ≡ so_far.known.mems = left.mems_are ∙ (ap (λ (ms : List Mem). so_far.known.mems ++ ms) none.0 ∙ append-nil so_far.known.mems) in
    let reducers : contents.known.reducers ≡ so_far.known.reducers = left.reducers_are ∙ (ap (λ (rs : List Reducer). so_far.known.reducers ++ rs) none.1 ∙ append-nil so_far.known.reducers) in
    let known : contents.known ≡ so_far.known = same_known contents.known so_far.known left.version_is mems reducers in
    let values = OfNumber asked.request.strand ∷ (operands asked.request.act ++ if_there a.0) in
    let says = says_plain so_far.known kept.numbered kept.not_empty (words line) (asks asked.request.act) values a.1 in
    let mark : mark_of asked ≡ a.0 = mark_by asked at a.0 a.3 a.4 in
    let text : entry_text contents.known (OfRequest asked) ≡ plain_line so_far.known (asks asked.request.act) values =
    ap (λ (k : Known). entry_text k (OfRequest asked)) known
    ∙ ap (λ (o : Option ℕ). plain_line so_far.known (asks asked.request.act) (OfNumber asked.request.strand ∷ (operands asked.request.act ++ if_there o))) mark in
    let here : LineMeans at so_far (entry_text contents.known (OfRequest asked)) (Asked asked) =
    subst (λ (l : List ℕ). LineMeans at so_far l (Asked asked)) (sym text) (m.0, says.0, (a.0, says.1, a.2, a.3, a.4), m.3, m.4) in
    let rest : declarations left.ms left.rs ++ map OfRequest left.qs ≡ map OfRequest left.qs =
    ap (λ (ms : List Mem). declarations ms left.rs ++ map OfRequest left.qs) none.0 ∙ ap (λ (rs : List Reducer). declarations [] rs ++ map OfRequest left.qs) none.1 in
    record {
      ms = [];
      rs = [];
      qs = asked ∷ left.qs;
      version_is = left.version_is;
      mems_are = mems ∙ sym (append-nil so_far.known.mems);
      reducers_are = reducers ∙ sym (append-nil so_far.known.reducers);
      lines_are = left.lines_are ∙ append_assoc so_far.lines (asked ∷ []) left.qs;
      later_mems = tt;
      later_reducers = tt;
      later = (omega (arith, a.2), subst (λ (es : List Entry). AreLater entry_line at es) rest (later_weaker entry_line at _ left.later));
      closed = λ _. (refl, refl);
      means = entry_here contents.known at (OfRequest asked) (map OfRequest left.qs) so_far contents (Asked asked) a.2 here
          (subst (λ (es : List Entry). LinesMean (at + 1) (extended at so_far (Asked asked)) (lines_from contents.known (at + 1) es) contents) rest left.means);
    }

left_by : (at : ℕ) (so_far contents : Contents) (line : List ℕ) (item : Item) → IsKept so_far → LineMeans at so_far line item → IsLeft (at + 1) (extended at so_far item) contents → IsLeft at so_far contents
left_by at so_far contents line Blank kept m left = left_blank at so_far contents m.0 left
left_by at so_far contents line (Declared name length) kept m left = left_memory at so_far contents line name length kept m left
left_by at so_far contents line (Reduces name monoid) kept m left = left_reducer at so_far contents line name monoid kept m left
left_by at so_far contents line (Asked asked) kept m left = left_request at so_far contents line asked kept m left

left_lines : (at : ℕ) (so_far : Contents) (ls : List (List ℕ)) (contents : Contents) → IsKept so_far → LinesMean at so_far ls contents → IsLeft at so_far contents
left_lines at so_far [] contents kept m = left_nothing at so_far contents m
left_lines at so_far (line ∷ ls) contents kept m =
    left_by at so_far contents line m.0 kept m.1 (left_lines (at + 1) (extended at so_far m.0) ls contents (kept_extended at so_far line kept m.0 m.1) m.2)

-- ---- the whole text

texts_of : (at : ℕ) (so_far : Contents) (ls : List (List ℕ)) (contents : Contents) → LinesMean at so_far ls contents → AreText ls
texts_of at so_far [] contents m = tt
texts_of at so_far (line ∷ ls) contents m = (m.1.1, texts_of (at + 1) (extended at so_far m.0) ls contents m.2)

header_words : (version : Version) → ArePlain (codes "cilk" ∷ version_spelling version ∷ [])
header_words One = ((omega arith, (refl, (refl, (refl, (refl, tt))))), ((omega arith, (refl, tt)), tt))
header_words Two = ((omega arith, (refl, (refl, (refl, (refl, tt))))), ((omega arith, (refl, tt)), tt))

pub plain_header : (version : Version) → IsHeader (spaced (codes "cilk" ∷ version_spelling version ∷ [])) version
plain_header version =
    (text_spaced (codes "cilk" ∷ version_spelling version ∷ []) (header_words version), words_spaced (codes "cilk") (version_spelling version ∷ []) (header_words version))

plain_by : (ls : List (List ℕ)) (contents : Contents) → LinesOfTrace ls contents → TextMeans (plain_text contents) contents
plain_by [] contents m = absurd m
plain_by (first ∷ rest) contents m =
    let version = contents.known.version in
    let left = left_lines 2 (nothing version) rest contents (kept_nothing version) m.1 in
    let all : declarations left.ms left.rs ++ map OfRequest left.qs ≡ entries contents =
    ap (λ (ms : List Mem). declarations ms left.rs ++ map OfRequest left.qs) (sym left.mems_are)
    ∙ (ap (λ (rs : List Reducer). declarations contents.known.mems rs ++ map OfRequest left.qs) (sym left.reducers_are)
    ∙ ap (λ (qs : List TraceLine). declarations contents.known.mems contents.known.reducers ++ map OfRequest qs) (sym left.lines_are)) in
    let means : LinesMean 2 (nothing version) (lines_from contents.known 2 (entries contents)) contents =
    subst (λ (es : List Entry). LinesMean 2 (nothing version) (lines_from contents.known 2 es) contents) all left.means in
    let header = plain_header version in
    let same : lines (plain_text contents) ≡ plain_lines contents = lines_ended (plain_lines contents) (header.0, texts_of 2 (nothing version) (lines_from contents.known 2 (entries contents)) contents means) in
    subst (λ (ls : List (List ℕ)). LinesOfTrace ls contents) (sym same) (header, means)

-- what some text means, its plain text means
pub plain_means : (text : List ℕ) (contents : Contents) → TextMeans text contents → TextMeans (plain_text contents) contents
plain_means text contents m = plain_by (lines text) contents m
