-- What every trace keeps, a line at a time.
use Rattle.std.proofs.Common.{◌≡◌, ℕ, suc, ◌≤◌, ◌+◌, ◌∷◌, ◌++◌, [], List, Bool, true, false, cond, length, length as len, arith, refl, sym, ap, subst, ◌∙◌, inl, inr, zero-add}
use Rattle.std.specs.Prelude.{Option, Some, None, ◌==◌, ◌&&◌, unwrap_or, IsTrue}
use Rattle.std.specs.List.{All, AllByRecursion, position_from}
use Rattle.std.proofs.lemmas.Bool.Decides.{nat_tests}
use Rattle.std.proofs.lemmas.List.{length_push}
use Rattle.std.proofs.lemmas.List.Sums.{sum_by-append}
use Rattle.std.proofs.lemmas.List.Elements.{All-append, All-from_recursion}
use Rattle.model_accesses.specs.declared.request.Act.{Act}
use Rattle.model_accesses.specs.declared.request.Act.TheVariants.{Read, Write, Bump, Update, Put, Get}
use Rattle.text_words.specs.declared.value.Mem.{Mem}
use Rattle.text_words.specs.declared.value.Reducer.{Reducer}
use Rattle.text_words.specs.declared.value.TraceLine.{TraceLine}
use Rattle.text_words.specs.declared.value.Version.{Version}
use Rattle.text_words.specs.Text.{words, lines}
use Rattle.model_accesses.specs.Limits.{most_cells}
use Rattle.model_reducers.specs.Limits.{most_reducers}
use Rattle.text_words.specs.Limits.{most_requests}
use Rattle.text_words.specs.Values.{Known, Contents}
use Rattle.text_words.specs.Names.{CellMeans}
use Rattle.std.specs.Option.{option_to_list}
use Rattle.trace_text.proofs.LineOutcomes.{first_means, last_means}
use Rattle.trace_text.specs.Lines.{Place, FreshName, Number, Placed, placed, Value, OfName, OfNumber, WordMeans, WordsMean, Cell, ReducerName, a_strand, a_value, Mark, wanted, optional, asks, operands, if_there}
use Rattle.text_words.specs.Declarations.{cells_of, memory_at, reducer_at}
use Rattle.trace_text.specs.Grammar.{Item, Blank, Declared, Reduces, Asked, ItemMeans, LineMeans, LinesMean, LinesOfTrace, TextMeans, extended, nothing}
use Rattle.trace_text.specs.Shapes.{is_numbered, cells_used, reducers_used, IsWithin}
use Rattle.trace_text.proofs.CellWords.{found_of_all}

pub record IsKept (contents : Contents) : Type 0 where
  pub numbered : IsTrue (is_numbered 0 contents.known.mems)
  pub not_empty : All (λ (mem : Mem). 1 ≤ mem.cells) contents.known.mems
  pub few_cells : cells_of contents.known.mems ≤ most_cells
  pub few_reducers : length contents.known.reducers ≤ most_reducers
  pub few_lines : length contents.lines ≤ most_requests
  pub within : All (IsWithin (cells_of contents.known.mems) (length contents.known.reducers)) contents.lines

-- ---- numbers of cells

pub cells_push : (mems : List Mem) (mem : Mem) → cells_of (mems ++ mem ∷ []) ≡ cells_of mems + mem.cells
cells_push mems mem = sum_by-append (λ (m : Mem). m.cells) mems (mem ∷ []) ∙ ap (λ (n : ℕ). cells_of mems + n) (zero-add mem.cells)

pub cells_cons : (mem : Mem) (mems : List Mem) → cells_of (mem ∷ mems) ≡ mem.cells + cells_of mems
cells_cons mem mems = sum_by-append (λ (m : Mem). m.cells) (mem ∷ []) mems ∙ ap (λ (n : ℕ). n + cells_of mems) (zero-add mem.cells)

pub both_true : (a b : Bool) → IsTrue (a && b) → IsTrue a × IsTrue b
both_true true b h = (refl, h)
both_true false b h = cc

and_true : (a b : Bool) → IsTrue a → IsTrue b → IsTrue (a && b)
and_true true b h k = k
and_true false b h k = cc

pub numbered_push : (from : ℕ) (mems : List Mem) (mem : Mem) → IsTrue (is_numbered from mems) → mem.first ≡ from + cells_of mems → IsTrue (is_numbered from (mems ++ mem ∷ []))
numbered_push from [] mem h e = let same : mem.first ≡ from = omega (arith, e) in and_true (mem.first == from) true (grind (arith, nat_tests)) refl
numbered_push from (first ∷ mems) mem h e =
    let parts = both_true (first.first == from) (is_numbered (from + first.cells) mems) h in
    and_true (first.first == from) (is_numbered (from + first.cells) (mems ++ mem ∷ [])) parts.0
    (numbered_push (from + first.cells) mems mem parts.1 (omega (arith, e, cells_cons first mems)))

pub first_is : (mem : Mem) (from : ℕ) → IsTrue (mem.first == from) → mem.first ≡ from
first_is mem from h = grind (arith, nat_tests)

ends_by : (from : ℕ) (mems : List Mem) → IsTrue (is_numbered from mems) → AllByRecursion (λ (mem : Mem). mem.first + mem.cells ≤ from + cells_of mems) mems
ends_by from [] h = tt
ends_by from (mem ∷ mems) h =
    let parts = both_true (mem.first == from) (is_numbered (from + mem.cells) mems) h in
    let start = first_is mem from parts.0 in
    (omega (arith, cells_cons mem mems, start), weaken mems (ends_by (from + mem.cells) mems parts.1))
  where
    weaken : (ms : List Mem) → AllByRecursion (λ (m : Mem). m.first + m.cells ≤ from + mem.cells + cells_of mems) ms
        → AllByRecursion (λ (m : Mem). m.first + m.cells ≤ from + cells_of (mem ∷ mems)) ms
    weaken [] h = tt
    weaken (m ∷ ms) h = (omega (arith, h.0, cells_cons mem mems), weaken ms h.1)

-- each memory ends among the cells
pub ends_within : (mems : List Mem) → IsTrue (is_numbered 0 mems) → All (λ (mem : Mem). mem.first + mem.cells ≤ 0 + cells_of mems) mems
ends_within mems h = All-from_recursion _ mems (ends_by 0 mems h)

-- ---- what an act names

cell_within : (mems : List Mem) (word : List ℕ) (cell : ℕ) → IsTrue (is_numbered 0 mems) → All (λ (mem : Mem). 1 ≤ mem.cells) mems → CellMeans mems word cell → suc cell ≤ cells_of mems
cell_within mems word cell numbered some (inl m) =
    let ends : m.1.first + m.1.cells ≤ 0 + cells_of mems = found_of_all (λ (mem : Mem). mem.first + mem.cells ≤ 0 + cells_of mems) _ mems m.1 (ends_within mems numbered) m.2.0 in
    let one : 1 ≤ m.1.cells = found_of_all (λ (mem : Mem). 1 ≤ mem.cells) _ mems m.1 some m.2.0 in
    omega (arith, m.3)
cell_within mems word cell numbered some (inr m) =
    let e = m.3 in
    let ends : e.1.first + e.1.cells ≤ 0 + cells_of mems = found_of_all (λ (mem : Mem). mem.first + mem.cells ≤ 0 + cells_of mems) _ mems e.1 (ends_within mems numbered) e.3.0 in
    omega (arith, e.5, e.6)

position_within : (test : Reducer → Bool) (from : ℕ) (reducers : List Reducer) (i : ℕ) → position_from test from reducers ≡ Some i → suc i ≤ from + length reducers
position_within test from [] i e = cc
position_within test from (reducer ∷ reducers) i e = by (test reducer) e (position_within test (from + 1) reducers i)
  where
    by : (b : Bool) → cond b (Some from) (position_from test (from + 1) reducers) ≡ Some i
        → (position_from test (from + 1) reducers ≡ Some i → suc i ≤ from + 1 + length reducers) → suc i ≤ from + length (reducer ∷ reducers)
    by true e f = let same : from ≡ i = cc in omega arith
    by false e f = omega (arith, f e)

module _ (at : ℕ) (before : Contents) (ws : List (List ℕ)) (kept : IsKept before) where
  named_cell : (p : Place) (places : List Place) (last : Option Place) (arguments : List (List ℕ)) (pairs : List Placed) (s cell : ℕ) (more : List Value)
      → placed (p ∷ Cell ∷ places) last arguments ≡ Some pairs → WordsMean before.known pairs (OfNumber s ∷ OfNumber cell ∷ more) → suc cell ≤ cells_of before.known.mems
  named_cell p places last arguments pairs s cell more e m =
      let first = first_means (WordMeans before.known) p (Cell ∷ places) (option_to_list last) arguments pairs (OfNumber s) (OfNumber cell ∷ more) e m in
      let second = first_means (WordMeans before.known) Cell places (option_to_list last) first.1 first.2 (OfNumber cell) more first.5 first.4 in
      cell_within before.known.mems second.0 cell kept.numbered kept.not_empty second.3

  named_reducer : (p : Place) (places : List Place) (last : Option Place) (arguments : List (List ℕ)) (pairs : List Placed) (s reducer : ℕ) (more : List Value)
      → placed (p ∷ ReducerName ∷ places) last arguments ≡ Some pairs → WordsMean before.known pairs (OfNumber s ∷ OfNumber reducer ∷ more)
      → suc reducer ≤ length before.known.reducers
  named_reducer p places last arguments pairs s reducer more e m =
      let first = first_means (WordMeans before.known) p (ReducerName ∷ places) (option_to_list last) arguments pairs (OfNumber s) (OfNumber reducer ∷ more) e m in
      let second = first_means (WordMeans before.known) ReducerName places (option_to_list last) first.1 first.2 (OfNumber reducer) more first.5 first.4 in
      omega (arith, position_within _ 0 before.known.reducers reducer second.3.1)

  module _ (s : ℕ) (last : List Value) (pairs : List Placed) (arguments : List (List ℕ)) where
    within_by : (a : Act) → placed (wanted (asks a)) (optional (asks a)) arguments ≡ Some pairs → WordsMean before.known pairs (OfNumber s ∷ (operands a ++ last))
        → (cells_used a ≤ cells_of before.known.mems) × (reducers_used a ≤ length before.known.reducers)
    within_by (Read cell) e m = (named_cell a_strand [] (Some Mark) arguments pairs s cell last e m, omega arith)
    within_by (Write cell value) e m = (named_cell a_strand (a_value ∷ []) (Some Mark) arguments pairs s cell (OfNumber value ∷ last) e m, omega arith)
    within_by (Bump cell value) e m = (named_cell a_strand (a_value ∷ []) (Some Mark) arguments pairs s cell (OfNumber value ∷ last) e m, omega arith)
    within_by (Update reducer value) e m = (omega arith, named_reducer a_strand (a_value ∷ []) (Some Mark) arguments pairs s reducer (OfNumber value ∷ last) e m)
    within_by (Put reducer value) e m = (omega arith, named_reducer a_strand (a_value ∷ []) (Some Mark) arguments pairs s reducer (OfNumber value ∷ last) e m)
    within_by (Get reducer) e m = (omega arith, named_reducer a_strand [] (Some Mark) arguments pairs s reducer last e m)
    within_by a e m = (omega arith, omega arith)

  asked_within : (line : TraceLine) → ItemMeans at before.known ws (Asked line) → IsWithin (cells_of before.known.mems) (length before.known.reducers) line
  asked_within line m = within_by line.request.strand (if_there m.0) m.1.0 m.1.1.0 line.request.act m.1.1.3 m.1.2

-- ---- one more line

length_given : (at : ℕ) (known : Known) (ws : List (List ℕ)) (name : List ℕ) (length : Option ℕ) → ItemMeans at known ws (Declared name length) → 1 ≤ unwrap_or length 1
length_given at known ws name None m = omega arith
length_given at known ws name (Some n) m =
    let first = first_means (WordMeans known) FreshName [] (Number 1 most_cells ∷ []) m.1.0 m.0 (OfName name) (OfNumber n ∷ []) m.1.3 m.2 in
    (last_means (WordMeans known) (Number 1 most_cells) [] first.1 first.2 (OfNumber n) [] first.5 first.4).1.1

none_within : (lines : List TraceLine) (cells reducers : ℕ) → lines ≡ [] → All (IsWithin cells reducers) lines
none_within lines cells reducers e = subst (λ (ls : List TraceLine). All (IsWithin cells reducers) ls) (sym e) (All-from_recursion (IsWithin cells reducers) [] tt)

module _ (at : ℕ) (before : Contents) (line : List ℕ) (kept : IsKept before) where
  pub kept_extended : (item : Item) → LineMeans at before line item → IsKept (extended at before item)
  kept_extended Blank m = kept
  kept_extended (Declared name length) m =
      let mem : Mem = memory_at at before.known.mems name length in
      record {
        numbered = numbered_push 0 before.known.mems mem kept.numbered (sym (zero-add (cells_of before.known.mems)));
        not_empty = All-append (λ (m : Mem). 1 ≤ m.cells) before.known.mems (mem ∷ []) kept.not_empty
            (All-from_recursion (λ (m : Mem). 1 ≤ m.cells) (mem ∷ []) (length_given at before.known (words line) name length m.2, tt));
        few_cells = omega (arith, cells_push before.known.mems mem, m.4);
        few_reducers = kept.few_reducers;
        few_lines = kept.few_lines;
        within = none_within before.lines _ _ m.3;
      }
  kept_extended (Reduces name monoid) m = record {
    numbered = kept.numbered;
    not_empty = kept.not_empty;
    few_cells = kept.few_cells;
    few_reducers = omega (arith, length_push before.known.reducers (reducer_at at name monoid), m.4);
    few_lines = kept.few_lines;
    within = none_within before.lines _ _ m.3;
  }
  kept_extended (Asked asked) m = record {
    numbered = kept.numbered;
    not_empty = kept.not_empty;
    few_cells = kept.few_cells;
    few_reducers = kept.few_reducers;
    few_lines = omega (arith, length_push before.lines asked, m.4);
    within = All-append (IsWithin (cells_of before.known.mems) (len before.known.reducers)) before.lines (asked ∷ []) kept.within
        (All-from_recursion (IsWithin (cells_of before.known.mems) (len before.known.reducers)) (asked ∷ []) (asked_within at before (words line) kept asked m.2, tt));
  }

kept_lines : (at : ℕ) (before : Contents) (ls : List (List ℕ)) (contents : Contents) → IsKept before → LinesMean at before ls contents → IsKept contents
kept_lines at before [] contents kept m = subst (λ (c : Contents). IsKept c) (sym m) kept
kept_lines at before (line ∷ ls) contents kept m = kept_lines (at + 1) (extended at before m.0) ls contents (kept_extended at before line kept m.0 m.1) m.2

pub kept_nothing : (version : Version) → IsKept (nothing version)
kept_nothing version = record {
  numbered = refl;
  not_empty = All-from_recursion (λ (mem : Mem). 1 ≤ mem.cells) [] tt;
  few_cells = omega arith;
  few_reducers = omega arith;
  few_lines = omega arith;
  within = All-from_recursion (IsWithin 0 0) [] tt;
}

kept_by : (ls : List (List ℕ)) (contents : Contents) → LinesOfTrace ls contents → IsKept contents
kept_by [] contents m = absurd m
kept_by (first ∷ rest) contents m = kept_lines 2 (nothing contents.known.version) rest contents (kept_nothing contents.known.version) m.1

-- what a text means keeps it
pub kept_of_text : (text : List ℕ) (contents : Contents) → TextMeans text contents → IsKept contents
kept_of_text text contents m = kept_by (lines text) contents m
