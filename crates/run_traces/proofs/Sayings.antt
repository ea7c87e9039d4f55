-- Words that name the cells and reducers that are declared, and lines that say what a run asks.
use Rattle.std.proofs.Common.{◌≡◌, ℕ, zero, suc, ◌+◌, ◌-◌, ◌<◌, ◌≤◌, ◌∷◌, ◌++◌, [], List, Bool, true, false, cond, length, arith, refl, ap, ◌∙◌, subst, inl, inr, zero-add}
use Rattle.std.specs.Prelude.{Option, Some, None, IsTrue, codes}
use Rattle.std.specs.List.{find, position_from}
use Rattle.std.specs.Str.{bytes_eq}
use Rattle.std.specs.Cmp.Lexicographic.{bytes_decides}
use Rattle.std.specs.Fmt.{decimal}
use Rattle.std.proofs.lemmas.Bool.Decides.{nat_tests}
use Rattle.text_words.specs.declared.value.Version.{Version}
use Rattle.model_accesses.specs.declared.request.Act.{Act}
use Rattle.text_words.specs.declared.value.Mem.{Mem}
use Rattle.text_words.specs.declared.value.Reducer.{Reducer}
use Rattle.model_reducers.specs.declared.monoid.Monoid.{Monoid}
use Rattle.text_words.specs.Text.{IsName, IsNumberIn}
use Rattle.model_accesses.specs.Limits.{most_cells}
use Rattle.text_words.specs.Limits.{max_strand, max_value}
use Rattle.text_words.specs.Values.{Known, monoid_spelling}
use Rattle.text_words.specs.Names.{memory_named, reducer_named, element_word, CellMeans, IsFresh, HasMonoid}
use Rattle.text_words.specs.Declarations.{cells_of}
use Rattle.trace_text.specs.declared.keyword.Keyword.TheVariants.{Mem as MemWord, Reducer as ReducerWord}
use Rattle.trace_text.specs.Lines.{FreshName, Number, Cell, ReducerName, MonoidWord, Mark, a_strand, a_value, OfName, OfNumber, OfMonoid, WordMeans, Says, asks, operands, if_there}
use Rattle.trace_text.specs.Shapes.{is_numbered, has_cell}
use Rattle.trace_text.proofs.CellNames.{cell_found}
use Rattle.trace_text.proofs.PlainWords.{decimal_number}
use Rattle.run_traces.specs.Fitting.{IsSayable}
use Rattle.run_traces.proofs.Declared.{IsNew, new_before, new_behind, AreMemories, AreReducers}

-- ---- declarations

same_bytes : (word : List ℕ) → bytes_eq word word ≡ true
same_bytes word = (bytes_decides word word).1 refl

pub says_memory : (known : Known) (name : List ℕ) (count : Option ℕ) → IsName name → IsFresh known name → ((n : ℕ) → count ≡ Some n → (1 ≤ n) × (n ≤ most_cells))
    → (ws : List (List ℕ)) × Says known ws MemWord (OfName name ∷ if_there count)
says_memory known name None is fresh h =
    (codes "mem" ∷ name ∷ [], ((FreshName, name) ∷ [], (name ∷ [], refl, tt, refl), ((refl, is, fresh), tt)))
says_memory known name (Some n) is fresh h =
    let some = h n refl in
    let low : 1 ≤ n = some.0 in
    let high : n ≤ most_cells = some.1 in (
      codes "mem" ∷ name ∷ decimal n ∷ [],
      (
        (FreshName, name) ∷ (Number 1 most_cells, decimal n) ∷ [],
        (name ∷ decimal n ∷ [], refl, tt, refl),
        ((refl, is, fresh), ((decimal_number n (omega (arith, high)), low, high), tt)),
      ),
    )

pub says_reducer : (known : Known) (name : List ℕ) (monoid : Monoid) → IsName name → IsFresh known name → HasMonoid known.version monoid
    → (ws : List (List ℕ)) × Says known ws ReducerWord (OfName name ∷ OfMonoid monoid ∷ [])
says_reducer known name monoid is fresh has = (
  codes "reducer" ∷ name ∷ monoid_spelling monoid ∷ [],
  (
    (FreshName, name) ∷ (MonoidWord, monoid_spelling monoid) ∷ [],
    (name ∷ monoid_spelling monoid ∷ [], refl, tt, refl),
    ((refl, is, fresh), ((has, refl), tt)),
  ),
)

-- ---- cells

record IsFound (names : List (List ℕ)) (test : Mem → Bool) (mems : List Mem) (mem : Mem) : Type 0 where
  pub is_name : IsName mem.name
  pub is_new : IsNew names mem.name
  pub passes : test mem ≡ true
  pub few : mem.cells ≤ most_cells
  pub single : mem.array ≡ false → mem.cells ≡ 1
  pub named : memory_named mems mem.name ≡ Some mem

-- a memory that some test finds is the one of its name
found : (names : List (List ℕ)) (first : ℕ) (test : Mem → Bool) (mems : List Mem) (mem : Mem) → AreMemories names first mems → find test mems ≡ Some mem → IsFound names test mems mem
found names first test [] mem h e = cc
found names first test (x ∷ mems) mem h e = by (test x) refl e (found (names ++ x.name ∷ []) (first + x.cells) test mems mem h.1)
  where
    by : (b : Bool) → test x ≡ b → cond b (Some x) (find test mems) ≡ Some mem → (find test mems ≡ Some mem → IsFound (names ++ x.name ∷ []) test mems mem) → IsFound names test (x ∷ mems) mem
    by true t f behind =
        let same : x ≡ mem = cc in
        subst (λ (m : Mem). IsFound names test (x ∷ mems) m) same (record {
          is_name = h.0.0;
          is_new = h.0.1;
          passes = t;
          few = omega (arith, h.0.4);
          single = h.0.5;
          named = ap (λ (b : Bool). cond b (Some x) (memory_named mems x.name)) (same_bytes x.name);
        })
    by false t f behind =
        let later = behind f in
        record {
          is_name = later.is_name;
          is_new = new_before names (x.name ∷ []) mem.name later.is_new;
          passes = later.passes;
          few = later.few;
          single = later.single;
          named = ap (λ (b : Bool). cond b (Some x) (memory_named mems mem.name)) (new_behind names (x.name ∷ []) mem.name later.is_new).0 ∙ later.named;
        }

some_found : (o : Option Mem) → (o ≡ None → ⊥) → (mem : Mem) × (o ≡ Some mem)
some_found None h = absurd (h refl)
some_found (Some mem) h = (mem, refl)

within : (cell : ℕ) (mem : Mem) → has_cell cell mem ≡ true → (mem.first ≤ cell) × (cell < mem.first + mem.cells)
within cell mem h = (grind (arith, nat_tests), grind (arith, nat_tests))

-- some word names each cell
pub cell_named : (mems : List Mem) (cell : ℕ) → IsTrue (is_numbered 0 mems) → AreMemories [] 0 mems → cell < cells_of mems → (word : List ℕ) × CellMeans mems word cell
cell_named mems cell numbered h l =
    let some = some_found (find (has_cell cell) mems) (cell_found cell 0 mems numbered (omega arith) (omega (arith, l))) in
    let mem = some.0 in
    let is = found [] 0 (has_cell cell) mems mem h some.1 in
    let bounds = within cell mem is.passes in
    by mem is (cell - mem.first) (omega (arith, bounds.0)) (omega (arith, bounds.0, bounds.1)) mem.array refl
  where
    by : (mem : Mem) → IsFound [] (has_cell cell) mems mem → (i : ℕ) → cell ≡ mem.first + i → i < mem.cells → (b : Bool) → mem.array ≡ b → (word : List ℕ) × CellMeans mems word cell
    by mem is i e lt false a =
        let one : mem.cells ≡ 1 = is.single a in
        (mem.name, inl (is.is_name, mem, (is.named, a), omega (arith, e, lt, one)))
    by mem is i e lt true a =
        let few : mem.cells ≤ most_cells = is.few in
        let small : i ≤ max_value = omega (arith, lt, few) in
        (element_word mem.name (decimal i), inr (mem.name, decimal i, refl, (is.is_name, mem, i, (is.named, a), (decimal_number i small, omega arith, small), lt, e)))

-- ---- reducers

-- some word names each reducer
found_reducer : (version : Version) (names : List (List ℕ)) (reducers : List Reducer) (from i : ℕ) → AreReducers version names reducers → i < length reducers
    → (word : List ℕ) × IsName word × IsNew names word × (position_from (λ (r : Reducer). bytes_eq word r.name) from reducers ≡ Some (from + i))
found_reducer version names [] from i h l = absurd (omega (arith, l))
found_reducer version names (r ∷ reducers) from zero h l =
    (r.name, h.0.0, h.0.1, ap (λ (b : Bool). cond b (Some from) (position_from (λ (x : Reducer). bytes_eq r.name x.name) (from + 1) reducers)) (same_bytes r.name) ∙ ap Some (let z : from ≡ from + 0 = omega arith in z))
found_reducer version names (r ∷ reducers) from (suc i) h l =
    let later = found_reducer version (names ++ r.name ∷ []) reducers (from + 1) i h.1 (omega (arith, l)) in
    let word = later.0 in
    let same : from + 1 + i ≡ from + suc i = omega arith in (
      word,
      later.1,
      new_before names (r.name ∷ []) word later.2,
      ap (λ (b : Bool). cond b (Some from) (position_from (λ (x : Reducer). bytes_eq word x.name) (from + 1) reducers)) (new_behind names (r.name ∷ []) word later.2).0
          ∙ (later.3 ∙ ap Some same),
    )

pub reducer_found : (version : Version) (reducers : List Reducer) (reducer : ℕ) → AreReducers version [] reducers → reducer < length reducers
    → (word : List ℕ) × IsName word × (reducer_named reducers word ≡ Some reducer)
reducer_found version reducers reducer h l =
    let f = found_reducer version [] reducers 0 reducer h l in
    (f.0, f.1, f.3 ∙ ap Some (zero-add reducer))

-- ---- requests

module _ (known : Known) (numbered : IsTrue (is_numbered 0 known.mems)) (memories : AreMemories [] 0 known.mems) (reducers : AreReducers known.version [] known.reducers)
    (strand line : ℕ) (small : strand ≤ max_strand) (first : 1 ≤ line) (last : line ≤ max_strand) where
  abbrev strand_means : IsNumberIn 0 max_strand (decimal strand) strand
  strand_means = (decimal_number strand (omega (arith, small)), omega arith, small)

  abbrev mark_word : List ℕ
  mark_word = codes "@" ++ decimal line

  abbrev mark_means : WordMeans known Mark mark_word (OfNumber line)
  mark_means = (decimal line, refl, (decimal_number line (omega (arith, last)), first, last))

  value_means : (value : ℕ) → value ≤ max_value → IsNumberIn 0 max_value (decimal value) value
  value_means value l = (decimal_number value l, omega arith, l)

  -- some words say the request
  pub says_request : (act : Act) → IsSayable known act → (ws : List (List ℕ)) × Says known ws (asks act) (OfNumber strand ∷ (operands act ++ if_there (Some line)))
  says_request Act.Spawn s =
      (codes "spawn" ∷ decimal strand ∷ mark_word ∷ [], ((a_strand, decimal strand) ∷ (Mark, mark_word) ∷ [], (decimal strand ∷ mark_word ∷ [], refl, tt, refl), (strand_means, (mark_means, tt))))
  says_request Act.Sync s =
      (codes "sync" ∷ decimal strand ∷ mark_word ∷ [], ((a_strand, decimal strand) ∷ (Mark, mark_word) ∷ [], (decimal strand ∷ mark_word ∷ [], refl, tt, refl), (strand_means, (mark_means, tt))))
  says_request Act.Call s =
      (codes "call" ∷ decimal strand ∷ mark_word ∷ [], ((a_strand, decimal strand) ∷ (Mark, mark_word) ∷ [], (decimal strand ∷ mark_word ∷ [], refl, tt, refl), (strand_means, (mark_means, tt))))
  says_request Act.Return s =
      (codes "return" ∷ decimal strand ∷ mark_word ∷ [], ((a_strand, decimal strand) ∷ (Mark, mark_word) ∷ [], (decimal strand ∷ mark_word ∷ [], refl, tt, refl), (strand_means, (mark_means, tt))))
  says_request (Act.Read cell) s =
      let w = cell_named known.mems cell numbered memories s in (
        codes "read" ∷ decimal strand ∷ w.0 ∷ mark_word ∷ [],
        (
          (a_strand, decimal strand) ∷ (Cell, w.0) ∷ (Mark, mark_word) ∷ [],
          (decimal strand ∷ w.0 ∷ mark_word ∷ [], refl, tt, refl),
          (strand_means, (w.1, (mark_means, tt))),
        ),
      )
  says_request (Act.Write cell value) s =
      let w = cell_named known.mems cell numbered memories s.0 in (
        codes "write" ∷ decimal strand ∷ w.0 ∷ decimal value ∷ mark_word ∷ [],
        (
          (a_strand, decimal strand) ∷ (Cell, w.0) ∷ (a_value, decimal value) ∷ (Mark, mark_word) ∷ [],
          (decimal strand ∷ w.0 ∷ decimal value ∷ mark_word ∷ [], refl, tt, refl),
          (strand_means, (w.1, (value_means value s.1, (mark_means, tt)))),
        ),
      )
  says_request (Act.Bump cell value) s =
      let w = cell_named known.mems cell numbered memories s.0 in (
        codes "bump" ∷ decimal strand ∷ w.0 ∷ decimal value ∷ mark_word ∷ [],
        (
          (a_strand, decimal strand) ∷ (Cell, w.0) ∷ (a_value, decimal value) ∷ (Mark, mark_word) ∷ [],
          (decimal strand ∷ w.0 ∷ decimal value ∷ mark_word ∷ [], refl, s.2, refl),
          (strand_means, (w.1, (value_means value s.1, (mark_means, tt)))),
        ),
      )
  says_request (Act.Update reducer value) s =
      let w = reducer_found known.version known.reducers reducer reducers s.0 in (
        codes "update" ∷ decimal strand ∷ w.0 ∷ decimal value ∷ mark_word ∷ [],
        (
          (a_strand, decimal strand) ∷ (ReducerName, w.0) ∷ (a_value, decimal value) ∷ (Mark, mark_word) ∷ [],
          (decimal strand ∷ w.0 ∷ decimal value ∷ mark_word ∷ [], refl, tt, refl),
          (strand_means, ((w.1, w.2), (value_means value s.1, (mark_means, tt)))),
        ),
      )
  says_request (Act.Put reducer value) s =
      let w = reducer_found known.version known.reducers reducer reducers s.0 in (
        codes "put" ∷ decimal strand ∷ w.0 ∷ decimal value ∷ mark_word ∷ [],
        (
          (a_strand, decimal strand) ∷ (ReducerName, w.0) ∷ (a_value, decimal value) ∷ (Mark, mark_word) ∷ [],
          (decimal strand ∷ w.0 ∷ decimal value ∷ mark_word ∷ [], refl, tt, refl),
          (strand_means, ((w.1, w.2), (value_means value s.1, (mark_means, tt)))),
        ),
      )
  says_request (Act.Get reducer) s =
      let w = reducer_found known.version known.reducers reducer reducers s in (
        codes "get" ∷ decimal strand ∷ w.0 ∷ mark_word ∷ [],
        (
          (a_strand, decimal strand) ∷ (ReducerName, w.0) ∷ (Mark, mark_word) ∷ [],
          (decimal strand ∷ w.0 ∷ mark_word ∷ [], refl, tt, refl),
          (strand_means, ((w.1, w.2), (mark_means, tt))),
        ),
      )
