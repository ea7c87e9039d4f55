-- Values in their places, printed and read again.
use Rattle.std.proofs.Common.{◌≡◌, ℕ, suc, ◌+◌, ◌-◌, ◌<◌, ◌≤◌, ◌∷◌, ◌++◌, [], List, map, true, false, Bool, cond, arith, refl, sym, ap, subst, ◌∙◌, get_or, inl, inr}
use Rattle.std.specs.Prelude.{Option, Some, ◌==◌, ◌⊎◌, IsTrue, codes}
use Rattle.std.specs.List.{All, AllByRecursion, find, position_from}
use Rattle.std.specs.Option.{option_to_list}
use Rattle.std.specs.Str.{bytes_eq}
use Rattle.std.specs.Cmp.Lexicographic.{bytes_decides}
use Rattle.std.specs.Fmt.{decimal}
use Rattle.std.proofs.lemmas.Bool.Decides.{nat_tests}
use Rattle.model_accesses.specs.declared.kind.Kind.TheVariants as kind
use Rattle.trace_text.specs.declared.keyword.Keyword.{Keyword}
use Rattle.trace_text.specs.declared.keyword.Keyword.TheVariants.{Mem as MemWord, Reducer as ReducerWord, Spawn, Call, Sync, Return, Access}
use Rattle.text_words.specs.declared.value.Mem.{Mem}
use Rattle.text_words.specs.declared.value.Reducer.{Reducer}
use Rattle.model_reducers.specs.declared.monoid.Monoid.{Monoid}
use Rattle.model_reducers.specs.declared.monoid.Monoid.TheVariants.{Sum, Min, Max, Last, Digits}
use Rattle.text_words.specs.Text.{words, IsTextLine, IsName, IsNumber}
use Rattle.text_words.specs.Limits.{max_strand, max_value}
use Rattle.text_words.specs.Values.{Known, monoid_spelling}
use Rattle.text_words.specs.Names.{CellMeans, SingleMeans, ElementMeans, memory_named, reducer_named, element_word, IsFresh}
use Rattle.trace_text.proofs.LineWords.{says_plain as words_say_plain}
use Rattle.trace_text.specs.Lines.{Place, FreshName, Number, Cell, ReducerName, MonoidWord, Mark, Value, OfName, OfNumber, OfMonoid, WordMeans, Says, table, spelling, wanted, optional}
use Rattle.trace_text.specs.Shapes.{is_numbered, has_cell, name_in, name_found, name_of_cell}
use Rattle.trace_text.specs.Printing.{plain_word, plain_words, plain_line, name_of_reducer}
use Rattle.trace_text.proofs.Kept.{both_true, first_is}
use Rattle.std.proofs.lemmas.List.{append-nil}
use Rattle.std.proofs.Common.{length-append}
use Rattle.trace_text.proofs.CellWords.{found_of_all, flat}
use Rattle.trace_text.specs.Plain.{is_word_byte, IsPlain}
use Rattle.trace_text.proofs.PlainWords.{rec_append, decimal_number, decimal_plain, name_plain, words_spaced, text_spaced}

-- ---- places

abbrev pub IsSmall : Place → Type 0
IsSmall (Number low high) = high ≤ max_value
IsSmall place = Unit {0}

strand_small : 4294967295 ≤ max_value
strand_small = omega arith

value_small : max_value ≤ max_value
value_small = omega arith

small_wanted : (keyword : Keyword) → AllByRecursion IsSmall (wanted keyword)
small_wanted MemWord = (tt, tt)
small_wanted ReducerWord = (tt, (tt, tt))
small_wanted (Access kind.Write) = (strand_small, (tt, (value_small, tt)))
small_wanted (Access kind.Bump) = (strand_small, (tt, (value_small, tt)))
small_wanted (Access kind.Read) = (strand_small, (tt, tt))
small_wanted (Access kind.Update) = (strand_small, (tt, (value_small, tt)))
small_wanted (Access kind.Put) = (strand_small, (tt, (value_small, tt)))
small_wanted (Access kind.Get) = (strand_small, (tt, tt))
small_wanted keyword = (strand_small, tt)

small_optional : (keyword : Keyword) → AllByRecursion IsSmall (option_to_list (optional keyword))
small_optional MemWord = (omega arith, tt)
small_optional ReducerWord = tt
small_optional keyword = (tt, tt)

pub spelling_plain : (keyword : Keyword) → IsPlain (spelling keyword)
spelling_plain MemWord = (omega arith, (refl, (refl, (refl, tt))))
spelling_plain ReducerWord = (omega arith, (refl, (refl, (refl, (refl, (refl, (refl, (refl, tt))))))))
spelling_plain Spawn = (omega arith, (refl, (refl, (refl, (refl, (refl, tt))))))
spelling_plain Call = (omega arith, (refl, (refl, (refl, (refl, tt)))))
spelling_plain Sync = (omega arith, (refl, (refl, (refl, (refl, tt)))))
spelling_plain Return = (omega arith, (refl, (refl, (refl, (refl, (refl, (refl, tt)))))))
spelling_plain (Access kind.Write) = (omega arith, (refl, (refl, (refl, (refl, (refl, tt))))))
spelling_plain (Access kind.Bump) = (omega arith, (refl, (refl, (refl, (refl, tt)))))
spelling_plain (Access kind.Read) = (omega arith, (refl, (refl, (refl, (refl, tt)))))
spelling_plain (Access kind.Update) = (omega arith, (refl, (refl, (refl, (refl, (refl, (refl, tt)))))))
spelling_plain (Access kind.Put) = (omega arith, (refl, (refl, (refl, tt))))
spelling_plain (Access kind.Get) = (omega arith, (refl, (refl, (refl, tt))))

-- ---- the memory of a cell

-- what is found is the first one or a later one
pub first_or_later : {X : Type 0} (here : Bool) (x y : X) (rest : Option X) → cond here (Some x) rest ≡ Some y → ((here ≡ true) × (x ≡ y)) ⊎ ((here ≡ false) × (rest ≡ Some y))
first_or_later true x y rest e = inl (refl, cc)
first_or_later false x y rest e = inr (refl, e)

starts_past : (from : ℕ) (mems : List Mem) (test : Mem → Bool) (mem : Mem) → IsTrue (is_numbered from mems) → find test mems ≡ Some mem → from ≤ mem.first
starts_past from [] test mem h e = cc
starts_past from (x ∷ mems) test mem h e =
    let parts = both_true (x.first == from) (is_numbered (from + x.cells) mems) h in
    elim (first_or_later (test x) x mem (find test mems) e) [
      | inl f ↦ (let same : x.first ≡ mem.first = ap (λ (m : Mem). m.first) f.1 in let start = first_is x from parts.0 in omega arith)
      | inr f ↦ (let later = starts_past (from + x.cells) mems test mem parts.1 f.1 in omega arith)
    ]

has_its_cell : (mem : Mem) (i : ℕ) → i < mem.cells → has_cell (mem.first + i) mem ≡ true
has_its_cell mem i l = grind (arith, nat_tests)

not_earlier : (x : Mem) (from cell : ℕ) → x.first ≡ from → from + x.cells ≤ cell → has_cell cell x ≡ false
not_earlier x from cell e l = grind (arith, nat_tests)

-- the memory that a name finds is the one that its cells find
pub same_memory : (from : ℕ) (mems : List Mem) (test : Mem → Bool) (mem : Mem) (i : ℕ) → IsTrue (is_numbered from mems) → find test mems ≡ Some mem → i < mem.cells
    → find (has_cell (mem.first + i)) mems ≡ Some mem
same_memory from [] test mem i h e l = cc
same_memory from (x ∷ mems) test mem i h e l =
    let parts = both_true (x.first == from) (is_numbered (from + x.cells) mems) h in
    elim (first_or_later (test x) x mem (find test mems) e) [
      | inl f ↦ (let here : has_cell (mem.first + i) x ≡ true = ap (has_cell (mem.first + i)) f.1 ∙ has_its_cell mem i l in
          ap (λ (b : Bool). cond b (Some x) (find (has_cell (mem.first + i)) mems)) here ∙ ap Some f.1)
      | inr f ↦ (let later = starts_past (from + x.cells) mems test mem parts.1 f.1 in
          let none : has_cell (mem.first + i) x ≡ false = not_earlier x from (mem.first + i) (first_is x from parts.0) (omega arith) in
          ap (λ (b : Bool). cond b (Some x) (find (has_cell (mem.first + i)) mems)) none ∙ same_memory (from + x.cells) mems test mem i parts.1 f.1 l)
    ]

pub found_name : (mems : List Mem) (name : List ℕ) (mem : Mem) → memory_named mems name ≡ Some mem → name ≡ mem.name
found_name [] name mem e = cc
found_name (x ∷ mems) name mem e =
    elim (first_or_later (bytes_eq name x.name) x mem (memory_named mems name) e) [
      | inl f ↦ (bytes_decides name x.name).0 f.0 ∙ ap (λ (m : Mem). m.name) f.1
      | inr f ↦ found_name mems name mem f.1
    ]

in_array : (mem : Mem) (index : ℕ) → mem.array ≡ true → name_in mem index ≡ element_word mem.name (decimal index)
in_array mem index a =
    ap (λ (b : Bool). mem.name ++ cond b (codes "[" ++ decimal index ++ codes "]") []) a ∙ sym (flat mem.name (decimal index))

alone : (mem : Mem) (index : ℕ) → mem.array ≡ false → name_in mem index ≡ mem.name
alone mem index a = ap (λ (b : Bool). mem.name ++ cond b (codes "[" ++ decimal index ++ codes "]") []) a ∙ append-nil mem.name

named_at : (mems : List Mem) (cell : ℕ) (mem : Mem) (i : ℕ) → find (has_cell (mem.first + i)) mems ≡ Some mem → cell ≡ mem.first + i → name_of_cell mems cell ≡ name_in mem i
named_at mems cell mem i e c =
    ap (name_of_cell mems) c ∙ (ap (name_found (mem.first + i)) e ∙ ap (name_in mem) (let d : mem.first + i - mem.first ≡ i = omega arith in d))

-- ---- words

pub single_plain : (mems : List Mem) (word : List ℕ) (cell : ℕ) → IsTrue (is_numbered 0 mems) → All (λ (mem : Mem). 1 ≤ mem.cells) mems
    → SingleMeans mems word cell → (name_of_cell mems cell ≡ word)
single_plain mems word cell numbered some m =
    let mem = m.1 in
    let one : 1 ≤ mem.cells = found_of_all (λ (x : Mem). 1 ≤ x.cells) _ mems mem some m.2.0 in
    let found = same_memory 0 mems (λ (x : Mem). bytes_eq word x.name) mem 0 numbered m.2.0 (omega arith) in
    named_at mems cell mem 0 found (m.3 ∙ (let z : mem.first ≡ mem.first + 0 = omega arith in z)) ∙ (alone mem 0 m.2.1 ∙ sym (found_name mems word mem m.2.0))

element_plain : (mems : List Mem) (name index : List ℕ) (cell : ℕ) → IsTrue (is_numbered 0 mems)
    → ElementMeans mems name index cell → (i : ℕ) × (name_of_cell mems cell ≡ element_word name (decimal i)) × ElementMeans mems name (decimal i) cell × (i ≤ max_value)
element_plain mems name index cell numbered m =
    let mem = m.1 in
    let i = m.2 in
    let found = same_memory 0 mems (λ (x : Mem). bytes_eq name x.name) mem i numbered m.3.0 m.5 in
    let same : mem.name ≡ name = sym (found_name mems name mem m.3.0) in (
      i,
      named_at mems cell mem i found m.6 ∙ (in_array mem i m.3.1 ∙ ap (λ (n : List ℕ). element_word n (decimal i)) same),
      (m.0, mem, i, m.3, (decimal_number i m.4.2, m.4.1, m.4.2), m.5, m.6),
      m.4.2,
    )

-- an index without leading zeros, in brackets behind the name, is the cell's name
pub element_named : (mems : List Mem) (name index : List ℕ) (cell i : ℕ) → IsTrue (is_numbered 0 mems) → ElementMeans mems name index cell
    → IsNumber index i → decimal i ≡ index → name_of_cell mems cell ≡ element_word name index
unfolding element_plain
element_named mems name index cell i numbered m number plain =
    let e = element_plain mems name index cell numbered m in
    let same : e.0 ≡ i = m.4.0.2 ∙ sym number.2 in
    e.1 ∙ ap (λ (n : ℕ). element_word name (decimal n)) same ∙ ap (element_word name) plain

pub brackets : (name digits : List ℕ) → IsPlain name → IsPlain digits → IsPlain (element_word name digits)
brackets name digits n d =
    let all : AllByRecursion (λ byte. IsTrue (is_word_byte byte)) (name ++ 91 ∷ (digits ++ 93 ∷ [])) =
    rec_append _ name (91 ∷ (digits ++ 93 ∷ [])) n.1 (refl, rec_append _ digits (93 ∷ []) d.1 (refl, tt)) in
    subst IsPlain (sym (flat name digits)) (omega (arith, n.0, length-append name (91 ∷ (digits ++ 93 ∷ []))), all)

monoid_plain : (monoid : Monoid) → IsPlain (monoid_spelling monoid)
monoid_plain Sum = (omega arith, (refl, (refl, (refl, tt))))
monoid_plain Min = (omega arith, (refl, (refl, (refl, tt))))
monoid_plain Max = (omega arith, (refl, (refl, (refl, tt))))
monoid_plain Last = (omega arith, (refl, (refl, (refl, (refl, tt)))))
monoid_plain Digits = (omega arith, (refl, (refl, (refl, (refl, (refl, (refl, tt)))))))

pub position_above : {X : Type 0} (test : X → Bool) (xs : List X) (from number : ℕ) → position_from test from xs ≡ Some number → from ≤ number
position_above test [] from number e = cc
position_above test (x ∷ xs) from number e =
    elim (first_or_later (test x) from number (position_from test (from + 1) xs) e) [
      | inl f ↦ omega (arith, f.1)
      | inr f ↦ (let later = position_above test xs (from + 1) number f.1 in omega arith)
    ]

-- the number of a reducer names it
reducer_at_by : (reducers : List Reducer) (word : List ℕ) (from number : ℕ) → position_from (λ (r : Reducer). bytes_eq word r.name) from reducers ≡ Some number
    → get_or (map (λ (r : Reducer). r.name) reducers) (number - from) [] ≡ word
reducer_at_by [] word from number e = cc
reducer_at_by (r ∷ reducers) word from number e =
    elim (first_or_later (bytes_eq word r.name) from number (position_from (λ (x : Reducer). bytes_eq word x.name) (from + 1) reducers) e) [
      | inl f ↦ (let d : number - from ≡ 0 = omega (arith, f.1) in
          ap (λ (n : ℕ). get_or (r.name ∷ map (λ (x : Reducer). x.name) reducers) n []) d ∙ sym ((bytes_decides word r.name).0 f.0))
      | inr f ↦ (let later = position_above _ reducers (from + 1) number f.1 in
          let d : number - from ≡ suc (number - (from + 1)) = omega arith in
          ap (λ (n : ℕ). get_or (r.name ∷ map (λ (x : Reducer). x.name) reducers) n []) d ∙ reducer_at_by reducers word (from + 1) number f.1)
    ]

module _ (known : Known) (numbered : IsTrue (is_numbered 0 known.mems)) (some : All (λ (mem : Mem). 1 ≤ mem.cells) known.mems) where
  cell_plain : (word : List ℕ) (cell : ℕ) → CellMeans known.mems word cell → CellMeans known.mems (name_of_cell known.mems cell) cell × IsPlain (name_of_cell known.mems cell)
  cell_plain word cell (inl m) =
      let same = single_plain known.mems word cell numbered some m in
      (inl (subst (λ (w : List ℕ). SingleMeans known.mems w cell) (sym same) m), subst IsPlain (sym same) (name_plain word m.0))
  cell_plain word cell (inr m) =
      let e = element_plain known.mems m.0 m.1 cell numbered m.3 in
      (inr (m.0, decimal e.0, e.1, e.2), subst IsPlain (sym e.1) (brackets m.0 (decimal e.0) (name_plain m.0 m.3.0) (decimal_plain e.0 e.3)))

  pub reducer_plain : (word : List ℕ) (number : ℕ) → reducer_named known.reducers word ≡ Some number → name_of_reducer known.reducers number ≡ word
  reducer_plain word number e =
      ap (λ (n : ℕ). get_or (map (λ (r : Reducer). r.name) known.reducers) n []) (let d : number ≡ number - 0 = omega arith in d) ∙ reducer_at_by known.reducers word 0 number e

  -- what a word means, the plain word for it means
  pub word_plain : (place : Place) (word : List ℕ) (value : Value) → IsSmall place → WordMeans known place word value
      → WordMeans known place (plain_word known place value) value × IsPlain (plain_word known place value)
  word_plain FreshName word (OfName name) s m =
      let named : IsName name = subst IsName (sym m.0) m.1 in
      ((refl, named, subst (λ (w : List ℕ). IsFresh known w) (sym m.0) m.2), name_plain name named)
  word_plain (Number low high) word (OfNumber n) s m =
      let small : n ≤ max_value = omega (arith, m.2) in
      ((decimal_number n small, m.1, m.2), decimal_plain n small)
  word_plain Cell word (OfNumber cell) s m = cell_plain word cell m
  word_plain ReducerName word (OfNumber number) s m =
      let same = reducer_plain word number m.1 in
      ((subst IsName (sym same) m.0, ap (reducer_named known.reducers) same ∙ m.1), subst IsPlain (sym same) (name_plain word m.0))
  word_plain MonoidWord word (OfMonoid monoid) s m = ((m.0, refl), monoid_plain monoid)
  word_plain Mark word (OfNumber n) s m =
      let bound : n ≤ max_strand = m.2.2 in
      let small : n ≤ max_value = omega arith in
      let plain = decimal_plain n small in
      ((decimal n, refl, (decimal_number n small, m.2.1, m.2.2)), (omega (arith, plain.0), (refl, plain.1)))
  word_plain place word value s m = absurd m

  -- ---- lines

  abbrev pub PlainSays : Keyword → List Value → Type 0
  PlainSays keyword values = IsTextLine (plain_line known keyword values) × (Says known (words (plain_line known keyword values)) keyword values)

  -- what words say, their plain line says
  pub says_plain : (ws : List (List ℕ)) (keyword : Keyword) (values : List Value) → Says known ws keyword values → PlainSays keyword values
  says_plain ws keyword values says =
      let p =
      words_say_plain (WordMeans known) (plain_word known) IsPlain IsSmall (λ value. Unit {0}) (λ place word value s l m. word_plain place word value s m)
      table small_wanted small_optional spelling_plain known.version ws keyword values (none_lead values) says in (
        text_spaced (spelling keyword ∷ plain_words known (wanted keyword) (optional keyword) values) p.1,
        subst (λ (line : List (List ℕ)). Says known line keyword values)
            (sym (words_spaced (spelling keyword) (plain_words known (wanted keyword) (optional keyword) values) p.1)) p.0,
      )
    where
      none_lead : (values : List Value) → AllByRecursion (λ (value : Value). Unit {0}) values
      none_lead [] = tt
      none_lead (value ∷ values) = (tt, none_lead values)
