-- How the index of names grows, and what is found in it.
use Rattle.std.proofs.Common.{◌≡◌, ℕ, ◌<◌, ◌≤◌, ◌+◌, ◌∷◌, ◌++◌, [], List, Bool, true, false, cond, length, length as len, arith, refl, sym, ap, subst, ◌∙◌, inl, inr, zero-add}
use Rattle.std.specs.Prelude.{OnSome, Option, Some, None, slice_get, unwrap_or}
use Rattle.std.specs.List.{AllByRecursion, find}
use Rattle.std.specs.Str.{bytes_eq}
use Rattle.std.specs.Cmp.Lexicographic.{bytes_decides}
use Rattle.std.proofs.lemmas.List.{length_push}
use Rattle.std.proofs.lemmas.List.Sums.{sum_by-append}
use Rattle.std.proofs.lemmas.List.Elements.{All-append, All-from_recursion}
use Rattle.std.proofs.lemmas.Option.{slice_get_cases}
use Rattle.text_words.specs.declared.names.Named.{Named}
use Rattle.text_words.specs.declared.names.Named.TheVariants.{Reducer}
use Rattle.text_words.specs.declared.value.Mem.{Mem}
use Rattle.text_words.specs.declared.value.Version.{Version}
use Rattle.text_words.specs.declared.value.Reducer.{Reducer as Reduction}
use Rattle.model_reducers.specs.declared.monoid.Monoid.{Monoid}
use Rattle.model_accesses.specs.Limits.{most_cells}
use Rattle.model_reducers.specs.Limits.{most_reducers}
use Rattle.text_words.specs.Text.{IsName}
use Rattle.text_words.specs.Values.{Known}
use Rattle.text_words.specs.Names.{memory_named, reducer_named, IsFresh}
use Rattle.text_words.specs.Declarations.{cells_of, memory_from, memory_at, reducer_at, with_memory, with_reducer}
use Rattle.text_words.specs.Index.{IsInRange, name_of_memory, named_by, named, meaning_at, IsApart, IsIndexed}
use Rattle.text_words.specs.Slots.{name_number}
use Rattle.text_words.proofs.Numbers.{later_one, get_old, get_new, position_old, position_new, number_at, number_new}

-- ---- one more memory

module _ {X : Type 0} (test : X → Bool) (last : X) where
  find_old : (xs : List X) → test last ≡ false → find test (xs ++ last ∷ []) ≡ find test xs
  find_old [] none = rw none refl
  find_old (x ∷ xs) none = ap (λ (o : Option X). cond (test x) (Some x) o) (find_old xs none)

  find_new : (xs : List X) → find test xs ≡ None → test last ≡ true → find test (xs ++ last ∷ []) ≡ Some last
  find_new [] none some = rw some refl
  find_new (x ∷ xs) none some = later_one (test x) x _ _ last none (λ e. find_new xs e some)

-- ---- a new name

fresh_unnamed : (known : Known) (name : List ℕ) → IsFresh known name → named known name ≡ None
fresh_unnamed known name f =
    ap (λ (mem : Option Mem). named_by mem (reducer_named known.reducers name)) f.0 ∙ ap (λ (reducer : Option ℕ). named_by None reducer) f.1

module _ (known : Known) (cells : ℕ) (names : List (List ℕ)) (meanings : List Named) (indexed : IsIndexed known cells names meanings) where
  number_within : (name : List ℕ) (number : ℕ) → name_number names name ≡ Some number → number < len meanings
  number_within name number e = let l = (number_at names name number e).0 in let p = indexed.paired in omega arith

  unnumbered_by : (name : List ℕ) (o : Option ℕ) → name_number names name ≡ o → meaning_at meanings o ≡ None → name_number names name ≡ None
  unnumbered_by name None e f = e
  unnumbered_by name (Some number) e f = absurd (let g = slice_get_cases meanings number in grind (arith, g, number_within name number e))

  -- a new name has no number
  pub unnumbered : (name : List ℕ) → IsFresh known name → name_number names name ≡ None
  unnumbered name fresh = unnumbered_by name (name_number names name) refl (indexed.finds name ∙ fresh_unnamed known name fresh)

  meaning_old : (meaning : Named) (o : Option ℕ) → ((number : ℕ) → o ≡ Some number → number < len meanings) → meaning_at (meanings ++ meaning ∷ []) o ≡ meaning_at meanings o
  meaning_old meaning None within = refl
  meaning_old meaning (Some number) within = get_old meaning meanings number (within number refl)

module _ (known : Known) (cells : ℕ) (names : List (List ℕ)) (meanings : List Named) (key : List ℕ) (indexed : IsIndexed known cells names meanings) (fresh : IsFresh known key) where
  same_bytes : (name : List ℕ) → bytes_eq name key ≡ true → name ≡ key
  same_bytes name e = (bytes_decides name key).0 e

  none_at : (name : List ℕ) → bytes_eq name key ≡ true → (memory_named known.mems name ≡ None) × (reducer_named known.reducers name ≡ None)
  none_at name e = let same = same_bytes name e in (ap (memory_named known.mems) same ∙ fresh.0, ap (reducer_named known.reducers) same ∙ fresh.1)

  found_new : (meaning : Named) (name : List ℕ) → bytes_eq name key ≡ true → meaning_at (meanings ++ meaning ∷ []) (name_number (names ++ key ∷ []) name) ≡ Some meaning
  found_new meaning name e =
      ap (λ (n : List ℕ). meaning_at (meanings ++ meaning ∷ []) (name_number (names ++ key ∷ []) n)) (same_bytes name e)
      ∙ (ap (meaning_at (meanings ++ meaning ∷ [])) (number_new names key (unnumbered known cells names meanings indexed key fresh) ∙ ap Some indexed.paired)
      ∙ get_new meaning meanings)

  found_old : (meaning : Named) (name : List ℕ) → bytes_eq name key ≡ false → meaning_at (meanings ++ meaning ∷ []) (name_number (names ++ key ∷ []) name) ≡ named known name
  found_old meaning name e =
      ap (meaning_at (meanings ++ meaning ∷ [])) (position_old (bytes_eq name) key 0 names e)
      ∙ (meaning_old known cells names meanings indexed meaning (name_number names name) (number_within known cells names meanings indexed name)
      ∙ indexed.finds name)

  paired_more : (meaning : Named) → len (names ++ key ∷ []) ≡ len (meanings ++ meaning ∷ [])
  paired_more meaning = length_push names key ∙ (ap (λ (n : ℕ). n + 1) indexed.paired ∙ sym (length_push meanings meaning))

  module _ (at : ℕ) (length : Option ℕ) where
    abbrev the_memory : Mem
    the_memory = memory_at at known.mems key length

    finds_memory : (b : Bool) (name : List ℕ) → bytes_eq name key ≡ b
        → meaning_at (meanings ++ name_of_memory the_memory ∷ []) (name_number (names ++ key ∷ []) name) ≡ named (with_memory at known key length) name
    finds_memory true name e =
        found_new (name_of_memory the_memory) name e
        ∙ sym (ap (λ (mem : Option Mem). named_by mem (reducer_named known.reducers name)) (find_new (λ (mem : Mem). bytes_eq name mem.name) the_memory known.mems (none_at name e).0 e))
    finds_memory false name e =
        found_old (name_of_memory the_memory) name e
        ∙ sym (ap (λ (mem : Option Mem). named_by mem (reducer_named known.reducers name)) (find_old (λ (mem : Mem). bytes_eq name mem.name) the_memory known.mems e))

    apart_memory : (b : Bool) (name : List ℕ) → bytes_eq name key ≡ b → IsApart (with_memory at known key length) name
    apart_memory true name e = inr (none_at name e).1
    apart_memory false name e = elim (indexed.apart name) [ inl f ↦ inl (find_old (λ (mem : Mem). bytes_eq name mem.name) the_memory known.mems e ∙ f) | inr f ↦ inr f ]

    names_memory : IsName key → (b : Bool) (name : List ℕ) (found : Named) → bytes_eq name key ≡ b → named (with_memory at known key length) name ≡ Some found → IsName name
    names_memory is true name found e f = subst IsName (sym (same_bytes name e)) is
    names_memory is false name found e f =
        indexed.named_only name found (sym (ap (λ (mem : Option Mem). named_by mem (reducer_named known.reducers name)) (find_old (λ (mem : Mem). bytes_eq name mem.name) the_memory known.mems e)) ∙ f)

    pub indexed_memory : IsName key → cells_of known.mems + unwrap_or length 1 ≤ most_cells
        → IsIndexed (with_memory at known key length) (cells + unwrap_or length 1) (names ++ key ∷ []) (meanings ++ name_of_memory the_memory ∷ [])
    indexed_memory is room =
        let one : AllByRecursion IsInRange (the_memory ∷ []) = (room, tt) in
        record {
          finds = λ name. finds_memory (bytes_eq name key) name refl;
          apart = λ name. apart_memory (bytes_eq name key) name refl;
          paired = paired_more (name_of_memory the_memory);
          named_only = λ name found. names_memory is (bytes_eq name key) name found refl;
          counted = ap (λ (n : ℕ). n + unwrap_or length 1) indexed.counted ∙ sym (sum_by-append (λ (mem : Mem). mem.cells) known.mems (the_memory ∷ []) ∙ ap (λ (n : ℕ). cells_of known.mems + n) (zero-add (unwrap_or length 1)));
          few_cells = (let e = indexed.counted in omega arith);
          few_reducers = indexed.few_reducers;
          in_range = All-append IsInRange known.mems (the_memory ∷ []) indexed.in_range (All-from_recursion IsInRange (the_memory ∷ []) one);
        }

  module _ (at : ℕ) (monoid : Monoid) where
    abbrev the_reducer : Reduction
    the_reducer = reducer_at at key monoid

    finds_reducer : (b : Bool) (name : List ℕ) → bytes_eq name key ≡ b
        → meaning_at (meanings ++ Reducer (len known.reducers) ∷ []) (name_number (names ++ key ∷ []) name) ≡ named (with_reducer at known key monoid) name
    finds_reducer true name e =
        let there : reducer_named (known.reducers ++ the_reducer ∷ []) name ≡ Some (0 + len known.reducers) =
        position_new (λ (r : Reduction). bytes_eq name r.name) the_reducer 0 known.reducers (none_at name e).1 e in
        found_new (Reducer (len known.reducers)) name e
        ∙ (ap (λ (n : ℕ). Some (Reducer n)) (sym (zero-add (len known.reducers)))
        ∙ sym (ap (λ (mem : Option Mem). named_by mem (reducer_named (known.reducers ++ the_reducer ∷ []) name)) (none_at name e).0 ∙ ap (λ (r : Option ℕ). named_by None r) there))
    finds_reducer false name e =
        found_old (Reducer (len known.reducers)) name e
        ∙ sym (ap (λ (r : Option ℕ). named_by (memory_named known.mems name) r) (position_old (λ (r : Reduction). bytes_eq name r.name) the_reducer 0 known.reducers e))

    apart_reducer : (b : Bool) (name : List ℕ) → bytes_eq name key ≡ b → IsApart (with_reducer at known key monoid) name
    apart_reducer true name e = inl (none_at name e).0
    apart_reducer false name e = elim (indexed.apart name) [ inl f ↦ inl f | inr f ↦ inr (position_old (λ (r : Reduction). bytes_eq name r.name) the_reducer 0 known.reducers e ∙ f) ]

    names_reducer : IsName key → (b : Bool) (name : List ℕ) (found : Named) → bytes_eq name key ≡ b → named (with_reducer at known key monoid) name ≡ Some found → IsName name
    names_reducer is true name found e f = subst IsName (sym (same_bytes name e)) is
    names_reducer is false name found e f =
        indexed.named_only name found (sym (ap (λ (r : Option ℕ). named_by (memory_named known.mems name) r) (position_old (λ (r : Reduction). bytes_eq name r.name) the_reducer 0 known.reducers e)) ∙ f)

    pub indexed_reducer : IsName key → len known.reducers < most_reducers → IsIndexed (with_reducer at known key monoid) cells (names ++ key ∷ []) (meanings ++ Reducer (len known.reducers) ∷ [])
    indexed_reducer is room = record {
      finds = λ name. finds_reducer (bytes_eq name key) name refl;
      apart = λ name. apart_reducer (bytes_eq name key) name refl;
      paired = paired_more (Reducer (len known.reducers));
      named_only = λ name found. names_reducer is (bytes_eq name key) name found refl;
      counted = indexed.counted;
      few_cells = indexed.few_cells;
      few_reducers = omega (arith, length_push known.reducers the_reducer);
      in_range = indexed.in_range;
    }

-- ---- what is found

-- what stands at the number of an equal name is what the name stands for
pub meaning_found : (names : List (List ℕ)) (meanings lent : List Named) (key name : List ℕ) (number : ℕ) (found : Named) → lent ≡ meanings → bytes_eq key name ≡ true
    → name_number names key ≡ Some number → slice_get lent number ≡ Some found → Some found ≡ meaning_at meanings (name_number names name)
meaning_found names meanings lent key name number found same equal e f =
    let numbered : name_number names name ≡ Some number = ap (name_number names) (sym ((bytes_decides key name).0 equal)) ∙ e in
    sym f ∙ (ap (λ (xs : List Named). slice_get xs number) same ∙ sym (ap (meaning_at meanings) numbered))

-- what is found is a name
pub found_is_name : (known : Known) (cells : ℕ) (names : List (List ℕ)) (meanings : List Named) → IsIndexed known cells names meanings
    → (name : List ℕ) (found : Option Named) → found ≡ named known name → OnSome found (IsName name)
found_is_name known cells names meanings indexed name None e = tt
found_is_name known cells names meanings indexed name (Some found) e = indexed.named_only name found (sym e)

-- ---- the same for what the calls say of their results

-- where nothing changed, the index is that of the same names
pub indexed_still : (version : Version) (mems more : List Mem) (reducers given : List Reduction) (cells : ℕ) (names kept : List (List ℕ)) (meanings all : List Named)
    → IsIndexed (record { version = version; mems = mems; reducers = reducers }) cells names meanings → more ≡ mems → given ≡ reducers → kept ≡ names → all ≡ meanings
    → IsIndexed (record { version = version; mems = more; reducers = given }) cells kept all
indexed_still version mems more reducers given cells names kept meanings all indexed e f g h = rw (e, f, g, h) indexed

module _ (known : Known) (cells : ℕ) (names : List (List ℕ)) (meanings : List Named) (key : List ℕ) (indexed : IsIndexed known cells names meanings) (is_name : IsName key) (fresh : IsFresh known key) where
  pub memory_added : (at : ℕ) (length : Option ℕ) (mems : List Mem) (more : List (List ℕ)) (all : List Named) (mem : Mem) (meaning : Named)
      → mems ≡ known.mems ++ mem ∷ [] → mem ≡ memory_from at cells key length → meaning ≡ name_of_memory mem
      → more ≡ names ++ key ∷ [] → all ≡ meanings ++ meaning ∷ []
      → cells_of known.mems + unwrap_or length 1 ≤ most_cells → IsIndexed (record known { mems = mems }) (cells + mem.cells) more all
  memory_added at length mems more all mem meaning grown is means numbered told room =
      let same : mem ≡ memory_at at known.mems key length = is ∙ ap (λ (n : ℕ). memory_from at n key length) indexed.counted in
      let all_mems : mems ≡ known.mems ++ memory_at at known.mems key length ∷ [] = grown ∙ ap (λ (m : Mem). known.mems ++ m ∷ []) same in
      let all_meanings : all ≡ meanings ++ name_of_memory (memory_at at known.mems key length) ∷ [] = told ∙ ap (λ (t : Named). meanings ++ t ∷ []) (means ∙ ap name_of_memory same) in
      let all_cells : cells + mem.cells ≡ cells + unwrap_or length 1 = ap (λ (m : Mem). cells + m.cells) is in
      subst (λ (ms : List Mem). IsIndexed (record known { mems = ms }) (cells + mem.cells) more all) (sym all_mems)
      (subst (λ (ns : List (List ℕ)). IsIndexed (with_memory at known key length) (cells + mem.cells) ns all) (sym numbered)
      (subst (λ (ts : List Named). IsIndexed (with_memory at known key length) (cells + mem.cells) (names ++ key ∷ []) ts) (sym all_meanings)
      (subst (λ (n : ℕ). IsIndexed (with_memory at known key length) n (names ++ key ∷ []) (meanings ++ name_of_memory (memory_at at known.mems key length) ∷ [])) (sym all_cells)
      (indexed_memory known cells names meanings key indexed fresh at length is_name room))))

  pub reducer_added : (at : ℕ) (monoid : Monoid) (reducers : List Reduction) (more : List (List ℕ)) (all : List Named)
      → reducers ≡ known.reducers ++ reducer_at at key monoid ∷ []
      → more ≡ names ++ key ∷ [] → all ≡ meanings ++ Reducer (len known.reducers) ∷ []
      → len known.reducers < most_reducers → IsIndexed (record known { reducers = reducers }) cells more all
  reducer_added at monoid reducers more all grown numbered told room =
      subst (λ (rs : List Reduction). IsIndexed (record known { reducers = rs }) cells more all) (sym grown)
      (subst (λ (ns : List (List ℕ)). IsIndexed (with_reducer at known key monoid) cells ns all) (sym numbered)
      (subst (λ (ts : List Named). IsIndexed (with_reducer at known key monoid) cells (names ++ key ∷ []) ts) (sym told)
      (indexed_reducer known cells names meanings key indexed fresh at monoid is_name room)))
