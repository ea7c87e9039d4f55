-- Words that stand for what the index of names finds, or for nothing.
use Rattle.std.proofs.Common.{◌≡◌, ℕ, ◌<◌, ◌≤◌, ◌+◌, ◌∷◌, [], List, Bool, true, false, cond, arith, refl, sym, ap, ◌∙◌, inl, inr}
use Rattle.std.specs.Prelude.{Option, Some, None}
use Rattle.std.specs.List.{All}
use Rattle.text_words.specs.declared.fault.Cause.{Cause}
use Rattle.text_words.specs.declared.fault.Cause.TheVariants.{NotText, BadHeader, BadWord, BadNumber, UnknownName, TwiceNamed, BadNesting, NoMain, TooMany}
use Rattle.text_words.specs.declared.names.Named.{Named}
use Rattle.text_words.specs.declared.names.Named.TheVariants.{Single, Array, Reducer}
use Rattle.text_words.specs.declared.value.Mem.{Mem}
use Rattle.text_words.specs.Text.{IsName, IsNumberIn, BeginsWithDigit}
use Rattle.model_accesses.specs.Limits.{most_cells}
use Rattle.text_words.specs.Limits.{max_value}
use Rattle.text_words.specs.Values.{Known}
use Rattle.text_words.specs.Names.{memory_named, reducer_named, IsDeclared, ElementMeans}
use Rattle.trace_text.specs.Lines.{ReducerName, Number}
use Rattle.text_words.specs.Causes.{IsLowest, cause_number}
use Rattle.trace_text.specs.Faults.{IsUndeclared, WordFault}
use Rattle.trace_text.specs.Cells.{IsElementFault}
use Rattle.text_words.specs.Index.{IsInRange, name_of_memory, named_by, named, IsApart}
use Rattle.trace_text.proofs.CellWords.{found_of_all}

-- ---- what is found

abbrev pub is_array : Option Named → Bool
is_array None = false
is_array (Some (Array first cells)) = true
is_array (Some thing) = false

abbrev pub is_reducer : Option Named → Bool
is_reducer None = false
is_reducer (Some (Reducer reducer)) = true
is_reducer (Some thing) = false

array_by : (array : Bool) (first cells start size : ℕ) → Some (Array first cells) ≡ Some (cond array (Array start size) (Single start))
    → (array ≡ true) × (start ≡ first) × (size ≡ cells)
array_by true first cells start size e = (refl, cc, cc)
array_by false first cells start size e = cc

array_named_by : (mem : Option Mem) (reducer : Option ℕ) (first cells : ℕ) → Some (Array first cells) ≡ named_by mem reducer
    → (found : Mem) × (mem ≡ Some found) × (found.array ≡ true) × (found.first ≡ first) × (found.cells ≡ cells)
array_named_by (Some mem) reducer first cells e =
    let same = array_by mem.array first cells mem.first mem.cells e in
    (mem, refl, same.0, same.1, same.2)
array_named_by None None first cells e = cc
array_named_by None (Some reducer) first cells e = cc

pub array_named : (known : Known) (name : List ℕ) (first cells : ℕ) → Some (Array first cells) ≡ named known name
    → (found : Mem) × IsDeclared known.mems name true found × (found.first ≡ first) × (found.cells ≡ cells)
array_named known name first cells e =
    let found = array_named_by (memory_named known.mems name) (reducer_named known.reducers name) first cells e in
    (found.0, (found.1, found.2), found.3, found.4)

declared_by : (array : Bool) (start size : ℕ) → array ≡ true → is_array (Some (cond array (Array start size) (Single start))) ≡ true
declared_by true start size e = refl
declared_by false start size e = cc

undeclared_by : (mem : Option Mem) (reducer : Option ℕ) (o : Option Named) → o ≡ named_by mem reducer → is_array o ≡ false
    → (found : Mem) → mem ≡ Some found → found.array ≡ true → ⊥
undeclared_by None reducer o e none found f a = cc
undeclared_by (Some mem) reducer o e none found f a =
    let same : mem ≡ found = cc in
    let array : mem.array ≡ true = ap (λ (m : Mem). m.array) same ∙ a in
    let some : is_array (Some (name_of_memory mem)) ≡ true = declared_by mem.array mem.first mem.cells array in
    let clash : is_array o ≡ true = ap is_array e ∙ some in
    let absurdity : false ≡ true = sym none ∙ clash in
    cc

pub undeclared_array : (known : Known) (name : List ℕ) (o : Option Named) → o ≡ named known name → is_array o ≡ false → IsUndeclared known.mems name true
undeclared_array known name o e none found d = undeclared_by (memory_named known.mems name) (reducer_named known.reducers name) o e none found d.0 d.1

unreduced_by : (mem : Option Mem) (reducer : Option ℕ) (o : Option Named) → o ≡ named_by mem reducer → is_reducer o ≡ false → mem ≡ None → reducer ≡ None
unreduced_by mem None o e none m = refl
unreduced_by None (Some reducer) o e none m =
    let some : is_reducer o ≡ true = ap is_reducer e in
    let absurdity : false ≡ true = sym none ∙ some in
    cc
unreduced_by (Some mem) (Some reducer) o e none m = cc

no_reducer : (known : Known) (name : List ℕ) (o : Option Named) → o ≡ named known name → is_reducer o ≡ false → IsApart known name → reducer_named known.reducers name ≡ None
no_reducer known name o e none (inl m) = unreduced_by (memory_named known.mems name) (reducer_named known.reducers name) o e none m
no_reducer known name o e none (inr r) = r

pub lowest_no_reducer : (known : Known) (name : List ℕ) (o : Option Named) → IsName name → o ≡ named known name → is_reducer o ≡ false → IsApart known name
    → IsLowest (WordFault known ReducerName name) UnknownName
lowest_no_reducer known name o n e none apart = ((n, no_reducer known name o e none apart), below)
  where
    below : (lower : Cause) → cause_number lower < 5 → WordFault known ReducerName name lower → ⊥
    below NotText l f = f
    below BadHeader l f = f
    below BadWord l f = f n
    below BadNumber l f = f
    below cause l f = absurd (omega arith)

-- ---- elements of arrays

pub stable_digit : (word : List ℕ) → ((BeginsWithDigit word → ⊥) → ⊥) → BeginsWithDigit word
stable_digit [] f = absurd (f (λ b. b))
stable_digit (byte ∷ word) f = by _ f
  where
    by : (b : Bool) → ((b ≡ true → ⊥) → ⊥) → b ≡ true
    by true g = refl
    by false g = absurd (g (λ e. cc))

pub number_fault : (known : Known) (name index : List ℕ) (cause : Cause) → IsName name → IsLowest (WordFault known (Number 0 max_value) index) cause
    → IsElementFault known.mems name index cause
number_fault known name index NotText n f = f.0
number_fault known name index BadHeader n f = f.0
number_fault known name index BadWord n f = λ m b. f.0 b
number_fault known name index BadNumber n f = (n, stable_digit index (λ g. f.1 BadWord (omega arith) g), inl f.0)
number_fault known name index UnknownName n f = absurd f.0
number_fault known name index TwiceNamed n f = absurd f.0
number_fault known name index BadNesting n f = f.0
number_fault known name index NoMain n f = f.0
number_fault known name index TooMany n f = f.0

pub element_means : (known : Known) (name index : List ℕ) (first cells i : ℕ) → IsName name → Some (Array first cells) ≡ named known name → IsNumberIn 0 max_value index i
    → i < cells → ElementMeans known.mems name index (first + i)
element_means known name index first cells i n e m l =
    let found = array_named known name first cells e in
    (n, found.0, i, found.1, m, omega (arith, found.3), omega (arith, found.2))

pub past_array : (known : Known) (name index : List ℕ) (first cells i : ℕ) → IsName name → Some (Array first cells) ≡ named known name → IsNumberIn 0 max_value index i
    → BeginsWithDigit index → cells ≤ i → IsElementFault known.mems name index BadNumber
past_array known name index first cells i n e m b l =
    let found = array_named known name first cells e in
    (n, b, inr (found.0, found.1, λ j k. let same : i ≡ j = m.0.2 ∙ sym k.2 in omega (arith, found.3)))

pub no_array : (known : Known) (name index : List ℕ) (i : ℕ) (o : Option Named) → IsName name → o ≡ named known name → is_array o ≡ false → IsNumberIn 0 max_value index i
    → BeginsWithDigit index → IsElementFault known.mems name index UnknownName
no_array known name index i o n e none m b =
    let undeclared = undeclared_array known name o e none in
    (n, b, λ bad. elim bad [ inl f ↦ f i m | inr f ↦ undeclared f.0 f.1 ], undeclared)

pub array_end : (known : Known) (name : List ℕ) (first cells : ℕ) → All IsInRange known.mems → Some (Array first cells) ≡ named known name → first + cells ≤ most_cells
array_end known name first cells all e =
    let found = array_named known name first cells e in
    let in_range : IsInRange found.0 = found_of_all IsInRange _ known.mems found.0 all found.1.0 in
    omega (arith, found.2, found.3)
