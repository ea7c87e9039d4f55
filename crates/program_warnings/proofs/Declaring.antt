-- What is stored of declarations.
use Rattle.std.proofs.Common.{◌≡◌, ℕ, Bool, true, false, List, [], ◌∷◌, ◌++◌, refl, sym, ap, ◌∙◌}
use Rattle.std.specs.Prelude.{Option, Some, None, option_map, is_some, cond}
use Rattle.std.specs.List.{find}
use Rattle.std.specs.Option.{option_or}
use Rattle.std.specs.Str.{bytes_eq}
use Rattle.std.specs.Cmp.Lexicographic.{bytes_decides}
use Rattle.std.proofs.lemmas.List.Folds.{find-append}
use Rattle.text_words.specs.declared.value.Mem.{Mem}
use Rattle.text_words.specs.declared.value.Reducer.{Reducer}
use Rattle.program_warnings.specs.declared.declarations.Declared.{Declared}
use Rattle.program_warnings.specs.Declarations.{of_memory, of_reducer, memory_declared, reducer_declared}

or_none : (o : Option Declared) → o ≡ option_or o None
or_none None = refl
or_none (Some declared) = refl

or_some : (o p : Option Declared) → is_some o ≡ true → o ≡ option_or o p
or_some None p some = cc
or_some (Some declared) p some = refl

not_some : (o : Option Declared) → is_some o ≡ false → o ≡ None
not_some None none = refl
not_some (Some declared) none = cc

module _ (old : List ℕ → Option Declared) (name other : List ℕ) (declared : Declared) where
  before_by : (b : Bool) → bytes_eq other name ≡ b → is_some (old name) ≡ true → old other ≡ option_or (old other) (cond b (Some declared) None)
  before_by true same some = or_some (old other) (Some declared) (ap (λ q. is_some (old q)) ((bytes_decides other name).0 same) ∙ some)
  before_by false same some = or_none (old other)

  -- the name is declared before
  pub declared_before : is_some (old name) ≡ true → old other ≡ option_or (old other) (cond (bytes_eq other name) (Some declared) None)
  declared_before some = before_by (bytes_eq other name) refl some

  first_by : (b : Bool) → bytes_eq other name ≡ b → is_some (old name) ≡ false → (c : Bool) → bytes_eq name other ≡ c →
      cond c (Some declared) (old other) ≡ option_or (old other) (cond b (Some declared) None)
  first_by true same none true back = let e : old other ≡ None = ap old ((bytes_decides other name).0 same) ∙ not_some (old name) none in rw e refl
  first_by true same none false back =
      let e : bytes_eq name other ≡ true = (bytes_decides name other).1 (sym ((bytes_decides other name).0 same)) in cc
  first_by false same none true back =
      let e : bytes_eq other name ≡ true = (bytes_decides other name).1 (sym ((bytes_decides name other).0 back)) in cc
  first_by false same none false back = or_none (old other)

  -- the name is declared for the first time
  pub declared_first : (new : Option Declared) → is_some (old name) ≡ false → new ≡ cond (bytes_eq name other) (Some declared) (old other) →
      new ≡ option_or (old other) (cond (bytes_eq other name) (Some declared) None)
  declared_first new none is = is ∙ first_by (bytes_eq other name) refl none (bytes_eq name other) refl

-- ---- one declaration more

map_or : {A : Type 0} (f : A → Declared) (o p : Option A) → option_map f (option_or o p) ≡ option_or (option_map f o) (option_map f p)
map_or f None p = refl
map_or f (Some x) p = refl

map_cond : {A : Type 0} (f : A → Declared) (b : Bool) (x : A) → option_map f (cond b (Some x) None) ≡ cond b (Some (f x)) None
map_cond f true x = refl
map_cond f false x = refl

pub memory_more : (mems : List Mem) (mem : Mem) (name : List ℕ) (old new : Option Declared) → old ≡ memory_declared mems name →
    new ≡ option_or old (cond (bytes_eq name mem.name) (Some (of_memory mem)) None) → new ≡ memory_declared (mems ++ mem ∷ []) name
memory_more mems mem name old new before is =
    is ∙ ap (λ o. option_or o (cond (bytes_eq name mem.name) (Some (of_memory mem)) None)) before ∙
    ap (option_or (memory_declared mems name)) (sym (map_cond of_memory (bytes_eq name mem.name) mem)) ∙
    sym (map_or of_memory (find (λ (one : Mem). bytes_eq name one.name) mems) (cond (bytes_eq name mem.name) (Some mem) None)) ∙
    ap (option_map of_memory) (sym (find-append (λ (one : Mem). bytes_eq name one.name) mems (mem ∷ [])))

reducer_more : (reducers : List Reducer) (reducer : Reducer) (name : List ℕ) →
    reducer_declared (reducers ++ reducer ∷ []) name ≡ option_or (reducer_declared reducers name) (cond (bytes_eq name reducer.name) (Some (of_reducer reducer)) None)
reducer_more reducers reducer name =
    ap (option_map of_reducer) (find-append (λ (one : Reducer). bytes_eq name one.name) reducers (reducer ∷ [])) ∙
    map_or of_reducer (find (λ (one : Reducer). bytes_eq name one.name) reducers) (cond (bytes_eq name reducer.name) (Some reducer) None) ∙
    ap (option_or (reducer_declared reducers name)) (map_cond of_reducer (bytes_eq name reducer.name) reducer)

or_or : (o p q : Option Declared) → option_or (option_or o p) q ≡ option_or o (option_or p q)
or_or None p q = refl
or_or (Some declared) p q = refl

pub reducer_behind : (memory : Option Declared) (reducers : List Reducer) (reducer : Reducer) (name : List ℕ) (old new : Option Declared) →
    old ≡ option_or memory (reducer_declared reducers name) →
    new ≡ option_or old (cond (bytes_eq name reducer.name) (Some (of_reducer reducer)) None) →
    new ≡ option_or memory (reducer_declared (reducers ++ reducer ∷ []) name)
reducer_behind memory reducers reducer name old new before is =
    is ∙ ap (λ o. option_or o (cond (bytes_eq name reducer.name) (Some (of_reducer reducer)) None)) before ∙
    or_or memory (reducer_declared reducers name) (cond (bytes_eq name reducer.name) (Some (of_reducer reducer)) None) ∙
    ap (option_or memory) (sym (reducer_more reducers reducer name))

-- no reducer is stored yet
pub no_reducer : (memory : Option Declared) → memory ≡ option_or memory (reducer_declared [] [])
no_reducer memory = or_none memory
