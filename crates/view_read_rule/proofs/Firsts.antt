-- The first read of a reducer, and what is kept of it.
use Rattle.std.proofs.Common.{◌≡◌, ◌≢◌, ◌⊎◌, inl, inr, ℕ, zero, suc, ◌<◌, Bool, true, false, cond, List, [], ◌∷◌, ◌++◌, length, get_or, Option, Some, None, refl, sym, ap, ◌∙◌, arith, eqb, eq-eqb}
use Rattle.std.specs.List.{find, Contains}
use Rattle.std.specs.Option.{option_map, option_or, is_some}
use Rattle.std.proofs.Math.ListN.{set}
use Rattle.std.proofs.lemmas.Bool.{eqb-true}
use Rattle.std.proofs.lemmas.Bool.Decides.{eqb_tells}
use Rattle.std.proofs.lemmas.List.{get_or_read, get_or-set_same, get_or-set_other, length-set}
use Rattle.std.proofs.lemmas.List.Folds.{find-append}
use Rattle.std.specs.Bool.{IsTrue}
use Rattle.model_accesses.specs.declared.kind.Kind.{Kind}
use Rattle.model_accesses.specs.declared.kind.Kind.TheVariants.{Write, Bump, Read, Update, Put, Get}
use Rattle.model_accesses.specs.Table.{is_reducer_read}
use Rattle.model_accesses.specs.declared.witness.Witness.{Witness}
use Rattle.model_accesses.specs.Reads.{ReducerRead, witness_of, IsReadOf}
use Rattle.view_read_rule.specs.Reads.{first_read, Remembers}

-- What is found is an item that passes.
find-found : {X : Type 0} (p : X → Bool) (xs : List X) (x : X) → find p xs ≡ Some x → Contains xs x × (p x ≡ true)
find-found p [] x e = absurd (cc)
find-found {X} p (y ∷ ys) x e = go (p y) refl (find-found p ys x) e
  where
    go : (b : Bool) → p y ≡ b → (find p ys ≡ Some x → Contains ys x × (p x ≡ true)) → cond b (Some y) (find p ys) ≡ Some x → Contains (y ∷ ys) x × (p x ≡ true)
    go true passes later e = let same : y ≡ x = cc in ((0, omega arith, same), ap p (sym same) ∙ passes)
    go false fails later e = let ((k, lt, at), passes) = later e in ((suc k, omega arith, at), passes)

-- Where nothing is found, no item passes.
find-none : {X : Type 0} (p : X → Bool) (xs : List X) (x : X) → find p xs ≡ None → Contains xs x → p x ≡ true → ⊥
find-none p [] x e (k, lt, at) passes = absurd (omega arith)
find-none {X} p (y ∷ ys) x e (k, lt, at) passes = go (p y) refl (λ none found. find-none p ys x none found passes) e k lt at
  where
    go : (b : Bool) → p y ≡ b → (find p ys ≡ None → Contains ys x → ⊥) → cond b (Some y) (find p ys) ≡ None → (k : ℕ) → k < length (y ∷ ys) → get_or (y ∷ ys) k x ≡ x → ⊥
    go true passes_first later e k lt at = absurd (cc)
    go false fails later e zero lt at = let found : false ≡ true = sym fails ∙ (ap p at ∙ passes) in absurd (cc)
    go false fails later e (suc k) lt at = later e (k, omega arith, at)

pub first-of : (reads : List ReducerRead) (reducer : ℕ) (read : ReducerRead) → first_read reads reducer ≡ Some read → IsReadOf reads reducer read
first-of reads reducer read e =
    let found = find-found (λ (other : ReducerRead). eqb other.reducer reducer) reads read e in
    (found.0, eqb-true read.reducer reducer found.1)

pub none-of : (reads : List ReducerRead) (reducer : ℕ) (read : ReducerRead) → first_read reads reducer ≡ None → IsReadOf reads reducer read → ⊥
none-of reads reducer read e is = find-none (λ (other : ReducerRead). eqb other.reducer reducer) reads read e is.0 (eq-eqb read.reducer reducer is.1)

-- The place of the reducer was read.
pub kept-read : (items firsts : List (Option Witness)) (reducer : ℕ) (kept : Option Witness) → items ≡ firsts → reducer < length firsts → kept ≡ get_or items reducer kept → get_or firsts reducer None ≡ kept
kept-read items firsts reducer kept same_items lt read =
    sym (get_or_read items reducer kept (omega (arith, ap length same_items)) read None ∙ ap (λ list. get_or list reducer None) same_items)

-- What is kept is the first read.
pub some-kept : (firsts : List (Option Witness)) (reads : List ReducerRead) (reducer : ℕ) (first : Witness) → Remembers firsts reads → reducer < length firsts → get_or firsts reducer None ≡ Some first →
    (read : ReducerRead) × (first_read reads reducer ≡ Some read) × (first ≡ witness_of read)
some-kept firsts reads reducer first remembers lt at = go (first_read reads reducer) refl (sym at ∙ remembers.kept reducer lt)
  where
    go : (found : Option ReducerRead) → first_read reads reducer ≡ found → Some first ≡ option_map witness_of found → (read : ReducerRead) × (first_read reads reducer ≡ Some read) × (first ≡ witness_of read)
    go (Some read) found e = (read, found, cc)
    go None found e = absurd (cc)

pub none-kept : (firsts : List (Option Witness)) (reads : List ReducerRead) (reducer : ℕ) → Remembers firsts reads → reducer < length firsts → get_or firsts reducer None ≡ None → first_read reads reducer ≡ None
none-kept firsts reads reducer remembers lt at = go (first_read reads reducer) refl (sym at ∙ remembers.kept reducer lt)
  where
    go : (found : Option ReducerRead) → first_read reads reducer ≡ found → None ≡ option_map witness_of found → first_read reads reducer ≡ None
    go (Some read) found e = absurd (cc)
    go None found e = found

-- the first of one more read
first-append : (reads : List ReducerRead) (read : ReducerRead) (reducer : ℕ) (old : Option ReducerRead) (b : Bool) → first_read reads reducer ≡ old → eqb read.reducer reducer ≡ b →
    first_read (reads ++ read ∷ []) reducer ≡ option_or old (cond b (Some read) None)
first-append reads read reducer old b first test = rw (← first, ← test) (find-append (λ (other : ReducerRead). eqb other.reducer reducer) reads (read ∷ []))

-- of another reducer the first stays
first-elsewhere : (reads : List ReducerRead) (read : ReducerRead) (reducer : ℕ) → eqb read.reducer reducer ≡ false → first_read (reads ++ read ∷ []) reducer ≡ first_read reads reducer
first-elsewhere reads read reducer test = go (first_read reads reducer) refl
  where
    go : (old : Option ReducerRead) → first_read reads reducer ≡ old → first_read (reads ++ read ∷ []) reducer ≡ first_read reads reducer
    go (Some old) first = first-append reads read reducer (Some old) false first test ∙ sym first
    go None first = first-append reads read reducer None false first test ∙ sym first

-- Where a read of the reducer is kept, another changes nothing.
pub remembers-still : (firsts : List (Option Witness)) (reads : List ReducerRead) (read : ReducerRead) (first : Witness) → Remembers firsts reads → read.reducer < length firsts → get_or firsts read.reducer None ≡ Some first →
    Remembers firsts (reads ++ read ∷ [])
remembers-still firsts reads read first remembers lt at = record { kept = λ reducer known. remembers.kept reducer known ∙ ap (option_map witness_of) (sym (go reducer known (eqb_tells read.reducer reducer))) }
  where
    go : (reducer : ℕ) → reducer < length firsts → ((eqb read.reducer reducer ≡ true) × (read.reducer ≡ reducer)) ⊎ ((eqb read.reducer reducer ≡ false) × (read.reducer ≢ reducer)) →
        first_read (reads ++ read ∷ []) reducer ≡ first_read reads reducer
    go reducer known (inl (test, here)) =
        let (old, found, is) = some-kept firsts reads reducer first remembers known (ap (λ place. get_or firsts place None) (sym here) ∙ at) in
        first-append reads read reducer (Some old) true found test ∙ sym found
    go reducer known (inr (test, off)) = first-elsewhere reads read reducer test

-- Where none is kept, the new read is the first.
pub remembers-first : (firsts : List (Option Witness)) (reads : List ReducerRead) (read : ReducerRead) → Remembers firsts reads → read.reducer < length firsts → get_or firsts read.reducer None ≡ None →
    Remembers (set firsts read.reducer (Some (witness_of read))) (reads ++ read ∷ [])
remembers-first firsts reads read remembers lt at = record {
  kept = λ reducer known. go reducer (omega (arith, length-set firsts read.reducer (Some (witness_of read)))) (eqb_tells read.reducer reducer);
}
  where
    go : (reducer : ℕ) → reducer < length firsts → ((eqb read.reducer reducer ≡ true) × (read.reducer ≡ reducer)) ⊎ ((eqb read.reducer reducer ≡ false) × (read.reducer ≢ reducer)) →
        get_or (set firsts read.reducer (Some (witness_of read))) reducer None ≡ option_map witness_of (first_read (reads ++ read ∷ []) reducer)
    go reducer known (inl (test, here)) =
        ap (λ place. get_or (set firsts read.reducer (Some (witness_of read))) place None) (sym here) ∙
        (get_or-set_same firsts read.reducer (Some (witness_of read)) None lt ∙
        sym (ap (option_map witness_of) (first-append reads read reducer None true (none-kept firsts reads reducer remembers known (ap (λ place. get_or firsts place None) (sym here) ∙ at)) test)))
    go reducer known (inr (test, off)) =
        get_or-set_other firsts read.reducer reducer (Some (witness_of read)) None (λ e. off (sym e)) ∙
        (remembers.kept reducer known ∙ ap (option_map witness_of) (sym (first-elsewhere reads read reducer test)))

-- A reducer read that is no get is a put.
pub put-read : (kind : Kind) → IsTrue (is_reducer_read kind) → (kind ≡ Get → ⊥) → kind ≡ Put
put-read Put is not_get = refl
put-read Get is not_get = absurd (not_get refl)
put-read Write is not_get = absurd (cc)
put-read Bump is not_get = absurd (cc)
put-read Read is not_get = absurd (cc)
put-read Update is not_get = absurd (cc)

pub none-there : (kept : Option Witness) → is_some kept ≡ false → kept ≡ None
none-there None e = refl
none-there (Some first) e = absurd (cc)

pub some-there : (kept : Option Witness) → is_some kept ≡ true → (first : Witness) × (kept ≡ Some first)
some-there None e = absurd (cc)
some-there (Some first) e = (first, refl)
