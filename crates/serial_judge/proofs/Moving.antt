-- Records that go, and the numbers of those that stay.
use Rattle.std.proofs.Common.{◌≡◌, ◌⊎◌, inl, inr, ℕ, zero, suc, ◌+◌, ◌<◌, ◌≤◌, Bool, true, false, cond, ◌&&◌, ◌||◌, leb, ltb, List, [], ◌∷◌, ◌++◌, length, get_or, set, map, reverse, take, drop, All, Option, Some, None, IsSome, Contains, refl, sym, ap, ap₂, ◌∙◌, subst, length-append, zero-add, one-add, add-one, arith}
use Rattle.std.specs.List.{slice_get, AllZip}
use Rattle.std.proofs.lemmas.Option.{none-some, same_Some}
use Rattle.std.proofs.lemmas.Bool.{cases_lt}
use Rattle.std.proofs.lemmas.Bool.Decides.{nat_tests}
use Rattle.model_serial_runs.specs.declared.access_kind.AccessKind.{AccessKind}
use Rattle.model_serial_runs.specs.declared.access_kind.AccessKind.TheVariants.{Read, Load, Update, Write}
use Rattle.model_serial_runs.specs.Accesses.{Access}
use Rattle.model_serial_runs.specs.Current.{current}
use Rattle.law_strands.specs.Branches.{branch}
use Rattle.law_serial_runs.specs.Frames.{Entry, at_root, by_call, by_spawn, Frame, frames}
use Rattle.serial_judge.specs.declared.cell.Cell.{Cell}
use Rattle.serial_judge.specs.declared.scope.Scope.{Scope}
use Rattle.serial_judge.specs.declared.scope.Spawn.{Spawn}
use Rattle.serial_judge.specs.declared.spans.Span.{Span}
use Rattle.serial_judge.specs.declared.records.Record.{Record}
use Rattle.serial_judge.specs.Judge.{Judge}
use Rattle.serial_judge.specs.Moves.{marked, rank, moved, moved_span, moved_spawn, moved_scope, moved_judge, moved_cell, moved_run, IsMarked, IsSpawnWithin}
use Rattle.serial_judge.specs.Numbers.{numbered}
use Rattle.serial_judge.specs.Runs.{Run}
use Rattle.serial_judge.specs.Scopes.{Sight, AreParallel, IsEntered, IsBlock, AreScopes, AreNested, IsBranch, running_branch, OfOuter}
use Rattle.serial_judge.specs.Spans.{is_held, IsAscending}
use Rattle.serial_judge.specs.Follows.{sight_of, IsRecordOf, Follows}
use Rattle.serial_judge.specs.Remembers.{IsKept, kept_number, IsCovered, Remembers}
use Rattle.serial_judge.specs.Branches.{number_of}
use Rattle.std.proofs.lemmas.List.Edits.{map_over_more}
use Rattle.std.proofs.lemmas.List.Elements.{All-nil, All-cons, All-head, All-tail, All-contains, Contains-push}
use Rattle.std.proofs.lemmas.List.{reverse-append, map-append, get_or_append_left}
use Rattle.serial_judge.specs.declared.reads.Reads.{Reads}
use Rattle.serial_judge.proofs.Ascending.{ascending-bounds}
use Rattle.serial_judge.proofs.Kept.{numbered-within}
use Rattle.serial_judge.proofs.Recorded.{zip-length}

-- Ranks.

rank-up : (marks : List Bool) (a b : ℕ) → a ≤ b → rank marks a ≤ rank marks b
rank-up [] a b le = omega arith
rank-up (m ∷ ms) zero b le = omega arith
rank-up (m ∷ ms) (suc a) zero le = absurd (omega arith)
rank-up (m ∷ ms) (suc a) (suc b) le = let k : rank ms a ≤ rank ms b = rank-up ms a b (omega arith) in omega arith

rank-more : (marks : List Bool) (a b : ℕ) → slice_get marks a ≡ Some true → a < b → rank marks a < rank marks b
rank-more [] a b e lt = absurd (none-some true e)
rank-more (m ∷ ms) a zero e lt = absurd (omega arith)
rank-more (m ∷ ms) zero (suc b) e lt = rw (same_Some m true e) (omega arith)
rank-more (m ∷ ms) (suc a) (suc b) e lt = let k : rank ms a < rank ms b = rank-more ms a b e (omega arith) in omega arith

-- a marked item has its rank as its place
marked-get : {X : Type 0} (marks : List Bool) (xs : List X) (k : ℕ) (x : X) → slice_get xs k ≡ Some x → slice_get marks k ≡ Some true →
    slice_get (marked marks xs) (rank marks k) ≡ Some x
marked-get [] xs k x e m = absurd (none-some true m)
marked-get (b ∷ ms) [] k x e m = absurd (none-some x e)
marked-get (b ∷ ms) (y ∷ xs) zero x e m = rw (same_Some b true m) e
marked-get (true ∷ ms) (y ∷ xs) (suc k) x e m = rw one-add (marked-get ms xs k x e m)
marked-get (false ∷ ms) (y ∷ xs) (suc k) x e m = rw zero-add (marked-get ms xs k x e m)

-- and each that is left was a marked one
marked-was : {X : Type 0} (marks : List Bool) (xs : List X) (i : ℕ) (x : X) → slice_get (marked marks xs) i ≡ Some x →
    (k : ℕ) × (slice_get xs k ≡ Some x) × (slice_get marks k ≡ Some true) × (rank marks k ≡ i)
marked-was [] xs i x e = absurd (none-some x e)
marked-was (b ∷ ms) [] i x e = absurd (none-some x e)
marked-was (true ∷ ms) (y ∷ xs) zero x e = (0, e, refl, refl)
marked-was (true ∷ ms) (y ∷ xs) (suc i) x e = let t = marked-was ms xs i x e in (suc t.0, t.1, t.2, omega (arith, t.3))
marked-was (false ∷ ms) (y ∷ xs) i x e = let t = marked-was ms xs i x e in (suc t.0, t.1, t.2, omega (arith, t.3))

marked-length : {X : Type 0} (marks : List Bool) (xs : List X) → length marks ≡ length xs → length (marked marks xs) ≡ rank marks (length xs)
marked-length [] xs e = refl
marked-length (b ∷ ms) [] e = absurd (omega arith)
marked-length (true ∷ ms) (y ∷ xs) e = let k : length (marked ms xs) ≡ rank ms (length xs) = marked-length ms xs (omega arith) in omega arith
marked-length (false ∷ ms) (y ∷ xs) e = let k : length (marked ms xs) ≡ rank ms (length xs) = marked-length ms xs (omega arith) in omega arith

marked-zip : {A B : Type 0} (R : A → B → Type 0) (marks : List Bool) (xs : List A) (ys : List B) → AllZip R xs ys → AllZip R (marked marks xs) (marked marks ys)
marked-zip R [] xs ys z = tt
marked-zip R (b ∷ ms) [] [] z = tt
marked-zip R (b ∷ ms) [] (y ∷ ys) z = absurd z
marked-zip R (b ∷ ms) (x ∷ xs) [] z = absurd z
marked-zip R (true ∷ ms) (x ∷ xs) (y ∷ ys) z = (z.0, marked-zip R ms xs ys z.1)
marked-zip R (false ∷ ms) (x ∷ xs) (y ∷ ys) z = marked-zip R ms xs ys z.1

-- Numbers.

moved-numbered : {X : Type 0} (marks : List Bool) (xs : List X) (n : ℕ) (x : X) → numbered xs n ≡ Some x → numbered marks n ≡ Some true →
    numbered (marked marks xs) (moved marks n) ≡ Some x
moved-numbered marks xs zero x e m = absurd (none-some x e)
moved-numbered marks xs (suc k) x e m = marked-get marks xs k x e m

moved-was : {X : Type 0} (marks : List Bool) (xs : List X) (i : ℕ) (x : X) → numbered (marked marks xs) i ≡ Some x →
    (n : ℕ) × (numbered xs n ≡ Some x) × (numbered marks n ≡ Some true) × (moved marks n ≡ i)
moved-was marks xs zero x e = absurd (none-some x e)
moved-was marks xs (suc i) x e = let t = marked-was marks xs i x e in (suc t.0, t.1, t.2, ap suc t.3)

pub moved-up : (marks : List Bool) (a b : ℕ) → a ≤ b → moved marks a ≤ moved marks b
moved-up marks zero b le = omega arith
moved-up marks (suc a) zero le = absurd (omega arith)
moved-up marks (suc a) (suc b) le = let k : rank marks a ≤ rank marks b = rank-up marks a b (omega arith) in omega arith

pub moved-one : (marks : List Bool) → moved marks 1 ≡ 1
moved-one [] = refl
moved-one (m ∷ ms) = refl

moved-more : (marks : List Bool) (n b : ℕ) → numbered marks n ≡ Some true → n < b → moved marks n < moved marks b
moved-more marks zero b e lt = absurd (none-some true e)
moved-more marks (suc a) zero e lt = absurd (omega arith)
moved-more marks (suc a) (suc b) e lt = let k : rank marks a < rank marks b = rank-more marks a b e (omega arith) in omega arith

-- a marked number is from a bound on exactly where its new one is
moved-leb : (marks : List Bool) (bound n : ℕ) → numbered marks n ≡ Some true → leb (moved marks bound) (moved marks n) ≡ leb bound n
moved-leb marks b n e = go (cases_lt n b)
  where
    go : (n < b) ⊎ (b ≤ n) → leb (moved marks b) (moved marks n) ≡ leb b n
    go (inl lt) = let k : moved marks n < moved marks b = moved-more marks n b e lt in grind (arith, nat_tests)
    go (inr le) = let k : moved marks b ≤ moved marks n = moved-up marks b n le in grind (arith, nat_tests)

moved-ltb : (marks : List Bool) (bound n : ℕ) → numbered marks n ≡ Some true → ltb (moved marks n) (moved marks bound) ≡ ltb n bound
moved-ltb marks b n e = go (cases_lt n b)
  where
    go : (n < b) ⊎ (b ≤ n) → ltb (moved marks n) (moved marks b) ≡ ltb n b
    go (inl lt) = let k : moved marks n < moved marks b = moved-more marks n b e lt in grind (arith, nat_tests)
    go (inr le) = let k : moved marks b ≤ moved marks n = moved-up marks b n le in grind (arith, nat_tests)

pub moved-held : (marks : List Bool) (spans : List Span) (n : ℕ) → numbered marks n ≡ Some true →
    is_held (map (moved_span marks) spans) (moved marks n) ≡ is_held spans n
moved-held marks [] n e = refl
moved-held marks (s ∷ ss) n e = ap₂ (λ y z. y || z) (ap₂ (λ y z. y && z) (moved-leb marks s.begin n e) (moved-ltb marks s.end n e)) (moved-held marks ss n e)

moved-ascending : (marks : List Bool) (low : ℕ) (spans : List Span) (high : ℕ) → IsAscending low spans high →
    IsAscending (moved marks low) (map (moved_span marks) spans) (moved marks high)
moved-ascending marks low [] high a = moved-up marks low high a
moved-ascending marks low (s ∷ ss) high (l, o, a) = (moved-up marks low s.begin l, moved-up marks s.begin s.end o, moved-ascending marks s.end ss high a)

pub take-map : {A B : Type 0} (g : A → B) (n : ℕ) (xs : List A) → take n (map g xs) ≡ map g (take n xs)
take-map g zero [] = refl
take-map g zero (x ∷ xs) = refl
take-map g (suc n) [] = refl
take-map g (suc n) (x ∷ xs) = ap (λ z. g x ∷ z) (take-map g n xs)

pub length-map' : {A B : Type 0} (g : A → B) (xs : List A) → length (map g xs) ≡ length xs
length-map' g [] = refl
length-map' g (x ∷ xs) = ap suc (length-map' g xs)

-- What is looked at of a run, with the records that are marked.
module _ (marks : List Bool) (sight : Sight) where
  parallel-moved : (strand : ℕ) (test test' : ℕ → Bool) → ((n : ℕ) → numbered marks n ≡ Some true → test' (moved marks n) ≡ test n) →
      AreParallel sight strand test →
      AreParallel (record { address = sight.address; branch = sight.branch; unused = sight.unused; records = marked marks sight.records }) strand test'
  parallel-moved x test test' same p i a e =
      let t = moved-was marks sight.records i a e in
      p t.0 a t.1 ∙ (sym (same t.0 t.2) ∙ ap test' t.3)

  taken-held : (spans : List Span) (count n : ℕ) → numbered marks n ≡ Some true →
      is_held (take count (map (moved_span marks) spans)) (moved marks n) ≡ is_held (take count spans) n
  taken-held spans count n e =
      ap (λ z. is_held z (moved marks n)) (take-map (moved_span marks) count spans) ∙ moved-held marks (take count spans) n e

  block-moved : (spans : List Span) (scope : Scope) (own join : Option ℕ) → IsBlock sight spans scope own join →
      IsBlock (record { address = sight.address; branch = sight.branch; unused = sight.unused; records = marked marks sight.records })
      (map (moved_span marks) spans) (moved_scope marks scope) own join
  block-moved spans scope None None b = tt
  block-moved spans scope None (Some j) b = absurd b
  block-moved spans scope (Some k) None b = absurd b
  block-moved spans scope (Some k) (Some j) b = record {
    below = b.below;
    parallel = parallel-moved j (is_held (take scope.spans spans)) (is_held (take scope.spans (map (moved_span marks) spans)))
        (λ n e. taken-held spans scope.spans n e) b.parallel;
    branch = b.branch;
  }

  outer-moved : (next : ℕ) (outer : List Scope) →
      OfOuter outer (λ around. IsSome around.block × (running_branch around.block around.branch ≡ number_of (sight.branch next))) →
      OfOuter (map (moved_scope marks) outer) (λ around. IsSome around.block × (running_branch around.block around.branch ≡ number_of (sight.branch next)))
  outer-moved n [] b = b
  outer-moved n (scope ∷ scopes) b = b

  called-moved : (branch : ℕ) (outer : List Scope) → OfOuter outer (λ around. branch ≡ running_branch around.block around.branch) →
      OfOuter (map (moved_scope marks) outer) (λ around. branch ≡ running_branch around.block around.branch)
  called-moved k [] b = b
  called-moved k (scope ∷ scopes) b = b

  entry-moved : length marks ≡ length sight.records → (spans : List Span) (scope : Scope) (spawn : Option Spawn) (entry : Entry) (outer : List Scope) →
      IsEntered sight spans scope spawn entry outer →
      IsEntered (record { address = sight.address; branch = sight.branch; unused = sight.unused; records = marked marks sight.records })
      (map (moved_span marks) spans) (moved_scope marks scope) (moved_spawn marks spawn) entry (map (moved_scope marks) outer)
  entry-moved len spans scope None at_root outer b = ap (map (moved_scope marks)) b
  entry-moved len spans scope None by_call outer b = called-moved scope.branch outer b
  entry-moved len spans scope None (by_spawn n) outer b = absurd b
  entry-moved len spans scope (Some k) at_root outer b = absurd b
  entry-moved len spans scope (Some k) by_call outer b = absurd b
  entry-moved len spans scope (Some k) (by_spawn n) outer b = record {
    below = b.below;
    parallel = parallel-moved n (λ z. is_held (take scope.spans spans) z || leb k.begin z)
        (λ z. is_held (take scope.spans (map (moved_span marks) spans)) z || leb (moved marks k.begin) z)
        (λ m e. ap₂ (λ y z. y || z) (taken-held spans scope.spans m e) (moved-leb marks k.begin m e)) b.parallel;
    ascending = subst (λ z. IsAscending 1 z (moved marks k.begin)) (sym (take-map (moved_span marks) scope.spans spans))
        (subst (λ z. IsAscending z (map (moved_span marks) (take scope.spans spans)) (moved marks k.begin)) (moved-one marks)
        (moved-ascending marks 1 (take scope.spans spans) k.begin b.ascending));
    begin = let up : moved marks k.begin ≤ moved marks (suc (length sight.records)) = moved-up marks k.begin (suc (length sight.records)) b.begin in
        omega (arith, marked-length marks sight.records len);
    branch = outer-moved n outer b.branch;
  }

  scopes-moved : length marks ≡ length sight.records → (spans : List Span) (scopes : List Scope) (all : List Frame) → AreScopes sight spans scopes all →
      AreScopes (record { address = sight.address; branch = sight.branch; unused = sight.unused; records = marked marks sight.records })
      (map (moved_span marks) spans) (map (moved_scope marks) scopes) all
  scopes-moved len spans [] [] s = tt
  scopes-moved len spans [] (frame ∷ all) s = absurd s
  scopes-moved len spans (scope ∷ scopes) [] s = absurd s
  scopes-moved len spans (scope ∷ scopes) (frame ∷ all) s =
      (block-moved spans scope scope.block frame.block s.0, entry-moved len spans scope scope.spawn frame.entry scopes s.1, scopes-moved len spans scopes all s.2)

nested-moved : (marks : List Bool) (count : ℕ) (scopes : List Scope) → AreNested count scopes → AreNested count (map (moved_scope marks) scopes)
nested-moved marks count [] k = tt
nested-moved marks count (scope ∷ scopes) k = (k.0, k.1, nested-moved marks scope.spans scopes k.2)

branch-moved : (marks : List Bool) (number : ℕ) (scopes : List Scope) → IsBranch number scopes → IsBranch number (map (moved_scope marks) scopes)
branch-moved marks n [] b = b
branch-moved marks n (scope ∷ scopes) b = b

pub follows_moved : (judge : Judge) (run : Run) (marks : List Bool) → Follows judge run → length marks ≡ length judge.records →
    Follows (moved_judge marks judge) (moved_run marks run)
follows_moved judge run marks f len' = record {
  legal = f.legal;
  serial = f.serial;
  unfinished = f.unfinished;
  events = f.events;
  recorded = marked-zip IsRecordOf marks judge.records run.records f.recorded;
  has_run = λ i a e. (let t = moved-was marks run.records i a e in f.has_run t.0 a t.1);
  own = λ i a e le. own i a e le;
  first = (subst (λ z. z ≤ moved marks judge.first) (moved-one marks) (moved-up marks 1 judge.first f.first.0), first_within);
  parallel = parallel-moved marks (sight_of run) (current run.history) (is_held judge.spans) (is_held (map (moved_span marks) judge.spans))
      (λ n e. moved-held marks judge.spans n e) f.parallel;
  ascending = subst (λ z. IsAscending 1 (map (moved_span marks) judge.spans) (suc z)) (sym (marked-length marks run.records len))
      (subst (λ z. IsAscending z (map (moved_span marks) judge.spans) (moved marks (suc (length run.records)))) (moved-one marks)
      (moved-ascending marks 1 judge.spans (suc (length run.records)) f.ascending));
  scopes = scopes-moved marks (sight_of run) len judge.spans judge.scopes (frames run.history) f.scopes;
  nested = subst (λ z. AreNested z (map (moved_scope marks) judge.scopes)) (sym (length-map' (moved_span marks) judge.spans))
      (nested-moved marks (length judge.spans) judge.scopes f.nested);
  branch_is = branch-moved marks (number_of (branch run.history (current run.history))) judge.scopes f.branch_is;
  readers = f.readers;
  reads = f.reads;
}
  where
    len : length marks ≡ length run.records
    len = len' ∙ zip-length IsRecordOf judge.records run.records f.recorded

    own : (i : ℕ) (a : Access) → numbered (marked marks run.records) i ≡ Some a → moved marks judge.first ≤ i → a.strand ≡ current run.history
    own i a e le =
        let t = moved-was marks run.records i a e in
        f.own t.0 a t.1 (back t.0 t.2 (omega (arith, t.3)))
      where
        back : (n : ℕ) → numbered marks n ≡ Some true → moved marks judge.first ≤ moved marks n → judge.first ≤ n
        back n m up = go (cases_lt n judge.first)
          where
            go : (n < judge.first) ⊎ (judge.first ≤ n) → judge.first ≤ n
            go (inl lt) = let k : moved marks n < moved marks judge.first = moved-more marks n judge.first m lt in absurd (omega arith)
            go (inr it) = it

    first_within : moved marks judge.first ≤ suc (length (marked marks run.records))
    first_within =
        let up : moved marks judge.first ≤ moved marks (suc (length run.records)) = moved-up marks judge.first (suc (length run.records)) f.first.1 in
        omega (arith, marked-length marks run.records len)

-- what a cell remembers that names marked records alone
pub remembers_moved : (run : Run) (marks : List Bool) (cell : Cell) (accesses : List Access) → IsMarked marks cell → Remembers run cell accesses →
    Remembers (moved_run marks run) (moved_cell marks cell) accesses
remembers_moved run marks cell accesses is m = record {
  kept = λ kind. subst (IsKept (marked marks run.records) accesses kind) (sym (number_is kind)) (named kind (kept_number cell kind) (is kind) (m.kept kind));
  latest = inl refl;
  covered = covered;
}
  where
    number_is : (kind : AccessKind) → kept_number (moved_cell marks cell) kind ≡ moved marks (kept_number cell kind)
    number_is Read = refl
    number_is Load = refl
    number_is Update = refl
    number_is Write = refl

    named : (kind : AccessKind) (n : ℕ) → (n ≡ 0) ⊎ (numbered marks n ≡ Some true) → IsKept run.records accesses kind n →
        IsKept (marked marks run.records) accesses kind (moved marks n)
    named k n (inl z) t = inl (ap (moved marks) z)
    named k n (inr e) (inl z) = inl (ap (moved marks) z)
    named k n (inr e) (inr (a, t)) = inr (a, record { is = moved-numbered marks run.records n a t.is e; listed = t.listed; kind_is = t.kind_is })

    there : (n : ℕ) (a : Access) → (n ≡ 0) ⊎ (numbered marks n ≡ Some true) → numbered run.records n ≡ Some a → numbered (marked marks run.records) (moved marks n) ≡ Some a
    there n a (inl z) e = absurd (none-some a (ap (numbered run.records) (sym z) ∙ e))
    there n a (inr k) e = moved-numbered marks run.records n a e k

    covered : (access : Access) → Contains accesses access → IsCovered (moved_run marks run) (moved_cell marks cell) access
    covered a c later ext l s p =
        let r = m.covered a c later ext l s p in (
          r.0,
          record {
            is = ap (numbered (marked marks run.records)) (number_is r.0.kind) ∙ there (kept_number cell r.0.kind) r.0 (is r.0.kind) r.1.is;
            strong = r.1.strong;
          },
          r.2,
        )

-- The steps that count and keep.

pub rank-step : (marks : List Bool) (i : ℕ) (d : Bool) → i < length marks → rank marks (suc i) ≡ rank marks i + cond (get_or marks i d) 1 0
rank-step [] i d lt = absurd (omega arith)
rank-step (true ∷ ms) zero d lt = first ms
  where
    first : (ms : List Bool) → 1 + rank ms 0 ≡ 0 + 1
    first [] = refl
    first (m ∷ ms) = refl
rank-step (false ∷ ms) zero d lt = first ms
  where
    first : (ms : List Bool) → 0 + rank ms 0 ≡ 0 + 0
    first [] = refl
    first (m ∷ ms) = refl
rank-step (m ∷ ms) (suc i) d lt =
    let k : rank ms (suc i) ≡ rank ms i + cond (get_or ms i d) 1 0 = rank-step ms i d (omega arith) in omega arith

pub marked-step : {X : Type 0} (marks : List Bool) (xs : List X) (i : ℕ) (d : Bool) (e : X) → i < length marks → length marks ≡ length xs →
    marked (take (suc i) marks) (take (suc i) xs) ≡ marked (take i marks) (take i xs) ++ cond (get_or marks i d) (get_or xs i e ∷ []) []
marked-step [] xs i d e lt len = absurd (omega arith)
marked-step (m ∷ ms) [] i d e lt len = absurd (omega arith)
marked-step (true ∷ ms) (x ∷ xs) zero d e lt len = refl
marked-step (false ∷ ms) (x ∷ xs) zero d e lt len = refl
marked-step (true ∷ ms) (x ∷ xs) (suc i) d e lt len = ap (λ z. x ∷ z) (marked-step ms xs i d e (omega arith) (omega arith))
marked-step (false ∷ ms) (x ∷ xs) (suc i) d e lt len = marked-step ms xs i d e (omega arith) (omega arith)

get_push : (xs : List ℕ) (x k : ℕ) → k < length (xs ++ x ∷ []) →
    ((k < length xs) × (get_or (xs ++ x ∷ []) k 0 ≡ get_or xs k 0)) ⊎ ((k ≡ length xs) × (get_or (xs ++ x ∷ []) k 0 ≡ x))
get_push [] x zero lt = inr (refl, refl)
get_push [] x (suc k) lt = absurd (omega arith)
get_push (y ∷ xs) x zero lt = inl (omega arith, refl)
get_push (y ∷ xs) x (suc k) lt = elim (get_push xs x k (omega arith)) [ inl t ↦ inl (omega (arith, t.0), t.1) | inr t ↦ inr (ap suc t.0, t.1) ]

pub each_pushed : (marks : List Bool) (numbers more : List ℕ) (next : ℕ) → more ≡ numbers ++ next ∷ [] → next ≡ moved marks (length numbers) →
    ((k : ℕ) → k < length numbers → get_or numbers k 0 ≡ moved marks k) → (k : ℕ) → k < length more → get_or more k 0 ≡ moved marks k
each_pushed marks numbers more next is new old k lt =
    go (get_push numbers next k (omega (arith, lt, ap length is)))
  where
    go : ((k < length numbers) × (get_or (numbers ++ next ∷ []) k 0 ≡ get_or numbers k 0)) ⊎ ((k ≡ length numbers) × (get_or (numbers ++ next ∷ []) k 0 ≡ next)) →
        get_or more k 0 ≡ moved marks k
    go (inl t) = ap (λ z. get_or z k 0) is ∙ (t.1 ∙ old k t.0)
    go (inr t) = ap (λ z. get_or z k 0) is ∙ (t.1 ∙ (new ∙ ap (moved marks) (sym t.0)))

pub next_moved : (marks : List Bool) (i next : ℕ) (d mark : Bool) → i < length marks → get_or marks i d ≡ mark → next ≡ moved marks (suc i) →
    next + cond mark 1 0 ≡ moved marks (suc (i + 1))
next_moved marks i next d mark lt is e = rw add-one (
    let r : rank marks (suc i) ≡ rank marks i + cond (get_or marks i d) 1 0 = rank-step marks i d lt in
    let c : ◌≡◌ {A = ℕ} (cond (get_or marks i d) 1 0) (cond mark 1 0) = ap (λ (z : Bool). cond {A = ℕ} z 1 0) is in
    omega arith)

pub kept_moved : {X : Type 0} (marks : List Bool) (xs kept more : List X) (i : ℕ) (d mark : Bool) (x e : X) → i < length marks → length marks ≡ length xs →
    get_or marks i d ≡ mark → x ≡ get_or xs i e → kept ≡ marked (take i marks) (take i xs) → more ≡ kept ++ cond mark (x ∷ []) [] →
    more ≡ marked (take (i + 1) marks) (take (i + 1) xs)
kept_moved marks xs kept more i d mark x e lt len is at old new =
    new ∙ (ap (λ z. z ++ cond mark (x ∷ []) []) old ∙
    (ap₂ (λ (y : Bool) z. marked (take i marks) (take i xs) ++ cond y (z ∷ []) []) (sym is) at ∙
    (sym (marked-step marks xs i d e lt len) ∙ ap (λ z. marked (take z marks) (take z xs)) (sym (add-one i)))))

-- Maps in place.

get_mapped : {X : Type 0} (g : X → X) (xs : List X) (i : ℕ) (d : X) → i < length xs → get_or (map g (take i xs) ++ drop i xs) i d ≡ get_or xs i d
get_mapped g [] i d lt = absurd (omega arith)
get_mapped g (x ∷ xs) zero d lt = refl
get_mapped g (x ∷ xs) (suc i) d lt = get_mapped g xs i d (omega arith)

pub map_step : {X : Type 0} (g : X → X) (xs ys : List X) (i : ℕ) (x y : X) → i < length xs → ys ≡ map g (take i xs) ++ drop i xs → x ≡ get_or ys i x →
    (x ≡ get_or xs i x → y ≡ g x) → set ys i y ≡ map g (take (i + 1) xs) ++ drop (i + 1) xs
map_step g xs ys i x y lt is at new =
    ap (set ys i) (new (at ∙ (ap (λ z. get_or z i x) is ∙ get_mapped g xs i x lt))) ∙ map_over_more g xs ys i x lt is at

pub ends_within : (low : ℕ) (spans : List Span) (high i : ℕ) (d : Span) → IsAscending low spans high → i < length spans →
    ((get_or spans i d).begin ≤ high) × ((get_or spans i d).end ≤ high)
ends_within low [] high i d a lt = absurd (omega arith)
ends_within low (s ∷ ss) high zero d (l, o, a) lt = let k : s.end ≤ high = ascending-bounds s.end ss high a in (omega arith, k)
ends_within low (s ∷ ss) high (suc i) d (l, o, a) lt = ends_within s.end ss high i d a (omega arith)

pub marked-shorter : {X : Type 0} (marks : List Bool) (xs : List X) → length (marked marks xs) ≤ length xs
marked-shorter [] xs = omega arith
marked-shorter (m ∷ ms) [] = omega arith
marked-shorter (true ∷ ms) (x ∷ xs) = let k : length (marked ms xs) ≤ length xs = marked-shorter ms xs in omega arith
marked-shorter (false ∷ ms) (x ∷ xs) = let k : length (marked ms xs) ≤ length xs = marked-shorter ms xs in omega arith

pub moved_rises : (marks : List Bool) (spans : List Span) (high : ℕ) → IsAscending 1 spans high →
    IsAscending 1 (map (moved_span marks) spans) (moved marks high)
moved_rises marks spans high a =
    subst (λ z. IsAscending z (map (moved_span marks) spans) (moved marks high)) (moved-one marks) (moved-ascending marks 1 spans high a)

-- the spawns of the functions come before what comes next
spawn-within : (sight : Sight) (spans : List Span) (scope : Scope) (spawn : Option Spawn) (entry : Entry) (outer : List Scope) →
    IsEntered sight spans scope spawn entry outer → IsSpawnWithin (suc (length sight.records)) spawn
spawn-within sight spans scope None entry outer b = tt
spawn-within sight spans scope (Some k) at_root outer b = absurd b
spawn-within sight spans scope (Some k) by_call outer b = absurd b
spawn-within sight spans scope (Some k) (by_spawn n) outer b = b.begin

scopes-within : (sight : Sight) (spans : List Span) (scopes : List Scope) (all : List Frame) → AreScopes sight spans scopes all →
    All (λ scope. IsSpawnWithin (suc (length sight.records)) scope.spawn) scopes
scopes-within sight spans [] all s = All-nil (λ scope. IsSpawnWithin (suc (length sight.records)) scope.spawn)
scopes-within sight spans (scope ∷ scopes) [] s = absurd s
scopes-within sight spans (scope ∷ scopes) (frame ∷ all) s =
    All-cons (λ one. IsSpawnWithin (suc (length sight.records)) one.spawn) scope scopes
    (spawn-within sight spans scope scope.spawn frame.entry scopes s.1) (scopes-within sight spans scopes all s.2)

reverse-cons : {X : Type 0} (x : X) (xs : List X) → reverse (x ∷ xs) ≡ reverse xs ++ x ∷ []
reverse-cons x xs = reverse-append (x ∷ []) xs

reverse-mapped : {X Y : Type 0} (g : X → Y) (xs : List X) → reverse (map g xs) ≡ map g (reverse xs)
reverse-mapped g [] = refl
reverse-mapped g (x ∷ xs) =
    reverse-cons (g x) (map g xs) ∙
    (ap (λ z. z ++ g x ∷ []) (reverse-mapped g xs) ∙ (sym (map-append g (reverse xs) (x ∷ [])) ∙ ap (map g) (sym (reverse-cons x xs))))

all-front : {X : Type 0} (P : X → Type 0) (xs ys : List X) → All P (xs ++ ys) → All P xs
all-front P xs ys k i d lt = subst P (get_or_append_left xs ys d i lt) (k i d (omega (arith, lt, length-append xs ys)))

all-reversed : {X : Type 0} (P : X → Type 0) (xs : List X) → All P (reverse xs) → All P xs
all-reversed P [] k = k
all-reversed P (x ∷ xs) k =
    let both : All P (reverse xs ++ x ∷ []) = subst (All P) (reverse-cons x xs) k in
    All-cons P x xs (All-contains P (reverse xs ++ x ∷ []) x both (Contains-push (reverse xs) x)) (all-reversed P xs (all-front P (reverse xs) (x ∷ []) both))

-- how many records there are, by the judge and by the run
module _ (run : Run) (spans : List Span) (records : List Record) (first events : ℕ) (reads : List Reads) (top : Scope) (callers : List Scope)
    (f : Follows (record { scopes = top ∷ reverse callers; spans = spans; records = records; first = first; events = events; reads = reads }) run)
    (marks : List Bool) (len : length marks ≡ length records) where
  as_many : suc (length run.records) ≡ length marks + 1
  as_many = omega (arith, zip-length IsRecordOf records run.records f.recorded)

  pub spans_within : IsAscending 1 spans (length marks + 1)
  spans_within = subst (IsAscending 1 spans) as_many f.ascending

  all_within : All (λ (scope : Scope). IsSpawnWithin (length marks + 1) scope.spawn) (top ∷ reverse callers)
  all_within = subst (λ z. All (λ (scope : Scope). IsSpawnWithin z scope.spawn) (top ∷ reverse callers)) as_many
      (scopes-within (sight_of run) spans (top ∷ reverse callers) (frames run.history) f.scopes)

  pub top_within : IsSpawnWithin (length marks + 1) top.spawn
  top_within = All-head (λ (scope : Scope). IsSpawnWithin (length marks + 1) scope.spawn) top (reverse callers) all_within

  pub callers_within : All (λ (scope : Scope). IsSpawnWithin (length marks + 1) scope.spawn) callers
  callers_within = all-reversed (λ (scope : Scope). IsSpawnWithin (length marks + 1) scope.spawn) callers
      (All-tail (λ (scope : Scope). IsSpawnWithin (length marks + 1) scope.spawn) top (reverse callers) all_within)

  pub first_is_within : first ≤ length marks + 1
  first_is_within = omega (arith, f.first.1, as_many)

  pub follows_reclaimed : (spans' : List Span) (records' : List Record) (first' : ℕ) (top' : Scope) (callers' : List Scope) →
      spans' ≡ map (moved_span marks) spans → records' ≡ marked marks records → first' ≡ moved marks first → top' ≡ moved_scope marks top →
      callers' ≡ map (moved_scope marks) callers →
      Follows (record { scopes = top' ∷ reverse callers'; spans = spans'; records = records'; first = first'; events = events; reads = reads }) (moved_run marks run)
  follows_reclaimed spans' records' first' top' callers' is-spans is-records is-first is-top is-callers =
      rw (is-spans, is-records, is-first, is-top, is-callers, reverse-mapped (moved_scope marks) callers)
      (follows_moved (record { scopes = top ∷ reverse callers; spans = spans; records = records; first = first; events = events; reads = reads }) run marks f len)

-- what a cell names is within the numbers
pub marked_within : (marks : List Bool) (cell : Cell) → IsMarked marks cell → (kind : AccessKind) → kept_number cell kind ≤ length marks + 1
marked_within marks cell is kind = go (is kind)
  where
    go : (kept_number cell kind ≡ 0) ⊎ (numbered marks (kept_number cell kind) ≡ Some true) → kept_number cell kind ≤ length marks + 1
    go (inl e) = omega (arith, e)
    go (inr e) = omega (arith, (numbered-within marks (kept_number cell kind) true e).1)
