-- A judge that makes a record of an access.
use Rattle.std.proofs.Common.{◌≡◌, ◌⊎◌, ◌↔◌, inl, inr, ℕ, zero, suc, ◌<◌, ◌≤◌, Bool, true, false, ◌||◌, leb, List, [], ◌∷◌, ◌++◌, length, take, Option, Some, None, refl, sym, ap, ◌∙◌, subst, length-append, arith}
use Rattle.std.specs.List.{slice_get, AllZip}
use Rattle.std.proofs.lemmas.Option.{none-some, same_Some}
use Rattle.std.proofs.lemmas.Bool.{false≢true, cases_lt}
use Rattle.std.proofs.lemmas.Bool.Decides.{nat_tests}
use Rattle.model_strands.specs.Strands.{unused}
use Rattle.model_strands.specs.Addresses.{address}
use Rattle.model_strands.specs.History.{History}
use Rattle.model_strands.specs.Dag.{IsParallel}
use Rattle.law_addresses.specs.Address.{parallel}
use Rattle.law_addresses.proofs.Relations.{parallel-self}
use Rattle.law_strands.specs.Branches.{branch}
use Rattle.law_strands.proofs.Orders.{address_tests_law}
use Rattle.model_serial_runs.specs.declared.access_kind.AccessKind.{AccessKind}
use Rattle.model_serial_runs.specs.Accesses.{Access}
use Rattle.model_serial_runs.specs.Current.{current}
use Rattle.law_serial_runs.specs.Turns.{HasRun}
use Rattle.law_serial_runs.specs.Frames.{Entry, at_root, by_call, by_spawn, Frame, frames, LeadsTo, IsBeside, IsWithin}
use Rattle.law_serial_runs.proofs.Keeping.{current_has_run}
use Rattle.law_serial_runs.proofs.Earlier.{behind, current_begun}
use Rattle.law_serial_runs.proofs.Frames.{frames_law}
use Rattle.serial_judge.specs.declared.scope.Scope.{Scope}
use Rattle.serial_judge.specs.declared.scope.Spawn.{Spawn}
use Rattle.serial_judge.specs.declared.spans.Span.{Span}
use Rattle.serial_judge.specs.declared.records.Record.{Record}
use Rattle.serial_judge.specs.Judge.{Judge}
use Rattle.serial_judge.specs.Numbers.{numbered}
use Rattle.serial_judge.specs.Records.{IsNumberFor}
use Rattle.serial_judge.specs.Runs.{Run, with_record}
use Rattle.serial_judge.specs.Scopes.{AreParallel, IsEntered, IsBlock, AreScopes}
use Rattle.serial_judge.specs.Spans.{is_held, IsAscending}
use Rattle.serial_judge.specs.Follows.{IsRecordOf, Follows}
use Rattle.serial_judge.specs.Remembers.{new_access, IsRecorded}
use Rattle.serial_judge.proofs.Ascending.{held-below, held-behind, ascending-take, ascending-wider, or-true}
use Rattle.serial_judge.proofs.Kept.{numbered-push, numbered-push_cases}

-- Two lists side by side.

pub zip-there : {A B : Type 0} (R : A → B → Type 0) (xs : List A) (ys : List B) (i : ℕ) (x : A) → AllZip R xs ys → slice_get xs i ≡ Some x →
    (y : B) × (slice_get ys i ≡ Some y) × R x y
zip-there R [] [] i x z e = absurd (none-some x e)
zip-there R [] (y ∷ ys) i x z e = absurd z
zip-there R (w ∷ xs) [] i x z e = absurd z
zip-there R (w ∷ xs) (y ∷ ys) zero x z e = (y, refl, subst (λ v. R v y) (same_Some w x e) z.0)
zip-there R (w ∷ xs) (y ∷ ys) (suc i) x z e = zip-there R xs ys i x z.1 e

pub numbered-there : {A B : Type 0} (R : A → B → Type 0) (xs : List A) (ys : List B) (n : ℕ) (x : A) → AllZip R xs ys → numbered xs n ≡ Some x →
    (y : B) × (numbered ys n ≡ Some y) × R x y
numbered-there R xs ys zero x z e = absurd (none-some x e)
numbered-there R xs ys (suc i) x z e = zip-there R xs ys i x z e

pub zip-push : {A B : Type 0} (R : A → B → Type 0) (xs : List A) (ys : List B) (x : A) (y : B) → AllZip R xs ys → R x y →
    AllZip R (xs ++ x ∷ []) (ys ++ y ∷ [])
zip-push R [] [] x y z r = (r, tt)
zip-push R [] (v ∷ ys) x y z r = absurd z
zip-push R (w ∷ xs) [] x y z r = absurd z
zip-push R (w ∷ xs) (v ∷ ys) x y z r = (z.0, zip-push R xs ys x y z.1 r)

pub zip-length : {A B : Type 0} (R : A → B → Type 0) (xs : List A) (ys : List B) → AllZip R xs ys → length xs ≡ length ys
zip-length R [] [] z = refl
zip-length R [] (v ∷ ys) z = absurd z
zip-length R (w ∷ xs) [] z = absurd z
zip-length R (w ∷ xs) (v ∷ ys) z = ap suc (zip-length R xs ys z.1)

-- The records of parallel strands are in the spans.
pub beside_running : (judge : Judge) (run : Run) → Follows judge run → (number : ℕ) (access : Access) → numbered run.records number ≡ Some access →
    (is_held judge.spans number ≡ true) ↔ IsParallel run.history access.strand (current run.history)
beside_running judge run f n a e = ((λ k. tests.1 (f.parallel n a e ∙ k)), (λ p. sym (f.parallel n a e) ∙ tests.0 p))
  where
    tests : IsParallel run.history a.strand (current run.history) ↔
        (parallel (address run.history a.strand) (address run.history (current run.history)) ≡ true)
    tests =
        let both = address_tests_law run.history f.legal a.strand (current run.history) (behind f.legal f.serial a.strand (f.has_run n a e)).0
        (current_begun f.legal f.serial) in
        both.1

-- One more record of the running strand.
module _ (h : History) (strand : ℕ) (records : List Access) (access : Access) (own : access.strand ≡ strand) (spans : List Span)
    (ascending : IsAscending 1 spans (suc (length records))) where
  parallel-more : (other : ℕ) (test : ℕ → Bool) → AreParallel (record { address = address h; branch = branch h; unused = unused h; records = records }) other test →
      parallel (address h strand) (address h other) ≡ test (suc (length records)) →
      AreParallel (record { address = address h; branch = branch h; unused = unused h; records = records ++ access ∷ [] }) other test
  parallel-more other test old new n a e = go (numbered-push_cases records access n a e)
    where
      go : (numbered records n ≡ Some a) ⊎ ((n ≡ suc (length records)) × (a ≡ access)) → parallel (address h a.strand) (address h other) ≡ test n
      go (inl k) = old n a k
      go (inr (m, is)) =
          ap (λ (z : Access). parallel (address h z.strand) (address h other)) is ∙
          (ap (λ z. parallel (address h z) (address h other)) own ∙ (new ∙ ap test (sym m)))

  none_new : (count : ℕ) → is_held (take count spans) (suc (length records)) ≡ false
  none_new count =
      held-behind 1 (take count spans) (suc (length records)) (suc (length records)) (ascending-take 1 spans (suc (length records)) count ascending) (omega arith)

  grown : length (records ++ access ∷ []) ≡ suc (length records)
  grown = omega (arith, length-append records (access ∷ []))

  block-more : (scope : Scope) (own_branch : Option ℕ) (join : Option ℕ) →
      IsBlock (record { address = address h; branch = branch h; unused = unused h; records = records }) spans scope own_branch join → LeadsTo h strand join →
      IsBlock (record { address = address h; branch = branch h; unused = unused h; records = records ++ access ∷ [] }) spans scope own_branch join
  block-more scope None None b w = tt
  block-more scope None (Some j) b w = absurd b
  block-more scope (Some k) None b w = absurd b
  block-more scope (Some k) (Some j) b w = record {
    below = b.below;
    parallel = parallel-more j (is_held (take scope.spans spans)) b.parallel (w.1 ∙ sym (none_new scope.spans));
    branch = b.branch;
  }

  entry-more : (scope : Scope) (spawn : Option Spawn) (entry : Entry) (outer : List Scope) →
      IsEntered (record { address = address h; branch = branch h; unused = unused h; records = records }) spans scope spawn entry outer → IsBeside h strand entry →
      IsEntered (record { address = address h; branch = branch h; unused = unused h; records = records ++ access ∷ [] }) spans scope spawn entry outer
  entry-more scope None at_root outer b w = b
  entry-more scope None by_call outer b w = b
  entry-more scope None (by_spawn n) outer b w = absurd b
  entry-more scope (Some k) at_root outer b w = absurd b
  entry-more scope (Some k) by_call outer b w = absurd b
  entry-more scope (Some k) (by_spawn n) outer b w = record {
    below = b.below;
    parallel = parallel-more n (λ z. is_held (take scope.spans spans) z || leb k.begin z) b.parallel
        (w.1 ∙ sym (or-true (is_held (take scope.spans spans) (suc (length records))) (leb k.begin (suc (length records))) behind_begin));
    ascending = b.ascending;
    begin = omega (arith, grown, b.begin);
    branch = b.branch;
  }
    where
      behind_begin : leb k.begin (suc (length records)) ≡ true
      behind_begin = let le : k.begin ≤ suc (length records) = b.begin in grind (arith, nat_tests)

  pub scopes-more : (scopes : List Scope) (all : List Frame) →
      AreScopes (record { address = address h; branch = branch h; unused = unused h; records = records }) spans scopes all → IsWithin h strand all →
      AreScopes (record { address = address h; branch = branch h; unused = unused h; records = records ++ access ∷ [] }) spans scopes all
  scopes-more [] [] s w = tt
  scopes-more [] (frame ∷ all) s w = absurd s
  scopes-more (scope ∷ scopes) [] s w = absurd s
  scopes-more (scope ∷ scopes) (frame ∷ all) s w =
      (block-more scope scope.block frame.block s.0 w.0, entry-more scope scope.spawn frame.entry scopes s.1 w.1, scopes-more scopes all s.2 w.2)

-- the running strand stands to all functions that the run is in
pub within_all : (judge : Judge) (run : Run) → Follows judge run → IsWithin run.history (current run.history) (frames run.history)
within_all judge run f =
    let t = frames_law run.history f.legal f.serial f.unfinished in
    subst (IsWithin run.history (current run.history)) (sym t.2.are) t.2.within

pub follows_record : (judge : Judge) (run : Run) (made : Record) → Follows judge run →
    Follows (record {
      scopes = judge.scopes;
      spans = judge.spans;
      records = judge.records ++ made ∷ [];
      first = judge.first;
      events = judge.events;
      reads = judge.reads;
    }) (with_record (new_access run made.kind made.site) run)
follows_record judge run made f = record {
  legal = f.legal;
  serial = f.serial;
  unfinished = f.unfinished;
  events = f.events;
  recorded = zip-push IsRecordOf judge.records run.records made new f.recorded (refl, refl);
  has_run = λ n a e. has n a (cases n a e);
  own = λ n a e le. own n a le (cases n a e);
  first = (f.first.0, omega (arith, f.first.1, length-append run.records (new ∷ [])));
  parallel = parallel-more run.history (current run.history) run.records new refl judge.spans f.ascending (current run.history) (is_held judge.spans) f.parallel
      (parallel-self (address run.history (current run.history)) ∙
      sym (held-behind 1 judge.spans (suc (length run.records)) (suc (length run.records)) f.ascending (omega arith)));
  ascending = ascending-wider 1 judge.spans (suc (length run.records)) (suc (length (run.records ++ new ∷ []))) f.ascending
      (omega (arith, length-append run.records (new ∷ [])));
  scopes = scopes-more run.history (current run.history) run.records new refl judge.spans f.ascending judge.scopes (frames run.history) f.scopes
      (within_all judge run f);
  nested = f.nested;
  branch_is = f.branch_is;
  readers = f.readers;
  reads = f.reads;
}
  where
    new : Access
    new = new_access run made.kind made.site

    cases : (n : ℕ) (a : Access) → numbered (run.records ++ new_access run made.kind made.site ∷ []) n ≡ Some a →
        (numbered run.records n ≡ Some a) ⊎ ((n ≡ suc (length run.records)) × (a ≡ new_access run made.kind made.site))
    cases n a e = numbered-push_cases run.records (new_access run made.kind made.site) n a e

    has : (n : ℕ) (a : Access) → (numbered run.records n ≡ Some a) ⊎ ((n ≡ suc (length run.records)) × (a ≡ new_access run made.kind made.site)) →
        HasRun run.history a.strand
    has n a (inl k) = f.has_run n a k
    has n a (inr t) = subst (λ (z : Access). HasRun run.history z.strand) (sym t.1) (current_has_run run.history)

    own : (n : ℕ) (a : Access) → judge.first ≤ n →
        (numbered run.records n ≡ Some a) ⊎ ((n ≡ suc (length run.records)) × (a ≡ new_access run made.kind made.site)) → a.strand ≡ current run.history
    own n a le (inl k) = f.own n a k le
    own n a le (inr t) = ap (λ (z : Access). z.strand) t.1

same_access : (a : Access) (strand site : ℕ) (kind : AccessKind) → a.strand ≡ strand → site ≡ a.site → kind ≡ a.kind →
    a ≡ record { strand = strand; site = site; kind = kind }
same_access a s t k e d c =
    subst (λ (z : ℕ). a ≡ record { strand = z; site = t; kind = k }) e
    (subst (λ (z : ℕ). a ≡ record { strand = a.strand; site = z; kind = k }) (sym d)
    (subst (λ (z : AccessKind). a ≡ record { strand = a.strand; site = a.site; kind = z }) (sym c) refl))

-- the run with a record of the access, and its number
pub record IsNoted (judge : Judge) (run : Run) (access : Access) (number : ℕ) (after : Run) : Type 0 where
  pub recorded : IsRecorded run access after
  pub follows : Follows judge after
  pub there : numbered after.records number ≡ Some access

abbrev pub with_records : List Record → Judge → Judge
with_records records judge = record {
  scopes = judge.scopes;
  spans = judge.spans;
  records = records;
  first = judge.first;
  events = judge.events;
  reads = judge.reads;
}

pub noted : (judge : Judge) (run : Run) (new : List Record) (made : Record) (number : ℕ) → Follows judge run →
    IsNumberFor judge.records new judge.first made number →
    (after : Run) × IsNoted (with_records new judge) run (new_access run made.kind made.site) number after
noted judge run new made number f t = go t.made_or_there
  where
    go : (new ≡ judge.records) ⊎ ((new ≡ judge.records ++ made ∷ []) × (number ≡ suc (length judge.records))) →
        (after : Run) × IsNoted (with_records new judge) run (new_access run made.kind made.site) number after
    go (inl e) =
        let r = numbered-there IsRecordOf judge.records run.records number made f.recorded (subst (λ z. numbered z number ≡ Some made) e t.is) in (
          run,
          record {
            recorded = inl refl;
            follows = subst (λ z. Follows (with_records z judge) run) (sym e) f;
            there = r.1 ∙ ap Some (same_access r.0 (current run.history) made.site made.kind (f.own number r.0 r.1 t.from_first) r.2.0 r.2.1);
          },
        )
    go (inr (e, m)) = (
      with_record (new_access run made.kind made.site) run,
      record {
        recorded = inr refl;
        follows = subst (λ z. Follows (with_records z judge) (with_record (new_access run made.kind made.site) run)) (sym e) (follows_record judge run made f);
        there = ap (numbered (run.records ++ new_access run made.kind made.site ∷ [])) (m ∙ ap suc (zip-length IsRecordOf judge.records run.records f.recorded)) ∙
            numbered-push run.records (new_access run made.kind made.site);
      },
    )

pub slice-some : {X : Type 0} (xs : List X) (i : ℕ) → i < length xs → slice_get xs i ≡ None → ⊥
slice-some [] i lt e = omega arith
slice-some (x ∷ xs) zero lt e = cc
slice-some (x ∷ xs) (suc i) lt e = slice-some xs i (omega arith) e

numbered-some : {X : Type 0} (xs : List X) (n : ℕ) → 1 ≤ n → n ≤ length xs → numbered xs n ≡ None → ⊥
numbered-some xs zero low high e = omega arith
numbered-some xs (suc i) low high e = slice-some xs i (omega arith) e

-- what is held is the number of a record
pub held_numbered : (judge : Judge) (run : Run) → Follows judge run → (number : ℕ) → is_held judge.spans number ≡ true →
    numbered judge.records number ≡ None → ⊥
held_numbered judge run f n h e =
    let len : length judge.records ≡ length run.records = zip-length IsRecordOf judge.records run.records f.recorded in
    go len (cases_lt n 1) (cases_lt n (suc (length run.records)))
  where
    go : length judge.records ≡ length run.records → (n < 1) ⊎ (1 ≤ n) → (n < suc (length run.records)) ⊎ (suc (length run.records) ≤ n) → ⊥
    go len (inl low) k = false≢true (sym (held-below 1 judge.spans (suc (length run.records)) n f.ascending low) ∙ h)
    go len (inr low) (inr high) = false≢true (sym (held-behind 1 judge.spans (suc (length run.records)) n f.ascending high) ∙ h)
    go len (inr low) (inl high) = numbered-some judge.records n low (omega arith) e

pub first_within : (judge : Judge) (run : Run) → Follows judge run → judge.first ≤ suc (length judge.records)
first_within judge run f =
    let len : length judge.records ≡ length run.records = zip-length IsRecordOf judge.records run.records f.recorded in omega (arith, f.first.1)
