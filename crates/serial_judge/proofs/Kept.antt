-- What a cell remembers, behind a new access.
use Rattle.std.proofs.Common.{◌≡◌, ◌≢◌, ◌⊎◌, inl, inr, ℕ, zero, suc, ◌/◌, ◌%◌, ◌<◌, ◌≤◌, List, [], ◌∷◌, ◌++◌, length, Some, Contains, refl, sym, ap, ◌∙◌, subst, append_assoc, append-nil, arith}
use Rattle.std.specs.List.{slice_get}
use Rattle.std.proofs.lemmas.Option.{none-some, same_Some, slice_get_within}
use Rattle.std.proofs.lemmas.List.Elements.{Contains-append_left, Contains-push, Contains-push_cases}
use Rattle.model_strands.specs.History.{History}
use Rattle.model_strands.specs.Legal.{Legal}
use Rattle.model_strands.specs.Extensions.{Extends}
use Rattle.model_strands.specs.Dag.{IsParallel}
use Rattle.model_serial_runs.specs.declared.access_kind.AccessKind.{AccessKind}
use Rattle.model_serial_runs.specs.declared.access_kind.AccessKind.TheVariants.{Read, Load, Update, Write}
use Rattle.model_serial_runs.specs.Accesses.{Access}
use Rattle.model_serial_runs.specs.Current.{current, IsSerial}
use Rattle.law_serial_runs.specs.Turns.{HasRun}
use Rattle.law_serial_runs.specs.Laws.{TellsOfBoth}
use Rattle.law_serial_runs.proofs.Keeping.{kept_law}
use Rattle.serial_judge.specs.declared.cell.Cell.{Cell}
use Rattle.serial_judge.specs.Answers.{IsLatest}
use Rattle.serial_judge.specs.Numbers.{numbered}
use Rattle.serial_judge.specs.Laws.{LaterLaw, RecordedLaw}
use Rattle.serial_judge.specs.Runs.{Run, IsLater}
use Rattle.serial_judge.specs.Remembers.{IsKept, latest_kind, kept_number, IsAsStrong, StandsFor, IsCovered, Remembers, new_access}

-- Numbers.

pub slice_get-append : {X : Type 0} (xs ys : List X) (i : ℕ) (x : X) → slice_get xs i ≡ Some x → slice_get (xs ++ ys) i ≡ Some x
slice_get-append [] ys i x e = absurd (none-some x e)
slice_get-append (y ∷ xs) ys zero x e = e
slice_get-append (y ∷ xs) ys (suc i) x e = slice_get-append xs ys i x e

pub slice_get-push : {X : Type 0} (xs : List X) (x : X) → slice_get (xs ++ x ∷ []) (length xs) ≡ Some x
slice_get-push [] x = refl
slice_get-push (y ∷ xs) x = slice_get-push xs x

pub slice_get-push_cases : {X : Type 0} (xs : List X) (y : X) (i : ℕ) (x : X) → slice_get (xs ++ y ∷ []) i ≡ Some x →
    (slice_get xs i ≡ Some x) ⊎ ((i ≡ length xs) × (x ≡ y))
slice_get-push_cases [] y zero x e = inr (refl, sym (same_Some y x e))
slice_get-push_cases [] y (suc i) x e = absurd (none-some x e)
slice_get-push_cases (z ∷ xs) y zero x e = inl e
slice_get-push_cases (z ∷ xs) y (suc i) x e = elim (slice_get-push_cases xs y i x e) [ inl k ↦ inl k | inr k ↦ inr (ap suc k.0, k.1) ]

pub numbered-append : {X : Type 0} (xs ys : List X) (n : ℕ) (x : X) → numbered xs n ≡ Some x → numbered (xs ++ ys) n ≡ Some x
numbered-append xs ys zero x e = absurd (none-some x e)
numbered-append xs ys (suc i) x e = slice_get-append xs ys i x e

pub numbered-push : {X : Type 0} (xs : List X) (x : X) → numbered (xs ++ x ∷ []) (suc (length xs)) ≡ Some x
numbered-push xs x = slice_get-push xs x

pub numbered-push_cases : {X : Type 0} (xs : List X) (y : X) (n : ℕ) (x : X) → numbered (xs ++ y ∷ []) n ≡ Some x →
    (numbered xs n ≡ Some x) ⊎ ((n ≡ suc (length xs)) × (x ≡ y))
numbered-push_cases xs y zero x e = absurd (none-some x e)
numbered-push_cases xs y (suc i) x e = elim (slice_get-push_cases xs y i x e) [ inl k ↦ inl k | inr k ↦ inr (ap suc k.0, k.1) ]

pub numbered-within : {X : Type 0} (xs : List X) (n : ℕ) (x : X) → numbered xs n ≡ Some x → (1 ≤ n) × (n ≤ length xs)
numbered-within xs zero x e = absurd (none-some x e)
numbered-within xs (suc i) x e = let k : i < length xs = slice_get_within xs i x e in (omega arith, omega arith)

-- Kinds.

pub as_strong : (kind : AccessKind) → IsAsStrong kind kind
as_strong k other c = c

pub write_strong : (kind : AccessKind) → IsAsStrong Write kind
write_strong k other c = refl

pub same_kind : (kind other : AccessKind) → (kind ≡ other) ⊎ (kind ≢ other)
same_kind Read Read = inl refl
same_kind Read Load = inr (λ e. cc)
same_kind Read Update = inr (λ e. cc)
same_kind Read Write = inr (λ e. cc)
same_kind Load Read = inr (λ e. cc)
same_kind Load Load = inl refl
same_kind Load Update = inr (λ e. cc)
same_kind Load Write = inr (λ e. cc)
same_kind Update Read = inr (λ e. cc)
same_kind Update Load = inr (λ e. cc)
same_kind Update Update = inl refl
same_kind Update Write = inr (λ e. cc)
same_kind Write Read = inr (λ e. cc)
same_kind Write Load = inr (λ e. cc)
same_kind Write Update = inr (λ e. cc)
same_kind Write Write = inl refl

-- What stays of what is named and covered, where records stay.
module _ (records more : List Access) (stay_numbered : (number : ℕ) (access : Access) → numbered records number ≡ Some access → numbered more number ≡ Some access) where
  pub kept-more : (accesses longer : List Access) (kind : AccessKind) (number : ℕ) →
      ((access : Access) → Contains accesses access → Contains longer access) → IsKept records accesses kind number → IsKept more longer kind number
  kept-more old new k n listed (inl e) = inl e
  kept-more old new k n listed (inr (a, t)) = inr (a, record { is = stay_numbered n a t.is; listed = listed a t.listed; kind_is = t.kind_is })

  pub stands-more : (cell : Cell) (kind : AccessKind) (access : Access) → StandsFor records cell kind access → StandsFor more cell kind access
  stands-more cell k a t = record { is = stay_numbered (kept_number cell a.kind) a t.is; strong = t.strong }

pub latest_new : (kind : AccessKind) (number old new : ℕ) → IsLatest kind number old new →
    ((latest_kind (new % 2) ≡ kind) × (new / 2 ≡ number)) ⊎ (new ≡ old)
latest_new Read number old new e = let k : new % 2 ≡ 0 = omega arith in inl (ap latest_kind k, omega arith)
latest_new Load number old new e = inr e
latest_new Update number old new e = inr e
latest_new Write number old new e = let k : new % 2 ≡ 1 = omega arith in inl (ap latest_kind k, omega arith)

-- the record with this number is of no strand that is parallel to the running one
abbrev pub IsApart : Run → ℕ → Type 0
IsApart run number =
    (access : Access) → numbered run.records number ≡ Some access → IsParallel run.history access.strand (current run.history) → ⊥

-- what is kept of a kind stays behind a new access, or is not parallel to it, and the new one takes its place, or a write takes it away
abbrev pub Change : Run → AccessKind → (number old : ℕ) → AccessKind → ℕ → Type 0
Change run kind number old kept new =
    (new ≡ old) ⊎ (((kept ≡ kind) × IsApart run old × (new ≡ number)) ⊎ ((kind ≡ Write) × IsApart run old × (new ≡ 0)))

-- what is kept of the kind of the new access is that one, or one that is parallel to it
abbrev pub OwnChange : Run → AccessKind → (number old : ℕ) → ℕ → Type 0
OwnChange run kind number old new =
    (new ≡ number) ⊎
    ((new ≡ old) × (access : Access) × (numbered run.records old ≡ Some access) × (access.kind ≡ kind) ×
    IsParallel run.history access.strand (current run.history))

module _ (run : Run) (more : List Access) (stay_numbered : (number : ℕ) (access : Access) → numbered run.records number ≡ Some access → numbered more number ≡ Some access)
    (has_run : (number : ℕ) (access : Access) → numbered run.records number ≡ Some access → HasRun run.history access.strand)
    (cell cell' : Cell) (accesses : List Access) (kind : AccessKind) (site number : ℕ) (there : numbered more number ≡ Some (new_access run kind site))
    (change : (kept : AccessKind) → Change run kind number (kept_number cell kept) kept (kept_number cell' kept))
    (own : OwnChange run kind number (kept_number cell kind) (kept_number cell' kind)) (latest : IsLatest kind number cell.latest cell'.latest)
    (remembered : Remembers run cell accesses) where
  tells : (later : History) → Extends later run.history → Legal later → IsSerial later → (place : ℕ) (access : Access) →
      numbered run.records place ≡ Some access → TellsOfBoth run.history later access.strand
  tells later ext l s n a e = kept_law run.history later ext l s a.strand (has_run n a e)

  stand_new : (later : History) → Extends later run.history → Legal later → IsSerial later → IsParallel later (current run.history) (current later) →
      (kept : Access) × StandsFor more cell' kind kept × (kept.kind ≡ kind) × IsParallel later kept.strand (current later)
  stand_new later ext l s p = go own
    where
      go : OwnChange run kind number (kept_number cell kind) (kept_number cell' kind) →
          (kept : Access) × StandsFor more cell' kind kept × (kept.kind ≡ kind) × IsParallel later kept.strand (current later)
      go (inl e) = (new_access run kind site, record { is = ap (numbered more) e ∙ there; strong = as_strong kind }, refl, p)
      go (inr (e, a, is, k, q)) = (
        a,
        record {
          is = ap (λ z. numbered more (kept_number cell' z)) k ∙ (ap (numbered more) e ∙ stay_numbered (kept_number cell kind) a is);
          strong = subst (λ z. IsAsStrong z kind) (sym k) (as_strong kind);
        },
        k,
        (tells later ext l s (kept_number cell kind) a is).earlier q p,
      )

  stand_old : (access : Access) → IsCovered run cell access → (later : History) → Extends later run.history → Legal later → IsSerial later →
      IsParallel later access.strand (current later) →
      (kept : Access) × StandsFor more cell' access.kind kept × IsParallel later kept.strand (current later)
  stand_old a c later ext l s p = go (c later ext l s p)
    where
      by_change : (kept : Access) → StandsFor run.records cell a.kind kept → IsParallel later kept.strand (current later) →
          Change run kind number (kept_number cell kept.kind) kept.kind (kept_number cell' kept.kind) →
          (other : Access) × StandsFor more cell' a.kind other × IsParallel later other.strand (current later)
      by_change k0 t q (inl e) =
          (k0, record { is = ap (numbered more) e ∙ stay_numbered (kept_number cell k0.kind) k0 t.is; strong = t.strong }, q)
      by_change k0 t q (inr (inl (same, apart, e))) = (
        new_access run kind site,
        record {
          is = ap (λ z. numbered more (kept_number cell' z)) (sym same) ∙ (ap (numbered more) e ∙ there);
          strong = subst (λ z. IsAsStrong z a.kind) same t.strong;
        },
        (tells later ext l s (kept_number cell k0.kind) k0 t.is).newer (apart k0 t.is) q,
      )
      by_change k0 t q (inr (inr (w, apart, e))) =
          let r = stand_new later ext l s ((tells later ext l s (kept_number cell k0.kind) k0 t.is).newer (apart k0 t.is) q) in
          (r.0, record { is = r.1.is; strong = subst (λ z. IsAsStrong z a.kind) (sym (r.2 ∙ w)) (write_strong a.kind) }, r.3)

      go : (kept : Access) × StandsFor run.records cell a.kind kept × IsParallel later kept.strand (current later) →
          (other : Access) × StandsFor more cell' a.kind other × IsParallel later other.strand (current later)
      go (k0, t, q) = by_change k0 t q (change k0.kind)

  covered : (access : Access) → Contains (accesses ++ new_access run kind site ∷ []) access →
      IsCovered (record { history = run.history; spawns = run.spawns; records = more; reads = run.reads }) cell' access
  covered a c = go (Contains-push_cases accesses (new_access run kind site) a c)
    where
      go : Contains accesses a ⊎ (new_access run kind site ≡ a) →
          IsCovered (record { history = run.history; spawns = run.spawns; records = more; reads = run.reads }) cell' a
      go (inl k) later ext l s p = stand_old a (remembered.covered a k) later ext l s p
      go (inr e) later ext l s p =
          let r = stand_new later ext l s (subst (λ (z : Access). IsParallel later z.strand (current later)) (sym e) p) in
          (r.0, subst (λ (z : Access). StandsFor more cell' z.kind r.0) e r.1, r.3)

  new_named : (wanted : AccessKind) → wanted ≡ kind → (at : ℕ) → at ≡ number → IsKept more (accesses ++ new_access run kind site ∷ []) wanted at
  new_named w k n e = inr (
    new_access run kind site,
    record { is = ap (numbered more) e ∙ there; listed = Contains-push accesses (new_access run kind site); kind_is = sym k },
  )

  old_named : (wanted : AccessKind) (at : ℕ) → IsKept run.records accesses wanted at → IsKept more (accesses ++ new_access run kind site ∷ []) wanted at
  old_named w n t =
      kept-more run.records more stay_numbered accesses (accesses ++ new_access run kind site ∷ []) w n
      (λ a c. Contains-append_left accesses (new_access run kind site ∷ []) a c) t

  named : (wanted : AccessKind) → IsKept more (accesses ++ new_access run kind site ∷ []) wanted (kept_number cell' wanted)
  named w = go (change w)
    where
      go : Change run kind number (kept_number cell w) w (kept_number cell' w) → IsKept more (accesses ++ new_access run kind site ∷ []) w (kept_number cell' w)
      go (inl e) = subst (IsKept more (accesses ++ new_access run kind site ∷ []) w) (sym e) (old_named w (kept_number cell w) (remembered.kept w))
      go (inr (inl (same, apart, e))) = new_named w same (kept_number cell' w) e
      go (inr (inr (is, apart, e))) = inl e

  latest_named : IsKept more (accesses ++ new_access run kind site ∷ []) (latest_kind (cell'.latest % 2)) (cell'.latest / 2)
  latest_named = go (latest_new kind number cell.latest cell'.latest latest)
    where
      go : ((latest_kind (cell'.latest % 2) ≡ kind) × (cell'.latest / 2 ≡ number)) ⊎ (cell'.latest ≡ cell.latest) →
          IsKept more (accesses ++ new_access run kind site ∷ []) (latest_kind (cell'.latest % 2)) (cell'.latest / 2)
      go (inl (k, e)) = new_named (latest_kind (cell'.latest % 2)) k (cell'.latest / 2) e
      go (inr e) =
          subst (λ z. IsKept more (accesses ++ new_access run kind site ∷ []) (latest_kind (z % 2)) (z / 2)) (sym e)
          (old_named (latest_kind (cell.latest % 2)) (cell.latest / 2) remembered.latest)

  pub remembers_new : Remembers (record { history = run.history; spawns = run.spawns; records = more; reads = run.reads }) cell'
      (accesses ++ new_access run kind site ∷ [])
  remembers_new = record { kept = named; latest = latest_named; covered = covered }

pub extends_further : (whole longer history : History) → Extends whole longer → Extends longer history → Extends whole history
extends_further w l h (m, e) (n, d) = (m ++ n, append_assoc m n h ∙ (ap (λ z. m ++ z) d ∙ e))

-- what is remembered stays as the run goes on
pub later_law : LaterLaw
later_law run after later cell accesses remembered = record {
  kept = λ kind. stay kind (kept_number cell kind) (remembered.kept kind);
  latest = stay (latest_kind (cell.latest % 2)) (cell.latest / 2) remembered.latest;
  covered = covered;
}
  where
    stay_numbered : (number : ℕ) (access : Access) → numbered run.records number ≡ Some access → numbered after.records number ≡ Some access
    stay_numbered n a e =
        subst (λ z. numbered z n ≡ Some a) (sym later.records.1) (numbered-append run.records later.records.0 n a e)

    stay : (kind : AccessKind) (number : ℕ) → IsKept run.records accesses kind number → IsKept after.records accesses kind number
    stay k n t = kept-more run.records after.records stay_numbered accesses accesses k n (λ a c. c) t

    covered : (access : Access) → Contains accesses access → IsCovered after cell access
    covered a c whole ext l s p =
        let r = remembered.covered a c whole (extends_further whole after.history run.history ext later.extends) l s p in
        (r.0, stands-more run.records after.records stay_numbered cell a.kind r.0 r.1, r.2)

pub recorded_law : RecordedLaw
recorded_law run after access l s (inl e) = subst (λ z. IsLater z run) (sym e)
    (record { extends = ([], refl); legal = l; serial = s; records = ([], sym (append-nil run.records)) })
recorded_law run after access l s (inr e) = subst (λ z. IsLater z run) (sym e)
    (record { extends = ([], refl); legal = l; serial = s; records = (access ∷ [], refl) })
