-- A judge at the first strand of a run, and accesses that need not be told.
use Rattle.std.proofs.Common.{◌≡◌, ◌⊎◌, inl, inr, ℕ, zero, suc, ◌/◌, ◌%◌, ◌<◌, ◌≤◌, List, [], ◌∷◌, ◌++◌, Some, None, Contains, IsTrue, refl, sym, ap, ◌∙◌, subst, arith}
use Rattle.std.proofs.lemmas.Option.{none-some}
use Rattle.std.proofs.lemmas.Bool.{false≢true}
use Rattle.std.proofs.lemmas.List.Elements.{Contains-append_left, Contains-push_cases}
use Rattle.model_strands.specs.Legal.{start}
use Rattle.model_strands.specs.Dag.{IsParallel}
use Rattle.model_serial_runs.specs.declared.access_kind.AccessKind.{AccessKind}
use Rattle.model_serial_runs.specs.declared.access_kind.AccessKind.TheVariants.{Read, Load, Update, Write}
use Rattle.model_serial_runs.specs.Conflicts.{conflict}
use Rattle.model_serial_runs.specs.Accesses.{Access}
use Rattle.model_serial_runs.specs.Current.{current}
use Rattle.serial_judge.specs.declared.cell.Cell.{Cell}
use Rattle.serial_judge.specs.Judge.{Judge}
use Rattle.serial_judge.specs.Laws.{empty_cell, EmptyLaw}
use Rattle.serial_judge.specs.Numbers.{numbered}
use Rattle.serial_judge.specs.Runs.{Run, beginning}
use Rattle.serial_judge.specs.Follows.{Follows}
use Rattle.serial_judge.specs.Remembers.{IsKept, latest_kind, kept_number, IsAsStrong, IsCovered, Remembers, new_access, IsRepetition}
use Rattle.serial_judge.proofs.Kept.{kept-more}

no_number : {X : Type 0} (n : ℕ) (x : X) → numbered [] n ≡ Some x → ⊥
no_number zero x e = none-some x e
no_number (suc i) x e = none-some x e

nothing_in : {X : Type 0} (x : X) → Contains [] x → ⊥
nothing_in x (k, lt, e) = omega arith

pub follows_beginning : Follows (record {
  scopes = record { spawn = None; spans = 0; branch = 0; block = None } ∷ [];
  spans = [];
  records = [];
  first = 1;
  events = 0;
  reads = [];
}) beginning
follows_beginning = record {
  legal = start;
  serial = tt;
  unfinished = λ k. k;
  events = refl;
  recorded = tt;
  has_run = λ n a e. absurd (no_number n a e);
  own = λ n a e le. absurd (no_number n a e);
  first = (omega arith, omega arith);
  parallel = λ n a e. absurd (no_number n a e);
  ascending = omega arith;
  scopes = (tt, refl, tt);
  nested = (omega arith, (λ e. refl), tt);
  branch_is = refl;
  readers = λ r c. absurd (nothing_in r c);
  reads = λ reducer read c e. nothing_in read c;
}

-- conflicts go both ways
mirrored : (kind other : AccessKind) → IsTrue (conflict kind other) → IsTrue (conflict other kind)
mirrored Read Read c = c
mirrored Read Load c = c
mirrored Read Update c = c
mirrored Read Write c = c
mirrored Load Read c = c
mirrored Load Load c = c
mirrored Load Update c = c
mirrored Load Write c = c
mirrored Update Read c = c
mirrored Update Load c = c
mirrored Update Update c = c
mirrored Update Write c = c
mirrored Write Read c = c
mirrored Write Load c = c
mirrored Write Update c = c
mirrored Write Write c = c

-- what a kind of access races with, the one that stands for it races with
strong_kind : (bit : ℕ) (kind : AccessKind) → (bit ≡ 1) ⊎ ((kind ≡ Read) ⊎ (kind ≡ Load)) → bit < 2 → IsAsStrong (latest_kind bit) kind
strong_kind zero Read t lt other c = c
strong_kind zero Load t lt Write c = refl
strong_kind zero Load t lt Read c = c
strong_kind zero Load t lt Load c = absurd (false≢true c)
strong_kind zero Load t lt Update c = absurd (false≢true c)
strong_kind zero Update (inl e) lt other c = absurd (omega arith)
strong_kind zero Update (inr (inl e)) lt other c = cc
strong_kind zero Update (inr (inr e)) lt other c = cc
strong_kind zero Write (inl e) lt other c = absurd (omega arith)
strong_kind zero Write (inr (inl e)) lt other c = cc
strong_kind zero Write (inr (inr e)) lt other c = cc
strong_kind (suc bit) kind t lt other c = refl

pub repeated : (judge : Judge) (run : Run) (cell : Cell) (accesses : List Access) (kind : AccessKind) → Follows judge run → Remembers run cell accesses →
    judge.first ≤ cell.latest / 2 → (cell.latest % 2 ≡ 1) ⊎ ((kind ≡ Read) ⊎ (kind ≡ Load)) → IsRepetition run cell accesses kind
repeated judge run cell accesses kind f m first covers = go m.latest
  where
    strong : IsAsStrong (latest_kind (cell.latest % 2)) kind
    strong = strong_kind (cell.latest % 2) kind covers (omega arith)

    go : IsKept run.records accesses (latest_kind (cell.latest % 2)) (cell.latest / 2) → IsRepetition run cell accesses kind
    go (inl e) = absurd (omega (arith, f.first.0, first, e))
    go (inr (a, t)) = record {
      earlier = a;
      listed = t.listed;
      own = own;
      strong = λ other r. (conflicts other r.0, r.1);
      remembers = λ site. record {
        kept = λ k. kept-more run.records run.records (λ n x e. e) accesses (accesses ++ new_access run kind site ∷ []) k (kept_number cell k)
            (λ x c. Contains-append_left accesses (new_access run kind site ∷ []) x c) (m.kept k);
        latest = kept-more run.records run.records (λ n x e. e) accesses (accesses ++ new_access run kind site ∷ []) (latest_kind (cell.latest % 2)) (cell.latest / 2)
            (λ x c. Contains-append_left accesses (new_access run kind site ∷ []) x c) m.latest;
        covered = λ x c. covered site x (Contains-push_cases accesses (new_access run kind site) x c);
      };
    }
      where
        own : a.strand ≡ current run.history
        own = f.own (cell.latest / 2) a t.is first

        kind_strong : IsAsStrong a.kind kind
        kind_strong = subst (λ z. IsAsStrong z kind) (sym t.kind_is) strong

        conflicts : (other : Access) → IsTrue (conflict other.kind kind) → IsTrue (conflict other.kind a.kind)
        conflicts other c = mirrored a.kind other.kind (kind_strong other.kind (mirrored other.kind kind c))

        covered : (site : ℕ) (x : Access) → Contains accesses x ⊎ (new_access run kind site ≡ x) → IsCovered run cell x
        covered site x (inl c) later ext l s p = m.covered x c later ext l s p
        covered site x (inr e) later ext l s p =
            let r = m.covered a t.listed later ext l s
            (subst (λ z. IsParallel later z (current later)) (ap (λ (z : Access). z.strand) (sym e) ∙ sym own) p) in (
              r.0,
              record {
                is = r.1.is;
                strong = λ o c. r.1.strong o (kind_strong o (subst (λ (z : Access). IsTrue (conflict z.kind o)) (sym e) c));
              },
              r.2,
            )

pub empty_law : EmptyLaw
empty_law run = record { kept = none; latest = inl refl; covered = λ a c. absurd (nothing_in a c) }
  where
    none : (kind : AccessKind) → IsKept run.records [] kind (kept_number empty_cell kind)
    none Read = inl refl
    none Load = inl refl
    none Update = inl refl
    none Write = inl refl
