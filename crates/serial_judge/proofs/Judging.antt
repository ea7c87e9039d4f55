-- What is answered of an access is right.
use Rattle.std.proofs.Common.{◌≡◌, ◌≢◌, ◌⊎◌, ◌↔◌, inl, inr, ℕ, suc, Bool, true, false, cond, List, [], ◌∷◌, ◌++◌, length, Option, Some, None, is_some, IsSome, IfSome, IsTrue, Contains, refl, sym, ap, ◌∙◌, subst, arith}
use Rattle.std.proofs.lemmas.Bool.{false≢true}
use Rattle.std.proofs.lemmas.Option.{same_Some}
use Rattle.model_strands.specs.Dag.{IsParallel}
use Rattle.model_serial_runs.specs.declared.access_kind.AccessKind.{AccessKind}
use Rattle.model_serial_runs.specs.Conflicts.{conflict}
use Rattle.model_serial_runs.specs.Accesses.{Access, Races}
use Rattle.model_serial_runs.specs.Current.{current}
use Rattle.serial_judge.specs.declared.cell.Cell.{Cell}
use Rattle.serial_judge.specs.declared.cell.Race.{Race}
use Rattle.serial_judge.specs.declared.cell.Judged.{Judged}
use Rattle.serial_judge.specs.declared.records.Record.{Record}
use Rattle.serial_judge.specs.Answers.{IsRaceAt, StaysOrGoes, IsAnswer}
use Rattle.serial_judge.specs.Judge.{Judge}
use Rattle.serial_judge.specs.Numbers.{numbered}
use Rattle.serial_judge.specs.Records.{IsNumberFor}
use Rattle.serial_judge.specs.Runs.{Run}
use Rattle.serial_judge.specs.Spans.{is_held}
use Rattle.serial_judge.specs.Follows.{IsRecordOf, Follows}
use Rattle.serial_judge.specs.Remembers.{Names, IsKept, kept_number, Remembers, new_access, IsRecorded, IsTrueWitness, IsJudged, IsTaken}
use Rattle.serial_judge.proofs.Ascending.{held-below}
use Rattle.serial_judge.proofs.Kept.{numbered-append, same_kind, IsApart, Change, OwnChange, remembers_new}
use Rattle.serial_judge.proofs.Recorded.{numbered-there, beside_running, noted, with_records}

module _ (judge : Judge) (run : Run) (f : Follows judge run) (accesses : List Access) (cell : Cell) (remembered : Remembers run cell accesses) where
  -- what is held is the record of an access of the list, which is parallel
  held_named : (kind : AccessKind) → is_held judge.spans (kept_number cell kind) ≡ true →
      (access : Access) × Names run.records accesses kind (kept_number cell kind) access × IsParallel run.history access.strand (current run.history)
  held_named kind h = go (remembered.kept kind)
    where
      go : IsKept run.records accesses kind (kept_number cell kind) →
          (access : Access) × Names run.records accesses kind (kept_number cell kind) access × IsParallel run.history access.strand (current run.history)
      go (inl e) =
          absurd (false≢true (sym (held-below 1 judge.spans (suc (length run.records)) 0 f.ascending (omega arith)) ∙
          (ap (is_held judge.spans) (sym e) ∙ h)))
      go (inr (a, t)) = (a, t, (beside_running judge run f (kept_number cell kind) a t.is).0 h)

  apart : (kind : AccessKind) → is_held judge.spans (kept_number cell kind) ≡ false → IsApart run (kept_number cell kind)
  apart kind h a e p = false≢true (sym h ∙ (beside_running judge run f (kept_number cell kind) a e).1 p)

  module _ (records : List Record)
      (older : (place : ℕ) (access : Access) (made : Record) → numbered run.records place ≡ Some access → numbered records place ≡ Some made → IsRecordOf made access)
      (kind : AccessKind) (site number : ℕ) (judged : Judged) (answer : IsAnswer judge.spans records cell kind number judged) where
    exact : IsSome judged.race ↔ ((access : Access) × Contains accesses access × Races run.history (current run.history) kind access)
    exact = (to, from)
      where
        to : IsSome judged.race → (access : Access) × Contains accesses access × Races run.history (current run.history) kind access
        to is =
            let t = answer.found is in
            let n = held_named t.0 t.2 in
            (n.0, n.1.listed, (subst (λ z. IsTrue (conflict z kind)) (sym n.1.kind_is) t.1, n.2))

        from : (access : Access) × Contains accesses access × Races run.history (current run.history) kind access → IsSome judged.race
        from (a, c, r) =
            let t = remembered.covered a c run.history ([], refl) f.legal f.serial r.1 in
            answer.all_found t.0.kind (t.1.strong kind r.0)
            ((beside_running judge run f (kept_number cell t.0.kind) t.0 t.1.is).1 t.2)

    witness : IfSome judged.race (IsTrueWitness run accesses kind)
    witness = go judged.race answer.found
      where
        go : (race : Option Race) →
            (is_some race ≡ true → (kept : AccessKind) × IsTrue (conflict kept kind) × (is_held judge.spans (kept_number cell kept) ≡ true)
            × IfSome race (IsRaceAt records (kept_number cell kept))) → IfSome race (IsTrueWitness run accesses kind)
        go None found = tt
        go (Some race) found =
            let t = found refl in
            let n = held_named t.0 t.2 in
            let r = older (kept_number cell t.0) n.0 (record { site = race.site; kind = race.kind }) n.1.is t.3.is in
            record {
              access = n.0;
              listed = n.1.listed;
              races = (subst (λ z. IsTrue (conflict z kind)) (sym n.1.kind_is) t.1, n.2);
              record_is = ap (numbered run.records) t.3.record_is ∙ n.1.is;
              site_is = r.0;
              kind_is = r.1;
            }

    by_held : (held : Bool) (old new : ℕ) → new ≡ cond held old number →
        ((held ≡ true) × (new ≡ old)) ⊎ ((held ≡ false) × (new ≡ number))
    by_held true old new e = inl (refl, e)
    by_held false old new e = inr (refl, e)

    own_held : ((is_held judge.spans (kept_number cell kind) ≡ true) × (kept_number judged.cell kind ≡ kept_number cell kind)) ⊎
        ((is_held judge.spans (kept_number cell kind) ≡ false) × (kept_number judged.cell kind ≡ number))
    own_held = by_held (is_held judge.spans (kept_number cell kind)) (kept_number cell kind) (kept_number judged.cell kind) answer.own

    own : OwnChange run kind number (kept_number cell kind) (kept_number judged.cell kind)
    own = elim own_held [
      | inl t ↦ (let n = held_named kind t.0 in inr (t.1, n.0, n.1.is, n.1.kind_is, n.2))
      | inr t ↦ inl t.1
    ]

    change : (kept : AccessKind) → Change run kind number (kept_number cell kept) kept (kept_number judged.cell kept)
    change k = go (same_kind k kind)
      where
        other : k ≢ kind → StaysOrGoes judge.spans kind (kept_number cell k) (kept_number judged.cell k) →
            Change run kind number (kept_number cell k) k (kept_number judged.cell k)
        other ne (inl e) = inl e
        other ne (inr (w, h, e)) = inr (inr (w, apart k h, e))

        same : k ≡ kind → ((is_held judge.spans (kept_number cell k) ≡ true) × (kept_number judged.cell k ≡ kept_number cell k)) ⊎
            ((is_held judge.spans (kept_number cell k) ≡ false) × (kept_number judged.cell k ≡ number)) →
            Change run kind number (kept_number cell k) k (kept_number judged.cell k)
        same is (inl t) = inl t.1
        same is (inr t) = inr (inl (is, apart k t.0, t.1))

        go : (k ≡ kind) ⊎ (k ≢ kind) → Change run kind number (kept_number cell k) k (kept_number judged.cell k)
        go (inl is) = same is (subst (λ z. ((is_held judge.spans (kept_number cell z) ≡ true) × (kept_number judged.cell z ≡ kept_number cell z)) ⊎
            ((is_held judge.spans (kept_number cell z) ≡ false) × (kept_number judged.cell z ≡ number))) (sym is) own_held)
        go (inr ne) = other ne (answer.others k ne)

    pub judged_right : (after : Run) → IsRecorded run (new_access run kind site) after →
        numbered after.records number ≡ Some (new_access run kind site) → IsJudged run after accesses kind site judged
    judged_right after (inl e) there = record {
      exact = exact;
      witness = witness;
      remembers = subst (λ z. Remembers z judged.cell (accesses ++ new_access run kind site ∷ [])) (sym e)
          (remembers_new run run.records (λ n a k. k) f.has_run cell judged.cell accesses kind site number
          (subst (λ (z : Run). numbered z.records number ≡ Some (new_access run kind site)) e there) change own answer.latest remembered);
    }
    judged_right after (inr e) there = record {
      exact = exact;
      witness = witness;
      remembers = subst (λ z. Remembers z judged.cell (accesses ++ new_access run kind site ∷ [])) (sym e)
          (remembers_new run (run.records ++ new_access run kind site ∷ [])
          (λ n a k. numbered-append run.records (new_access run kind site ∷ []) n a k) f.has_run cell judged.cell accesses kind site number
          (subst (λ (z : Run). numbered z.records number ≡ Some (new_access run kind site)) e there) change own answer.latest remembered);
    }

-- an access, with the records behind it
pub taken : (judge : Judge) (run : Run) (new : List Record) (cell : Cell) (kind : AccessKind) (site number : ℕ) (judged : Judged) → Follows judge run →
    IsNumberFor judge.records new judge.first (record { site = site; kind = kind }) number →
    IsAnswer judge.spans new cell kind number judged → IsTaken run (with_records new judge) cell kind site judged
taken judge run new cell kind site number judged f t answer =
    let r = noted judge run new (record { site = site; kind = kind }) number f t in
    record {
      after = r.0;
      recorded = r.1.recorded;
      follows = r.1.follows;
      judges = λ accesses remembered. judged_right judge run f accesses cell remembered new
          (λ n a made e d. older r.0 r.1.recorded r.1.follows n a made e d) kind site number judged answer r.0 r.1.recorded r.1.there;
    }
  where
    stays : (after : Run) → IsRecorded run (new_access run kind site) after → (n : ℕ) (a : Access) → numbered run.records n ≡ Some a →
        numbered after.records n ≡ Some a
    stays after (inl e) n a k = subst (λ (z : Run). numbered z.records n ≡ Some a) (sym e) k
    stays after (inr e) n a k =
        subst (λ (z : Run). numbered z.records n ≡ Some a) (sym e) (numbered-append run.records (new_access run kind site ∷ []) n a k)

    older : (after : Run) → IsRecorded run (new_access run kind site) after → Follows (with_records new judge) after →
        (n : ℕ) (a : Access) (made : Record) → numbered run.records n ≡ Some a → numbered new n ≡ Some made → IsRecordOf made a
    older after is follows n a made e d =
        let w = numbered-there IsRecordOf new after.records n made follows.recorded d in
        let same : w.0 ≡ a = same_Some w.0 a (sym w.1 ∙ stays after is n a e) in
        subst (IsRecordOf made) same w.2
