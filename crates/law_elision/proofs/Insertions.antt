-- The serial list of a history grows by one insertion for each entry, behind which stands only what is parallel to it.
use Rattle.std.proofs.Common.{◌≡◌, ◌↔◌, inl, inr, suc, ◌<◌, true, List, [], ◌∷◌, ◌++◌, length, AllPairs, refl, sym, ap, subst, arith}
use Rattle.std.proofs.lemmas.List.Kept.{AllPairs-cons}
use Rattle.law_addresses.specs.Address.{english, english_before}
use Rattle.law_addresses.proofs.Orders.{before-irreflexive}
use Rattle.law_addresses.proofs.Sorted.{pairs-head, pairs-tail}
use Rattle.model_strands.specs.History.{History}
use Rattle.model_strands.specs.Strands.{Running, Begun}
use Rattle.model_strands.specs.Legal.{Legal}
use Rattle.model_strands.specs.Dag.{Reaches, IsParallel}
use Rattle.model_strands.specs.Addresses.{address}
use Rattle.law_strands.proofs.Words.{english_asymmetric}
use Rattle.law_strands.proofs.Views.{reach_english}
use Rattle.law_strands.proofs.Sinks.{running_law}
use Rattle.law_strands.proofs.Members.{Present, present_append, all_present, present_all, pairs_alike}
use Rattle.model_histories.specs.declared.answer.Entry.{Entry}
use Rattle.model_histories.specs.Entries.{Entries, event_of, control_part}
use Rattle.model_histories.specs.Shapes.{Shape}
use Rattle.model_histories.specs.Legal.{IsLegal}
use Rattle.race_gate.proofs.Races.{legal-part}
use Rattle.law_elision.specs.Placed.{Placed, placed_at, IsPlaced}
use Rattle.law_elision.proofs.Placements.{placed_number, strand_begun, address_with}
use Rattle.law_elision.proofs.Trees.{IsEarlier}

-- a member with what stands before and behind it
pub record Parted (list : List Placed) (x : Placed) : Type 0 where
  pub front : List Placed
  pub back : List Placed
  pub is : list ≡ front ++ (x ∷ back)

pub parted : (list : List Placed) (x : Placed) → Present x list → Parted list x
parted [] x p = absurd p
parted (y ∷ list) x (inl e) = record { front = []; back = list; is = ap (λ z. z ∷ list) e }
parted (y ∷ list) x (inr p) = let t = parted list x p in record { front = y ∷ t.front; back = t.back; is = ap (λ l. y ∷ l) t.is }

pairs_without : (R : Placed → Placed → Type 0) (front : List Placed) (x : Placed) (back : List Placed) → AllPairs R (front ++ (x ∷ back)) → AllPairs R (front ++ back)
pairs_without R [] x back k = pairs-tail R x back k
pairs_without R (y ∷ front) x back k =
    AllPairs-cons R y (front ++ back)
    (all_present (R y) (front ++ back) (λ z p. present_all (R y) (front ++ (x ∷ back)) (pairs-head R y (front ++ (x ∷ back)) k) z (wider z p)))
    (pairs_without R front x back (pairs-tail R y (front ++ (x ∷ back)) k))
  where
    wider : (z : Placed) → Present z (front ++ back) → Present z (front ++ (x ∷ back))
    wider z p = (present_append front (x ∷ back) z).1 (elim ((present_append front back z).0 p) [ inl q ↦ inl q | inr q ↦ inr (inr q) ])

pub pairs_front : (R : Placed → Placed → Type 0) (front : List Placed) (x : Placed) (back : List Placed) → AllPairs R (front ++ (x ∷ back)) → (y : Placed) → Present y front → R y x
pairs_front R [] x back k y p = absurd p
pairs_front R (z ∷ front) x back k y (inl e) =
    subst (λ w. R w x) e (present_all (R z) (front ++ (x ∷ back)) (pairs-head R z (front ++ (x ∷ back)) k) x ((present_append front (x ∷ back) x).1 (inr (inl refl))))
pairs_front R (z ∷ front) x back k y (inr p) = pairs_front R front x back (pairs-tail R z (front ++ (x ∷ back)) k) y p

pub pairs_back : (R : Placed → Placed → Type 0) (front : List Placed) (x : Placed) (back : List Placed) → AllPairs R (front ++ (x ∷ back)) → (y : Placed) → Present y back → R x y
pairs_back R [] x back k y p = present_all (R x) back (pairs-head R x back k) y p
pairs_back R (z ∷ front) x back k y p = pairs_back R front x back (pairs-tail R z (front ++ (x ∷ back)) k) y p

pub never_earlier : (entries : Entries) (x : Placed) → IsEarlier entries x x → ⊥
never_earlier entries x (inl e) = let k = before-irreflexive english (address (control_part entries) x.entry.request.strand) in cc
never_earlier entries x (inr t) = let k : x.number < x.number = t.1 in omega arith

-- the newest entry among the earlier ones
pub record Inserted (shape : Shape) (entry : Entry) (entries : Entries) (front back : List Placed) : Type 0 where
  pub legal : IsLegal shape (entry ∷ entries)
  pub sorted : AllPairs (IsEarlier (entry ∷ entries)) (front ++ (placed_at entries entry ∷ back))
  pub members : (y : Placed) → Present y (front ++ back) ↔ IsPlaced entries y
  pub parallel : (y : Placed) → Present y back → IsParallel (control_part entries) y.entry.request.strand entry.request.strand

module _ (shape : Shape) where
  parallel_behind : (entry : Entry) (entries : Entries) → IsLegal shape (entry ∷ entries) → (y : Placed) → IsPlaced entries y → IsEarlier (entry ∷ entries) (placed_at entries entry) y →
      IsParallel (control_part entries) y.entry.request.strand entry.request.strand
  parallel_behind entry entries l y p (inr t) =
      let k = placed_number entries y p in let m : suc (length entries) < y.number = t.1 in absurd (omega (arith, k))
  parallel_behind entry entries l y p (inl e) = (earlier, later)
    where
      h : History
      h = control_part entries

      legal : Legal h
      legal = legal-part shape entries l.0

      begun : Begun h y.entry.request.strand
      begun = strand_begun shape entries l.0 y p

      runs : Running h entry.request.strand
      runs = l.1.runs

      ahead : english_before (address h entry.request.strand) (address h y.entry.request.strand) ≡ true
      ahead =
          let ex = address_with (event_of entry) legal l.1.allowed entry.request.strand (inl runs) in
          let ey = address_with (event_of entry) legal l.1.allowed y.entry.request.strand begun in
          subst (λ z. english_before z (address h y.entry.request.strand) ≡ true) ex
          (subst (λ z. english_before (address (control_part (entry ∷ entries)) entry.request.strand) z ≡ true) ey e)

      not_itself : english_before (address h entry.request.strand) (address h entry.request.strand) ≡ true → ⊥
      not_itself q = let k = before-irreflexive english (address h entry.request.strand) in cc

      earlier : Reaches h y.entry.request.strand entry.request.strand → ⊥
      earlier r = elim (reach_english h legal y.entry.request.strand entry.request.strand begun (inl runs) r) [
        | inl z ↦ not_itself (subst (λ w. english_before (address h entry.request.strand) (address h w) ≡ true) z ahead)
        | inr z ↦ english_asymmetric (address h entry.request.strand) (address h y.entry.request.strand) ahead z
      ]

      later : Reaches h entry.request.strand y.entry.request.strand → ⊥
      later r =
          let same_strand = running_law h legal entry.request.strand y.entry.request.strand runs r in
          not_itself (subst (λ w. english_before (address h entry.request.strand) (address h w) ≡ true) (sym same_strand) ahead)

  pub earlier_before : (entry : Entry) (entries : Entries) → IsLegal shape (entry ∷ entries) → (y z : Placed) → IsPlaced entries y → IsPlaced entries z →
      IsEarlier (entry ∷ entries) y z → IsEarlier entries y z
  earlier_before entry entries l y z p q (inr t) = inr t
  earlier_before entry entries l y z p q (inl e) =
      let legal = legal-part shape entries l.0 in
      let ey = address_with (event_of entry) legal l.1.allowed y.entry.request.strand (strand_begun shape entries l.0 y p) in
      let ez = address_with (event_of entry) legal l.1.allowed z.entry.request.strand (strand_begun shape entries l.0 z q) in
      inl (subst (λ w. english_before w (address (control_part entries) z.entry.request.strand) ≡ true) ey
      (subst (λ w. english_before (address (control_part (entry ∷ entries)) y.entry.request.strand) w ≡ true) ez e))

  -- what holds of no entries, and of more entries after each insertion, holds of all entries in serial order
  pub by_insertions : (Holds : Entries → List Placed → Type 0) → Holds [] [] →
      ((entry : Entry) (entries : Entries) (front back : List Placed) → Inserted shape entry entries front back → Holds entries (front ++ back) →
      Holds (entry ∷ entries) (front ++ (placed_at entries entry ∷ back))) →
      (entries : Entries) → IsLegal shape entries → (list : List Placed) → AllPairs (IsEarlier entries) list → ((y : Placed) → Present y list ↔ IsPlaced entries y) →
      Holds entries list
  by_insertions Holds first more [] l [] sorted members = first
  by_insertions Holds first more [] l (y ∷ list) sorted members = absurd ((members y).0 (inl refl))
  by_insertions Holds first more (entry ∷ entries) l list sorted members =
      subst (Holds (entry ∷ entries)) (sym part.is) (more entry entries part.front part.back inserted (by_insertions Holds first more entries l.0 (part.front ++ part.back) sorted_before members_before))
    where
      x : Placed
      x = placed_at entries entry

      part : Parted list x
      part = parted list x ((members x).1 (inl refl))

      sorted_now : AllPairs (IsEarlier (entry ∷ entries)) (part.front ++ (x ∷ part.back))
      sorted_now = subst (AllPairs (IsEarlier (entry ∷ entries))) part.is sorted

      wider : (y : Placed) → Present y (part.front ++ part.back) → Present y list
      wider y p = subst (Present y) (sym part.is)
          ((present_append part.front (x ∷ part.back) y).1 (elim ((present_append part.front part.back y).0 p) [ inl q ↦ inl q | inr q ↦ inr (inr q) ]))

      not_new : (y : Placed) → Present y (part.front ++ part.back) → y ≡ x → ⊥
      not_new y p e = elim ((present_append part.front part.back y).0 p) [
        | inl q ↦ never_earlier (entry ∷ entries) x (subst (λ z. IsEarlier (entry ∷ entries) z x) e (pairs_front (IsEarlier (entry ∷ entries)) part.front x part.back sorted_now y q))
        | inr q ↦ never_earlier (entry ∷ entries) x (subst (λ z. IsEarlier (entry ∷ entries) x z) e (pairs_back (IsEarlier (entry ∷ entries)) part.front x part.back sorted_now y q))
      ]

      to : (y : Placed) → Present y (part.front ++ part.back) → IsPlaced entries y
      to y p = elim ((members y).0 (wider y p)) [ inl e ↦ absurd (not_new y p e) | inr q ↦ q ]

      from : (y : Placed) → IsPlaced entries y → Present y (part.front ++ part.back)
      from y q = elim ((present_append part.front (x ∷ part.back) y).0 (subst (Present y) part.is ((members y).1 (inr q)))) [
        | inl p ↦ (present_append part.front part.back y).1 (inl p)
        | inr p ↦ elim p [
          | inl e ↦ (let k = placed_number entries y q in let m : y.number ≡ suc (length entries) = ap (λ z. z.number) (sym e) in absurd (omega (arith, k, m)))
          | inr t ↦ (present_append part.front part.back y).1 (inr t)
        ]
      ]

      members_before : (y : Placed) → Present y (part.front ++ part.back) ↔ IsPlaced entries y
      members_before y = (to y, from y)

      sorted_before : AllPairs (IsEarlier entries) (part.front ++ part.back)
      sorted_before =
          pairs_alike (IsEarlier (entry ∷ entries)) (IsEarlier entries) (part.front ++ part.back) (λ y z p q e. earlier_before entry entries l y z (to y p) (to z q) e)
          (pairs_without (IsEarlier (entry ∷ entries)) part.front x part.back sorted_now)

      inserted : Inserted shape entry entries part.front part.back
      inserted = record {
        legal = l;
        sorted = sorted_now;
        members = members_before;
        parallel = λ y p. parallel_behind entry entries l y (to y ((present_append part.front part.back y).1 (inr p)))
            (pairs_back (IsEarlier (entry ∷ entries)) part.front x part.back sorted_now y p);
      }
