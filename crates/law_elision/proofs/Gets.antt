-- The gets of a reducer are right in serial order.
-- y, z: placed entries; v, w: numbers in puts, updates and gets; u: an update or put with its number; r: the role of an entry
use Rattle.std.proofs.Common.{◌≡◌, ◌≢◌, ◌⊎◌, ◌↔◌, inl, inr, ℕ, suc, ◌<◌, ◌≤◌, Bool, true, false, Option, Some, None, List, [], ◌∷◌, ◌++◌, length, map, AllPairs, refl, sym, ap, ◌∙◌, subst, arith}
use Rattle.std.specs.Prelude.{MatchOption, unwrap_or, not, ◌&&◌}
use Rattle.std.proofs.lemmas.List.Elements.{All-head, All-tail}
use Rattle.std.proofs.lemmas.List.Kept.{AllPairs-cons}
use Rattle.model_strands.specs.Address.{Address}
use Rattle.law_addresses.specs.Address.{english_before, reaches}
use Rattle.law_addresses.proofs.Intervals.{branch-within}
use Rattle.law_addresses.proofs.Sorted.{pairs-nil, pairs-head, pairs-tail, pairs-append_right}
use Rattle.model_accesses.specs.declared.request.Act.{Act}
use Rattle.model_reducers.specs.declared.monoid.Monoid.{Monoid}
use Rattle.model_strands.specs.History.{Event, History}
use Rattle.model_strands.specs.Strands.{Running, Begun}
use Rattle.model_strands.specs.Legal.{Allowed, Legal, then as grown}
use Rattle.model_strands.specs.Dag.{Reaches, stay}
use Rattle.model_strands.specs.Addresses.{address}
use Rattle.law_strands.specs.Branches.{branch}
use Rattle.law_strands.proofs.Law.{reach_precedes, precedes_reach}
use Rattle.law_strands.proofs.Kept.{reach_stays}
use Rattle.law_strands.proofs.Sinks.{running_law}
use Rattle.law_strands.proofs.Views.{reach_english}
use Rattle.law_strands.proofs.Orders.{serial_law}
use Rattle.law_strands.proofs.Branches.{branch_address_law}
use Rattle.law_strands.proofs.Members.{Present, present_append, present_all, all_present, contains_present, pairs_alike}
use Rattle.model_reducers.specs.Items.{Items}
use Rattle.model_reducers.specs.Items as item
use Rattle.model_reducers.specs.Entries.{HasPut, HasUpdate, put_entry, AreInSerialOrder}
use Rattle.model_reducers.specs.Entries as value
use Rattle.model_reducers.specs.Steps.{items_of, Steps}
use Rattle.model_reducers.specs.Views.{product}
use Rattle.model_reducers.specs.GetValues.{Counts, AreCounted, IsValue}
use Rattle.law_values.proofs.Accesses.{projection_law}
use Rattle.law_values.proofs.Law.{counted_law}
use Rattle.model_histories.specs.declared.answer.Answer.{Answer}
use Rattle.model_histories.specs.declared.answer.Answer.TheVariants.{Value, Refused, Unset}
use Rattle.model_histories.specs.declared.answer.Entry.{Entry}
use Rattle.model_histories.specs.Entries.{Entries, event_of, with_event, control_part}
use Rattle.model_histories.specs.Shapes.{Shape}
use Rattle.model_histories.specs.Legal.{IsLegal, Belongs}
use Rattle.model_histories.specs.Extensions.{IsCleanAnswer, IsClean}
use Rattle.model_races.specs.Reducers.{steps_of, granted_reads}
use Rattle.model_races.specs.ReducerVerdicts.{IsGetValue, IsRightFor, ReadsBefore, ReducersAreJudged, reads_before}
use Rattle.race_gate.proofs.Races.{legal-part}
use Rattle.race_gate.proofs.Entering.{steps-control}
use Rattle.model_accesses.specs.Reads.{ReducerRead}
use Rattle.model_reducers.specs.declared.view.View.{View}
use Rattle.model_reducers.specs.Products.{identity_of, update_view, put_view, product_of, view_number, reducer_of, monoid_of}
use Rattle.reducer_views.specs.Products.{FitsMonoid}
use Rattle.reducer_views.proofs.Associative.{monoid_law}
use Rattle.model_runs.specs.Serial.{value_given, effect_of}
use Rattle.law_runs.specs.Numbers.{IsNumbered, AreNumbered}
use Rattle.law_elision.specs.Placed.{Placed, placed_at, IsPlaced}
use Rattle.law_elision.proofs.Placements.{placed_number, number_unique, strand_begun}
use Rattle.law_elision.proofs.Trees.{IsEarlier}
use Rattle.law_elision.proofs.Runs.{placed_effects}
use Rattle.law_elision.proofs.Cells.{placed_append}
use Rattle.law_elision.proofs.Stores.{view_after, view_after_all, IsGetRight, AreGetsRight}
use Rattle.law_elision.proofs.Insertions.{Parted, parted, Inserted, by_insertions, pairs_front, pairs_back, never_earlier, earlier_before}
use Rattle.law_elision.proofs.Roles.{Role, updates, puts, gets, aside, role, branch_now, one_branch, IsPutAt, put_placed, update_placed, update_of, placed_put, placed_update, steps_legal}
use Rattle.law_elision.proofs.Views.{views_parts, gets_first, gets_second, gets_both, not_get_right, aside_view, put_is, update_is, Sheltered, sheltered_right, put_no_get, update_no_get, update_no_put, earlier_once, HasShelter, shelter, not_parallel, comparable}

reach_back : (found : Option Event) {h : History} → Legal h → MatchOption found (Unit {0}) (Allowed h) → (x y : ℕ) → Begun h x → Begun h y →
    Reaches (with_event found h) x y → Reaches h x y
reach_back None l a x y bx by r = r
reach_back (Some e) {h} l a x y bx by r = (reach_stays h e (grown l a) x y bx by).0 r

module _ (shape : Shape) where
  -- a later entry's strand reaches an earlier one's only where the two are one strand
  never_back : (entries : Entries) → IsLegal shape entries → (y z : Placed) → IsPlaced entries y → IsPlaced entries z → y.number < z.number →
      Reaches (control_part entries) z.entry.request.strand y.entry.request.strand → z.entry.request.strand ≡ y.entry.request.strand
  never_back [] l y z p q lt r = absurd p
  never_back (entry ∷ entries) l y z (inl p) q lt r =
      let k : y.number ≡ suc (length entries) = ap (λ w. w.number) p in
      let m = placed_number (entry ∷ entries) z q in absurd (omega (arith, k, m))
  never_back (entry ∷ entries) l y z (inr p) (inr q) lt r =
      never_back entries l.0 y z p q lt
      (reach_back (event_of entry) (legal-part shape entries l.0) l.1.allowed z.entry.request.strand y.entry.request.strand (strand_begun shape entries l.0 z q)
      (strand_begun shape entries l.0 y p) r)
  never_back (entry ∷ entries) l y z (inr p) (inl q) lt r =
      let run = subst (λ w. Running (control_part entries) w.entry.request.strand) (sym q) l.1.runs in
      running_law (control_part entries) (legal-part shape entries l.0) z.entry.request.strand y.entry.request.strand run
      (reach_back (event_of entry) (legal-part shape entries l.0) l.1.allowed z.entry.request.strand y.entry.request.strand (inl run)
      (strand_begun shape entries l.0 y p) r)

  module _ (entries : Entries) (l : IsLegal shape entries) where
    -- entries whose strands are of one branch: the one with the lower number reaches the other and is serially before it
    branch_reaches : (y z : Placed) → IsPlaced entries y → IsPlaced entries z → branch (control_part entries) y.entry.request.strand ≡ branch (control_part entries) z.entry.request.strand →
        y.number < z.number → Reaches (control_part entries) y.entry.request.strand z.entry.request.strand
    branch_reaches y z p q e lt =
        elim (comparable (control_part entries) (legal-part shape entries l) y.entry.request.strand z.entry.request.strand (strand_begun shape entries l y p) (strand_begun shape entries l z q) e) [
          | inl r ↦ r
          | inr r ↦ subst (λ s. Reaches (control_part entries) y.entry.request.strand s) (sym (never_back entries l y z p q lt r)) stay
        ]

    reach_earlier : (y z : Placed) → IsPlaced entries y → IsPlaced entries z → y.number < z.number →
        Reaches (control_part entries) y.entry.request.strand z.entry.request.strand → IsEarlier entries y z
    reach_earlier y z p q lt r =
        elim (reach_english (control_part entries) (legal-part shape entries l) y.entry.request.strand z.entry.request.strand (strand_begun shape entries l y p) (strand_begun shape entries l z q) r) [
          | inl e ↦ inr (e, lt)
          | inr e ↦ inl e
        ]

    not_before : (y z : Placed) → IsEarlier entries y z →
        english_before (address (control_part entries) z.entry.request.strand) (address (control_part entries) y.entry.request.strand) ≡ false
    not_before y z e = go (english_before (address (control_part entries) z.entry.request.strand) (address (control_part entries) y.entry.request.strand)) refl
      where
        go : (b : Bool) → english_before (address (control_part entries) z.entry.request.strand) (address (control_part entries) y.entry.request.strand) ≡ b → b ≡ false
        go true k = absurd (earlier_once entries y z e (inl k))
        go false k = refl

    -- what is serially between two entries of one branch lies on the paths between them
    between : (x y z : Placed) → IsPlaced entries x → IsPlaced entries y → IsPlaced entries z → branch (control_part entries) x.entry.request.strand ≡ branch (control_part entries) z.entry.request.strand →
        Reaches (control_part entries) x.entry.request.strand z.entry.request.strand → IsEarlier entries x y → IsEarlier entries y z →
        Reaches (control_part entries) x.entry.request.strand y.entry.request.strand × Reaches (control_part entries) y.entry.request.strand z.entry.request.strand
    between x y z p q s e r a b = (
      precedes_reach h legal x.entry.request.strand y.entry.request.strand bx by both.0,
      precedes_reach h legal y.entry.request.strand z.entry.request.strand by bz both.1,
    )
      where
        h : History
        h = control_part entries

        legal : Legal h
        legal = legal-part shape entries l

        bx : Begun h x.entry.request.strand
        bx = strand_begun shape entries l x p

        by : Begun h y.entry.request.strand
        by = strand_begun shape entries l y q

        bz : Begun h z.entry.request.strand
        bz = strand_begun shape entries l z s

        at : Placed → Address
        at w = address h w.entry.request.strand

        two : (c d m n : Bool) → (c && d) ≡ (not m && not n) → m ≡ false → n ≡ false → (c ≡ true) × (d ≡ true)
        two true true m n k u v = (refl, refl)
        two true false m n k u v = absurd (cc)
        two false d m n k u v = absurd (cc)

        both : (reaches (at x) (at y) ≡ true) × (reaches (at y) (at z) ≡ true)
        both = two (reaches (at x) (at y)) (reaches (at y) (at z)) (english_before (at y) (at x)) (english_before (at z) (at y))
            (branch-within (at x) (at z) ((branch_address_law h legal x.entry.request.strand z.entry.request.strand bx bz).0 e)
            (reach_precedes h legal x.entry.request.strand z.entry.request.strand r) (at y)) (not_before x y a) (not_before y z b)

-- the value of a get

get_value : (reducer : ℕ) (before : ReadsBefore) (strand : ℕ) (answer : Answer) → Belongs (Act.Get reducer) answer → IsCleanAnswer answer →
    IsRightFor before strand (Act.Get reducer) answer → (v : ℕ) × (value_given answer ≡ Some v) × IsGetValue before.monoids before.steps strand reducer v
get_value reducer before strand (Value v) b c k = (v, refl, k.1)
get_value reducer before strand (Refused rule witness) b c k = absurd c
get_value reducer before strand Unset b c k = absurd c
get_value reducer before strand _ b c k = absurd b

module _ (shape : Shape) (reducer : ℕ) where
  pub value_now : (entry : Entry) (entries : Entries) → entry.request.act ≡ Act.Get reducer → IsLegal shape (entry ∷ entries) → ReducersAreJudged shape (entry ∷ entries) → IsClean (entry ∷ entries) →
      (v : ℕ) × (value_given entry.answer ≡ Some v) × IsGetValue shape.monoids (steps_of entries) entry.request.strand reducer v
  value_now entry entries e l judged clean =
      get_value reducer (reads_before shape.monoids entries) entry.request.strand entry.answer
      (subst (λ a. Belongs a entry.answer) e l.1.belongs) (All-head (λ one. IsCleanAnswer one.answer) entry entries clean)
      (subst (λ a. IsRightFor (reads_before shape.monoids entries) entry.request.strand a entry.answer) e judged.1)

  -- before each get there is a put
  record PutBefore (entries : Entries) (get : Placed) : Type 0 where
    put : Placed
    stands : IsPlaced entries put
    written : ℕ
    is_put : put.entry.request.act ≡ Act.Put reducer written
    older : put.number < get.number

  put_before : (entries : Entries) → IsLegal shape entries → ReducersAreJudged shape entries → IsClean entries → (get : Placed) → IsPlaced entries get →
      get.entry.request.act ≡ Act.Get reducer → PutBefore entries get
  put_before [] l judged clean g p e = absurd p
  put_before (entry ∷ entries) l judged clean g (inr p) e =
      let t = put_before entries l.0 judged.0 (All-tail (λ one. IsCleanAnswer one.answer) entry entries clean) g p e in
      record { put = t.put; stands = inr t.stands; written = t.written; is_put = t.is_put; older = t.older }
  put_before (entry ∷ entries) l judged clean g (inl q) e =
      let v = value_now entry entries (ap (λ z. z.entry.request.act) (sym q) ∙ e) l judged clean in
      let t = put_placed reducer entries v.2.1.put v.2.1.last.0 in
      let n : g.number ≡ suc (length entries) = ap (λ z. z.number) q in
      let m = placed_number entries t.placed t.stands in
      record { put = t.placed; stands = inr t.stands; written = value.entry_value v.2.1.put; is_put = t.is_put; older = omega (arith, n, m) }

  -- a get behind an update or a put has a put before it there
  shelter_now : (entry : Entry) (entries : Entries) (front back : List Placed) → Inserted shape entry entries front back → ReducersAreJudged shape (entry ∷ entries) → IsClean (entry ∷ entries) →
      (get : Placed) → Present get back → get.entry.request.act ≡ Act.Get reducer → HasShelter (entry ∷ entries) reducer back get
  shelter_now entry entries front back i judged clean g p e =
      elim ((present_append front back t.put).0 ((i.members t.put).1 t.stands)) [
        | inl q ↦ absurd (between_them q)
        | inr q ↦ (t.put, t.written, t.is_put, q, put_earlier)
      ]
    where
      older_clean : IsClean entries
      older_clean = All-tail (λ one. IsCleanAnswer one.answer) entry entries clean

      known : IsPlaced entries g
      known = (i.members g).0 ((present_append front back g).1 (inr p))

      t : PutBefore entries g
      t = put_before entries i.legal.0 judged.0 older_clean g known e

      x : Placed
      x = placed_at entries entry

      branch_eq : branch (control_part (entry ∷ entries)) t.put.entry.request.strand ≡ branch (control_part (entry ∷ entries)) g.entry.request.strand
      branch_eq = one_branch shape reducer (entry ∷ entries) i.legal judged clean t.put g (inr t.stands) (inr known) (inl (t.written, t.is_put)) (inr e)

      reaches_get : Reaches (control_part (entry ∷ entries)) t.put.entry.request.strand g.entry.request.strand
      reaches_get = branch_reaches shape (entry ∷ entries) i.legal t.put g (inr t.stands) (inr known) branch_eq t.older

      put_earlier : IsEarlier (entry ∷ entries) t.put g
      put_earlier = reach_earlier shape (entry ∷ entries) i.legal t.put g (inr t.stands) (inr known) t.older reaches_get

      between_them : Present t.put front → ⊥
      between_them q =
          let r = between shape (entry ∷ entries) i.legal t.put x g (inr t.stands) (inl refl) (inr known) branch_eq reaches_get
          (pairs_front (IsEarlier (entry ∷ entries)) front x back i.sorted t.put q) (pairs_back (IsEarlier (entry ∷ entries)) front x back i.sorted g p) in
          (i.parallel g p).1
          (reach_back (event_of entry) (legal-part shape entries i.legal.0) i.legal.1.allowed entry.request.strand g.entry.request.strand (inl i.legal.1.runs)
          (strand_begun shape entries i.legal.0 g known) r.1)

-- the updates of a stretch

abbrev one_update : (reducer : ℕ) (y : Placed) → Role reducer y.entry.request.act → List value.Entry
one_update reducer y (updates v e) = update_of y v ∷ []
one_update reducer y (puts v e) = []
one_update reducer y (gets e) = []
one_update reducer y (aside nu np ng) = []

abbrev updates_in : ℕ → List Placed → List value.Entry
updates_in reducer [] = []
updates_in reducer (y ∷ stretch) = one_update reducer y (role reducer y.entry.request.act) ++ updates_in reducer stretch

one_member : (reducer : ℕ) (y : Placed) (r : Role reducer y.entry.request.act) (u : value.Entry) → Present u (one_update reducer y r) →
    (w : ℕ) × (y.entry.request.act ≡ Act.Update reducer w) × (u ≡ update_of y w)
one_member reducer y (updates v e) u (inl k) = (v, e, sym k)
one_member reducer y (updates v e) u (inr k) = absurd k
one_member reducer y (puts v e) u k = absurd k
one_member reducer y (gets e) u k = absurd k
one_member reducer y (aside nu np ng) u k = absurd k

update_member : (reducer : ℕ) (stretch : List Placed) (u : value.Entry) → Present u (updates_in reducer stretch) →
    (y : Placed) × Present y stretch × (w : ℕ) × (y.entry.request.act ≡ Act.Update reducer w) × (u ≡ update_of y w)
update_member reducer [] u p = absurd p
update_member reducer (y ∷ stretch) u p =
    elim ((present_append (one_update reducer y (role reducer y.entry.request.act)) (updates_in reducer stretch) u).0 p) [
      | inl q ↦ (let t = one_member reducer y (role reducer y.entry.request.act) u q in (y, inl refl, t.0, t.1, t.2))
      | inr q ↦ (let t = update_member reducer stretch u q in (t.0, inr t.1, t.2, t.3, t.4))
    ]

same_update : (reducer v w : ℕ) (act : Act) → act ≡ Act.Update reducer v → act ≡ Act.Update reducer w → v ≡ w
same_update reducer v w act e k = let both : Act.Update reducer v ≡ Act.Update reducer w = sym e ∙ k in cc

one_there : (reducer : ℕ) (y : Placed) (r : Role reducer y.entry.request.act) (w : ℕ) → y.entry.request.act ≡ Act.Update reducer w → Present (update_of y w) (one_update reducer y r)
one_there reducer y (updates v e) w k = inl (ap (update_of y) (same_update reducer v w y.entry.request.act e k))
one_there reducer y (puts v e) w k = absurd (update_no_put k e)
one_there reducer y (gets e) w k = absurd (update_no_get k e)
one_there reducer y (aside nu np ng) w k = absurd (nu w k)

update_there : (reducer : ℕ) (stretch : List Placed) (y : Placed) → Present y stretch → (w : ℕ) → y.entry.request.act ≡ Act.Update reducer w →
    Present (update_of y w) (updates_in reducer stretch)
update_there reducer [] y p w e = absurd p
update_there reducer (z ∷ stretch) y (inl q) w e =
    (present_append (one_update reducer z (role reducer z.entry.request.act)) (updates_in reducer stretch) (update_of y w)).1
    (inl (subst (λ x. Present (update_of x w) (one_update reducer z (role reducer z.entry.request.act))) q
    (one_there reducer z (role reducer z.entry.request.act) w (ap (λ x. x.entry.request.act) q ∙ e))))
update_there reducer (z ∷ stretch) y (inr q) w e =
    (present_append (one_update reducer z (role reducer z.entry.request.act)) (updates_in reducer stretch) (update_of y w)).1
    (inr (update_there reducer stretch y q w e))

-- the view that they make of another one

module _ (monoid : Monoid) (reducer : ℕ) where
  fits_update : (w : ℕ) (act : Act) → act ≡ Act.Update reducer w → IsNumbered act → FitsMonoid monoid (update_view monoid w)
  fits_update w act e n = ((monoid_law monoid).1 w (subst IsNumbered e n)).0

  more_fits : (y : Placed) (stretch : List Placed) → IsNumbered y.entry.request.act →
      FitsMonoid monoid (product (reducer_of monoid) (map (λ u. update_view monoid (value.entry_value u)) (updates_in reducer stretch))) → (r : Role reducer y.entry.request.act) →
      FitsMonoid monoid (product (reducer_of monoid) (map (λ u. update_view monoid (value.entry_value u)) (one_update reducer y r ++ updates_in reducer stretch)))
  more_fits y stretch n rest (updates v e) = (monoid_law monoid).0.closed (update_view monoid v) _ (fits_update v y.entry.request.act e n) rest
  more_fits y stretch n rest (puts v e) = rest
  more_fits y stretch n rest (gets e) = rest
  more_fits y stretch n rest (aside nu np ng) = rest

  product_fits : (stretch : List Placed) → ((y : Placed) → Present y stretch → IsNumbered y.entry.request.act) →
      FitsMonoid monoid (product (reducer_of monoid) (map (λ u. update_view monoid (value.entry_value u)) (updates_in reducer stretch)))
  product_fits [] f = (monoid_law monoid).0.identity_fits
  product_fits (y ∷ stretch) f = more_fits y stretch (f y (inl refl)) (product_fits stretch (λ z p. f z (inr p))) (role reducer y.entry.request.act)

  by_role : (y : Placed) (stretch : List Placed) (view : View) → FitsMonoid monoid view → (r : Role reducer y.entry.request.act) →
      ((v : ℕ) → y.entry.request.act ≢ Act.Put reducer v) → IsNumbered y.entry.request.act →
      FitsMonoid monoid (product (reducer_of monoid) (map (λ u. update_view monoid (value.entry_value u)) (updates_in reducer stretch))) →
      ((other : View) → FitsMonoid monoid other → view_after_all monoid (placed_effects stretch) reducer other ≡
      product_of monoid other (product (reducer_of monoid) (map (λ u. update_view monoid (value.entry_value u)) (updates_in reducer stretch)))) →
      view_after_all monoid (placed_effects stretch) reducer (view_after monoid y.entry.request.act reducer view) ≡
      product_of monoid view (product (reducer_of monoid) (map (λ u. update_view monoid (value.entry_value u)) (one_update reducer y r ++ updates_in reducer stretch)))
  by_role y stretch view fits (updates v e) none n rest f =
      let u = fits_update v y.entry.request.act e n in
      ap (view_after_all monoid (placed_effects stretch) reducer) (update_is monoid reducer y.entry.request.act v e view) ∙
      f (product_of monoid view (update_view monoid v)) ((monoid_law monoid).0.closed view (update_view monoid v) fits u) ∙
      (monoid_law monoid).0.associative view (update_view monoid v) _ fits u rest
  by_role y stretch view fits (puts v e) none n rest f = absurd (none v e)
  by_role y stretch view fits (gets e) none n rest f =
      ap (view_after_all monoid (placed_effects stretch) reducer) (aside_view monoid reducer y.entry.request.act (λ v k. update_no_get k e) (λ v k. put_no_get k e) view) ∙ f view fits
  by_role y stretch view fits (aside nu np ng) none n rest f =
      ap (view_after_all monoid (placed_effects stretch) reducer) (aside_view monoid reducer y.entry.request.act nu np view) ∙ f view fits

  stretch_view : (stretch : List Placed) → ((y : Placed) → Present y stretch → IsNumbered y.entry.request.act) →
      ((y : Placed) → Present y stretch → (v : ℕ) → y.entry.request.act ≢ Act.Put reducer v) → (view : View) → FitsMonoid monoid view →
      view_after_all monoid (placed_effects stretch) reducer view ≡
      product_of monoid view (product (reducer_of monoid) (map (λ u. update_view monoid (value.entry_value u)) (updates_in reducer stretch)))
  stretch_view [] f none view fits = sym ((monoid_law monoid).0.right_identity view fits)
  stretch_view (y ∷ stretch) f none view fits =
      by_role y stretch view fits (role reducer y.entry.request.act) (none y (inl refl)) (f y (inl refl)) (product_fits stretch (λ z p. f z (inr p)))
      (λ other k. stretch_view stretch (λ z p. f z (inr p)) (λ z p. none z (inr p)) other k)

-- at a get the elision's view is the get's value

pairs_prefix : (R : Placed → Placed → Type 0) (xs ys : List Placed) → AllPairs R (xs ++ ys) → AllPairs R xs
pairs_prefix R [] ys k = pairs-nil R
pairs_prefix R (x ∷ xs) ys k =
    AllPairs-cons R x xs (all_present (R x) xs (λ z p. present_all (R x) (xs ++ ys) (pairs-head R x (xs ++ ys) k) z ((present_append xs ys z).1 (inl p))))
    (pairs_prefix R xs ys (pairs-tail R x (xs ++ ys) k))

updates_sorted : (reducer : ℕ) (entries : Entries) → Legal (control_part entries) → (stretch : List Placed) → ((y : Placed) → Present y stretch → Begun (control_part entries) y.entry.request.strand) →
    AllPairs (IsEarlier entries) stretch → AllPairs (AreInSerialOrder (control_part entries)) (updates_in reducer stretch)
updates_sorted reducer entries l [] begun sorted = pairs-nil (AreInSerialOrder (control_part entries))
updates_sorted reducer entries l (y ∷ stretch) begun sorted =
    by_one (role reducer y.entry.request.act) (updates_sorted reducer entries l stretch (λ z p. begun z (inr p)) (pairs-tail (IsEarlier entries) y stretch sorted))
  where
    ordered : (z : Placed) → Present z stretch → (v w : ℕ) → AreInSerialOrder (control_part entries) (update_of y v) (update_of z w)
    ordered z p v w = elim (present_all (IsEarlier entries y) stretch (pairs-head (IsEarlier entries) y stretch sorted) z p) [
      | inl e ↦ inl ((serial_law (control_part entries) l y.entry.request.strand z.entry.request.strand (begun y (inl refl)) (begun z (inr p))).1 e)
      | inr t ↦ inr t
    ]

    by_one : (r : Role reducer y.entry.request.act) → AllPairs (AreInSerialOrder (control_part entries)) (updates_in reducer stretch) →
        AllPairs (AreInSerialOrder (control_part entries)) (one_update reducer y r ++ updates_in reducer stretch)
    by_one (updates v e) rest =
        AllPairs-cons (AreInSerialOrder (control_part entries)) (update_of y v) (updates_in reducer stretch)
        (all_present (AreInSerialOrder (control_part entries) (update_of y v)) (updates_in reducer stretch)
        (λ u p. let t = update_member reducer stretch u p in subst (AreInSerialOrder (control_part entries) (update_of y v)) (sym t.4) (ordered t.0 t.1 v t.2))) rest
    by_one (puts v e) rest = rest
    by_one (gets e) rest = rest
    by_one (aside nu np ng) rest = rest

placed_numbered : (entries : Entries) → AreNumbered entries → (y : Placed) → IsPlaced entries y → IsNumbered y.entry.request.act
placed_numbered [] n y p = absurd p
placed_numbered (entry ∷ entries) n y (inl e) = subst (λ z. IsNumbered z.entry.request.act) (sym e) (All-head (λ one. IsNumbered one.request.act) entry entries n)
placed_numbered (entry ∷ entries) n y (inr p) = placed_numbered entries (All-tail (λ one. IsNumbered one.request.act) entry entries n) y p

module _ (shape : Shape) (reducer : ℕ) (entry : Entry) (entries : Entries) (front back : List Placed) (i : Inserted shape entry entries front back)
    (judged : ReducersAreJudged shape (entry ∷ entries)) (clean : IsClean (entry ∷ entries)) (numbers : AreNumbered (entry ∷ entries))
    (is_get : entry.request.act ≡ Act.Get reducer) (view : View)
    (is_value : IsValue (reducer_of (monoid_of shape.monoids reducer)) (items_of reducer (steps_of entries)) entry.request.strand view) where
  before_clean : IsClean entries
  before_clean = All-tail (λ one. IsCleanAnswer one.answer) entry entries clean

  before_legal : Legal (control_part entries)
  before_legal = legal-part shape entries i.legal.0

  the_put : IsPutAt reducer entries is_value.put
  the_put = put_placed reducer entries is_value.put is_value.last.0

  put_in_front : Present the_put.placed front
  put_in_front = elim ((present_append front back the_put.placed).0 ((i.members the_put.placed).1 the_put.stands)) [
    | inl q ↦ q
    | inr q ↦ absurd (not_parallel (control_part entries) before_legal the_put.placed.entry.request.strand entry.request.strand
        (strand_begun shape entries i.legal.0 the_put.placed the_put.stands) (inl i.legal.1.runs)
        (branch_now shape reducer entry entries i.legal judged clean (inr is_get) the_put.placed the_put.stands (inl (value.entry_value is_value.put, the_put.is_put)))
        (i.parallel the_put.placed q))
  ]

  part : Parted front the_put.placed
  part = parted front the_put.placed put_in_front

  in_front : (y : Placed) → Present y part.back → Present y front
  in_front y p = subst (Present y) (sym part.is) ((present_append part.front (the_put.placed ∷ part.back) y).1 (inr (inr p)))

  known : (y : Placed) → Present y front → IsPlaced entries y
  known y p = (i.members y).0 ((present_append front back y).1 (inl p))

  parted_sorted : AllPairs (IsEarlier (entry ∷ entries)) (part.front ++ (the_put.placed ∷ part.back))
  parted_sorted =
      subst (AllPairs (IsEarlier (entry ∷ entries))) part.is (pairs_prefix (IsEarlier (entry ∷ entries)) front (placed_at entries entry ∷ back) i.sorted)

  put_before_it : (y : Placed) → Present y part.back → IsEarlier (entry ∷ entries) the_put.placed y
  put_before_it y p = pairs_back (IsEarlier (entry ∷ entries)) part.front the_put.placed part.back parted_sorted y p

  put_before_then : (y : Placed) → Present y part.back → IsEarlier entries the_put.placed y
  put_before_then y p = earlier_before shape entry entries i.legal the_put.placed y the_put.stands (known y (in_front y p)) (put_before_it y p)

  it_before_get : (y : Placed) → Present y front → IsEarlier (entry ∷ entries) y (placed_at entries entry)
  it_before_get y p = pairs_front (IsEarlier (entry ∷ entries)) front (placed_at entries entry) back i.sorted y p

  -- the numbers of the stretch are greater than the put's
  compare : (m n : ℕ) → (m < n) ⊎ ((m ≡ n) ⊎ (n < m))
  compare m n = grind arith

  -- no put stands behind the last one
  no_puts : (y : Placed) → Present y part.back → (v : ℕ) → y.entry.request.act ≢ Act.Put reducer v
  no_puts y p v e = elim (compare y.number the_put.placed.number) [
    | inl lt ↦ earlier_once entries the_put.placed y (put_before_then y p) (reach_earlier shape entries i.legal.0 y the_put.placed ky the_put.stands lt
        (branch_reaches shape entries i.legal.0 y the_put.placed ky the_put.stands
        (one_branch shape reducer entries i.legal.0 judged.0 before_clean y the_put.placed ky the_put.stands (inl (v, e)) (inl (value.entry_value is_value.put, the_put.is_put))) lt))
    | inr t ↦ elim t [
      | inl same ↦ never_earlier entries the_put.placed (subst (IsEarlier entries the_put.placed) (number_unique entries y the_put.placed ky the_put.stands same) (put_before_then y p))
      | inr gt ↦ (let last = is_value.last.1 (put_entry y.number y.entry.request.strand v) (placed_put shape reducer entries i.legal.0 before_clean y ky v e) in
          let n = the_put.number_is in let m : y.number ≤ value.entry_number is_value.put = last in omega (arith, gt, n, m))
    ]
  ]
    where
      ky : IsPlaced entries y
      ky = known y (in_front y p)

  -- the updates of the stretch are those that count

  same_branch : branch (control_part (entry ∷ entries)) the_put.placed.entry.request.strand ≡ branch (control_part (entry ∷ entries)) entry.request.strand
  same_branch = one_branch shape reducer (entry ∷ entries) i.legal judged clean the_put.placed (placed_at entries entry) (inr the_put.stands) (inl refl)
      (inl (value.entry_value is_value.put, the_put.is_put)) (inr is_get)

  put_reaches_get : Reaches (control_part (entry ∷ entries)) the_put.placed.entry.request.strand entry.request.strand
  put_reaches_get =
      branch_reaches shape (entry ∷ entries) i.legal the_put.placed (placed_at entries entry) (inr the_put.stands) (inl refl) same_branch
      (let k = placed_number entries the_put.placed the_put.stands in omega (arith, k))

  lies_between : (y : Placed) → Present y part.back →
      Reaches (control_part entries) the_put.placed.entry.request.strand y.entry.request.strand × Reaches (control_part entries) y.entry.request.strand entry.request.strand
  lies_between y p =
      let ky = known y (in_front y p) in
      let r = between shape (entry ∷ entries) i.legal the_put.placed y (placed_at entries entry) (inr the_put.stands) (inr ky) (inl refl) same_branch put_reaches_get
      (put_before_it y p) (it_before_get y (in_front y p)) in
      let bp = strand_begun shape entries i.legal.0 the_put.placed the_put.stands in
      let b = strand_begun shape entries i.legal.0 y ky in (
        reach_back (event_of entry) before_legal i.legal.1.allowed the_put.placed.entry.request.strand y.entry.request.strand bp b r.0,
        reach_back (event_of entry) before_legal i.legal.1.allowed y.entry.request.strand entry.request.strand b (inl i.legal.1.runs) r.1,
      )

  younger : (y : Placed) → Present y part.back → the_put.placed.number < y.number
  younger y p = elim (compare the_put.placed.number y.number) [
    | inl lt ↦ lt
    | inr t ↦ elim t [
      | inl same ↦ absurd (never_earlier entries y (subst (λ z. IsEarlier entries z y) (number_unique entries the_put.placed y the_put.stands ky same) (put_before_then y p)))
      | inr gt ↦ absurd (older gt (never_back shape entries i.legal.0 y the_put.placed ky the_put.stands gt (lies_between y p).0) (put_before_then y p))
    ]
  ]
    where
      ky : IsPlaced entries y
      ky = known y (in_front y p)

      older : y.number < the_put.placed.number → the_put.placed.entry.request.strand ≡ y.entry.request.strand → IsEarlier entries the_put.placed y → ⊥
      older gt e (inl b) = never_earlier entries y (inl (subst (λ s. english_before (address (control_part entries) s) (address (control_part entries) y.entry.request.strand) ≡ true) e b))
      older gt e (inr t) = let k : the_put.placed.number < y.number = t.1 in omega (arith, gt, k)

  same_control : item.control_events (items_of reducer (steps_of entries)) ≡ control_part entries
  same_control = (projection_law reducer (steps_of entries)).0 ∙ steps-control entries

  to_counts : (u : value.Entry) → Present u (updates_in reducer part.back) → Counts (items_of reducer (steps_of entries)) is_value.put entry.request.strand u
  to_counts u p =
      let t = update_member reducer part.back u p in
      let r = lies_between t.0 t.1 in
      subst (Counts (items_of reducer (steps_of entries)) is_value.put entry.request.strand) (sym t.4) (
        placed_update shape reducer entries i.legal.0 before_clean t.0 (known t.0 (in_front t.0 t.1)) t.2 t.3,
        subst (λ n. n < t.0.number) the_put.number_is (younger t.0 t.1),
        subst (λ h. Reaches h (value.strand_of is_value.put) t.0.entry.request.strand) (sym same_control)
            (subst (λ s. Reaches (control_part entries) s t.0.entry.request.strand) the_put.strand_is r.0),
        subst (λ h. Reaches h t.0.entry.request.strand entry.request.strand) (sym same_control) r.1,
      )

  counts_there : (y : Placed) → IsPlaced entries y → (w : ℕ) → y.entry.request.act ≡ Act.Update reducer w → the_put.placed.number < y.number →
      Reaches (control_part entries) the_put.placed.entry.request.strand y.entry.request.strand → Reaches (control_part entries) y.entry.request.strand entry.request.strand →
      Present y part.back
  counts_there y k w e lt r q = elim ((present_append front back y).0 ((i.members y).1 k)) [
    | inr p ↦ absurd ((i.parallel y p).0 q)
    | inl p ↦ elim ((present_append part.front (the_put.placed ∷ part.back) y).0 (subst (Present y) part.is p)) [
      | inl before ↦ absurd (earlier_once entries the_put.placed y (reach_earlier shape entries i.legal.0 the_put.placed y the_put.stands k lt r)
          (earlier_before shape entry entries i.legal y the_put.placed k the_put.stands (pairs_front (IsEarlier (entry ∷ entries)) part.front the_put.placed part.back parted_sorted y before)))
      | inr behind ↦ elim behind [
        | inl same ↦ absurd (let m : the_put.placed.number ≡ y.number = ap (λ z. z.number) same in omega (arith, m, lt))
        | inr p ↦ p
      ]
    ]
  ]

  from_counts : (u : value.Entry) → Counts (items_of reducer (steps_of entries)) is_value.put entry.request.strand u → Present u (updates_in reducer part.back)
  from_counts u c =
      let t = update_placed reducer entries u c.0 in
      let strand_is : value.strand_of u ≡ t.placed.entry.request.strand = ap value.strand_of t.is in
      let number_is : value.entry_number u ≡ t.placed.number = ap value.entry_number t.is in
      let lt : the_put.placed.number < t.placed.number = subst (λ n. the_put.placed.number < n) number_is (subst (λ n. n < value.entry_number u) (sym the_put.number_is) c.1) in
      let r : Reaches (control_part entries) the_put.placed.entry.request.strand t.placed.entry.request.strand =
      subst (λ s. Reaches (control_part entries) the_put.placed.entry.request.strand s) strand_is
      (subst (λ s. Reaches (control_part entries) s (value.strand_of u)) (sym the_put.strand_is) (subst (λ h. Reaches h (value.strand_of is_value.put) (value.strand_of u)) same_control c.2)) in
      let q : Reaches (control_part entries) t.placed.entry.request.strand entry.request.strand =
      subst (λ s. Reaches (control_part entries) s entry.request.strand) strand_is (subst (λ h. Reaches h (value.strand_of u) entry.request.strand) same_control c.3) in
      subst (λ z. Present z (updates_in reducer part.back)) (sym t.is)
      (update_there reducer part.back t.placed (counts_there t.placed t.stands (value.entry_value u) t.is_update lt r q) (value.entry_value u) t.is_update)

  are_counted : AreCounted (items_of reducer (steps_of entries)) is_value.put entry.request.strand (updates_in reducer part.back)
  are_counted = (
    subst (λ h. AllPairs (AreInSerialOrder h) (updates_in reducer part.back)) (sym same_control)
        (updates_sorted reducer entries before_legal part.back (λ y p. strand_begun shape entries i.legal.0 y (known y (in_front y p))) then_sorted),
    (λ u. ((λ c. to_counts u ((contains_present u (updates_in reducer part.back)).0 c)), (λ c. (contains_present u (updates_in reducer part.back)).1 (from_counts u c)))),
  )
    where
      stretch_sorted : AllPairs (IsEarlier (entry ∷ entries)) part.back
      stretch_sorted = pairs-tail (IsEarlier (entry ∷ entries)) the_put.placed part.back (pairs-append_right (IsEarlier (entry ∷ entries)) part.front (the_put.placed ∷ part.back) parted_sorted)

      then_sorted : AllPairs (IsEarlier entries) part.back
      then_sorted = pairs_alike (IsEarlier (entry ∷ entries)) (IsEarlier entries) part.back
          (λ y z p q e. earlier_before shape entry entries i.legal y z (known y (in_front y p)) (known z (in_front z q)) e) stretch_sorted

  the_updates : updates_in reducer part.back ≡ is_value.counted
  the_updates =
      counted_law (items_of reducer (steps_of entries)) ((projection_law reducer (steps_of entries)).1.1 (steps_legal shape entries i.legal.0)) entry.request.strand is_value.put
      (updates_in reducer part.back) is_value.counted are_counted is_value.counts

  pub view_there : view_after_all (monoid_of shape.monoids reducer) (placed_effects front) reducer (identity_of (monoid_of shape.monoids reducer)) ≡ view
  view_there =
      let m = monoid_of shape.monoids reducer in
      let first = identity_of m in
      let before_numbers = All-tail (λ one. IsNumbered one.request.act) entry entries numbers in
      let put_number = placed_numbered entries before_numbers the_put.placed the_put.stands in
      let fits : FitsMonoid m (put_view m (value.entry_value is_value.put)) = ((monoid_law m).1 (value.entry_value is_value.put) (subst IsNumbered the_put.is_put put_number)).1 in
      ap (λ l. view_after_all m (placed_effects l) reducer first) part.is ∙
      ap (λ l. view_after_all m l reducer first) (placed_append part.front (the_put.placed ∷ part.back)) ∙
      views_parts m reducer (placed_effects part.front) (placed_effects (the_put.placed ∷ part.back)) first ∙
      ap (view_after_all m (placed_effects part.back) reducer)
      (put_is m reducer the_put.placed.entry.request.act (value.entry_value is_value.put) the_put.is_put (view_after_all m (placed_effects part.front) reducer first)) ∙
      stretch_view m reducer part.back (λ y p. placed_numbered entries before_numbers y (known y (in_front y p))) no_puts (put_view m (value.entry_value is_value.put)) fits ∙
      ap (λ us. product_of m (put_view m (value.entry_value is_value.put)) (product (reducer_of m) (map (λ u. update_view m (value.entry_value u)) us))) the_updates ∙
      sym is_value.combined

-- the gets of a reducer are right in serial order

abbrev ReducerRight : Shape → ℕ → Entries → List Placed → Type 0
ReducerRight shape reducer entries list =
    ReducersAreJudged shape entries → IsClean entries → AreNumbered entries →
    AreGetsRight (monoid_of shape.monoids reducer) reducer (identity_of (monoid_of shape.monoids reducer)) (placed_effects list)

module _ (shape : Shape) (reducer : ℕ) where
  get_step : (entry : Entry) (entries : Entries) (front back : List Placed) → Inserted shape entry entries front back → ReducerRight shape reducer entries (front ++ back) →
      ReducerRight shape reducer (entry ∷ entries) (front ++ (placed_at entries entry ∷ back))
  get_step entry entries front back i old judged clean numbers =
      subst (AreGetsRight m reducer first) (sym (placed_append front (placed_at entries entry ∷ back)))
      (gets_both m reducer (placed_effects front) (effect_of entry ∷ placed_effects back) first (gets_first m reducer (placed_effects front) (placed_effects back) first before)
      (by_its_role (role reducer entry.request.act)))
    where
      m : Monoid
      m = monoid_of shape.monoids reducer

      first : View
      first = identity_of (monoid_of shape.monoids reducer)

      before : AreGetsRight m reducer first (placed_effects front ++ placed_effects back)
      before = subst (AreGetsRight m reducer first) (placed_append front back)
          (old judged.0 (All-tail (λ one. IsCleanAnswer one.answer) entry entries clean) (All-tail (λ one. IsNumbered one.request.act) entry entries numbers))

      here : View
      here = view_after_all m (placed_effects front) reducer first

      behind : AreGetsRight m reducer here (placed_effects back)
      behind = gets_second m reducer (placed_effects front) (placed_effects back) first before

      sheltered : Sheltered reducer back
      sheltered = shelter (entry ∷ entries) reducer back
          (pairs-tail (IsEarlier (entry ∷ entries)) (placed_at entries entry) back (pairs-append_right (IsEarlier (entry ∷ entries)) front (placed_at entries entry ∷ back) i.sorted))
          (λ get p e. shelter_now shape reducer entry entries front back i judged clean get p e)

      got_right : entry.request.act ≡ Act.Get reducer → IsGetRight reducer here entry.request.act (value_given entry.answer)
      got_right e =
          let v = value_now shape reducer entry entries e i.legal judged clean in
          let same = view_there shape reducer entry entries front back i judged clean numbers e v.2.0 v.2.1 in
          let number : view_number here ≡ Some v.0 = ap view_number same ∙ v.2.2 in
          subst (λ a. IsGetRight reducer here a (value_given entry.answer)) (sym e)
          (λ k. v.1 ∙ ap (λ o. Some (unwrap_or o 0)) (sym number))

      by_its_role : Role reducer entry.request.act → AreGetsRight m reducer here (effect_of entry ∷ placed_effects back)
      by_its_role (updates v e) = (
        not_get_right reducer entry.request.act (update_no_get e) here (value_given entry.answer),
        sheltered_right m reducer back sheltered here (view_after m entry.request.act reducer here) behind,
      )
      by_its_role (puts v e) = (
        not_get_right reducer entry.request.act (put_no_get e) here (value_given entry.answer),
        sheltered_right m reducer back sheltered here (view_after m entry.request.act reducer here) behind,
      )
      by_its_role (gets e) = (
        got_right e,
        subst (λ w. AreGetsRight m reducer w (placed_effects back))
            (sym (aside_view m reducer entry.request.act (λ v k. update_no_get k e) (λ v k. put_no_get k e) here)) behind,
      )
      by_its_role (aside nu np ng) = (
        not_get_right reducer entry.request.act ng here (value_given entry.answer),
        subst (λ w. AreGetsRight m reducer w (placed_effects back)) (sym (aside_view m reducer entry.request.act nu np here)) behind,
      )

  pub gets_right : (entries : Entries) → IsLegal shape entries → (list : List Placed) → AllPairs (IsEarlier entries) list → ((y : Placed) → Present y list ↔ IsPlaced entries y) →
      ReducerRight shape reducer entries list
  gets_right = by_insertions shape (ReducerRight shape reducer) (λ judged clean numbers. tt) get_step
