-- The races as refusals come.
use Rattle.std.proofs.Common.{◌≡◌, ◌≢◌, ◌⊎◌, inl, inr, ℕ, zero, suc, ◌+◌, ◌<◌, ◌≤◌, Bool, true, false, cond, eqb, List, [], ◌∷◌, ◌++◌, length, get_or, set, map, take, min, Option, Some, None, refl, sym, ap, ◌∙◌, subst, arith}
use Rattle.std.specs.List.{All, list_any}
use Rattle.std.proofs.Math.Seq.{take-set-lt}
use Rattle.std.proofs.lemmas.Bool.{cases_Bool}
use Rattle.std.proofs.lemmas.List.{map-append, map-set, get_or-map, get_or-take, get_or-set_same, get_or-set_other, length_push, length-set, length-map, length-take, take-append-le, take-set-le, take_all}
use Rattle.std.proofs.lemmas.List.Elements.{All-push}
use Rattle.law_strands.proofs.Updates.{same_or_not}
use Rattle.model_histories.specs.declared.answer.Entry.{Entry}
use Rattle.race_pairs.specs.declared.refusal.Lines.{Lines}
use Rattle.race_pairs.specs.declared.race.Pair.{Pair}
use Rattle.race_pairs.specs.declared.race.PairKey.{PairKey}
use Rattle.race_pairs.specs.declared.race.Race.{Race}
use Rattle.race_pairs.specs.declared.sighting.Sighting.{Sighting}
use Rattle.race_pairs.specs.Refusals.{refusal_at, access_at, IsSideAt}
use Rattle.race_pairs.specs.PairKeys.{HasSpawn, HasKey, key_of}
use Rattle.race_pairs.specs.Known.{IsNewKey, IsKeyAt}
use Rattle.race_pairs.specs.Places.{HasPlace, IsPlaced}
use Rattle.race_pairs.specs.Races.{HasAgain, IsCounted, IsBegunBy, IsBegun}
use Rattle.race_pairs.specs.Sightings.{IsSighting}
use Rattle.race_pairs.specs.Kept.{IsRace, AreRaces}
use Rattle.race_pairs.proofs.Firsts.{tells_within}
use Rattle.race_pairs.proofs.Placed.{placed_none, placed_old, placed_new, placed_never}
use Rattle.race_pairs.proofs.Counted.{told_lines, no_key, IsSingle, up_none, up_hit, up_new, apart, any_default, never_before}

-- ---- where the kept pairs stand among all

module _ (list : List Race) (most : ℕ) (pairs : List Pair) (first : map (λ (race : Race). race.pair) list ≡ take most pairs) where
  pub few : length list ≡ min most (length pairs)
  few = sym (length-map list (λ (race : Race). race.pair)) ∙ (ap length first ∙ length-take most pairs)

  pub pair_at : (k : ℕ) (d : Race) (e : Pair) → k < length list → (get_or list k d).pair ≡ get_or pairs k e
  pair_at k d e lt =
      let count = few in
      let low : k < most = omega (arith, count, lt) in
      let within : k < length pairs = omega (arith, count, lt) in
      sym (get_or-map (λ (race : Race). race.pair) list k d d.pair lt) ∙
      (ap (λ (xs : List Pair). get_or xs k d.pair) first ∙ (get_or-take most pairs k d.pair low ∙ any_default pairs k d.pair e within))

-- ---- what is not of this pair

race_missed : (told : List Entry) (last : ℕ) → IsSingle told (suc last) → (key : PairKey) (race : Race) → HasKey told (suc last) key →
    (key_of race.pair ≡ key → ⊥) → IsRace told last race → IsRace told (suc last) race
race_missed told last single key race has differ r = record {
  refused = r.refused;
  witness = r.witness;
  placed = placed_none told (key_of race.pair) last race.places.items race.seen.keys other r.placed;
}
  where
    other : (place : ℕ) → HasPlace told (key_of race.pair) (suc last) place → ⊥
    other place h = differ (single (suc last) (omega arith) (key_of race.pair) key h.2 has)

-- ---- a refusal of a pair

module _ (told : List Entry) (last : ℕ) (sighting : Sighting) (s : IsSighting told (suc last) sighting) (single : IsSingle told (suc last)) (spawn : Option ℕ)
    (parts : HasSpawn told (suc last) spawn)
  where
    pub has_key : HasKey told (suc last) (record { lines = sighting.lines; spawn = spawn })
    has_key = (told_lines told (suc last) s.refusal s.told_here ∙ ap Some (sym s.lines_are), parts)

    has_place : HasPlace told (record { lines = sighting.lines; spawn = spawn }) (suc last) sighting.place
    has_place = (s.refusal, s.told_here, has_key, s.place_is)

    -- a race of this pair, counted once more
    counted_race : (old new : Race) → key_of old.pair ≡ record { lines = sighting.lines; spawn = spawn } → HasAgain sighting.place old new → IsRace told last old →
        IsRace told (suc last) new
    counted_race old new same again r =
        let key_is : key_of new.pair ≡ key_of old.pair = ap (λ (p : Pair). key_of p) again.pair_is in
        let first_is : new.pair.first ≡ old.pair.first = ap (λ (p : Pair). p.first) again.pair_is in
        let witness_is : new.pair.witness ≡ old.pair.witness = ap (λ (p : Pair). p.witness) again.pair_is in
        let at : HasPlace told (key_of old.pair) (suc last) sighting.place =
        subst (λ (k : PairKey). HasPlace told k (suc last) sighting.place) (sym same) has_place in
        record {
          refused = ap (access_at told) first_is ∙ (r.refused ∙ ap Some (sym again.refused_is));
          witness = subst (λ side. IsSideAt told new.pair.witness side) (sym again.witness_is)
              (subst (λ (n : ℕ). IsSideAt told n old.witness) (sym witness_is) r.witness);
          placed = subst (λ (k : PairKey). IsPlaced told k (suc last) new.places.items new.seen.keys) (sym key_is)
              (by at (cases_Bool (list_any (eqb sighting.place) old.seen.keys)));
        }
      where
        by : HasPlace told (key_of old.pair) (suc last) sighting.place →
            (list_any (eqb sighting.place) old.seen.keys ≡ true) ⊎ (list_any (eqb sighting.place) old.seen.keys ≡ false) →
            IsPlaced told (key_of old.pair) (suc last) new.places.items new.seen.keys
        by at (inl known) =
            let items : new.places.items ≡ old.places.items = again.places_are ∙ ap (λ (b : Bool). cond b old.places.items (old.places.items ++ sighting.place ∷ [])) known in
            subst (λ (xs : List ℕ). IsPlaced told (key_of old.pair) (suc last) xs new.seen.keys) (sym items)
            (placed_old told (key_of old.pair) last old.places.items old.seen.keys new.seen.keys sighting.place at again.sees r.placed known)
        by at (inr missing) =
            let items : new.places.items ≡ old.places.items ++ sighting.place ∷ [] =
            again.places_are ∙ ap (λ (b : Bool). cond b old.places.items (old.places.items ++ sighting.place ∷ [])) missing in
            subst (λ (xs : List ℕ). IsPlaced told (key_of old.pair) (suc last) xs new.seen.keys) (sym items)
            (placed_new told (key_of old.pair) last old.places.items old.seen.keys new.seen.keys sighting.place at again.sees r.placed missing)

    -- a race that the refusal begins
    begun_race : (race : Race) → ((number : ℕ) → number ≤ last → HasKey told number (record { lines = sighting.lines; spawn = spawn }) → ⊥) →
        IsBegunBy sighting spawn race → IsRace told (suc last) race
    begun_race race never b =
        let key_is : key_of race.pair ≡ record { lines = sighting.lines; spawn = spawn } = ap (λ (p : Pair). key_of p) b.pair_is in
        let first_is : race.pair.first ≡ suc last = ap (λ (p : Pair). p.first) b.pair_is ∙ s.number_is in
        let witness_is : race.pair.witness ≡ s.refusal.witness = ap (λ (p : Pair). p.witness) b.pair_is ∙ s.witness_number_is in
        record {
          refused = ap (access_at told) first_is ∙ (s.refused_is ∙ ap Some (sym b.refused_is));
          witness = subst (λ side. IsSideAt told race.pair.witness side) (sym b.witness_is)
              (subst (λ (n : ℕ). IsSideAt told n sighting.witness) (sym witness_is) s.witness_is);
          placed = subst (λ (k : PairKey). IsPlaced told k (suc last) race.places.items race.seen.keys) (sym key_is)
              (subst (λ (xs : List ℕ). IsPlaced told (record { lines = sighting.lines; spawn = spawn }) (suc last) xs race.seen.keys) (sym b.places_are)
              (placed_new told (record { lines = sighting.lines; spawn = spawn }) last [] [] race.seen.keys sighting.place has_place b.sees
              (placed_never told (record { lines = sighting.lines; spawn = spawn }) last (λ number place le h. never number le h.2)) refl));
        }

    abbrev pub new_pair : Pair
    new_pair = record { lines = sighting.lines; spawn = spawn; first = suc last; witness = s.refusal.witness; times = 1 }

    begun_is : (race : Race) → IsBegunBy sighting spawn race → race.pair ≡ record { lines = sighting.lines; spawn = spawn; first = suc last; witness = s.refusal.witness; times = 1 }
    begun_is race b =
        b.pair_is ∙ (ap (λ (n : ℕ). record { lines = sighting.lines; spawn = spawn; first = n; witness = sighting.witness_number; times = 1 }) s.number_is ∙
        ap (λ (n : ℕ). record { lines = sighting.lines; spawn = spawn; first = suc last; witness = n; times = 1 }) s.witness_number_is)

    earlier_single : IsSingle told last
    earlier_single number le one other = single number (omega (arith, le)) one other

    -- ---- a pair that was seen before

    module _ (most : ℕ) (list : List Race) (pairs : List Pair) (a : AreRaces told last most list pairs) where
      count : length list ≡ min most (length pairs)
      count = few list most pairs a.first

      pub counted_more : (more : List Race) (before : ℕ) (d : Pair) → IsKeyAt (record { lines = sighting.lines; spawn = spawn }) pairs before →
          IsCounted before sighting.place list more →
          AreRaces told (suc last) most more (set pairs before (record (get_or pairs before d) { times = suc (get_or pairs before d).times }))
      counted_more more before d at counted = by counted
        where
          here : HasKey told (suc last) (key_of (get_or pairs before d))
          here = subst (HasKey told (suc last)) (sym (at.1 d)) has_key

          with_list : map (λ (race : Race). race.pair) more ≡ take most (set pairs before (record (get_or pairs before d) { times = suc (get_or pairs before d).times })) →
              All (IsRace told (suc last)) more →
              AreRaces told (suc last) most more (set pairs before (record (get_or pairs before d) { times = suc (get_or pairs before d).times }))
          with_list first each = record {
            are_pairs = up_hit told last pairs single before d at.0 here a.are_pairs (record (get_or pairs before d) { times = suc (get_or pairs before d).times }) refl;
            first = first;
            each = each;
          }

          alike : (k : ℕ) (e : Race) → k < length list → key_of (get_or list k e).pair ≡ record { lines = sighting.lines; spawn = spawn } → k ≡ before
          alike k e lt same =
              let low : k < length pairs = omega (arith, count, lt) in
              apart told last pairs earlier_single a.are_pairs k before d low at.0
              (ap (λ (p : Pair). key_of p) (sym (pair_at list most pairs a.first k e d lt)) ∙ (same ∙ sym (at.1 d)))

          by : IsCounted before sighting.place list more →
              AreRaces told (suc last) most more (set pairs before (record (get_or pairs before d) { times = suc (get_or pairs before d).times }))
          by (inl none) =
              let beyond : most ≤ before = omega (arith, count, none.0, at.0) in
              with_list (ap (map (λ (race : Race). race.pair)) none.1 ∙
              (a.first ∙ sym (take-set-le most pairs before (record (get_or pairs before d) { times = suc (get_or pairs before d).times }) beyond)))
              (subst (All (IsRace told (suc last))) (sym none.1)
              (λ k e lt. race_missed told last single (record { lines = sighting.lines; spawn = spawn }) (get_or list k e) has_key
              (λ same. (let is = alike k e lt same in absurd (omega (arith, is, lt, none.0)))) (a.each k e lt)))
          by (inr found) =
              with_list first_is (subst (All (IsRace told (suc last))) (sym found.3) (λ k e lt. each_is k e lt (same_or_not k before)))
            where
              pair_is : found.0.pair ≡ record (get_or pairs before d) { times = suc (get_or pairs before d).times }
              pair_is = (found.2 found.0).pair_is ∙ ap (λ (p : Pair). record p { times = suc p.times }) (pair_at list most pairs a.first before found.0 d found.1)

              first_is : map (λ (race : Race). race.pair) more ≡ take most (set pairs before (record (get_or pairs before d) { times = suc (get_or pairs before d).times }))
              first_is =
                  let low : before < most = omega (arith, count, found.1) in
                  ap (map (λ (race : Race). race.pair)) found.3 ∙
                  (map-set (λ (race : Race). race.pair) list before found.0 ∙
                  (ap (λ (p : Pair). set (map (λ (race : Race). race.pair) list) before p) pair_is ∙
                  (ap (λ (xs : List Pair). set xs before (record (get_or pairs before d) { times = suc (get_or pairs before d).times })) a.first ∙
                  sym (take-set-lt most pairs before (record (get_or pairs before d) { times = suc (get_or pairs before d).times }) low))))

              each_is : (k : ℕ) (e : Race) → k < length (set list before found.0) → (k ≡ before) ⊎ (k ≢ before) →
                  IsRace told (suc last) (get_or (set list before found.0) k e)
              each_is k e lt (inl is) =
                  subst (λ (n : ℕ). IsRace told (suc last) (get_or (set list before found.0) n e)) (sym is)
                  (subst (IsRace told (suc last)) (sym (get_or-set_same list before found.0 e found.1))
                  (counted_race (get_or list before e) found.0
                  (ap (λ (p : Pair). key_of p) (pair_at list most pairs a.first before e d found.1) ∙ at.1 d) (found.2 e) (a.each before e found.1)))
              each_is k e lt (inr not) =
                  let within : k < length list = omega (arith, lt, length-set list before found.0) in
                  subst (IsRace told (suc last)) (sym (get_or-set_other list before k found.0 e not))
                  (race_missed told last single (record { lines = sighting.lines; spawn = spawn }) (get_or list k e) has_key
                  (λ same. not (alike k e within same)) (a.each k e within))

      -- ---- a pair that was not

      pub begun_more : (more : List Race) → IsNewKey (record { lines = sighting.lines; spawn = spawn }) pairs → IsBegun most sighting spawn list more →
          AreRaces told (suc last) most more (pairs ++ record { lines = sighting.lines; spawn = spawn; first = suc last; witness = s.refusal.witness; times = 1 } ∷ [])
      begun_more more fresh begun = by begun
        where
          never : (number : ℕ) → number ≤ last → HasKey told number (record { lines = sighting.lines; spawn = spawn }) → ⊥
          never = never_before told last pairs earlier_single a.are_pairs (record { lines = sighting.lines; spawn = spawn }) fresh new_pair

          long : length (pairs ++ new_pair ∷ []) ≡ length pairs + 1
          long = length_push pairs new_pair

          with_list : map (λ (race : Race). race.pair) more ≡ take most (pairs ++ new_pair ∷ []) → All (IsRace told (suc last)) more →
              AreRaces told (suc last) most more (pairs ++ new_pair ∷ [])
          with_list first each = record {
            are_pairs = up_new told last pairs single s.refusal spawn s.told_here parts
                (λ number le h. never number le (subst (λ l. HasKey told number (record { lines = l; spawn = spawn })) (sym s.lines_are) h)) a.are_pairs new_pair
                (ap (λ l. record { lines = l; spawn = spawn; first = suc last; witness = s.refusal.witness; times = 1 }) s.lines_are);
            first = first;
            each = each;
          }

          differ : (k : ℕ) (e : Race) → k < length list → key_of (get_or list k e).pair ≡ record { lines = sighting.lines; spawn = spawn } → ⊥
          differ k e lt same =
              let low : k < length pairs = omega (arith, count, lt) in
              fresh k new_pair low (ap (λ (p : Pair). key_of p) (sym (pair_at list most pairs a.first k e new_pair lt)) ∙ same)

          old_races : All (IsRace told (suc last)) list
          old_races = λ k e lt. race_missed told last single (record { lines = sighting.lines; spawn = spawn }) (get_or list k e) has_key (differ k e lt) (a.each k e lt)

          by : IsBegun most sighting spawn list more → AreRaces told (suc last) most more (pairs ++ new_pair ∷ [])
          by (inl full) =
              let enough : most ≤ length pairs = omega (arith, count, full.0) in
              with_list (ap (map (λ (race : Race). race.pair)) full.1 ∙ (a.first ∙ sym (take-append-le most pairs (new_pair ∷ []) enough)))
              (subst (All (IsRace told (suc last))) (sym full.1) old_races)
          by (inr one) =
              let low : length pairs < most = omega (arith, count, one.0) in
              let all : length (pairs ++ new_pair ∷ []) ≤ most = omega (arith, long, low) in
              let some : length pairs ≤ most = omega (arith, low) in
              with_list (ap (map (λ (race : Race). race.pair)) one.3 ∙
              (map-append (λ (race : Race). race.pair) list (one.1 ∷ []) ∙
              (ap (λ (xs : List Pair). xs ++ one.1.pair ∷ []) (a.first ∙ take_all most pairs some) ∙
              (ap (λ (p : Pair). pairs ++ p ∷ []) (begun_is one.1 one.2) ∙ sym (take_all most (pairs ++ new_pair ∷ []) all)))))
              (subst (All (IsRace told (suc last))) (sym one.3) (All-push (IsRace told (suc last)) list one.1 old_races (begun_race one.1 never one.2)))

-- ---- other entries

pub none_more : (told : List Entry) (last most : ℕ) (list : List Race) (pairs : List Pair) → refusal_at told (suc last) ≡ None →
    AreRaces told last most list pairs → AreRaces told (suc last) most list pairs
none_more told last most list pairs none a = record {
  are_pairs = up_none told last pairs (no_key told (suc last) none) a.are_pairs;
  first = a.first;
  each = λ k e lt. still (get_or list k e) (a.each k e lt);
}
  where
    still : (race : Race) → IsRace told last race → IsRace told (suc last) race
    still race r = record {
      refused = r.refused;
      witness = r.witness;
      placed = placed_none told (key_of race.pair) last race.places.items race.seen.keys
          (λ place h. no_key told (suc last) none (key_of race.pair) h.2) r.placed;
    }

-- how often a race of a list came
pub times_below : (told : List Entry) (last most : ℕ) (list : List Race) (pairs : List Pair) → AreRaces told last most list pairs → (k : ℕ) (d : Race) →
    k < length list → (get_or list k d).pair.times ≤ last
times_below told last most list pairs a k d lt =
    let count = few list most pairs a.first in
    let low : k < length pairs = omega (arith, count, lt) in
    let at = pair_at list most pairs a.first k d d.pair lt in
    let few_times = tells_within (HasKey told) (key_of (get_or pairs k d.pair)) last (get_or pairs k d.pair).times (a.are_pairs.each k d.pair low).counts in
    subst (λ (p : Pair). p.times ≤ last) (sym at) few_times

-- at first

abbrev none_at_all : List Pair
none_at_all = []

pub no_races : (told : List Entry) (most : ℕ) (list : List Race) → list ≡ [] → AreRaces told 0 most list []
no_races told most list none = record {
  are_pairs = record {
    firsts = record {
      rise = λ i j d lt within. absurd (omega (arith, within));
      each = λ number. (λ h. absurd (omega (arith, h.1)), λ t. absurd (at_zero number t.0 t.1.0 t.1.1));
    };
    each = λ k d lt. absurd (omega (arith, lt));
  };
  first = ap (map (λ (race : Race). race.pair)) none ∙ sym (take_none most);
  each = λ k d lt. absurd (let empty = ap length none in omega (arith, lt, empty));
}
  where
    take_none : (n : ℕ) → take n none_at_all ≡ none_at_all
    take_none zero = refl
    take_none (suc n) = refl

    at_zero : (number : ℕ) → number ≤ 0 → (key : PairKey) → HasKey told number key → ⊥
    at_zero zero le key h = none_some h.0
      where
        none_some : {x : Lines} → None ≡ Some x → ⊥
        none_some e = cc
    at_zero (suc n) le key h = absurd (omega arith)
