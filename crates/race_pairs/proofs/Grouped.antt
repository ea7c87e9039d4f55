-- Groups as races come.
-- xs: the races; gs: the groups; n: the index of the next race
use Rattle.std.proofs.Common.{◌≡◌, ◌≢◌, ◌⊎◌, inl, inr, ℕ, zero, suc, ◌+◌, ◌<◌, ◌≤◌, true, false, cond, eqb, List, [], ◌∷◌, ◌++◌, length, get_or, set, Option, Some, None, refl, sym, ap, ◌∙◌, subst, arith}
use Rattle.std.specs.Prelude.{slice_set}
use Rattle.std.specs.HashMap.{HashMap, get}
use Rattle.std.specs.Map.{lookup}
use Rattle.std.specs.List.{All, AllPairs, Contains}
use Rattle.std.proofs.Math.Seq.{get_or-append_seam}
use Rattle.std.proofs.Math.ListN.{get_or-append}
use Rattle.std.proofs.lemmas.Bool.Decides.{eqb_tells}
use Rattle.std.proofs.lemmas.List.{length_push, length-set, get_or-set_same, get_or-set_other}
use Rattle.std.proofs.lemmas.List.Elements.{All-push, Contains-push, Contains-append_left}
use Rattle.std.proofs.lemmas.List.Quantifiers.{all_pairs_push}
use Rattle.law_strands.proofs.Updates.{same_or_not}
use Rattle.law_strands.proofs.Places.{below_or_beyond}
use Rattle.race_pairs.specs.declared.race.Race.{Race}
use Rattle.race_pairs.specs.declared.groups.Group.{Group}
use Rattle.race_pairs.specs.Groups.{IsOfSpawn, IsGroup, first_of, AreApart, IsInGroup, AreGroupsUpTo, HasOneMore, IsGroupMore, IsPlaceMore, IsFoundAt, AreFound, AreGroups}

any_group : (gs : List Group) (i : ℕ) (d e : Group) → i < length gs → get_or gs i d ≡ get_or gs i e
any_group [] i d e lt = absurd (omega (arith, lt))
any_group (g ∷ gs) zero d e lt = refl
any_group (g ∷ gs) (suc i) d e lt = any_group gs i d e (omega (arith, lt))

-- the bound rises
group_on : (xs : List Race) (n : ℕ) (g : Group) → IsGroup xs n g → IsGroup xs (suc n) g
group_on xs n g is = record {
  some = is.some;
  each = is.each;
  below = λ k d lt. (let low = is.below k d lt in omega (arith, low));
  rise = is.rise;
  alone = is.alone;
}

reached : (place n : ℕ) → place < suc n → (place < n) ⊎ (place ≡ n)
reached place n lt = elim (below_or_beyond place n) [ inl less ↦ inl less | inr ge ↦ inr (omega (arith, lt, ge)) ]

single_rise : (place i j : ℕ) (d : ℕ) → i < j → j < 1 → get_or (place ∷ []) i d < get_or (place ∷ []) j d
single_rise place i j d lt within = absurd (omega (arith, lt, within))

-- ---- one group more

module _ (xs : List Race) (n : ℕ) (gs : List Group) (a : AreGroupsUpTo xs n gs) (spawn : Option ℕ) (of : IsOfSpawn xs spawn n)
    (fresh : (line : ℕ) → spawn ≡ Some line → All (λ (g : Group). g.spawn ≡ Some line → ⊥) gs) (g : Group) (spawn_is : g.spawn ≡ spawn)
    (places_are : g.places.items ≡ n ∷ [])
  where
    new_group : IsGroup xs (suc n) g
    new_group = record {
      some = (let one = ap length places_are in omega (arith, one));
      each = subst (All (IsOfSpawn xs g.spawn)) (sym places_are) (subst (λ (s : Option ℕ). All (IsOfSpawn xs s) (n ∷ [])) (sym spawn_is) (one_each (IsOfSpawn xs spawn) of));
      below = subst (All (λ (place : ℕ). place < suc n)) (sym places_are) (one_each (λ (place : ℕ). place < suc n) (omega arith));
      rise = subst (AllPairs (λ (one : ℕ) (other : ℕ). one < other)) (sym places_are) (λ i j d lt within. single_rise n i j d lt within);
      alone = λ e. ap length places_are;
    }
      where
        one_each : (P : ℕ → Type 0) → P n → All P (n ∷ [])
        one_each P p zero d lt = p
        one_each P p (suc k) d lt = absurd (omega (arith, lt))

    first_new : first_of g ≡ n
    first_new = ap (λ (ps : List ℕ). get_or ps 0 0) places_are

    first_old : (k : ℕ) (d : Group) → k < length gs → first_of (get_or gs k d) < first_of g
    first_old k d lt = let is = a.each k d lt in let low = is.below 0 0 is.some in omega (arith, low, first_new)

    old_apart : (k : ℕ) (d : Group) → k < length gs → AreApart (get_or gs k d) g
    old_apart k d lt line one other = fresh line (sym spawn_is ∙ other) k d lt one

    pub groups_begun : AreGroupsUpTo xs (suc n) (gs ++ g ∷ [])
    groups_begun = record {
      each = All-push (IsGroup xs (suc n)) gs g (λ k d lt. group_on xs n (get_or gs k d) (a.each k d lt)) new_group;
      whole = λ place lt. whole place (reached place n lt);
      apart = all_pairs_push AreApart gs g a.apart old_apart;
      rise = all_pairs_push (λ (one : Group) (other : Group). first_of one < first_of other) gs g a.rise first_old;
    }
      where
        longer : length (gs ++ g ∷ []) ≡ length gs + 1
        longer = length_push gs g

        whole : (place : ℕ) → (place < n) ⊎ (place ≡ n) → IsInGroup (gs ++ g ∷ []) place
        whole place (inl lt) =
            let old = a.whole place lt in
            (old.0, omega (arith, longer, old.1), λ d. subst (λ (x : Group). Contains x.places.items place) (sym (get_or-append gs (g ∷ []) d old.0 old.1)) (old.2 d))
        whole place (inr is) = (
          length gs,
          omega (arith, longer),
          λ d. subst (λ (x : Group). Contains x.places.items place) (sym (get_or-append_seam gs g [] d))
              (subst (λ (ps : List ℕ). Contains ps place) (sym places_are) (subst (Contains (n ∷ [])) (sym is) (Contains-push [] n))),
        )

    -- and the map finds it
    pub found_old : (line : ℕ) (found : Option ℕ) → (spawn ≡ Some line → ⊥) → IsFoundAt gs line found → IsFoundAt (gs ++ g ∷ []) line found
    found_old line None other none = All-push (λ (x : Group). x.spawn ≡ Some line → ⊥) gs g none (λ e. other (sym spawn_is ∙ e))
    found_old line (Some at) other found =
        (let longer = length_push gs g in omega (arith, longer, found.0), λ d. ap (λ (x : Group). x.spawn) (get_or-append gs (g ∷ []) d at found.0) ∙ found.1 d)

    pub found_here : (line : ℕ) → spawn ≡ Some line → IsFoundAt (gs ++ g ∷ []) line (Some (length gs))
    found_here line is =
        (let longer = length_push gs g in omega (arith, longer), λ d. ap (λ (x : Group). x.spawn) (get_or-append_seam gs g [] d) ∙ (spawn_is ∙ is))

-- ---- one race more in a group

module _ (xs : List Race) (n : ℕ) (gs : List Group) (a : AreGroupsUpTo xs n gs) (line : ℕ) (of : IsOfSpawn xs (Some line) n) (at : ℕ) (g : Group)
    (within : at < length gs) (here : (d : Group) → (get_or gs at d).spawn ≡ Some line) (more : (d : Group) → HasOneMore n (get_or gs at d) g)
  where
    spawn_stays : (k : ℕ) (d : Group) → (k ≡ at) ⊎ (k ≢ at) → (get_or (set gs at g) k d).spawn ≡ (get_or gs k d).spawn
    spawn_stays k d (inl is) =
        ap (λ (i : ℕ). (get_or (set gs at g) i d).spawn) is ∙
        (ap (λ (x : Group). x.spawn) (get_or-set_same gs at g d within) ∙ ((more d).spawn_is ∙ ap (λ (i : ℕ). (get_or gs i d).spawn) (sym is)))
    spawn_stays k d (inr not) = ap (λ (x : Group). x.spawn) (get_or-set_other gs at k g d not)

    some_before : (d : Group) → 0 < length (get_or gs at d).places.items
    some_before d = (a.each at d within).some

    first_stays : (k : ℕ) (d : Group) → (k ≡ at) ⊎ (k ≢ at) → first_of (get_or (set gs at g) k d) ≡ first_of (get_or gs k d)
    first_stays k d (inl is) =
        ap (λ (i : ℕ). first_of (get_or (set gs at g) i d)) is ∙
        (ap first_of (get_or-set_same gs at g d within) ∙
        (ap (λ (ps : List ℕ). get_or ps 0 0) (more d).places_are ∙
        (get_or-append (get_or gs at d).places.items (n ∷ []) 0 0 (some_before d) ∙ ap (λ (i : ℕ). first_of (get_or gs i d)) (sym is))))
    first_stays k d (inr not) = ap first_of (get_or-set_other gs at k g d not)

    joined : (d : Group) → IsGroup xs (suc n) g
    joined d =
        let old = a.each at d within in
        let m = more d in
        record {
          some = (let longer = ap length m.places_are in let one = length_push (get_or gs at d).places.items n in omega (arith, longer, one));
          each = subst (All (IsOfSpawn xs g.spawn)) (sym m.places_are) (All-push (IsOfSpawn xs g.spawn) (get_or gs at d).places.items n
              (subst (λ (s : Option ℕ). All (IsOfSpawn xs s) (get_or gs at d).places.items) (sym m.spawn_is) old.each)
              (subst (λ (s : Option ℕ). IsOfSpawn xs s n) (sym (m.spawn_is ∙ here d)) of));
          below = subst (All (λ (place : ℕ). place < suc n)) (sym m.places_are) (All-push (λ (place : ℕ). place < suc n) (get_or gs at d).places.items n
              (λ k e lt. (let low = old.below k e lt in omega (arith, low))) (omega arith));
          rise = subst (AllPairs (λ (one : ℕ) (other : ℕ). one < other)) (sym m.places_are)
              (all_pairs_push (λ (one : ℕ) (other : ℕ). one < other) (get_or gs at d).places.items n old.rise old.below);
          alone = λ e. absurd (some_none (sym (m.spawn_is ∙ here d) ∙ e));
        }
      where
        some_none : {x : ℕ} → Some x ≡ None → ⊥
        some_none f = cc

    pub groups_joined : AreGroupsUpTo xs (suc n) (set gs at g)
    groups_joined = record {
      each = λ k d lt. each k d (omega (arith, lt, length-set gs at g)) (same_or_not k at);
      whole = λ place lt. whole place (reached place n lt);
      apart = λ i j d lt low line one other.
          (let low' : j < length gs = omega (arith, low, length-set gs at g) in
          a.apart i j d lt low' line (sym (spawn_stays i d (same_or_not i at)) ∙ one) (sym (spawn_stays j d (same_or_not j at)) ∙ other));
      rise = λ i j d lt low.
          (let low' : j < length gs = omega (arith, low, length-set gs at g) in
          let less = a.rise i j d lt low' in
          let one = first_stays i d (same_or_not i at) in
          let other = first_stays j d (same_or_not j at) in omega (arith, less, one, other));
    }
      where
        each : (k : ℕ) (d : Group) → k < length gs → (k ≡ at) ⊎ (k ≢ at) → IsGroup xs (suc n) (get_or (set gs at g) k d)
        each k d lt (inl is) =
            subst (λ (i : ℕ). IsGroup xs (suc n) (get_or (set gs at g) i d)) (sym is) (subst (IsGroup xs (suc n)) (sym (get_or-set_same gs at g d within)) (joined d))
        each k d lt (inr not) = subst (IsGroup xs (suc n)) (sym (get_or-set_other gs at k g d not)) (group_on xs n (get_or gs k d) (a.each k d lt))

        there : (place : ℕ) (d : Group) → Contains g.places.items place → Contains (get_or (set gs at g) at d).places.items place
        there place d c = subst (λ (x : Group). Contains x.places.items place) (sym (get_or-set_same gs at g d within)) c

        longer : length (set gs at g) ≡ length gs
        longer = length-set gs at g

        old_place : (place k : ℕ) → k < length gs → ((d : Group) → Contains (get_or gs k d).places.items place) → (k ≡ at) ⊎ (k ≢ at) → (d : Group) →
            Contains (get_or (set gs at g) k d).places.items place
        old_place place k lt has (inl is) d =
            subst (λ (i : ℕ). Contains (get_or (set gs at g) i d).places.items place) (sym is) (there place d
            (subst (λ (ps : List ℕ). Contains ps place) (sym (more d).places_are)
            (Contains-append_left (get_or gs at d).places.items (n ∷ []) place (subst (λ (i : ℕ). Contains (get_or gs i d).places.items place) is (has d)))))
        old_place place k lt has (inr not) d =
            subst (λ (x : Group). Contains x.places.items place) (sym (get_or-set_other gs at k g d not)) (has d)

        whole : (place : ℕ) → (place < n) ⊎ (place ≡ n) → IsInGroup (set gs at g) place
        whole place (inl lt) =
            let old = a.whole place lt in
            (old.0, omega (arith, longer, old.1), old_place place old.0 old.1 old.2 (same_or_not old.0 at))
        whole place (inr is) = (
          at,
          omega (arith, longer, within),
          λ d. there place d (subst (λ (ps : List ℕ). Contains ps place) (sym (more d).places_are)
              (subst (Contains ((get_or gs at d).places.items ++ n ∷ [])) (sym is) (Contains-push (get_or gs at d).places.items n))),
        )

    pub found_still : (other : ℕ) (found : Option ℕ) → IsFoundAt gs other found → IsFoundAt (set gs at g) other found
    found_still other None none = λ k d lt e.
        (let low : k < length gs = omega (arith, lt, length-set gs at g) in none k d low (sym (spawn_stays k d (same_or_not k at)) ∙ e))
    found_still other (Some place) found =
        (omega (arith, found.0, length-set gs at g), λ d. spawn_stays place d (same_or_not place at) ∙ found.1 d)

-- ---- at first and at last

pub groups_first : (xs : List Race) → AreGroupsUpTo xs 0 []
groups_first xs = record {
  each = λ k d lt. absurd (omega (arith, lt));
  whole = λ place lt. absurd (omega (arith, lt));
  apart = λ i j d lt within. absurd (omega (arith, within));
  rise = λ i j d lt within. absurd (omega (arith, within));
}

-- no race is in two groups
pub groups_last : (xs : List Race) (gs : List Group) → AreGroupsUpTo xs (length xs) gs → AreGroups xs gs
groups_last xs gs a = record { groups_are = a; once = λ i j d lt within place one other. once i j d lt within place one other }
  where
    spawn_of : (k : ℕ) (d : Group) → k < length gs → (place : ℕ) → Contains (get_or gs k d).places.items place → (e : Race) →
        (get_or xs place e).pair.spawn ≡ (get_or gs k d).spawn
    spawn_of k d lt place c e =
        let is = a.each k d lt in
        let t = is.each c.0 place c.1 in
        ap (λ (p : ℕ). (get_or xs p e).pair.spawn) (sym c.2) ∙ t.1 e

    -- a race of no spawn is the first of its group
    first_alone : (k : ℕ) (d : Group) → k < length gs → (get_or gs k d).spawn ≡ None → (place : ℕ) → Contains (get_or gs k d).places.items place →
        first_of (get_or gs k d) ≡ place
    first_alone k d lt none place c =
        let is = a.each k d lt in
        let one = is.alone none in
        let at : c.0 ≡ 0 = omega (arith, c.1, one) in
        default (get_or gs k d).places.items 0 place is.some ∙ (ap (λ (i : ℕ). get_or (get_or gs k d).places.items i place) (sym at) ∙ c.2)
      where
        default : (ps : List ℕ) (u v : ℕ) → 0 < length ps → get_or ps 0 u ≡ get_or ps 0 v
        default [] u v some = absurd (omega (arith, some))
        default (p ∷ ps) u v some = refl

    once : (i j : ℕ) (d : Group) → i < j → j < length gs → (place : ℕ) → Contains (get_or gs i d).places.items place →
        Contains (get_or gs j d).places.items place → ⊥
    once i j d lt within place one other = by (get_or gs i d).spawn refl
      where
        low : i < length gs
        low = omega (arith, lt, within)

        race : (place < length xs) × ((e : Race) → (get_or xs place e).pair.spawn ≡ (get_or gs i d).spawn)
        race = let is = a.each i d low in let t = is.each one.0 place one.1 in
            (subst (λ (p : ℕ). p < length xs) one.2 t.0, λ e. spawn_of i d low place one e)

        same : (ys : List Race) → ys ≡ xs → (get_or gs i d).spawn ≡ (get_or gs j d).spawn
        same [] is = absurd (let none = ap length is in omega (arith, none, race.0))
        same (e ∷ ys) is = sym (race.1 e) ∙ spawn_of j d within place other e

        by : (spawn : Option ℕ) → (get_or gs i d).spawn ≡ spawn → ⊥
        by None none =
            let first = first_alone i d low none place one in
            let second = first_alone j d within (sym (same xs refl) ∙ none) place other in
            let less = a.rise i j d lt within in
            omega (arith, first, second, less)
        by (Some line) is = a.apart i j d lt within line is (sym (same xs refl) ∙ is)

-- ---- what the functions add

pub line_joined : {S : Type 0} (known : HashMap ℕ ℕ S) (gs new : List Group) (line at n : ℕ) → AreFound known gs → get eqb known line ≡ Some at →
    IsPlaceMore at n gs new → (xs : List Race) → AreGroupsUpTo xs n gs → IsOfSpawn xs (Some line) n → AreFound known new × AreGroupsUpTo xs (suc n) new
line_joined known gs new line at n found is (g, within, more, new_is) xs a of =
    let here = subst (IsFoundAt gs line) is (found line) in (
      λ other. subst (λ (ys : List Group). IsFoundAt ys other (get eqb known other)) (sym new_is)
          (found_still xs n gs a line of at g within here.1 more other (get eqb known other) (found other)),
      subst (AreGroupsUpTo xs (suc n)) (sym new_is) (groups_joined xs n gs a line of at g within here.1 more),
    )

pub line_begun : {S : Type 0} (old new : HashMap ℕ ℕ S) (gs longer : List Group) (line n count : ℕ) → AreFound old gs → get eqb old line ≡ None →
    count ≡ length gs → ((q : ℕ) → get eqb new q ≡ cond (eqb line q) (Some count) (get eqb old q)) → IsGroupMore (Some line) n gs longer →
    (xs : List Race) → AreGroupsUpTo xs n gs → IsOfSpawn xs (Some line) n → AreFound new longer × AreGroupsUpTo xs (suc n) longer
line_begun old new gs longer line n count found is count_is grown (g, spawn_is, places_are, longer_is) xs a of = (
  λ other. subst (λ (ys : List Group). IsFoundAt ys other (get eqb new other)) (sym longer_is) (at other (eqb_tells line other)),
  subst (AreGroupsUpTo xs (suc n)) (sym longer_is) (groups_begun xs n gs a (Some line) of fresh g spawn_is places_are),
)
  where
    none : All (λ (x : Group). x.spawn ≡ Some line → ⊥) gs
    none = subst (IsFoundAt gs line) is (found line)

    fresh : (other : ℕ) → Some line ≡ Some other → All (λ (x : Group). x.spawn ≡ Some other → ⊥) gs
    fresh other e = let same : line ≡ other = cc in subst (λ (l : ℕ). All (λ (x : Group). x.spawn ≡ Some l → ⊥) gs) same none

    at : (other : ℕ) → ((eqb line other ≡ true) × (line ≡ other)) ⊎ ((eqb line other ≡ false) × (line ≢ other)) → IsFoundAt (gs ++ g ∷ []) other (get eqb new other)
    at other (inl t) =
        subst (IsFoundAt (gs ++ g ∷ []) other)
        (sym (grown other ∙ (ap (λ b. cond b (Some count) (get eqb old other)) t.0 ∙ ap Some count_is)))
        (found_here xs n gs a (Some line) of fresh g spawn_is places_are other (ap Some t.1))
    at other (inr t) =
        subst (IsFoundAt (gs ++ g ∷ []) other)
        (sym (grown other ∙ ap (λ b. cond b (Some count) (get eqb old other)) t.0))
        (found_old xs n gs a (Some line) of fresh g spawn_is places_are other (get eqb old other) (λ e. t.1 (cc)) (found other))

pub none_begun : {S : Type 0} (known : HashMap ℕ ℕ S) (gs longer : List Group) (n : ℕ) → AreFound known gs → IsGroupMore None n gs longer →
    (xs : List Race) → AreGroupsUpTo xs n gs → IsOfSpawn xs None n → AreFound known longer × AreGroupsUpTo xs (suc n) longer
none_begun known gs longer n found (g, spawn_is, places_are, longer_is) xs a of = (
  λ other. subst (λ (ys : List Group). IsFoundAt ys other (get eqb known other)) (sym longer_is)
      (found_old xs n gs a None of fresh g spawn_is places_are other (get eqb known other) (λ e. none_some e) (found other)),
  subst (AreGroupsUpTo xs (suc n)) (sym longer_is) (groups_begun xs n gs a None of fresh g spawn_is places_are),
)
  where
    none_some : {x : ℕ} → None ≡ Some x → ⊥
    none_some e = cc

    fresh : (line : ℕ) → None ≡ Some line → All (λ (x : Group). x.spawn ≡ Some line → ⊥) gs
    fresh line e = absurd (none_some e)

pub placed_at : (at place : ℕ) (old : List Group) (one more : Group) → at < length old → HasOneMore place (get_or old at one) more →
    IsPlaceMore at place old (slice_set old at more)
placed_at at place old one more lt has = (more, lt, λ d. subst (λ (g : Group). HasOneMore place g more) (any_group old at one d lt) has, refl)

pub groups_at_first : (xs : List Race) (gs : List Group) → gs ≡ [] → AreGroupsUpTo xs 0 gs
groups_at_first xs gs is = subst (AreGroupsUpTo xs 0) (sym is) (groups_first xs)

pub found_first : {S : Type 0} (known : HashMap ℕ ℕ S) (gs : List Group) → known.entries ≡ [] → gs ≡ [] → AreFound known gs
found_first known gs none no_groups line =
    let nothing : get eqb known line ≡ None = ap (lookup (eqb line)) none in
    subst (IsFoundAt gs line) (sym nothing) (subst (All (λ (x : Group). x.spawn ≡ Some line → ⊥)) (sym no_groups) (λ k d lt. absurd (omega (arith, lt))))

race_default : (xs : List Race) (i : ℕ) (d e : Race) → i < length xs → get_or xs i d ≡ get_or xs i e
race_default [] i d e lt = absurd (omega (arith, lt))
race_default (x ∷ xs) zero d e lt = refl
race_default (x ∷ xs) (suc i) d e lt = race_default xs i d e (omega (arith, lt))

pub of_spawn : (xs : List Race) (place : ℕ) (race : Race) → place < length xs → race ≡ get_or xs place race → IsOfSpawn xs race.pair.spawn place
of_spawn xs place race lt is = (lt, λ d. ap (λ (r : Race). r.pair.spawn) (race_default xs place d race lt ∙ sym is))

pub up_one : (xs : List Race) (n : ℕ) (gs : List Group) → AreGroupsUpTo xs (suc n) gs → AreGroupsUpTo xs (n + 1) gs
up_one xs n gs a = let is : suc n ≡ n + 1 = omega arith in subst (λ (m : ℕ). AreGroupsUpTo xs m gs) is a

-- all races are grouped: no group has a place at or behind the end
pub groups_at_last : (xs : List Race) (n : ℕ) (gs : List Group) → AreGroupsUpTo xs n gs → length xs ≤ n → AreGroups xs gs
groups_at_last xs n gs a end = groups_last xs gs (record {
  each = λ k d lt. at_end (get_or gs k d) (a.each k d lt);
  whole = λ place lt. a.whole place (omega (arith, lt, end));
  apart = a.apart;
  rise = a.rise;
})
  where
    at_end : (g : Group) → IsGroup xs n g → IsGroup xs (length xs) g
    at_end g is = record {
      some = is.some;
      each = is.each;
      below = λ k d lt. (is.each k d lt).0;
      rise = is.rise;
      alone = is.alone;
    }
