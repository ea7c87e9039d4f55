-- The places of a pair as the entries go on.
use Rattle.std.proofs.Common.{◌≡◌, ◌≢◌, ◌⊎◌, inl, inr, ℕ, suc, ◌<◌, ◌≤◌, Bool, true, false, cond, eqb, List, [], ◌∷◌, ◌++◌, sym, ap, ◌∙◌, subst, arith}
use Rattle.std.specs.List.{list_any}
use Rattle.std.proofs.lemmas.Bool.{false≢true}
use Rattle.std.proofs.lemmas.Bool.Decides.{eqb_tells}
use Rattle.std.proofs.lemmas.List.Elements.{AllZip-push}
use Rattle.law_strands.proofs.Places.{below_or_beyond}
use Rattle.model_histories.specs.declared.answer.Entry.{Entry}
use Rattle.race_pairs.specs.declared.race.PairKey.{PairKey}
use Rattle.race_pairs.specs.declared.refusal.Refusal.{Refusal}
use Rattle.race_pairs.specs.Firsts.{IsFirst}
use Rattle.race_pairs.specs.Places.{HasPlace, IsPlaced}
use Rattle.race_pairs.proofs.Firsts.{firsts_same, firsts_more}

single_place : (told : List Entry) (key : PairKey) (number one other : ℕ) → HasPlace told key number one → HasPlace told key number other → one ≡ other
single_place told key number one other h k =
    let first = h.1 in
    let second = k.1 in
    let same : h.0 ≡ k.0 = cc in
    sym h.3 ∙ (ap (λ (r : Refusal). r.place) same ∙ k.3)

reached : (number last : ℕ) → number ≤ suc last → (number ≤ last) ⊎ (number ≡ suc last)
reached number last le = go (below_or_beyond number (suc last))
  where
    go : (number < suc last) ⊎ (suc last ≤ number) → (number ≤ last) ⊎ (number ≡ suc last)
    go (inl lt) = inl (omega arith)
    go (inr ge) = inr (omega arith)

pub placed_none : (told : List Entry) (key : PairKey) (last : ℕ) (places seen : List ℕ) → ((place : ℕ) → HasPlace told key (suc last) place → ⊥) →
    IsPlaced told key last places seen → IsPlaced told key (suc last) places seen
placed_none told key last places seen never_here p = record {
  placed = record {
    numbers = p.placed.numbers;
    firsts = firsts_same (HasPlace told key) last p.placed.numbers (λ first. never_here first.0 first.1) p.placed.firsts;
    each = p.placed.each;
  };
  has = λ place e. (let old = p.has place e in let le = old.1 in let more : old.0 ≤ suc last = omega arith in (old.0, more, old.2));
  misses = λ place e number le h. elim (reached number last le) [
    | inl old ↦ p.misses place e number old h
    | inr new ↦ never_here place (subst (λ (n : ℕ). HasPlace told key n place) new h)
  ];
}

-- what the set has and misses with one place more
module _ (told : List Entry) (key : PairKey) (last : ℕ) (places seen more : List ℕ) (place : ℕ) (at : HasPlace told key (suc last) place)
    (grown : (other : ℕ) → list_any (eqb other) more ≡ cond (eqb place other) true (list_any (eqb other) seen))
    (p : IsPlaced told key last places seen)
  where
    has_more : (other : ℕ) → list_any (eqb other) more ≡ true → (number : ℕ) × (number ≤ suc last) × HasPlace told key number other
    has_more other e = go (eqb_tells place other)
      where
        go : ((eqb place other ≡ true) × (place ≡ other)) ⊎ ((eqb place other ≡ false) × (place ≢ other)) →
            (number : ℕ) × (number ≤ suc last) × HasPlace told key number other
        go (inl t) = let le : suc last ≤ suc last = omega arith in (suc last, le, subst (HasPlace told key (suc last)) t.1 at)
        go (inr t) =
            let old = p.has other (ap (λ (b : Bool). cond b true (list_any (eqb other) seen)) (sym t.0) ∙ (sym (grown other) ∙ e)) in
            let le = old.1 in let wider : old.0 ≤ suc last = omega arith in (old.0, wider, old.2)

    misses_more : (other : ℕ) → list_any (eqb other) more ≡ false → (number : ℕ) → number ≤ suc last → HasPlace told key number other → ⊥
    misses_more other e number le h = go (eqb_tells place other) (reached number last le)
      where
        go : ((eqb place other ≡ true) × (place ≡ other)) ⊎ ((eqb place other ≡ false) × (place ≢ other)) → (number ≤ last) ⊎ (number ≡ suc last) → ⊥
        go (inl t) where_is =
            let there : true ≡ false = ap (λ (b : Bool). cond b true (list_any (eqb other) seen)) (sym t.0) ∙ (sym (grown other) ∙ e) in
            false≢true (sym there)
        go (inr t) (inl old) =
            p.misses other (ap (λ (b : Bool). cond b true (list_any (eqb other) seen)) (sym t.0) ∙ (sym (grown other) ∙ e)) number old h
        go (inr t) (inr new) = t.1 (single_place told key (suc last) place other at (subst (λ (n : ℕ). HasPlace told key n other) new h))

    pub placed_old : list_any (eqb place) seen ≡ true → IsPlaced told key (suc last) places more
    placed_old known = record {
      placed = record {
        numbers = p.placed.numbers;
        firsts = firsts_same (HasPlace told key) last p.placed.numbers not_first p.placed.firsts;
        each = p.placed.each;
      };
      has = has_more;
      misses = misses_more;
    }
      where
        not_first : IsFirst (HasPlace told key) (suc last) → ⊥
        not_first first =
            let old = p.has place known in
            let le = old.1 in
            let lt : old.0 < suc last = omega arith in
            first.2 old.0 lt (subst (HasPlace told key old.0) (single_place told key (suc last) place first.0 at first.1) old.2)

    pub placed_new : list_any (eqb place) seen ≡ false → IsPlaced told key (suc last) (places ++ (place ∷ [])) more
    placed_new missing = record {
      placed = record {
        numbers = p.placed.numbers ++ (suc last ∷ []);
        firsts = firsts_more (HasPlace told key) last p.placed.numbers
            (place, at, λ earlier lt h. (let le : earlier ≤ last = omega arith in p.misses place missing earlier le h)) p.placed.firsts;
        each = AllZip-push (HasPlace told key) p.placed.numbers places (suc last) place p.placed.each at;
      };
      has = has_more;
      misses = misses_more;
    }

-- no place yet
pub placed_never : (told : List Entry) (key : PairKey) (last : ℕ) → ((number place : ℕ) → number ≤ last → HasPlace told key number place → ⊥) →
    IsPlaced told key last [] []
placed_never told key last never = record {
  placed = record {
    numbers = [];
    firsts = record {
      rise = λ i j d lt within. absurd (omega (arith, within));
      each = λ number. (λ c. absurd (omega (arith, c.1)), λ t. absurd (never number t.1.0 t.0 t.1.1));
    };
    each = tt;
  };
  has = λ place e. absurd (false≢true e);
  misses = λ place e number le h. never number place le h;
}
