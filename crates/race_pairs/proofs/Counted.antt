-- The pairs of lines as the entries go on.
use Rattle.std.proofs.Common.{◌≡◌, ◌≢◌, ◌⊎◌, inl, inr, ℕ, zero, suc, ◌<◌, ◌≤◌, List, [], ◌∷◌, ◌++◌, length, get_or, set, map, Option, Some, None, refl, sym, ap, ◌∙◌, subst, arith}
use Rattle.std.specs.List.{Contains}
use Rattle.std.specs.Option.{option_map}
use Rattle.std.proofs.Math.Seq.{map-set_same}
use Rattle.std.proofs.lemmas.List.{map-append, get_or-map, get_or-set_same, get_or-set_other, length-set, length-map}
use Rattle.std.proofs.lemmas.List.Elements.{All-push, Contains-get_or}
use Rattle.law_strands.proofs.Updates.{same_or_not}
use Rattle.law_strands.proofs.Places.{below_or_beyond}
use Rattle.model_histories.specs.declared.answer.Entry.{Entry}
use Rattle.race_pairs.specs.declared.refusal.Lines.{Lines}
use Rattle.race_pairs.specs.declared.refusal.Refusal.{Refusal}
use Rattle.race_pairs.specs.declared.race.Pair.{Pair}
use Rattle.race_pairs.specs.declared.race.PairKey.{PairKey}
use Rattle.race_pairs.specs.Refusals.{refusal_at, lines_of, lines_at, HasLines}
use Rattle.race_pairs.specs.Firsts.{IsFirst, AreFirsts, hit, miss}
use Rattle.race_pairs.specs.PairKeys.{HasSpawn, HasKey, key_of}
use Rattle.race_pairs.specs.Pairs.{IsPair, ArePairsUpTo}
use Rattle.race_pairs.proofs.Firsts.{firsts_same, firsts_more, one_first, no_first, tells_never}

-- the lines of a refusal
pub told_lines : (told : List Entry) (number : ℕ) (refusal : Refusal) → refusal_at told number ≡ Some refusal → HasLines told number (lines_of told refusal)
told_lines told number refusal e = ap (option_map (lines_of told)) e

pub no_lines : (told : List Entry) (number : ℕ) → refusal_at told number ≡ None → (lines : Lines) → HasLines told number lines → ⊥
no_lines told number e lines h = absurd (let none : lines_at told number ≡ None = ap (option_map (lines_of told)) e in cc)

pub single_lines : (told : List Entry) (number : ℕ) (one other : Lines) → HasLines told number one → HasLines told number other → one ≡ other
single_lines told number one other e f = cc

pub no_key : (told : List Entry) (number : ℕ) → refusal_at told number ≡ None → (key : PairKey) → HasKey told number key → ⊥
no_key told number none key h = no_lines told number none key.lines h.0

-- each of the entries up to one has at most one key
abbrev pub IsSingle : List Entry → ℕ → Type 0
IsSingle told bound = (number : ℕ) → number ≤ bound → (one other : PairKey) → HasKey told number one → HasKey told number other → one ≡ other

first_of_pair : (told : List Entry) (last : ℕ) (pair : Pair) → IsPair told last pair → HasKey told pair.first (key_of pair)
first_of_pair told last pair p = (told_lines told pair.first p.refusal p.refused ∙ ap Some (sym p.has_lines), p.has_spawn)

-- One more entry.

pair_missed : (told : List Entry) (last : ℕ) (pair : Pair) → (HasKey told (suc last) (key_of pair) → ⊥) → IsPair told last pair → IsPair told (suc last) pair
pair_missed told last pair not p = record {
  refusal = p.refusal;
  refused = p.refused;
  has_lines = p.has_lines;
  has_spawn = p.has_spawn;
  has_witness = p.has_witness;
  counts = miss p.counts not;
}

pair_hit : (told : List Entry) (last : ℕ) (pair : Pair) → HasKey told (suc last) (key_of pair) → IsPair told last pair →
    IsPair told (suc last) (record pair { times = suc pair.times })
pair_hit told last pair has p = record {
  refusal = p.refusal;
  refused = p.refused;
  has_lines = p.has_lines;
  has_spawn = p.has_spawn;
  has_witness = p.has_witness;
  counts = hit p.counts has;
}

pub up_none : (told : List Entry) (last : ℕ) (pairs : List Pair) → ((key : PairKey) → HasKey told (suc last) key → ⊥) → ArePairsUpTo told last pairs →
    ArePairsUpTo told (suc last) pairs
up_none told last pairs not up = record {
  firsts = firsts_same (HasKey told) last _ (λ first. not first.0 first.1) up.firsts;
  each = λ k d lt. pair_missed told last (get_or pairs k d) (not (key_of (get_or pairs k d))) (up.each k d lt);
}

firsts_at : (pairs : List Pair) (k : ℕ) (d : Pair) → k < length pairs → get_or (map (λ pair. pair.first) pairs) k d.first ≡ (get_or pairs k d).first
firsts_at pairs k d lt = get_or-map (λ (pair : Pair). pair.first) pairs k d d.first lt

is_first : (told : List Entry) (last : ℕ) (pairs : List Pair) → ArePairsUpTo told last pairs → (k : ℕ) (d : Pair) → k < length pairs →
    ((get_or pairs k d).first ≤ last) × IsFirst (HasKey told) (get_or pairs k d).first
is_first told last pairs up k d lt =
    let within : k < length (map (λ (pair : Pair). pair.first) pairs) = omega (arith, length-map pairs (λ (pair : Pair). pair.first)) in
    (up.firsts.each (get_or pairs k d).first).0
    (subst (Contains (map (λ (pair : Pair). pair.first) pairs)) (firsts_at pairs k d lt) (Contains-get_or (map (λ (pair : Pair). pair.first) pairs) k d.first within))

pub first_within : (told : List Entry) (last : ℕ) (pairs : List Pair) → ArePairsUpTo told last pairs → (k : ℕ) (d : Pair) → k < length pairs →
    ((get_or pairs k d).first ≤ last) × HasKey told (get_or pairs k d).first (key_of (get_or pairs k d))
first_within told last pairs up k d lt = ((is_first told last pairs up k d lt).0, first_of_pair told last (get_or pairs k d) (up.each k d lt))

-- two pairs have not the same key
pub apart : (told : List Entry) (last : ℕ) (pairs : List Pair) → IsSingle told last → ArePairsUpTo told last pairs → (i j : ℕ) (d : Pair) →
    i < length pairs → j < length pairs → key_of (get_or pairs i d) ≡ key_of (get_or pairs j d) → i ≡ j
apart told last pairs single up i j d li lj e = go (below_or_beyond i j) (below_or_beyond j i)
  where
    firsts : List ℕ
    firsts = map (λ (pair : Pair). pair.first) pairs

    same : (get_or pairs i d).first ≡ (get_or pairs j d).first
    same = one_first (HasKey told) last single (get_or pairs i d).first (get_or pairs j d).first (key_of (get_or pairs j d))
        (is_first told last pairs up i d li).0 (is_first told last pairs up j d lj).0
        (is_first told last pairs up i d li).1 (is_first told last pairs up j d lj).1
        (subst (HasKey told (get_or pairs i d).first) e (first_of_pair told last (get_or pairs i d) (up.each i d li)))
        (first_of_pair told last (get_or pairs j d) (up.each j d lj))

    less : (m n : ℕ) → m < n → m < length pairs → n < length pairs → (get_or pairs m d).first < (get_or pairs n d).first
    less m n lt lm ln =
        let within : n < length firsts = omega (arith, length-map pairs (λ (pair : Pair). pair.first)) in
        let rises : get_or firsts m d.first < get_or firsts n d.first = up.firsts.rise m n d.first lt within in
        let at_m = firsts_at pairs m d lm in
        let at_n = firsts_at pairs n d ln in omega arith

    go : (i < j) ⊎ (j ≤ i) → (j < i) ⊎ (i ≤ j) → i ≡ j
    go (inl lt) other = absurd (let rises = less i j lt li lj in omega (arith, same))
    go (inr ge) (inl lt) = absurd (let rises = less j i lt lj li in omega (arith, same))
    go (inr ge) (inr le) = omega arith

pub any_default : (xs : List Pair) (i : ℕ) (d e : Pair) → i < length xs → get_or xs i d ≡ get_or xs i e
any_default [] i d e lt = absurd (omega arith)
any_default (x ∷ xs) zero d e lt = refl
any_default (x ∷ xs) (suc i) d e lt = let less : i < length xs = omega arith in any_default xs i d e less

-- a key that no pair has is no earlier refusal's
pub never_before : (told : List Entry) (last : ℕ) (pairs : List Pair) → IsSingle told last → ArePairsUpTo told last pairs → (key : PairKey) →
    ((k : ℕ) (d : Pair) → k < length pairs → key_of (get_or pairs k d) ≡ key → ⊥) → (d : Pair) → (number : ℕ) → number ≤ last →
    HasKey told number key → ⊥
never_before told last pairs single up key none d = no_first (HasKey told) last (map (λ (pair : Pair). pair.first) pairs) up.firsts key at
  where
    at : (number : ℕ) → Contains (map (λ (pair : Pair). pair.first) pairs) number → HasKey told number key → ⊥
    at number c h =
        let within : c.0 < length pairs = omega (arith, c.1, length-map pairs (λ (pair : Pair). pair.first)) in
        let here : (get_or pairs c.0 d).first ≡ number =
        sym (get_or-map (λ (pair : Pair). pair.first) pairs c.0 d number within) ∙ c.2 in
        let t = first_within told last pairs up c.0 d within in
        let le : number ≤ last = omega (arith, here, t.0) in
        none c.0 d within
        (single number le (key_of (get_or pairs c.0 d)) key
        (subst (λ (n : ℕ). HasKey told n (key_of (get_or pairs c.0 d))) here t.1) h)

pub up_hit : (told : List Entry) (last : ℕ) (pairs : List Pair) → IsSingle told (suc last) → (place : ℕ) (d : Pair) → place < length pairs →
    HasKey told (suc last) (key_of (get_or pairs place d)) → ArePairsUpTo told last pairs → (more : Pair) →
    more ≡ record (get_or pairs place d) { times = suc (get_or pairs place d).times } → ArePairsUpTo told (suc last) (set pairs place more)
up_hit told last pairs single place d within has up more is = record {
  firsts = subst (AreFirsts (HasKey told) (suc last)) (sym same) (firsts_same (HasKey told) last _ not_first up.firsts);
  each = λ k e lt. (let below : k < length pairs = omega (arith, length-set pairs place more) in at k e below (same_or_not k place));
}
  where
    here : suc last ≤ suc last
    here = omega arith

    earlier : IsSingle told last
    earlier number le one other = single number (omega (arith, le)) one other

    same : map (λ (pair : Pair). pair.first) (set pairs place more) ≡ map (λ (pair : Pair). pair.first) pairs
    same = map-set_same (λ (pair : Pair). pair.first) pairs place more d (ap (λ (pair : Pair). pair.first) is)

    not_first : IsFirst (HasKey told) (suc last) → ⊥
    not_first first =
        let t = is_first told last pairs up place d within in
        let le = t.0 in
        let lt : (get_or pairs place d).first < suc last = omega arith in
        first.2 (get_or pairs place d).first lt
        (subst (HasKey told (get_or pairs place d).first) (single (suc last) here (key_of (get_or pairs place d)) first.0 has first.1)
        (first_of_pair told last (get_or pairs place d) (up.each place d within)))

    at : (k : ℕ) (e : Pair) → k < length pairs → (k ≡ place) ⊎ (k ≢ place) → IsPair told (suc last) (get_or (set pairs place more) k e)
    at k e below (inl where_is) =
        subst (λ (n : ℕ). IsPair told (suc last) (get_or (set pairs place more) n e)) (sym where_is)
        (subst (IsPair told (suc last)) (sym (get_or-set_same pairs place more e within ∙ is)) (pair_hit told last (get_or pairs place d) has (up.each place d within)))
    at k e below (inr there) =
        subst (IsPair told (suc last)) (sym (get_or-set_other pairs place k more e there))
        (pair_missed told last (get_or pairs k e) (λ h. there (apart told last pairs earlier up k place e below within
        (single (suc last) here (key_of (get_or pairs k e)) (key_of (get_or pairs place e)) h
        (subst (λ (pair : Pair). HasKey told (suc last) (key_of pair)) (any_default pairs place d e within) has)))) (up.each k e below))

-- the pair that a refusal begins
abbrev pub first_pair : List Entry → Refusal → Option ℕ → ℕ → Pair
first_pair told refusal spawn number =
    record { lines = lines_of told refusal; spawn = spawn; first = number; witness = refusal.witness; times = 1 }

pub up_new : (told : List Entry) (last : ℕ) (pairs : List Pair) → IsSingle told (suc last) → (refusal : Refusal) (spawn : Option ℕ) →
    refusal_at told (suc last) ≡ Some refusal → HasSpawn told (suc last) spawn →
    ((number : ℕ) → number ≤ last → HasKey told number (record { lines = lines_of told refusal; spawn = spawn }) → ⊥) → ArePairsUpTo told last pairs →
    (more : Pair) → more ≡ first_pair told refusal spawn (suc last) → ArePairsUpTo told (suc last) (pairs ++ (more ∷ []))
up_new told last pairs single refusal spawn refused parts never up more is = record {
  firsts = subst (AreFirsts (HasKey told) (suc last)) (sym grown) (firsts_more (HasKey told) last _ first up.firsts);
  each = All-push (IsPair told (suc last)) pairs more
      (λ k d lt. pair_missed told last (get_or pairs k d) (old k d lt) (up.each k d lt))
      (subst (IsPair told (suc last)) (sym is) new);
}
  where
    has : HasKey told (suc last) (record { lines = lines_of told refusal; spawn = spawn })
    has = (told_lines told (suc last) refusal refused, parts)

    first : IsFirst (HasKey told) (suc last)
    first = (record { lines = lines_of told refusal; spawn = spawn }, has, λ earlier lt h. (let le : earlier ≤ last = omega arith in never earlier le h))

    grown : map (λ (pair : Pair). pair.first) (pairs ++ (more ∷ [])) ≡ map (λ (pair : Pair). pair.first) pairs ++ (suc last ∷ [])
    grown = map-append (λ (pair : Pair). pair.first) pairs (more ∷ []) ∙
        ap (λ (n : ℕ). map (λ (pair : Pair). pair.first) pairs ++ (n ∷ [])) (ap (λ (pair : Pair). pair.first) is)

    old : (k : ℕ) (d : Pair) → k < length pairs → HasKey told (suc last) (key_of (get_or pairs k d)) → ⊥
    old k d lt h =
        let t = is_first told last pairs up k d lt in
        never (get_or pairs k d).first t.0
        (subst (HasKey told (get_or pairs k d).first) (single (suc last) (omega arith) (key_of (get_or pairs k d)) (record { lines = lines_of told refusal; spawn = spawn }) h has)
        (first_of_pair told last (get_or pairs k d) (up.each k d lt)))

    new : IsPair told (suc last) (first_pair told refusal spawn (suc last))
    new = record {
      refusal = refusal;
      refused = refused;
      has_lines = refl;
      has_spawn = parts;
      has_witness = refl;
      counts = hit (tells_never (HasKey told) (record { lines = lines_of told refusal; spawn = spawn }) last never) has;
    }
