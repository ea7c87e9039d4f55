-- What is known of all pairs, as refusals come.
use Rattle.std.proofs.Common.{◌≡◌, ◌≢◌, ◌⊎◌, inl, inr, ℕ, zero, suc, ◌+◌, ◌<◌, ◌≤◌, true, false, cond, List, [], ◌∷◌, ◌++◌, length, get_or, set, take, Option, Some, None, refl, sym, ap, ◌∙◌, subst, arith}
use Rattle.std.specs.Prelude.{MatchOption, is_some, slice_set, if◌then◌else◌}
use Rattle.std.specs.HashMap.{HashMap, get, hash_map_len}
use Rattle.std.specs.Map.{lookup}
use Rattle.std.proofs.Math.Seq.{get_or-append_seam}
use Rattle.std.proofs.Math.ListN.{get_or-append}
use Rattle.std.proofs.lemmas.Bool.{cases_Bool, false≢true}
use Rattle.std.proofs.lemmas.List.{length_push, length-set, get_or-set_same, get_or-set_other}
use Rattle.std.proofs.lemmas.List.Elements.{All-push}
use Rattle.law_strands.proofs.Updates.{same_or_not}
use Rattle.model_histories.specs.declared.answer.Entry.{Entry}
use Rattle.race_pairs.specs.declared.race.Pair.{Pair}
use Rattle.race_pairs.specs.declared.race.PairKey.{PairKey}
use Rattle.race_pairs.specs.declared.race.Race.{Race}
use Rattle.race_pairs.specs.declared.races.Races.{Races}
use Rattle.race_pairs.specs.declared.sighting.Sighting.{Sighting}
use Rattle.race_pairs.specs.declared.known.Known.{Known}
use Rattle.race_pairs.specs.declared.known.Known.TheVariants.{Own, Among}
use Rattle.race_pairs.specs.contracts.race.PairKeyPartialEq.TheImpl.{eq-value}
use Rattle.race_pairs.specs.Refusals.{refusal_at, HasLines}
use Rattle.race_pairs.specs.PairKeys.{HasSpawn, key_of}
use Rattle.race_pairs.specs.Races.{HasAgain, IsCounted, IsBegun}
use Rattle.race_pairs.specs.Lineages.{Kept}
use Rattle.race_pairs.specs.Known.{has_own, known_count, IsNewKey, IsKeyAt, Knows}
use Rattle.race_pairs.specs.Kept.{AreRaces, AreKept, IsFresh, IsSeen}
use Rattle.race_pairs.proofs.Counted.{any_default, first_within}
use Rattle.race_pairs.proofs.Grown.{counted_more, begun_more, none_more, no_races, times_below}
use Rattle.race_pairs.proofs.Same.{same_keys, keys_same}
use Rattle.race_pairs.proofs.SpawnLines.{single_keys, some_line}

-- ---- how many are known

pub knows_count : (known : Known) (pairs : List Pair) → Knows known pairs → known_count known ≡ length pairs
knows_count (Own count) pairs e = e
knows_count (Among all) pairs e = e.0

pub count_below : (told : List Entry) (last : ℕ) (races : Races) → AreKept told last races → known_count races.known ≤ last
count_below told last races k = subst (λ (n : ℕ). n ≤ last) (sym (knows_count races.known k.pairs k.knows)) k.few

-- ---- one pair more

pub own_more : (count : ℕ) (pairs : List Pair) (pair : Pair) → count ≡ length pairs → count + 1 ≡ length (pairs ++ pair ∷ [])
own_more count pairs pair e = omega (arith, e, length_push pairs pair)

-- a map that has the pair's key at its end
pub among_more : (all more : PairKey → Option ℕ) (key : PairKey) (pairs : List Pair) (pair : Pair) →
    ((other : PairKey) → MatchOption (all other) (IsNewKey other pairs) (IsKeyAt other pairs)) → key_of pair ≡ key →
    ((other : PairKey) → more other ≡ cond (eq-value.it key other) (Some (length pairs)) (all other)) →
    (other : PairKey) → MatchOption (more other) (IsNewKey other (pairs ++ pair ∷ [])) (IsKeyAt other (pairs ++ pair ∷ []))
among_more all more key pairs pair knows is grown other = go (cases_Bool (eq-value.it key other))
  where
    longer : length (pairs ++ pair ∷ []) ≡ length pairs + 1
    longer = length_push pairs pair

    old : (found : Option ℕ) → (eq-value.it key other ≡ false) → MatchOption found (IsNewKey other pairs) (IsKeyAt other pairs) →
        MatchOption found (IsNewKey other (pairs ++ pair ∷ [])) (IsKeyAt other (pairs ++ pair ∷ []))
    old None differ fresh =
        All-push (λ (p : Pair). key_of p ≡ other → ⊥) pairs pair fresh (λ same. false≢true (sym differ ∙ keys_same key other (sym is ∙ same)))
    old (Some before) differ at = (omega (arith, longer, at.0), λ d. ap (λ (p : Pair). key_of p) (get_or-append pairs (pair ∷ []) d before at.0) ∙ at.1 d)

    go : (eq-value.it key other ≡ true) ⊎ (eq-value.it key other ≡ false) →
        MatchOption (more other) (IsNewKey other (pairs ++ pair ∷ [])) (IsKeyAt other (pairs ++ pair ∷ []))
    go (inl same) =
        let here : more other ≡ Some (length pairs) = grown other ∙ ap (λ b. cond b (Some (length pairs)) (all other)) same in
        subst (λ (found : Option ℕ). MatchOption found (IsNewKey other (pairs ++ pair ∷ [])) (IsKeyAt other (pairs ++ pair ∷ []))) (sym here)
        (omega (arith, longer), λ d. ap (λ (p : Pair). key_of p) (get_or-append_seam pairs pair [] d) ∙ (is ∙ same_keys key other same))
    go (inr differ) =
        let here : more other ≡ all other = grown other ∙ ap (λ b. cond b (Some (length pairs)) (all other)) differ in
        subst (λ (found : Option ℕ). MatchOption found (IsNewKey other (pairs ++ pair ∷ [])) (IsKeyAt other (pairs ++ pair ∷ []))) (sym here)
        (old (all other) differ (knows other))

-- a map with one key more
pub among_added : {S : Type 0} (old new : HashMap PairKey ℕ S) (key : PairKey) (pairs : List Pair) (pair : Pair) (before : ℕ) (found : Option ℕ) →
    (hash_map_len old ≡ length pairs) × ((other : PairKey) → MatchOption (get eq-value.it old other) (IsNewKey other pairs) (IsKeyAt other pairs)) →
    IsNewKey key pairs → key_of pair ≡ key → before ≡ hash_map_len old →
    ((q : PairKey) → get eq-value.it new q ≡ cond (eq-value.it key q) (Some before) (get eq-value.it old q)) → found ≡ get eq-value.it old key →
    hash_map_len new ≡ hash_map_len old + (if is_some found then 0 else 1) →
    (hash_map_len new ≡ length (pairs ++ pair ∷ [])) ×
    ((other : PairKey) → MatchOption (get eq-value.it new other) (IsNewKey other (pairs ++ pair ∷ [])) (IsKeyAt other (pairs ++ pair ∷ [])))
among_added old new key pairs pair before found knows fresh is before_is grown found_is longer = (
  long found found_is longer,
  among_more (λ other. get eq-value.it old other) (λ other. get eq-value.it new other) key pairs pair knows.1 is
      (λ other. grown other ∙ ap (λ (n : ℕ). cond (eq-value.it key other) (Some n) (get eq-value.it old other)) (before_is ∙ knows.0)),
)
  where
    at_none : (value : Option ℕ) → MatchOption value (IsNewKey key pairs) (IsKeyAt key pairs) → value ≡ None
    at_none None t = refl
    at_none (Some at) t = absurd (fresh at pair t.0 (t.1 pair))

    long : (value : Option ℕ) → value ≡ get eq-value.it old key → hash_map_len new ≡ hash_map_len old + (if is_some value then 0 else 1) →
        hash_map_len new ≡ length (pairs ++ pair ∷ [])
    long None e more = let length_is = length_push pairs pair in omega (arith, more, knows.0, length_is)
    long (Some value) e more = absurd (some_none (e ∙ at_none (get eq-value.it old key) (knows.1 key)))
      where
        some_none : {x : ℕ} → Some x ≡ None → ⊥
        some_none f = cc

-- ---- a pair that is counted once more

module _ (pairs : List Pair) (before : ℕ) (d : Pair) (within : before < length pairs) where
  key_stays : (k : ℕ) (e : Pair) → (k ≡ before) ⊎ (k ≢ before) →
      key_of (get_or (set pairs before (record (get_or pairs before d) { times = suc (get_or pairs before d).times })) k e) ≡ key_of (get_or pairs k e)
  key_stays k e (inl is) =
      ap (λ (n : ℕ). key_of (get_or (set pairs before (record (get_or pairs before d) { times = suc (get_or pairs before d).times })) n e)) is ∙
      (ap (λ (p : Pair). key_of p) (get_or-set_same pairs before (record (get_or pairs before d) { times = suc (get_or pairs before d).times }) e within) ∙
      (ap (λ (p : Pair). key_of p) (any_default pairs before d e within) ∙ ap (λ (n : ℕ). key_of (get_or pairs n e)) (sym is)))
  key_stays k e (inr not) = ap (λ (p : Pair). key_of p) (get_or-set_other pairs before k (record (get_or pairs before d) { times = suc (get_or pairs before d).times }) e not)

  still : (key : PairKey) (found : Option ℕ) → MatchOption found (IsNewKey key pairs) (IsKeyAt key pairs) →
      MatchOption found (IsNewKey key (set pairs before (record (get_or pairs before d) { times = suc (get_or pairs before d).times })))
      (IsKeyAt key (set pairs before (record (get_or pairs before d) { times = suc (get_or pairs before d).times })))
  still key None fresh = λ k e lt same.
      (let low : k < length pairs = omega (arith, lt, length-set pairs before (record (get_or pairs before d) { times = suc (get_or pairs before d).times })) in
      fresh k e low (sym (key_stays k e (same_or_not k before)) ∙ same))
  still key (Some place) at = (
    omega (arith, at.0, length-set pairs before (record (get_or pairs before d) { times = suc (get_or pairs before d).times })),
    λ e. key_stays place e (same_or_not place before) ∙ at.1 e,
  )

  pub knows_again : (known : Known) → Knows known pairs → Knows known (set pairs before (record (get_or pairs before d) { times = suc (get_or pairs before d).times }))
  knows_again (Own count) e = e ∙ sym (length-set pairs before (record (get_or pairs before d) { times = suc (get_or pairs before d).times }))
  knows_again (Among all) e =
      (e.0 ∙ sym (length-set pairs before (record (get_or pairs before d) { times = suc (get_or pairs before d).times })), λ key. still key (get eq-value.it all key) (e.1 key))

-- ---- the races with one entry more

pub kept_none : (told : List Entry) (last : ℕ) (races : Races) → refusal_at told (suc last) ≡ None → AreKept told last races → AreKept told (suc last) races
kept_none told last races none k = record {
  pairs = k.pairs;
  knows = k.knows;
  few = (let few = k.few in omega arith);
  are = none_more told last races.most races.list.items k.pairs none k.are;
}

-- lines that are new make a new key
new_by_lines : (told : List Entry) (last most : ℕ) (list : List Race) (pairs : List Pair) (key : PairKey) → AreRaces told last most list pairs →
    IsFresh told last key.lines → IsNewKey key pairs
new_by_lines told last most list pairs key a fresh k d lt same =
    let t = first_within told last pairs a.are_pairs k d lt in
    fresh (get_or pairs k d).first t.0 (subst (HasLines told (get_or pairs k d).first) (ap (λ (x : PairKey). x.lines) same) t.1.0)

module _ (told : List Entry) (last : ℕ) (lineage : Kept) (lines : List ℕ) (sighting : Sighting) (seen : IsSeen told last lineage lines sighting)
    (old new : Races) (same_most : new.most ≡ old.most) (k : AreKept told last old)
  where
    any_pair : Pair
    any_pair = record { lines = sighting.lines; spawn = None; first = 0; witness = 0; times = 0 }

    pub kept_begun : (spawn : Option ℕ) → HasSpawn told (suc last) spawn →
        ((pair : Pair) → key_of pair ≡ record { lines = sighting.lines; spawn = spawn } → Knows new.known (k.pairs ++ pair ∷ [])) →
        IsNewKey (record { lines = sighting.lines; spawn = spawn }) k.pairs → IsBegun old.most sighting spawn old.list.items new.list.items →
        AreKept told (suc last) new
    kept_begun spawn parts adds fresh begun = record {
      pairs = k.pairs ++ record { lines = sighting.lines; spawn = spawn; first = suc last; witness = seen.sighting_is.refusal.witness; times = 1 } ∷ [];
      knows = adds (record { lines = sighting.lines; spawn = spawn; first = suc last; witness = seen.sighting_is.refusal.witness; times = 1 }) refl;
      few = (let few = k.few in
          let long = length_push k.pairs (record { lines = sighting.lines; spawn = spawn; first = suc last; witness = seen.sighting_is.refusal.witness; times = 1 }) in
          omega (arith, few, long));
      are = subst (λ (n : ℕ). AreRaces told (suc last) n new.list.items
          (k.pairs ++ record { lines = sighting.lines; spawn = spawn; first = suc last; witness = seen.sighting_is.refusal.witness; times = 1 } ∷ [])) (sym same_most)
          (begun_more told last sighting seen.sighting_is (single_keys told (suc last) seen.legal) spawn parts old.most old.list.items k.pairs k.are new.list.items fresh begun);
    }

    -- the key is new where the lines are
    pub new_key : (spawn : Option ℕ) → IsFresh told last sighting.lines → IsNewKey (record { lines = sighting.lines; spawn = spawn }) k.pairs
    new_key spawn fresh = new_by_lines told last old.most old.list.items k.pairs (record { lines = sighting.lines; spawn = spawn }) k.are fresh

    -- a pair that is not kept whole
    pub kept_passed : old.most ≤ length old.list.items → new.list.items ≡ old.list.items → IsFresh told last sighting.lines →
        ((pair : Pair) → Knows new.known (k.pairs ++ pair ∷ [])) → AreKept told (suc last) new
    kept_passed full same fresh adds =
        let t = some_line (take (suc last) told) seen.legal (suc last) in
        kept_begun t.0 t.1 (λ pair is. adds pair) (new_key t.0 fresh) (inl (full, same))

    pub kept_counted : (spawn : Option ℕ) → HasSpawn told (suc last) spawn → new.known ≡ old.known → (before : ℕ) →
        IsKeyAt (record { lines = sighting.lines; spawn = spawn }) k.pairs before → IsCounted before sighting.place old.list.items new.list.items →
        AreKept told (suc last) new
    kept_counted spawn parts same before at counted = record {
      pairs = set k.pairs before (record (get_or k.pairs before any_pair) { times = suc (get_or k.pairs before any_pair).times });
      knows = subst (λ (all : Known). Knows all (set k.pairs before (record (get_or k.pairs before any_pair) { times = suc (get_or k.pairs before any_pair).times })))
          (sym same) (knows_again k.pairs before any_pair at.0 old.known k.knows);
      few = (let few = k.few in
          omega (arith, few, length-set k.pairs before (record (get_or k.pairs before any_pair) { times = suc (get_or k.pairs before any_pair).times })));
      are = subst (λ (n : ℕ). AreRaces told (suc last) n new.list.items
          (set k.pairs before (record (get_or k.pairs before any_pair) { times = suc (get_or k.pairs before any_pair).times }))) (sym same_most)
          (counted_more told last sighting seen.sighting_is (single_keys told (suc last) seen.legal) spawn parts old.most old.list.items k.pairs k.are
          new.list.items before any_pair at counted);
    }

-- ---- at first

pub kept_first : (told : List Entry) (races : Races) → races.list.items ≡ [] → known_count races.known ≡ 0 → AreKept told 0 races
kept_first told races none count = record {
  pairs = [];
  knows = none_known races.known count;
  few = omega arith;
  are = no_races told races.most races.list.items none;
}
  where
    none_known : (known : Known) → known_count known ≡ 0 → Knows known []
    none_known (Own count) e = e
    none_known (Among all) e = (e, λ key. empty all.entries e key)
      where
        empty : (entries : List (PairKey × ℕ)) → length entries ≡ 0 → (key : PairKey) →
            MatchOption (lookup (eq-value.it key) entries) (IsNewKey key []) (IsKeyAt key [])
        empty [] e key = λ k d lt same. absurd (omega (arith, lt))
        empty (x ∷ entries) e key = absurd (omega (arith, e))

-- how often a kept race came
pub kept_times : (told : List Entry) (last : ℕ) (races : Races) → AreKept told last races → (k : ℕ) (d : Race) → k < length races.list.items →
    (get_or races.list.items k d).pair.times ≤ last
kept_times told last races kept k d lt = times_below told last races.most races.list.items kept.pairs kept.are k d lt

-- ---- counting in a list

race_default : (xs : List Race) (i : ℕ) (d e : Race) → i < length xs → get_or xs i d ≡ get_or xs i e
race_default [] i d e lt = absurd (omega arith)
race_default (x ∷ xs) zero d e lt = refl
race_default (x ∷ xs) (suc i) d e lt = let less : i < length xs = omega arith in race_default xs i d e less

pub counted_at : (before place : ℕ) (old : List Race) (one more : Race) → before < length old → HasAgain place (get_or old before one) more →
    IsCounted before place old (slice_set old before more)
counted_at before place old one more lt again =
    inr (more, lt, λ d. subst (λ (r : Race). HasAgain place r more) (race_default old before one d lt) again, refl)

-- ---- looking for a key

pub found_at : (known : Known) (pairs : List Pair) (key : PairKey) (found : Option ℕ) (before : ℕ) → (has_own known ≡ true → found ≡ None) →
    (has_own known ≡ false → (pairs : List Pair) → Knows known pairs → MatchOption found (IsNewKey key pairs) (IsKeyAt key pairs)) → found ≡ Some before →
    Knows known pairs → IsKeyAt key pairs before
found_at known pairs key found before own among is knows = go (cases_Bool (has_own known))
  where
    some_none : {x : ℕ} → Some x ≡ None → ⊥
    some_none f = cc

    go : (has_own known ≡ true) ⊎ (has_own known ≡ false) → IsKeyAt key pairs before
    go (inl e) = absurd (some_none (sym is ∙ own e))
    go (inr e) = subst (λ (o : Option ℕ). MatchOption o (IsNewKey key pairs) (IsKeyAt key pairs)) is (among e pairs knows)

pub found_none : (known : Known) (pairs : List Pair) (key : PairKey) (found : Option ℕ) →
    (has_own known ≡ false → (pairs : List Pair) → Knows known pairs → MatchOption found (IsNewKey key pairs) (IsKeyAt key pairs)) → found ≡ None →
    Knows known pairs → (has_own known ≡ true → IsNewKey key pairs) → IsNewKey key pairs
found_none known pairs key found among is knows fresh = go (cases_Bool (has_own known))
  where
    go : (has_own known ≡ true) ⊎ (has_own known ≡ false) → IsNewKey key pairs
    go (inl e) = fresh e
    go (inr e) = subst (λ (o : Option ℕ). MatchOption o (IsNewKey key pairs) (IsKeyAt key pairs)) is (among e pairs knows)
