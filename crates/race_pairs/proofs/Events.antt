-- What is kept when a spawn, a call or a return comes.
-- F, T, S: the frames, turns and strands; es: the entries; e: one more; x: a strand; in a split, s is the spawner, c its child, n its next
-- and j the join
use Rattle.std.proofs.Common.{◌≡◌, ◌≢◌, ◌⊎◌, inl, inr, ℕ, zero, suc, ◌+◌, ◌-◌, ◌<◌, ◌≤◌, Bool, true, false, List, [], ◌∷◌, ◌++◌, length, get_or, set, Option, Some, None, refl, sym, ap, ◌∙◌, subst, arith}
use Rattle.std.proofs.lemmas.List.{length-append, length-set, append-nil}
use Rattle.law_strands.proofs.Places.{below_or_beyond}
use Rattle.law_strands.proofs.Updates.{same_or_not, updated_at, updated_off}
use Rattle.law_strands.proofs.Range.{ranges}
use Rattle.law_strands.proofs.Holders.{holders, Splitting, splitting}
use Rattle.law_strands.proofs.Addresses.{by_word, Named, named_new, named_old, named}
use Rattle.model_strands.specs.Address.{Word, child, next, join}
use Rattle.model_strands.specs.declared.spawned.Spawned.{Spawned}
use Rattle.model_strands.specs.History.{Event, split, call, resumed, History}
use Rattle.model_strands.specs.Strands.{unused}
use Rattle.model_strands.specs.Legal.{then}
use Rattle.model_histories.specs.declared.answer.Entry.{Entry}
use Rattle.model_histories.specs.Entries.{Entries, event_of, with_event, control_part}
use Rattle.race_pairs.specs.declared.kept.Frame.{Frame}
use Rattle.race_pairs.specs.declared.kept.Turn.{Turn}
use Rattle.race_pairs.specs.declared.kept.Strand.{Strand}
use Rattle.race_pairs.specs.Makers.{with_maker, maker}
use Rattle.race_pairs.specs.Frames.{behind, with_frame, frames}
use Rattle.race_pairs.specs.Openers.{opener_of}
use Rattle.race_pairs.specs.Lineages.{IsAt, Encloses, inside, IsNumberAt, in_child, beside, HasStood, AreKept}
use Rattle.race_pairs.specs.Growths.{IsNext, IsFrameMore, IsTurnMore, made_by, strands_made}
use Rattle.race_pairs.proofs.Made.{maker_new, maker_old}
use Rattle.race_pairs.proofs.Places.{index_within, at_end, at_old, at_new, at_set, at_unset, item_here, encloses_more, encloses_within, number_more}
use Rattle.race_pairs.proofs.Framed.{split_goes_on, split_child, split_old}
use Rattle.race_pairs.proofs.LineageGrown.{legal_next, openers_next, openers_same, has_stood_on, has_turned, has_begun}

-- the facts of an entry by its event
frames_by : (e : Entry) (es : Entries) (event : Event) (x : ℕ) → event_of e ≡ Some event →
    frames (e ∷ es) x ≡ with_frame (Some event) (suc (length es)) (frames es) x
frames_by e es event x is = ap (λ (o : Option Event). with_frame o (suc (length es)) (frames es) x) is

makers_by : (e : Entry) (es : Entries) (event : Event) (x : ℕ) → event_of e ≡ Some event →
    maker (e ∷ es) x ≡ with_maker (Some event) (suc (length es)) (maker es) x
makers_by e es event x is = ap (λ (o : Option Event). with_maker o (suc (length es)) (maker es) x) is

pub unused_by : (e : Entry) (es : Entries) (event : Event) → event_of e ≡ Some event → unused (control_part (e ∷ es)) ≡ unused (event ∷ control_part es)
unused_by e es event is = ap (λ (o : Option Event). unused (with_event o (control_part es))) is

-- A turn of a strand.

-- the strands after a turn of one of them
turned_each : (F G : List Frame) (T : List Turn) (S : List Strand) (e : Entry) (es : Entries) → AreKept F T S es → (s place : ℕ) (it : Strand) →
    IsAt S (suc s) it → ((x : ℕ) → maker (e ∷ es) x ≡ maker es x) → ((x : ℕ) → x ≢ s → frames (e ∷ es) x ≡ frames es x) →
    Encloses (F ++ G) place (frames (e ∷ es) s) → (x : ℕ) (found : Strand) →
    IsAt (set S s (record { maker = it.maker; turn = suc (length T) })) (suc x) found →
    IsNumberAt (F ++ G) found.maker (maker (e ∷ es) x) ×
    HasStood (F ++ G) (T ++ record { number = suc (length es); frame = place; before = it.turn } ∷ []) (e ∷ es) x found
turned_each F G T S e es kept s place it here same_makers same_frames encloses x found there = go (same_or_not x s)
  where
    go : (x ≡ s) ⊎ (x ≢ s) → IsNumberAt (F ++ G) found.maker (maker (e ∷ es) x) ×
        HasStood (F ++ G) (T ++ record { number = suc (length es); frame = place; before = it.turn } ∷ []) (e ∷ es) x found
    go (inl is) =
        let found_is : found ≡ record { maker = it.maker; turn = suc (length T) } =
        at_set S s (record { maker = it.maker; turn = suc (length T) }) found (index_within S s it here)
        (subst (λ (k : ℕ). IsAt (set S s (record { maker = it.maker; turn = suc (length T) })) (suc k) found) is there) in
        subst (λ (f : Strand). IsNumberAt (F ++ G) f.maker (maker (e ∷ es) x) × HasStood (F ++ G) (T ++ record { number = suc (length es); frame = place; before = it.turn } ∷ []) (e ∷ es) x f) (sym found_is)
        (subst (λ (k : ℕ). IsNumberAt (F ++ G) it.maker (maker (e ∷ es) k) ×
        HasStood (F ++ G) (T ++ record { number = suc (length es); frame = place; before = it.turn } ∷ []) (e ∷ es) k (record { maker = it.maker; turn = suc (length T) })) (sym is) (
          subst (IsNumberAt (F ++ G) it.maker) (sym (same_makers s)) (number_more F G it.maker (maker es s) (kept.made.each s it here)),
          has_turned F G T e es s place it (kept.stood s it here) (same_makers s) encloses,
        ))
    go (inr apart) =
        let old = at_unset S s x (record { maker = it.maker; turn = suc (length T) }) found apart there in (
          subst (IsNumberAt (F ++ G) found.maker) (sym (same_makers x)) (number_more F G found.maker (maker es x) (kept.made.each x found old)),
          has_stood_on F G T (record { number = suc (length es); frame = place; before = it.turn } ∷ []) e es x found (kept.stood x found old)
              (same_makers x) (same_frames x apart),
        )

-- a call
pub kept_call : (F : List Frame) (T : List Turn) (S : List Strand) (e : Entry) (es : Entries) → AreKept F T S es → (s outer : ℕ) →
    IsNext es e (call s) → Encloses F outer (frames es s) → (it : Strand) → IsAt S (suc s) it →
    AreKept (F ++ record { opener = record { number = suc (length es); strand = s; spawned = None }; outer = outer } ∷ [])
    (T ++ record { number = suc (length es); frame = suc (length F); before = it.turn } ∷ [])
    (set S s (record { maker = it.maker; turn = suc (length T) })) (e ∷ es)
kept_call F T S e es kept s outer next_is encloses it here = record {
  made = record {
    legal = legal_next e es (call s) next_is.0 next_is.1;
    openers = openers_next F e es frame kept.made.openers (ap (λ (o : Option Event). opener_of o (suc (length es))) next_is.0);
    len = length-set S s (record { maker = it.maker; turn = suc (length T) }) ∙ (kept.made.len ∙ sym (unused_by e es (call s) next_is.0));
    each = λ x found there. (each x found there).0;
  };
  few_turns = omega (arith, kept.few_turns, length-append T (record { number = suc (length es); frame = suc (length F); before = it.turn } ∷ []));
  stood = λ x found there. (each x found there).1;
}
  where
    frame : Frame
    frame = record { opener = record { number = suc (length es); strand = s; spawned = None }; outer = outer }

    round : Encloses (F ++ frame ∷ []) (suc (length F)) (frames (e ∷ es) s)
    round = subst (Encloses (F ++ frame ∷ []) (suc (length F)))
        (sym (frames_by e es (call s) s next_is.0 ∙ updated_at (frames es) s (suc (length es) ∷ frames es s) s refl))
        (inside (at_end F frame) (let low = encloses_within F outer (frames es s) encloses in omega arith)
        (encloses_more F (frame ∷ []) outer (frames es s) encloses))

    each : (x : ℕ) (found : Strand) → IsAt (set S s (record { maker = it.maker; turn = suc (length T) })) (suc x) found →
        IsNumberAt (F ++ frame ∷ []) found.maker (maker (e ∷ es) x) ×
        HasStood (F ++ frame ∷ []) (T ++ record { number = suc (length es); frame = suc (length F); before = it.turn } ∷ []) (e ∷ es) x found
    each x found there = turned_each F (frame ∷ []) T S e es kept s (suc (length F)) it here (λ y. makers_by e es (call s) y next_is.0)
        (λ y apart. frames_by e es (call s) y next_is.0 ∙ updated_off (frames es) s (suc (length es) ∷ frames es s) y apart) round x found there

-- the return of a called function
pub kept_return : (F : List Frame) (T : List Turn) (S : List Strand) (e : Entry) (es : Entries) → AreKept F T S es → (s place : ℕ) →
    IsNext es e (resumed s) → Encloses F place (behind (frames es s)) → (it : Strand) → IsAt S (suc s) it →
    AreKept F (T ++ record { number = suc (length es); frame = place; before = it.turn } ∷ [])
    (set S s (record { maker = it.maker; turn = suc (length T) })) (e ∷ es)
kept_return F T S e es kept s place next_is encloses it here = record {
  made = record {
    legal = legal_next e es (resumed s) next_is.0 next_is.1;
    openers = openers_same F e es kept.made.openers (ap (λ (o : Option Event). opener_of o (suc (length es))) next_is.0);
    len = length-set S s (record { maker = it.maker; turn = suc (length T) }) ∙ (kept.made.len ∙ sym (unused_by e es (resumed s) next_is.0));
    each = λ x found there. (each x found there).0;
  };
  few_turns = omega (arith, kept.few_turns, length-append T (record { number = suc (length es); frame = place; before = it.turn } ∷ []));
  stood = λ x found there. (each x found there).1;
}
  where
    round : Encloses (F ++ []) place (frames (e ∷ es) s)
    round = encloses_more F [] place (frames (e ∷ es) s)
        (subst (Encloses F place) (sym (frames_by e es (resumed s) s next_is.0 ∙ updated_at (frames es) s (behind (frames es s)) s refl)) encloses)

    each : (x : ℕ) (found : Strand) → IsAt (set S s (record { maker = it.maker; turn = suc (length T) })) (suc x) found →
        IsNumberAt F found.maker (maker (e ∷ es) x) ×
        HasStood F (T ++ record { number = suc (length es); frame = place; before = it.turn } ∷ []) (e ∷ es) x found
    each x found there =
        subst (λ (G : List Frame). IsNumberAt G found.maker (maker (e ∷ es) x) ×
        HasStood G (T ++ record { number = suc (length es); frame = place; before = it.turn } ∷ []) (e ∷ es) x found) (append-nil F)
        (turned_each F [] T S e es kept s place it here (λ y. makers_by e es (resumed s) y next_is.0)
        (λ y apart. frames_by e es (resumed s) y next_is.0 ∙ updated_off (frames es) s (behind (frames es s)) y apart) round x found there)

-- A spawn.

added_each : (opens : Bool) (place i : ℕ) (found : Strand) → IsAt (strands_made opens place) (suc i) found → found ≡ made_by place
added_each opens place i found there = sym (item_here (strands_made opens place) i found (made_by place) there) ∙ all opens i
  where
    all : (opens : Bool) (i : ℕ) → get_or (strands_made opens place) i (made_by place) ≡ made_by place
    all true zero = refl
    all true (suc zero) = refl
    all true (suc (suc zero)) = refl
    all true (suc (suc (suc i))) = refl
    all false zero = refl
    all false (suc zero) = refl
    all false (suc (suc i)) = refl

grown : (s c n j : ℕ) (first : Bool) (place : ℕ) (h : History) → unused (split s c n j first ∷ h) ≡ length (strands_made first place) + unused h
grown s c n j true place h = refl
grown s c n j false place h = refl

pub kept_spawn : (F : List Frame) (T : List Turn) (S : List Strand) (e : Entry) (es : Entries) → AreKept F T S es → (s c n j outer : ℕ) (first : Bool) →
    IsNext es e (split s c n j first) → Encloses F outer (frames es s) →
    AreKept (F ++ record { opener = record { number = suc (length es); strand = s; spawned = Some (record { child = c; next = n; join = j; first = first }) }; outer = outer } ∷ [])
    T (S ++ strands_made first (suc (length F))) (e ∷ es)
kept_spawn F T S e es kept s c n j outer first (is, then l a) encloses = record {
  made = record {
    legal = legal_next e es (split s c n j first) is (then l a);
    openers = openers_next F e es frame kept.made.openers (ap (λ (o : Option Event). opener_of o (suc (length es))) is);
    len = len ∙ sym (unused_by e es (split s c n j first) is);
    each = λ x found there. (each x found there).0;
  };
  few_turns = omega (arith, kept.few_turns);
  stood = λ x found there. (each x found there).1;
}
  where
    frame : Frame
    frame = record { opener = record { number = suc (length es); strand = s; spawned = Some (record { child = c; next = n; join = j; first = first }) }; outer = outer }

    w : Splitting (control_part es) s c n j first
    w = splitting (control_part es) s c n j first (ranges l) (holders l) a

    len : length (S ++ strands_made first (suc (length F))) ≡ unused (split s c n j first ∷ control_part es)
    len =
        let up = grown s c n j first (suc (length F)) (control_part es) in
        length-append S (strands_made first (suc (length F))) ∙ omega (arith, up, kept.made.len)

    low : outer < suc (length F)
    low = let within = encloses_within F outer (frames es s) encloses in omega arith

    outer_round : Encloses (F ++ frame ∷ []) outer (frames es s)
    outer_round = encloses_more F (frame ∷ []) outer (frames es s) encloses

    old : (x : ℕ) (found : Strand) → IsAt S (suc x) found → x < unused (control_part es) →
        IsNumberAt (F ++ frame ∷ []) found.maker (maker (e ∷ es) x) × HasStood (F ++ frame ∷ []) T (e ∷ es) x found
    old x found here known =
        let same_maker : maker (e ∷ es) x ≡ maker es x = makers_by e es (split s c n j first) x is ∙
        maker_old (control_part es) s c n j (suc (length es)) first (maker es) a x known in
        let same_frames : frames (e ∷ es) x ≡ frames es x = frames_by e es (split s c n j first) x is ∙
        split_old (control_part es) s c n j (suc (length es)) first (frames es) a x known in (
          subst (IsNumberAt (F ++ frame ∷ []) found.maker) (sym same_maker) (number_more F (frame ∷ []) found.maker (maker es x) (kept.made.each x found here)),
          subst (λ (U : List Turn). HasStood (F ++ frame ∷ []) U (e ∷ es) x found) (append-nil T)
              (has_stood_on F (frame ∷ []) T [] e es x found (kept.stood x found here) same_maker same_frames),
        )

    new : (x : ℕ) (word : Word) → x ≡ by_word c n j word → (word ≡ join → first ≡ true) → unused (control_part es) ≤ x →
        IsNumberAt (F ++ frame ∷ []) (suc (length F)) (maker (e ∷ es) x) × HasStood (F ++ frame ∷ []) T (e ∷ es) x (made_by (suc (length F)))
    new x word x_is opens beyond =
        let at_maker : maker (e ∷ es) x ≡ suc (length es) = makers_by e es (split s c n j first) x is ∙
        (ap (with_maker (Some (split s c n j first)) (suc (length es)) (maker es)) x_is ∙ maker_new s c n j (suc (length es)) first (maker es) word opens) in
        (inr (frame, at_end F frame, sym at_maker), begin_at word x_is opens at_maker)
      where
        begin_at : (word : Word) → x ≡ by_word c n j word → (word ≡ join → first ≡ true) → maker (e ∷ es) x ≡ suc (length es) → HasStood (F ++ frame ∷ []) T (e ∷ es) x (made_by (suc (length F)))
        begin_at child x_is opens at_maker =
            let is_child : x ≡ c = x_is in
            let at_frames : frames (e ∷ es) x ≡ suc (length es) ∷ frames es s = frames_by e es (split s c n j first) x is ∙
            split_child first s c n j x (λ f g. w.numbers.join_not_child (sym g ∙ is_child)) (λ g. (let d = w.numbers.child_is in let m = w.numbers.next_is in omega (arith, g, is_child, d, m))) is_child (suc (length es)) (frames es) in
            has_begun (F ++ frame ∷ []) T e es x (suc (length F)) (suc (length F)) l beyond at_maker (in_child (at_end F frame) refl is_child)
            (subst (Encloses (F ++ frame ∷ []) (suc (length F))) (sym at_frames) (inside (at_end F frame) low outer_round))
        begin_at next x_is opens at_maker =
            let is_next : x ≡ n = x_is in
            has_begun (F ++ frame ∷ []) T e es x (suc (length F)) outer l beyond at_maker
            (beside (at_end F frame) refl (λ g. (let is_child : x ≡ c = g in let d = w.numbers.child_is in let m = w.numbers.next_is in omega (arith, is_child, is_next, d, m))))
            (subst (Encloses (F ++ frame ∷ []) outer) (sym (frames_by e es (split s c n j first) x is ∙
            split_goes_on first s c n j x (inr is_next) (suc (length es)) (frames es))) outer_round)
        begin_at join x_is opens at_maker =
            let is_join : x ≡ j = x_is in
            has_begun (F ++ frame ∷ []) T e es x (suc (length F)) outer l beyond at_maker
            (beside (at_end F frame) refl (λ g. w.numbers.join_not_child (sym is_join ∙ g)))
            (subst (Encloses (F ++ frame ∷ []) outer) (sym (frames_by e es (split s c n j first) x is ∙
            split_goes_on first s c n j x (inl (opens refl, is_join)) (suc (length es)) (frames es))) outer_round)

    each : (x : ℕ) (found : Strand) → IsAt (S ++ strands_made first (suc (length F))) (suc x) found →
        IsNumberAt (F ++ frame ∷ []) found.maker (maker (e ∷ es) x) × HasStood (F ++ frame ∷ []) T (e ∷ es) x found
    each x found there = go (below_or_beyond x (unused (control_part es)))
      where
        known : x < unused (split s c n j first ∷ control_part es)
        known = let within = index_within (S ++ strands_made first (suc (length F))) x found there in omega (arith, within, len)

        fresh : unused (control_part es) ≤ x → Named (control_part es) s c n j first x →
            IsNumberAt (F ++ frame ∷ []) (suc (length F)) (maker (e ∷ es) x) × HasStood (F ++ frame ∷ []) T (e ∷ es) x (made_by (suc (length F)))
        fresh beyond (named_old lt stands place opened) = absurd (omega arith)
        fresh beyond (named_new word x_is opens stands) = new x word x_is opens beyond

        go : (x < unused (control_part es)) ⊎ (unused (control_part es) ≤ x) →
            IsNumberAt (F ++ frame ∷ []) found.maker (maker (e ∷ es) x) × HasStood (F ++ frame ∷ []) T (e ∷ es) x found
        go (inl lt) = old x found (at_old S (strands_made first (suc (length F))) x found there (omega (arith, lt, kept.made.len))) lt
        go (inr ge) =
            let found_is : found ≡ made_by (suc (length F)) = added_each first (suc (length F)) (x - length S) found (at_new S (strands_made first (suc (length F))) x found there (omega (arith, ge, kept.made.len))) in
            subst (λ (f : Strand). IsNumberAt (F ++ frame ∷ []) f.maker (maker (e ∷ es) x) × HasStood (F ++ frame ∷ []) T (e ∷ es) x f) (sym found_is)
            (fresh ge (named (control_part es) s c n j first w x known))

-- What the functions of growth add.

pub spawn_kept : (F G : List Frame) (T : List Turn) (S R : List Strand) (s number place : ℕ) (spawned : Spawned) →
    IsFrameMore F T S (record { number = number; strand = s; spawned = Some spawned }) G → place ≡ suc (length F) → R ≡ S ++ strands_made spawned.first place →
    (es : Entries) (e : Entry) → AreKept F T S es → number ≡ suc (length es) → IsNext es e (split s spawned.child spawned.next spawned.join spawned.first) →
    AreKept G T R (e ∷ es)
spawn_kept F G T S R s number place spawned (outer, frames_are, stands) place_is strands_are es e kept number_is next_is =
    let frames_is : G ≡ F ++ record { opener = record { number = suc (length es); strand = s; spawned = Some spawned }; outer = outer } ∷ [] =
    frames_are ∙ ap (λ (n : ℕ). F ++ record { opener = record { number = n; strand = s; spawned = Some spawned }; outer = outer } ∷ []) number_is in
    let strands_is : R ≡ S ++ strands_made spawned.first (suc (length F)) = strands_are ∙ ap (λ (p : ℕ). S ++ strands_made spawned.first p) place_is in
    subst (λ (X : List Frame). AreKept X T R (e ∷ es)) (sym frames_is) (subst (λ (Z : List Strand). AreKept (F ++ record { opener = record { number = suc (length es); strand = s; spawned = Some spawned }; outer = outer } ∷ []) T Z (e ∷ es)) (sym strands_is)
    (kept_spawn F T S e es kept s spawned.child spawned.next spawned.join outer spawned.first next_is (stands es kept)))

pub call_kept : (F G : List Frame) (T U : List Turn) (S R : List Strand) (s number place : ℕ) →
    IsFrameMore F T S (record { number = number; strand = s; spawned = None }) G → place ≡ suc (length F) → IsTurnMore T S (record { strand = s; number = number; frame = place }) U R →
    (es : Entries) (e : Entry) → AreKept F T S es → number ≡ suc (length es) → IsNext es e (call s) → AreKept G U R (e ∷ es)
call_kept F G T U S R s number place (outer, frames_are, stands) place_is (it, here, turns_are, strands_are) es e kept number_is next_is =
    let frames_is : G ≡ F ++ record { opener = record { number = suc (length es); strand = s; spawned = None }; outer = outer } ∷ [] =
    frames_are ∙ ap (λ (n : ℕ). F ++ record { opener = record { number = n; strand = s; spawned = None }; outer = outer } ∷ []) number_is in
    let turns_is : U ≡ T ++ record { number = suc (length es); frame = suc (length F); before = it.turn } ∷ [] =
    turns_are ∙ (ap (λ (n : ℕ). T ++ record { number = n; frame = place; before = it.turn } ∷ []) number_is ∙
    ap (λ (p : ℕ). T ++ record { number = suc (length es); frame = p; before = it.turn } ∷ []) place_is) in
    subst (λ (X : List Frame). AreKept X U R (e ∷ es)) (sym frames_is) (subst (λ (Y : List Turn). AreKept (F ++ record { opener = record { number = suc (length es); strand = s; spawned = None }; outer = outer } ∷ []) Y R (e ∷ es)) (sym turns_is)
    (subst (λ (Z : List Strand). AreKept (F ++ record { opener = record { number = suc (length es); strand = s; spawned = None }; outer = outer } ∷ []) (T ++ record { number = suc (length es); frame = suc (length F); before = it.turn } ∷ []) Z (e ∷ es)) (sym strands_are) (kept_call F T S e es kept s outer next_is (stands es kept) it here)))

pub return_kept : (F : List Frame) (T U : List Turn) (S R : List Strand) (s number place : ℕ) → IsTurnMore T S (record { strand = s; number = number; frame = place }) U R →
    (es : Entries) (e : Entry) → AreKept F T S es → number ≡ suc (length es) → IsNext es e (resumed s) → Encloses F place (behind (frames es s)) →
    AreKept F U R (e ∷ es)
return_kept F T U S R s number place (it, here, turns_are, strands_are) es e kept number_is next_is encloses =
    let turns_is : U ≡ T ++ record { number = suc (length es); frame = place; before = it.turn } ∷ [] =
    turns_are ∙ ap (λ (n : ℕ). T ++ record { number = n; frame = place; before = it.turn } ∷ []) number_is in
    subst (λ (Y : List Turn). AreKept F Y R (e ∷ es)) (sym turns_is)
    (subst (λ (Z : List Strand). AreKept F (T ++ record { number = suc (length es); frame = place; before = it.turn } ∷ []) Z (e ∷ es)) (sym strands_are) (kept_return F T S e es kept s place next_is encloses it here))
