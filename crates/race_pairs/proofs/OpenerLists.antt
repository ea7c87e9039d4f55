-- The openers of entries, as a list.
use Rattle.std.proofs.Common.{◌≡◌, ◌⊎◌, inl, inr, ℕ, suc, ◌-◌, ◌<◌, ◌≤◌, List, [], ◌∷◌, ◌++◌, length, get_or, Option, Some, None, refl, sym, ap, ◌∙◌, subst, arith}
use Rattle.std.proofs.Math.Seq.{get_or-append_seam}
use Rattle.std.proofs.lemmas.List.{length-append, length-map, get_or_append_left, append-nil, get_or-map}
use Rattle.std.specs.List.Sorted.{IsNonDecreasingBy, IsPartitionPoint}
use Rattle.std.proofs.lemmas.List.Sorted.{IsNonDecreasingBy-short, IsNonDecreasingBy-push}
use Rattle.law_strands.proofs.Places.{below_or_beyond}
use Rattle.model_accesses.specs.declared.request.Act.{Act}
use Rattle.model_accesses.specs.declared.request.Act.TheVariants.{Spawn, Sync, Call, Return}
use Rattle.model_strands.specs.declared.spawned.Spawned.{Spawned}
use Rattle.model_strands.specs.History.{Event, split, same, joined, waits, call, resumed, ended, ended_joined, finished}
use Rattle.model_histories.specs.declared.answer.Answer.{Answer}
use Rattle.model_histories.specs.declared.answer.Answer.TheVariants.{Split, Same, Joined, Waits, Resumed, Ended, EndedJoined, Finished}
use Rattle.model_histories.specs.declared.answer.Entry.{Entry}
use Rattle.model_histories.specs.Entries.{Entries, event_between, event_of}
use Rattle.race_pairs.specs.declared.kept.Opener.{Opener}
use Rattle.race_pairs.specs.declared.kept.Frame.{Frame}
use Rattle.race_pairs.specs.Makers.{IsSpawn}
use Rattle.race_pairs.specs.Openers.{opener_of, openers, IsOpener, IsNoOpener, AreOpeners}
use Rattle.race_pairs.specs.Lineages.{IsAt}
use Rattle.race_pairs.proofs.Climbing.{number_within, same_entry}

-- an event is one opener or none
pub one_or_none : (event : Option Event) (k : ℕ) → (opener_of event k ≡ []) ⊎ ((opener : Opener) × (opener_of event k ≡ opener ∷ []) × (opener.number ≡ k))
one_or_none (Some (split s c n j first)) k = inr (record { number = k; strand = s; spawned = Some (record { child = c; next = n; join = j; first = first }) }, refl, refl)
one_or_none (Some (call s)) k = inr (record { number = k; strand = s; spawned = None }, refl, refl)
one_or_none (Some (same s)) k = inl refl
one_or_none (Some (joined s j)) k = inl refl
one_or_none (Some (waits s)) k = inl refl
one_or_none (Some (resumed s)) k = inl refl
one_or_none (Some (ended s)) k = inl refl
one_or_none (Some (ended_joined s j)) k = inl refl
one_or_none (Some (finished s)) k = inl refl
one_or_none None k = inl refl

pub few_openers : (entries : Entries) → length (openers entries) ≤ length entries
few_openers [] = omega arith
few_openers (entry ∷ entries) = go (few_openers entries) (one_or_none (event_of entry) (suc (length entries)))
  where
    go : length (openers entries) ≤ length entries →
        (opener_of (event_of entry) (suc (length entries)) ≡ []) ⊎ ((opener : Opener) × (opener_of (event_of entry) (suc (length entries)) ≡ opener ∷ []) × (opener.number ≡ suc (length entries))) →
        length (openers entries ++ opener_of (event_of entry) (suc (length entries))) ≤ suc (length entries)
    go few (inl e) = rw e (omega (arith, length-append (openers entries) [], few))
    go few (inr t) = rw t.1 (omega (arith, length-append (openers entries) (t.0 ∷ []), few))

pub few_frames : (entries : Entries) (opened : List Frame) → AreOpeners entries opened → length opened ≤ length entries
few_frames entries opened are =
    let same_length : length opened ≡ length (openers entries) = sym (length-map opened (λ frame. frame.opener)) ∙ ap length are in
    omega (arith, same_length, few_openers entries)

later_opener : (entry : Entry) (entries : Entries) (number : ℕ) (opener : Opener) → IsOpener entries number opener → IsOpener (entry ∷ entries) number opener
later_opener entry entries number opener (one, k, is) = (one, inr k, is)

-- each in the list is one of the entries
listed : (entries : Entries) (i : ℕ) (d : Opener) → i < length (openers entries) →
    IsOpener entries (get_or (openers entries) i d).number (get_or (openers entries) i d)
listed [] i d below = absurd (omega arith)
listed (entry ∷ entries) i d below = go (λ lt. listed entries i d lt) (one_or_none (event_of entry) (suc (length entries))) (below_or_beyond i (length (openers entries)))
  where
    old : (i < length (openers entries) → IsOpener entries (get_or (openers entries) i d).number (get_or (openers entries) i d)) → i < length (openers entries) → IsOpener (entry ∷ entries) (get_or (openers (entry ∷ entries)) i d).number (get_or (openers (entry ∷ entries)) i d)
    old ih lt =
        let is : get_or (openers (entry ∷ entries)) i d ≡ get_or (openers entries) i d = get_or_append_left (openers entries) (opener_of (event_of entry) (suc (length entries))) d i lt in
        subst (λ (o : Opener). IsOpener (entry ∷ entries) o.number o) (sym is) (later_opener entry entries _ _ (ih lt))

    go : (i < length (openers entries) → IsOpener entries (get_or (openers entries) i d).number (get_or (openers entries) i d)) →
        (opener_of (event_of entry) (suc (length entries)) ≡ []) ⊎ ((opener : Opener) × (opener_of (event_of entry) (suc (length entries)) ≡ opener ∷ []) × (opener.number ≡ suc (length entries))) →
        (i < length (openers entries)) ⊎ (length (openers entries) ≤ i) →
        IsOpener (entry ∷ entries) (get_or (openers (entry ∷ entries)) i d).number (get_or (openers (entry ∷ entries)) i d)
    go ih t (inl lt) = old ih lt
    go ih (inl e) (inr ge) =
        let none : length (openers (entry ∷ entries)) ≡ length (openers entries) =
        ap (λ (xs : List Opener). length (openers entries ++ xs)) e ∙ ap length (append-nil (openers entries)) in
        absurd (omega (arith, none))
    go ih (inr t) (inr ge) =
        let more : length (openers (entry ∷ entries)) ≡ suc (length (openers entries)) =
        ap (λ (xs : List Opener). length (openers entries ++ xs)) t.1 ∙ omega (arith, length-append (openers entries) (t.0 ∷ [])) in
        let here : i ≡ length (openers entries) = omega (arith, more) in
        let is : get_or (openers (entry ∷ entries)) i d ≡ t.0 =
        ap (λ (n : ℕ). get_or (openers (entry ∷ entries)) n d) here ∙
        (ap (λ (xs : List Opener). get_or (openers entries ++ xs) (length (openers entries)) d) t.1 ∙ get_or-append_seam (openers entries) t.0 [] d) in
        subst (λ (o : Opener). IsOpener (entry ∷ entries) o.number o) (sym is)
        (subst (λ (n : ℕ). IsOpener (entry ∷ entries) n t.0) (sym t.2) (entry, inl (refl, refl), t.1))

-- so it is of each frame
pub frame_opener : (entries : Entries) (opened : List Frame) → AreOpeners entries opened → (i : ℕ) (d : Frame) → i < length opened →
    IsOpener entries (get_or opened i d).opener.number (get_or opened i d).opener
frame_opener entries opened are i d below =
    let same_length : length opened ≡ length (openers entries) = sym (length-map opened (λ frame. frame.opener)) ∙ ap length are in
    let is : get_or (openers entries) i d.opener ≡ (get_or opened i d).opener =
    ap (λ (xs : List Opener). get_or xs i d.opener) (sym are) ∙ get_or-map (λ frame. frame.opener) opened i d d.opener below in
    subst (λ (o : Opener). IsOpener entries o.number o) is (listed entries i d.opener (omega (arith, same_length)))

pub frame_at : (entries : Entries) (opened : List Frame) → AreOpeners entries opened → (place : ℕ) (frame : Frame) → IsAt opened place frame →
    IsOpener entries frame.opener.number frame.opener
frame_at entries opened are place frame it =
    subst (λ (f : Frame). IsOpener entries f.opener.number f.opener) (it.item_is frame) (frame_opener entries opened are it.index frame it.within)

-- A spawn is its opener.

between_opener : (strand : ℕ) (act : Act) (answer : Answer) (k : ℕ) (opener : Opener) (spawned : Spawned) → opener_of (event_between strand act answer) k ≡ opener ∷ [] →
    opener.spawned ≡ Some spawned → (strand ≡ opener.strand) × (act ≡ Spawn) × (answer ≡ Split spawned)
between_opener strand Spawn (Split began) k opener spawned e f = (cc, refl, cc)
between_opener strand Call Same k opener spawned e f = absurd (cc)
between_opener strand Sync Same k opener spawned e f = absurd (cc)
between_opener strand Sync (Joined j) k opener spawned e f = absurd (cc)
between_opener strand Sync Waits k opener spawned e f = absurd (cc)
between_opener strand Return Resumed k opener spawned e f = absurd (cc)
between_opener strand Return Ended k opener spawned e f = absurd (cc)
between_opener strand Return (EndedJoined j) k opener spawned e f = absurd (cc)
between_opener strand Return Finished k opener spawned e f = absurd (cc)
between_opener strand act answer k opener spawned e f = absurd (cc)

pub opener_spawn : (entries : Entries) (number : ℕ) (opener : Opener) (spawned : Spawned) → IsOpener entries number opener → opener.spawned ≡ Some spawned →
    IsSpawn entries number opener.strand spawned
opener_spawn entries number opener spawned (entry, k, is) f =
    let found = between_opener entry.request.strand entry.request.act entry.answer number opener spawned is f in
    (entry, k, found.0, (found.1, found.2))

-- an entry that is a spawn and an opener is an opener that is a spawn
pub spawn_opener : (entries : Entries) (number spawner : ℕ) (spawned : Spawned) (opener : Opener) → IsSpawn entries number spawner spawned →
    IsOpener entries number opener → opener.spawned ≡ None → ⊥
spawn_opener entries number spawner spawned opener (one, k, s, began) (entry, q, is) none =
    let same_one : entry ≡ one = same_entry entries number entry one q k in
    let event_is : event_of one ≡ event_between one.request.strand Spawn (Split spawned) = rw (began.0, began.1) refl in
    let there : opener_of (event_between one.request.strand Spawn (Split spawned)) number ≡ opener ∷ [] =
    ap (λ (o : Option Event). opener_of o number) (sym event_is) ∙ (ap (λ (e : Entry). opener_of (event_of e) number) (sym same_one) ∙ is) in
    cc

-- The openers come in the order of their numbers.

number_most : (entries : Entries) (number : ℕ) (opener : Opener) → IsOpener entries number opener → number ≤ length entries
number_most entries number opener (entry, k, is) = (number_within entries number entry k).1

openers_rise : (entries : Entries) → IsNonDecreasingBy (λ (opener : Opener). opener.number) (openers entries)
openers_rise [] = IsNonDecreasingBy-short (λ opener. opener.number) [] (omega arith)
openers_rise (entry ∷ entries) = go (openers_rise entries) (one_or_none (event_of entry) (suc (length entries)))
  where
    go : IsNonDecreasingBy (λ (opener : Opener). opener.number) (openers entries) →
        (opener_of (event_of entry) (suc (length entries)) ≡ []) ⊎ ((opener : Opener) × (opener_of (event_of entry) (suc (length entries)) ≡ opener ∷ []) × (opener.number ≡ suc (length entries))) →
        IsNonDecreasingBy (λ (opener : Opener). opener.number) (openers entries ++ opener_of (event_of entry) (suc (length entries)))
    go rise (inl e) =
        subst (IsNonDecreasingBy (λ (opener : Opener). opener.number)) (sym (ap (λ (xs : List Opener). openers entries ++ xs) e ∙ append-nil (openers entries))) rise
    go rise (inr t) =
        subst (λ (xs : List Opener). IsNonDecreasingBy (λ (opener : Opener). opener.number) (openers entries ++ xs)) (sym t.1)
        (IsNonDecreasingBy-push (λ opener. opener.number) (openers entries) t.0 rise
        (λ d some. (let below : length (openers entries) - 1 < length (openers entries) = omega arith in
        let most = number_most entries _ _ (listed entries (length (openers entries) - 1) d below) in
        omega (arith, most, t.2))))

-- each has a number of its own
openers_apart : (entries : Entries) (i j : ℕ) (d : Opener) → i < j → j < length (openers entries) →
    (get_or (openers entries) i d).number < (get_or (openers entries) j d).number
openers_apart [] i j d lt within = absurd (omega (arith, within))
openers_apart (entry ∷ entries) i j d lt within =
    go (λ old. openers_apart entries i j d lt old) (one_or_none (event_of entry) (suc (length entries))) (below_or_beyond j (length (openers entries)))
  where
    at : (k : ℕ) → k < length (openers entries) → get_or (openers (entry ∷ entries)) k d ≡ get_or (openers entries) k d
    at k old = get_or_append_left (openers entries) (opener_of (event_of entry) (suc (length entries))) d k old

    go : (j < length (openers entries) → (get_or (openers entries) i d).number < (get_or (openers entries) j d).number) →
        (opener_of (event_of entry) (suc (length entries)) ≡ []) ⊎ ((opener : Opener) × (opener_of (event_of entry) (suc (length entries)) ≡ opener ∷ []) × (opener.number ≡ suc (length entries))) →
        (j < length (openers entries)) ⊎ (length (openers entries) ≤ j) →
        (get_or (openers (entry ∷ entries)) i d).number < (get_or (openers (entry ∷ entries)) j d).number
    go ih t (inl old) =
        let less = ih old in
        let at_i : (get_or (openers (entry ∷ entries)) i d).number ≡ (get_or (openers entries) i d).number = ap (λ (o : Opener). o.number) (at i (omega (arith, lt, old))) in
        let at_j : (get_or (openers (entry ∷ entries)) j d).number ≡ (get_or (openers entries) j d).number = ap (λ (o : Opener). o.number) (at j old) in
        omega (arith, less, at_i, at_j)
    go ih (inl e) (inr ge) =
        let none : length (openers (entry ∷ entries)) ≡ length (openers entries) =
        ap (λ (xs : List Opener). length (openers entries ++ xs)) e ∙ ap length (append-nil (openers entries)) in
        absurd (omega (arith, none, ge, within))
    go ih (inr t) (inr ge) =
        let more : length (openers (entry ∷ entries)) ≡ suc (length (openers entries)) =
        ap (λ (xs : List Opener). length (openers entries ++ xs)) t.1 ∙ omega (arith, length-append (openers entries) (t.0 ∷ [])) in
        let here : j ≡ length (openers entries) = omega (arith, more, ge, within) in
        let old : i < length (openers entries) = omega (arith, lt, here) in
        let is : (get_or (openers (entry ∷ entries)) j d).number ≡ suc (length entries) =
        ap (λ (n : ℕ). (get_or (openers (entry ∷ entries)) n d).number) here ∙
        (ap (λ (xs : List Opener). (get_or (openers entries ++ xs) (length (openers entries)) d).number) t.1 ∙
        (ap (λ (o : Opener). o.number) (get_or-append_seam (openers entries) t.0 [] d) ∙ t.2)) in
        let at_i : (get_or (openers (entry ∷ entries)) i d).number ≡ (get_or (openers entries) i d).number = ap (λ (o : Opener). o.number) (at i old) in
        let low = number_most entries _ _ (listed entries i d old) in
        omega (arith, is, at_i, low)

-- two frames of one number are one
pub same_frame : (entries : Entries) (opened : List Frame) → AreOpeners entries opened → (i j : ℕ) (d : Frame) → i < length opened → j < length opened →
    (get_or opened i d).opener.number ≡ (get_or opened j d).opener.number → i ≡ j
same_frame entries opened are i j d li lj alike = go (below_or_beyond i j) (below_or_beyond j i)
  where
    all : length opened ≡ length (openers entries)
    all = sym (length-map opened (λ frame. frame.opener)) ∙ ap length are

    at : (k : ℕ) → k < length opened → (get_or (openers entries) k d.opener).number ≡ (get_or opened k d).opener.number
    at k lt = ap (λ (o : Opener). o.number) (ap (λ (xs : List Opener). get_or xs k d.opener) (sym are) ∙ get_or-map (λ frame. frame.opener) opened k d d.opener lt)

    go : (i < j) ⊎ (j ≤ i) → (j < i) ⊎ (i ≤ j) → i ≡ j
    go (inl lt) other = absurd (omega (arith, openers_apart entries i j d.opener lt (omega (arith, lj, all)), at i li, at j lj, alike))
    go (inr ge) (inl lt) = absurd (omega (arith, openers_apart entries j i d.opener lt (omega (arith, li, all)), at i li, at j lj, alike))
    go (inr ge) (inr le) = omega (arith, ge, le)

pub frames_rise : (entries : Entries) (opened : List Frame) → AreOpeners entries opened → IsNonDecreasingBy (λ (frame : Frame). frame.opener.number) opened
frames_rise entries opened are i j d le below =
    let same_length : length opened ≡ length (openers entries) = sym (length-map opened (λ frame. frame.opener)) ∙ ap length are in
    let at_i : get_or (openers entries) i d.opener ≡ (get_or opened i d).opener =
    ap (λ (xs : List Opener). get_or xs i d.opener) (sym are) ∙ get_or-map (λ frame. frame.opener) opened i d d.opener (omega arith) in
    let at_j : get_or (openers entries) j d.opener ≡ (get_or opened j d).opener =
    ap (λ (xs : List Opener). get_or xs j d.opener) (sym are) ∙ get_or-map (λ frame. frame.opener) opened j d d.opener below in
    let rise = openers_rise entries i j d.opener le (omega (arith, same_length)) in
    omega (arith, ap (λ (o : Opener). o.number) at_i, ap (λ (o : Opener). o.number) at_j, rise)

-- an entry that is an opener is in the list
there : (entries : Entries) (number : ℕ) (opener d : Opener) → IsOpener entries number opener →
    (i : ℕ) × (i < length (openers entries)) × (get_or (openers entries) i d ≡ opener)
there [] number opener d (one, k, is) = absurd k
there (entry ∷ entries) number opener d (one, inl k, is) =
    let here : opener_of (event_of entry) (suc (length entries)) ≡ opener ∷ [] =
    subst (λ (n : ℕ). opener_of (event_of entry) n ≡ opener ∷ []) k.0 (ap (λ (e : Entry). opener_of (event_of e) number) (sym k.1) ∙ is) in
    let more : length (openers (entry ∷ entries)) ≡ suc (length (openers entries)) =
    ap (λ (xs : List Opener). length (openers entries ++ xs)) here ∙ omega (arith, length-append (openers entries) (opener ∷ [])) in (
      length (openers entries),
      omega (arith, more),
      ap (λ (xs : List Opener). get_or (openers entries ++ xs) (length (openers entries)) d) here ∙ get_or-append_seam (openers entries) opener [] d,
    )
there (entry ∷ entries) number opener d (one, inr k, is) =
    let old = there entries number opener d (one, k, is) in (
      old.0,
      omega (arith, old.1, length-append (openers entries) (opener_of (event_of entry) (suc (length entries)))),
      get_or_append_left (openers entries) (opener_of (event_of entry) (suc (length entries))) d old.0 old.1 ∙ old.2,
    )

pub frame_there : (entries : Entries) (opened : List Frame) → AreOpeners entries opened → (number : ℕ) (opener : Opener) (d : Frame) → IsOpener entries number opener →
    (i : ℕ) × (i < length opened) × ((get_or opened i d).opener ≡ opener)
frame_there entries opened are number opener d is =
    let same_length : length opened ≡ length (openers entries) = sym (length-map opened (λ frame. frame.opener)) ∙ ap length are in
    let old = there entries number opener d.opener is in
    let within : old.0 < length opened = omega (arith, old.1, same_length) in
    (old.0, within, sym (get_or-map (λ frame. frame.opener) opened old.0 d d.opener within) ∙ (ap (λ (xs : List Opener). get_or xs old.0 d.opener) are ∙ old.2))

-- no frame has the number
pub none_listed : (entries : Entries) (opened : List Frame) → AreOpeners entries opened → (number : ℕ) → (d : Frame) →
    ((i : ℕ) → i < length opened → (get_or opened i d).opener.number ≡ number → ⊥) → IsNoOpener entries number
none_listed entries opened are number d none entry k = go (one_or_none (event_of entry) number)
  where
    go : (opener_of (event_of entry) number ≡ []) ⊎ ((o : Opener) × (opener_of (event_of entry) number ≡ o ∷ []) × (o.number ≡ number)) →
        opener_of (event_of entry) number ≡ []
    go (inl e) = e
    go (inr t) =
        let found = frame_there entries opened are number t.0 d (entry, k, t.1) in
        absurd (none found.0 found.1 (ap (λ (o : Opener). o.number) found.2 ∙ t.2))

-- what is found by halving

pub beyond_all : (entries : Entries) (opened : List Frame) → AreOpeners entries opened → (number count : ℕ) →
    IsPartitionPoint (λ (frame : Frame). frame.opener.number < number) (λ frame. number ≤ frame.opener.number) opened count → count ≡ length opened → (d : Frame) →
    IsNoOpener entries number
beyond_all entries opened are number count point all d =
    none_listed entries opened are number d (λ i within is. (let low = point.0 i d (omega arith) (omega arith) in omega (arith, low, is)))

pub between_two : (entries : Entries) (opened : List Frame) → AreOpeners entries opened → (number count : ℕ) →
    IsPartitionPoint (λ (frame : Frame). frame.opener.number < number) (λ frame. number ≤ frame.opener.number) opened count → count < length opened → (d : Frame) →
    ((get_or opened count d).opener.number ≡ number → ⊥) → IsNoOpener entries number
between_two entries opened are number count point within d other =
    none_listed entries opened are number d (λ i below is. go i below is (below_or_beyond i count))
  where
    go : (i : ℕ) → i < length opened → (get_or opened i d).opener.number ≡ number → (i < count) ⊎ (count ≤ i) → ⊥
    go i below is (inl lt) = let low = point.0 i d (omega arith) lt in omega (arith, low, is)
    go i below is (inr ge) =
        let high = point.1 count d (omega arith) within in
        let rise = frames_rise entries opened are count i d ge below in
        other (omega (arith, high, rise, is))
