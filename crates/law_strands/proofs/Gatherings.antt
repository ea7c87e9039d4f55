-- A join gathers just the strands that arrive at it, in serial order.
use Rattle.std.proofs.Common.{◌≡◌, ◌≢◌, ◌⊎◌, inl, inr, ℕ, suc, ◌<◌, ◌≤◌, Bool, [], ◌∷◌, ◌++◌, map, length, Some, AllPairs, refl, sym, ap, ◌∙◌, subst, subst₂, append_assoc, true, arith}
use Rattle.model_strands.specs.Address.{child, next, Address}
use Rattle.law_addresses.specs.Address.{english_before, IsPrefix}
use Rattle.law_addresses.proofs.Blocks.{prefix-transitive}
use Rattle.law_addresses.proofs.Relations.{serial-decides}
use Rattle.model_strands.specs.Updated.{updated}
use Rattle.model_strands.specs.History.{Event, split, same, joined, waits, call, resumed, ended, ended_joined, finished, History}
use Rattle.model_strands.specs.Strands.{reserved, status, Running, unused}
use Rattle.model_strands.specs.Blocks.{Stack, spawned, block, stack, enclosing, Outstanding, IsWaitedFor, IsLast}
use Rattle.model_strands.specs.Legal.{sync_joined, sync_waits, child_return, last_return, Legal, start, then}
use Rattle.model_strands.specs.Dag.{Arrives}
use Rattle.model_strands.specs.Addresses.{address}
use Rattle.law_strands.specs.Addresses.{IsEnglishBefore}
use Rattle.law_strands.specs.Gatherings.{children, returned_by, last_strand, synced_by, syncing_strand, gathered, Gathers}
use Rattle.law_strands.specs.Laws.{GatheringLaw}
use Rattle.law_strands.proofs.Updates.{same_or_not, updated_at, updated_off}
use Rattle.law_strands.proofs.Members.{Present, present_append, present_map, map_present, contains_present, pairs_map, pairs_push}
use Rattle.law_strands.proofs.Words.{◌▹◌, prefix_of_longer}
use Rattle.law_strands.proofs.Places.{Place, continuation, child_of, place_of, place, Ranges, running_below, Seen, at_child, at_next, at_join, at_spawner, elsewhere, some_same, spawned_same, running_not_reserved, over_not_reserved}
use Rattle.law_strands.proofs.Range.{ranges}
use Rattle.law_strands.proofs.Holders.{IsLive, Holders, holders, Splitting, splitting, running_open, reserved_before_end, reserved_before_join}
use Rattle.law_strands.proofs.Calm.{IsCalm, calm_place, calm_address, calm_unused, calm_arrives}
use Rattle.law_strands.proofs.Addresses.{address_kept, place_kept}
use Rattle.law_strands.proofs.Fates.{Fates, fates}
use Rattle.law_strands.proofs.Sides.{origin, IsOnward, Sides, sides, children_cases, children_kept, children_new, calm_children, calm_origin}

-- a strand with a place in the block as the child of that number arrived at its join
abbrev pub Returned : History → ℕ → ℕ → ℕ → Type 0
Returned history number join strand = Arrives history strand join × (strand < unused history) × (place history strand ≡ child_of join number)

-- it waits at the end of its block, on the far side of each child
abbrev pub Waits : History → ℕ → ℕ → Type 0
Waits history join strand = Arrives history strand join × ((number : ℕ) → Present number (children history join) → IsPrefix (origin history number ▹ next) (address history strand))

-- who arrived at a join that has not begun is the last strand of a child, or the strand that waits
abbrev pub HasArrived : History → ℕ → ℕ → Type 0
HasArrived history join strand =
    ((number : ℕ) × Present number (children history join) × (strand ≡ last_strand history number) × (Outstanding history number join → ⊥)) ⊎ ((strand ≡ syncing_strand history join) × IsWaitedFor history join)

-- what is known of children, returns and syncs until the join begins
pub record Gathering (history : History) : Type 0 where
  pub member : (strand join number : ℕ) → strand < unused history → place history strand ≡ child_of join number → Present number (children history join)
  pub one_block : (number join other : ℕ) → Present number (children history join) → Present number (children history other) → join ≡ other
  pub returned : (number join : ℕ) → Present number (children history join) →
      Outstanding history number join ⊎ Returned history number join (last_strand history number)
  pub arrived : (strand join : ℕ) → Arrives history strand join → status history join ≡ reserved → HasArrived history join strand
  pub waiting : (join : ℕ) → IsWaitedFor history join → status history join ≡ reserved → Waits history join (syncing_strand history join)

same_child : {p : Place} {j k m n : ℕ} → p ≡ child_of j n → p ≡ child_of k m → (j ≡ k) × (n ≡ m)
same_child e g = (cc, cc)

next_not_child : {p : Place} {j k m : ℕ} → p ≡ continuation j → p ≡ child_of k m → ⊥
next_not_child e g = cc

-- A split

gathering_split : (history : History) (strand the_child the_next the_join : ℕ) (first : Bool) → Ranges history → Fates history → Sides history →
    Splitting history strand the_child the_next the_join first → Gathering history → Gathering (split strand the_child the_next the_join first ∷ history)
gathering_split h s c n j first r f sd w g = record {
  member = λ x k m lt e. member_at x k m lt e (w.numbers.see x);
  one_block = λ m k i p q. one_at m k i (children_cases h s c n j first k m p) (children_cases h s c n j first i m q);
  returned = λ m k p. returned_at m k (children_cases h s c n j first k m p);
  arrived = λ x k a e. arrived_at x k (g.arrived x k a (still k (arrival_known x k a) e));
  waiting = λ k a e. waiting_at k a (g.waiting k a (still k (r.waited_below k a) e));
}
  where
    arrival_known : (strand other_join : ℕ) → Arrives h strand other_join → other_join < unused h
    arrival_known x k a = r.join_below x k (f.arrived x k a).1

    -- an old join that is reserved was so before
    still : (other_join : ℕ) → other_join < unused h → status (split s c n j first ∷ h) other_join ≡ reserved → status h other_join ≡ reserved
    still k lt e = go (w.numbers.see k)
      where
        go : Seen h s c n j first k → status h k ≡ reserved
        go (at_child xe a b d) = absurd (running_not_reserved a e)
        go (at_next xe a b d) = absurd (running_not_reserved a e)
        go (at_join xe lo t a b d) = absurd (omega arith)
        go (at_spawner xe a b d) = absurd (over_not_reserved a e)
        go (elsewhere ne kn a b d) = sym a ∙ e

    old : (number other_join : ℕ) → Present number (children h other_join) → Present number (children (split s c n j first ∷ h) other_join)
    old m k p = children_kept h s c n j first k m p

    member_at : (strand other_join number : ℕ) → strand < unused (split s c n j first ∷ h) →
        place (split s c n j first ∷ h) strand ≡ child_of other_join number → Seen h s c n j first strand →
        Present number (children (split s c n j first ∷ h) other_join)
    member_at x k m lt e (at_child xe a b d) =
        let t = same_child b e in
        subst₂ (λ y z. Present y (children (split s c n j first ∷ h) z)) t.1 t.0 (children_new h s c n j first)
    member_at x k m lt e (at_next xe a b d) = absurd (next_not_child b e)
    member_at x k m lt e (at_join xe lo t a b d) = old m k (g.member s k m w.numbers.spawner_known (sym b ∙ e))
    member_at x k m lt e (at_spawner xe a b d) = old m k (g.member s k m w.numbers.spawner_known (sym b ∙ e))
    member_at x k m lt e (elsewhere ne (inl q) a b d) = old m k (g.member x k m q (sym b ∙ e))
    member_at x k m lt e (elsewhere ne (inr q) a b d) = absurd (omega arith)

    one_at : (number other_join another : ℕ) → ((other_join ≡ j) × (number ≡ suc (length h))) ⊎ Present number (children h other_join) →
        ((another ≡ j) × (number ≡ suc (length h))) ⊎ Present number (children h another) → other_join ≡ another
    one_at m k i (inl p) (inl q) = p.0 ∙ sym q.0
    one_at m k i (inl p) (inr q) = absurd (let le : m ≤ length h = sd.numbered i m q in omega (arith, p.1))
    one_at m k i (inr p) (inl q) = absurd (let le : m ≤ length h = sd.numbered k m p in omega (arith, q.1))
    one_at m k i (inr p) (inr q) = g.one_block m k i p q

    returned_at : (number other_join : ℕ) → ((other_join ≡ j) × (number ≡ suc (length h))) ⊎ Present number (children h other_join) →
        Outstanding (split s c n j first ∷ h) number other_join ⊎ Returned (split s c n j first ∷ h) number other_join (last_strand h number)
    returned_at m k (inl t) = inl (inl (t.1, t.0))
    returned_at m k (inr p) = elim (g.returned m k p) [
      | inl o ↦ inl (inr o)
      | inr t ↦ inr (t.0, omega (arith, t.1, w.numbers.grows), place_kept h s c n j first w (last_strand h m) t.1 ∙ t.2)
    ]

    arrived_at : (strand other_join : ℕ) → HasArrived h other_join strand → HasArrived (split s c n j first ∷ h) other_join strand
    arrived_at x k (inl (m, p, e, back)) = inl (
      m,
      old m k p,
      e,
      (λ o. elim o [ inl t ↦ (let le : m ≤ length h = sd.numbered k m p in omega (arith, t.0)) | inr t ↦ back t ]),
    )
    arrived_at x k (inr t) = inr t

    waiting_at : (other_join : ℕ) → IsWaitedFor h other_join → Waits h other_join (syncing_strand h other_join) →
        Waits (split s c n j first ∷ h) other_join (syncing_strand h other_join)
    waiting_at k a t = (t.0, λ m p. beyond m (children_cases h s c n j first k m p))
      where
        beyond : (number : ℕ) → ((k ≡ j) × (number ≡ suc (length h))) ⊎ Present number (children h k) →
            IsPrefix (origin (split s c n j first ∷ h) number ▹ next) (address (split s c n j first ∷ h) (syncing_strand h k))
        beyond m (inl q) = absurd (w.no_sync_yet (subst (IsWaitedFor h) q.0 a))
        beyond m (inr q) =
            let le : m ≤ length h = sd.numbered k m q in
            subst₂ (λ y z. IsPrefix (y ▹ next) z) (sym (updated_off (origin h) (suc (length h)) (address h s) m (omega arith)))
            (sym (address_kept h s c n j first w (syncing_strand h k) (f.arrived (syncing_strand h k) k t.0).0)) (t.1 m q)

-- Other events

-- what an event that is no split leaves, when only the strand s ends
module _ (h : History) (e : Event) (calm : IsCalm e) (g : Gathering h) where
  kept_member : (number other_join : ℕ) → Present number (children h other_join) → Present number (children (e ∷ h) other_join)
  kept_member m k p = subst (Present m) (sym (calm_children h e calm k)) p

  old_member : (number other_join : ℕ) → Present number (children (e ∷ h) other_join) → Present number (children h other_join)
  old_member m k p = subst (Present m) (calm_children h e calm k) p

  calm_member : (strand its_join number : ℕ) → strand < unused (e ∷ h) → place (e ∷ h) strand ≡ child_of its_join number →
      Present number (children (e ∷ h) its_join)
  calm_member x j m lt p = kept_member m j (g.member x j m (subst (λ y. x < y) (calm_unused h e calm) lt) (sym (calm_place h e calm x) ∙ p))

  calm_block : (number its_join other_join : ℕ) → Present number (children (e ∷ h) its_join) → Present number (children (e ∷ h) other_join) →
      its_join ≡ other_join
  calm_block m j k p q = g.one_block m j k (old_member m j p) (old_member m k q)

  calm_returned : (number its_join strand : ℕ) → Returned h number its_join strand → Returned (e ∷ h) number its_join strand
  calm_returned m j x t = (calm_arrives h e x j t.0, subst (λ y. x < y) (sym (calm_unused h e calm)) t.1, calm_place h e calm x ∙ t.2)

  calm_waits : (its_join strand : ℕ) → Waits h its_join strand → Waits (e ∷ h) its_join strand
  calm_waits j x t = (
    calm_arrives h e x j t.0,
    λ m p. subst₂ (λ y z. IsPrefix (y ▹ next) z) (sym (calm_origin h e calm m)) (sym (calm_address h e calm x)) (t.1 m (old_member m j p)),
  )

  -- an event that touches neither children nor syncs
  gathering_quiet : ((number other_join : ℕ) → Outstanding h number other_join → Outstanding (e ∷ h) number other_join) →
      ((number other_join : ℕ) → Outstanding (e ∷ h) number other_join → Outstanding h number other_join) →
      ((number : ℕ) → last_strand (e ∷ h) number ≡ last_strand h number) →
      ((other_join : ℕ) → syncing_strand (e ∷ h) other_join ≡ syncing_strand h other_join) →
      ((strand other_join : ℕ) → Arrives (e ∷ h) strand other_join → Arrives h strand other_join) →
      ((other_join : ℕ) → IsWaitedFor h other_join → IsWaitedFor (e ∷ h) other_join) →
      ((other_join : ℕ) → IsWaitedFor (e ∷ h) other_join → IsWaitedFor h other_join) →
      ((other_join : ℕ) → status (e ∷ h) other_join ≡ reserved → status h other_join ≡ reserved) → Gathering (e ∷ h)
  gathering_quiet out out_back last syncing arrives waited waited_back reserved_back = record {
    member = calm_member;
    one_block = calm_block;
    returned = λ m j p. elim (g.returned m j (old_member m j p)) [
      | inl o ↦ inl (out m j o)
      | inr t ↦ inr (subst (Returned (e ∷ h) m j) (sym (last m)) (calm_returned m j (last_strand h m) t))
    ];
    arrived = λ x j a r. elim (g.arrived x j (arrives x j a) (reserved_back j r)) [
      | inl t ↦ inl (t.0, kept_member t.0 j t.1, t.2 ∙ sym (last t.0), (λ o. t.3 (out_back t.0 j o)))
      | inr t ↦ inr (t.0 ∙ sym (syncing j), waited j t.1)
    ];
    waiting = λ j a r. subst (Waits (e ∷ h) j) (sym (syncing j)) (calm_waits j (syncing_strand h j) (g.waiting j (waited_back j a) (reserved_back j r)));
  }

-- a sync that joins
gathering_joined : (history : History) (strand its_join : ℕ) (below : Stack) → stack history strand ≡ block its_join below → Gathering history →
    Gathering (joined strand its_join ∷ history)
gathering_joined h s j below st g = record {
  member = calm_member h (joined s j) tt g;
  one_block = calm_block h (joined s j) tt g;
  returned = λ m k p. elim (g.returned m k p) [ inl o ↦ inl o | inr t ↦ inr (calm_returned h (joined s j) tt g m k (last_strand h m) t) ];
  arrived = λ x k a e. let r = reserved_before_join h s j k e in elim a [
    | inl t ↦ absurd (r.0 (some_same (sym t.1 ∙ ap enclosing st)))
    | inr t ↦ elim (g.arrived x k t r.1) [ inl q ↦ inl q | inr q ↦ inr (q.0 ∙ sym (updated_off (syncing_strand h) j s k r.0), q.1) ]
  ];
  waiting = λ k a e. let r = reserved_before_join h s j k e in
      subst (Waits (joined s j ∷ h) k) (sym (updated_off (syncing_strand h) j s k r.0)) (calm_waits h (joined s j) tt g k (syncing_strand h k) (g.waiting k a r.1));
}

-- a sync that waits
gathering_waits : (history : History) (strand its_join : ℕ) (below : Stack) → Ranges history → Holders history → Sides history → Running history strand →
    stack history strand ≡ block its_join below → Gathering history → Gathering (waits strand ∷ history)
gathering_waits h s j below r o sd run st g = record {
  member = calm_member h (waits s) tt g;
  one_block = calm_block h (waits s) tt g;
  returned = λ m k p. elim (g.returned m k p) [ inl q ↦ inl q | inr t ↦ inr (calm_returned h (waits s) tt g m k (last_strand h m) t) ];
  arrived = λ x k a e. elim a [
    | inl t ↦ inr (t.0 ∙ sym (synced_at k (some_same (sym t.1 ∙ ap enclosing st))), inl t.1)
    | inr t ↦ elim (g.arrived x k t (reserved_before_end h s k e)) [ inl q ↦ inl q | inr q ↦ inr (q.0 ∙ sym (synced_off k (apart k q.1)), inr q.1) ]
  ];
  waiting = λ k a e. elim a [
    | inl t ↦ here k (some_same (sym t ∙ ap enclosing st))
    | inr t ↦ subst (Waits (waits s ∷ h) k) (sym (synced_off k (apart k t)))
        (calm_waits h (waits s) tt g k (syncing_strand h k) (g.waiting k t (reserved_before_end h s k e)))
  ];
}
  where
    synced : (other_join : ℕ) → syncing_strand (waits s ∷ h) other_join ≡ updated (syncing_strand h) j s other_join
    synced k = ap (λ z. synced_by z s (syncing_strand h) k) (ap enclosing st)

    synced_at : (other_join : ℕ) → other_join ≡ j → syncing_strand (waits s ∷ h) other_join ≡ s
    synced_at k e = synced k ∙ updated_at (syncing_strand h) j s k e

    synced_off : (other_join : ℕ) → other_join ≢ j → syncing_strand (waits s ∷ h) other_join ≡ syncing_strand h other_join
    synced_off k ne = synced k ∙ updated_off (syncing_strand h) j s k ne

    -- the block was not waited for
    apart : (other_join : ℕ) → IsWaitedFor h other_join → other_join ≢ j
    apart k a e = (subst (IsLive h) (ap place_of st) (o.live s (running_open h s run))).1 (subst (IsWaitedFor h) e a)

    here : (other_join : ℕ) → other_join ≡ j → Waits (waits s ∷ h) other_join (syncing_strand (waits s ∷ h) other_join)
    here k e = subst (Waits (waits s ∷ h) k) (sym (synced_at k e)) (
      inl (refl, ap enclosing st ∙ ap (λ z. Some z) (sym e)),
      λ m p. sd.next_side s k m (running_below h r s run) (running_open h s run) (ap place_of st ∙ ap continuation (sym e)) p,
    )

-- the return of a child, which begins no join or its own
module _ (h : History) (s n j : ℕ) (r : Ranges h) (o : Holders h) (run : Running h s) (st : stack h s ≡ spawned n j) (g : Gathering h) where
  last_at : (number : ℕ) → number ≡ n → returned_by (stack h s) s (last_strand h) number ≡ s
  last_at m e = ap (λ z. returned_by z s (last_strand h) m) st ∙ updated_at (last_strand h) n s m e

  last_off : (number : ℕ) → number ≢ n → returned_by (stack h s) s (last_strand h) number ≡ last_strand h number
  last_off m ne = ap (λ z. returned_by z s (last_strand h) m) st ∙ updated_off (last_strand h) n s m ne

  own_child : Present n (children h j)
  own_child = g.member s j n (running_below h r s run) (ap place_of st)

  own_outstanding : Outstanding h n j
  own_outstanding = (subst (IsLive h) (ap place_of st) (o.live s (running_open h s run))).1

  own_block : (number other_join : ℕ) → Present number (children h other_join) → number ≡ n → other_join ≡ j
  own_block m k p e = g.one_block n k j (subst (λ y. Present y (children h k)) e p) own_child

  -- what the strand's arrival makes of a child
  came_back : (event : Event) → IsCalm event → Arrives (event ∷ h) s j → (number other_join : ℕ) → Present number (children h other_join) →
      ((stack h s ≢ spawned number other_join) × Outstanding h number other_join) ⊎ Returned (event ∷ h) number other_join (returned_by (stack h s) s (last_strand h) number)
  came_back e calm now m k p = elim (same_or_not m n) [
    | inl q ↦ inr (subst (Returned (e ∷ h) m k) (sym (last_at m q)) (
      subst (Arrives (e ∷ h) s) (sym (own_block m k p q)) now,
      subst (λ y. s < y) (sym (calm_unused h e calm)) (running_below h r s run),
      calm_place h e calm s ∙ (ap place_of st ∙ (ap (λ y. child_of y n) (sym (own_block m k p q)) ∙ ap (child_of k) (sym q))),
    ))
    | inr ne ↦ elim (g.returned m k p) [
      | inl t ↦ inl ((λ q. ne (sym (spawned_same (sym st ∙ q)).0)), t)
      | inr t ↦ inr (subst (Returned (e ∷ h) m k) (sym (last_off m ne)) (calm_returned h e calm g m k (last_strand h m) t))
    ]
  ]

  -- who arrived before
  came_before : (strand other_join : ℕ) → HasArrived h other_join strand →
      ((number : ℕ) × Present number (children h other_join) × (strand ≡ returned_by (stack h s) s (last_strand h) number) × ((stack h s ≢ spawned number other_join) × Outstanding h number other_join → ⊥)) ⊎ ((strand ≡ syncing_strand h other_join) × IsWaitedFor h other_join)
  came_before x k (inr t) = inr t
  came_before x k (inl (m, p, e, back)) = inl (m, p, e ∙ sym (last_off m other), (λ t. back t.1))
    where
      other : m ≢ n
      other q = back (subst₂ (Outstanding h) (sym q) (sym (own_block m k p q)) own_outstanding)

  -- and who arrives now
  comes_now : (strand other_join : ℕ) → (strand ≡ s) × (enclosing (stack h s) ≡ Some other_join) →
      (number : ℕ) × Present number (children h other_join) × (strand ≡ returned_by (stack h s) s (last_strand h) number) × ((stack h s ≢ spawned number other_join) × Outstanding h number other_join → ⊥)
  comes_now x k t =
      let q : j ≡ k = some_same (sym (ap enclosing st) ∙ t.1) in
      (n, subst (λ y. Present n (children h y)) q own_child, t.0 ∙ sym (last_at n refl), (λ u. u.0 (st ∙ ap (spawned n) q)))

  gathering_ended : Gathering (ended s ∷ h)
  gathering_ended = record {
    member = calm_member h (ended s) tt g;
    one_block = calm_block h (ended s) tt g;
    returned = λ m k p. came_back (ended s) tt (inl (refl, ap enclosing st)) m k p;
    arrived = λ x k a e. elim a [ inl t ↦ inl (comes_now x k t) | inr t ↦ came_before x k (g.arrived x k t (reserved_before_end h s k e)) ];
    waiting = λ k a e. calm_waits h (ended s) tt g k (syncing_strand h k) (g.waiting k a (reserved_before_end h s k e));
  }

  gathering_ended_joined : Gathering (ended_joined s j ∷ h)
  gathering_ended_joined = record {
    member = calm_member h (ended_joined s j) tt g;
    one_block = calm_block h (ended_joined s j) tt g;
    returned = λ m k p. came_back (ended_joined s j) tt (inl (refl, ap enclosing st)) m k p;
    arrived = λ x k a e. elim a [ inl t ↦ inl (comes_now x k t) | inr t ↦ came_before x k (g.arrived x k t (reserved_before_join h s j k e).1) ];
    waiting = λ k a e. calm_waits h (ended_joined s j) tt g k (syncing_strand h k) (g.waiting k a (reserved_before_join h s j k e).1);
  }

gathering_start : Gathering []
gathering_start = record {
  member = λ x j m lt e. absurd (cc);
  one_block = λ m j k p q. absurd p;
  returned = λ m j p. absurd p;
  arrived = λ x j a e. absurd a;
  waiting = λ j a e. absurd a;
}

pub gathering : {h : History} → Legal h → Gathering h
gathering start = gathering_start
gathering (then {history = h} {event = split s c n j first} l a) =
    gathering_split h s c n j first (ranges l) (fates l) (sides l) (splitting h s c n j first (ranges l) (holders l) a) (gathering l)
gathering (then {history = h} {event = same s} l a) =
    gathering_quiet h (same s) tt (gathering l) (λ m k o. o) (λ m k o. o) (λ m. refl) (λ k. refl) (λ x k t. t) (λ k t. t) (λ k t. t) (λ k e. e)
gathering (then {history = h} {event = call s} l a) =
    gathering_quiet h (call s) tt (gathering l) (λ m k o. o) (λ m k o. o) (λ m. refl) (λ k. refl) (λ x k t. t) (λ k t. t) (λ k t. t) (λ k e. e)
gathering (then {history = h} {event = resumed s} l a) =
    gathering_quiet h (resumed s) tt (gathering l) (λ m k o. o) (λ m k o. o) (λ m. refl) (λ k. refl) (λ x k t. t) (λ k t. t) (λ k t. t) (λ k e. e)
gathering (then {history = h} {event = finished s} l a) =
    gathering_quiet h (finished s) tt (gathering l) (λ m k o. o) (λ m k o. o) (λ m. refl) (λ k. refl) (λ x k t. t) (λ k t. t) (λ k t. t)
    (λ k e. reserved_before_end h s k e)
gathering (then {history = h} {event = joined s j} l (sync_joined {below = below} run st none)) = gathering_joined h s j below st (gathering l)
gathering (then {history = h} {event = waits s} l (sync_waits {join = j} {below = below} run st m some)) =
    gathering_waits h s j below (ranges l) (holders l) (sides l) run st (gathering l)
gathering (then {history = h} {event = ended s} l (child_return {number = n} {join = j} run st last)) =
    gathering_ended h s n j (ranges l) (holders l) run st (gathering l)
gathering (then {history = h} {event = ended_joined s j} l (last_return {number = n} run st last)) =
    gathering_ended_joined h s n j (ranges l) (holders l) run st (gathering l)

-- The order of what is gathered

-- what lies below the child of a split comes before what lies below its next
pub sides_english : (q a b : Address) → IsPrefix (q ▹ child) a → IsPrefix (q ▹ next) b → english_before a b ≡ true
sides_english q a b (u, e) (v, f) =
    (serial-decides a b).1 (inr (q, u, v, child, next, e ∙ append_assoc q (child ∷ []) u, f ∙ append_assoc q (next ∷ []) v, (refl, refl)))

-- strands of the children, in order of spawning, and then one on the far side of each child
gathered_sorted : (history : History) → Sides history → (its_join : ℕ) (f : ℕ → ℕ) (strand : ℕ) →
    ((number : ℕ) → Present number (children history its_join) → (f number < unused history) × (place history (f number) ≡ child_of its_join number)) →
    ((number : ℕ) → Present number (children history its_join) → IsPrefix (origin history number ▹ next) (address history strand)) →
    AllPairs (IsEnglishBefore history) (map f (children history its_join) ++ (strand ∷ []))
gathered_sorted h sd j f s own beyond =
    pairs_push (IsEnglishBefore h) (map f (children h j)) s (pairs_map (IsOnward h) (IsEnglishBefore h) f (children h j) in_turn (sd.in_order j)) last
  where
    side : (number : ℕ) → Present number (children h j) → IsPrefix (origin h number ▹ child) (address h (f number))
    side m p = sd.child_side (f m) j m (own m p).0 (own m p).1

    in_turn : (number other_join : ℕ) → Present number (children h j) → Present other_join (children h j) → IsOnward h number other_join →
        IsEnglishBefore h (f number) (f other_join)
    in_turn m k p q onward =
        sides_english (origin h m) (address h (f m)) (address h (f k)) (side m p)
        (prefix-transitive (origin h m ▹ next) (origin h k) (address h (f k)) onward (prefix_of_longer (origin h k) (address h (f k)) child (side k q)))

    last : (strand : ℕ) → Present strand (map f (children h j)) → IsEnglishBefore h strand s
    last x p =
        let t = present_map f x (children h j) p in
        subst (λ y. IsEnglishBefore h y s) t.2 (sides_english (origin h t.0) (address h (f t.0)) (address h s) (side t.0 t.1) (beyond t.0 t.1))

-- What is gathered, where each child has returned and the syncing strand has arrived.
gathers : (history : History) → Legal history → (its_join : ℕ) →
    ((number : ℕ) → Present number (children history its_join) → Returned history number its_join (last_strand history number)) →
    Waits history its_join (syncing_strand history its_join) →
    ((strand : ℕ) → Arrives history strand its_join → ((number : ℕ) × Present number (children history its_join) × (strand ≡ last_strand history number)) ⊎ (strand ≡ syncing_strand history its_join)) →
    Gathers history its_join
gathers h l j back wait arrived = (
  λ x. (λ c. to x ((contains_present x (gathered h j)).0 c), λ a. (contains_present x (gathered h j)).1 (from x (arrived x a))),
  gathered_sorted h (sides l) j (last_strand h) (syncing_strand h j) (λ m p. let t = back m p in (t.1, t.2)) wait.1,
)
  where
    to : (strand : ℕ) → Present strand (gathered h j) → Arrives h strand j
    to x p = elim ((present_append (map (last_strand h) (children h j)) (syncing_strand h j ∷ []) x).0 p) [
      | inl q ↦ (let t = present_map (last_strand h) x (children h j) q in subst (λ y. Arrives h y j) t.2 (back t.0 t.1).0)
      | inr q ↦ elim q [ inl e ↦ subst (λ y. Arrives h y j) e wait.0 | inr e ↦ absurd e ]
    ]

    from : (strand : ℕ) → ((number : ℕ) × Present number (children h j) × (strand ≡ last_strand h number)) ⊎ (strand ≡ syncing_strand h j) →
        Present strand (gathered h j)
    from x (inl t) =
        (present_append (map (last_strand h) (children h j)) (syncing_strand h j ∷ []) x).1
        (inl (subst (λ y. Present y (map (last_strand h) (children h j))) (sym t.2) (map_present (last_strand h) t.0 (children h j) t.1)))
    from x (inr e) = (present_append (map (last_strand h) (children h j)) (syncing_strand h j ∷ []) x).1 (inr (inl (sym e)))

-- a sync that joins
gathers_joined : (history : History) (strand its_join : ℕ) (below : Stack) → Legal history → Legal (joined strand its_join ∷ history) →
    Running history strand → stack history strand ≡ block its_join below → ((number : ℕ) → Outstanding history number its_join → ⊥) →
    Gathers (joined strand its_join ∷ history) its_join
gathers_joined h s j below l l' run st none = gathers (joined s j ∷ h) l' j all_back wait arrived
  where
    syncs : syncing_strand (joined s j ∷ h) j ≡ s
    syncs = updated_at (syncing_strand h) j s j refl

    all_back : (number : ℕ) → Present number (children h j) → Returned (joined s j ∷ h) number j (last_strand h number)
    all_back m p = elim ((gathering l').returned m j p) [ inl o ↦ absurd (none m o) | inr t ↦ t ]

    wait : Waits (joined s j ∷ h) j (syncing_strand (joined s j ∷ h) j)
    wait = subst (Waits (joined s j ∷ h) j) (sym syncs) (
      inl (refl, ap enclosing st),
      λ m p. (sides l).next_side s j m (running_below h (ranges l) s run) (running_open h s run) (ap place_of st) p,
    )

    live : (status h j ≡ reserved) × (IsWaitedFor h j → ⊥)
    live = subst (IsLive h) (ap place_of st) ((holders l).live s (running_open h s run))

    arrived : (strand : ℕ) → Arrives (joined s j ∷ h) strand j →
        ((number : ℕ) × Present number (children h j) × (strand ≡ last_strand h number)) ⊎ (strand ≡ syncing_strand (joined s j ∷ h) j)
    arrived x (inl t) = inr (t.0 ∙ sym syncs)
    arrived x (inr a) = elim ((gathering l).arrived x j a live.0) [ inl t ↦ inl (t.0, t.1, t.2) | inr t ↦ absurd (live.1 t.1) ]

-- the return of the last child
gathers_ended_joined : (history : History) (strand number its_join : ℕ) → Legal history → Legal (ended_joined strand its_join ∷ history) →
    Running history strand → stack history strand ≡ spawned number its_join → IsLast history number its_join →
    Gathers (ended_joined strand its_join ∷ history) its_join
gathers_ended_joined h s n j l l' run st last = gathers (ended_joined s j ∷ h) l' j all_back wait arrived
  where
    g : Gathering h
    g = gathering l

    all_back : (number : ℕ) → Present number (children h j) → Returned (ended_joined s j ∷ h) number j (last_strand (ended_joined s j ∷ h) number)
    all_back m p = elim ((gathering l').returned m j p) [
      | inl o ↦ absurd (o.0 (st ∙ ap (λ z. spawned z j) (sym (last.1 m o.1))))
      | inr t ↦ t
    ]

    live : (status h j ≡ reserved) × Outstanding h n j
    live = subst (IsLive h) (ap place_of st) ((holders l).live s (running_open h s run))

    wait : Waits (ended_joined s j ∷ h) j (syncing_strand h j)
    wait = calm_waits h (ended_joined s j) tt g j (syncing_strand h j) (g.waiting j last.0 live.0)

    arrived : (strand : ℕ) → Arrives (ended_joined s j ∷ h) strand j →
        ((number : ℕ) × Present number (children h j) × (strand ≡ last_strand (ended_joined s j ∷ h) number)) ⊎ (strand ≡ syncing_strand h j)
    arrived x (inl t) = let k = comes_now h s n j (ranges l) (holders l) run st g x j t in inl (k.0, k.1, k.2)
    arrived x (inr a) = elim (came_before h s n j (ranges l) (holders l) run st g x j (g.arrived x j a live.0)) [
      | inl t ↦ inl (t.0, t.1, t.2)
      | inr t ↦ inr t.0
    ]

pub gathering_law : GatheringLaw
gathering_law h (joined s j) k (then l (sync_joined {below = below} run st none)) e =
    subst (Gathers (joined s j ∷ h)) (sym e) (gathers_joined h s j below l (then l (sync_joined {below = below} run st none)) run st none)
gathering_law h (ended_joined s j) k (then l (last_return {number = n} run st last)) e =
    subst (Gathers (ended_joined s j ∷ h)) (sym e) (gathers_ended_joined h s n j l (then l (last_return {number = n} run st last)) run st last)
gathering_law h (split s c n j first) k l e = absurd e
gathering_law h (same s) k l e = absurd e
gathering_law h (waits s) k l e = absurd e
gathering_law h (call s) k l e = absurd e
gathering_law h (resumed s) k l e = absurd e
gathering_law h (ended s) k l e = absurd e
gathering_law h (finished s) k l e = absurd e
