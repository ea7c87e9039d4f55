-- Below the branch of the last put's strand no log holds what was written before the put.
-- h: a history; e: an event; s, x, y, z, and a where it is a number: strands; a, b: else addresses
use Rattle.std.proofs.Common.{◌≡◌, ◌⊎◌, inl, inr, ℕ, suc, ◌≤◌, Bool, true, false, not, ◌&&◌, List, [], ◌∷◌, ◌++◌, length, refl, sym, ap, ◌∙◌, subst, subst₂, arith}
use Rattle.std.specs.List.{flat_map}
use Rattle.std.proofs.lemmas.Bool.{and_right, cases_Bool}
use Rattle.model_strands.specs.Address.{child, Address, first_difference}
use Rattle.law_addresses.specs.Address.{reaches, reaches_at, parallel, reversed, is_prefix, IsPrefix, branch as branch_of_address}
use Rattle.law_addresses.proofs.Differences.{first_difference-reversed}
use Rattle.law_addresses.proofs.Extensions.{first_difference-extended}
use Rattle.law_addresses.proofs.Relations.{is_prefix-decides, reaches-self, reaches-transitive}
use Rattle.law_addresses.proofs.Branches.{parallel-branch}
use Rattle.law_addresses.proofs.Blocks.{prefix-reaches}
use Rattle.model_strands.specs.Updated.{updated}
use Rattle.model_strands.specs.History.{Event, split, History}
use Rattle.model_strands.specs.Strands.{Running, Begun}
use Rattle.model_strands.specs.Legal.{Legal, then}
use Rattle.model_strands.specs.Dag.{Arrives, stay, step}
use Rattle.model_strands.specs.Addresses.{address}
use Rattle.law_strands.specs.Views.{IsSink}
use Rattle.law_strands.specs.Gatherings.{gathered}
use Rattle.law_strands.proofs.Updates.{updated_case}
use Rattle.law_strands.proofs.Members.{Present, present_append}
use Rattle.law_strands.proofs.Words.{Precedes, ◌▹◌, precedes_longer, prefix_longer, prefix_of_longer, not_prefix_shorter, branch_prefix}
use Rattle.law_strands.proofs.Range.{ranges, child_seen}
use Rattle.law_strands.proofs.Holders.{running_open}
use Rattle.law_strands.proofs.Addresses.{addresses}
use Rattle.law_strands.proofs.Law.{begun_below, reach_precedes, precedes_reach}
use Rattle.law_strands.proofs.Kept.{address_stays}
use Rattle.law_strands.proofs.Sinks.{sink_end, running_law}
use Rattle.law_strands.proofs.EventKinds.{arriving_sink, begun_earlier}
use Rattle.model_reducers.specs.Items.{control, update, put, other, Items, control_events}
use Rattle.law_values.specs.Items.{AreLegalItems}
use Rattle.model_reducers.specs.Entries.{Entry, update_entry, put_entry, entry_number, strand_of}
use Rattle.law_values.specs.Logs.{logs_after, log}
use Rattle.model_reducers.specs.GetValues.{IsLastPut}
use Rattle.law_values.proofs.Lists.{in_flat}
use Rattle.law_values.proofs.Steps.{legal_control, LogStep, split_step, join_step, quiet_step, step_of, put_begun, put_numbered, member_begun}
use Rattle.law_values.proofs.Since.{IsSince, newest_put}

-- two addresses that are not parallel
either_reaches : (a b : Address) → parallel a b ≡ false → Precedes a b ⊎ Precedes b a
either_reaches a b h = go (reaches a b) (reaches b a) refl refl h
  where
    go : (t r : Bool) → reaches a b ≡ t → reaches b a ≡ r → (not t && not r) ≡ false → Precedes a b ⊎ Precedes b a
    go true r e g k = inl e
    go false true e g k = inr g
    go false false e g k = cc

-- what begins with the branch of an address reaches the address or is reached from it
pub below_branch : (a b : Address) → IsPrefix (branch_of_address a) b → Precedes a b ⊎ Precedes b a
below_branch a b p = elim (either_reaches b a (sym (parallel-branch b a) ∙ apart)) [ inl h ↦ inr h | inr h ↦ inl h ]
  where
    apart : parallel b (branch_of_address a) ≡ false
    apart = and_right (not (reaches b (branch_of_address a))) (not (reaches (branch_of_address a) b)) (rw (prefix-reaches (branch_of_address a) b p) refl)

-- what reaches an address that begins with this one begins with it too, or reaches it
begins_or_reaches : (b a to : Address) → IsPrefix b to → Precedes a to → IsPrefix b a ⊎ Precedes a b
begins_or_reaches b a to p h = elim (cases_Bool (is_prefix b a)) [
  | inl t ↦ inl ((is_prefix-decides b a).0 t)
  | inr t ↦ inr (same t)
]
  where
    same : is_prefix b a ≡ false → Precedes a b
    same t =
        ap reaches_at (first_difference-reversed b a ∙ ap reversed (sym (first_difference-extended b p.0 a t) ∙ ap (λ z. first_difference z a) (sym p.1))
        ∙ sym (first_difference-reversed to a)) ∙ h

-- the strand is the start, or comes after it below its branch
abbrev pub IsBelow : History → ℕ → ℕ → Type 0
IsBelow history start strand =
    Precedes (address history start) (address history strand) × IsPrefix (branch_of_address (address history start)) (address history strand)

below_stays : (h : History) (e : Event) → Legal h → Legal (e ∷ h) → (a x : ℕ) → Begun h a → Begun h x → IsBelow (e ∷ h) a x → IsBelow h a x
below_stays h e l l' a x ba bx t =
    let sa = address_stays l' a (begun_below h (ranges l) a ba) in
    let sx = address_stays l' x (begun_below h (ranges l) x bx) in
    (subst₂ Precedes sa sx t.0, subst₂ (λ p q. IsPrefix (branch_of_address p) q) sa sx t.1)

precedes_stays : (h : History) (e : Event) → Legal h → Legal (e ∷ h) → (a x : ℕ) → Begun h a → Begun h x → Precedes (address h a) (address h x) →
    Precedes (address (e ∷ h) a) (address (e ∷ h) x)
precedes_stays h e l l' a x ba bx t =
    subst₂ Precedes (sym (address_stays l' a (begun_below h (ranges l) a ba))) (sym (address_stays l' x (begun_below h (ranges l) x bx))) t

-- the entry is one of these, by a strand that the start reaches
abbrev pub IsHeld : History → ℕ → (Entry → Type 0) → Entry → Type 0
IsHeld history start IsOne entry = IsOne entry × Precedes (address history start) (address history (strand_of entry))

-- the logs of strands below hold only such entries
abbrev pub HoldsOnly : History → (ℕ → List Entry) → ℕ → (Entry → Type 0) → Type 0
HoldsOnly history logs start IsOne =
    (strand : ℕ) (entry : Entry) → Begun history strand → IsBelow history start strand → Present entry (logs strand) → IsHeld history start IsOne entry

-- the spawner of a child below is below
spawner_below : (h : History) → Legal h → (s a : ℕ) → Running h s → Begun h a → Precedes (address h a) (address h s ▹ child) →
    IsPrefix (branch_of_address (address h a)) (address h s ▹ child) → IsBelow h a s
spawner_below h l s a run ba b p = (before, prefix)
  where
    -- nothing lies below a running strand but itself
    at_spawner : IsPrefix (address h s) (address h a) → a ≡ s
    at_spawner q = (addresses l).leaf s a (running_open h s run) (begun_below h (ranges l) a ba) q

    before : Precedes (address h a) (address h s)
    before = elim (precedes_longer (address h a) (address h s) child b) [
      | inl q ↦ q
      | inr q ↦ subst (λ y. Precedes (address h a) (address h y)) (at_spawner q) (reaches-self (address h a))
    ]

    prefix : IsPrefix (branch_of_address (address h a)) (address h s)
    prefix = elim (prefix_longer (branch_of_address (address h a)) (address h s) child p) [
      | inl q ↦ q
      | inr q ↦ (let k : IsPrefix (address h s ▹ child) (address h a) = subst (λ y. IsPrefix y (address h a)) q (branch_prefix (address h a)) in
          let e : a ≡ s = at_spawner (prefix_of_longer (address h s) (address h a) child k) in
          absurd (not_prefix_shorter (address h s) child (subst (λ y. IsPrefix (address h s ▹ child) (address h y)) e k)))
    ]

-- who arrives at a join below is below
arriving_below : (h : History) → Legal h → (a z : ℕ) (to : Address) → Begun h a → IsSink h z → Precedes (address h z) to →
    IsPrefix (branch_of_address (address h a)) to → IsBelow h a z
arriving_below h l a z to ba sz d p = elim (begins_or_reaches (branch_of_address (address h a)) (address h z) to p d) [
  | inl q ↦ elim (below_branch (address h a) (address h z) q) [ inl r ↦ (r, q) | inr r ↦ at_anchor r ]
  | inr q ↦ at_anchor (reaches-transitive (address h z) (branch_of_address (address h a)) (address h a) q
      (prefix-reaches (branch_of_address (address h a)) (address h a) (branch_prefix (address h a))))
]
  where
    at_anchor : Precedes (address h z) (address h a) → IsBelow h a z
    at_anchor r =
        let e : z ≡ a = sink_end h z a sz (precedes_reach h l z a sz.0 ba r) in
        subst (IsBelow h a) (sym e) (reaches-self (address h a), branch_prefix (address h a))

holds_step : (h : History) (e : Event) (f : ℕ → List Entry) (a : ℕ) (P : Entry → Type 0) → Legal h → Legal (e ∷ h) → LogStep h f e → Begun h a →
    ((x : ℕ) (u : Entry) → Present u (f x) → Begun h (strand_of u)) → HoldsOnly h f a P → HoldsOnly (e ∷ h) (logs_after h e f) a P
holds_step h (split s c n j first) f a P l l' (split_step w) ba wrote old x u b below i =
    updated_case (λ ys. Present u ys → IsHeld (split s c n j first ∷ h) a P u) (updated f c (f s)) n [] x (λ e i. absurd i)
    (λ nn. updated_case (λ ys. Present u ys → IsHeld (split s c n j first ∷ h) a P u) f c (f s) x
    (λ e k. moved s k (old s u (inl w.runs) (from_child e) k))
    (λ nc k. let bx = begun_earlier h s c n j first w x nc nn b in
    moved x k (old x u bx (below_stays h (split s c n j first) l l' a x ba bx below) k))) i
  where
    moved : (y : ℕ) → Present u (f y) → IsHeld h a P u → IsHeld (split s c n j first ∷ h) a P u
    moved y k t = (t.0, precedes_stays h (split s c n j first) l l' a (strand_of u) ba (wrote y u k) t.1)

    from_child : x ≡ c → IsBelow h a s
    from_child e =
        let sa = address_stays l' a (begun_below h (ranges l) a ba) in
        let key = ap (address (split s c n j first ∷ h)) e ∙ (child_seen h s c n j first w.numbers).2 in
        spawner_below h l s a w.runs ba (subst₂ Precedes sa key below.0) (subst₂ (λ p q. IsPrefix (branch_of_address p) q) sa key below.1)
holds_step h e f a P l l' (join_step s j g k same_log) ba wrote old x u b below i =
    updated_case (λ ys. Present u ys → IsHeld (e ∷ h) a P u) f j (flat_map f (gathered (e ∷ h) j)) x
    (λ q m. let t = in_flat f (gathered (e ∷ h) j) u m in at_join q t.0 ((k.members t.0).0 t.1) t.2)
    (λ ne m. elim (g.begun x b) [
      | inl q ↦ absurd (ne q)
      | inr q ↦ moved x m (old x u q (below_stays h e l l' a x ba q below) m)
    ]) (subst (Present u) (same_log x) i)
  where
    moved : (y : ℕ) → Present u (f y) → IsHeld h a P u → IsHeld (e ∷ h) a P u
    moved y m t = (t.0, precedes_stays h e l l' a (strand_of u) ba (wrote y u m) t.1)

    at_join : x ≡ j → (z : ℕ) → Arrives (e ∷ h) z j → Present u (f z) → IsHeld (e ∷ h) a P u
    at_join q z r m =
        let sz = arriving_sink h e s j g z r in
        let sa = address_stays l' a (begun_below h (ranges l) a ba) in
        let path : Precedes (address (e ∷ h) z) (address (e ∷ h) j) = reach_precedes (e ∷ h) l' z j (step (inr (r, g.begins)) stay) in
        let path_here : Precedes (address h z) (address (e ∷ h) j) = subst (λ y. Precedes y (address (e ∷ h) j)) (address_stays l' z (begun_below h (ranges l) z sz.0)) path in
        let prefix : IsPrefix (branch_of_address (address h a)) (address (e ∷ h) j) =
        subst₂ (λ p q. IsPrefix (branch_of_address p) q) sa (ap (address (e ∷ h)) q) below.1 in
        moved z m (old z u sz.0 (arriving_below h l a z (address (e ∷ h) j) ba sz path_here prefix) m)
holds_step h e f a P l l' (quiet_step q same_log) ba wrote old x u b below i =
    let bx = q.begun x b in
    let k = subst (Present u) (same_log x) i in
    let t = old x u bx (below_stays h e l l' a x ba bx below) k in
    (t.0, precedes_stays h e l l' a (strand_of u) ba (wrote x u k) t.1)

pub holds_only : (h : Items) → AreLegalItems h → (p : Entry) → IsLastPut h p → HoldsOnly (control_events h) (log h) (strand_of p) (IsSince h p)
holds_only [] l p t x u b below i = absurd t.0
holds_only (control e ∷ h) l p t x u b below i =
    let lc = legal_control h l.0 in
    holds_step (control_events h) e (log h) (strand_of p) (IsSince h p) lc (then lc l.1) (step_of (control_events h) (log h) e lc l.1) (put_begun h l.0 p t.0)
    (member_begun h l.0) (holds_only h l.0 p t) x u b below i
holds_only (other s ∷ h) l p t x u b below i = holds_only h l.0 p t x u b below i
holds_only (update s v ∷ h) l p t x u b below i =
    updated_case (λ ys. Present u ys → IsHeld (control_events h) (strand_of p) (IsSince (update s v ∷ h) p) u) (log h) s
    (log h s ++ (update_entry (suc (length h)) s v ∷ [])) x
    (λ e k. elim ((present_append (log h s) (update_entry (suc (length h)) s v ∷ []) u).0 k) [
      | inl m ↦ older (holds_only h l.0 p t x u b below (subst (λ y. Present u (log h y)) (sym e) m))
      | inr m ↦ elim m [ inl q ↦ newest e (sym q) | inr q ↦ absurd q ]
    ])
    (λ ne k. older (holds_only h l.0 p t x u b below k)) i
  where
    older : IsHeld (control_events h) (strand_of p) (IsSince h p) u → IsHeld (control_events h) (strand_of p) (IsSince (update s v ∷ h) p) u
    older (inl q, r) = (inl q, r)
    older (inr q, r) = (inr (inr q.0, q.1), r)

    newest : x ≡ s → u ≡ update_entry (suc (length h)) s v → IsHeld (control_events h) (strand_of p) (IsSince (update s v ∷ h) p) u
    newest e q =
        let m : entry_number p ≤ length h = put_numbered h p t.0 in
        let m' : entry_number u ≡ suc (length h) = ap entry_number q in
        (inr (inl q, omega arith), subst (λ y. Precedes (address (control_events h) (strand_of p)) (address (control_events h) y)) (e ∙ sym (ap strand_of q)) below.0)
holds_only (put s v ∷ h) l p t x u b below i =
    updated_case (λ ys. Present u ys → IsHeld (control_events h) (strand_of p) (IsSince h p) u) (log h) s (put_entry (suc (length h)) s v ∷ []) x
    (λ e k. elim k [
      | inl q ↦ (
        inl (sym q ∙ sym is_put),
        subst (λ y. Precedes (address (control_events h) (strand_of p)) (address (control_events h) (strand_of y))) (is_put ∙ q)
            (reaches-self (address (control_events h) (strand_of p))),
      )
      | inr q ↦ absurd q
    ])
    (λ ne. absurd (ne is_writer)) i
  where
    is_put : p ≡ put_entry (suc (length h)) s v
    is_put = newest_put h s v p t

    is_writer : x ≡ s
    is_writer =
        let lc = legal_control h l.0 in
        sym (running_law (control_events h) lc s x l.1 (precedes_reach (control_events h) lc s x (inl l.1) b
        (subst (λ y. Precedes (address (control_events h) y) (address (control_events h) x)) (ap strand_of is_put) below.0)))
