-- Since the last put: the logs keep the put and the updates after it.
use Rattle.std.proofs.Common.{◌≡◌, ◌≢◌, ◌⊎◌, inl, inr, ℕ, suc, ◌<◌, ◌≤◌, List, [], ◌∷◌, ◌++◌, length, refl, sym, ap, ◌∙◌, subst, arith}
use Rattle.std.specs.List.{flat_map}
use Rattle.model_strands.specs.Updated.{updated}
use Rattle.model_strands.specs.History.{Event, split, History}
use Rattle.model_strands.specs.Strands.{status, Running, Begun, unused}
use Rattle.model_strands.specs.Legal.{Legal}
use Rattle.law_strands.specs.Views.{Covers}
use Rattle.law_strands.specs.Gatherings.{gathered}
use Rattle.law_strands.proofs.Updates.{updated_at, updated_off, updated_case}
use Rattle.law_strands.proofs.Members.{Present}
use Rattle.law_strands.proofs.Range.{ranges}
use Rattle.law_strands.proofs.Law.{begun_below, begun_not_reserved}
use Rattle.law_strands.proofs.Sinks.{running_law}
use Rattle.law_strands.proofs.EventKinds.{arriving_sink, begun_earlier}
use Rattle.law_strands.proofs.Views.{view_law}
use Rattle.model_reducers.specs.Items.{control, update, put, other, Items, control_events}
use Rattle.law_values.specs.Items.{AreLegalItems}
use Rattle.model_reducers.specs.Entries.{Entry, update_entry, put_entry, entry_number, strand_of, HasUpdate, HasPut}
use Rattle.law_values.specs.Logs.{logs_after, log}
use Rattle.model_reducers.specs.GetValues.{IsLastPut}
use Rattle.law_values.proofs.Lists.{in_left, in_right, flat_in}
use Rattle.law_values.proofs.Steps.{legal_control, LogStep, split_step, join_step, quiet_step, step_of, update_begun, put_begun, update_numbered, put_numbered}

-- the put itself, and the updates after it
abbrev pub IsSince : Items → Entry → Entry → Type 0
IsSince items last entry = (entry ≡ last) ⊎ (HasUpdate items entry × (entry_number last < entry_number entry))

-- a put that has just been made is the last one
pub newest_put : (h : Items) (s v : ℕ) (p : Entry) → IsLastPut (put s v ∷ h) p → p ≡ put_entry (suc (length h)) s v
newest_put h s v p t = go t.0
  where
    go : (p ≡ put_entry (suc (length h)) s v) ⊎ HasPut h p → p ≡ put_entry (suc (length h)) s v
    go (inl q) = q
    go (inr q) = absurd (let m : entry_number p ≤ length h = put_numbered h p q in
        let m' : suc (length h) ≤ entry_number p = t.1 (put_entry (suc (length h)) s v) (inl refl) in omega arith)

since_begun : (h : Items) → AreLegalItems h → (p : Entry) → HasPut h p → (u : Entry) → IsSince h p u → Begun (control_events h) (strand_of u)
since_begun h l p t u (inl e) = subst (λ w. Begun (control_events h) (strand_of w)) (sym e) (put_begun h l p t)
since_begun h l p t u (inr k) = update_begun h l u k.0

-- each of these entries is in the log of each strand whose view holds the entry's strand
abbrev pub Keeps : History → (ℕ → List Entry) → (Entry → Type 0) → Type 0
Keeps history logs IsOne = (viewer : ℕ) (entry : Entry) → Begun history viewer → IsOne entry → Covers history viewer (strand_of entry) → Present entry (logs viewer)

keeps_step : (h : History) (e : Event) (f : ℕ → List Entry) (P : Entry → Type 0) → Legal h → LogStep h f e → ((u : Entry) → P u → Begun h (strand_of u)) →
    Keeps h f P → Keeps (e ∷ h) (logs_after h e f) P
keeps_step h (split s c n j first) f P l (split_step w) known old x u b p (inl (e, inl g)) =
    absurd (let t : strand_of u < unused h = begun_below h (ranges l) (strand_of u) (known u p) in omega (arith, g, w.numbers.child_is))
keeps_step h (split s c n j first) f P l (split_step w) known old x u b p (inl (e, inr t)) =
    let apart : x ≢ n = λ q. omega (arith, q, e, w.numbers.child_is, w.numbers.next_is) in
    subst (Present u) (sym (updated_off (updated f c (f s)) n [] x apart ∙ updated_at f c (f s) x e)) (old s u (inl w.runs) p t)
keeps_step h (split s c n j first) f P l (split_step w) known old x u b p (inr (inl (e, g))) =
    absurd (let t : strand_of u < unused h = begun_below h (ranges l) (strand_of u) (known u p) in omega (arith, g, w.numbers.next_is))
keeps_step h (split s c n j first) f P l (split_step w) known old x u b p (inr (inr (nc, nn, t))) =
    subst (Present u) (sym (updated_off (updated f c (f s)) n [] x nn ∙ updated_off f c (f s) x nc))
    (old x u (begun_earlier h s c n j first w x nc nn b) p t)
keeps_step h e f P l (join_step s j g k same_log) known old x u b p cov = subst (Present u) (sym (same_log x)) (elim (g.covers x (strand_of u) cov) [
  | inl q ↦ subst (Present u) (sym (updated_at f j (flat_map f (gathered (e ∷ h) j)) x q.0)) (elim q.1 [
    | inl z ↦ absurd (begun_not_reserved h (strand_of u) (known u p) (ap (status h) z ∙ g.waits_for))
    | inr z ↦ flat_in f (gathered (e ∷ h) j) u z.0 ((k.members z.0).1 z.1) (old z.0 u (arriving_sink h e s j g z.0 z.1).0 p z.2)
  ])
  | inr q ↦ subst (Present u) (sym (updated_off f j (flat_map f (gathered (e ∷ h) j)) x q.0)) (elim (g.begun x b) [
    | inl z ↦ absurd (q.0 z)
    | inr z ↦ old x u z p q.1
  ])
])
keeps_step h e f P l (quiet_step q same_log) known old x u b p cov =
    subst (Present u) (sym (same_log x)) (old x u (q.begun x b) p (q.covers x (strand_of u) cov))

-- only a running strand's own view holds it
pub own_view : (h : History) → Legal h → (s x : ℕ) → Running h s → Begun h x → Covers h x s → x ≡ s
own_view h l s x run b c = sym (running_law h l s x run ((view_law h l).within x s b c).1)

pub keeps : (h : Items) → AreLegalItems h → (p : Entry) → IsLastPut h p → Keeps (control_events h) (log h) (IsSince h p)
keeps [] l p t x u b k c = absurd t.0
keeps (control e ∷ h) l p t x u b k c =
    keeps_step (control_events h) e (log h) (IsSince h p) (legal_control h l.0) (step_of (control_events h) (log h) e (legal_control h l.0) l.1)
    (since_begun h l.0 p t.0) (keeps h l.0 p t) x u b k c
keeps (other s ∷ h) l p t x u b k c = keeps h l.0 p t x u b k c
keeps (update s v ∷ h) l p t x u b k c =
    updated_case (Present u) (log h) s (log h s ++ (update_entry (suc (length h)) s v ∷ [])) x
    (λ e. at_writer (λ q. keeps h l.0 p t x u b q c) e k) (λ ne. elsewhere (λ q. keeps h l.0 p t x u b q c) ne k)
  where
    older : Present u (log h x) → x ≡ s → Present u (log h s ++ (update_entry (suc (length h)) s v ∷ []))
    older i e = in_left (log h s) (update_entry (suc (length h)) s v ∷ []) u (subst (λ y. Present u (log h y)) e i)

    at_writer : (IsSince h p u → Present u (log h x)) → x ≡ s → IsSince (update s v ∷ h) p u →
        Present u (log h s ++ (update_entry (suc (length h)) s v ∷ []))
    at_writer old e (inl q) = older (old (inl q)) e
    at_writer old e (inr (inl q, m)) = in_right (log h s) (update_entry (suc (length h)) s v ∷ []) u (inl (sym q))
    at_writer old e (inr (inr q, m)) = older (old (inr (q, m))) e

    elsewhere : (IsSince h p u → Present u (log h x)) → x ≢ s → IsSince (update s v ∷ h) p u → Present u (log h x)
    elsewhere old ne (inl q) = old (inl q)
    elsewhere old ne (inr (inr q, m)) = old (inr (q, m))
    elsewhere old ne (inr (inl q, m)) =
        let lc = legal_control h l.0 in
        absurd (ne (own_view (control_events h) lc s x l.1 b (subst (λ w. Covers (control_events h) x (strand_of w)) q c)))
keeps (put s v ∷ h) l p t x u b k c =
    updated_case (Present u) (log h) s (put_entry (suc (length h)) s v ∷ []) x (λ e. inl (sym (since k))) (λ ne. absurd (ne is_writer))
  where
    since : IsSince h p u → u ≡ put_entry (suc (length h)) s v
    since (inl q) = q ∙ newest_put h s v p t
    since (inr q) = absurd (let m : entry_number u ≤ length h = update_numbered h u q.0 in
        let m' : entry_number p ≡ suc (length h) = ap entry_number (newest_put h s v p t) in
        let lt : entry_number p < entry_number u = q.1 in omega arith)

    is_writer : x ≡ s
    is_writer =
        let lc = legal_control h l.0 in
        own_view (control_events h) lc s x l.1 b (subst (λ w. Covers (control_events h) x (strand_of w)) (since k) c)
