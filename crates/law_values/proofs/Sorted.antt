-- Each log is in serial order.
-- h: a history; e: an event; x, y, z: strands; u, v: updates or puts with their numbers; f: the logs of strands
use Rattle.std.proofs.Common.{◌≡◌, ◌⊎◌, ◌↔◌, inl, inr, ℕ, suc, ◌<◌, ◌≤◌, List, [], ◌∷◌, ◌++◌, length, AllPairs, refl, sym, subst, arith}
use Rattle.std.specs.List.{flat_map}
use Rattle.std.proofs.lemmas.List.Elements.{All-nil}
use Rattle.std.proofs.lemmas.List.Kept.{AllPairs-cons}
use Rattle.law_addresses.proofs.Sorted.{pairs-nil}
use Rattle.model_strands.specs.Updated.{updated}
use Rattle.model_strands.specs.History.{Event, split, History}
use Rattle.model_strands.specs.Strands.{Begun}
use Rattle.model_strands.specs.Legal.{Legal, then}
use Rattle.law_strands.specs.Addresses.{IsEnglishBefore}
use Rattle.law_strands.specs.Views.{IsSink}
use Rattle.law_strands.specs.Gatherings.{gathered}
use Rattle.law_strands.proofs.Updates.{updated_case}
use Rattle.law_strands.proofs.Members.{Present, pairs_alike, pairs_push}
use Rattle.law_strands.proofs.Branches.{stability_law}
use Rattle.law_strands.proofs.EventKinds.{arriving_sink, begun_earlier}
use Rattle.law_strands.proofs.Views.{reach_english, view_law}
use Rattle.model_reducers.specs.Items.{control, update, put, other, Items, control_events}
use Rattle.law_values.specs.Items.{AreLegalItems}
use Rattle.model_reducers.specs.Entries.{Entry, update_entry, put_entry, entry_number, strand_of}
use Rattle.law_values.specs.Logs.{logs_after, log}
use Rattle.law_values.proofs.Lists.{pairs_flat}
use Rattle.law_values.proofs.Steps.{legal_control, LogStep, split_step, join_step, quiet_step, step_of, Covered, covered, member_numbered}

-- the serial order of entries, by the English order of their strands
abbrev pub IsEarlier : History → Entry → Entry → Type 0
IsEarlier history entry later =
    IsEnglishBefore history (strand_of entry) (strand_of later) ⊎ ((strand_of entry ≡ strand_of later) × (entry_number entry < entry_number later))

-- the logs of begun strands are sorted
abbrev pub Sorted : History → (ℕ → List Entry) → Type 0
Sorted history logs = (strand : ℕ) → Begun history strand → AllPairs (IsEarlier history) (logs strand)

-- an event leaves the order of two begun strands
english_stays : (h : History) (e : Event) → Legal (e ∷ h) → (x y : ℕ) → Begun h x → Begun h y → IsEnglishBefore (e ∷ h) x y ↔ IsEnglishBefore h x y
english_stays h e l x y bx by = ((stability_law h (e ∷ h) (e ∷ [], refl) l x bx).1 y by).english

serial_stays : (h : History) (e : Event) → Legal (e ∷ h) → (u v : Entry) → Begun h (strand_of u) → Begun h (strand_of v) → IsEarlier h u v → IsEarlier (e ∷ h) u v
serial_stays h e l u v bu bv (inl a) = inl ((english_stays h e l (strand_of u) (strand_of v) bu bv).1 a)
serial_stays h e l u v bu bv (inr a) = inr a

sorted_stays : (h : History) (e : Event) (f : ℕ → List Entry) → Legal h → Legal (e ∷ h) → Covered h f → Sorted h f → (x : ℕ) → Begun h x →
    AllPairs (IsEarlier (e ∷ h)) (f x)
sorted_stays h e f l l' c old x b =
    pairs_alike (IsEarlier h) (IsEarlier (e ∷ h)) (f x)
    (λ u v i k a. serial_stays h e l' u v ((view_law h l).within x (strand_of u) b (c x u b i)).0 ((view_law h l).within x (strand_of v) b (c x v b k)).0 a)
    (old x b)

sorted_step : (h : History) (e : Event) (f : ℕ → List Entry) → Legal h → Legal (e ∷ h) → LogStep h f e → Covered h f → Sorted h f → Sorted (e ∷ h) (logs_after h e f)
sorted_step h (split s c n j first) f l l' (split_step w) cov old x b =
    updated_case (AllPairs (IsEarlier (split s c n j first ∷ h))) (updated f c (f s)) n [] x (λ e. pairs-nil (IsEarlier (split s c n j first ∷ h)))
    (λ nn. updated_case (AllPairs (IsEarlier (split s c n j first ∷ h))) f c (f s) x
    (λ e. sorted_stays h (split s c n j first) f l l' cov old s (inl w.runs))
    (λ nc. sorted_stays h (split s c n j first) f l l' cov old x (begun_earlier h s c n j first w x nc nn b)))
sorted_step h e f l l' (join_step s j g k same_log) cov old x b =
    subst (AllPairs (IsEarlier (e ∷ h))) (sym (same_log x))
    (updated_case (AllPairs (IsEarlier (e ∷ h))) f j (flat_map f (gathered (e ∷ h) j)) x
    (λ q. pairs_flat (IsEarlier (e ∷ h)) (IsEnglishBefore (e ∷ h)) f (gathered (e ∷ h) j) (λ y i. sorted_stays h e f l l' cov old y (sink y i).0) k.ordered across)
    (λ ne. elim (g.begun x b) [ inl q ↦ absurd (ne q) | inr q ↦ sorted_stays h e f l l' cov old x q ]))
  where
    sink : (y : ℕ) → Present y (gathered (e ∷ h) j) → IsSink h y
    sink y i = arriving_sink h e s j g y ((k.members y).0 i)

    across : (y z : ℕ) (u v : Entry) → Present y (gathered (e ∷ h) j) → Present z (gathered (e ∷ h) j) → IsEnglishBefore (e ∷ h) y z → Present u (f y) → Present v (f z) →
        IsEarlier (e ∷ h) u v
    across y z u v iy iz a iu iv =
        let sy = sink y iy in
        let sz = sink z iz in
        let cy = cov y u sy.0 iu in
        let cz = cov z v sz.0 iv in
        let views = view_law h l in
        let a' = (english_stays h e l' y z sy.0 sz.0).0 a in
        inl ((english_stays h e l' (strand_of u) (strand_of v) (views.within y (strand_of u) sy.0 cy).0 (views.within z (strand_of v) sz.0 cz).0).1
        (views.ordered y z (strand_of u) (strand_of v) sy sz a' cy cz))
sorted_step h e f l l' (quiet_step q same_log) cov old x b =
    subst (AllPairs (IsEarlier (e ∷ h))) (sym (same_log x)) (sorted_stays h e f l l' cov old x (q.begun x b))

pub sorted : (h : Items) → AreLegalItems h → Sorted (control_events h) (log h)
sorted [] l x b = pairs-nil (IsEarlier [])
sorted (control e ∷ h) l x b =
    sorted_step (control_events h) e (log h) (legal_control h l.0) (then (legal_control h l.0) l.1)
    (step_of (control_events h) (log h) e (legal_control h l.0) l.1) (covered h l.0) (sorted h l.0) x b
sorted (update s v ∷ h) l x b =
    updated_case (AllPairs (IsEarlier (control_events h))) (log h) s (log h s ++ (update_entry (suc (length h)) s v ∷ [])) x
    (λ e. pairs_push (IsEarlier (control_events h)) (log h s) (update_entry (suc (length h)) s v) (sorted h l.0 s (inl l.1)) later)
    (λ ne. sorted h l.0 x b)
  where
    later : (u : Entry) → Present u (log h s) → IsEarlier (control_events h) u (update_entry (suc (length h)) s v)
    later u i =
        let c = legal_control h l.0 in
        let t = (view_law (control_events h) c).within s (strand_of u) (inl l.1) (covered h l.0 s u (inl l.1) i) in
        let m : entry_number u ≤ length h = member_numbered h s u i in
        elim (reach_english (control_events h) c (strand_of u) s t.0 (inl l.1) t.1) [
          | inl e ↦ inr (e, omega arith)
          | inr a ↦ inl a
        ]
sorted (put s v ∷ h) l x b =
    updated_case (AllPairs (IsEarlier (control_events h))) (log h) s (put_entry (suc (length h)) s v ∷ []) x
    (λ e. AllPairs-cons (IsEarlier (control_events h)) (put_entry (suc (length h)) s v) [] (All-nil (IsEarlier (control_events h) (put_entry (suc (length h)) s v)))
    (pairs-nil (IsEarlier (control_events h))))
    (λ ne. sorted h l.0 x b)
sorted (other s ∷ h) l x b = sorted h l.0 x b
