-- What each item does to the logs.
-- h: a history, of events or of items; e: an event; s, x: strands; j: a join; u: an update or put with its number; f: the logs of strands
use Rattle.std.proofs.Common.{◌≡◌, ◌⊎◌, ◌↔◌, inl, inr, ℕ, suc, ◌≤◌, Bool, List, [], ◌∷◌, ◌++◌, length, AllPairs, refl, sym, ap, ◌∙◌, subst, arith}
use Rattle.std.specs.List.{flat_map}
use Rattle.model_strands.specs.Updated.{updated}
use Rattle.model_strands.specs.History.{Event, split, same, joined, waits, call, resumed, ended, ended_joined, finished, History}
use Rattle.model_strands.specs.Strands.{Running, Begun}
use Rattle.model_strands.specs.Legal.{Allowed, sync_joined, sync_waits, child_return, last_return, root_return, Legal, start, then}
use Rattle.model_strands.specs.Dag.{Arrives}
use Rattle.law_strands.specs.Addresses.{IsEnglishBefore}
use Rattle.law_strands.specs.Views.{Covers}
use Rattle.law_strands.specs.Gatherings.{gathered}
use Rattle.law_strands.proofs.Updates.{updated_case}
use Rattle.law_strands.proofs.Members.{Present, present_append, contains_present}
use Rattle.law_strands.proofs.Range.{ranges}
use Rattle.law_strands.proofs.Holders.{holders, Splitting, splitting}
use Rattle.law_strands.proofs.EventKinds.{Joining, joining_sync, joining_return, Quiet, quiet_waits, quiet_ended, quiet_finished, quiet_same, quiet_call, quiet_resumed, arriving_sink, begun_earlier, covers_self}
use Rattle.law_strands.proofs.Kept.{begun_stays}
use Rattle.law_strands.proofs.Gatherings.{gathering_law}
use Rattle.model_reducers.specs.Items.{control, update, put, other, Items, control_events}
use Rattle.law_values.specs.Items.{AreLegalItems}
use Rattle.model_reducers.specs.Entries.{Entry, update_entry, put_entry, entry_number, strand_of, HasUpdate, HasPut}
use Rattle.law_values.specs.Logs.{logs_after, log}
use Rattle.law_values.proofs.Lists.{in_flat}

pub legal_control : (h : Items) → AreLegalItems h → Legal (control_events h)
legal_control [] l = start
legal_control (control e ∷ h) l = then (legal_control h l.0) l.1
legal_control (update s v ∷ h) l = legal_control h l.0
legal_control (put s v ∷ h) l = legal_control h l.0
legal_control (other s ∷ h) l = legal_control h l.0

-- what the join gathers is just what arrives at it, in serial order
pub record Gathering (history : History) (join : ℕ) : Type 0 where
  pub members : (strand : ℕ) → Present strand (gathered history join) ↔ Arrives history strand join
  pub ordered : AllPairs (IsEnglishBefore history) (gathered history join)

-- what an event does to logs
pub data LogStep (history : History) (logs : ℕ → List Entry) : Event → Type 0 where
  split_step : {strand child next join : ℕ} {first : Bool} → Splitting history strand child next join first →
      LogStep history logs (split strand child next join first)
  join_step : {event : Event} (strand join : ℕ) → Joining history event strand join → Gathering (event ∷ history) join →
      ((number : ℕ) → logs_after history event logs number ≡ updated logs join (flat_map logs (gathered (event ∷ history) join)) number) →
      LogStep history logs event
  quiet_step : {event : Event} → Quiet history event → ((number : ℕ) → logs_after history event logs number ≡ logs number) →
      LogStep history logs event

gathering_joined : (h : History) (s j : ℕ) → Legal (joined s j ∷ h) → Gathering (joined s j ∷ h) j
gathering_joined h s j l = let g = gathering_law h (joined s j) j l refl in record {
  members = λ x. (
    (λ i. (g.0 x).0 ((contains_present x (gathered (joined s j ∷ h) j)).1 i)),
    (λ a. (contains_present x (gathered (joined s j ∷ h) j)).0 ((g.0 x).1 a)),
  );
  ordered = g.1;
}

gathering_ended : (h : History) (s j : ℕ) → Legal (ended_joined s j ∷ h) → Gathering (ended_joined s j ∷ h) j
gathering_ended h s j l = let g = gathering_law h (ended_joined s j) j l refl in record {
  members = λ x. (
    (λ i. (g.0 x).0 ((contains_present x (gathered (ended_joined s j ∷ h) j)).1 i)),
    (λ a. (contains_present x (gathered (ended_joined s j ∷ h) j)).0 ((g.0 x).1 a)),
  );
  ordered = g.1;
}

pub step_of : (h : History) (f : ℕ → List Entry) (e : Event) → Legal h → Allowed h e → LogStep h f e
step_of h f (split s c n j first) l a = split_step (splitting h s c n j first (ranges l) (holders l) a)
step_of h f (joined s j) l (sync_joined {below = below} run st none) =
    let k : Legal (joined s j ∷ h) = then l (sync_joined {below = below} run st none) in
    join_step s j (joining_sync h s j below l k run st) (gathering_joined h s j k) (λ x. refl)
step_of h f (ended_joined s j) l (last_return {number = n} run st last) =
    let k : Legal (ended_joined s j ∷ h) = then l (last_return {number = n} run st last) in
    join_step s j (joining_return h s n j l k run st) (gathering_ended h s j k) (λ x. refl)
step_of h f (waits s) l (sync_waits {join = j} {below = below} run st m o) =
    quiet_step (quiet_waits h s l (then l (sync_waits {join = j} {below = below} run st m o)) run) (λ x. refl)
step_of h f (ended s) l (child_return {number = n} {join = j} run st last) =
    quiet_step (quiet_ended h s l (then l (child_return {number = n} {join = j} run st last)) run) (λ x. refl)
step_of h f (finished s) l (root_return run st) = quiet_step (quiet_finished h s l (then l (root_return run st)) run) (λ x. refl)
step_of h f (same s) l a = quiet_step (quiet_same h s l (then l a)) (λ x. refl)
step_of h f (call s) l a = quiet_step (quiet_call h s l (then l a)) (λ x. refl)
step_of h f (resumed s) l a = quiet_step (quiet_resumed h s l (then l a)) (λ x. refl)

-- A log holds entries of strands that its view holds.

abbrev pub Covered : History → (ℕ → List Entry) → Type 0
Covered history logs = (viewer : ℕ) (entry : Entry) → Begun history viewer → Present entry (logs viewer) → Covers history viewer (strand_of entry)

covered_step : (h : History) (e : Event) (f : ℕ → List Entry) → LogStep h f e → Covered h f → Covered (e ∷ h) (logs_after h e f)
covered_step h (split s c n j first) f (split_step w) old x u b i =
    updated_case (λ ys. Present u ys → Covers (split s c n j first ∷ h) x (strand_of u)) (updated f c (f s)) n [] x (λ e i. absurd i)
    (λ nn. updated_case (λ ys. Present u ys → Covers (split s c n j first ∷ h) x (strand_of u)) f c (f s) x
    (λ e i. inl (e, inr (old s u (inl w.runs) i)))
    (λ nc i. inr (inr (nc, nn, old x u (begun_earlier h s c n j first w x nc nn b) i)))) i
covered_step h e f (join_step s j g k same_log) old x u b i =
    updated_case (λ ys. Present u ys → Covers (e ∷ h) x (strand_of u)) f j (flat_map f (gathered (e ∷ h) j)) x
    (λ q m. let t = in_flat f (gathered (e ∷ h) j) u m in
    let a = (k.members t.0).0 t.1 in
    g.covered x (strand_of u) (inl (q, inr (t.0, a, old t.0 u (arriving_sink h e s j g t.0 a).0 t.2))))
    (λ ne m. elim (g.begun x b) [ inl q ↦ absurd (ne q) | inr q ↦ g.covered x (strand_of u) (inr (ne, old x u q m)) ])
    (subst (Present u) (same_log x) i)
covered_step h e f (quiet_step q same_log) old x u b i = q.covered x (strand_of u) (old x u (q.begun x b) (subst (Present u) (same_log x) i))

-- the newest entry is by the strand itself
covered_here : (h : History) → Legal h → (s x : ℕ) (u w : Entry) → Begun h x → x ≡ s → strand_of w ≡ s → w ≡ u → Covers h x (strand_of u)
covered_here h l s x u w b e k q = subst (λ y. Covers h x y) (e ∙ sym k ∙ ap strand_of q) (covers_self l x b)

pub covered : (h : Items) → AreLegalItems h → Covered (control_events h) (log h)
covered [] l x u b i = absurd i
covered (control e ∷ h) l x u b i =
    covered_step (control_events h) e (log h) (step_of (control_events h) (log h) e (legal_control h l.0) l.1) (covered h l.0) x u b i
covered (update s v ∷ h) l x u b i =
    updated_case (λ ys. Present u ys → Covers (control_events h) x (strand_of u)) (log h) s (log h s ++ (update_entry (suc (length h)) s v ∷ [])) x
    (λ e i. elim ((present_append (log h s) (update_entry (suc (length h)) s v ∷ []) u).0 i) [
      | inl t ↦ covered h l.0 x u b (subst (λ y. Present u (log h y)) (sym e) t)
      | inr t ↦ elim t [
        | inl q ↦ covered_here (control_events h) (legal_control h l.0) s x u (update_entry (suc (length h)) s v) b e refl q
        | inr q ↦ absurd q
      ]
    ])
    (λ ne i. covered h l.0 x u b i) i
covered (put s v ∷ h) l x u b i =
    updated_case (λ ys. Present u ys → Covers (control_events h) x (strand_of u)) (log h) s (put_entry (suc (length h)) s v ∷ []) x
    (λ e t. elim t [
      | inl q ↦ covered_here (control_events h) (legal_control h l.0) s x u (put_entry (suc (length h)) s v) b e refl q
      | inr q ↦ absurd q
    ])
    (λ ne i. covered h l.0 x u b i) i
covered (other s ∷ h) l x u b i = covered h l.0 x u b i

-- What holds of each member of all logs holds after an event.
pub members_after : (P : Entry → Type 0) (h : History) (e : Event) (f : ℕ → List Entry) → ((x : ℕ) (u : Entry) → Present u (f x) → P u) →
    (x : ℕ) (u : Entry) → Present u (logs_after h e f x) → P u
members_after P h (split s c n j first) f old x u i =
    updated_case (λ ys. Present u ys → P u) (updated f c (f s)) n [] x (λ e i. absurd i)
    (λ nn. updated_case (λ ys. Present u ys → P u) f c (f s) x (λ e i. old s u i) (λ nc i. old x u i)) i
members_after P h (joined s j) f old x u i =
    updated_case (λ ys. Present u ys → P u) f j (flat_map f (gathered (joined s j ∷ h) j)) x
    (λ e i. let t = in_flat f (gathered (joined s j ∷ h) j) u i in old t.0 u t.2) (λ ne i. old x u i) i
members_after P h (ended_joined s j) f old x u i =
    updated_case (λ ys. Present u ys → P u) f j (flat_map f (gathered (ended_joined s j ∷ h) j)) x
    (λ e i. let t = in_flat f (gathered (ended_joined s j ∷ h) j) u i in old t.0 u t.2) (λ ne i. old x u i) i
members_after P h (same s) f old x u i = old x u i
members_after P h (waits s) f old x u i = old x u i
members_after P h (call s) f old x u i = old x u i
members_after P h (resumed s) f old x u i = old x u i
members_after P h (ended s) f old x u i = old x u i
members_after P h (finished s) f old x u i = old x u i

-- The updates and puts have numbers among the items, and are by begun strands.

pub update_numbered : (h : Items) (u : Entry) → HasUpdate h u → entry_number u ≤ length h
update_numbered [] u t = absurd t
update_numbered (control e ∷ h) u t = let k = update_numbered h u t in omega arith
update_numbered (update s v ∷ h) u (inl e) = let k : entry_number u ≡ suc (length h) = ap entry_number e in omega arith
update_numbered (update s v ∷ h) u (inr t) = let k = update_numbered h u t in omega arith
update_numbered (put s v ∷ h) u t = let k = update_numbered h u t in omega arith
update_numbered (other s ∷ h) u t = let k = update_numbered h u t in omega arith

pub put_numbered : (h : Items) (u : Entry) → HasPut h u → entry_number u ≤ length h
put_numbered [] u t = absurd t
put_numbered (control e ∷ h) u t = let k = put_numbered h u t in omega arith
put_numbered (put s v ∷ h) u (inl e) = let k : entry_number u ≡ suc (length h) = ap entry_number e in omega arith
put_numbered (put s v ∷ h) u (inr t) = let k = put_numbered h u t in omega arith
put_numbered (update s v ∷ h) u t = let k = put_numbered h u t in omega arith
put_numbered (other s ∷ h) u t = let k = put_numbered h u t in omega arith

pub update_begun : (h : Items) → AreLegalItems h → (u : Entry) → HasUpdate h u → Begun (control_events h) (strand_of u)
update_begun [] l u t = absurd t
update_begun (control e ∷ h) l u t = begun_stays (then (legal_control h l.0) l.1) (strand_of u) (update_begun h l.0 u t)
update_begun (update s v ∷ h) l u (inl e) = inl (subst (λ w. Running (control_events h) (strand_of w)) (sym e) l.1)
update_begun (update s v ∷ h) l u (inr t) = update_begun h l.0 u t
update_begun (put s v ∷ h) l u t = update_begun h l.0 u t
update_begun (other s ∷ h) l u t = update_begun h l.0 u t

pub put_begun : (h : Items) → AreLegalItems h → (u : Entry) → HasPut h u → Begun (control_events h) (strand_of u)
put_begun [] l u t = absurd t
put_begun (control e ∷ h) l u t = begun_stays (then (legal_control h l.0) l.1) (strand_of u) (put_begun h l.0 u t)
put_begun (put s v ∷ h) l u (inl e) = inl (subst (λ w. Running (control_events h) (strand_of w)) (sym e) l.1)
put_begun (put s v ∷ h) l u (inr t) = put_begun h l.0 u t
put_begun (update s v ∷ h) l u t = put_begun h l.0 u t
put_begun (other s ∷ h) l u t = put_begun h l.0 u t

-- each member of a log was written
pub written : (h : Items) (x : ℕ) (u : Entry) → Present u (log h x) → HasUpdate h u ⊎ HasPut h u
written [] x u i = absurd i
written (control e ∷ h) x u i = members_after (λ w. HasUpdate h w ⊎ HasPut h w) (control_events h) e (log h) (written h) x u i
written (update s v ∷ h) x u i =
    updated_case (λ ys. Present u ys → HasUpdate (update s v ∷ h) u ⊎ HasPut h u) (log h) s (log h s ++ (update_entry (suc (length h)) s v ∷ [])) x
    (λ e i. elim ((present_append (log h s) (update_entry (suc (length h)) s v ∷ []) u).0 i) [
      | inl t ↦ older (written h s u t)
      | inr t ↦ elim t [ inl q ↦ inl (inl (sym q)) | inr q ↦ absurd q ]
    ])
    (λ ne i. older (written h x u i)) i
  where
    older : HasUpdate h u ⊎ HasPut h u → HasUpdate (update s v ∷ h) u ⊎ HasPut h u
    older (inl t) = inl (inr t)
    older (inr t) = inr t
written (put s v ∷ h) x u i =
    updated_case (λ ys. Present u ys → HasUpdate h u ⊎ HasPut (put s v ∷ h) u) (log h) s (put_entry (suc (length h)) s v ∷ []) x
    (λ e t. elim t [ inl q ↦ inr (inl (sym q)) | inr q ↦ absurd q ])
    (λ ne i. older (written h x u i)) i
  where
    older : HasUpdate h u ⊎ HasPut h u → HasUpdate h u ⊎ HasPut (put s v ∷ h) u
    older (inl t) = inl t
    older (inr t) = inr (inr t)
written (other s ∷ h) x u i = written h x u i

pub member_numbered : (h : Items) (x : ℕ) (u : Entry) → Present u (log h x) → entry_number u ≤ length h
member_numbered h x u i = elim (written h x u i) [ inl t ↦ update_numbered h u t | inr t ↦ put_numbered h u t ]

pub member_begun : (h : Items) → AreLegalItems h → (x : ℕ) (u : Entry) → Present u (log h x) → Begun (control_events h) (strand_of u)
member_begun h l x u i = elim (written h x u i) [ inl t ↦ update_begun h l u t | inr t ↦ put_begun h l u t ]
