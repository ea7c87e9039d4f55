-- Frames of strands: later events leave them, all strands of a frame reach its last one, and each extends the frame's first strand.
-- h: a history; e: an event; s, x: strands; in a split, s is the spawner, c its child, n its next and j the join
use Rattle.std.proofs.Common.{◌≡◌, ◌≢◌, ◌⊎◌, inl, inr, ℕ, suc, ◌+◌, ◌<◌, ◌≤◌, Bool, true, false, [], ◌∷◌, length, refl, sym, ap, ◌∙◌, subst, arith}
use Rattle.model_strands.specs.History.{Event, split, same, joined, waits, call, resumed, ended, ended_joined, finished, History}
use Rattle.model_strands.specs.Strands.{Begun, unused}
use Rattle.model_strands.specs.Blocks.{Stack, root, spawned, called, block, caller, stack, enclosing, IsWaitedFor}
use Rattle.model_strands.specs.Legal.{Allowed, open_split, next_split, sync_joined, sync_waits, last_return, Legal, start, then}
use Rattle.model_strands.specs.Dag.{Arrives, Edge, Path, stay, step, Reaches}
use Rattle.law_strands.specs.Views.{IsSink}
use Rattle.law_strands.proofs.Updates.{same_or_not, updated_at, updated_off, updated_case}
use Rattle.law_strands.proofs.Places.{some_same, Seen, at_child, at_next, at_join, at_spawner, elsewhere}
use Rattle.law_strands.proofs.Range.{Numbered, numbered, ranges}
use Rattle.law_strands.proofs.Holders.{holders, Splitting, splitting}
use Rattle.law_strands.proofs.Calm.{calm_arrives}
use Rattle.law_strands.proofs.Law.{begun_below}
use Rattle.law_strands.proofs.Kept.{reach_stays, join_law}
use Rattle.law_strands.proofs.Sinks.{sink_before, sink_end, running_sink, running_law, arrives_over, arrived_sink}
use Rattle.law_strands.proofs.EventKinds.{Joining, joining_sync, joining_return, Quiet, quiet_waits, quiet_ended, quiet_finished, quiet_same, quiet_call, quiet_resumed, begun_earlier, begun_first}
use Rattle.law_strands.proofs.Finish.{running_of}
use Rattle.model_strands.specs.Addresses.{address}
use Rattle.law_addresses.specs.Address.{IsPrefix}
use Rattle.model_strands.specs.Address.{child, next, join}
use Rattle.law_addresses.proofs.Blocks.{prefix-transitive}
use Rattle.law_strands.proofs.Words.{◌▹◌, prefix_refl, prefix_widen}
use Rattle.law_strands.proofs.Sides.{origin}
use Rattle.model_runs.specs.Frames.{frame_of}

-- the frame of a strand
abbrev pub frame : History → ℕ → ℕ
frame history strand = frame_of (stack history strand)

caller_frame : (st : Stack) → frame_of (caller st) ≡ frame_of st
caller_frame root = refl
caller_frame (spawned n j) = refl
caller_frame (called n below) = refl
caller_frame (block j below) = refl

-- the frames after a split
pub record Framed (history : History) (strand the_child the_next the_join : ℕ) (first : Bool) : Type 0 where
  pub child : frame (split strand the_child the_next the_join first ∷ history) the_child ≡ suc (length history)
  pub next : frame (split strand the_child the_next the_join first ∷ history) the_next ≡ frame history strand
  pub join : first ≡ true → frame (split strand the_child the_next the_join first ∷ history) the_join ≡ frame history strand
  pub older : (number : ℕ) → number < unused history → frame (split strand the_child the_next the_join first ∷ history) number ≡ frame history number
  pub within : (number : ℕ) → (frame (split strand the_child the_next the_join first ∷ history) number ≡ suc (length history)) ⊎
      ((other : ℕ) × (frame (split strand the_child the_next the_join first ∷ history) number ≡ frame history other))

pub framed : (history : History) (strand the_child the_next the_join : ℕ) (first : Bool) →
    Numbered history strand the_child the_next the_join first → (first ≡ true → the_join ≡ 2 + unused history) →
    Framed history strand the_child the_next the_join first
framed h s c n j true w je =
    let top : j ≡ 2 + unused h = je refl in
    let cn : c ≢ n = omega (arith, w.child_is, w.next_is) in
    let cj : c ≢ j = omega (arith, w.child_is, top) in
    let nj : n ≢ j = omega (arith, w.next_is, top) in
    record {
      child = ap frame_of (updated_off _ j _ c cj ∙ (updated_off _ n _ c cn ∙ updated_at _ c _ c refl));
      next = ap frame_of (updated_off _ j _ n nj ∙ updated_at _ n _ n refl);
      join = λ e. ap frame_of (updated_at _ j _ j refl);
      older = λ x lt.
          let xj : x ≢ j = omega (arith, top) in
          let xn : x ≢ n = omega (arith, w.next_is) in
          let xc : x ≢ c = omega (arith, w.child_is) in
          ap frame_of (updated_off _ j _ x xj ∙ (updated_off _ n _ x xn ∙ updated_off _ c _ x xc));
      within = λ x.
          updated_case (λ st. (frame_of st ≡ suc (length h)) ⊎ ((other : ℕ) × (frame_of st ≡ frame h other))) _ j _ x (λ e. inr (s, refl))
          (λ a. updated_case (λ st. (frame_of st ≡ suc (length h)) ⊎ ((other : ℕ) × (frame_of st ≡ frame h other))) _ n _ x (λ e. inr (s, refl))
          (λ b. updated_case (λ st. (frame_of st ≡ suc (length h)) ⊎ ((other : ℕ) × (frame_of st ≡ frame h other))) (stack h) c _ x (λ e. inl refl) (λ d. inr (x, refl))));
    }
framed h s c n j false w je =
    let cn : c ≢ n = omega (arith, w.child_is, w.next_is) in
    record {
      child = ap frame_of (updated_off _ n _ c cn ∙ updated_at _ c _ c refl);
      next = ap frame_of (updated_at _ n _ n refl);
      join = λ e. absurd (cc);
      older = λ x lt.
          let xn : x ≢ n = omega (arith, w.next_is) in
          let xc : x ≢ c = omega (arith, w.child_is) in
          ap frame_of (updated_off _ n _ x xn ∙ updated_off _ c _ x xc);
      within = λ x.
          updated_case (λ st. (frame_of st ≡ suc (length h)) ⊎ ((other : ℕ) × (frame_of st ≡ frame h other))) _ n _ x (λ e. inr (s, refl))
          (λ b. updated_case (λ st. (frame_of st ≡ suc (length h)) ⊎ ((other : ℕ) × (frame_of st ≡ frame h other))) (stack h) c _ x (λ e. inl refl) (λ d. inr (x, refl)));
    }

-- the join of a block's first split
opened : {history : History} {strand the_child the_next the_join : ℕ} {first : Bool} → Allowed history (split strand the_child the_next the_join first) →
    first ≡ true → the_join ≡ 2 + unused history
opened (open_split run sy ce ne je) e = je
opened (next_split run st ce ne) e = absurd (cc)

pub framed_by : (history : History) (strand the_child the_next the_join : ℕ) (first : Bool) → Legal history →
    Allowed history (split strand the_child the_next the_join first) → Framed history strand the_child the_next the_join first
framed_by h s c n j first l a = framed h s c n j first (numbered h s c n j first (ranges l) a) (opened a)

-- an event that is no split leaves all frames
abbrev pub IsNoSplit : Event → Type 0
IsNoSplit (split strand the_child the_next the_join first) = ⊥
IsNoSplit event = Unit {0}

pub frame_same : (history : History) (event : Event) → IsNoSplit event → (strand : ℕ) → frame (event ∷ history) strand ≡ frame history strand
frame_same h (split s c n j first) k x = absurd k
frame_same h (same s) k x = refl
frame_same h (joined s j) k x = refl
frame_same h (waits s) k x = refl
frame_same h (call s) k x = updated_case (λ st. frame_of st ≡ frame h x) (stack h) s (called (suc (length h)) (stack h s)) x (λ e. ap (frame h) (sym e)) (λ ne. refl)
frame_same h (resumed s) k x =
    updated_case (λ st. frame_of st ≡ frame h x) (stack h) s (caller (stack h s)) x (λ e. caller_frame (stack h s) ∙ ap (frame h) (sym e)) (λ ne. refl)
frame_same h (ended s) k x = refl
frame_same h (ended_joined s j) k x = refl
frame_same h (finished s) k x = refl

pub frame_stays : {h : History} {e : Event} → Legal (e ∷ h) → (strand : ℕ) → strand < unused h → frame (e ∷ h) strand ≡ frame h strand
frame_stays (then {history = h} {event = split s c n j first} l a) x lt = (framed_by h s c n j first l a).older x lt
frame_stays (then {history = h} {event = same s} l a) x lt = refl
frame_stays (then {history = h} {event = joined s j} l a) x lt = refl
frame_stays (then {history = h} {event = waits s} l a) x lt = refl
frame_stays (then {history = h} {event = call s} l a) x lt = frame_same h (call s) tt x
frame_stays (then {history = h} {event = resumed s} l a) x lt = frame_same h (resumed s) tt x
frame_stays (then {history = h} {event = ended s} l a) x lt = refl
frame_stays (then {history = h} {event = ended_joined s j} l a) x lt = refl
frame_stays (then {history = h} {event = finished s} l a) x lt = refl

-- frames have the numbers of events
pub frame_bound : {h : History} → Legal h → (strand : ℕ) → frame h strand ≤ length h
frame_bound start x = omega arith
frame_bound (then {history = h} {event = split s c n j first} l a) x =
    elim ((framed_by h s c n j first l a).within x) [
      | inl e ↦ omega (arith, e)
      | inr t ↦ omega (arith, t.1, frame_bound l t.0)
    ]
frame_bound (then {history = h} {event = same s} l a) x = omega (arith, frame_bound l x)
frame_bound (then {history = h} {event = joined s j} l a) x = omega (arith, frame_bound l x)
frame_bound (then {history = h} {event = waits s} l a) x = omega (arith, frame_bound l x)
frame_bound (then {history = h} {event = call s} l a) x = omega (arith, frame_same h (call s) tt x, frame_bound l x)
frame_bound (then {history = h} {event = resumed s} l a) x = omega (arith, frame_same h (resumed s) tt x, frame_bound l x)
frame_bound (then {history = h} {event = ended s} l a) x = omega (arith, frame_bound l x)
frame_bound (then {history = h} {event = ended_joined s j} l a) x = omega (arith, frame_bound l x)
frame_bound (then {history = h} {event = finished s} l a) x = omega (arith, frame_bound l x)

-- who waits for a join stands in its frame

pub record Waiter (history : History) (join : ℕ) : Type 0 where
  pub strand : ℕ
  pub arrives : Arrives history strand join
  pub frame_is : frame history strand ≡ frame history join

waiter_stays : {h : History} {e : Event} → Legal (e ∷ h) → Legal h → (join : ℕ) → IsWaitedFor h join → Waiter h join → Waiter (e ∷ h) join
waiter_stays {h} {e} l' l k g w = record {
  strand = w.strand;
  arrives = calm_arrives h e w.strand k w.arrives;
  frame_is = frame_stays l' w.strand (begun_below h (ranges l) w.strand (inr (arrives_over l w.strand k w.arrives))) ∙ w.frame_is ∙
      sym (frame_stays l' k ((ranges l).waited_below k g));
}

pub waiter : {h : History} → Legal h → (join : ℕ) → IsWaitedFor h join → Waiter h join
waiter start k g = absurd g
waiter (then {history = h} {event = waits s} l (sync_waits {join = j} {below = below} run st m o)) k (inl e) =
    let j_is : j ≡ k = some_same (sym (ap enclosing st) ∙ e) in
    let below_is : stack h k ≡ below = subst (λ z. stack h z ≡ below) j_is (join_law h l s j below run st) in
    record { strand = s; arrives = inl (refl, e); frame_is = ap frame_of st ∙ sym (ap frame_of below_is) }
waiter (then {history = h} {event = waits s} l a) k (inr g) = waiter_stays (then l a) l k g (waiter l k g)
waiter (then {history = h} {event = split s c n j first} l a) k g = waiter_stays (then l a) l k g (waiter l k g)
waiter (then {history = h} {event = same s} l a) k g = waiter_stays (then l a) l k g (waiter l k g)
waiter (then {history = h} {event = joined s j} l a) k g = waiter_stays (then l a) l k g (waiter l k g)
waiter (then {history = h} {event = call s} l a) k g = waiter_stays (then l a) l k g (waiter l k g)
waiter (then {history = h} {event = resumed s} l a) k g = waiter_stays (then l a) l k g (waiter l k g)
waiter (then {history = h} {event = ended s} l a) k g = waiter_stays (then l a) l k g (waiter l k g)
waiter (then {history = h} {event = ended_joined s j} l a) k g = waiter_stays (then l a) l k g (waiter l k g)
waiter (then {history = h} {event = finished s} l a) k g = waiter_stays (then l a) l k g (waiter l k g)

-- all strands of a frame reach its last one

pub one_more : {R : ℕ → ℕ → Type 0} (a b c : ℕ) → Path R a b → R b c → Path R a c
one_more a b c stay r = step r stay
one_more a b c (step {between = m} q p) r = step q (one_more m b c p r)

abbrev pub Tips : History → Type 0
Tips history = (strand last : ℕ) → Begun history strand → IsSink history last → frame history strand ≡ frame history last → Reaches history strand last

tips_split : (h : History) (s c n j : ℕ) (first : Bool) → Legal h → Legal (split s c n j first ∷ h) → Allowed h (split s c n j first) → Tips h → Tips (split s c n j first ∷ h)
tips_split h s c n j first l l' a old x r bx sr e = go (same_or_not x c) (same_or_not x n) (same_or_not r c) (same_or_not r n)
  where
    w : Splitting h s c n j first
    w = splitting h s c n j first (ranges l) (holders l) a

    f : Framed h s c n j first
    f = framed_by h s c n j first l a

    is_old : (number : ℕ) → number ≢ c → number ≢ n → Begun (split s c n j first ∷ h) number → Begun h number
    is_old y yc yn b = begun_earlier h s c n j first w y yc yn b

    frame_old : (number : ℕ) → Begun h number → frame (split s c n j first ∷ h) number ≡ frame h number
    frame_old y b = f.older y (begun_below h (ranges l) y b)

    not_child : (number : ℕ) → frame (split s c n j first ∷ h) number ≡ frame (split s c n j first ∷ h) c → (other : ℕ) → frame (split s c n j first ∷ h) number ≡ frame h other → ⊥
    not_child y p o q = let b : frame h o ≤ length h = frame_bound l o in omega (arith, p, q, f.child)

    spawner_edge : Edge (split s c n j first ∷ h) s n
    spawner_edge = inl (inl (refl, inr refl))

    not_spawner : r ≢ s
    not_spawner p = sr.1 n (inl (inl (p, inr refl)))

    go : (x ≡ c) ⊎ (x ≢ c) → (x ≡ n) ⊎ (x ≢ n) → (r ≡ c) ⊎ (r ≢ c) → (r ≡ n) ⊎ (r ≢ n) → Reaches (split s c n j first ∷ h) x r
    go (inl xc) xn (inl rc) rn = subst (λ z. Reaches (split s c n j first ∷ h) x z) (xc ∙ sym rc) stay
    go (inl xc) xn (inr nrc) (inl rn) = absurd (not_child r (sym e ∙ ap (frame (split s c n j first ∷ h)) xc) s (ap (frame (split s c n j first ∷ h)) rn ∙ f.next))
    go (inl xc) xn (inr nrc) (inr nrn) =
        absurd (not_child r (sym e ∙ ap (frame (split s c n j first ∷ h)) xc) r (frame_old r (is_old r nrc nrn sr.0)))
    go (inr nxc) (inl xn) (inl rc) rn = absurd (not_child x (e ∙ ap (frame (split s c n j first ∷ h)) rc) s (ap (frame (split s c n j first ∷ h)) xn ∙ f.next))
    go (inr nxc) (inl xn) (inr nrc) (inl rn) = subst (λ z. Reaches (split s c n j first ∷ h) x z) (xn ∙ sym rn) stay
    go (inr nxc) (inl xn) (inr nrc) (inr nrn) =
        let b = is_old r nrc nrn sr.0 in
        let same_frame : frame h s ≡ frame h r = sym f.next ∙ ap (frame (split s c n j first ∷ h)) (sym xn) ∙ e ∙ frame_old r b in
        absurd (not_spawner (sym (running_law h l s r w.runs (old s r (inl w.runs) (sink_before h (split s c n j first) l' r b sr) same_frame))))
    go (inr nxc) (inr nxn) (inl rc) rn =
        absurd (not_child x (e ∙ ap (frame (split s c n j first ∷ h)) rc) x (frame_old x (is_old x nxc nxn bx)))
    go (inr nxc) (inr nxn) (inr nrc) (inl rn) =
        let b = is_old x nxc nxn bx in
        let same_frame : frame h x ≡ frame h s = sym (frame_old x b) ∙ e ∙ ap (frame (split s c n j first ∷ h)) rn ∙ f.next in
        let p = (reach_stays h (split s c n j first) l' x s b (inl w.runs)).1 (old x s b (running_sink h l s w.runs) same_frame) in
        subst (λ z. Reaches (split s c n j first ∷ h) x z) (sym rn) (one_more x s n p spawner_edge)
    go (inr nxc) (inr nxn) (inr nrc) (inr nrn) =
        let b = is_old x nxc nxn bx in
        let d = is_old r nrc nrn sr.0 in
        let same_frame : frame h x ≡ frame h r = sym (frame_old x b) ∙ e ∙ frame_old r d in
        (reach_stays h (split s c n j first) l' x r b d).1 (old x r b (sink_before h (split s c n j first) l' r d sr) same_frame)

tips_join : (h : History) (e : Event) (s j w : ℕ) → Joining h e s j → Tips h → ((x : ℕ) → frame (e ∷ h) x ≡ frame h x) → IsSink h w → Arrives (e ∷ h) w j →
    frame h w ≡ frame h j → Tips (e ∷ h)
tips_join h e s j w g old same_frames sw arrives fw x r bx sr q = go (g.begun x bx) (g.begun r sr.0)
  where
    both : frame h x ≡ frame h r
    both = sym (same_frames x) ∙ q ∙ same_frames r

    edge : Edge (e ∷ h) w j
    edge = inr (arrives, g.begins)

    go : (x ≡ j) ⊎ Begun h x → (r ≡ j) ⊎ Begun h r → Reaches (e ∷ h) x r
    go (inl xj) (inl rj) = subst (λ z. Reaches (e ∷ h) x z) (xj ∙ sym rj) stay
    go (inl xj) (inr b) =
        let sr' = sink_before h e g.after r b sr in
        let p = old w r sw.0 sr' (fw ∙ ap (frame h) (sym xj) ∙ both) in
        absurd (sr.1 j (subst (λ z. Edge (e ∷ h) z j) (sink_end h w r sw p) edge))
    go (inr b) (inl rj) =
        let p = old x w b sw (both ∙ ap (frame h) rj ∙ sym fw) in
        subst (λ z. Reaches (e ∷ h) x z) (sym rj) (one_more x w j ((reach_stays h e g.after x w b sw.0).1 p) edge)
    go (inr b) (inr d) = (reach_stays h e g.after x r b d).1 (old x r b (sink_before h e g.after r d sr) both)

tips_quiet : (h : History) (e : Event) → Quiet h e → ((x : ℕ) → frame (e ∷ h) x ≡ frame h x) → Tips h → Tips (e ∷ h)
tips_quiet h e q same_frames old x r bx sr k =
    let b = q.begun x bx in
    let d = q.begun r sr.0 in
    (reach_stays h e q.after x r b d).1 (old x r b (sink_before h e q.after r d sr) (sym (same_frames x) ∙ k ∙ same_frames r))

pub tips : {h : History} → Legal h → Tips h
tips start = λ x r bx sr e. subst (λ z. Reaches [] x z) (begun_first x bx ∙ sym (begun_first r sr.0)) stay
tips (then {history = h} {event = split s c n j first} l a) = tips_split h s c n j first l (then l a) a (tips l)
tips (then {history = h} {event = joined s j} l (sync_joined {below = below} run st none)) =
    let g = joining_sync h s j below l (then l (sync_joined {below = below} run st none)) run st in
    tips_join h (joined s j) s j s g (tips l) (λ x. refl) (running_sink h l s run) g.arrives_now
    (ap frame_of st ∙ sym (ap frame_of (join_law h l s j below run st)))
tips (then {history = h} {event = ended_joined s j} l (last_return {number = m} run st last)) =
    let g = joining_return h s m j l (then l (last_return {number = m} run st last)) run st in
    let w = waiter l j last.0 in
    tips_join h (ended_joined s j) s j w.strand g (tips l) (λ x. refl) (arrived_sink h l w.strand j w.arrives g.waits_for)
    (calm_arrives h (ended_joined s j) w.strand j w.arrives) w.frame_is
tips (then {history = h} {event = waits s} l (sync_waits {join = j} {below = below} run st m o)) =
    tips_quiet h (waits s) (quiet_waits h s l (then l (sync_waits {join = j} {below = below} run st m o)) run) (λ x. refl) (tips l)
tips (then {history = h} {event = ended s} l a) = tips_quiet h (ended s) (quiet_ended h s l (then l a) (running_of a)) (λ x. refl) (tips l)
tips (then {history = h} {event = finished s} l a) = tips_quiet h (finished s) (quiet_finished h s l (then l a) (running_of a)) (λ x. refl) (tips l)
tips (then {history = h} {event = same s} l a) = tips_quiet h (same s) (quiet_same h s l (then l a)) (λ x. refl) (tips l)
tips (then {history = h} {event = call s} l a) = tips_quiet h (call s) (quiet_call h s l (then l a)) (frame_same h (call s) tt) (tips l)
tips (then {history = h} {event = resumed s} l a) = tips_quiet h (resumed s) (quiet_resumed h s l (then l a)) (frame_same h (resumed s) tt) (tips l)

-- each strand of a frame extends the frame's first one, which is the child of the frame's split

abbrev pub Rooted : History → Type 0
Rooted history =
    (strand : ℕ) → strand < unused history → frame history strand ≢ 0 → IsPrefix (origin history (frame history strand) ▹ child) (address history strand)

-- the origins of earlier splits stay
pub origin_stays : (h : History) (e : Event) (number : ℕ) → number ≤ length h → origin (e ∷ h) number ≡ origin h number
origin_stays h (split s c n j first) m le = let ne : m ≢ suc (length h) = omega arith in updated_off (origin h) (suc (length h)) (address h s) m ne
origin_stays h (same s) m le = refl
origin_stays h (joined s j) m le = refl
origin_stays h (waits s) m le = refl
origin_stays h (call s) m le = refl
origin_stays h (resumed s) m le = refl
origin_stays h (ended s) m le = refl
origin_stays h (ended_joined s j) m le = refl
origin_stays h (finished s) m le = refl

rooted_split : (h : History) (s c n j : ℕ) (first : Bool) → Legal h → Allowed h (split s c n j first) → Rooted h → Rooted (split s c n j first ∷ h)
rooted_split h s c n j first l a old x lt nz = go ((numbered h s c n j first (ranges l) a).see x)
  where
    w : Numbered h s c n j first
    w = numbered h s c n j first (ranges l) a

    f : Framed h s c n j first
    f = framed_by h s c n j first l a

    after : History
    after = split s c n j first ∷ h

    -- a strand of the frame of an older one, which it extends
    below : (other : ℕ) → other < unused h → frame after x ≡ frame h other → IsPrefix (address h other) (address after x) →
        IsPrefix (origin after (frame after x) ▹ child) (address after x)
    below o lo e p =
        let nz' : frame h o ≢ 0 = λ z. nz (e ∙ z) in
        let q = old o lo nz' in
        let same_origin : origin after (frame after x) ≡ origin h (frame h o) = ap (origin after) e ∙ origin_stays h (split s c n j first) (frame h o) (frame_bound l o) in
        subst (λ y. IsPrefix (y ▹ child) (address after x)) (sym same_origin) (prefix-transitive _ (address h o) (address after x) q p)

    go : Seen h s c n j first x → IsPrefix (origin after (frame after x) ▹ child) (address after x)
    go (at_child xe g p q) =
        let same_origin : origin after (frame after x) ≡ address h s =
        ap (origin after) (ap (frame after) xe ∙ f.child) ∙ updated_at (origin h) (suc (length h)) (address h s) (suc (length h)) refl in
        subst (λ y. IsPrefix (y ▹ child) (address after x)) (sym same_origin) (subst (IsPrefix (address h s ▹ child)) (sym q) (prefix_refl (address h s ▹ child)))
    go (at_next xe g p q) =
        below s w.spawner_known (ap (frame after) xe ∙ f.next) (subst (IsPrefix (address h s)) (sym q) (prefix_widen (address h s) (address h s) next (prefix_refl (address h s))))
    go (at_join xe lo t g p q) =
        below s w.spawner_known (ap (frame after) xe ∙ f.join t) (subst (IsPrefix (address h s)) (sym q) (prefix_widen (address h s) (address h s) join (prefix_refl (address h s))))
    go (at_spawner xe g p q) =
        below s w.spawner_known (ap (frame after) xe ∙ f.older s w.spawner_known) (subst (IsPrefix (address h s)) (sym q) (prefix_refl (address h s)))
    go (elsewhere ne (inl k) g p q) = below x k (f.older x k) (subst (IsPrefix (address h x)) (sym q) (prefix_refl (address h x)))
    go (elsewhere ne (inr k) g p q) = absurd (omega (arith, lt))

rooted_same : (h : History) (e : Event) → ((x : ℕ) → frame (e ∷ h) x ≡ frame h x) → ((x : ℕ) → x < unused (e ∷ h) → x < unused h) →
    ((x : ℕ) → address (e ∷ h) x ≡ address h x) → ((m : ℕ) → origin (e ∷ h) m ≡ origin h m) → Rooted h → Rooted (e ∷ h)
rooted_same h e frames below addresses origins old x lt nz =
    let q = old x (below x lt) (λ z. nz (frames x ∙ z)) in
    let same_origin : origin (e ∷ h) (frame (e ∷ h) x) ≡ origin h (frame h x) = origins (frame (e ∷ h) x) ∙ ap (origin h) (frames x) in
    subst (λ y. IsPrefix (y ▹ child) (address (e ∷ h) x)) (sym same_origin) (subst (IsPrefix (origin h (frame h x) ▹ child)) (sym (addresses x)) q)

pub rooted : {h : History} → Legal h → Rooted h
rooted start = λ x lt nz. absurd (nz refl)
rooted (then {history = h} {event = split s c n j first} l a) = rooted_split h s c n j first l a (rooted l)
rooted (then {history = h} {event = same s} l a) = rooted l
rooted (then {history = h} {event = joined s j} l a) = rooted l
rooted (then {history = h} {event = waits s} l a) = rooted l
rooted (then {history = h} {event = call s} l a) = rooted_same h (call s) (frame_same h (call s) tt) (λ x lt. lt) (λ x. refl) (λ m. refl) (rooted l)
rooted (then {history = h} {event = resumed s} l a) = rooted_same h (resumed s) (frame_same h (resumed s) tt) (λ x lt. lt) (λ x. refl) (λ m. refl) (rooted l)
rooted (then {history = h} {event = ended s} l a) = rooted l
rooted (then {history = h} {event = ended_joined s j} l a) = rooted l
rooted (then {history = h} {event = finished s} l a) = rooted l
