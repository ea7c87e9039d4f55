-- One strand at most goes on for each frame, and it stands at the frame's front.
-- h: a history; e: an event; k: a strand, and so m and n where they are numbers; in a split, s is the spawner, c its child, n its next and
-- j the join
use Rattle.std.proofs.Common.{◌≡◌, ◌≢◌, ◌⊎◌, inl, inr, ℕ, suc, ◌<◌, ◌≤◌, Bool, true, false, [], ◌∷◌, length, refl, sym, ap, ap₂, ◌∙◌, subst, arith}
use Rattle.model_strands.specs.Address.{Address, child, next, join, extended}
use Rattle.model_strands.specs.Updated.{updated}
use Rattle.model_strands.specs.History.{Event, split, same, joined, waits, call, resumed, ended, ended_joined, finished, History}
use Rattle.model_strands.specs.Strands.{absent, reserved, running, over, status, Running, unused}
use Rattle.model_strands.specs.Blocks.{Stack, root, spawned, called, block, caller, stack, enclosing, IsSynced, IsWaitedFor}
use Rattle.model_strands.specs.Legal.{Allowed, open_split, next_split, sync_same, sync_joined, sync_waits, function_call, called_return, child_return, last_return, root_return, Legal, start, then}
use Rattle.model_strands.specs.Addresses.{address}
use Rattle.law_strands.specs.Acts.{strand_of}
use Rattle.law_strands.proofs.Updates.{same_or_not, updated_at, updated_off, updated_case}
use Rattle.law_strands.proofs.Places.{place_of, join_of, Seen, at_child, at_next, at_join, at_spawner, elsewhere, some_same, running_not_reserved, over_not_reserved, running_not_over, Ranges}
use Rattle.law_strands.proofs.Range.{ranges, child_seen, next_seen}
use Rattle.law_strands.proofs.Holders.{holders, Splitting, splitting, running_open, join_reserved, reserved_before_end, reserved_before_join}
use Rattle.law_strands.proofs.Kept.{address_stays, Rests, rests, join_law}
use Rattle.model_runs.specs.Frames.{frame_of}
use Rattle.law_interleavings.specs.Fronts.{Nest, inside, opened, gone, Front, first_front, after_spawn, after_sync, after_return, moved, act_in, frame_at, moved_by, front, nest_of, stands_at, IsActive, IsBegun, AreFronts}

-- who goes on after an event of a strand
abbrev join_here : Stack → ℕ
join_here (block the_join below) = the_join
join_here _ = 0

abbrev heir : History → Event → ℕ
heir history (split strand the_child the_next the_join first) = the_next
heir history (joined strand the_join) = the_join
heir history (waits strand) = join_here (stack history strand)
heir history event = strand_of event

-- the child that an event begins
abbrev IsChild : Event → ℕ → Type 0
IsChild (split strand the_child the_next the_join first) number = number ≡ the_child
IsChild event number = ⊥

-- an active strand after an event
data After (history : History) (event : Event) (number : ℕ) : Type 0 where
  still : number ≢ strand_of event → IsActive history number → stack (event ∷ history) number ≡ stack history number → After history event number
  goes_on : number ≡ heir history event → frame_at (event ∷ history) number ≡ frame_at history (strand_of event) →
      stands_at (event ∷ history) number ≡ moved (stands_at history (strand_of event)) (act_in event) → After history event number
  begins : IsChild event number → frame_at (event ∷ history) number ≡ suc (length history) →
      stands_at (event ∷ history) number ≡ first_front (extended (address history (strand_of event)) child) → After history event number

-- the nest of a known stack stays
nest_stays : (h : History) (e : Event) → Legal (e ∷ h) → (st : Stack) → Rests h st → nest_of (e ∷ h) st ≡ nest_of h st
nest_stays h e l root r = refl
nest_stays h e l (spawned n j) r = refl
nest_stays h e l (called n below) r = ap inside (nest_stays h e l below r)
nest_stays h e l (block j below) r = ap₂ (λ a b. opened a b) (address_stays l j r.0) (nest_stays h e l below r.2)

abbrev stood : Address → Nest → Front
stood here nest = record { here = here; nest = nest }

front_is : (a b : Address) (m n : Nest) → a ≡ b → m ≡ n → stood a m ≡ stood b n
front_is a b m n e f = λ i. record { here = e i; nest = f i }

spawn_synced : (h : History) (here : Address) (st : Stack) → IsSynced st →
    after_spawn here (nest_of h st) ≡ stood (extended here next) (opened (extended here join) (nest_of h st))
spawn_synced h here root y = refl
spawn_synced h here (spawned n j) y = refl
spawn_synced h here (called n below) y = refl
spawn_synced h here (block j below) y = absurd y

sync_synced : (h : History) (here : Address) (st : Stack) → IsSynced st → after_sync here (nest_of h st) ≡ stood here (nest_of h st)
sync_synced h here root y = refl
sync_synced h here (spawned n j) y = refl
sync_synced h here (called n below) y = refl
sync_synced h here (block j below) y = absurd y

-- the status of an active strand
active_not_over : (h : History) (n : ℕ) → IsActive h n → status h n ≡ over → ⊥
active_not_over h n (inl r) o = running_not_over r o
active_not_over h n (inr r) o = over_not_reserved o r.0

active_not_absent : (h : History) (n : ℕ) → IsActive h n → status h n ≡ absent → ⊥
active_not_absent h n (inl r) o = cc
active_not_absent h n (inr r) o = let k = r.0 in cc

active_below : (h : History) → Ranges h → (n : ℕ) → IsActive h n → n < unused h
active_below h r n a = elim (below n (unused h)) [ inl t ↦ t | inr t ↦ absurd (active_not_absent h n a (r.absent_beyond n t)) ]
  where
    below : (m k : ℕ) → (m < k) ⊎ (k ≤ m)
    below m k = grind arith

-- a number that is not of the split's
apart_from_split : (h : History) (s c n j : ℕ) (first : Bool) (k : ℕ) → k ≢ c → k ≢ n → (first ≡ true → k ≢ j) →
    stack (split s c n j first ∷ h) k ≡ stack h k
apart_from_split h s c n j true k kc kn kj = updated_off _ j _ k (kj refl) ∙ (updated_off _ n _ k kn ∙ updated_off _ c _ k kc)
apart_from_split h s c n j false k kc kn kj = updated_off _ n _ k kn ∙ updated_off _ c _ k kc

active_as : (h : History) (e : Event) (k : ℕ) → status (e ∷ h) k ≡ status h k → (IsWaitedFor (e ∷ h) k → IsWaitedFor h k) → IsActive (e ∷ h) k → IsActive h k
active_as h e k q w (inl r) = inl (sym q ∙ r)
active_as h e k q w (inr r) = inr (sym q ∙ r.0, w r.1)

child_stack : (h : History) (s c n j : ℕ) (first : Bool) → c ≢ n → (first ≡ true → c ≢ j) → stack (split s c n j first ∷ h) c ≡ spawned (suc (length h)) j
child_stack h s c n j true cn cj = updated_off _ j _ c (cj refl) ∙ (updated_off _ n _ c cn ∙ updated_at _ c _ c refl)
child_stack h s c n j false cn cj = updated_off _ n _ c cn ∙ updated_at _ c _ c refl

next_stack : (h : History) (s c n j : ℕ) (k : ℕ) → k ≡ n → k ≢ j → stack (split s c n j true ∷ h) k ≡ block j (stack h s)
next_stack h s c n j k kn kj = updated_off _ j _ k kj ∙ updated_at _ n _ k kn

join_address : (h : History) (s c n j : ℕ) → address (split s c n j true ∷ h) j ≡ extended (address h s) join
join_address h s c n j = updated_at _ j _ j refl

-- an active strand after the first split of a block
after_open : (h : History) (s c n j : ℕ) → Legal h → (a : Allowed h (split s c n j true)) → (k : ℕ) → IsActive (split s c n j true ∷ h) k →
    After h (split s c n j true) k
after_open h s c n j l (open_split run sy ce ne je) k act = go (w.numbers.see k)
  where
    legal : Legal (split s c n j true ∷ h)
    legal = then l (open_split run sy ce ne je)

    w : Splitting h s c n j true
    w = splitting h s c n j true (ranges l) (holders l) (open_split run sy ce ne je)

    e : Event
    e = split s c n j true

    below : s < unused h
    below = w.numbers.spawner_known

    nests : nest_of (split s c n j true ∷ h) (stack h s) ≡ nest_of h (stack h s)
    nests = nest_stays h (split s c n j true) legal (stack h s) (rests l s)

    go : Seen h s c n j true k → After h (split s c n j true) k
    go (at_child xe st pl ad) =
        let sk : stack (split s c n j true ∷ h) k ≡ spawned (suc (length h)) j = ap (stack (split s c n j true ∷ h)) xe ∙ child_stack h s c n j true (omega arith) (λ f. omega arith) in
        begins xe (ap frame_of sk) (front_is _ _ _ _ ad (ap (nest_of (split s c n j true ∷ h)) sk))
    go (at_next xe st pl ad) =
        let nj : k ≢ j = omega arith in
        let sk = next_stack h s c n j k xe nj in
        let aj = join_address h s c n j in
        goes_on xe (ap frame_of sk)
        (front_is (address (split s c n j true ∷ h) k) (extended (address h s) next) (nest_of (split s c n j true ∷ h) (stack (split s c n j true ∷ h) k))
        (opened (extended (address h s) join) (nest_of h (stack h s))) ad (ap (nest_of (split s c n j true ∷ h)) sk ∙ ap₂ (λ a b. opened a b) aj nests)
        ∙ sym (spawn_synced h (address h s) (stack h s) sy))
    go (at_join xe lo f st pl ad) = elim act [
      | inl r ↦ absurd (running_not_reserved r st)
      | inr r ↦ absurd (w.no_sync_yet (subst (IsWaitedFor h) xe r.1))
    ]
    go (at_spawner xe st pl ad) = absurd (active_not_over (split s c n j true ∷ h) k act st)
    go (elsewhere ns (inl kn) st pl ad) =
        still ns (active_as h (split s c n j true) k st (λ t. t) act) (apart_from_split h s c n j true k (omega arith) (omega arith) (λ f. omega arith))
    go (elsewhere ns (inr kn) st pl ad) =
        still ns (active_as h (split s c n j true) k st (λ t. t) act) (apart_from_split h s c n j true k (omega arith) (omega arith) (λ f. omega arith))

-- and after a later one
after_next : (h : History) (s c n j : ℕ) → Legal h → (a : Allowed h (split s c n j false)) → (k : ℕ) → IsActive (split s c n j false ∷ h) k →
    After h (split s c n j false) k
after_next h s c n j l (next_split {below = below_it} run sb ce ne) k act = go (w.numbers.see k)
  where
    legal : Legal (split s c n j false ∷ h)
    legal = then l (next_split run sb ce ne)

    w : Splitting h s c n j false
    w = splitting h s c n j false (ranges l) (holders l) (next_split run sb ce ne)

    below : s < unused h
    below = w.numbers.spawner_known

    nests : nest_of (split s c n j false ∷ h) (stack h s) ≡ nest_of h (stack h s)
    nests = nest_stays h (split s c n j false) legal (stack h s) (rests l s)

    spawn_again : (st : Stack) → st ≡ block j below_it → stood (extended (address h s) next) (nest_of h st) ≡ after_spawn (address h s) (nest_of h st)
    spawn_again st f = subst (λ z. stood (extended (address h s) next) (nest_of h z) ≡ after_spawn (address h s) (nest_of h z)) (sym f) refl

    go : Seen h s c n j false k → After h (split s c n j false) k
    go (at_child xe st pl ad) =
        let sk : stack (split s c n j false ∷ h) k ≡ spawned (suc (length h)) j = ap (stack (split s c n j false ∷ h)) xe ∙ child_stack h s c n j false (omega arith) (λ f. absurd (cc)) in
        begins xe (ap frame_of sk) (front_is _ _ _ _ ad (ap (nest_of (split s c n j false ∷ h)) sk))
    go (at_next xe st pl ad) =
        let sk : stack (split s c n j false ∷ h) k ≡ stack h s = updated_at _ n _ k xe in
        goes_on xe (ap frame_of sk)
        (front_is _ _ _ _ ad (ap (nest_of (split s c n j false ∷ h)) sk ∙ nests) ∙ spawn_again (stack h s) sb)
    go (at_join xe lo f st pl ad) = absurd (cc)
    go (at_spawner xe st pl ad) = absurd (active_not_over (split s c n j false ∷ h) k act st)
    go (elsewhere ns (inl kn) st pl ad) =
        still ns (active_as h (split s c n j false) k st (λ t. t) act) (apart_from_split h s c n j false k (omega arith) (omega arith) (λ f. absurd (cc)))
    go (elsewhere ns (inr kn) st pl ad) =
        still ns (active_as h (split s c n j false) k st (λ t. t) act)
        (apart_from_split h s c n j false k (omega (arith, w.numbers.grows)) (omega (arith, w.numbers.grows)) (λ f. absurd (cc)))

-- who runs on after the end of another
run_before_end : (h : History) (s k : ℕ) → updated (status h) s over k ≡ running → (k ≢ s) × (status h k ≡ running)
run_before_end h s k = updated_case (λ t. t ≡ running → (k ≢ s) × (status h k ≡ running)) (status h) s over k (λ e g. absurd (cc)) (λ ne g. (ne, g))

not_itself : (h : History) (s k : ℕ) → Running h s → status h k ≡ reserved → k ≢ s
not_itself h s k run r e = running_not_reserved (ap (status h) e ∙ run) r

-- an active strand after each other event
after_joined : (h : History) (s j : ℕ) (below : Stack) → Legal h → Running h s → stack h s ≡ block j below → (a : Allowed h (joined s j)) → (k : ℕ) →
    IsActive (joined s j ∷ h) k → After h (joined s j) k
after_joined h s j below l run st a k act = elim (same_or_not k j) [ inl e ↦ at_join_now e | inr ne ↦ off ne act ]
  where
    at_join_now : k ≡ j → After h (joined s j) k
    at_join_now e =
        let sk : stack h k ≡ below = ap (stack h) e ∙ join_law h l s j below run st in
        goes_on e (ap frame_of sk ∙ sym (ap frame_of st))
        (subst (λ z. stands_at (joined s j ∷ h) k ≡ after_sync (address h s) (nest_of h z)) (sym st)
        (front_is _ _ _ _ (ap (address h) e) (nest_stays h (joined s j) (then l a) (stack h k) (rests l k) ∙ ap (nest_of h) sk)))

    off : k ≢ j → IsActive (joined s j ∷ h) k → After h (joined s j) k
    off ne (inl r) = let t = run_before_end h s k (sym (updated_off _ j running k ne) ∙ r) in still t.0 (inl t.1) refl
    off ne (inr r) = let t = (reserved_before_join h s j k r.0).1 in still (not_itself h s k run t) (inr (t, r.1)) refl

after_waits : (h : History) (s j : ℕ) (below : Stack) → Legal h → Running h s → stack h s ≡ block j below → (a : Allowed h (waits s)) → (k : ℕ) →
    IsActive (waits s ∷ h) k → After h (waits s) k
after_waits h s j below l run st a k (inl r) = let t = run_before_end h s k r in still t.0 (inl t.1) refl
after_waits h s j below l run st a k (inr r) = go r.1
  where
    t : status h k ≡ reserved
    t = reserved_before_end h s k r.0

    go : IsWaitedFor (waits s ∷ h) k → After h (waits s) k
    go (inr w) = still (not_itself h s k run t) (inr (t, w)) refl
    go (inl e) =
        let kj : k ≡ j = some_same (sym e ∙ ap enclosing st) in
        let sk : stack h k ≡ below = ap (stack h) kj ∙ join_law h l s j below run st in
        goes_on (kj ∙ sym (ap join_here st)) (ap frame_of sk ∙ sym (ap frame_of st))
        (subst (λ z. stands_at (waits s ∷ h) k ≡ after_sync (address h s) (nest_of h z)) (sym st)
        (front_is _ _ _ _ (ap (address h) kj) (nest_stays h (waits s) (then l a) (stack h k) (rests l k) ∙ ap (nest_of h) sk)))

-- who is over makes nothing active
after_end : (h : History) (s : ℕ) → Running h s → (k : ℕ) → (updated (status h) s over k ≡ running) ⊎ ((updated (status h) s over k ≡ reserved) × IsWaitedFor h k) →
    (k ≢ s) × IsActive h k
after_end h s run k (inl r) = let t = run_before_end h s k r in (t.0, inl t.1)
after_end h s run k (inr r) = let t = reserved_before_end h s k r.0 in (not_itself h s k run t, inr (t, r.1))

after_ended_joined : (h : History) (s j : ℕ) → Running h s → status h j ≡ reserved → IsWaitedFor h j → (k : ℕ) → IsActive (ended_joined s j ∷ h) k →
    After h (ended_joined s j) k
after_ended_joined h s j run rj wj k act = elim (same_or_not k j) [
  | inl e ↦ still (not_itself h s k run (ap (status h) e ∙ rj)) (inr (ap (status h) e ∙ rj, subst (IsWaitedFor h) (sym e) wj)) refl
  | inr ne ↦ off ne act
]
  where
    off : k ≢ j → IsActive (ended_joined s j ∷ h) k → After h (ended_joined s j) k
    off ne (inl r) = let t = run_before_end h s k (sym (updated_off _ j running k ne) ∙ r) in still t.0 (inl t.1) refl
    off ne (inr r) = let t = (reserved_before_join h s j k r.0).1 in still (not_itself h s k run t) (inr (t, r.1)) refl

-- the strand itself goes on
itself_or_not : (h : History) (e : Event) (k : ℕ) → IsActive h k → (k ≡ strand_of e → After h e k) → (k ≢ strand_of e → stack (e ∷ h) k ≡ stack h k) → After h e k
itself_or_not h e k act here there = elim (same_or_not k (strand_of e)) [ inl t ↦ here t | inr t ↦ still t act (there t) ]

after : (h : History) (e : Event) → Legal h → Allowed h e → (k : ℕ) → IsActive (e ∷ h) k → After h e k
after h (split s c n j true) l a k act = after_open h s c n j l a k act
after h (split s c n j false) l a k act = after_next h s c n j l a k act
after h (same s) l (sync_same run sy) k act =
    itself_or_not h (same s) k act
    (λ e. goes_on e (ap (frame_at h) e)
    (front_is _ _ _ _ (ap (address h) e) (nest_stays h (same s) (then l (sync_same run sy)) (stack h k) (rests l k) ∙ ap (λ z. nest_of h (stack h z)) e)
    ∙ sym (sync_synced h (address h s) (stack h s) sy)))
    (λ ne. refl)
after h (call s) l (function_call run) k act =
    itself_or_not h (call s) k act
    (λ e. let sk : stack (call s ∷ h) k ≡ called (suc (length h)) (stack h s) = updated_at _ s _ k e in
    goes_on e (ap frame_of sk)
    (front_is _ _ _ _ (ap (address h) e) (ap (nest_of (call s ∷ h)) sk ∙ ap inside (nest_stays h (call s) (then l (function_call run)) (stack h s) (rests l s)))))
    (λ ne. updated_off _ s _ k ne)
after h (resumed s) l (called_return {number = m} {below = below} run st) k act =
    itself_or_not h (resumed s) k act
    (λ e. let sk : stack (resumed s ∷ h) k ≡ below = updated_at _ s _ k e ∙ ap caller st in
    let r : Rests h below = subst (Rests h) st (rests l s) in
    goes_on e (ap frame_of sk ∙ sym (ap frame_of st))
    (subst (λ z. stands_at (resumed s ∷ h) k ≡ after_return (address h s) (nest_of h z)) (sym st)
    (front_is _ _ _ _ (ap (address h) e) (ap (nest_of (resumed s ∷ h)) sk ∙ nest_stays h (resumed s) (then l (called_return run st)) below r))))
    (λ ne. updated_off _ s _ k ne)
after h (joined s j) l (sync_joined {below = below} run st none) k act = after_joined h s j below l run st (sync_joined run st none) k act
after h (waits s) l (sync_waits {join = j} {below = below} run st m o) k act = after_waits h s j below l run st (sync_waits run st m o) k act
after h (ended s) l (child_return run st last) k act = let t = after_end h s run k act in still t.0 t.1 refl
after h (ended_joined s j) l (last_return run st last) k act =
    after_ended_joined h s j run (join_reserved h (place_of (stack h s)) j ((holders l).live s (running_open h s run)) (ap (λ z. join_of (place_of z)) st)) last.0 k act
after h (finished s) l (root_return run st) k act = let t = after_end h s run k act in still t.0 t.1 refl

-- frames are numbered by the splits
pub begun_frame_below : (h : History) (frame : ℕ) → IsBegun h frame → frame ≤ length h
begun_frame_below [] f b = omega arith
begun_frame_below (split s c n j first ∷ h) f (inl e) = omega arith
begun_frame_below (split s c n j first ∷ h) f (inr b) = let t = begun_frame_below h f b in omega arith
begun_frame_below (same s ∷ h) f b = let t = begun_frame_below h f b in omega arith
begun_frame_below (joined s j ∷ h) f b = let t = begun_frame_below h f b in omega arith
begun_frame_below (waits s ∷ h) f b = let t = begun_frame_below h f b in omega arith
begun_frame_below (call s ∷ h) f b = let t = begun_frame_below h f b in omega arith
begun_frame_below (resumed s ∷ h) f b = let t = begun_frame_below h f b in omega arith
begun_frame_below (ended s ∷ h) f b = let t = begun_frame_below h f b in omega arith
begun_frame_below (ended_joined s j ∷ h) f b = let t = begun_frame_below h f b in omega arith
begun_frame_below (finished s ∷ h) f b = let t = begun_frame_below h f b in omega arith

pub runs_before : {h : History} {e : Event} → Allowed h e → Running h (strand_of e)
runs_before (open_split run sy ce ne je) = run
runs_before (next_split run st ce ne) = run
runs_before (sync_same run sy) = run
runs_before (sync_joined run st none) = run
runs_before (sync_waits run st n o) = run
runs_before (function_call run) = run
runs_before (called_return run st) = run
runs_before (child_return run st last) = run
runs_before (last_return run st last) = run
runs_before (root_return run st) = run

-- the frame of who goes on has begun
pub begun_more : (h : History) (e : Event) (frame : ℕ) → IsBegun h frame → IsBegun (e ∷ h) frame
begun_more h (split s c n j first) f b = inr b
begun_more h (same s) f b = b
begun_more h (joined s j) f b = b
begun_more h (waits s) f b = b
begun_more h (call s) f b = b
begun_more h (resumed s) f b = b
begun_more h (ended s) f b = b
begun_more h (ended_joined s j) f b = b
begun_more h (finished s) f b = b

child_begun : (h : History) (e : Event) (n : ℕ) → IsChild e n → IsBegun (e ∷ h) (suc (length h))
child_begun h (split s c n j first) k w = inl refl
child_begun h (same s) k w = absurd w
child_begun h (joined s j) k w = absurd w
child_begun h (waits s) k w = absurd w
child_begun h (call s) k w = absurd w
child_begun h (resumed s) k w = absurd w
child_begun h (ended s) k w = absurd w
child_begun h (ended_joined s j) k w = absurd w
child_begun h (finished s) k w = absurd w

pub active_begun : {h : History} → Legal h → (n : ℕ) → IsActive h n → IsBegun h (frame_at h n)
active_begun start n act = refl
active_begun (then {history = h} {event = e} l a) n act = go (active_begun l) (after h e l a n act)
  where
    go : ((m : ℕ) → IsActive h m → IsBegun h (frame_at h m)) → After h e n → IsBegun (e ∷ h) (frame_at (e ∷ h) n)
    go older (still ne before sk) = subst (IsBegun (e ∷ h)) (sym (ap frame_of sk)) (begun_more h e (frame_at h n) (older n before))
    go older (goes_on q fk st) = subst (IsBegun (e ∷ h)) (sym fk) (begun_more h e (frame_at h (strand_of e)) (older (strand_of e) (inl (runs_before a))))
    go older (begins q fk st) = subst (IsBegun (e ∷ h)) (sym fk) (child_begun h e n q)

pub frame_below : {h : History} → Legal h → (n : ℕ) → IsActive h n → frame_at h n ≤ length h
frame_below {h = h} l n act = begun_frame_below h (frame_at h n) (active_begun l n act)

-- the front of another frame stays, that of the strand moves, and that of a child opens
pub front_off : (h : History) (e : Event) (frame : ℕ) → frame ≢ frame_at h (strand_of e) → frame ≤ length h → front (e ∷ h) frame ≡ front h frame
front_off h (split s c n j first) f ne le =
    updated_off (moved_by h (split s c n j first) (front h)) (suc (length h)) _ f (omega arith) ∙ updated_off (front h) (frame_at h s) _ f ne
front_off h (same s) f ne le = updated_off (front h) (frame_at h s) _ f ne
front_off h (joined s j) f ne le = updated_off (front h) (frame_at h s) _ f ne
front_off h (waits s) f ne le = updated_off (front h) (frame_at h s) _ f ne
front_off h (call s) f ne le = updated_off (front h) (frame_at h s) _ f ne
front_off h (resumed s) f ne le = updated_off (front h) (frame_at h s) _ f ne
front_off h (ended s) f ne le = updated_off (front h) (frame_at h s) _ f ne
front_off h (ended_joined s j) f ne le = updated_off (front h) (frame_at h s) _ f ne
front_off h (finished s) f ne le = updated_off (front h) (frame_at h s) _ f ne

pub front_moves : (h : History) (e : Event) (frame : ℕ) → frame ≡ frame_at h (strand_of e) → frame_at h (strand_of e) ≤ length h →
    front (e ∷ h) frame ≡ moved (front h (frame_at h (strand_of e))) (act_in e)
front_moves h (split s c n j first) f q le =
    updated_off (moved_by h (split s c n j first) (front h)) (suc (length h)) _ f (omega arith) ∙ updated_at (front h) (frame_at h s) _ f q
front_moves h (same s) f q le = updated_at (front h) (frame_at h s) _ f q
front_moves h (joined s j) f q le = updated_at (front h) (frame_at h s) _ f q
front_moves h (waits s) f q le = updated_at (front h) (frame_at h s) _ f q
front_moves h (call s) f q le = updated_at (front h) (frame_at h s) _ f q
front_moves h (resumed s) f q le = updated_at (front h) (frame_at h s) _ f q
front_moves h (ended s) f q le = updated_at (front h) (frame_at h s) _ f q
front_moves h (ended_joined s j) f q le = updated_at (front h) (frame_at h s) _ f q
front_moves h (finished s) f q le = updated_at (front h) (frame_at h s) _ f q

pub front_opens : (h : History) (e : Event) (n frame : ℕ) → IsChild e n → frame ≡ suc (length h) → front (e ∷ h) frame ≡ first_front (extended (address h (strand_of e)) child)
front_opens h (split s c n j first) k f w q = updated_at (moved_by h (split s c n j first) (front h)) (suc (length h)) _ f q
front_opens h (same s) k f w q = absurd w
front_opens h (joined s j) k f w q = absurd w
front_opens h (waits s) k f w q = absurd w
front_opens h (call s) k f w q = absurd w
front_opens h (resumed s) k f w q = absurd w
front_opens h (ended s) k f w q = absurd w
front_opens h (ended_joined s j) k f w q = absurd w
front_opens h (finished s) k f w q = absurd w

at_after : (h : History) (e : Event) → Legal h → (a : Allowed h e) → AreFronts h → (k : ℕ) → After h e k → front (e ∷ h) (frame_at (e ∷ h) k) ≡ stands_at (e ∷ h) k
at_after h e l a w k (still ne act sk) =
    let fk : frame_at (e ∷ h) k ≡ frame_at h k = ap frame_of sk in
    let off : frame_at h k ≢ frame_at h (strand_of e) = λ q. ne (w.alone k (strand_of e) act (inl (runs_before a)) q) in
    ap (front (e ∷ h)) fk ∙ front_off h e (frame_at h k) off (frame_below l k act) ∙ w.at k act
    ∙ sym (front_is _ _ _ _ (address_stays (then l a) k (active_below h (ranges l) k act))
    (ap (nest_of (e ∷ h)) sk ∙ nest_stays h e (then l a) (stack h k) (rests l k)))
at_after h e l a w k (goes_on q fk st) =
    front_moves h e (frame_at (e ∷ h) k) fk (frame_below l (strand_of e) (inl (runs_before a))) ∙ ap (λ z. moved z (act_in e)) (w.at (strand_of e) (inl (runs_before a))) ∙ sym st
at_after h e l a w k (begins q fk st) = front_opens h e k (frame_at (e ∷ h) k) q fk ∙ sym st

one_child : (e : Event) (k m : ℕ) → IsChild e k → IsChild e m → k ≡ m
one_child (split s c n j first) k m p q = p ∙ sym q
one_child (same s) k m p q = absurd p
one_child (joined s j) k m p q = absurd p
one_child (waits s) k m p q = absurd p
one_child (call s) k m p q = absurd p
one_child (resumed s) k m p q = absurd p
one_child (ended s) k m p q = absurd p
one_child (ended_joined s j) k m p q = absurd p
one_child (finished s) k m p q = absurd p

alone_after : (h : History) (e : Event) → Legal h → (a : Allowed h e) → AreFronts h → (k m : ℕ) → After h e k → After h e m → frame_at (e ∷ h) k ≡ frame_at (e ∷ h) m → k ≡ m
alone_after h e l a w k m (still ne act sk) (still me bct sm) q = w.alone k m act bct (sym (ap frame_of sk) ∙ q ∙ ap frame_of sm)
alone_after h e l a w k m (still ne act sk) (goes_on x fm st) q = absurd (ne (w.alone k (strand_of e) act (inl (runs_before a)) (sym (ap frame_of sk) ∙ q ∙ fm)))
alone_after h e l a w k m (still ne act sk) (begins x fm st) q =
    let t = frame_below l k act in let u : frame_at h k ≡ suc (length h) = sym (ap frame_of sk) ∙ q ∙ fm in absurd (omega arith)
alone_after h e l a w k m (goes_on x fk st) (still me bct sm) q = absurd (me (w.alone m (strand_of e) bct (inl (runs_before a)) (sym (ap frame_of sm) ∙ sym q ∙ fk)))
alone_after h e l a w k m (goes_on x fk st) (goes_on y fm tm) q = x ∙ sym y
alone_after h e l a w k m (goes_on x fk st) (begins y fm tm) q =
    let t = frame_below l (strand_of e) (inl (runs_before a)) in let u : frame_at h (strand_of e) ≡ suc (length h) = sym fk ∙ q ∙ fm in absurd (omega arith)
alone_after h e l a w k m (begins x fk st) (still me bct sm) q =
    let t = frame_below l m bct in let u : frame_at h m ≡ suc (length h) = sym (ap frame_of sm) ∙ sym q ∙ fk in absurd (omega arith)
alone_after h e l a w k m (begins x fk st) (goes_on y fm tm) q =
    let t = frame_below l (strand_of e) (inl (runs_before a)) in let u : frame_at h (strand_of e) ≡ suc (length h) = sym fm ∙ sym q ∙ fk in absurd (omega arith)
alone_after h e l a w k m (begins x fk st) (begins y fm tm) q = one_child e k m x y

-- who is active and does not move stays so
running_stays : (h : History) (s k : ℕ) → k ≢ s → status h k ≡ running → updated (status h) s over k ≡ running
running_stays h s k ne r = updated_off (status h) s over k ne ∙ r

remains_split : (h : History) (s c n j : ℕ) (first : Bool) → Legal h → Allowed h (split s c n j first) → (k : ℕ) → IsActive h k → k ≢ s →
    IsActive (split s c n j first ∷ h) k × (stack (split s c n j first ∷ h) k ≡ stack h k)
remains_split h s c n j first l a k act ne = (go act (w.numbers.see k), apart first refl)
  where
    w : Splitting h s c n j first
    w = splitting h s c n j first (ranges l) (holders l) a

    lt : k < unused h
    lt = active_below h (ranges l) k act

    as_before : status (split s c n j first ∷ h) k ≡ status h k → IsActive h k → IsActive (split s c n j first ∷ h) k
    as_before q (inl r) = inl (q ∙ r)
    as_before q (inr r) = inr (q ∙ r.0, r.1)

    go : IsActive h k → Seen h s c n j first k → IsActive (split s c n j first ∷ h) k
    go t (at_child xe st pl ad) = absurd (omega (arith, lt, xe, w.numbers.child_is))
    go t (at_next xe st pl ad) = absurd (omega (arith, lt, xe, w.numbers.next_is))
    go t (at_join xe lo f st pl ad) = absurd (omega (arith, lt, lo))
    go t (at_spawner xe st pl ad) = absurd (ne xe)
    go t (elsewhere ns kn st pl ad) = as_before st t

    apart : (b : Bool) → first ≡ b → stack (split s c n j first ∷ h) k ≡ stack h k
    apart b f = apart_from_split h s c n j first k (omega (arith, lt, w.numbers.child_is)) (omega (arith, lt, w.numbers.next_is)) (λ g. elim w.block_is [
      | inl t ↦ (let u = t.1 in omega (arith, lt, u))
      | inr t ↦ absurd (let u = t.0 in cc)
    ])

remains : (h : History) (e : Event) → Legal h → Allowed h e → (k : ℕ) → IsActive h k → k ≢ strand_of e →
    IsActive (e ∷ h) k × (stack (e ∷ h) k ≡ stack h k)
remains h (split s c n j first) l a k act ne = remains_split h s c n j first l a k act ne
remains h (same s) l a k act ne = (act, refl)
remains h (call s) l a k act ne = (act, updated_off _ s _ k ne)
remains h (resumed s) l a k act ne = (act, updated_off _ s _ k ne)
remains h (joined s j) l a k act ne = (now act (same_or_not k j), refl)
  where
    now : IsActive h k → (k ≡ j) ⊎ (k ≢ j) → IsActive (joined s j ∷ h) k
    now t (inl q) = inl (updated_at _ j running k q)
    now (inl r) (inr q) = inl (updated_off _ j running k q ∙ running_stays h s k ne r)
    now (inr r) (inr q) = inr (updated_off _ j running k q ∙ (updated_off (status h) s over k ne ∙ r.0), r.1)
remains h (ended_joined s j) l a k act ne = (now act (same_or_not k j), refl)
  where
    now : IsActive h k → (k ≡ j) ⊎ (k ≢ j) → IsActive (ended_joined s j ∷ h) k
    now t (inl q) = inl (updated_at _ j running k q)
    now (inl r) (inr q) = inl (updated_off _ j running k q ∙ running_stays h s k ne r)
    now (inr r) (inr q) = inr (updated_off _ j running k q ∙ (updated_off (status h) s over k ne ∙ r.0), r.1)
remains h (waits s) l a k act ne = (now act, refl)
  where
    now : IsActive h k → IsActive (waits s ∷ h) k
    now (inl r) = inl (running_stays h s k ne r)
    now (inr r) = inr (updated_off (status h) s over k ne ∙ r.0, inr r.1)
remains h (ended s) l a k act ne = (now act, refl)
  where
    now : IsActive h k → IsActive (ended s ∷ h) k
    now (inl r) = inl (running_stays h s k ne r)
    now (inr r) = inr (updated_off (status h) s over k ne ∙ r.0, r.1)
remains h (finished s) l a k act ne = (now act, refl)
  where
    now : IsActive h k → IsActive (finished s ∷ h) k
    now (inl r) = inl (running_stays h s k ne r)
    now (inr r) = inr (updated_off (status h) s over k ne ∙ r.0, r.1)

-- the frame of the strand that moves has an heir, or has returned
abbrev HasHeir : History → Event → Type 0
HasHeir history event =
    ((moved (stands_at history (strand_of event)) (act_in event)).nest ≡ gone) ⊎
    ((number : ℕ) × IsActive (event ∷ history) number × (frame_at (event ∷ history) number ≡ frame_at history (strand_of event)))

returns_gone : (h : History) (here : Address) (st st' : Stack) → st ≡ st' → (after_return here (nest_of h st')).nest ≡ gone → (after_return here (nest_of h st)).nest ≡ gone
returns_gone h here st st' e g = ap (λ z. (after_return here (nest_of h z)).nest) e ∙ g

has_heir : (h : History) (e : Event) → Legal h → Allowed h e → HasHeir h e
has_heir h (split s c n j true) l a =
    let w = splitting h s c n j true (ranges l) (holders l) a in
    let t = next_seen h s c n j true w.numbers in
    inr (n, inl t.0, ap frame_of (updated_off _ j _ n (λ q. w.numbers.join_not_next (sym q)) ∙ updated_at _ n _ n refl))
has_heir h (split s c n j false) l a =
    let w = splitting h s c n j false (ranges l) (holders l) a in
    let t = next_seen h s c n j false w.numbers in
    inr (n, inl t.0, ap frame_of (updated_at _ n _ n refl))
has_heir h (same s) l (sync_same run sy) = inr (s, inl run, refl)
has_heir h (call s) l (function_call run) = inr (s, inl run, ap frame_of (updated_at _ s _ s refl))
has_heir h (resumed s) l (called_return run st) = inr (s, inl run, ap frame_of (updated_at _ s _ s refl ∙ ap caller st) ∙ sym (ap frame_of st))
has_heir h (joined s j) l (sync_joined {below = below} run st none) =
    inr (j, inl (updated_at _ j running j refl), ap frame_of (join_law h l s j below run st) ∙ sym (ap frame_of st))
has_heir h (waits s) l (sync_waits {join = j} {below = below} run st m o) =
    let rj : status h j ≡ reserved = join_reserved h (place_of (stack h s)) j ((holders l).live s (running_open h s run)) (ap (λ z. join_of (place_of z)) st) in
    inr (
      j,
      inr (updated_off (status h) s over j (not_itself h s j run rj) ∙ rj, inl (ap enclosing st)),
      ap frame_of (join_law h l s j below run st) ∙ sym (ap frame_of st),
    )
has_heir h (ended s) l (child_return {number = m} {join = j} run st last) = inl (returns_gone h (address h s) (stack h s) (spawned m j) st refl)
has_heir h (ended_joined s j) l (last_return {number = m} run st last) = inl (returns_gone h (address h s) (stack h s) (spawned m j) st refl)
has_heir h (finished s) l (root_return run st) = inl (returns_gone h (address h s) (stack h s) root st refl)

-- a frame that has begun is that of a child, or was there before
begun_cases : (h : History) (e : Event) → Legal h → Allowed h e → (frame : ℕ) → IsBegun (e ∷ h) frame →
    ((number : ℕ) × IsActive (e ∷ h) number × (frame_at (e ∷ h) number ≡ frame)) ⊎ IsBegun h frame
begun_cases h (split s c n j first) l a f (inl q) =
    let w = splitting h s c n j first (ranges l) (holders l) a in
    let t = child_seen h s c n j first w.numbers in
    inl (c, inl t.0, ap frame_of (child_stack h s c n j first (omega (arith, w.numbers.child_is, w.numbers.next_is)) (λ g e. w.numbers.join_not_child (sym e))) ∙ sym q)
begun_cases h (split s c n j first) l a f (inr b) = inr b
begun_cases h (same s) l a f b = inr b
begun_cases h (joined s j) l a f b = inr b
begun_cases h (waits s) l a f b = inr b
begun_cases h (call s) l a f b = inr b
begun_cases h (resumed s) l a f b = inr b
begun_cases h (ended s) l a f b = inr b
begun_cases h (ended_joined s j) l a f b = inr b
begun_cases h (finished s) l a f b = inr b

found_after : (h : History) (e : Event) → Legal h → Allowed h e → AreFronts h → (frame : ℕ) → IsBegun (e ∷ h) frame →
    ((front (e ∷ h) frame).nest ≡ gone) ⊎ ((number : ℕ) × IsActive (e ∷ h) number × (frame_at (e ∷ h) number ≡ frame))
found_after h e l a w f b = elim (begun_cases h e l a f b) [ inl t ↦ inr t | inr t ↦ older t (same_or_not f (frame_at h (strand_of e))) ]
  where
    older : IsBegun h f → (f ≡ frame_at h (strand_of e)) ⊎ (f ≢ frame_at h (strand_of e)) →
        ((front (e ∷ h) f).nest ≡ gone) ⊎ ((number : ℕ) × IsActive (e ∷ h) number × (frame_at (e ∷ h) number ≡ f))
    older t (inl q) = elim (has_heir h e l a) [
      | inl g ↦ inl (ap (λ z. z.nest) (front_moves h e f q (frame_below l (strand_of e) (inl (runs_before a))) ∙ ap (λ z. moved z (act_in e)) (w.at (strand_of e) (inl (runs_before a)))) ∙ g)
      | inr g ↦ inr (g.0, g.1, g.2 ∙ sym q)
    ]
    older t (inr ne) = elim (w.found f t) [
      | inl g ↦ inl (ap (λ z. z.nest) (front_off h e f ne (begun_frame_below h f t)) ∙ g)
      | inr g ↦ (let r = remains h e l a g.0 g.1 (λ q. ne (sym g.2 ∙ ap (frame_at h) q)) in inr (g.0, r.0, ap frame_of r.1 ∙ g.2))
    ]

-- at first the root function's strand stands at its begin
fronts_first : AreFronts []
fronts_first = record {
  at = λ n act. ap (λ z. first_front []) (only n act);
  alone = λ n m p q f. only n p ∙ sym (only m q);
  found = λ f b. inr (0, inl (updated_at (λ y. absent) 0 running 0 refl), sym b);
}
  where
    only : (n : ℕ) → IsActive [] n → n ≡ 0
    only n (inl r) = updated_case (λ t. t ≡ running → n ≡ 0) (λ y. absent) 0 running n (λ e op. e) (λ ne op. cc) r
    only n (inr r) = absurd r.1

pub fronts : {h : History} → Legal h → AreFronts h
fronts start = fronts_first
fronts (then {history = h} {event = e} l a) =
    let w = fronts l in record {
      at = λ k act. at_after h e l a w k (after h e l a k act);
      alone = λ k m p q f. alone_after h e l a w k m (after h e l a k p) (after h e l a m q) f;
      found = λ f b. found_after h e l a w f b;
    }
