-- Until the root returns, each place that waits for someone is held, so some strand runs.
-- h: a history; s: a strand; q: a status; j, k: joins; m, n: numbers of spawns
use Rattle.std.proofs.Common.{◌≡◌, ◌≢◌, ◌⊎◌, inl, inr, ℕ, zero, suc, ◌+◌, ◌<◌, ◌≤◌, Bool, [], ◌∷◌, length, Some, refl, sym, ap, ap₂, ◌∙◌, subst, subst₂, arith}
use Rattle.model_strands.specs.Updated.{updated}
use Rattle.model_strands.specs.History.{Event, split, same, joined, waits, call, resumed, ended, ended_joined, finished, History}
use Rattle.model_strands.specs.Strands.{Status, absent, reserved, running, over, status, Running, unused}
use Rattle.model_strands.specs.Blocks.{spawned, stack, enclosing, Outstanding, IsWaitedFor, IsLast}
use Rattle.model_strands.specs.Legal.{sync_joined, sync_waits, child_return, last_return, root_return, Legal, start, then}
use Rattle.law_strands.proofs.Updates.{same_or_not, updated_at, updated_case}
use Rattle.law_strands.proofs.Places.{Place, outermost, continuation, child_of, place_of, place, join_of, below_or_beyond, Ranges, Seen, at_child, at_next, at_join, at_spawner, elsewhere, some_same, spawned_same, running_not_reserved, over_not_reserved}
use Rattle.law_strands.proofs.Range.{ranges, child_seen, next_seen, join_seen}
use Rattle.law_strands.proofs.Holders.{IsOpen, Open, holders, Splitting, splitting, not_open, absent_not_open, reserved_before_end, reserved_before_join}
use Rattle.law_strands.proofs.Calm.{calm_place}
use Rattle.law_strands.proofs.Decisions.{other_child}

-- an open strand or join holds the place
abbrev pub Held : History → Place → Type 0
Held history held = (holder : ℕ) × Open history holder × (place history holder ≡ held)

-- the root has returned
abbrev pub HasFinished : History → Type 0
HasFinished [] = ⊥
HasFinished (finished strand ∷ history) = Unit {0}
HasFinished (_ ∷ history) = HasFinished history

-- each place that waits for someone is held
pub record Busy (history : History) : Type 0 where
  -- a reserved join is younger than the join round it
  pub younger : (inner outer : ℕ) → status history inner ≡ reserved → join_of (place history inner) ≡ Some outer → outer < inner
  -- a sync waits for some child
  pub for_someone : (join : ℕ) → status history join ≡ reserved → IsWaitedFor history join → (number : ℕ) × Outstanding history number join
  pub continues : (join : ℕ) → status history join ≡ reserved → IsWaitedFor history join ⊎ Held history (continuation join)
  pub child_held : (number join : ℕ) → Outstanding history number join → Held history (child_of join number)
  pub root_held : HasFinished history ⊎ Held history outermost

-- a holder before a split has an heir after it
held_split : (history : History) (strand the_child the_next the_join : ℕ) (first : Bool) → Ranges history →
    Splitting history strand the_child the_next the_join first → (held : Place) → Held history held →
    Held (split strand the_child the_next the_join first ∷ history) held
held_split h s c n j first r w p t = go (same_or_not t.0 s)
  where
    lt : t.0 < unused h
    lt = elim (below_or_beyond t.0 (unused h)) [ inl q ↦ q | inr q ↦ absurd (absent_not_open (r.absent_beyond t.0 q) t.1) ]

    spawner_heir : Held (split s c n j first ∷ h) (place h s)
    spawner_heir = elim w.block_is [
      | inl k ↦ (let t = join_seen h s c n j first w.numbers k.1 in (j, subst IsOpen (sym t.0) tt, t.1))
      | inr k ↦ (let t = next_seen h s c n j first w.numbers in (n, subst IsOpen (sym t.0) tt, t.1 ∙ sym k.1))
    ]

    still : t.0 ≢ s → Seen h s c n j first t.0 → Held (split s c n j first ∷ h) p
    still ne (elsewhere ns kn a b q) = (t.0, subst IsOpen (sym a) t.1, b ∙ t.2)
    still ne (at_spawner xe a b q) = absurd (ne xe)
    still ne (at_child xe a b q) = absurd (omega (arith, lt, xe, w.numbers.child_is))
    still ne (at_next xe a b q) = absurd (omega (arith, lt, xe, w.numbers.next_is))
    still ne (at_join xe lo f a b q) = absurd (omega (arith, lt))

    go : (t.0 ≡ s) ⊎ (t.0 ≢ s) → Held (split s c n j first ∷ h) p
    go (inl e) = subst (Held (split s c n j first ∷ h)) (sym (ap (place h) e) ∙ t.2) spawner_heir
    go (inr ne) = still ne (w.numbers.see t.0)

busy_split : (history : History) (strand the_child the_next the_join : ℕ) (first : Bool) → Ranges history →
    Splitting history strand the_child the_next the_join first → Busy history → Busy (split strand the_child the_next the_join first ∷ history)
busy_split h s c n j first r w b = record {
  younger = λ k m e g. younger_at k m e g (w.numbers.see k);
  for_someone = λ k e g. someone_at k e g (w.numbers.see k);
  continues = λ k e. continues_at k e (w.numbers.see k);
  child_held = λ m k o. child_at m k o;
  root_held = elim b.root_held [ inl t ↦ inl t | inr t ↦ inr (held_split h s c n j first r w outermost t) ];
}
  where
    younger_at : (other_join number : ℕ) → status (split s c n j first ∷ h) other_join ≡ reserved →
        join_of (place (split s c n j first ∷ h) other_join) ≡ Some number → Seen h s c n j first other_join → number < other_join
    younger_at k m e g (at_child xe a p q) = absurd (running_not_reserved a e)
    younger_at k m e g (at_next xe a p q) = absurd (running_not_reserved a e)
    younger_at k m e g (at_join xe lo f a p q) = let lt : m < unused h = r.join_below s m (sym (ap join_of p) ∙ g) in omega arith
    younger_at k m e g (at_spawner xe a p q) = absurd (over_not_reserved a e)
    younger_at k m e g (elsewhere ns kn a p q) = b.younger k m (sym a ∙ e) (sym (ap join_of p) ∙ g)

    someone_at : (other_join : ℕ) → status (split s c n j first ∷ h) other_join ≡ reserved → IsWaitedFor h other_join → Seen h s c n j first other_join →
        (number : ℕ) × Outstanding (split s c n j first ∷ h) number other_join
    someone_at k e g (at_child xe a p q) = absurd (running_not_reserved a e)
    someone_at k e g (at_next xe a p q) = absurd (running_not_reserved a e)
    someone_at k e g (at_join xe lo f a p q) = absurd (w.no_sync_yet (subst (IsWaitedFor h) xe g))
    someone_at k e g (at_spawner xe a p q) = absurd (over_not_reserved a e)
    someone_at k e g (elsewhere ns kn a p q) = let t = b.for_someone k (sym a ∙ e) g in (t.0, inr t.1)

    next_holds : Held (split s c n j first ∷ h) (continuation j)
    next_holds = let t = next_seen h s c n j first w.numbers in (n, subst IsOpen (sym t.0) tt, t.1)

    child_holds : Held (split s c n j first ∷ h) (child_of j (suc (length h)))
    child_holds = let t = child_seen h s c n j first w.numbers in (c, subst IsOpen (sym t.0) tt, t.1)

    continues_at : (other_join : ℕ) → status (split s c n j first ∷ h) other_join ≡ reserved → Seen h s c n j first other_join →
        IsWaitedFor h other_join ⊎ Held (split s c n j first ∷ h) (continuation other_join)
    continues_at k e (at_child xe a p q) = absurd (running_not_reserved a e)
    continues_at k e (at_next xe a p q) = absurd (running_not_reserved a e)
    continues_at k e (at_join xe lo f a p q) = inr (subst (λ z. Held (split s c n j first ∷ h) (continuation z)) (sym xe) next_holds)
    continues_at k e (at_spawner xe a p q) = absurd (over_not_reserved a e)
    continues_at k e (elsewhere ns kn a p q) =
        elim (b.continues k (sym a ∙ e)) [ inl t ↦ inl t | inr t ↦ inr (held_split h s c n j first r w (continuation k) t) ]

    child_at : (number other_join : ℕ) → Outstanding (split s c n j first ∷ h) number other_join →
        Held (split s c n j first ∷ h) (child_of other_join number)
    child_at m k (inl t) = subst₂ (λ x y. Held (split s c n j first ∷ h) (child_of x y)) (sym t.1) (sym t.0) child_holds
    child_at m k (inr t) = held_split h s c n j first r w (child_of k m) (b.child_held m k t)

-- an event that ends the strand leaves every other place held
held_end : (history : History) (strand : ℕ) (held : Place) → (held ≡ place history strand → ⊥) → Held history held →
    (other : ℕ) × IsOpen (updated (status history) strand over other) × (place history other ≡ held)
held_end h s p apart t =
    (t.0, updated_case (λ q. IsOpen q) (status h) s over t.0 (λ e. absurd (apart (sym t.2 ∙ ap (place h) e))) (λ ne. t.1), t.2)

held_join : (history : History) (strand its_join : ℕ) (held : Place) → (held ≡ place history strand → ⊥) → Held history held →
    (other : ℕ) × IsOpen (updated (updated (status history) strand over) its_join running other) × (place history other ≡ held)
held_join h s j p apart t =
    let u = held_end h s p apart t in
    (u.0, updated_case (λ q. IsOpen q) (updated (status h) s over) j running u.0 (λ e. tt) (λ ne. u.1), u.2)

continuation_same : {j k : ℕ} → continuation k ≡ continuation j → k ≡ j
continuation_same e = cc

child_same : {j k m n : ℕ} → child_of k m ≡ child_of j n → (k ≡ j) × (m ≡ n)
child_same e = (cc, cc)

child_not_continuation : {j k n : ℕ} → child_of j n ≡ continuation k → ⊥
child_not_continuation e = cc

outermost_not_continuation : {k : ℕ} → outermost ≡ continuation k → ⊥
outermost_not_continuation e = cc

outermost_not_child : {k n : ℕ} → outermost ≡ child_of k n → ⊥
outermost_not_child e = cc

held_calm : (history : History) (event : Event) → ((strand : ℕ) → place (event ∷ history) strand ≡ place history strand) →
    ((strand : ℕ) → Open history strand → Open (event ∷ history) strand) → (held : Place) → Held history held → Held (event ∷ history) held
held_calm h e same_place still p t = (t.0, still t.0 t.1, same_place t.0 ∙ t.2)

busy_same : (history : History) (strand : ℕ) → Busy history → Busy (same strand ∷ history)
busy_same h s b = record { younger = b.younger; for_someone = b.for_someone; continues = b.continues; child_held = b.child_held; root_held = b.root_held }

busy_call : (history : History) (strand : ℕ) → Busy history → Busy (call strand ∷ history)
busy_call h s b =
    let still = held_calm h (call s) (calm_place h (call s) tt) (λ x o. o) in
    record {
      younger = λ k m e g. b.younger k m e (sym (ap join_of (calm_place h (call s) tt k)) ∙ g);
      for_someone = b.for_someone;
      continues = λ j e. elim (b.continues j e) [ inl t ↦ inl t | inr t ↦ inr (still (continuation j) t) ];
      child_held = λ n j o. still (child_of j n) (b.child_held n j o);
      root_held = elim b.root_held [ inl t ↦ inl t | inr t ↦ inr (still outermost t) ];
    }

busy_resumed : (history : History) (strand : ℕ) → Busy history → Busy (resumed strand ∷ history)
busy_resumed h s b =
    let still = held_calm h (resumed s) (calm_place h (resumed s) tt) (λ x o. o) in
    record {
      younger = λ k m e g. b.younger k m e (sym (ap join_of (calm_place h (resumed s) tt k)) ∙ g);
      for_someone = b.for_someone;
      continues = λ j e. elim (b.continues j e) [ inl t ↦ inl t | inr t ↦ inr (still (continuation j) t) ];
      child_held = λ n j o. still (child_of j n) (b.child_held n j o);
      root_held = elim b.root_held [ inl t ↦ inl t | inr t ↦ inr (still outermost t) ];
    }

busy_joined : (history : History) (strand its_join : ℕ) → place history strand ≡ continuation its_join → Busy history →
    Busy (joined strand its_join ∷ history)
busy_joined h s j at b = record {
  younger = λ k m e g. b.younger k m (reserved_before_join h s j k e).1 g;
  for_someone = λ k e g. b.for_someone k (reserved_before_join h s j k e).1 g;
  continues = λ k e. let q = reserved_before_join h s j k e in
      elim (b.continues k q.1) [ inl t ↦ inl t | inr t ↦ inr (held_join h s j (continuation k) (λ g. q.0 (continuation_same (g ∙ at))) t) ];
  child_held = λ n k o. held_join h s j (child_of k n) (λ g. child_not_continuation (g ∙ at)) (b.child_held n k o);
  root_held = elim b.root_held [ inl t ↦ inl t | inr t ↦ inr (held_join h s j outermost (λ g. outermost_not_continuation (g ∙ at)) t) ];
}

busy_waits : (history : History) (strand its_join number : ℕ) → enclosing (stack history strand) ≡ Some its_join →
    place history strand ≡ continuation its_join → Outstanding history number its_join → Busy history → Busy (waits strand ∷ history)
busy_waits h s j m en at o b = record {
  younger = λ k i e g. b.younger k i (reserved_before_end h s k e) g;
  for_someone = λ k e g. elim g [ inl q ↦ (m, subst (Outstanding h m) (some_same (sym en ∙ q)) o) | inr q ↦ b.for_someone k (reserved_before_end h s k e) q ];
  continues = λ k e. elim (same_or_not k j) [
    | inl q ↦ inl (inl (en ∙ ap (λ z. Some z) (sym q)))
    | inr q ↦ elim (b.continues k (reserved_before_end h s k e)) [ inl t ↦ inl (inr t) | inr t ↦ inr (held_end h s (continuation k) (λ g. q (continuation_same (g ∙ at))) t) ]
  ];
  child_held = λ n k q. held_end h s (child_of k n) (λ g. child_not_continuation (g ∙ at)) (b.child_held n k q);
  root_held = elim b.root_held [ inl t ↦ inl t | inr t ↦ inr (held_end h s outermost (λ g. outermost_not_continuation (g ∙ at)) t) ];
}

-- a return of a child leaves someone to wait for in each block that is waited for and not joined
someone_left : (history : History) (strand number its_join other_join : ℕ) → Ranges history → stack history strand ≡ spawned number its_join →
    (other_join ≡ its_join → IsLast history number its_join → ⊥) → IsWaitedFor history other_join → (bound : ℕ) × Outstanding history bound other_join →
    (bound : ℕ) × ((stack history strand ≢ spawned bound other_join) × Outstanding history bound other_join)
someone_left h s n j k r st last g t = elim (same_or_not k j) [
  | inl e ↦ elim (other_child h r n j) [
    | inl q ↦ (q.0, ((λ z. q.1.0 (sym (spawned_same (sym st ∙ z)).0)), subst (Outstanding h q.0) (sym e) q.1.1))
    | inr q ↦ absurd (last e (subst (IsWaitedFor h) e g, q))
  ]
  | inr ne ↦ (t.0, ((λ z. ne (sym (spawned_same (sym st ∙ z)).1)), t.1))
]

busy_ended : (history : History) (strand number its_join : ℕ) → Ranges history → stack history strand ≡ spawned number its_join →
    (IsLast history number its_join → ⊥) → Busy history → Busy (ended strand ∷ history)
busy_ended h s n j r st last b =
    let at : place h s ≡ child_of j n = ap place_of st in
    record {
      younger = λ k i e g. b.younger k i (reserved_before_end h s k e) g;
      for_someone = λ k e g. someone_left h s n j k r st (λ q. last) g (b.for_someone k (reserved_before_end h s k e) g);
      continues = λ k e. elim (b.continues k (reserved_before_end h s k e)) [ inl t ↦ inl t | inr t ↦ inr (held_end h s (continuation k) (λ g. child_not_continuation (sym at ∙ sym g)) t) ];
      child_held = λ m k q. held_end h s (child_of k m) (λ g. let same_child = child_same (g ∙ at) in q.0 (st ∙ ap₂ (λ x y. spawned x y) (sym same_child.1) (sym same_child.0))) (b.child_held m k q.1);
      root_held = elim b.root_held [ inl t ↦ inl t | inr t ↦ inr (held_end h s outermost (λ g. outermost_not_child (g ∙ at)) t) ];
    }

busy_ended_joined : (history : History) (strand number its_join : ℕ) → Ranges history → stack history strand ≡ spawned number its_join → Busy history →
    Busy (ended_joined strand its_join ∷ history)
busy_ended_joined h s n j r st b =
    let at : place h s ≡ child_of j n = ap place_of st in
    record {
      younger = λ k i e g. b.younger k i (reserved_before_join h s j k e).1 g;
      for_someone = λ k e g. let q = reserved_before_join h s j k e in someone_left h s n j k r st (λ z l. q.0 z) g (b.for_someone k q.1 g);
      continues = λ k e. elim (b.continues k (reserved_before_join h s j k e).1) [ inl t ↦ inl t | inr t ↦ inr (held_join h s j (continuation k) (λ g. child_not_continuation (sym at ∙ sym g)) t) ];
      child_held = λ m k q. held_join h s j (child_of k m) (λ g. let same_child = child_same (g ∙ at) in q.0 (st ∙ ap₂ (λ x y. spawned x y) (sym same_child.1) (sym same_child.0))) (b.child_held m k q.1);
      root_held = elim b.root_held [ inl t ↦ inl t | inr t ↦ inr (held_join h s j outermost (λ g. outermost_not_child (g ∙ at)) t) ];
    }

busy_finished : (history : History) (strand : ℕ) → place history strand ≡ outermost → Busy history → Busy (finished strand ∷ history)
busy_finished h s at b = record {
  younger = λ k i e g. b.younger k i (reserved_before_end h s k e) g;
  for_someone = λ k e g. b.for_someone k (reserved_before_end h s k e) g;
  continues = λ k e. elim (b.continues k (reserved_before_end h s k e)) [ inl t ↦ inl t | inr t ↦ inr (held_end h s (continuation k) (λ g. outermost_not_continuation (sym at ∙ sym g)) t) ];
  child_held = λ n k q. held_end h s (child_of k n) (λ g. outermost_not_child (sym at ∙ sym g)) (b.child_held n k q);
  root_held = inl tt;
}

pub busy : {h : History} → Legal h → Busy h
busy start = record {
  younger = λ k m e g. absurd (cc);
  for_someone = λ j e g. absurd g;
  continues = λ j e. absurd (none_reserved j e);
  child_held = λ n j o. absurd o;
  root_held = inr (0, subst IsOpen (sym (updated_at (λ y. absent) 0 running 0 refl)) tt, refl);
}
  where
    none_reserved : (its_join : ℕ) → updated (λ y. absent) 0 running its_join ≡ reserved → ⊥
    none_reserved j = updated_case (λ t. t ≡ reserved → ⊥) (λ y. absent) 0 running j (λ e g. cc) (λ ne g. cc)
busy (then {history = h} {event = split s c n j first} l a) =
    busy_split h s c n j first (ranges l) (splitting h s c n j first (ranges l) (holders l) a) (busy l)
busy (then {history = h} {event = same s} l a) = busy_same h s (busy l)
busy (then {history = h} {event = call s} l a) = busy_call h s (busy l)
busy (then {history = h} {event = resumed s} l a) = busy_resumed h s (busy l)
busy (then {history = h} {event = joined s j} l (sync_joined run st none)) = busy_joined h s j (ap place_of st) (busy l)
busy (then {history = h} {event = waits s} l (sync_waits {join = j} run st m o)) = busy_waits h s j m (ap enclosing st) (ap place_of st) o (busy l)
busy (then {history = h} {event = ended s} l (child_return {number = n} {join = j} run st last)) = busy_ended h s n j (ranges l) st last (busy l)
busy (then {history = h} {event = ended_joined s j} l (last_return {number = n} run st last)) = busy_ended_joined h s n j (ranges l) st (busy l)
busy (then {history = h} {event = finished s} l (root_return run st)) = busy_finished h s (ap place_of st) (busy l)

-- one step down from a reserved join, to a running strand or to a younger reserved join
step_down : (history : History) → Busy history → (strand : ℕ) → Open history strand →
    ((other : ℕ) → strand < other → Open history other → (s : ℕ) × Running history s) → (s : ℕ) × Running history s
step_down h b x op again = go (status h x) refl
  where
    deeper : (held : Place) → join_of held ≡ Some x → Held h held → (strand : ℕ) × Running h strand
    deeper p jp t = next_one (status h t.0) refl
      where
        next_one : (q : Status) → status h t.0 ≡ q → (strand : ℕ) × Running h strand
        next_one absent g = absurd (absent_not_open g t.1)
        next_one over g = absurd (not_open g t.1)
        next_one running g = (t.0, g)
        next_one reserved g = again t.0 (b.younger t.0 x g (ap join_of t.2 ∙ jp)) t.1

    go : (q : Status) → status h x ≡ q → (strand : ℕ) × Running h strand
    go absent e = absurd (absent_not_open e op)
    go over e = absurd (not_open e op)
    go running e = (x, e)
    go reserved e = elim (b.continues x e) [
      | inl g ↦ (let t = b.for_someone x e g in deeper (child_of x t.0) refl (b.child_held t.0 x t.1))
      | inr t ↦ deeper (continuation x) refl t
    ]

-- below an open number stands a running strand
running_below_it : (history : History) → Ranges history → Busy history → (fuel strand : ℕ) → Open history strand → unused history ≤ strand + fuel →
    (s : ℕ) × Running history s
running_below_it h r b zero x op le = absurd (absent_not_open (r.absent_beyond x (omega arith)) op)
running_below_it h r b (suc fuel) x op le = step_down h b x op (λ y lt oy. running_below_it h r b fuel y oy (omega arith))

-- until the root returns, some strand runs
pub someone_runs : {h : History} → Legal h → HasFinished h ⊎ ((strand : ℕ) × Running h strand)
someone_runs {h} l = elim (busy l).root_held [ inl t ↦ inl t | inr t ↦ inr (running_below_it h (ranges l) (busy l) (unused h) t.0 t.1 (omega arith)) ]
