-- The three kinds of events: a split, an event by which a join begins, and any other; with what each does to strands, edges and views.
use Rattle.std.proofs.Common.{◌≡◌, ◌≢◌, ◌⊎◌, inl, inr, ℕ, ◌<◌, ◌≤◌, Bool, [], ◌∷◌, Some, refl, sym, ap, ◌∙◌, subst, arith}
use Rattle.model_strands.specs.Updated.{updated}
use Rattle.model_strands.specs.History.{Event, split, same, joined, waits, call, resumed, ended, ended_joined, finished, History}
use Rattle.model_strands.specs.Strands.{Status, absent, reserved, running, over, status, Running, Begun, unused}
use Rattle.model_strands.specs.Blocks.{Stack, spawned, block, stack, enclosing}
use Rattle.model_strands.specs.Legal.{Allowed, sync_joined, sync_waits, child_return, last_return, root_return, Legal, start, then}
use Rattle.model_strands.specs.Dag.{Forks, Arrives}
use Rattle.model_strands.specs.Addresses.{address}
use Rattle.law_strands.specs.Views.{Covers, IsSink}
use Rattle.law_strands.proofs.Updates.{same_or_not, updated_at, updated_case}
use Rattle.law_strands.proofs.Places.{Seen, at_child, at_next, at_join, at_spawner, elsewhere, some_same, running_not_reserved, over_not_reserved}
use Rattle.law_strands.proofs.Range.{ranges}
use Rattle.law_strands.proofs.Holders.{holders, Splitting, splitting}
use Rattle.law_strands.proofs.Calm.{joined_reserved}
use Rattle.law_strands.proofs.Fates.{fates}
use Rattle.law_strands.proofs.Law.{begun_not_reserved}
use Rattle.law_strands.proofs.Kept.{begun_stays, begun_as}
use Rattle.law_strands.proofs.Sinks.{running_sink, arrived_sink}

-- an event that begins the join j, with the strand s that ends by it
pub record Joining (history : History) (event : Event) (strand join : ℕ) : Type 0 where
  pub before : Legal history
  pub after : Legal (event ∷ history)
  pub runs : Running history strand
  pub waits_for : status history join ≡ reserved
  pub begins : Begun (event ∷ history) join
  pub arrives : (arriving other : ℕ) → Arrives (event ∷ history) arriving other → ((arriving ≡ strand) × (other ≡ join)) ⊎ Arrives history arriving other
  pub arrives_now : Arrives (event ∷ history) strand join
  pub forks : (first second : ℕ) → Forks (event ∷ history) first second → Forks history first second
  pub begun : (number : ℕ) → Begun (event ∷ history) number → (number ≡ join) ⊎ Begun history number
  pub address_same : (number : ℕ) → address (event ∷ history) number ≡ address history number
  pub covers : (number first : ℕ) → Covers (event ∷ history) number first →
      ((number ≡ join) × ((first ≡ join) ⊎ ((arriving : ℕ) × Arrives (event ∷ history) arriving join × Covers history arriving first))) ⊎ ((number ≢ join) × Covers history number first)
  pub covered : (number first : ℕ) →
      ((number ≡ join) × ((first ≡ join) ⊎ ((arriving : ℕ) × Arrives (event ∷ history) arriving join × Covers history arriving first))) ⊎ ((number ≢ join) × Covers history number first) →
      Covers (event ∷ history) number first

begun_end : (history : History) (strand one : ℕ) → Running history strand →
    (updated (status history) strand over one ≡ running) ⊎ (updated (status history) strand over one ≡ over) → Begun history one
begun_end h s x run = updated_case (λ t. (t ≡ running) ⊎ (t ≡ over) → Begun h x) (status h) s over x (λ e b. inl (ap (status h) e ∙ run)) (λ ne b. b)

begun_join : (history : History) (strand its_join one : ℕ) → Running history strand →
    (updated (updated (status history) strand over) its_join running one ≡ running) ⊎ (updated (updated (status history) strand over) its_join running one ≡ over) →
    (one ≡ its_join) ⊎ Begun history one
begun_join h s j x run =
    updated_case (λ t. (t ≡ running) ⊎ (t ≡ over) → (x ≡ j) ⊎ Begun h x) (updated (status h) s over) j running x (λ e b. inl e) (λ ne b. inr (begun_end h s x run b))

pub joining_sync : (history : History) (strand its_join : ℕ) (below : Stack) → Legal history → Legal (joined strand its_join ∷ history) →
    Running history strand → stack history strand ≡ block its_join below → Joining history (joined strand its_join) strand its_join
joining_sync h s j below l l' run st = record {
  before = l;
  after = l';
  runs = run;
  waits_for = joined_reserved h s j (holders l) run (ap enclosing st);
  begins = inl (updated_at (updated (status h) s over) j running j refl);
  arrives = λ k w a. elim a [ inl t ↦ inl (t.0, some_same (sym t.1 ∙ ap enclosing st)) | inr t ↦ inr t ];
  arrives_now = inl (refl, ap enclosing st);
  forks = λ u v f. f;
  begun = λ x b. begun_join h s j x run b;
  address_same = λ x. refl;
  covers = λ x u c. c;
  covered = λ x u c. c;
}

pub joining_return : (history : History) (strand number its_join : ℕ) → Legal history → Legal (ended_joined strand its_join ∷ history) →
    Running history strand → stack history strand ≡ spawned number its_join → Joining history (ended_joined strand its_join) strand its_join
joining_return h s n j l l' run st = record {
  before = l;
  after = l';
  runs = run;
  waits_for = joined_reserved h s j (holders l) run (ap enclosing st);
  begins = inl (updated_at (updated (status h) s over) j running j refl);
  arrives = λ k w a. elim a [ inl t ↦ inl (t.0, some_same (sym t.1 ∙ ap enclosing st)) | inr t ↦ inr t ];
  arrives_now = inl (refl, ap enclosing st);
  forks = λ u v f. f;
  begun = λ x b. begun_join h s j x run b;
  address_same = λ x. refl;
  covers = λ x u c. c;
  covered = λ x u c. c;
}

-- who arrives at the join was a sink
pub arriving_sink : (history : History) (event : Event) (strand its_join : ℕ) → Joining history event strand its_join → (one : ℕ) →
    Arrives (event ∷ history) one its_join → IsSink history one
arriving_sink h e s j g x a = elim (g.arrives x j a) [
  | inl t ↦ subst (IsSink h) (sym t.0) (running_sink h g.before s g.runs)
  | inr t ↦ arrived_sink h g.before x j t g.waits_for
]

reserved_begun : {t : Status} → t ≡ reserved → (t ≡ running) ⊎ (t ≡ over) → ⊥
reserved_begun e (inl g) = running_not_reserved g e
reserved_begun e (inr g) = over_not_reserved g e

pub begun_earlier : (history : History) (strand the_child the_next the_join : ℕ) (first : Bool) →
    Splitting history strand the_child the_next the_join first → (one : ℕ) → one ≢ the_child → one ≢ the_next →
    Begun (split strand the_child the_next the_join first ∷ history) one → Begun history one
begun_earlier h s c n j first w x nc nn b = go (w.numbers.see x)
  where
    go : Seen h s c n j first x → Begun h x
    go (at_child xe a p d) = absurd (nc xe)
    go (at_next xe a p d) = absurd (nn xe)
    go (at_join xe lo t a p d) = absurd (reserved_begun a b)
    go (at_spawner xe a p d) = inl (ap (status h) xe ∙ w.runs)
    go (elsewhere ne kn a p d) = begun_as a b

pub new_sink : (history : History) (strand the_child the_next the_join : ℕ) (first : Bool) → Legal history →
    Splitting history strand the_child the_next the_join first → (one : ℕ) → unused history ≤ one →
    Begun (split strand the_child the_next the_join first ∷ history) one → IsSink (split strand the_child the_next the_join first ∷ history) one
new_sink h s c n j first l w x lo b = (
  b,
  (λ m k. elim k [
    | inl f ↦ elim f [ inl t ↦ omega (arith, t.0, w.numbers.spawner_known) | inr g ↦ omega (arith, ((fates l).forked x m g).1) ]
    | inr t ↦ omega (arith, ((fates l).arrived x m t.0).0)
  ]),
)

pub old_sink : (history : History) (strand the_child the_next the_join : ℕ) (first : Bool) → Legal history →
    Legal (split strand the_child the_next the_join first ∷ history) → Splitting history strand the_child the_next the_join first → (one : ℕ) →
    one ≢ strand → IsSink history one → IsSink (split strand the_child the_next the_join first ∷ history) one
old_sink h s c n j first l l' w x ns k = (
  begun_stays l' x k.0,
  (λ m e. elim e [
    | inl f ↦ elim f [ inl t ↦ ns t.0 | inr g ↦ k.1 m (inl g) ]
    | inr t ↦ (let lt : m < unused h = (ranges l).join_below x m ((fates l).arrived x m t.0).1 in
        k.1 m (inr (t.0, begun_earlier h s c n j first w m (λ e. omega (arith, e, w.numbers.child_is)) (λ e. omega (arith, e, w.numbers.next_is)) t.1)))
  ]),
)

-- an event that begins no join
pub record Quiet (history : History) (event : Event) : Type 0 where
  pub before : Legal history
  pub after : Legal (event ∷ history)
  pub begun : (number : ℕ) → Begun (event ∷ history) number → Begun history number
  pub still : (number : ℕ) → IsSink history number → IsSink (event ∷ history) number
  pub covers : (number held : ℕ) → Covers (event ∷ history) number held → Covers history number held
  pub covered : (number held : ℕ) → Covers history number held → Covers (event ∷ history) number held
  pub address_same : (number : ℕ) → address (event ∷ history) number ≡ address history number

still_end : (history : History) (strand : ℕ) (event : Event) → Legal history → Legal (event ∷ history) → Running history strand →
    ((one : ℕ) → Begun (event ∷ history) one → Begun history one) → ((u other : ℕ) → Forks (event ∷ history) u other → Forks history u other) →
    ((u other : ℕ) → Arrives (event ∷ history) u other → ((u ≡ strand) × (enclosing (stack history strand) ≡ Some other)) ⊎ Arrives history u other) →
    (one : ℕ) → IsSink history one → IsSink (event ∷ history) one
still_end h s e l l' run begun forks arrives x k = (
  begun_stays l' x k.0,
  (λ m g. elim g [
    | inl f ↦ k.1 m (inl (forks x m f))
    | inr t ↦ elim (arrives x m t.0) [
      | inl q ↦ begun_not_reserved h m (begun m t.1) (joined_reserved h s m (holders l) run q.1)
      | inr q ↦ k.1 m (inr (q, begun m t.1))
    ]
  ]),
)

pub quiet_waits : (history : History) (strand : ℕ) → Legal history → Legal (waits strand ∷ history) → Running history strand → Quiet history (waits strand)
quiet_waits h s l l' run = record {
  before = l;
  after = l';
  begun = λ x b. begun_end h s x run b;
  covers = λ x u c. c;
  covered = λ x u c. c;
  address_same = λ x. refl;
  still = still_end h s (waits s) l l' run (λ x b. begun_end h s x run b) (λ u v f. f) (λ u v a. a);
}

pub quiet_ended : (history : History) (strand : ℕ) → Legal history → Legal (ended strand ∷ history) → Running history strand → Quiet history (ended strand)
quiet_ended h s l l' run = record {
  before = l;
  after = l';
  begun = λ x b. begun_end h s x run b;
  covers = λ x u c. c;
  covered = λ x u c. c;
  address_same = λ x. refl;
  still = still_end h s (ended s) l l' run (λ x b. begun_end h s x run b) (λ u v f. f) (λ u v a. a);
}

pub quiet_finished : (history : History) (strand : ℕ) → Legal history → Legal (finished strand ∷ history) → Running history strand →
    Quiet history (finished strand)
quiet_finished h s l l' run = record {
  before = l;
  after = l';
  begun = λ x b. begun_end h s x run b;
  covers = λ x u c. c;
  covered = λ x u c. c;
  address_same = λ x. refl;
  still = still_end h s (finished s) l l' run (λ x b. begun_end h s x run b) (λ u v f. f) (λ u v a. inr a);
}

pub quiet_same : (history : History) (strand : ℕ) → Legal history → Legal (same strand ∷ history) → Quiet history (same strand)
quiet_same h s l l' = record { before = l; after = l'; begun = λ x b. b; still = λ x k. k; covers = λ x u c. c; covered = λ x u c. c; address_same = λ x. refl }

pub quiet_call : (history : History) (strand : ℕ) → Legal history → Legal (call strand ∷ history) → Quiet history (call strand)
quiet_call h s l l' = record { before = l; after = l'; begun = λ x b. b; still = λ x k. k; covers = λ x u c. c; covered = λ x u c. c; address_same = λ x. refl }

pub quiet_resumed : (history : History) (strand : ℕ) → Legal history → Legal (resumed strand ∷ history) → Quiet history (resumed strand)
quiet_resumed h s l l' = record {
  before =
      l;
  after = l';
  begun = λ x b. b;
  still = λ x k. k;
  covers = λ x u c. c;
  covered = λ x u c. c;
  address_same = λ x. refl;
}

-- the three kinds of events
pub data Kind (history : History) : Event → Type 0 where
  a_split : {strand the_child the_next the_join : ℕ} {first : Bool} → Splitting history strand the_child the_next the_join first →
      Kind history (split strand the_child the_next the_join first)
  a_join : {event : Event} (strand the_join : ℕ) → Joining history event strand the_join → Kind history event
  quiet : {event : Event} → Quiet history event → Kind history event

pub kind : (history : History) (event : Event) → Legal history → Allowed history event → Kind history event
kind h (split s c n j first) l a = a_split (splitting h s c n j first (ranges l) (holders l) a)
kind h (joined s j) l (sync_joined {below = below} run st none) =
    a_join s j (joining_sync h s j below l (then l (sync_joined {below = below} run st none)) run st)
kind h (ended_joined s j) l (last_return {number = n} run st last) =
    a_join s j (joining_return h s n j l (then l (last_return {number = n} run st last)) run st)
kind h (waits s) l (sync_waits {join = j} {below = below} run st m o) =
    quiet (quiet_waits h s l (then l (sync_waits {join = j} {below = below} run st m o)) run)
kind h (ended s) l (child_return {number = n} {join = j} run st last) =
    quiet (quiet_ended h s l (then l (child_return {number = n} {join = j} run st last)) run)
kind h (finished s) l (root_return run st) = quiet (quiet_finished h s l (then l (root_return run st)) run)
kind h (same s) l a = quiet (quiet_same h s l (then l a))
kind h (call s) l a = quiet (quiet_call h s l (then l a))
kind h (resumed s) l a = quiet (quiet_resumed h s l (then l a))

-- A strand's view holds the strand.

covers_kind : (history : History) (event : Event) → Kind history event → (strand : ℕ) → (Begun history strand → Covers history strand strand) →
    Begun (event ∷ history) strand → Covers (event ∷ history) strand strand
covers_kind h (split s c n j first) (a_split w) x old b = elim (same_or_not x c) [
  | inl e ↦ inl (e, inl e)
  | inr nc ↦ elim (same_or_not x n) [ inl e ↦ inr (inl (e, e)) | inr nn ↦ inr (inr (nc, nn, old (begun_earlier h s c n j first w x nc nn b))) ]
]
covers_kind h e (a_join s j g) x old b = elim (same_or_not x j) [
  | inl q ↦ g.covered x x (inl (q, inl q))
  | inr ne ↦ elim (g.begun x b) [ inl q ↦ absurd (ne q) | inr q ↦ g.covered x x (inr (ne, old q)) ]
]
covers_kind h e (quiet q) x old b = q.covered x x (old (q.begun x b))

pub begun_first : (strand : ℕ) → Begun [] strand → strand ≡ 0
begun_first x =
    updated_case (λ t. (t ≡ running) ⊎ (t ≡ over) → x ≡ 0) (λ y. absent) 0 running x (λ e g. e) (λ ne g. elim g [ inl q ↦ absurd (cc) | inr q ↦ absurd (cc) ])

pub covers_self : {h : History} → Legal h → (strand : ℕ) → Begun h strand → Covers h strand strand
covers_self start x b = (begun_first x b, begun_first x b)
covers_self (then {history = h} {event = e} l a) x b = covers_kind h e (kind h e l a) x (λ q. covers_self l x q) b
