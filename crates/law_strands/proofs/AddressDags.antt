-- The dag of a legal history, by the addresses of its strands, is one of strands that begin by spawns and at the ends of blocks.
use Rattle.std.proofs.Common.{◌≡◌, ◌≢◌, ◌⊎◌, ◌↔◌, inl, inr, ℕ, zero, suc, ◌+◌, ◌<◌, ◌≤◌, Bool, true, false, [], ◌∷◌, refl, sym, ap, ◌∙◌, subst, IsTrue, arith}
use Rattle.model_strands.specs.Address.{Word, child, next, join, Address, extended, same_word}
use Rattle.law_addresses.specs.Address.{is_fork, reaches, IsPrefix}
use Rattle.law_addresses.specs.Dags.{IsStrandDag}
use Rattle.law_addresses.proofs.Relations.{cases_same, part-distinct, reaches-self, reaches-transitive, reaches-antisymmetric}
use Rattle.model_strands.specs.History.{Event, split, same, joined, waits, call, resumed, ended, ended_joined, finished, History}
use Rattle.model_strands.specs.Strands.{Status, absent, reserved, running, over, status, Begun, unused}
use Rattle.model_strands.specs.Legal.{Legal, start, then}
use Rattle.model_strands.specs.Dag.{Forks, Edge, Path, stay, step, Reaches}
use Rattle.model_strands.specs.Addresses.{address}
use Rattle.law_strands.specs.Laws.{BegunAt, EdgeAt, DagLaw, NumbersLaw}
use Rattle.law_strands.proofs.Updates.{same_or_not}
use Rattle.law_strands.proofs.Words.{◌▹◌, last_same, not_prefix_shorter, prefix_refl}
use Rattle.law_strands.proofs.Places.{below_or_beyond}
use Rattle.law_strands.proofs.Range.{ranges}
use Rattle.law_strands.proofs.Holders.{holders, Splitting, splitting}
use Rattle.law_strands.proofs.Calm.{IsCalm, calm_address, calm_forks}
use Rattle.law_strands.proofs.Addresses.{addresses, by_word, Named, named_new, named_old, named, address_kept}
use Rattle.law_strands.proofs.Fates.{fates}
use Rattle.law_strands.proofs.Decisions.{either, both, any_below, arrives_or_not}
use Rattle.law_strands.proofs.Sinks.{arrives_over, forked_begun}
use Rattle.law_strands.proofs.Law.{begun_below, reach_precedes, precedes_reach}

pub numbers_law : NumbersLaw
numbers_law h l x = (λ e. beyond e (below_or_beyond x (unused h)), λ t. (ranges l).absent_beyond x t)
  where
    beyond : status h x ≡ absent → (x < unused h) ⊎ (unused h ≤ x) → unused h ≤ x
    beyond e (inl t) = absurd ((fates l).known x t e)
    beyond e (inr t) = t

-- ---- tests

abbrev test_of : {P : Type 0} → P ⊎ (P → ⊥) → Bool
test_of (inl p) = true
test_of (inr fails) = false

test_tells : {P : Type 0} (known : P ⊎ (P → ⊥)) → (test_of known ≡ true) ↔ P
test_tells (inl p) = (λ e. p, λ p. refl)
test_tells (inr fails) = (λ e. absurd (cc), λ p. absurd (fails p))

true_or_not : (b : Bool) → (b ≡ true) ⊎ (b ≡ true → ⊥)
true_or_not true = inl refl
true_or_not false = inr (λ e. cc)

begun_or_not : (history : History) (strand : ℕ) → Begun history strand ⊎ (Begun history strand → ⊥)
begun_or_not h x = go (status h x) refl
  where
    go : (is : Status) → status h x ≡ is → Begun h x ⊎ (Begun h x → ⊥)
    go absent e = inr (λ b. elim b [ inl g ↦ absurd (let clash : absent ≡ running = sym e ∙ g in cc) | inr g ↦ absurd (let clash : absent ≡ over = sym e ∙ g in cc) ])
    go reserved e = inr (λ b. elim b [ inl g ↦ absurd (let clash : reserved ≡ running = sym e ∙ g in cc) | inr g ↦ absurd (let clash : reserved ≡ over = sym e ∙ g in cc) ])
    go running e = inl (inl e)
    go over e = inl (inr e)

forks_or_not : (history : History) (strand other : ℕ) → Forks history strand other ⊎ (Forks history strand other → ⊥)
forks_or_not [] u v = inr (λ t. t)
forks_or_not (split s c n j first ∷ h) u v = either (both (same_or_not u s) (either (same_or_not v c) (same_or_not v n))) (forks_or_not h u v)
forks_or_not (same s ∷ h) u v = forks_or_not h u v
forks_or_not (joined s j ∷ h) u v = forks_or_not h u v
forks_or_not (waits s ∷ h) u v = forks_or_not h u v
forks_or_not (call s ∷ h) u v = forks_or_not h u v
forks_or_not (resumed s ∷ h) u v = forks_or_not h u v
forks_or_not (ended s ∷ h) u v = forks_or_not h u v
forks_or_not (ended_joined s j ∷ h) u v = forks_or_not h u v
forks_or_not (finished s ∷ h) u v = forks_or_not h u v

edge_or_not : (history : History) (strand other : ℕ) → Edge history strand other ⊎ (Edge history strand other → ⊥)
edge_or_not h u v = either (forks_or_not h u v) (both (arrives_or_not h u v) (begun_or_not h v))

-- the ends of an edge have begun
edge_begun : (history : History) → Legal history → (strand other : ℕ) → Edge history strand other → Begun history strand × Begun history other
edge_begun h l u v (inl f) = (inr ((fates l).forked u v f).0, forked_begun l u v f)
edge_begun h l u v (inr (a, b)) = (inr (arrives_over l u v a), b)

-- what holds of a number below the bound or of none is decided
found_or_not : (P : ℕ → Type 0) (bound : ℕ) → ((number : ℕ) → P number ⊎ (P number → ⊥)) → ((number : ℕ) → P number → number < bound) →
    ((number : ℕ) × P number) ⊎ (((number : ℕ) × P number) → ⊥)
found_or_not P bound decide below = elim (any_below P decide bound) [ inl t ↦ inl t | inr none ↦ inr (λ t. none t.0 (below t.0 t.1) t.1) ]

abbrev IsBegun : History → Address → ℕ → Type 0
IsBegun h a x = Begun h x × (address h x ≡ a)

begun_at_or_not : (history : History) → Legal history → (a : Address) → BegunAt history a ⊎ (BegunAt history a → ⊥)
begun_at_or_not h l a = flat (found_or_not (IsBegun h a) (unused h) (λ x. both (begun_or_not h x) (cases_same (address h x) a))
    (λ x t. begun_below h (ranges l) x t.0))
  where
    flat : ((x : ℕ) × IsBegun h a x) ⊎ (((x : ℕ) × IsBegun h a x) → ⊥) → BegunAt h a ⊎ (BegunAt h a → ⊥)
    flat (inl t) = inl (t.0, t.1.0, t.1.1)
    flat (inr fails) = inr (λ t. fails (t.0, (t.1, t.2)))

abbrev IsEdge : History → Address → Address → ℕ → ℕ → Type 0
IsEdge h a b u v = Edge h u v × ((address h u ≡ a) × (address h v ≡ b))

edge_at_or_not : (history : History) → Legal history → (a b : Address) → EdgeAt history a b ⊎ (EdgeAt history a b → ⊥)
edge_at_or_not h l a b = flat (found_or_not (λ u. (v : ℕ) × IsEdge h a b u v) (unused h) (λ u. from u)
    (λ u t. begun_below h (ranges l) u (edge_begun h l u t.0 t.1.0).0))
  where
    from : (u : ℕ) → ((v : ℕ) × IsEdge h a b u v) ⊎ (((v : ℕ) × IsEdge h a b u v) → ⊥)
    from u =
        found_or_not (IsEdge h a b u) (unused h) (λ v. both (edge_or_not h u v) (both (cases_same (address h u) a) (cases_same (address h v) b)))
        (λ v t. begun_below h (ranges l) v (edge_begun h l u v t.0).1)

    flat : ((u : ℕ) × ((v : ℕ) × IsEdge h a b u v)) ⊎ (((u : ℕ) × ((v : ℕ) × IsEdge h a b u v)) → ⊥) → EdgeAt h a b ⊎ (EdgeAt h a b → ⊥)
    flat (inl t) = inl (t.0, t.1.0, t.1.1.0, t.1.1.1.0, t.1.1.1.1)
    flat (inr fails) = inr (λ t. fails (t.0, (t.1, (t.2, (t.3, t.4)))))

-- ---- a time that rises along edges: how many begun strands reach a strand

abbrev counted : Bool → ℕ
counted true = 1
counted false = 0

abbrev count : (ℕ → Bool) → ℕ → ℕ
count test zero = 0
count test (suc n) = counted (test n) + count test n

module _ (f g : ℕ → Bool) (more : (n : ℕ) → f n ≡ true → g n ≡ true) where
  one_most : (x y : Bool) → (x ≡ true → y ≡ true) → counted x ≤ counted y
  one_most true true h = omega arith
  one_most true false h = absurd (let clash : false ≡ true = h refl in cc)
  one_most false true h = omega arith
  one_most false false h = omega arith

  count_most : (n : ℕ) → count f n ≤ count g n
  count_most zero = omega arith
  count_most (suc n) = omega (arith, one_most (f n) (g n) (more n), count_most n)

  count_less : (n m : ℕ) → m < n → f m ≡ false → g m ≡ true → count f n < count g n
  count_less zero m lt e k = absurd (omega arith)
  count_less (suc n) m lt e k = go (same_or_not m n) (λ lt. count_less n m lt e k)
    where
      go : (m ≡ n) ⊎ (m ≢ n) → (m < n → count f n < count g n) → count f (suc n) < count g (suc n)
      go (inl alike) rest =
          let zero_here : counted (f n) ≡ 0 = ap counted (sym (ap f alike) ∙ e) in
          let one_here : counted (g n) ≡ 1 = ap counted (sym (ap g alike) ∙ k) in
          omega (arith, zero_here, one_here, count_most n)
      go (inr apart) rest = omega (arith, one_most (f n) (g n) (more n), rest (omega arith))

module _ (h : History) (l : Legal h) where
  ahead_or_not : (a : Address) (x : ℕ) → (Begun h x × (reaches (address h x) a ≡ true)) ⊎ (Begun h x × (reaches (address h x) a ≡ true) → ⊥)
  ahead_or_not a x = both (begun_or_not h x) (true_or_not (reaches (address h x) a))

  abbrev ahead : Address → ℕ → Bool
  ahead a x = test_of (ahead_or_not a x)

  abbrev time : Address → ℕ
  time a = count (ahead a) (unused h)

  fork_not_join : (x y : Word) → IsTrue (is_fork x) × (y ≡ join) → same_word x y ≡ false
  fork_not_join child join t = refl
  fork_not_join next join t = refl
  fork_not_join x y t = absurd (cc)

  -- no edge leads from a strand to itself
  no_loop : (u : ℕ) → Edge h u u → ⊥
  no_loop u (inl f) =
      let below = (fates l).below u u f in
      not_prefix_shorter (address h u) below.0 (subst (λ x. IsPrefix (address h u ▹ below.0) x) (sym below.1) (prefix_refl (address h u ▹ below.0)))
  no_loop u (inr a) =
      let arrived = (fates l).arrived u u a.0 in
      part-distinct _ fork_not_join (address h u) (address h u) ((addresses l).inside u u arrived.0 arrived.1) refl

  edge_reaches : (u v : ℕ) → Edge h u v → reaches (address h u) (address h v) ≡ true
  edge_reaches u v e = reach_precedes h l u v (step e stay)

  edge_forward : (u v : ℕ) → Edge h u v → reaches (address h v) (address h u) ≡ true → ⊥
  edge_forward u v e back =
      let ends = edge_begun h l u v e in
      let one : u ≡ v = (addresses l).distinct u v (begun_below h (ranges l) u ends.0) (begun_below h (ranges l) v ends.1)
      (reaches-antisymmetric (address h u) (address h v) (edge_reaches u v e) back) in
      no_loop v (subst (λ x. Edge h x v) one e)

  time_rises : (u v : ℕ) → Edge h u v → time (address h u) < time (address h v)
  time_rises u v e =
      let ends = edge_begun h l u v e in
      count_less (ahead (address h u)) (ahead (address h v)) further (unused h) v (begun_below h (ranges l) v ends.1) (not_ahead (ahead_or_not (address h u) v))
      ((test_tells (ahead_or_not (address h v) v)).1 (ends.1, reaches-self (address h v)))
    where
      further : (x : ℕ) → ahead (address h u) x ≡ true → ahead (address h v) x ≡ true
      further x t =
          let here = (test_tells (ahead_or_not (address h u) x)).0 t in
          (test_tells (ahead_or_not (address h v) x)).1 (here.0, reaches-transitive (address h x) (address h u) (address h v) here.1 (edge_reaches u v e))

      not_ahead : (known : (Begun h v × (reaches (address h v) (address h u) ≡ true)) ⊎ (Begun h v × (reaches (address h v) (address h u) ≡ true) → ⊥)) → test_of known ≡ false
      not_ahead (inl t) = absurd (edge_forward u v e t.1)
      not_ahead (inr fails) = refl

-- ---- a child and a continuation were begun by a split

empty_not_longer : (a : Address) (w : Word) → [] ≢ a ▹ w
empty_not_longer [] w e = cc
empty_not_longer (x ∷ a) w e = cc

abbrev IsForked : History → ℕ → Type 0
IsForked h v = (a : Address) (w : Word) → is_fork w ≡ true → address h v ≡ a ▹ w → (u : ℕ) × Forks h u v × (address h u ≡ a)

forked_calm : (h : History) (e : Event) → IsCalm e → (v : ℕ) → IsForked h v → IsForked (e ∷ h) v
forked_calm h e calm v forked a w fork is =
    let t = forked a w fork (sym (calm_address h e calm v) ∙ is) in
    (t.0, (calm_forks h e calm t.0 v).1 t.1, calm_address h e calm t.0 ∙ t.2)

forked_by : {h : History} → Legal h → (v : ℕ) → v < unused h → IsForked h v
forked_by start v lt = λ a w fork is. absurd (empty_not_longer a w is)
forked_by (then {history = h} {event = split s c n j first} l allowed) v lt =
    go (splitting h s c n j first (ranges l) (holders l) allowed) (λ below. forked_by l v below)
  where
    word_is : Splitting h s c n j first → (word : Word) → v ≡ by_word c n j word → address (split s c n j first ∷ h) v ≡ address h s ▹ word → IsForked (split s c n j first ∷ h) v
    word_is w word at there a x fork is = by word at (last_same (address h s) a word x (sym there ∙ is))
      where
        spawner : address h s ≡ a → address (split s c n j first ∷ h) s ≡ a
        spawner e = address_kept h s c n j first w s w.numbers.spawner_known ∙ e

        by : (word : Word) → v ≡ by_word c n j word → (address h s ≡ a) × (word ≡ x) → (u : ℕ) × Forks (split s c n j first ∷ h) u v × (address (split s c n j first ∷ h) u ≡ a)
        by child at alike = (s, inl (refl, inl at), spawner alike.0)
        by next at alike = (s, inl (refl, inr at), spawner alike.0)
        by join at alike = absurd (let clash : false ≡ true = ap is_fork alike.1 ∙ fork in cc)

    go : Splitting h s c n j first → (v < unused h → IsForked h v) → IsForked (split s c n j first ∷ h) v
    go w old = by (named h s c n j first w v lt)
      where
        by : Named h s c n j first v → IsForked (split s c n j first ∷ h) v
        by (named_new word at opens there) = word_is w word at there
        by (named_old below there stands opened) = λ a x fork is.
            let t = old below a x fork (sym there ∙ is) in
            (t.0, inr t.1, address_kept h s c n j first w t.0 ((fates l).forked t.0 v t.1).1 ∙ t.2)
forked_by (then {history = h} {event = same s} l allowed) v lt = forked_calm h (same s) tt v (forked_by l v lt)
forked_by (then {history = h} {event = joined s j} l allowed) v lt = forked_calm h (joined s j) tt v (forked_by l v lt)
forked_by (then {history = h} {event = waits s} l allowed) v lt = forked_calm h (waits s) tt v (forked_by l v lt)
forked_by (then {history = h} {event = call s} l allowed) v lt = forked_calm h (call s) tt v (forked_by l v lt)
forked_by (then {history = h} {event = resumed s} l allowed) v lt = forked_calm h (resumed s) tt v (forked_by l v lt)
forked_by (then {history = h} {event = ended s} l allowed) v lt = forked_calm h (ended s) tt v (forked_by l v lt)
forked_by (then {history = h} {event = ended_joined s j} l allowed) v lt = forked_calm h (ended_joined s j) tt v (forked_by l v lt)
forked_by (then {history = h} {event = finished s} l allowed) v lt = forked_calm h (finished s) tt v (forked_by l v lt)

-- ---- what reaches a join does so by a strand with an edge to it

last_step : {R : ℕ → ℕ → Type 0} {u v : ℕ} → Path R u v → (u ≡ v) ⊎ ((between : ℕ) × Path R u between × R between v)
last_step stay = inl refl
last_step {R} (step {strand = u} {between = m} {other = v} r p) = go (last_step p)
  where
    go : (m ≡ v) ⊎ ((between : ℕ) × Path R m between × R between v) → (u ≡ v) ⊎ ((between : ℕ) × Path R u between × R between v)
    go (inl e) = inr (u, stay, subst (λ x. R u x) e r)
    go (inr (between, q, last)) = inr (between, step r q, last)

module _ (h : History) (l : Legal h) where
  spawned_edge : (spawner : Address) (word : Word) → is_fork word ≡ true → BegunAt h (extended spawner word) → EdgeAt h spawner (extended spawner word)
  spawned_edge spawner word fork (v, begun, is) =
      let t = forked_by l v (begun_below h (ranges l) v begun) spawner word fork is in (t.0, v, inl t.1, t.2, is)

  ended_edge : (opener strand : Address) → BegunAt h (extended opener join) → BegunAt h strand → strand ≢ extended opener join → reaches strand (extended opener join) ≡ true →
      (last : Address) × EdgeAt h last (extended opener join) × (reaches strand last ≡ true)
  ended_edge opener strand (v, begun_v, is_v) (u, begun_u, is_u) apart reach =
      go (last_step (precedes_reach h l u v begun_u begun_v (subst (λ x. reaches x (address h v) ≡ true) (sym is_u) (subst (λ x. reaches strand x ≡ true) (sym is_v) reach))))
    where
      go : (u ≡ v) ⊎ ((between : ℕ) × Reaches h u between × Edge h between v) → (last : Address) × EdgeAt h last (extended opener join) × (reaches strand last ≡ true)
      go (inl e) = absurd (apart (sym is_u ∙ (ap (address h) e ∙ is_v)))
      go (inr (between, path, edge)) =
          (address h between, (between, v, edge, refl, is_v), subst (λ x. reaches x (address h between) ≡ true) is_u (reach_precedes h l u between path))

  strand_dag : IsStrandDag (BegunAt h) (EdgeAt h)
  strand_dag = record {
    time = time h l;
    later = λ a b t. subst (λ x. time h l x < time h l b) t.3 (subst (λ x. time h l (address h t.0) < time h l x) t.4 (time_rises h l t.0 t.1 t.2));
    ends = λ a b t. let begun = edge_begun h l t.0 t.1 t.2 in ((t.0, begun.0, t.3), (t.1, begun.1, t.4));
    sound = λ a b t. subst (λ x. reaches x b ≡ true) t.3 (subst (λ x. reaches (address h t.0) x ≡ true) t.4 (edge_reaches h l t.0 t.1 t.2));
    spawned = spawned_edge;
    ended = ended_edge;
  }

-- a dag by relations is one by tests that decide them
tested : (Begun : Address → Type 0) (Edges : Address → Address → Type 0) (begun : Address → Bool) (edge : Address → Address → Bool) →
    ((a : Address) → IsTrue (begun a) ↔ Begun a) → ((a b : Address) → IsTrue (edge a b) ↔ Edges a b) → IsStrandDag Begun Edges →
    IsStrandDag (λ a. IsTrue (begun a)) (λ a b. IsTrue (edge a b))
tested Begun Edges begun edge decides_begun decides_edge dag = record {
  time = dag.time;
  later = λ a b t. dag.later a b ((decides_edge a b).0 t);
  ends = λ a b t. let ends = dag.ends a b ((decides_edge a b).0 t) in ((decides_begun a).1 ends.0, (decides_begun b).1 ends.1);
  sound = λ a b t. dag.sound a b ((decides_edge a b).0 t);
  spawned = λ spawner word fork t. (decides_edge spawner (extended spawner word)).1 (dag.spawned spawner word fork ((decides_begun (extended spawner word)).0 t));
  ended = λ opener strand at_join at_strand apart reach.
      let last = dag.ended opener strand ((decides_begun (extended opener join)).0 at_join) ((decides_begun strand).0 at_strand) apart reach in
      (last.0, (decides_edge last.0 (extended opener join)).1 last.1, last.2);
}

pub dag_law : DagLaw
dag_law h l =
    let decides_begun : (a : Address) → IsTrue (test_of (begun_at_or_not h l a)) ↔ BegunAt h a = λ a. test_tells (begun_at_or_not h l a) in
    let decides_edge : (a b : Address) → IsTrue (test_of (edge_at_or_not h l a b)) ↔ EdgeAt h a b = λ a b. test_tells (edge_at_or_not h l a b) in (
      λ a. test_of (begun_at_or_not h l a),
      λ a b. test_of (edge_at_or_not h l a b),
      decides_begun,
      decides_edge,
      tested (BegunAt h) (EdgeAt h) _ _ decides_begun decides_edge (strand_dag h l),
    )
