-- Strands that run or have arrived at a join that has not begun: what a join gathers of them, and that no two have one home.
-- h: a history; e: an event; s, x, z: strands; i, j: joins; m: the number of a spawn; in a split, s is the spawner, c its child, n its next
-- and j the join
use Rattle.std.proofs.Common.{◌≡◌, ◌≢◌, ◌⊎◌, inl, inr, ℕ, ◌+◌, ◌<◌, ◌≤◌, suc, Bool, List, [], ◌∷◌, ◌++◌, map, length, Some, refl, sym, ap, ap₂, ◌∙◌, subst, subst₂, arith}
use Rattle.std.proofs.lemmas.List.{map-append}
use Rattle.model_strands.specs.Updated.{updated}
use Rattle.model_strands.specs.History.{Event, split, same, joined, waits, call, resumed, ended, ended_joined, finished, History}
use Rattle.model_strands.specs.Strands.{Status, absent, reserved, running, over, status, Running, unused}
use Rattle.model_strands.specs.Blocks.{spawned, stack, enclosing, Outstanding, IsWaitedFor}
use Rattle.model_strands.specs.Legal.{Allowed, Legal, start, then, sync_joined, sync_waits, child_return, last_return}
use Rattle.model_strands.specs.Dag.{Arrives}
use Rattle.law_strands.proofs.Updates.{same_or_not, updated_at, updated_off, updated_case}
use Rattle.law_strands.proofs.Places.{Place, continuation, child_of, place_of, place, Seen, at_child, at_next, at_join, at_spawner, elsewhere, Ranges, running_below}
use Rattle.law_strands.proofs.Range.{ranges}
use Rattle.law_strands.proofs.Holders.{Holders, holders, Splitting, splitting, running_open}
use Rattle.law_strands.proofs.Calm.{IsCalm, calm_place, calm_unused, calm_arrives, joined_reserved}
use Rattle.law_strands.proofs.Fates.{fates}
use Rattle.law_strands.proofs.Sinks.{arrives_over}
use Rattle.law_strands.specs.Gatherings.{children, last_strand, returned_by, syncing_strand, synced_by, gathered}
use Rattle.law_strands.proofs.Members.{Present, present_append, present_map}
use Rattle.law_strands.proofs.Sides.{Sides, sides}
use Rattle.reducer_views.specs.Homes.{home, IsCurrent}
use Rattle.reducer_views.proofs.Blocks.{child_home, tail, continuations, Blocks, blocks, calm_reserved, next_not_child, old_home, home_at_child, home_at_next}

-- the function returned with this strand
abbrev pub IsBack : History → ℕ → ℕ → ℕ → Type 0
IsBack h j m x = (x < unused h) × (place h x ≡ child_of j m) × Arrives h x j

-- the strand waits at the end of its block
abbrev pub IsWaiting : History → ℕ → ℕ → Type 0
IsWaiting h j x = (x < unused h) × (home h x ≡ tail h j) × Arrives h x j

pub record Children (h : History) : Type 0 where
  pub member : (x j m : ℕ) → x < unused h → place h x ≡ child_of j m → Present m (children h j)
  pub one_parent : (j k m : ℕ) → Present m (children h j) → Present m (children h k) → j ≡ k
  pub back : (j m : ℕ) → Present m (children h j) → Outstanding h m j ⊎ IsBack h j m (last_strand h m)
  pub waiting : (j : ℕ) → status h j ≡ reserved → IsWaitedFor h j → IsWaiting h j (syncing_strand h j)

child_is : {p : Place} {j k m n : ℕ} → p ≡ child_of j n → p ≡ child_of k m → (k ≡ j) × (m ≡ n)
child_is e g = (cc, cc)

module _ (h : History) (s c n j : ℕ) (first : Bool) (r : Ranges h) (o : Holders h) (sd : Sides h) (w : Splitting h s c n j first) (b : Blocks h) (k : Children h) where
  children_cases : (i m : ℕ) → Present m (children (split s c n j first ∷ h) i) → ((i ≡ j) × (m ≡ suc (length h))) ⊎ Present m (children h i)
  children_cases i m = updated_case (λ ys. Present m ys → ((i ≡ j) × (m ≡ suc (length h))) ⊎ Present m (children h i)) (children h) j (children h j ++ (suc (length h) ∷ [])) i
      (λ e t. elim ((present_append (children h j) (suc (length h) ∷ []) m).0 t) [
        | inl q ↦ inr (subst (λ y. Present m (children h y)) (sym e) q)
        | inr q ↦ elim q [ inl z ↦ inl (e, sym z) | inr z ↦ absurd z ]
      ])
      (λ ne t. inr t)

  in_more : (i m : ℕ) → Present m (children h i) → Present m (children (split s c n j first ∷ h) i)
  in_more i m t = updated_case (Present m) (children h) j (children h j ++ (suc (length h) ∷ [])) i
      (λ e. (present_append (children h j) (suc (length h) ∷ []) m).1 (inl (subst (λ y. Present m (children h y)) e t))) (λ ne. t)

  in_here : (i m : ℕ) → i ≡ j → m ≡ suc (length h) → Present m (children (split s c n j first ∷ h) i)
  in_here i m e g = subst (Present m) (sym (updated_at (children h) j (children h j ++ (suc (length h) ∷ [])) i e)) ((present_append (children h j) (suc (length h) ∷ []) m).1 (inr (inl (sym g))))

  old_place : (x : ℕ) → x < unused h → place (split s c n j first ∷ h) x ≡ place h x
  old_place x lt = go (w.numbers.see x)
    where
      go : Seen h s c n j first x → place (split s c n j first ∷ h) x ≡ place h x
      go (at_child xe a p d) = absurd (omega (arith, xe, w.numbers.child_is))
      go (at_next xe a p d) = absurd (omega (arith, xe, w.numbers.next_is))
      go (at_join xe lo t a p d) = absurd (omega arith)
      go (at_spawner xe a p d) = p ∙ ap (place h) (sym xe)
      go (elsewhere ne q a p d) = p

  old_known : (x : ℕ) → x < unused h → x < unused (split s c n j first ∷ h)
  old_known x lt = let g : 2 + unused h ≤ unused (split s c n j first ∷ h) = w.numbers.grows in omega arith

  member_split : (x i m : ℕ) → x < unused (split s c n j first ∷ h) → place (split s c n j first ∷ h) x ≡ child_of i m → Seen h s c n j first x → Present m (children (split s c n j first ∷ h) i)
  member_split x i m lt e (at_child xe a p d) = let q = child_is p e in in_here i m q.0 q.1
  member_split x i m lt e (at_next xe a p d) = absurd (next_not_child p e)
  member_split x i m lt e (at_join xe lo t a p d) = in_more i m (k.member s i m w.numbers.spawner_known (sym p ∙ e))
  member_split x i m lt e (at_spawner xe a p d) = in_more i m (k.member s i m w.numbers.spawner_known (sym p ∙ e))
  member_split x i m lt e (elsewhere ne (inl q) a p d) = in_more i m (k.member x i m q (sym p ∙ e))
  member_split x i m lt e (elsewhere ne (inr q) a p d) = absurd (omega arith)

  one_parent_split : (i l m : ℕ) → Present m (children (split s c n j first ∷ h) i) → Present m (children (split s c n j first ∷ h) l) → i ≡ l
  one_parent_split i l m t u = go (children_cases i m t) (children_cases l m u)
    where
      go : ((i ≡ j) × (m ≡ suc (length h))) ⊎ Present m (children h i) → ((l ≡ j) × (m ≡ suc (length h))) ⊎ Present m (children h l) → i ≡ l
      go (inl x) (inl y) = x.0 ∙ sym y.0
      go (inl x) (inr y) = absurd (let q : m ≤ length h = sd.numbered l m y in omega (arith, x.1))
      go (inr x) (inl y) = absurd (let q : m ≤ length h = sd.numbered i m x in omega (arith, y.1))
      go (inr x) (inr y) = k.one_parent i l m x y

  back_split : (i m : ℕ) → Present m (children (split s c n j first ∷ h) i) → Outstanding (split s c n j first ∷ h) m i ⊎ IsBack (split s c n j first ∷ h) i m (last_strand h m)
  back_split i m t = elim (children_cases i m t) [
    | inl q ↦ inl (inl (q.1, q.0))
    | inr q ↦ elim (k.back i m q) [
      | inl out ↦ inl (inr out)
      | inr x ↦ inr (old_known (last_strand h m) x.0, old_place (last_strand h m) x.0 ∙ x.1, x.2)
    ]
  ]

  waiting_split : (i : ℕ) → status (split s c n j first ∷ h) i ≡ reserved → IsWaitedFor h i → IsWaiting (split s c n j first ∷ h) i (syncing_strand h i)
  waiting_split i e waited = elim (same_or_not i j) [
    | inl q ↦ absurd (w.no_sync_yet (subst (IsWaitedFor h) q waited))
    | inr ne ↦ (let old = k.waiting i (was ne) waited in
        (old_known (syncing_strand h i) old.0, old_at old.0 ∙ (old.1 ∙ sym (updated_off (tail h) j n i ne)), old.2))
  ]
    where
      was : i ≢ j → status h i ≡ reserved
      was ne = go (w.numbers.see i)
        where
          go : Seen h s c n j first i → status h i ≡ reserved
          go (at_child xe a p d) = absurd (let q : reserved ≡ running = sym e ∙ a in cc)
          go (at_next xe a p d) = absurd (let q : reserved ≡ running = sym e ∙ a in cc)
          go (at_join xe lo t a p d) = absurd (ne xe)
          go (at_spawner xe a p d) = absurd (let q : reserved ≡ over = sym e ∙ a in cc)
          go (elsewhere ns q a p d) = sym a ∙ e

      old_at : syncing_strand h i < unused h → home (split s c n j first ∷ h) (syncing_strand h i) ≡ home h (syncing_strand h i)
      old_at lt = old_home h s c n j first r o sd w b (syncing_strand h i) lt

  pub children_split : Children (split s c n j first ∷ h)
  children_split = record {
    member = λ x i m lt e. member_split x i m lt e (w.numbers.see x);
    one_parent = one_parent_split;
    back = back_split;
    waiting = waiting_split;
  }

-- an event after which no other child has returned and no other strand waits
module _ (h : History) (e : Event) (calm : IsCalm e) (k : Children h) where
  known_then : (x : ℕ) → x < unused h → x < unused (e ∷ h)
  known_then x lt = subst (λ m. x < m) (sym (calm_unused h e calm)) lt

  back_then : (i m x : ℕ) → IsBack h i m x → IsBack (e ∷ h) i m x
  back_then i m x t = (known_then x t.0, calm_place h e calm x ∙ t.1, calm_arrives h e x i t.2)

  waiting_then : (same_homes : home (e ∷ h) ≡ home h) (same_tails : tail (e ∷ h) ≡ tail h) (i x : ℕ) → IsWaiting h i x → IsWaiting (e ∷ h) i x
  waiting_then same_homes same_tails i x t = (known_then x t.0, ap (λ f. f x) same_homes ∙ (t.1 ∙ ap (λ f. f i) (sym same_tails)), calm_arrives h e x i t.2)

  pub children_calm : (same_homes : home (e ∷ h) ≡ home h) (same_tails : tail (e ∷ h) ≡ tail h) (same_children : children (e ∷ h) ≡ children h) →
      ((i m : ℕ) → Present m (children h i) → Outstanding (e ∷ h) m i ⊎ IsBack (e ∷ h) i m (last_strand (e ∷ h) m)) →
      ((i : ℕ) → status (e ∷ h) i ≡ reserved → IsWaitedFor (e ∷ h) i → IsWaiting (e ∷ h) i (syncing_strand (e ∷ h) i)) → Children (e ∷ h)
  children_calm same_homes same_tails same_children backs waits_are = record {
    member = λ x i m lt g. subst (λ f. Present m (f i)) (sym same_children) (k.member x i m (subst (λ y. x < y) (calm_unused h e calm) lt) (sym (calm_place h e calm x) ∙ g));
    one_parent = λ i l m t u. k.one_parent i l m (subst (λ f. Present m (f i)) same_children t) (subst (λ f. Present m (f l)) same_children u);
    back = λ i m t. backs i m (subst (λ f. Present m (f i)) same_children t);
    waiting = waits_are;
  }

-- a child returns with its strand s
module _ (h : History) (e : Event) (s n p : ℕ) (calm : IsCalm e) (r : Ranges h) (k : Children h) (run : Running h s) (st : stack h s ≡ spawned n p)
    (lasts : (m : ℕ) → last_strand (e ∷ h) m ≡ returned_by (stack h s) s (last_strand h) m) (arrived : Arrives (e ∷ h) s p)
    (outs : (m i : ℕ) → (stack h s ≢ spawned m i) × Outstanding h m i → Outstanding (e ∷ h) m i) where
  last_here : (m : ℕ) → m ≡ n → last_strand (e ∷ h) m ≡ s
  last_here m q = lasts m ∙ (ap (λ t. returned_by t s (last_strand h) m) st ∙ updated_at (last_strand h) n s m q)

  last_away : (m : ℕ) → m ≢ n → last_strand (e ∷ h) m ≡ last_strand h m
  last_away m ne = lasts m ∙ (ap (λ t. returned_by t s (last_strand h) m) st ∙ updated_off (last_strand h) n s m ne)

  pub returns_back : (i m : ℕ) → Present m (children h i) → Outstanding (e ∷ h) m i ⊎ IsBack (e ∷ h) i m (last_strand (e ∷ h) m)
  returns_back i m t = elim (same_or_not m n) [
    | inl q ↦ inr (subst₂ (λ y z. IsBack (e ∷ h) z m y) (sym (last_here m q)) (sym (block_is q)) (known_then h e calm k s below, calm_place h e calm s ∙ (ap place_of st ∙ ap (child_of p) (sym q)), arrived))
    | inr ne ↦ elim (k.back i m t) [
      | inl out ↦ inl (outs m i (other ne, out))
      | inr x ↦ inr (subst (IsBack (e ∷ h) i m) (sym (last_away m ne)) (back_then h e calm k i m (last_strand h m) x))
    ]
  ]
    where
      below : s < unused h
      below = running_below h r s run

      block_is : m ≡ n → i ≡ p
      block_is q = k.one_parent i p m t (subst (λ y. Present y (children h p)) (sym q) (k.member s p n below (ap place_of st)))

      other : m ≢ n → stack h s ≢ spawned m i
      other ne g = ne (let z : spawned n p ≡ spawned m i = sym st ∙ g in cc)

-- the join that begins is no longer reserved
not_begun : (f : ℕ → Status) (j i : ℕ) → updated f j running i ≡ reserved → i ≢ j
not_begun f j i e q = let z : running ≡ reserved = sym (updated_at f j running i q) ∙ e in cc

pub children_of : {h : History} → Legal h → Children h
children_of start = record { member = λ x j m lt e. absurd (cc); one_parent = λ j k m t u. absurd t; back = λ j m t. absurd t; waiting = λ j e t. absurd t }
children_of (then {history = h} {event = split s c n j first} l a) =
    children_split h s c n j first (ranges l) (holders l) (sides l) (splitting h s c n j first (ranges l) (holders l) a) (blocks l) (children_of l)
children_of (then {history = h} {event = same s} l a) = children_calm h (same s) tt (children_of l) refl refl refl (children_of l).back (children_of l).waiting
children_of (then {history = h} {event = call s} l a) = children_calm h (call s) tt (children_of l) refl refl refl
    (λ i m t. elim ((children_of l).back i m t) [ inl out ↦ inl out | inr x ↦ inr (back_then h (call s) tt (children_of l) i m (last_strand h m) x) ]) (children_of l).waiting
children_of (then {history = h} {event = resumed s} l a) = children_calm h (resumed s) tt (children_of l) refl refl refl
    (λ i m t. elim ((children_of l).back i m t) [ inl out ↦ inl out | inr x ↦ inr (back_then h (resumed s) tt (children_of l) i m (last_strand h m) x) ]) (children_of l).waiting
children_of (then {history = h} {event = finished s} l a) = children_calm h (finished s) tt (children_of l) refl refl refl (children_of l).back
    (λ i g t. (children_of l).waiting i (calm_reserved h (finished s) tt i g) t)
children_of (then {history = h} {event = joined s j} l a) = children_calm h (joined s j) tt (children_of l) refl refl refl
    (λ i m t. elim ((children_of l).back i m t) [ inl out ↦ inl out | inr x ↦ inr (back_then h (joined s j) tt (children_of l) i m (last_strand h m) x) ])
    (λ i g t. subst (IsWaiting (joined s j ∷ h) i) (sym (updated_off (syncing_strand h) j s i (not_begun (updated (status h) s over) j i g)))
    (waiting_then h (joined s j) tt (children_of l) refl refl i (syncing_strand h i) ((children_of l).waiting i (calm_reserved h (joined s j) tt i g) t)))
children_of (then {history = h} {event = waits s} l (sync_waits {join = j} run st m out)) = children_calm h (waits s) tt (children_of l) refl refl refl
    (λ i m t. elim ((children_of l).back i m t) [ inl out ↦ inl out | inr x ↦ inr (back_then h (waits s) tt (children_of l) i m (last_strand h m) x) ])
    (λ i g t. elim (same_or_not i j) [
      | inl q ↦ subst (IsWaiting (waits s ∷ h) i) (sym (ap (λ v. synced_by v s (syncing_strand h) i) (ap enclosing st) ∙ updated_at (syncing_strand h) j s i q))
          (running_below h (ranges l) s run, (blocks l).of_next s i (running_below h (ranges l) s run) (running_open h s run) (ap place_of st ∙ ap continuation (sym q)), inl (refl, ap enclosing st ∙ ap Some (sym q)))
      | inr ne ↦ subst (IsWaiting (waits s ∷ h) i) (sym (ap (λ v. synced_by v s (syncing_strand h) i) (ap enclosing st) ∙ updated_off (syncing_strand h) j s i ne))
          (waiting_then h (waits s) tt (children_of l) refl refl i (syncing_strand h i) ((children_of l).waiting i (calm_reserved h (waits s) tt i g)
          (elim t [ inl z ↦ absurd (ne (let v : Some j ≡ Some i = sym (ap enclosing st) ∙ z in cc)) | inr z ↦ z ])))
    ])
children_of (then {history = h} {event = ended s} l (child_return {number = n} {join = j} run st alive)) = children_calm h (ended s) tt (children_of l) refl refl refl
    (returns_back h (ended s) s n j tt (ranges l) (children_of l) run st (λ m. refl) (inl (refl, ap enclosing st)) (λ m i t. t))
    (λ i g t. waiting_then h (ended s) tt (children_of l) refl refl i (syncing_strand h i) ((children_of l).waiting i (calm_reserved h (ended s) tt i g) t))
children_of (then {history = h} {event = ended_joined s j} l (last_return {number = n} run st last)) = children_calm h (ended_joined s j) tt (children_of l) refl refl refl
    (returns_back h (ended_joined s j) s n j tt (ranges l) (children_of l) run st (λ m. refl) (inl (refl, ap enclosing st)) (λ m i t. t))
    (λ i g t. waiting_then h (ended_joined s j) tt (children_of l) refl refl i (syncing_strand h i) ((children_of l).waiting i (calm_reserved h (ended_joined s j) tt i g) t))

map_through : (f g last : ℕ → ℕ) (ms : List ℕ) → ((m : ℕ) → Present m ms → f (last m) ≡ g m) → map f (map last ms) ≡ map g ms
map_through f g last [] e = refl
map_through f g last (m ∷ ms) e = ap₂ (λ y ys. y ∷ ys) (e m (inl refl)) (map_through f g last ms (λ q i. e q (inr i)))

-- what a join gathers: the strands at the homes of its block's pieces
pub record Gathered (h : History) (s j : ℕ) (xs : List ℕ) : Type 0 where
  pub homes : map (home h) xs ≡ home h j ∷ continuations h j
  pub current : (x : ℕ) → Present x xs → IsCurrent h x
  pub arrived : (x : ℕ) → Present x xs → (x ≡ s) ⊎ Arrives h x j

-- of one strand that is gathered
abbrev pub IsGathered : History → ℕ → ℕ → ℕ → ℕ → Type 0
IsGathered h s j at x = (home h x ≡ at) × IsCurrent h x × ((x ≡ s) ⊎ Arrives h x j)

gathered_list : (h : History) (s j : ℕ) (last : ℕ → ℕ) (x : ℕ) → Blocks h → status h j ≡ reserved → ((m : ℕ) → Present m (children h j) → IsGathered h s j (child_home h m) (last m)) → IsGathered h s j (tail h j) x →
    Gathered h s j (map last (children h j) ++ (x ∷ []))
gathered_list h s j last x b rj childs syncer = record {
  homes = map-append (home h) (map last (children h j)) (x ∷ []) ∙ (ap₂ (λ ys y. ys ++ (y ∷ [])) (map_through (home h) (child_home h) last (children h j) (λ m i. (childs m i).0)) syncer.0 ∙ b.pieces j rj);
  current = λ y i. elim ((present_append (map last (children h j)) (x ∷ []) y).0 i) [
    | inl t ↦ (let q = present_map last y (children h j) t in subst (IsCurrent h) q.2 (childs q.0 q.1).1)
    | inr t ↦ elim t [ inl e ↦ subst (IsCurrent h) e syncer.1 | inr z ↦ absurd z ]
  ];
  arrived = λ y i. elim ((present_append (map last (children h j)) (x ∷ []) y).0 i) [
    | inl t ↦ (let q = present_map last y (children h j) t in subst (λ z. (z ≡ s) ⊎ Arrives h z j) q.2 (childs q.0 q.1).2)
    | inr t ↦ elim t [ inl e ↦ subst (λ z. (z ≡ s) ⊎ Arrives h z j) e syncer.2 | inr z ↦ absurd z ]
  ];
}

pub gathered_joined : (h : History) (s j : ℕ) → Legal h → Allowed h (joined s j) → Gathered h s j (gathered (joined s j ∷ h) j)
gathered_joined h s j l (sync_joined run st none) =
    subst (λ x. Gathered h s j (map (last_strand h) (children h j) ++ (x ∷ []))) (sym (updated_at (syncing_strand h) j s j refl))
    (gathered_list h s j (last_strand h) s (blocks l) rj of_child ((blocks l).of_next s j (running_below h (ranges l) s run) (running_open h s run) (ap place_of st), inl run, inl refl))
  where
    rj : status h j ≡ reserved
    rj = joined_reserved h s j (holders l) run (ap enclosing st)

    of_child : (m : ℕ) → Present m (children h j) → IsGathered h s j (child_home h m) (last_strand h m)
    of_child m i = elim ((children_of l).back j m i) [
      | inl out ↦ absurd (none m out)
      | inr b ↦ ((blocks l).of_child (last_strand h m) j m b.0 b.1, inr (j, rj, b.2), inr b.2)
    ]

pub gathered_ended : (h : History) (s j : ℕ) → Legal h → Allowed h (ended_joined s j) → Gathered h s j (gathered (ended_joined s j ∷ h) j)
gathered_ended h s j l (last_return {number = n} run st last) =
    gathered_list h s j (last_strand (ended_joined s j ∷ h)) (syncing_strand h j) (blocks l) rj of_child (waits_there.1, inr (j, rj, waits_there.2), inr waits_there.2)
  where
    rj : status h j ≡ reserved
    rj = joined_reserved h s j (holders l) run (ap enclosing st)

    waits_there : IsWaiting h j (syncing_strand h j)
    waits_there = (children_of l).waiting j rj last.0

    last_is : (m : ℕ) → last_strand (ended_joined s j ∷ h) m ≡ updated (last_strand h) n s m
    last_is m = ap (λ t. returned_by t s (last_strand h) m) st

    of_child : (m : ℕ) → Present m (children h j) → IsGathered h s j (child_home h m) (last_strand (ended_joined s j ∷ h) m)
    of_child m i = subst (IsGathered h s j (child_home h m)) (sym (last_is m)) (elim (same_or_not m n) [
      | inl q ↦ subst (IsGathered h s j (child_home h m)) (sym (updated_at (last_strand h) n s m q))
          ((blocks l).of_child s j m (running_below h (ranges l) s run) (ap place_of st ∙ ap (child_of j) (sym q)), inl run, inl refl)
      | inr ne ↦ subst (IsGathered h s j (child_home h m)) (sym (updated_off (last_strand h) n s m ne)) (elim ((children_of l).back j m i) [
        | inl out ↦ absurd (ne (last.1 m out))
        | inr b ↦ ((blocks l).of_child (last_strand h m) j m b.0 b.1, inr (j, rj, b.2), inr b.2)
      ])
    ])

pub current_known : {h : History} → Legal h → (x : ℕ) → IsCurrent h x → x < unused h
current_known {h} l x (inl run) = running_below h (ranges l) x run
current_known l x (inr t) = ((fates l).arrived x t.0 t.2).0

over_not_running : {t : Status} → t ≡ over → t ≡ running → ⊥
over_not_running e g = cc

-- who is current after a join begins
current_join : (h : History) (e : Event) (s j : ℕ) → Legal h → enclosing (stack h s) ≡ Some j → status (e ∷ h) ≡ updated (updated (status h) s over) j running →
    ((u v : ℕ) → Arrives (e ∷ h) u v → ((u ≡ s) × (enclosing (stack h s) ≡ Some v)) ⊎ Arrives h u v) → Running h s → (x : ℕ) → IsCurrent (e ∷ h) x →
    (x ≡ j) ⊎ (IsCurrent h x × (x ≢ s) × (Arrives h x j → ⊥))
current_join h e s j l enc status_is arrives_is run x (inl now) =
    updated_case (λ v. v ≡ running → (x ≡ j) ⊎ (IsCurrent h x × (x ≢ s) × (Arrives h x j → ⊥))) (updated (status h) s over) j running x
    (λ q g. inl q)
    (λ nj. updated_case (λ v. v ≡ running → (x ≡ j) ⊎ (IsCurrent h x × (x ≢ s) × (Arrives h x j → ⊥))) (status h) s over x
    (λ q g. absurd (cc))
    (λ ns g. inr (inl g, ns, (λ a. over_not_running (arrives_over l x j a) g))))
    (sym (ap (λ f. f x) status_is) ∙ now)
current_join h e s j l enc status_is arrives_is run x (inr t) = elim (arrives_is x t.0 t.2) [
  | inl q ↦ absurd (nj (let z : Some j ≡ Some t.0 = sym enc ∙ q.1 in cc))
  | inr a ↦ inr (inr (t.0, was, a), (λ g. over_not_running (arrives_over l x t.0 a) (ap (status h) g ∙ run)), (λ b. nj (let z : Some j ≡ Some t.0 = sym ((fates l).arrived x j b).1 ∙ ((fates l).arrived x t.0 a).1 in cc)))
]
  where
    after : updated (updated (status h) s over) j running t.0 ≡ reserved
    after = sym (ap (λ f. f t.0) status_is) ∙ t.1

    nj : t.0 ≢ j
    nj = not_begun (updated (status h) s over) j t.0 after

    was : status h t.0 ≡ reserved
    was = updated_case (λ v. v ≡ reserved → status h t.0 ≡ reserved) (status h) s over t.0 (λ q g. absurd (cc)) (λ ne g. g) (sym (updated_off (updated (status h) s over) j running t.0 nj) ∙ after)

-- no two current strands have one home
abbrev pub HaveOwnHomes : History → Type 0
HaveOwnHomes h = (x y : ℕ) → IsCurrent h x → IsCurrent h y → home h x ≡ home h y → x ≡ y

first_home : (h : History) (s j : ℕ) (xs : List ℕ) → map (home h) xs ≡ home h j ∷ continuations h j → Gathered h s j xs → (a : ℕ) × Present a xs × (home h a ≡ home h j)
first_home h s j [] e g = absurd (cc)
first_home h s j (a ∷ xs) e g = (a, inl refl, cc)

own_homes_join : (h : History) (e : Event) (s j : ℕ) (xs : List ℕ) → Gathered h s j xs → HaveOwnHomes h → home (e ∷ h) ≡ home h →
    ((x : ℕ) → IsCurrent (e ∷ h) x → (x ≡ j) ⊎ (IsCurrent h x × (x ≢ s) × (Arrives h x j → ⊥))) → HaveOwnHomes (e ∷ h)
own_homes_join h e s j xs g old same_homes cases x y cx cy q = go (cases x cx) (cases y cy)
  where
    eq : home h x ≡ home h y
    eq = sym (ap (λ f. f x) same_homes) ∙ (q ∙ ap (λ f. f y) same_homes)

    apart : (z : ℕ) → home h z ≡ home h j → IsCurrent h z → z ≢ s → (Arrives h z j → ⊥) → ⊥
    apart z t cz ns na =
        let a = first_home h s j xs g.homes g in
        let z_is : z ≡ a.0 = old z a.0 cz (g.current a.0 a.1) (t ∙ sym a.2) in
        elim (g.arrived a.0 a.1) [ inl u ↦ ns (z_is ∙ u) | inr u ↦ na (subst (λ v. Arrives h v j) (sym z_is) u) ]

    go : (x ≡ j) ⊎ (IsCurrent h x × (x ≢ s) × (Arrives h x j → ⊥)) → (y ≡ j) ⊎ (IsCurrent h y × (y ≢ s) × (Arrives h y j → ⊥)) → x ≡ y
    go (inl a) (inl b) = a ∙ sym b
    go (inl a) (inr b) = absurd (apart y (sym eq ∙ ap (home h) a) b.0 b.1 b.2)
    go (inr a) (inl b) = absurd (apart x (eq ∙ ap (home h) b) a.0 a.1 a.2)
    go (inr a) (inr b) = old x y a.0 b.0 eq

-- who is current after a split
pub current_split : (h : History) (s c n j : ℕ) (first : Bool) → Legal h → Splitting h s c n j first → (x : ℕ) → IsCurrent (split s c n j first ∷ h) x → (x ≡ c) ⊎ (x ≡ n) ⊎ (IsCurrent h x × (x ≢ s) × (x < unused h))
current_split h s c n j first l w x (inl now) = go (w.numbers.see x)
  where
    go : Seen h s c n j first x → (x ≡ c) ⊎ (x ≡ n) ⊎ (IsCurrent h x × (x ≢ s) × (x < unused h))
    go (at_child xe a p d) = inl xe
    go (at_next xe a p d) = inr (inl xe)
    go (at_join xe lo t a p d) = absurd (let q : reserved ≡ running = sym a ∙ now in cc)
    go (at_spawner xe a p d) = absurd (over_not_running a now)
    go (elsewhere ne q a p d) = inr (inr (inl (sym a ∙ now), ne, running_below h (ranges l) x (sym a ∙ now)))
current_split h s c n j first l w x (inr t) = inr (inr (inr (t.0, was (w.numbers.see t.0), t.2), (λ g. over_not_running (arrives_over l x t.0 t.2) (ap (status h) g ∙ w.runs)), ((fates l).arrived x t.0 t.2).0))
  where
    below : t.0 < unused h
    below = (ranges l).join_below x t.0 ((fates l).arrived x t.0 t.2).1

    was : Seen h s c n j first t.0 → status h t.0 ≡ reserved
    was (at_child xe a p d) = absurd (let q : reserved ≡ running = sym t.1 ∙ a in cc)
    was (at_next xe a p d) = absurd (let q : reserved ≡ running = sym t.1 ∙ a in cc)
    was (at_join xe lo f a p d) = absurd (let q : t.0 < unused h = below in omega arith)
    was (at_spawner xe a p d) = absurd (let q : reserved ≡ over = sym t.1 ∙ a in cc)
    was (elsewhere ne q a p d) = sym a ∙ t.1

own_homes_split : (h : History) (s c n j : ℕ) (first : Bool) → Legal h → Splitting h s c n j first → HaveOwnHomes h → HaveOwnHomes (split s c n j first ∷ h)
own_homes_split h s c n j first l w old x y cx cy q = go (current_split h s c n j first l w x cx) (current_split h s c n j first l w y cy)
  where
    of_c : (z : ℕ) → z ≡ c → home (split s c n j first ∷ h) z ≡ home h s
    of_c z e = home_at_child h s c n j first z e (λ g. omega (arith, e, g, w.numbers.child_is, w.numbers.next_is)) (λ g. w.numbers.join_not_child (sym g ∙ e))

    of_n : (z : ℕ) → z ≡ n → home (split s c n j first ∷ h) z ≡ n
    of_n z e = home_at_next h s c n j first z e (λ g. w.numbers.join_not_next (sym g ∙ e))

    of_old : (z : ℕ) → z < unused h → home (split s c n j first ∷ h) z ≡ home h z
    of_old z lt = old_home h s c n j first (ranges l) (holders l) (sides l) w (blocks l) z lt

    low : (z : ℕ) → z < unused h → home h z < n
    low z lt = let a : home h z ≤ z = (blocks l).below z lt in let e : n ≡ 1 + unused h = w.numbers.next_is in omega arith

    go : (x ≡ c) ⊎ (x ≡ n) ⊎ (IsCurrent h x × (x ≢ s) × (x < unused h)) → (y ≡ c) ⊎ (y ≡ n) ⊎ (IsCurrent h y × (y ≢ s) × (y < unused h)) → x ≡ y
    go (inl a) (inl b) = a ∙ sym b
    go (inl a) (inr (inl b)) = absurd (let t : home h s ≡ n = sym (of_c x a) ∙ (q ∙ of_n y b) in let m : home h s < n = low s w.numbers.spawner_known in omega arith)
    go (inl a) (inr (inr b)) = absurd (b.1 (sym (old s y (inl w.runs) b.0 (sym (of_c x a) ∙ (q ∙ of_old y b.2)))))
    go (inr (inl a)) (inl b) = absurd (let t : n ≡ home h s = sym (of_n x a) ∙ (q ∙ of_c y b) in let m : home h s < n = low s w.numbers.spawner_known in omega arith)
    go (inr (inl a)) (inr (inl b)) = a ∙ sym b
    go (inr (inl a)) (inr (inr b)) = absurd (let t : n ≡ home h y = sym (of_n x a) ∙ (q ∙ of_old y b.2) in let m : home h y < n = low y b.2 in omega arith)
    go (inr (inr a)) (inl b) = absurd (a.1 (old x s a.0 (inl w.runs) (sym (of_old x a.2) ∙ (q ∙ of_c y b))))
    go (inr (inr a)) (inr (inl b)) = absurd (let t : home h x ≡ n = sym (of_old x a.2) ∙ (q ∙ of_n y b) in let m : home h x < n = low x a.2 in omega arith)
    go (inr (inr a)) (inr (inr b)) = old x y a.0 b.0 (sym (of_old x a.2) ∙ (q ∙ of_old y b.2))

-- a strand that ends or arrives was running
still_running : (h : History) (s x : ℕ) → updated (status h) s over x ≡ running → Running h x
still_running h s x e = updated_case (λ v. v ≡ running → Running h x) (status h) s over x (λ q g. absurd (cc)) (λ ne g. g) e

pub current_finished : (h : History) (s x : ℕ) → IsCurrent (finished s ∷ h) x → IsCurrent h x
current_finished h s x (inl now) = inl (still_running h s x now)
current_finished h s x (inr t) = inr (t.0, calm_reserved h (finished s) tt t.0 t.1, t.2)

pub current_waits : (h : History) (s x : ℕ) → Running h s → IsCurrent (waits s ∷ h) x → IsCurrent h x
current_waits h s x run (inl now) = inl (still_running h s x now)
current_waits h s x run (inr t) = elim t.2 [ inl q ↦ inl (ap (status h) q.0 ∙ run) | inr a ↦ inr (t.0, calm_reserved h (waits s) tt t.0 t.1, a) ]

pub current_ended : (h : History) (s x : ℕ) → Running h s → IsCurrent (ended s ∷ h) x → IsCurrent h x
current_ended h s x run (inl now) = inl (still_running h s x now)
current_ended h s x run (inr t) = elim t.2 [ inl q ↦ inl (ap (status h) q.0 ∙ run) | inr a ↦ inr (t.0, calm_reserved h (ended s) tt t.0 t.1, a) ]

pub current_joined : (h : History) (s j : ℕ) → Legal h → Allowed h (joined s j) → (x : ℕ) → IsCurrent (joined s j ∷ h) x → (x ≡ j) ⊎ (IsCurrent h x × (x ≢ s) × (Arrives h x j → ⊥))
current_joined h s j l (sync_joined run st none) = current_join h (joined s j) s j l (ap enclosing st) refl (λ u v t. t) run

pub current_ended_joined : (h : History) (s j : ℕ) → Legal h → Allowed h (ended_joined s j) → (x : ℕ) → IsCurrent (ended_joined s j ∷ h) x → (x ≡ j) ⊎ (IsCurrent h x × (x ≢ s) × (Arrives h x j → ⊥))
current_ended_joined h s j l (last_return run st last) = current_join h (ended_joined s j) s j l (ap enclosing st) refl (λ u v t. t) run

pub own_homes : {h : History} → Legal h → HaveOwnHomes h
own_homes start = λ x y cx cy q. only_first x cx ∙ sym (only_first y cy)
  where
    only_first : (z : ℕ) → IsCurrent [] z → z ≡ 0
    only_first z (inl run) = updated_case (λ v. v ≡ running → z ≡ 0) (λ t. absent) 0 running z (λ e g. e) (λ ne g. absurd (cc)) run
    only_first z (inr t) = absurd t.2
own_homes (then {history = h} {event = split s c n j first} l a) = own_homes_split h s c n j first l (splitting h s c n j first (ranges l) (holders l) a) (own_homes l)
own_homes (then {history = h} {event = same s} l a) = own_homes l
own_homes (then {history = h} {event = call s} l a) = own_homes l
own_homes (then {history = h} {event = resumed s} l a) = own_homes l
own_homes (then {history = h} {event = finished s} l a) = λ x y cx cy q. own_homes l x y (current_finished h s x cx) (current_finished h s y cy) q
own_homes (then {history = h} {event = waits s} l (sync_waits run st m out)) = λ x y cx cy q. own_homes l x y (current_waits h s x run cx) (current_waits h s y run cy) q
own_homes (then {history = h} {event = ended s} l (child_return run st alive)) = λ x y cx cy q. own_homes l x y (current_ended h s x run cx) (current_ended h s y run cy) q
own_homes (then {history = h} {event = joined s j} l a) = own_homes_join h (joined s j) s j (gathered (joined s j ∷ h) j) (gathered_joined h s j l a) (own_homes l) refl (current_joined h s j l a)
own_homes (then {history = h} {event = ended_joined s j} l a) = own_homes_join h (ended_joined s j) s j (gathered (ended_joined s j ∷ h) j) (gathered_ended h s j l a) (own_homes l) refl (current_ended_joined h s j l a)
