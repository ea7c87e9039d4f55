-- The homes of a block's children and of its syncing strand, in order: the home of its join, and then its continuations.
-- h: a history; e: an event; x, y: strands; i, j, k: joins; m: the number of a spawn; p: a place; in a split, s is the spawner, c its
-- child, n its next and j the join
use Rattle.std.proofs.Common.{◌≡◌, ◌≢◌, ◌⊎◌, inl, inr, ℕ, ◌+◌, ◌<◌, ◌≤◌, suc, Bool, true, false, List, [], ◌∷◌, ◌++◌, map, length, AllPairs, refl, sym, ap, ap₂, ◌∙◌, subst, subst₂, arith}
use Rattle.std.proofs.lemmas.List.{map-append}
use Rattle.model_strands.specs.Updated.{updated}
use Rattle.model_strands.specs.History.{Event, split, same, joined, waits, call, resumed, ended, ended_joined, finished, History}
use Rattle.model_strands.specs.Strands.{absent, Status, reserved, running, over, status, unused}
use Rattle.model_strands.specs.Legal.{Allowed, Legal, start, then}
use Rattle.law_strands.proofs.Updates.{same_or_not, updated_at, updated_off, updated_case}
use Rattle.law_strands.proofs.Places.{Place, continuation, child_of, place, join_of, Seen, at_child, at_next, at_join, at_spawner, elsewhere, Ranges}
use Rattle.law_strands.proofs.Range.{ranges}
use Rattle.law_strands.proofs.Holders.{IsOpen, Open, Holders, holders, Splitting, splitting, running_open, not_open, join_reserved}
use Rattle.law_strands.proofs.Calm.{IsCalm, calm_place, calm_unused, calm_open}
use Rattle.law_strands.specs.Gatherings.{children}
use Rattle.law_strands.proofs.Members.{Present, present_append, present_all, pairs_push}
use Rattle.law_addresses.proofs.Sorted.{pairs-nil, pairs-head, pairs-tail}
use Rattle.law_strands.proofs.Sides.{Sides, sides}
use Rattle.reducer_views.specs.Homes.{home, later}
use Rattle.reducer_views.specs.Pieces.{AreLater}

-- the home of a spawned function, by the number of its split
abbrev pub child_home : History → ℕ → ℕ
child_home [] = λ number. 0
child_home (split s c n j first ∷ h) = updated (child_home h) (suc (length h)) (home h s)
child_home (_ ∷ h) = child_home h

-- the newest continuation of a block
abbrev pub tail : History → ℕ → ℕ
tail [] = λ join. 0
tail (split s c n j first ∷ h) = updated (tail h) j n
tail (_ ∷ h) = tail h

-- all continuations of a block, the oldest first
abbrev pub continuations : History → ℕ → List ℕ
continuations [] = λ join. []
continuations (split s c n j first ∷ h) = updated (continuations h) j (continuations h j ++ (n ∷ []))
continuations (_ ∷ h) = continuations h

pub record Blocks (h : History) : Type 0 where
  pub below : (x : ℕ) → x < unused h → home h x ≤ x
  pub of_child : (x j m : ℕ) → x < unused h → place h x ≡ child_of j m → home h x ≡ child_home h m
  pub of_next : (x j : ℕ) → x < unused h → Open h x → place h x ≡ continuation j → home h x ≡ tail h j
  pub pieces : (j : ℕ) → status h j ≡ reserved → map (child_home h) (children h j) ++ (tail h j ∷ []) ≡ home h j ∷ continuations h j
  pub known : (j n : ℕ) → Present n (continuations h j) → (n < unused h) × (j < unused h) × (home h n ≡ n) × (0 < n)
  pub one_block : (j k n : ℕ) → Present n (continuations h j) → Present n (continuations h k) → j ≡ k
  pub join_home : (j : ℕ) → status h j ≡ reserved → home h j < j
  pub ordered : (j : ℕ) → AllPairs (λ m n. m < n) (continuations h j)
  pub last : (j : ℕ) → status h j ≡ reserved → (front : List ℕ) × (continuations h j ≡ front ++ (tail h j ∷ []))
  pub chain : (j : ℕ) → status h j ≡ reserved → AreLater (later h) (later h j) (continuations h j)

module _ (h : History) (s c n j : ℕ) where
  -- the homes after a split
  pub home_at_child : (first : Bool) (x : ℕ) → x ≡ c → x ≢ n → x ≢ j → home (split s c n j first ∷ h) x ≡ home h s
  home_at_child true x e nn nj = updated_off (updated (updated (home h) c (home h s)) n n) j (home h s) x nj ∙ (updated_off (updated (home h) c (home h s)) n n x nn ∙ updated_at (home h) c (home h s) x e)
  home_at_child false x e nn nj = updated_off (updated (home h) c (home h s)) n n x nn ∙ updated_at (home h) c (home h s) x e

  pub home_at_next : (first : Bool) (x : ℕ) → x ≡ n → x ≢ j → home (split s c n j first ∷ h) x ≡ n
  home_at_next true x e nj = updated_off (updated (updated (home h) c (home h s)) n n) j (home h s) x nj ∙ updated_at (updated (home h) c (home h s)) n n x e
  home_at_next false x e nj = updated_at (updated (home h) c (home h s)) n n x e

  pub home_at_join : (first : Bool) (x : ℕ) → first ≡ true → x ≡ j → home (split s c n j first ∷ h) x ≡ home h s
  home_at_join true x t e = updated_at (updated (updated (home h) c (home h s)) n n) j (home h s) x e
  home_at_join false x t e = absurd (cc)

  home_elsewhere : (first : Bool) (x : ℕ) → x ≢ c → x ≢ n → (first ≡ true → x ≢ j) → home (split s c n j first ∷ h) x ≡ home h x
  home_elsewhere true x nc nn nj =
      updated_off (updated (updated (home h) c (home h s)) n n) j (home h s) x (nj refl) ∙ (updated_off (updated (home h) c (home h s)) n n x nn ∙ updated_off (home h) c (home h s) x nc)
  home_elsewhere false x nc nn nj = updated_off (updated (home h) c (home h s)) n n x nn ∙ updated_off (home h) c (home h s) x nc

  -- the later numbers after a split
  pub later_elsewhere : (first : Bool) (x : ℕ) → x ≢ c → x ≢ n → (first ≡ true → x ≢ j) → (first ≡ false → x ≢ home h s) → later (split s c n j first ∷ h) x ≡ later h x
  later_elsewhere true x nc nn nj nh =
      updated_off (updated (updated (later h) c 0) n 0) j n x (nj refl) ∙ (updated_off (updated (later h) c 0) n 0 x nn ∙ updated_off (later h) c 0 x nc)
  later_elsewhere false x nc nn nj nh =
      updated_off (updated (updated (later h) c 0) n 0) (home h s) n x (nh refl) ∙ (updated_off (updated (later h) c 0) n 0 x nn ∙ updated_off (later h) c 0 x nc)

  pub later_at_next : (first : Bool) (x : ℕ) → x ≡ n → x ≢ j → x ≢ home h s → later (split s c n j first ∷ h) x ≡ 0
  later_at_next true x e nj nh = updated_off (updated (updated (later h) c 0) n 0) j n x nj ∙ updated_at (updated (later h) c 0) n 0 x e
  later_at_next false x e nj nh = updated_off (updated (updated (later h) c 0) n 0) (home h s) n x nh ∙ updated_at (updated (later h) c 0) n 0 x e

  pub later_at_child : (first : Bool) (x : ℕ) → x ≡ c → x ≢ n → x ≢ j → x ≢ home h s → later (split s c n j first ∷ h) x ≡ 0
  later_at_child true x e nn nj nh =
      updated_off (updated (updated (later h) c 0) n 0) j n x nj ∙ (updated_off (updated (later h) c 0) n 0 x nn ∙ updated_at (later h) c 0 x e)
  later_at_child false x e nn nj nh =
      updated_off (updated (updated (later h) c 0) n 0) (home h s) n x nh ∙ (updated_off (updated (later h) c 0) n 0 x nn ∙ updated_at (later h) c 0 x e)

  pub later_at_join : (x : ℕ) → x ≡ j → later (split s c n j true ∷ h) x ≡ n
  later_at_join x e = updated_at (updated (updated (later h) c 0) n 0) j n x e

  pub later_at_home : (x : ℕ) → x ≡ home h s → later (split s c n j false ∷ h) x ≡ n
  later_at_home x e = updated_at (updated (updated (later h) c 0) n 0) (home h s) n x e

nothing_in : {X : Type 0} (xs : List X) → ((x : X) → Present x xs → ⊥) → xs ≡ []
nothing_in [] none = refl
nothing_in (x ∷ xs) none = absurd (none x (inl refl))

pub map_same : (f g : ℕ → ℕ) (xs : List ℕ) → ((x : ℕ) → Present x xs → f x ≡ g x) → map f xs ≡ map g xs
map_same f g [] same_at = refl
map_same f g (x ∷ xs) same_at = ap₂ (λ y ys. y ∷ ys) (same_at x (inl refl)) (map_same f g xs (λ y i. same_at y (inr i)))

pub follow_same : (f g : ℕ → ℕ) (first : ℕ) (xs : List ℕ) → ((x : ℕ) → Present x xs → g x ≡ f x) → AreLater f first xs → AreLater g first xs
follow_same f g first [] same_at k = k
follow_same f g first (x ∷ xs) same_at k = (k.0, k.1, subst (λ y. AreLater g y xs) (sym (same_at x (inl refl))) (follow_same f g (f x) xs (λ y i. same_at y (inr i)) k.2))

-- one more at the end
follow_more : (f g : ℕ → ℕ) (first : ℕ) (front : List ℕ) (t n : ℕ) → ((x : ℕ) → Present x front → g x ≡ f x) → g t ≡ n → g n ≡ 0 → 0 < n → AreLater f first (front ++ (t ∷ [])) → AreLater g first ((front ++ (t ∷ [])) ++ (n ∷ []))
follow_more f g first [] t n same_at gt gn more k = (k.0, k.1, (gt, more, gn))
follow_more f g first (x ∷ front) t n same_at gt gn more k =
    (k.0, k.1, subst (λ y. AreLater g y ((front ++ (t ∷ [])) ++ (n ∷ []))) (sym (same_at x (inl refl))) (follow_more f g (f x) front t n (λ y i. same_at y (inr i)) gt gn more k.2))

before_last : (front : List ℕ) (t x : ℕ) → AllPairs (λ m n. m < n) (front ++ (t ∷ [])) → Present x front → x < t
before_last [] t x s i = absurd i
before_last (y ∷ front) t x s (inl e) = subst (λ z. z < t) e (present_all (λ z. y < z) (front ++ (t ∷ [])) (pairs-head (λ m n. m < n) y (front ++ (t ∷ [])) s) t (in_end front t))
  where
    in_end : (front : List ℕ) (t : ℕ) → Present t (front ++ (t ∷ []))
    in_end [] t = inl refl
    in_end (z ∷ front) t = inr (in_end front t)
before_last (y ∷ front) t x s (inr i) = before_last front t x (pairs-tail (λ m n. m < n) y (front ++ (t ∷ [])) s) i

pub next_not_child : {p : Place} {j k m : ℕ} → p ≡ continuation j → p ≡ child_of k m → ⊥
next_not_child e g = cc

same_child : {p : Place} {j k m n : ℕ} → p ≡ child_of j n → p ≡ child_of k m → m ≡ n
same_child e g = cc

same_next : {p : Place} {j k : ℕ} → p ≡ continuation j → p ≡ continuation k → k ≡ j
same_next e g = cc

reserved_not_running : {t : Status} → t ≡ reserved → t ≡ running → ⊥
reserved_not_running e g = cc

module _ (h : History) (s c n j : ℕ) (first : Bool) (r : Ranges h) (o : Holders h) (sd : Sides h) (w : Splitting h s c n j first) (k : Blocks h) where
  run : Open h s
  run = running_open h s w.runs

  pub not_new : (x : ℕ) → x < unused h → (x ≢ c) × (x ≢ n) × (first ≡ true → x ≢ j)
  not_new x lt = (
    (λ e. omega (arith, w.numbers.child_is)),
    (λ e. omega (arith, w.numbers.next_is)),
    (λ t e. elim w.block_is [ inl q ↦ (let l : unused h ≤ j = q.1 in omega arith) | inr q ↦ (let b : first ≡ false = q.0 in cc) ]),
  )

  pub old_home : (x : ℕ) → x < unused h → home (split s c n j first ∷ h) x ≡ home h x
  old_home x lt = let a = not_new x lt in home_elsewhere h s c n j first x a.0 a.1 a.2

  old_child : (m : ℕ) → m ≤ length h → child_home (split s c n j first ∷ h) m ≡ child_home h m
  old_child m l = updated_off (child_home h) (suc (length h)) (home h s) m (λ e. omega arith)

  child_apart : (c ≢ n) × (c ≢ j) × (n ≢ j)
  child_apart = ((λ e. omega (arith, w.numbers.child_is, w.numbers.next_is)), (λ e. w.numbers.join_not_child (sym e)), (λ e. w.numbers.join_not_next (sym e)))

  spawner_home : home h s ≤ s
  spawner_home = k.below s w.numbers.spawner_known

  below_split : (x : ℕ) → x < unused (split s c n j first ∷ h) → Seen h s c n j first x → home (split s c n j first ∷ h) x ≤ x
  below_split x lt (at_child xe a b d) =
      let e : home (split s c n j first ∷ h) x ≡ home h s = home_at_child h s c n j first x xe (λ q. child_apart.0 (sym xe ∙ q)) (λ q. child_apart.1 (sym xe ∙ q)) in
      let l : s < unused h = w.numbers.spawner_known in
      let m : c ≡ unused h = w.numbers.child_is in
      let p : home h s ≤ s = spawner_home in omega arith
  below_split x lt (at_next xe a b d) = let e : home (split s c n j first ∷ h) x ≡ n = home_at_next h s c n j first x xe (λ q. child_apart.2 (sym xe ∙ q)) in omega arith
  below_split x lt (at_join xe lo t a b d) =
      let e : home (split s c n j first ∷ h) x ≡ home h s = home_at_join h s c n j first x t xe in
      let l : s < unused h = w.numbers.spawner_known in
      let p : home h s ≤ s = spawner_home in omega arith
  below_split x lt (at_spawner xe a b d) = subst (λ y. home (split s c n j first ∷ h) y ≤ y) (sym xe) (let e : home (split s c n j first ∷ h) s ≡ home h s = old_home s w.numbers.spawner_known in let p : home h s ≤ s = spawner_home in omega arith)
  below_split x lt (elsewhere ne (inl q) a b d) = let e : home (split s c n j first ∷ h) x ≡ home h x = old_home x q in let p : home h x ≤ x = k.below x q in omega arith
  below_split x lt (elsewhere ne (inr q) a b d) = absurd (omega arith)

  old_of_child : (y i m : ℕ) → y < unused h → place h y ≡ child_of i m → home h y ≡ child_home (split s c n j first ∷ h) m
  old_of_child y i m lt e = k.of_child y i m lt e ∙ sym (old_child m (sd.place_numbered y i m lt e))

  child_split : (x i m : ℕ) → x < unused (split s c n j first ∷ h) → place (split s c n j first ∷ h) x ≡ child_of i m → Seen h s c n j first x →
      home (split s c n j first ∷ h) x ≡ child_home (split s c n j first ∷ h) m
  child_split x i m lt e (at_child xe a b d) =
      home_at_child h s c n j first x xe (λ q. child_apart.0 (sym xe ∙ q)) (λ q. child_apart.1 (sym xe ∙ q)) ∙ sym (updated_at (child_home h) (suc (length h)) (home h s) m (same_child b e))
  child_split x i m lt e (at_next xe a b d) = absurd (next_not_child b e)
  child_split x i m lt e (at_join xe lo t a b d) = home_at_join h s c n j first x t xe ∙ old_of_child s i m w.numbers.spawner_known (sym b ∙ e)
  child_split x i m lt e (at_spawner xe a b d) =
      ap (home (split s c n j first ∷ h)) xe ∙ (old_home s w.numbers.spawner_known ∙ old_of_child s i m w.numbers.spawner_known (sym b ∙ e))
  child_split x i m lt e (elsewhere ne (inl q) a b d) = old_home x q ∙ old_of_child x i m q (sym b ∙ e)
  child_split x i m lt e (elsewhere ne (inr q) a b d) = absurd (omega arith)

  tail_here : (i : ℕ) → i ≡ j → tail (split s c n j first ∷ h) i ≡ n
  tail_here i e = updated_at (tail h) j n i e

  tail_away : (i : ℕ) → i ≢ j → tail (split s c n j first ∷ h) i ≡ tail h i
  tail_away i ne = updated_off (tail h) j n i ne

  next_split : (x i : ℕ) → x < unused (split s c n j first ∷ h) → Open (split s c n j first ∷ h) x → place (split s c n j first ∷ h) x ≡ continuation i → Seen h s c n j first x →
      home (split s c n j first ∷ h) x ≡ tail (split s c n j first ∷ h) i
  next_split x i lt op e (at_child xe a b d) = absurd (next_not_child e b)
  next_split x i lt op e (at_next xe a b d) = home_at_next h s c n j first x xe (λ q. child_apart.2 (sym xe ∙ q)) ∙ sym (tail_here i (same_next b e))
  next_split x i lt op e (at_join xe lo t a b d) =
      home_at_join h s c n j first x t xe ∙ (k.of_next s i w.numbers.spawner_known run (sym b ∙ e) ∙ sym (tail_away i (λ q. (let l : i < unused h = r.join_below s i (ap join_of (sym b ∙ e)) in omega (arith, q, xe, lo)))))
  next_split x i lt op e (at_spawner xe a b d) = absurd (not_open a op)
  next_split x i lt op e (elsewhere ne (inr q) a b d) = absurd (omega arith)
  next_split x i lt op e (elsewhere ne (inl q) a b d) =
      old_home x q ∙ (k.of_next x i q (subst IsOpen a op) (sym b ∙ e) ∙ sym (tail_away i (λ same_block. elim w.block_is [
        | inl z ↦ (let l : i < unused h = r.join_below x i (ap join_of (sym b ∙ e)) in let m : unused h ≤ j = z.1 in omega arith)
        | inr z ↦ ne (o.alone x s (subst IsOpen a op) run ((sym b ∙ e) ∙ (ap continuation same_block ∙ sym z.1)))
      ])))

  -- a block that opens now has no child and no continuation yet
  no_children : unused h ≤ j → children h j ≡ []
  no_children lo = nothing_in (children h j) (λ m i. (let l : j < unused h = sd.known j m i in omega arith))

  no_continuations : unused h ≤ j → continuations h j ≡ []
  no_continuations lo = nothing_in (continuations h j) (λ m i. (let l : j < unused h = (k.known j m i).1 in omega arith))

  -- the join of the block is reserved
  join_live : place h s ≡ continuation j → status h j ≡ reserved
  join_live e = join_reserved h (place h s) j (o.live s run) (ap join_of e)

  join_old : place h s ≡ continuation j → j < unused h
  join_old e = r.join_below s j (ap join_of e)

  spawner_is_tail : place h s ≡ continuation j → home h s ≡ tail h j
  spawner_is_tail e = k.of_next s j w.numbers.spawner_known run e

  children_here : children (split s c n j first ∷ h) j ≡ children h j ++ (suc (length h) ∷ [])
  children_here = updated_at (children h) j (children h j ++ (suc (length h) ∷ [])) j refl

  continuations_here : continuations (split s c n j first ∷ h) j ≡ continuations h j ++ (n ∷ [])
  continuations_here = updated_at (continuations h) j (continuations h j ++ (n ∷ [])) j refl

  continuations_away : (i : ℕ) → i ≢ j → continuations (split s c n j first ∷ h) i ≡ continuations h i
  continuations_away i ne = updated_off (continuations h) j (continuations h j ++ (n ∷ [])) i ne

  new_child : child_home (split s c n j first ∷ h) (suc (length h)) ≡ home h s
  new_child = updated_at (child_home h) (suc (length h)) (home h s) (suc (length h)) refl

  old_children : (i : ℕ) → map (child_home (split s c n j first ∷ h)) (children h i) ≡ map (child_home h) (children h i)
  old_children i = map_same (child_home (split s c n j first ∷ h)) (child_home h) (children h i) (λ m t. old_child m (sd.numbered i m t))

  children_homes : map (child_home (split s c n j first ∷ h)) (children (split s c n j first ∷ h) j) ≡ map (child_home h) (children h j) ++ (home h s ∷ [])
  children_homes =
      ap (map (child_home (split s c n j first ∷ h))) children_here ∙ (map-append (child_home (split s c n j first ∷ h)) (children h j) (suc (length h) ∷ []) ∙
      ap₂ (λ xs y. xs ++ (y ∷ [])) (old_children j) new_child)

  -- the block's pieces are the old ones and one more
  pieces_more : (old : List ℕ) → map (child_home h) (children h j) ++ (home h s ∷ []) ≡ old → home (split s c n j first ∷ h) j ∷ continuations h j ≡ old →
      map (child_home (split s c n j first ∷ h)) (children (split s c n j first ∷ h) j) ++ (tail (split s c n j first ∷ h) j ∷ []) ≡ home (split s c n j first ∷ h) j ∷ continuations (split s c n j first ∷ h) j
  pieces_more old e g =
      ap₂ (λ xs y. xs ++ (y ∷ [])) (children_homes ∙ e) (tail_here j refl) ∙ (ap (λ xs. xs ++ (n ∷ [])) (sym g) ∙ ap (λ xs. home (split s c n j first ∷ h) j ∷ xs) (sym continuations_here))

  pieces_here : map (child_home (split s c n j first ∷ h)) (children (split s c n j first ∷ h) j) ++ (tail (split s c n j first ∷ h) j ∷ []) ≡ home (split s c n j first ∷ h) j ∷ continuations (split s c n j first ∷ h) j
  pieces_here = elim w.block_is [
    | inl q ↦ pieces_more (home h s ∷ []) (ap (λ ms. map (child_home h) ms ++ (home h s ∷ [])) (no_children q.1)) (ap₂ (λ y xs. y ∷ xs) (home_at_join h s c n j first j q.0 refl) (no_continuations q.1))
    | inr q ↦ pieces_more (home h j ∷ continuations h j) (ap (λ y. map (child_home h) (children h j) ++ (y ∷ [])) (spawner_is_tail q.1) ∙ k.pieces j (join_live q.1)) (ap (λ y. y ∷ continuations h j) (old_home j (join_old q.1)))
  ]

  -- a join other than this one that is reserved was reserved before
  was_reserved : (i : ℕ) → i ≢ j → status (split s c n j first ∷ h) i ≡ reserved → (status h i ≡ reserved) × (i < unused h)
  was_reserved i ne e = go (w.numbers.see i)
    where
      go : Seen h s c n j first i → (status h i ≡ reserved) × (i < unused h)
      go (at_child xe a b d) = absurd (reserved_not_running e a)
      go (at_next xe a b d) = absurd (reserved_not_running e a)
      go (at_join xe lo t a b d) = absurd (ne xe)
      go (at_spawner xe a b d) = absurd (let q : reserved ≡ over = sym e ∙ a in cc)
      go (elsewhere ns (inl q) a b d) = (sym a ∙ e, q)
      go (elsewhere ns (inr q) a b d) = absurd (absent_not_reserved ((ranges_absent i (beyond q))) (sym a ∙ e))
        where
          beyond : unused (split s c n j first ∷ h) ≤ i → unused h ≤ i
          beyond z = let g : 2 + unused h ≤ unused (split s c n j first ∷ h) = w.numbers.grows in omega arith

          ranges_absent : (y : ℕ) → unused h ≤ y → status h y ≡ absent
          ranges_absent = r.absent_beyond

          absent_not_reserved : status h i ≡ absent → status h i ≡ reserved → ⊥
          absent_not_reserved p q = cc

  pieces_split : (i : ℕ) → status (split s c n j first ∷ h) i ≡ reserved →
      map (child_home (split s c n j first ∷ h)) (children (split s c n j first ∷ h) i) ++ (tail (split s c n j first ∷ h) i ∷ []) ≡ home (split s c n j first ∷ h) i ∷ continuations (split s c n j first ∷ h) i
  pieces_split i e = elim (same_or_not i j) [
    | inl q ↦ subst (λ y. map (child_home (split s c n j first ∷ h)) (children (split s c n j first ∷ h) y) ++ (tail (split s c n j first ∷ h) y ∷ []) ≡ home (split s c n j first ∷ h) y ∷ continuations (split s c n j first ∷ h) y) (sym q) pieces_here
    | inr ne ↦ (let old = was_reserved i ne e in
        ap₂ (λ xs y. xs ++ (y ∷ [])) (ap (map (child_home (split s c n j first ∷ h))) (updated_off (children h) j (children h j ++ (suc (length h) ∷ [])) i ne) ∙ old_children i) (tail_away i ne) ∙
        (k.pieces i old.0 ∙ ap₂ (λ y xs. y ∷ xs) (sym (old_home i old.1)) (sym (continuations_away i ne))))
  ]

  continuation_cases : (i m : ℕ) → Present m (continuations (split s c n j first ∷ h) i) → ((i ≡ j) × (m ≡ n)) ⊎ Present m (continuations h i)
  continuation_cases i m = updated_case (λ ys. Present m ys → ((i ≡ j) × (m ≡ n)) ⊎ Present m (continuations h i)) (continuations h) j (continuations h j ++ (n ∷ [])) i
      (λ e t. elim ((present_append (continuations h j) (n ∷ []) m).0 t) [
        | inl q ↦ inr (subst (λ y. Present m (continuations h y)) (sym e) q)
        | inr q ↦ elim q [ inl z ↦ inl (e, sym z) | inr z ↦ absurd z ]
      ])
      (λ ne t. inr t)

  next_known : n < unused (split s c n j first ∷ h)
  next_known = let g : 2 + unused h ≤ unused (split s c n j first ∷ h) = w.numbers.grows in let e : n ≡ 1 + unused h = w.numbers.next_is in omega arith

  known_split : (i m : ℕ) → Present m (continuations (split s c n j first ∷ h) i) → (m < unused (split s c n j first ∷ h)) × (i < unused (split s c n j first ∷ h)) × (home (split s c n j first ∷ h) m ≡ m) × (0 < m)
  known_split i m t = elim (continuation_cases i m t) [
    | inl q ↦ (
      subst (λ y. y < unused (split s c n j first ∷ h)) (sym q.1) next_known,
      subst (λ y. y < unused (split s c n j first ∷ h)) (sym q.0) w.numbers.join_known,
      home_at_next h s c n j first m q.1 (λ z. child_apart.2 (sym q.1 ∙ z)) ∙ sym q.1,
      (let e : n ≡ 1 + unused h = w.numbers.next_is in let f : m ≡ n = q.1 in omega arith),
    )
    | inr q ↦ (let old = k.known i m q in let g : 2 + unused h ≤ unused (split s c n j first ∷ h) = w.numbers.grows in
        ((let l : m < unused h = old.0 in omega arith), (let l : i < unused h = old.1 in omega arith), old_home m old.0 ∙ old.2, old.3))
  ]

  not_next : (i m : ℕ) → Present m (continuations h i) → m ≢ n
  not_next i m t e = let l : m < unused h = (k.known i m t).0 in let q : n ≡ 1 + unused h = w.numbers.next_is in omega arith

  one_split : (i l m : ℕ) → Present m (continuations (split s c n j first ∷ h) i) → Present m (continuations (split s c n j first ∷ h) l) → i ≡ l
  one_split i l m t u = go (continuation_cases i m t) (continuation_cases l m u)
    where
      go : ((i ≡ j) × (m ≡ n)) ⊎ Present m (continuations h i) → ((l ≡ j) × (m ≡ n)) ⊎ Present m (continuations h l) → i ≡ l
      go (inl a) (inl b) = a.0 ∙ sym b.0
      go (inl a) (inr b) = absurd (not_next l m b a.1)
      go (inr a) (inl b) = absurd (not_next i m a b.1)
      go (inr a) (inr b) = k.one_block i l m a b

  join_home_split : (i : ℕ) → status (split s c n j first ∷ h) i ≡ reserved → home (split s c n j first ∷ h) i < i
  join_home_split i e = elim (same_or_not i j) [
    | inl q ↦ subst (λ y. home (split s c n j first ∷ h) y < y) (sym q) (elim w.block_is [
      | inl z ↦ (let a : home (split s c n j first ∷ h) j ≡ home h s = home_at_join h s c n j first j z.0 refl in let b : unused h ≤ j = z.1 in
          let d : s < unused h = w.numbers.spawner_known in let p : home h s ≤ s = spawner_home in omega arith)
      | inr z ↦ (let a : home (split s c n j first ∷ h) j ≡ home h j = old_home j (join_old z.1) in let b : home h j < j = k.join_home j (join_live z.1) in omega arith)
    ])
    | inr ne ↦ (let old = was_reserved i ne e in let a : home (split s c n j first ∷ h) i ≡ home h i = old_home i old.1 in let b : home h i < i = k.join_home i old.0 in omega arith)
  ]

  ordered_split : (i : ℕ) → AllPairs (λ m p. m < p) (continuations (split s c n j first ∷ h) i)
  ordered_split i = updated_case (AllPairs (λ m p. m < p)) (continuations h) j (continuations h j ++ (n ∷ [])) i
      (λ e. pairs_push (λ m p. m < p) (continuations h j) n (k.ordered j) newest)
      (λ ne. k.ordered i)
    where
      newest : (m : ℕ) → Present m (continuations h j) → m < n
      newest m t = let l : m < unused h = (k.known j m t).0 in let q : n ≡ 1 + unused h = w.numbers.next_is in omega arith

  last_split : (i : ℕ) → status (split s c n j first ∷ h) i ≡ reserved → (front : List ℕ) × (continuations (split s c n j first ∷ h) i ≡ front ++ (tail (split s c n j first ∷ h) i ∷ []))
  last_split i e = elim (same_or_not i j) [
    | inl q ↦ (continuations h j, ap (continuations (split s c n j first ∷ h)) q ∙ (continuations_here ∙ ap (λ y. continuations h j ++ (y ∷ [])) (sym (tail_here i q))))
    | inr ne ↦ (let old = k.last i (was_reserved i ne e).0 in (old.0, continuations_away i ne ∙ (old.1 ∙ ap (λ y. old.0 ++ (y ∷ [])) (sym (tail_away i ne)))))
  ]

  -- the later numbers of other blocks stay
  later_stays : (i m : ℕ) → i ≢ j → Present m (continuations h i) → later (split s c n j first ∷ h) m ≡ later h m
  later_stays i m ne t =
      let lt = (k.known i m t).0 in
      let a = not_new m lt in
      later_elsewhere h s c n j first m a.0 a.1 a.2 (λ f e. elim w.block_is [
        | inl z ↦ (let q : first ≡ true = z.0 in cc)
        | inr z ↦ ne (k.one_block i j m t (subst (λ y. Present y (continuations h j)) (sym (e ∙ spawner_is_tail z.1)) (tail_in z.1)))
      ])
    where
      tail_in : place h s ≡ continuation j → Present (tail h j) (continuations h j)
      tail_in z = let l = k.last j (join_live z) in subst (Present (tail h j)) (sym l.1) (in_end l.0)
        where
          in_end : (front : List ℕ) → Present (tail h j) (front ++ (tail h j ∷ []))
          in_end [] = inl refl
          in_end (y ∷ front) = inr (in_end front)

  -- a reserved join is no home
  join_no_home : (i : ℕ) → status h i ≡ reserved → i < unused h → place h s ≡ continuation j → i ≢ home h s
  join_no_home i e lt z q =
      let a : home h i < i = k.join_home i e in
      let l = k.last j (join_live z) in
      let own : home h (tail h j) ≡ tail h j = (k.known j (tail h j) (subst (Present (tail h j)) (sym l.1) (in_end l.0))).2 in
      let b : i ≡ tail h j = q ∙ spawner_is_tail z in
      let d : home h i ≡ home h (tail h j) = ap (home h) b in omega arith
    where
      in_end : (front : List ℕ) → Present (tail h j) (front ++ (tail h j ∷ []))
      in_end [] = inl refl
      in_end (y ∷ front) = inr (in_end front)

  chain_here : AreLater (later (split s c n j first ∷ h)) (later (split s c n j first ∷ h) j) (continuations (split s c n j first ∷ h) j)
  chain_here = elim w.block_is [ inl q ↦ opened q.0 q.1 | inr q ↦ goes_on q.0 q.1 ]
    where
      positive : 0 < n
      positive = let q : n ≡ 1 + unused h = w.numbers.next_is in omega arith

      away : n ≢ home h s
      away e = let a : home h s ≤ s = spawner_home in let l : s < unused h = w.numbers.spawner_known in let q : n ≡ 1 + unused h = w.numbers.next_is in omega arith

      ends : later (split s c n j first ∷ h) n ≡ 0
      ends = later_at_next h s c n j first n refl child_apart.2 away

      opened : first ≡ true → unused h ≤ j → AreLater (later (split s c n j first ∷ h)) (later (split s c n j first ∷ h) j) (continuations (split s c n j first ∷ h) j)
      opened t lo = subst (AreLater (later (split s c n j first ∷ h)) (later (split s c n j first ∷ h) j)) (sym (continuations_here ∙ ap (λ xs. xs ++ (n ∷ [])) (no_continuations lo))) (begin t, positive, ends)
        where
          begin : first ≡ true → later (split s c n j first ∷ h) j ≡ n
          begin t' = subst (λ b. later (split s c n j b ∷ h) j ≡ n) (sym t') (later_at_join h s c n j j refl)

      goes_on : first ≡ false → place h s ≡ continuation j → AreLater (later (split s c n j first ∷ h)) (later (split s c n j first ∷ h) j) (continuations (split s c n j first ∷ h) j)
      goes_on f z = subst (AreLater (later (split s c n j first ∷ h)) (later (split s c n j first ∷ h) j)) (sym (continuations_here ∙ ap (λ xs. xs ++ (n ∷ [])) old.1))
          (subst (λ y. AreLater (later (split s c n j first ∷ h)) y ((old.0 ++ (tail h j ∷ [])) ++ (n ∷ []))) (sym same_begin)
          (follow_more (later h) (later (split s c n j first ∷ h)) (later h j) old.0 (tail h j) n same_front at_tail ends positive (subst (AreLater (later h) (later h j)) old.1 (k.chain j (join_live z)))))
        where
          old : (front : List ℕ) × (continuations h j ≡ front ++ (tail h j ∷ []))
          old = k.last j (join_live z)

          not_first : first ≡ true → ⊥
          not_first t = cc

          same_begin : later (split s c n j first ∷ h) j ≡ later h j
          same_begin = let a = not_new j (join_old z) in later_elsewhere h s c n j first j a.0 a.1 (λ t. absurd (not_first t)) (λ g. join_no_home j (join_live z) (join_old z) z)

          at_tail : later (split s c n j first ∷ h) (tail h j) ≡ n
          at_tail = subst (λ b. later (split s c n j b ∷ h) (tail h j) ≡ n) (sym f) (later_at_home h s c n j (tail h j) (sym (spawner_is_tail z)))

          same_front : (x : ℕ) → Present x old.0 → later (split s c n j first ∷ h) x ≡ later h x
          same_front x i =
              let lt = (k.known j x (subst (Present x) (sym old.1) ((present_append old.0 (tail h j ∷ []) x).1 (inl i)))).0 in
              let a = not_new x lt in
              later_elsewhere h s c n j first x a.0 a.1 (λ t. absurd (not_first t))
              (λ g e. (let b : x < tail h j = before_last old.0 (tail h j) x (subst (AllPairs (λ m p. m < p)) old.1 (k.ordered j)) i in let d : x ≡ tail h j = e ∙ spawner_is_tail z in omega arith))

  chain_split : (i : ℕ) → status (split s c n j first ∷ h) i ≡ reserved → AreLater (later (split s c n j first ∷ h)) (later (split s c n j first ∷ h) i) (continuations (split s c n j first ∷ h) i)
  chain_split i e = elim (same_or_not i j) [
    | inl q ↦ subst (λ y. AreLater (later (split s c n j first ∷ h)) (later (split s c n j first ∷ h) y) (continuations (split s c n j first ∷ h) y)) (sym q) chain_here
    | inr ne ↦ elsewhere_chain ne
  ]
    where
      elsewhere_chain : i ≢ j → AreLater (later (split s c n j first ∷ h)) (later (split s c n j first ∷ h) i) (continuations (split s c n j first ∷ h) i)
      elsewhere_chain ne = subst₂ (AreLater (later (split s c n j first ∷ h))) (sym begin) (sym (continuations_away i ne))
          (follow_same (later h) (later (split s c n j first ∷ h)) (later h i) (continuations h i) (λ x t. later_stays i x ne t) (k.chain i old.0))
        where
          old : (status h i ≡ reserved) × (i < unused h)
          old = was_reserved i ne e

          begin : later (split s c n j first ∷ h) i ≡ later h i
          begin = let a = not_new i old.1 in later_elsewhere h s c n j first i a.0 a.1 (λ t. ne) (λ f. elim w.block_is [
            | inl z ↦ absurd (let q : first ≡ true = z.0 in cc)
            | inr z ↦ join_no_home i old.0 old.1 z.1
          ])

  pub blocks_split : Blocks (split s c n j first ∷ h)
  blocks_split = record {
    below = λ x lt. below_split x lt (w.numbers.see x);
    of_child = λ x i m lt e. child_split x i m lt e (w.numbers.see x);
    of_next = λ x i lt op e. next_split x i lt op e (w.numbers.see x);
    pieces = pieces_split;
    known = known_split;
    one_block = one_split;
    join_home = join_home_split;
    ordered = ordered_split;
    last = last_split;
    chain = chain_split;
  }

-- a join that is reserved after an event other than a split was reserved before
pub calm_reserved : (h : History) (e : Event) → IsCalm e → (x : ℕ) → status (e ∷ h) x ≡ reserved → status h x ≡ reserved
calm_reserved h (split s c n j first) k x t = absurd k
calm_reserved h (same s) k x t = t
calm_reserved h (call s) k x t = t
calm_reserved h (resumed s) k x t = t
calm_reserved h (waits s) k x t = updated_case (λ v. v ≡ reserved → status h x ≡ reserved) (status h) s over x (λ e g. absurd (cc)) (λ ne g. g) t
calm_reserved h (ended s) k x t = updated_case (λ v. v ≡ reserved → status h x ≡ reserved) (status h) s over x (λ e g. absurd (cc)) (λ ne g. g) t
calm_reserved h (finished s) k x t = updated_case (λ v. v ≡ reserved → status h x ≡ reserved) (status h) s over x (λ e g. absurd (cc)) (λ ne g. g) t
calm_reserved h (joined s j) k x t = updated_case (λ v. v ≡ reserved → status h x ≡ reserved) (updated (status h) s over) j running x (λ e g. absurd (cc))
    (λ nj. updated_case (λ v. v ≡ reserved → status h x ≡ reserved) (status h) s over x (λ e g. absurd (cc)) (λ ne g. g)) t
calm_reserved h (ended_joined s j) k x t = updated_case (λ v. v ≡ reserved → status h x ≡ reserved) (updated (status h) s over) j running x (λ e g. absurd (cc))
    (λ nj. updated_case (λ v. v ≡ reserved → status h x ≡ reserved) (status h) s over x (λ e g. absurd (cc)) (λ ne g. g)) t

-- what an event other than a split leaves
record SameTables (h : History) (e : Event) : Type 0 where
  homes : home (e ∷ h) ≡ home h
  laters : later (e ∷ h) ≡ later h
  childs : child_home (e ∷ h) ≡ child_home h
  tails : tail (e ∷ h) ≡ tail h
  blocks : continuations (e ∷ h) ≡ continuations h
  kids : children (e ∷ h) ≡ children h

same_tables : (h : History) (e : Event) → IsCalm e → SameTables h e
same_tables h (split s c n j first) k = absurd k
same_tables h (same s) k = record { homes = refl; laters = refl; childs = refl; tails = refl; blocks = refl; kids = refl }
same_tables h (joined s j) k = record { homes = refl; laters = refl; childs = refl; tails = refl; blocks = refl; kids = refl }
same_tables h (waits s) k = record { homes = refl; laters = refl; childs = refl; tails = refl; blocks = refl; kids = refl }
same_tables h (call s) k = record { homes = refl; laters = refl; childs = refl; tails = refl; blocks = refl; kids = refl }
same_tables h (resumed s) k = record { homes = refl; laters = refl; childs = refl; tails = refl; blocks = refl; kids = refl }
same_tables h (ended s) k = record { homes = refl; laters = refl; childs = refl; tails = refl; blocks = refl; kids = refl }
same_tables h (ended_joined s j) k = record { homes = refl; laters = refl; childs = refl; tails = refl; blocks = refl; kids = refl }
same_tables h (finished s) k = record { homes = refl; laters = refl; childs = refl; tails = refl; blocks = refl; kids = refl }

blocks_calm : (h : History) (e : Event) → IsCalm e → Holders h → Allowed h e → Blocks h → Blocks (e ∷ h)
blocks_calm h e calm o a k = record {
  below = λ x lt. subst (λ f. f x ≤ x) (sym t.homes) (k.below x (older x lt));
  of_child = λ x i m lt g. subst₂ (λ f p. f x ≡ p m) (sym t.homes) (sym t.childs) (k.of_child x i m (older x lt) (sym (calm_place h e calm x) ∙ g));
  of_next = λ x i lt op g. subst₂ (λ f p. f x ≡ p i) (sym t.homes) (sym t.tails) (k.of_next x i (older x lt) (calm_open h e calm o a x op) (sym (calm_place h e calm x) ∙ g));
  pieces = λ i g. all_same i (k.pieces i (calm_reserved h e calm i g));
  known = λ i m q. (let old = k.known i m (subst (λ f. Present m (f i)) t.blocks q) in (newer m old.0, newer i old.1, subst (λ f. f m ≡ m) (sym t.homes) old.2, old.3));
  one_block = λ i l m q u. k.one_block i l m (subst (λ f. Present m (f i)) t.blocks q) (subst (λ f. Present m (f l)) t.blocks u);
  join_home = λ i g. subst (λ f. f i < i) (sym t.homes) (k.join_home i (calm_reserved h e calm i g));
  ordered = λ i. subst (λ f. AllPairs (λ m p. m < p) (f i)) (sym t.blocks) (k.ordered i);
  last = λ i g. (let old = k.last i (calm_reserved h e calm i g) in (old.0, subst₂ (λ f p. f i ≡ old.0 ++ (p i ∷ [])) (sym t.blocks) (sym t.tails) old.1));
  chain = λ i g. subst₂ (λ f p. AreLater f (f i) (p i)) (sym t.laters) (sym t.blocks) (k.chain i (calm_reserved h e calm i g));
}
  where
    t : SameTables h e
    t = same_tables h e calm

    older : (x : ℕ) → x < unused (e ∷ h) → x < unused h
    older x lt = subst (λ m. x < m) (calm_unused h e calm) lt

    newer : (x : ℕ) → x < unused h → x < unused (e ∷ h)
    newer x lt = subst (λ m. x < m) (sym (calm_unused h e calm)) lt

    all_same : (i : ℕ) → map (child_home h) (children h i) ++ (tail h i ∷ []) ≡ home h i ∷ continuations h i →
        map (child_home (e ∷ h)) (children (e ∷ h) i) ++ (tail (e ∷ h) i ∷ []) ≡ home (e ∷ h) i ∷ continuations (e ∷ h) i
    all_same i g =
        ap₂ (λ xs y. xs ++ (y ∷ [])) (ap₂ (λ f p. map f (p i)) t.childs t.kids) (ap (λ f. f i) t.tails) ∙ (g ∙ ap₂ (λ f p. f i ∷ p i) (sym t.homes) (sym t.blocks))

blocks_start : Blocks []
blocks_start = record {
  below = λ x lt. omega arith;
  of_child = λ x j m lt e. refl;
  of_next = λ x j lt op e. refl;
  pieces = λ j e. refl;
  known = λ j n i. absurd i;
  one_block = λ j k n i l. absurd i;
  join_home = λ j e. absurd (none_reserved j e);
  ordered = λ j. pairs-nil (λ m n. m < n);
  last = λ j e. absurd (none_reserved j e);
  chain = λ j e. refl;
}
  where
    none_reserved : (j : ℕ) → status [] j ≡ reserved → ⊥
    none_reserved j e = updated_case (λ v. v ≡ reserved → ⊥) (λ x. absent) 0 running j (λ q g. cc) (λ ne g. cc) e

pub blocks : {h : History} → Legal h → Blocks h
blocks start = blocks_start
blocks (then {history = h} {event = split s c n j first} l a) = blocks_split h s c n j first (ranges l) (holders l) (sides l) (splitting h s c n j first (ranges l) (holders l) a) (blocks l)
blocks (then {history = h} {event = same s} l a) = blocks_calm h (same s) tt (holders l) a (blocks l)
blocks (then {history = h} {event = joined s j} l a) = blocks_calm h (joined s j) tt (holders l) a (blocks l)
blocks (then {history = h} {event = waits s} l a) = blocks_calm h (waits s) tt (holders l) a (blocks l)
blocks (then {history = h} {event = call s} l a) = blocks_calm h (call s) tt (holders l) a (blocks l)
blocks (then {history = h} {event = resumed s} l a) = blocks_calm h (resumed s) tt (holders l) a (blocks l)
blocks (then {history = h} {event = ended s} l a) = blocks_calm h (ended s) tt (holders l) a (blocks l)
blocks (then {history = h} {event = ended_joined s j} l a) = blocks_calm h (ended_joined s j) tt (holders l) a (blocks l)
blocks (then {history = h} {event = finished s} l a) = blocks_calm h (finished s) tt (holders l) a (blocks l)
