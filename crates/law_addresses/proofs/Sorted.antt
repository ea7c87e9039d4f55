-- Lists that stay in order: what a spawn puts directly behind its strand keeps both lists sorted.
-- X: the type of the members of lists; x, y, z: members; P: a property of them; R: a relation between them; v, w: words
use Rattle.std.proofs.Common.{ℕ, ◌≡◌, ◌⊎◌, ◌↔◌, ◌<◌, lt_trans, inl, inr, true, false, List, [], ◌∷◌, ◌++◌, length, insert, All, AllPairs, get_or, refl, ap, ◌∙◌, arith, suc, zero, suc-le-suc, zero-lt-suc}
use Rattle.std.proofs.lemmas.Bool.{cases_order}
use Rattle.std.proofs.lemmas.List.Elements.{All-nil, All-cons, All-head, All-tail, All-append, All-weaker}
use Rattle.std.proofs.lemmas.List.Kept.{AllPairs-cons}
use Rattle.model_strands.specs.Address.{Word, child, next, join, Address, extended}
use Rattle.law_addresses.specs.Address.{before, english, hebrew, is_prefix, IsPrefix}
use Rattle.law_addresses.specs.Laws.{SpawnKeepsOrders, OpeningKeepsOrders, PlacesAreOrder}
use Rattle.law_addresses.specs.Sorted.{IsSortedBy}
use Rattle.law_addresses.proofs.Orders.{IsRank, english-ranks, hebrew-ranks, before-transitive, before-cons_less}
use Rattle.law_addresses.proofs.Extensions.{before-from_extended, before-extension, before-append}
use Rattle.law_addresses.proofs.Extremes.{before-ranks, before-different}

-- A relation over all pairs of a list, taken apart and put together.

pub pairs-nil : {X : Type 0} (R : X → X → Type 0) → AllPairs R []
pairs-nil R i j d ij jn = absurd (omega arith)

pub pairs-head : {X : Type 0} (R : X → X → Type 0) (x : X) (xs : List X) → AllPairs R (x ∷ xs) → All (R x) xs
pairs-head R x xs h k d kn = h zero (suc k) d (zero-lt-suc k) (suc-le-suc kn)

pub pairs-tail : {X : Type 0} (R : X → X → Type 0) (x : X) (xs : List X) → AllPairs R (x ∷ xs) → AllPairs R xs
pairs-tail R x xs h i j d ij jn = h (suc i) (suc j) d (suc-le-suc ij) (suc-le-suc jn)

pub all-append_left : {X : Type 0} (P : X → Type 0) (xs ys : List X) → All P (xs ++ ys) → All P xs
all-append_left P [] ys h = All-nil P
all-append_left P (x ∷ xs) ys h = All-cons P x xs (All-head P x (xs ++ ys) h) (all-append_left P xs ys (All-tail P x (xs ++ ys) h))

pub all-append_right : {X : Type 0} (P : X → Type 0) (xs ys : List X) → All P (xs ++ ys) → All P ys
all-append_right P [] ys h = h
all-append_right P (x ∷ xs) ys h = all-append_right P xs ys (All-tail P x (xs ++ ys) h)

pub pairs-append_right : {X : Type 0} (R : X → X → Type 0) (xs ys : List X) → AllPairs R (xs ++ ys) → AllPairs R ys
pairs-append_right R [] ys h = h
pairs-append_right R (x ∷ xs) ys h = pairs-append_right R xs ys (pairs-tail R x (xs ++ ys) h)

pub pairs-append : {X : Type 0} (R : X → X → Type 0) (xs ys : List X) → AllPairs R xs → AllPairs R ys → All (λ x. All (R x) ys) xs → AllPairs R (xs ++ ys)
pairs-append R [] ys h k across = k
pairs-append R (x ∷ xs) ys h k across =
    AllPairs-cons R x (xs ++ ys) (All-append (R x) xs ys (pairs-head R x xs h) (All-head (λ z. All (R z) ys) x xs across))
    (pairs-append R xs ys (pairs-tail R x xs h) k (All-tail (λ z. All (R z) ys) x xs across))

-- new items directly behind an old one keep a list in order, if they come after it and before what it comes before
pub pairs-insert : {X : Type 0} (R : X → X → Type 0) → ((x y z : X) → R x y → R y z → R x z) →
    (front : List X) (old : X) (new back : List X) → AllPairs R (front ++ (old ∷ back)) → AllPairs R (old ∷ new) →
    All (λ item. All (R item) back) new → AllPairs R (front ++ (old ∷ (new ++ back)))
pairs-insert R trans [] old new back sorted inner outer =
    AllPairs-cons R old (new ++ back) (All-append (R old) new back (pairs-head R old new inner) (pairs-head R old back sorted))
    (pairs-append R new back (pairs-tail R old new inner) (pairs-tail R old back sorted) outer)
pairs-insert R trans (x ∷ front) old new back sorted inner outer =
    AllPairs-cons R x (front ++ (old ∷ (new ++ back))) ahead (pairs-insert R trans front old new back (pairs-tail R x (front ++ (old ∷ back)) sorted) inner outer)
  where
    before_all : All (R x) (front ++ (old ∷ back))
    before_all = pairs-head R x (front ++ (old ∷ back)) sorted

    behind : All (R x) (old ∷ back)
    behind = all-append_right (R x) front (old ∷ back) before_all

    to_old : R x old
    to_old = All-head (R x) old back behind

    ahead : All (R x) (front ++ (old ∷ (new ++ back)))
    ahead =
        All-append (R x) front (old ∷ (new ++ back)) (all-append_left (R x) front (old ∷ back) before_all)
        (All-cons (R x) old (new ++ back) to_old
        (All-append (R x) new back (All-weaker (R old) (R x) (λ item h. trans x old item to_old h) new (pairs-head R old new inner)) (All-tail (R x) old back behind)))

module _ {X : Type 0} (rank : Word → ℕ) (address : X → Address) where
  -- extensions of a spawner directly behind it keep a list sorted, if nothing behind it begins with its address
  pub sorted-insert : (front : List X) (spawner : X) (new back : List X) → IsSortedBy rank address (front ++ (spawner ∷ back)) →
      All (λ item. is_prefix (address spawner) (address item) ≡ false) back → All (λ item. IsPrefix (address spawner) (address item)) new →
      IsSortedBy rank address (spawner ∷ new) → IsSortedBy rank address (front ++ (spawner ∷ (new ++ back)))
  sorted-insert front spawner new back sorted apart longer inner =
      pairs-insert R (λ x y z h k. before-transitive rank (address x) (address y) (address z) h k) front spawner new back sorted inner outer
    where
      R : X → X → Type 0
      R x y = before rank (address x) (address y) ≡ true

      behind : All (R spawner) back
      behind = pairs-head R spawner back (pairs-append_right R front (spawner ∷ back) sorted)

      outer : All (λ item. All (R item) back) new
      outer k d kn m f mn =
          let e = longer k d kn in
          rw e.1 (before-from_extended rank (address spawner) e.0 (address (get_or back m f)) (apart m f mn) ∙ behind m f mn)

  extended-before : (spawner x y : X) (v w : Word) → address x ≡ extended (address spawner) v → address y ≡ extended (address spawner) w → rank v < rank w →
      before rank (address x) (address y) ≡ true
  extended-before spawner x y v w e f h = rw (e, f) (before-append rank (address spawner) (v ∷ []) (w ∷ []) ∙ before-cons_less rank v w [] [] h)

  before-extended : (spawner x : X) (v : Word) → address x ≡ extended (address spawner) v → before rank (address spawner) (address x) ≡ true
  before-extended spawner x v e = rw e (before-extension rank (address spawner) v [])

  -- a strand and what its spawn makes, by rising ranks
  sorted-two : (spawner x y : X) (v w : Word) → address x ≡ extended (address spawner) v → address y ≡ extended (address spawner) w → rank v < rank w →
      IsSortedBy rank address (spawner ∷ (x ∷ (y ∷ [])))
  sorted-two spawner x y v w e f h =
      AllPairs-cons R spawner (x ∷ (y ∷ [])) (All-cons (R spawner) x (y ∷ []) (before-extended spawner x v e) (All-cons (R spawner) y [] (before-extended spawner y w f) (All-nil (R spawner))))
      (AllPairs-cons R x (y ∷ []) (All-cons (R x) y [] (extended-before spawner x y v w e f h) (All-nil (R x))) (AllPairs-cons R y [] (All-nil (R y)) (pairs-nil R)))
    where
      R : X → X → Type 0
      R x y = before rank (address x) (address y) ≡ true

  sorted-three : (spawner x y z : X) (v w u : Word) → address x ≡ extended (address spawner) v → address y ≡ extended (address spawner) w → address z ≡ extended (address spawner) u →
      rank v < rank w → rank w < rank u → IsSortedBy rank address (spawner ∷ (x ∷ (y ∷ (z ∷ []))))
  sorted-three spawner x y z v w u e f g h k =
      AllPairs-cons R spawner (x ∷ (y ∷ (z ∷ [])))
      (All-cons (R spawner) x (y ∷ (z ∷ [])) (before-extended spawner x v e) (pairs-head R spawner (y ∷ (z ∷ [])) (sorted-two spawner y z w u f g k)))
      (AllPairs-cons R x (y ∷ (z ∷ []))
      (All-cons (R x) y (z ∷ []) (extended-before spawner x y v w e f h) (All-cons (R x) z [] (extended-before spawner x z v u e g (lt_trans h k)) (All-nil (R x))))
      (pairs-tail R spawner (y ∷ (z ∷ [])) (sorted-two spawner y z w u f g k)))
    where
      R : X → X → Type 0
      R x y = before rank (address x) (address y) ≡ true

  -- a list is sorted by any addresses that agree on its items
  pub sorted-alike : (other : X → Address) (xs : List X) → All (λ x. other x ≡ address x) xs → IsSortedBy rank address xs → IsSortedBy rank other xs
  sorted-alike other xs alike sorted i j d ij jn =
      let in_range : i < length xs = omega arith in
      rw (alike i d in_range, alike j d jn) (sorted i j d ij jn)

  -- in a sorted list the order of the places is that of the addresses
  pub sorted-places : IsRank rank → (xs : List X) → IsSortedBy rank address xs → (i j : ℕ) (d : X) → i < length xs → j < length xs →
      (before rank (address (get_or xs i d)) (address (get_or xs j d)) ≡ true) ↔ (i < j)
  sorted-places ranks xs sorted i j d below_i below_j = (λ h. go h (cases_order i j), λ h. sorted i j d h below_j)
    where
      go : before rank (address (get_or xs i d)) (address (get_or xs j d)) ≡ true → (i ≡ j) ⊎ ((i < j) ⊎ (j < i)) → i < j
      go h (inl e) = absurd (before-different rank (address (get_or xs i d)) (address (get_or xs j d)) h (rw e refl))
      go h (inr (inl k)) = k
      go h (inr (inr k)) =
          absurd (let back = sorted j i d k below_i in
          let forth = (before-ranks rank ranks address).one_way (get_or xs i d) (get_or xs j d) back in
          cc)

-- std's `insert` at the next place puts a value directly behind an old one
pub insert-after : {X : Type 0} (front : List X) (old new : X) (back : List X) →
    insert (front ++ (old ∷ back)) (suc (length front)) new ≡ front ++ (old ∷ (new ∷ back))
insert-after [] old new back = refl
insert-after (x ∷ front) old new back = ap (λ xs. x ∷ xs) (insert-after front old new back)

-- What a spawn puts directly behind its strand keeps both lists sorted.

module _ {X : Type 0} (address : X → Address) (front : List X) (spawner child_strand next_strand : X) (back : List X)
    (at_child : address child_strand ≡ extended (address spawner) child) (at_next : address next_strand ≡ extended (address spawner) next)
    (apart : All (λ item. is_prefix (address spawner) (address item) ≡ false) back) where
  abbrev IsBehind : X → Type 0
  IsBehind item = IsPrefix (address spawner) (address item)

  longer-two : (x y : X) (v w : Word) → address x ≡ extended (address spawner) v → address y ≡ extended (address spawner) w → All IsBehind (x ∷ (y ∷ []))
  longer-two x y v w e f = All-cons IsBehind x (y ∷ []) (v ∷ [], e) (All-cons IsBehind y [] (w ∷ [], f) (All-nil IsBehind))

  pub spawned-english : IsSortedBy english address (front ++ (spawner ∷ back)) →
      IsSortedBy english address (front ++ (spawner ∷ (child_strand ∷ (next_strand ∷ back))))
  spawned-english sorted =
      sorted-insert english address front spawner (child_strand ∷ (next_strand ∷ [])) back sorted apart
      (longer-two child_strand next_strand child next at_child at_next)
      (sorted-two english address spawner child_strand next_strand child next at_child at_next (omega arith))

  pub spawned-hebrew : IsSortedBy hebrew address (front ++ (spawner ∷ back)) →
      IsSortedBy hebrew address (front ++ (spawner ∷ (next_strand ∷ (child_strand ∷ back))))
  spawned-hebrew sorted =
      sorted-insert hebrew address front spawner (next_strand ∷ (child_strand ∷ [])) back sorted apart
      (longer-two next_strand child_strand next child at_next at_child)
      (sorted-two hebrew address spawner next_strand child_strand next child at_next at_child (omega arith))

  module _ (join_strand : X) (at_join : address join_strand ≡ extended (address spawner) join) where
    longer-three : (x y : X) (v w : Word) → address x ≡ extended (address spawner) v → address y ≡ extended (address spawner) w →
        All IsBehind (x ∷ (y ∷ (join_strand ∷ [])))
    longer-three x y v w e f = All-cons IsBehind x (y ∷ (join_strand ∷ [])) (v ∷ [], e) (longer-two y join_strand w join f at_join)

    pub opened-english : IsSortedBy english address (front ++ (spawner ∷ back)) →
        IsSortedBy english address (front ++ (spawner ∷ (child_strand ∷ (next_strand ∷ (join_strand ∷ back)))))
    opened-english sorted =
        sorted-insert english address front spawner (child_strand ∷ (next_strand ∷ (join_strand ∷ []))) back sorted apart
        (longer-three child_strand next_strand child next at_child at_next)
        (sorted-three english address spawner child_strand next_strand join_strand child next join at_child at_next at_join (omega arith) (omega arith))

    pub opened-hebrew : IsSortedBy hebrew address (front ++ (spawner ∷ back)) →
        IsSortedBy hebrew address (front ++ (spawner ∷ (next_strand ∷ (child_strand ∷ (join_strand ∷ back)))))
    opened-hebrew sorted =
        sorted-insert hebrew address front spawner (next_strand ∷ (child_strand ∷ (join_strand ∷ []))) back sorted apart
        (longer-three next_strand child_strand next child at_next at_child)
        (sorted-three hebrew address spawner next_strand child_strand join_strand next child join at_next at_child at_join (omega arith) (omega arith))

pub spawn-orders : SpawnKeepsOrders
spawn-orders address front spawner child_strand next_strand back at_child at_next apart = (
  spawned-english address front spawner child_strand next_strand back at_child at_next apart,
  spawned-hebrew address front spawner child_strand next_strand back at_child at_next apart,
)

pub opening-orders : OpeningKeepsOrders
opening-orders address front spawner child_strand next_strand join_strand back at_child at_next at_join apart = (
  opened-english address front spawner child_strand next_strand back at_child at_next apart join_strand at_join,
  opened-hebrew address front spawner child_strand next_strand back at_child at_next apart join_strand at_join,
)

places-order : (rank : Word → ℕ) → IsRank rank → PlacesAreOrder rank
places-order rank ranks address items sorted place other below_place below_other = sorted-places rank address ranks items sorted place other 0 below_place below_other

pub english-places : PlacesAreOrder english
english-places = places-order english english-ranks

pub hebrew-places : PlacesAreOrder hebrew
hebrew-places = places-order hebrew hebrew-ranks
