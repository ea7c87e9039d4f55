-- Two extreme members tell whether any member is parallel to a strand that reaches none of them.
-- a, b: addresses; X: the type of the members of lists; x, y: members; s, t: Booleans
use Rattle.std.proofs.Common.{ℕ, ◌≡◌, ◌≢◌, ◌⊎◌, ◌↔◌, ◌&&◌, ◌<◌, inl, inr, Bool, true, false, not, cond, List, [], ◌∷◌, fold, Contains, refl, sym, ap, ◌∙◌, arith, zero, suc, suc-le-suc, le_of_suc-le-suc}
use Rattle.std.specs.Cmp.{IsStrictWeakOrder}
use Rattle.model_strands.specs.Address.{Word, Address}
use Rattle.law_addresses.specs.Address.{disagree, reaches, parallel, before, english, hebrew, english_before, hebrew_before}
use Rattle.law_addresses.specs.Extremes.{IsLast, later_of, last_of}
use Rattle.law_addresses.specs.Laws.{ExtremesDecide}
use Rattle.law_addresses.proofs.Orders.{IsRank, english-ranks, hebrew-ranks, before-irreflexive, before-total, before-transitive}
use Rattle.law_addresses.proofs.Relations.{cases_same, reaches-orders, parallel-orders, parallel-comm}

-- what is before an address is before each that is not before that address
pub before-passes : (rank : Word → ℕ) → IsRank rank → (first a b : Address) → before rank first a ≡ true → before rank b a ≡ false → before rank first b ≡ true
before-passes rank ranks first a b h k = go (cases_same a b)
  where
    go : (a ≡ b) ⊎ (a ≢ b) → before rank first b ≡ true
    go (inl e) = rw (← e) h
    go (inr ne) =
        let ahead : before rank a b ≡ true = before-total rank ranks b a (λ e. ne (sym e)) ∙ ap not k in
        before-transitive rank first a b h ahead

-- the order of a key's addresses, from the last to the first, ranks
pub before-ranks : (rank : Word → ℕ) → IsRank rank → {X : Type 0} (address : X → Address) → IsStrictWeakOrder (λ x y. before rank (address y) (address x))
before-ranks rank ranks address = record {
  one_way = λ x y h. one_way (address y) (address x) h;
  chain = λ x y z h k. chain (address x) (address y) (address z) h k;
}
  where
    one_way : (a b : Address) → before rank a b ≡ true → before rank b a ≡ false
    one_way a b h = go (cases_same a b)
      where
        go : (a ≡ b) ⊎ (a ≢ b) → before rank b a ≡ false
        go (inl e) = rw e (before-irreflexive rank b)
        go (inr ne) = before-total rank ranks a b ne ∙ ap not h

    chain : (a b c : Address) → before rank b a ≡ false → before rank c b ≡ false → before rank c a ≡ false
    chain a b c h k = go (before rank c a) refl
      where
        go : (t : Bool) → before rank c a ≡ t → t ≡ false
        go false e = refl
        go true e = let clash : before rank c b ≡ true = before-passes rank ranks c a b e h in cc

pub before-different : (rank : Word → ℕ) (a b : Address) → before rank a b ≡ true → a ≢ b
before-different rank a b h e = let here : before rank a b ≡ false = rw e (before-irreflexive rank b) in cc

and-left_true : (s t : Bool) → s ≡ true → (s && t) ≡ false → t ≡ false
and-left_true true t h k = k
and-left_true false t h k = cc

and-right_true : (s t : Bool) → t ≡ true → (s && t) ≡ false → s ≡ false
and-right_true true t h k = sym h ∙ k
and-right_true false t h k = refl

-- an address before another in one of the orders that does not reach it is parallel to it
pub english-parallel : (a b : Address) → reaches a b ≡ false → english_before a b ≡ true → parallel a b ≡ true
english-parallel a b h k =
    let not_hebrew = and-left_true (english_before a b) (hebrew_before a b) k (sym (reaches-orders a b (before-different english a b k)) ∙ h) in
    parallel-orders a b ∙ rw (k, not_hebrew) refl

pub hebrew-parallel : (a b : Address) → reaches a b ≡ false → hebrew_before a b ≡ true → parallel a b ≡ true
hebrew-parallel a b h k =
    let not_english = and-right_true (english_before a b) (hebrew_before a b) k (sym (reaches-orders a b (before-different hebrew a b k)) ∙ h) in
    parallel-orders a b ∙ rw (k, not_english) refl

module _ {X : Type 0} (address : X → Address) (Member : X → Type 0) where
  -- if some member is parallel to a strand that reaches none of them, then so is the last in one of the orders
  pub extremes-tell : (english_last hebrew_last : X) → IsLast english address Member english_last → IsLast hebrew address Member hebrew_last →
      (strand : Address) → ((item : X) → Member item → address item ≢ strand → reaches strand (address item) ≡ false) →
      (item : X) → Member item → parallel (address item) strand ≡ true →
      (parallel (address english_last) strand ≡ true) ⊎ (parallel (address hebrew_last) strand ≡ true)
  extremes-tell english_last hebrew_last in_english in_hebrew strand apart item member par =
      go (english_before strand (address item)) (hebrew_before strand (address item)) refl refl
    where
      orders : disagree (english_before strand (address item)) (hebrew_before strand (address item)) ≡ true
      orders = sym (parallel-orders strand (address item)) ∙ parallel-comm strand (address item) ∙ par

      by_english : english_before strand (address item) ≡ true → parallel (address english_last) strand ≡ true
      by_english k =
          let ahead = before-passes english english-ranks strand (address item) (address english_last) k (in_english.none_after item member) in
          let away = apart english_last in_english.is_member (λ e. before-different english strand (address english_last) ahead (sym e)) in
          parallel-comm (address english_last) strand ∙ english-parallel strand (address english_last) away ahead

      by_hebrew : hebrew_before strand (address item) ≡ true → parallel (address hebrew_last) strand ≡ true
      by_hebrew k =
          let ahead = before-passes hebrew hebrew-ranks strand (address item) (address hebrew_last) k (in_hebrew.none_after item member) in
          let away = apart hebrew_last in_hebrew.is_member (λ e. before-different hebrew strand (address hebrew_last) ahead (sym e)) in
          parallel-comm (address hebrew_last) strand ∙ hebrew-parallel strand (address hebrew_last) away ahead

      go : (s t : Bool) → english_before strand (address item) ≡ s → hebrew_before strand (address item) ≡ t →
          (parallel (address english_last) strand ≡ true) ⊎ (parallel (address hebrew_last) strand ≡ true)
      go true t p q = inl (by_english p)
      go false true p q = inr (by_hebrew q)
      go false false p q = let none : disagree false false ≡ true = rw (p, q) at orders in cc

  -- the last of one member is that member
  pub last-single : (rank : Word → ℕ) (item : X) → IsLast rank address (λ other. other ≡ item) item
  last-single rank item = record { is_member = refl; none_after = λ other e. rw e (before-irreflexive rank (address item)) }

  -- the later of the last and a new member is the last of all
  pub last-more : (rank : Word → ℕ) → IsRank rank → (kept new : X) → IsLast rank address Member kept →
      IsLast rank address (λ item. Member item ⊎ (item ≡ new)) (later_of rank address kept new)
  last-more rank ranks kept new last = go (before rank (address kept) (address new)) refl
    where
      order : IsStrictWeakOrder (λ x y. before rank (address y) (address x))
      order = before-ranks rank ranks address

      none : (t : Bool) → before rank (address kept) (address new) ≡ t → (item : X) → Member item ⊎ (item ≡ new) →
          before rank (address (cond t new kept)) (address item) ≡ false
      none true e item (inl k) = order.chain item kept new (last.none_after item k) (order.one_way new kept e)
      none true e item (inr k) = rw k (before-irreflexive rank (address new))
      none false e item (inl k) = last.none_after item k
      none false e item (inr k) = rw k e

      go : (t : Bool) → before rank (address kept) (address new) ≡ t → IsLast rank address (λ item. Member item ⊎ (item ≡ new)) (cond t new kept)
      go true e = record { is_member = inr refl; none_after = none true e }
      go false e = record { is_member = inl last.is_member; none_after = none false e }

-- the same members have the same last one
pub last-alike : {X : Type 0} (rank : Word → ℕ) (address : X → Address) (Member Other : X → Type 0) →
    ((item : X) → Member item → Other item) → ((item : X) → Other item → Member item) → (last : X) →
    IsLast rank address Member last → IsLast rank address Other last
last-alike rank address Member Other forward backward last is_last = record {
  is_member = forward last is_last.is_member;
  none_after = λ item k. is_last.none_after item (backward item k);
}

pub contains-head : {X : Type 0} (x : X) (xs : List X) → Contains (x ∷ xs) x
contains-head x xs = (0, omega arith, refl)

pub contains-tail : {X : Type 0} (x y : X) (xs : List X) → Contains xs y → Contains (x ∷ xs) y
contains-tail x y xs h = (suc h.0, suc-le-suc h.1, h.2)

pub contains-cases : {X : Type 0} (x y : X) (xs : List X) → Contains (x ∷ xs) y → (y ≡ x) ⊎ Contains xs y
contains-cases x y xs (zero, below, e) = inl (sym e)
contains-cases x y xs (suc k, below, e) = inr (k, le_of_suc-le-suc below, e)

last-fold : {X : Type 0} (rank : Word → ℕ) → IsRank rank → (address : X → Address) (Member : X → Type 0) (kept : X) (xs : List X) →
    IsLast rank address Member kept → IsLast rank address (λ y. Member y ⊎ Contains xs y) (fold (later_of rank address) kept xs)
last-fold rank ranks address Member kept [] last =
    last-alike rank address Member (λ y. Member y ⊎ Contains [] y) (λ y k. inl k) none kept last
  where
    none : (y : _) → Member y ⊎ Contains [] y → Member y
    none y (inl k) = k
    none y (inr k) = absurd (let below : k.0 < 0 = k.1 in omega arith)
last-fold rank ranks address Member kept (x ∷ xs) last =
    last-alike rank address (λ y. (Member y ⊎ (y ≡ x)) ⊎ Contains xs y) (λ y. Member y ⊎ Contains (x ∷ xs) y) forward backward
    (fold (later_of rank address) (later_of rank address kept x) xs)
    (last-fold rank ranks address (λ y. Member y ⊎ (y ≡ x)) (later_of rank address kept x) xs (last-more address Member rank ranks kept x last))
  where
    forward : (y : _) → (Member y ⊎ (y ≡ x)) ⊎ Contains xs y → Member y ⊎ Contains (x ∷ xs) y
    forward y (inl (inl k)) = inl k
    forward y (inl (inr k)) = inr (rw k (contains-head x xs))
    forward y (inr k) = inr (contains-tail x y xs k)

    backward : (y : _) → Member y ⊎ Contains (x ∷ xs) y → (Member y ⊎ (y ≡ x)) ⊎ Contains xs y
    backward y (inl k) = inl (inl k)
    backward y (inr k) = sort (contains-cases x y xs k)
      where
        sort : (y ≡ x) ⊎ Contains xs y → (Member y ⊎ (y ≡ x)) ⊎ Contains xs y
        sort (inl e) = inl (inr e)
        sort (inr k) = inr k

-- the fold over a list finds its last one
pub last_of-last : {X : Type 0} (rank : Word → ℕ) → IsRank rank → (address : X → Address) (first : X) (rest : List X) →
    IsLast rank address (Contains (first ∷ rest)) (last_of rank address first rest)
last_of-last rank ranks address first rest =
    last-alike rank address (λ y. (y ≡ first) ⊎ Contains rest y) (Contains (first ∷ rest)) forward (λ y k. contains-cases first y rest k)
    (last_of rank address first rest)
    (last-fold rank ranks address (λ y. y ≡ first) first rest (last-single address (λ y. y ≡ first) rank first))
  where
    forward : (y : _) → (y ≡ first) ⊎ Contains rest y → Contains (first ∷ rest) y
    forward y (inl e) = rw e (contains-head first rest)
    forward y (inr k) = contains-tail first y rest k

-- of a list of any items, some item is parallel to a strand that reaches none of them exactly where the last in one of the orders is
pub extremes-decide : {X : Type 0} (address : X → Address) (first : X) (rest : List X) (strand : Address) →
    ((item : X) → Contains (first ∷ rest) item → address item ≢ strand → reaches strand (address item) ≡ false) →
    ((item : X) × Contains (first ∷ rest) item × (parallel (address item) strand ≡ true)) ↔
    ((parallel (address (last_of english address first rest)) strand ≡ true) ⊎ (parallel (address (last_of hebrew address first rest)) strand ≡ true))
extremes-decide {X} address first rest strand apart = (forward, backward)
  where
    in_english : IsLast english address (Contains (first ∷ rest)) (last_of english address first rest)
    in_english = last_of-last english english-ranks address first rest

    in_hebrew : IsLast hebrew address (Contains (first ∷ rest)) (last_of hebrew address first rest)
    in_hebrew = last_of-last hebrew hebrew-ranks address first rest

    forward : ((item : X) × Contains (first ∷ rest) item × (parallel (address item) strand ≡ true)) →
        (parallel (address (last_of english address first rest)) strand ≡ true) ⊎ (parallel (address (last_of hebrew address first rest)) strand ≡ true)
    forward (item, member, par) =
        extremes-tell address (Contains (first ∷ rest)) (last_of english address first rest) (last_of hebrew address first rest) in_english in_hebrew
        strand apart item member par

    backward : (parallel (address (last_of english address first rest)) strand ≡ true) ⊎ (parallel (address (last_of hebrew address first rest)) strand ≡ true) →
        ((item : X) × Contains (first ∷ rest) item × (parallel (address item) strand ≡ true))
    backward (inl k) = (last_of english address first rest, in_english.is_member, k)
    backward (inr k) = (last_of hebrew address first rest, in_hebrew.is_member, k)

pub extremes : ExtremesDecide
extremes = extremes-decide
