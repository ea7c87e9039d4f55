-- Reach, parallel and the two orders: what each says in words, and how they determine one another.
-- a, b, r: addresses; x, y: words; d: a difference; s, t: Booleans
use Rattle.std.proofs.Common.{ℕ, ◌≡◌, ◌≢◌, ◌⊎◌, ◌↔◌, ◌<◌, ◌&&◌, ltb, inl, inr, Bool, true, false, not, [], ◌∷◌, ◌++◌, refl, sym, ap, ◌∙◌, append-nil, Decides, IsTrue, arith, ltb-true, lt-ltb}
use Rattle.std.proofs.lemmas.Bool.{and_parts, and_from}
use Rattle.model_strands.specs.Address.{Word, child, next, join, Address, same_word, Difference, equal, prefix, extension, differ, first_difference, same_at}
use Rattle.law_addresses.specs.Address.{is_fork, reversed, same, is_prefix, is_prefix_at, reaches_word, reaches_at, reaches, parallel, disagree, before_at, before, english, hebrew, english_before, hebrew_before, IsPrefix, PartBy, Reaches, Before, Parallel, SerialBefore}
use Rattle.law_addresses.specs.Laws.{IsPartialOrder, ReachIsBothOrders, ParallelIsDisagreement}
use Rattle.law_addresses.proofs.Differences.{first_difference-self, first_difference-shorter, first_difference-reversed, first_difference-made, first_difference-from_made, IsMade}
use Rattle.law_addresses.proofs.Orders.{english-ranks, same_word-below, before-total, before-transitive}

-- Equality.

pub same-decides : (a b : Address) → Decides (same a b) (a ≡ b)
same-decides a b = (forward (first_difference a b) (first_difference-made a b), λ e. rw (e, first_difference-self b) refl)
  where
    forward : (d : Difference) → IsMade d a b → same_at d ≡ true → a ≡ b
    forward equal h k = h
    forward prefix h k = cc
    forward extension h k = cc
    forward (differ x y) h k = cc

pub cases_same : (a b : Address) → (a ≡ b) ⊎ (a ≢ b)
cases_same a b = go (same a b) refl
  where
    go : (t : Bool) → same a b ≡ t → (a ≡ b) ⊎ (a ≢ b)
    go true e = inl ((same-decides a b).0 e)
    go false e = inr (λ h. let k : same a b ≡ true = (same-decides a b).1 h in cc)

-- A relation that holds at a proper prefix and not at an extension, in words.

pub part-decides : (test : Difference → Bool) (Relation : Word → Word → Type 0) → test prefix ≡ true → test extension ≡ false →
    ((x y : Word) → same_word x y ≡ false → Decides (test (differ x y)) (Relation x y)) → ((x y : Word) → Relation x y → same_word x y ≡ false) →
    (a b : Address) → a ≢ b → Decides (test (first_difference a b)) (IsPrefix a b ⊎ PartBy Relation a b)
part-decides test Relation at_prefix at_extension word distinct a b ne = (forward (first_difference a b) (first_difference-made a b), backward)
  where
    forward : (d : Difference) → IsMade d a b → test d ≡ true → IsPrefix a b ⊎ PartBy Relation a b
    forward equal h k = absurd (ne h)
    forward prefix h k = inl (h.0 ∷ h.1, h.2)
    forward extension h k = cc
    forward (differ x y) h k = inr (h.0, h.1, h.2, x, y, h.3, h.4, (word x y h.5).0 k)

    longer : (r : Address) → b ≡ a ++ r → test (first_difference a b) ≡ true
    longer [] e = absurd (ne (sym (e ∙ append-nil a)))
    longer (y ∷ v) e = ap test (first_difference-from_made prefix a b (y, v, e)) ∙ at_prefix

    backward : IsPrefix a b ⊎ PartBy Relation a b → test (first_difference a b) ≡ true
    backward (inl h) = longer h.0 h.1
    backward (inr h) =
        let apart = distinct h.3 h.4 h.7 in
        ap test (first_difference-from_made (differ h.3 h.4) a b (h.0, h.1, h.2, h.5, h.6, apart)) ∙ (word h.3 h.4 apart).1 h.7

pub is_prefix-decides : (a b : Address) → Decides (is_prefix a b) (IsPrefix a b)
is_prefix-decides a b = (forward (first_difference a b) (first_difference-made a b), λ h. backward h.0 h.1)
  where
    forward : (d : Difference) → IsMade d a b → is_prefix_at d ≡ true → IsPrefix a b
    forward equal h k = ([], sym h ∙ sym (append-nil a))
    forward prefix h k = (h.0 ∷ h.1, h.2)
    forward extension h k = cc
    forward (differ x y) h k = cc

    backward : (r : Address) → b ≡ a ++ r → is_prefix a b ≡ true
    backward [] e = rw (e, append-nil a, first_difference-self a) refl
    backward (y ∷ v) e = rw (e, first_difference-shorter a y v) refl

reaches_word-decides : (x y : Word) → Decides (reaches_word x y) (IsTrue (is_fork x) × (y ≡ join))
reaches_word-decides x child = (λ h. cc, λ h. cc)
reaches_word-decides x next = (λ h. cc, λ h. cc)
reaches_word-decides x join = (λ h. (h, refl), λ h. h.0)

fork-before_join : (x y : Word) → IsTrue (is_fork x) × (y ≡ join) → same_word x y ≡ false
fork-before_join child y h = rw h.1 refl
fork-before_join next y h = rw h.1 refl
fork-before_join join y h = cc

pub reaches-self : (a : Address) → reaches a a ≡ true
reaches-self a = rw first_difference-self refl

-- the test of reach decides reach
pub reaches-decides : (a b : Address) → Decides (reaches a b) (Reaches a b)
reaches-decides a b = go (cases_same a b)
  where
    go : (a ≡ b) ⊎ (a ≢ b) → Decides (reaches a b) (Reaches a b)
    go (inl e) = (λ h. inl ([], sym e ∙ sym (append-nil a)), λ h. rw e (reaches-self b))
    go (inr ne) = part-decides reaches_at (λ x y. IsTrue (is_fork x) × (y ≡ join)) refl refl (λ x y apart. reaches_word-decides x y) fork-before_join a b ne

-- addresses that part are different
pub part-distinct : (Relation : Word → Word → Type 0) → ((x y : Word) → Relation x y → same_word x y ≡ false) → (a b : Address) → PartBy Relation a b → a ≢ b
part-distinct Relation distinct a b h e =
    let apart = distinct h.3 h.4 h.7 in
    let here : first_difference a b ≡ differ h.3 h.4 = first_difference-from_made (differ h.3 h.4) a b (h.0, h.1, h.2, h.5, h.6, apart) in
    let there : first_difference a b ≡ equal = rw e (first_difference-self b) in
    cc

-- a proper prefix, or apart by R
abbrev pub ProperOrPart : (Word → Word → Type 0) → Address → Address → Type 0
ProperOrPart Relation a b = (IsPrefix a b × (a ≢ b)) ⊎ PartBy Relation a b

pub proper-decides : (test : Difference → Bool) (Relation : Word → Word → Type 0) → test prefix ≡ true → test extension ≡ false → test equal ≡ false →
    ((x y : Word) → same_word x y ≡ false → Decides (test (differ x y)) (Relation x y)) → ((x y : Word) → Relation x y → same_word x y ≡ false) →
    (a b : Address) → Decides (test (first_difference a b)) (ProperOrPart Relation a b)
proper-decides test Relation at_prefix at_extension at_equal word distinct a b = go (cases_same a b)
  where
    different : ProperOrPart Relation a b → a ≢ b
    different (inl h) = h.1
    different (inr h) = part-distinct Relation distinct a b h

    go : (a ≡ b) ⊎ (a ≢ b) → Decides (test (first_difference a b)) (ProperOrPart Relation a b)
    go (inl e) =
        (λ h. let here : test (first_difference a b) ≡ false = rw (e, first_difference-self b) at_equal in cc, λ h. absurd (different h e))
    go (inr ne) =
        let both = part-decides test Relation at_prefix at_extension word distinct a b ne in
        (λ h. forward (both.0 h), λ h. both.1 (backward h))
      where
        forward : IsPrefix a b ⊎ PartBy Relation a b → ProperOrPart Relation a b
        forward (inl h) = inl (h, ne)
        forward (inr h) = inr h

        backward : ProperOrPart Relation a b → IsPrefix a b ⊎ PartBy Relation a b
        backward (inl h) = inl h.0
        backward (inr h) = inr h

-- the test of an order decides the order
pub before-decides : (rank : Word → ℕ) (a b : Address) → Decides (before rank a b) (Before rank a b)
before-decides rank a b =
    proper-decides (before_at rank) (λ x y. rank x < rank y) refl refl refl (λ x y apart. (ltb-true (rank x) (rank y), lt-ltb (rank x) (rank y)))
    (same_word-below rank) a b

-- The orders determine reach and parallel.

word-orders : (x y : Word) → reaches_word x y ≡ (ltb (english x) (english y) && ltb (hebrew x) (hebrew y))
word-orders child child = refl
word-orders child next = refl
word-orders child join = refl
word-orders next child = refl
word-orders next next = refl
word-orders next join = refl
word-orders join child = refl
word-orders join next = refl
word-orders join join = refl

-- one address reaches another exactly where it is before it in both orders
pub reaches-orders : (a b : Address) → a ≢ b → reaches a b ≡ (english_before a b && hebrew_before a b)
reaches-orders a b ne = go (first_difference a b) (first_difference-made a b)
  where
    go : (d : Difference) → IsMade d a b → reaches_at d ≡ (before_at english d && before_at hebrew d)
    go equal h = absurd (ne h)
    go prefix h = refl
    go extension h = refl
    go (differ x y) h = word-orders x y

word-parallel : (x y : Word) → same_word x y ≡ false →
    (not (reaches_word x y) && not (reaches_word y x)) ≡ disagree (ltb (english x) (english y)) (ltb (hebrew x) (hebrew y))
word-parallel child child h = cc
word-parallel child next h = refl
word-parallel child join h = refl
word-parallel next child h = refl
word-parallel next next h = cc
word-parallel next join h = refl
word-parallel join child h = refl
word-parallel join next h = refl
word-parallel join join h = cc

-- two addresses are parallel exactly where the orders disagree
pub parallel-orders : (a b : Address) → parallel a b ≡ disagree (english_before a b) (hebrew_before a b)
parallel-orders a b = rw (first_difference-reversed a b) (go (first_difference a b) (first_difference-made a b))
  where
    go : (d : Difference) → IsMade d a b → (not (reaches_at d) && not (reaches_at (reversed d))) ≡ disagree (before_at english d) (before_at hebrew d)
    go equal h = refl
    go prefix h = refl
    go extension h = refl
    go (differ x y) h = word-parallel x y h.5

-- Reach is a partial order.

pub reaches-transitive : (a b c : Address) → reaches a b ≡ true → reaches b c ≡ true → reaches a c ≡ true
reaches-transitive a b c h k = go (cases_same a b) (cases_same b c) (cases_same a c)
  where
    go : (a ≡ b) ⊎ (a ≢ b) → (b ≡ c) ⊎ (b ≢ c) → (a ≡ c) ⊎ (a ≢ c) → reaches a c ≡ true
    go (inl e) q r = rw e k
    go (inr p) (inl e) r = rw (← e) h
    go (inr p) (inr q) (inl e) = rw e (reaches-self c)
    go (inr p) (inr q) (inr r) =
        let first = and_parts (english_before a b) (hebrew_before a b) (sym (reaches-orders a b p) ∙ h) in
        let second = and_parts (english_before b c) (hebrew_before b c) (sym (reaches-orders b c q) ∙ k) in
        reaches-orders a c r ∙
        and_from (english_before a c) (hebrew_before a c) (before-transitive english a b c first.0 second.0) (before-transitive hebrew a b c first.1 second.1)

pub reaches-antisymmetric : (a b : Address) → reaches a b ≡ true → reaches b a ≡ true → a ≡ b
reaches-antisymmetric a b h k = go (cases_same a b)
  where
    go : (a ≡ b) ⊎ (a ≢ b) → a ≡ b
    go (inl e) = e
    go (inr ne) =
        let first = and_parts (english_before a b) (hebrew_before a b) (sym (reaches-orders a b ne) ∙ h) in
        let second = and_parts (english_before b a) (hebrew_before b a) (sym (reaches-orders b a (λ e. ne (sym e))) ∙ k) in
        let opposite = before-total english english-ranks a b ne in
        let clash : not (english_before a b) ≡ true = sym opposite ∙ second.0 in
        let clash2 : not true ≡ true = rw first.0 at clash in
        cc

pub reaches-partial : IsPartialOrder reaches
reaches-partial = record { reflexive = reaches-self; antisymmetric = reaches-antisymmetric; transitive = reaches-transitive }

pub parallel-self : (a : Address) → parallel a a ≡ false
parallel-self a = rw first_difference-self refl

and-comm : (s t : Bool) → (s && t) ≡ (t && s)
and-comm true true = refl
and-comm true false = refl
and-comm false true = refl
and-comm false false = refl

pub parallel-comm : (a b : Address) → parallel a b ≡ parallel b a
parallel-comm a b = and-comm (not (reaches a b)) (not (reaches b a))

-- The English order is that of a serial run.

serial-word : (x y : Word) → english x < english y → ((x ≡ child) × (y ≡ next)) ⊎ (IsTrue (is_fork x) × (y ≡ join))
serial-word child child h = absurd (omega arith)
serial-word child next h = inl (refl, refl)
serial-word child join h = inr (refl, refl)
serial-word next child h = absurd (omega arith)
serial-word next next h = absurd (omega arith)
serial-word next join h = inr (refl, refl)
serial-word join child h = absurd (omega arith)
serial-word join next h = absurd (omega arith)
serial-word join join h = absurd (omega arith)

pub serial-decides : (a b : Address) → Decides (english_before a b) (SerialBefore a b)
serial-decides a b = (λ h. forward ((before-decides english a b).0 h), backward)
  where
    parted : (h : PartBy (λ x y. english x < english y) a b) → ((h.3 ≡ child) × (h.4 ≡ next)) ⊎ (IsTrue (is_fork h.3) × (h.4 ≡ join)) → SerialBefore a b
    parted h (inl k) = inr (h.0, h.1, h.2, h.3, h.4, h.5, h.6, k)
    parted h (inr k) = inl (inr (h.0, h.1, h.2, h.3, h.4, h.5, h.6, k), part-distinct (λ x y. english x < english y) (same_word-below english) a b h)

    forward : Before english a b → SerialBefore a b
    forward (inl h) = inl (inl h.0, h.1)
    forward (inr h) = parted h (serial-word h.3 h.4 h.7)

    backward : SerialBefore a b → english_before a b ≡ true
    backward (inl h) =
        (and_parts (english_before a b) (hebrew_before a b) (sym (reaches-orders a b h.1) ∙ (reaches-decides a b).1 h.0)).0
    backward (inr h) = (before-decides english a b).1 (inr (h.0, h.1, h.2, h.3, h.4, h.5, h.6, rw (h.7.0, h.7.1) (omega arith)))

-- Parallel addresses part at the two sides of a spawn.

abbrev AreSides : Word → Word → Type 0
AreSides x y = ((x ≡ child) × (y ≡ next)) ⊎ ((x ≡ next) × (y ≡ child))

no_side-left : (y : Word) → AreSides join y → ⊥
no_side-left y (inl k) = let e : join ≡ child = k.0 in cc
no_side-left y (inr k) = let e : join ≡ next = k.0 in cc

no_side-right : (x : Word) → AreSides x join → ⊥
no_side-right x (inl k) = let e : join ≡ next = k.1 in cc
no_side-right x (inr k) = let e : join ≡ child = k.1 in cc

sides-differ : (x y : Word) → AreSides x y → same_word x y ≡ false
sides-differ x y (inl k) = rw (k.0, k.1) refl
sides-differ x y (inr k) = rw (k.0, k.1) refl

parallel-word : (x y : Word) → same_word x y ≡ false → Decides (not (reaches_word x y) && not (reaches_word y x)) (AreSides x y)
parallel-word child child h = cc
parallel-word child next h = (λ k. inl (refl, refl), λ k. refl)
parallel-word child join h = (λ k. cc, λ k. absurd (no_side-right child k))
parallel-word next child h = (λ k. inr (refl, refl), λ k. refl)
parallel-word next next h = cc
parallel-word next join h = (λ k. cc, λ k. absurd (no_side-right next k))
parallel-word join child h = (λ k. cc, λ k. absurd (no_side-left child k))
parallel-word join next h = (λ k. cc, λ k. absurd (no_side-left next k))
parallel-word join join h = cc

-- what is parallel to two addresses, by their first difference
abbrev pub parallel_at : Difference → Bool
parallel_at d = not (reaches_at d) && not (reaches_at (reversed d))

pub parallel-by_difference : (a b : Address) → parallel a b ≡ parallel_at (first_difference a b)
parallel-by_difference a b = rw (first_difference-reversed a b) refl

pub parallel-decides : (a b : Address) → Decides (parallel a b) (Parallel a b)
parallel-decides a b = rw (parallel-by_difference a b) (forward (first_difference a b) (first_difference-made a b), backward)
  where
    forward : (d : Difference) → IsMade d a b → parallel_at d ≡ true → Parallel a b
    forward equal h k = cc
    forward prefix h k = cc
    forward extension h k = cc
    forward (differ x y) h k = (h.0, h.1, h.2, x, y, h.3, h.4, (parallel-word x y h.5).0 k)

    backward : Parallel a b → parallel_at (first_difference a b) ≡ true
    backward h =
        let apart = sides-differ h.3 h.4 h.7 in
        ap parallel_at (first_difference-from_made (differ h.3 h.4) a b (h.0, h.1, h.2, h.5, h.6, apart)) ∙ (parallel-word h.3 h.4 apart).1 h.7

-- The laws of reach and parallel in the words of the contracts.

pub reaches-both : ReachIsBothOrders
reaches-both a b ne = (
  λ h. and_parts (english_before a b) (hebrew_before a b) (sym (reaches-orders a b ne) ∙ h),
  λ h. reaches-orders a b ne ∙ and_from (english_before a b) (hebrew_before a b) h.0 h.1,
)

disagree-iff : (s t : Bool) → IsTrue (disagree s t) ↔ (s ≢ t)
disagree-iff true true = (λ h e. cc, λ ne. absurd (ne refl))
disagree-iff true false = (λ h e. cc, λ ne. refl)
disagree-iff false true = (λ h e. cc, λ ne. refl)
disagree-iff false false = (λ h e. cc, λ ne. absurd (ne refl))

pub parallel-disagreement : ParallelIsDisagreement
parallel-disagreement a b = rw (parallel-orders a b) (disagree-iff (english_before a b) (hebrew_before a b))
