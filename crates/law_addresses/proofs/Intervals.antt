-- The strands between an address and one behind it with no continuation in between are those that the serial order has there.
-- a, b: addresses; m, n: numbers, as of the joins behind an address; t: a Boolean
use Rattle.std.proofs.Common.{ℕ, ◌≡◌, ◌≢◌, ◌⊎◌, ◌↔◌, ◌&&◌, ltb, inl, inr, Bool, true, false, not, cond, [], ◌∷◌, ◌++◌, refl, sym, ap, ◌∙◌, subst, arith, append_assoc, append-nil, replicate, zero, suc, IsTrue}
use Rattle.std.proofs.lemmas.Bool.{and_parts, and_from, not-true}
use Rattle.std.proofs.lemmas.Bool.Decides.{nat_tests, same_from_decides}
use Rattle.model_strands.specs.Address.{Word, child, next, join, Address, extended, same_word, differ, first_difference}
use Rattle.law_addresses.specs.Address.{reaches_at, reaches, before_at, english, english_before, hebrew_before, branch, IsPrefix}
use Rattle.law_addresses.specs.Blocks.{joined}
use Rattle.law_addresses.specs.Intervals.{is_without_next, root_before, view_root, is_within}
use Rattle.law_addresses.specs.Laws.{ViewsAreIntervals, BranchesAreIntervals}
use Rattle.law_addresses.proofs.Differences.{same_word-comm, same_word-distinct}
use Rattle.law_addresses.proofs.Orders.{english-ranks, before-irreflexive, before-total}
use Rattle.law_addresses.proofs.Relations.{cases_same, reaches-orders}
use Rattle.law_addresses.proofs.Extensions.{reaches-nil, reaches-append}
use Rattle.law_addresses.proofs.Branches.{by_last, branch-join, branch-fork}

-- what reaches an address is not after it
pub reaches-before : (a b : Address) → reaches a b ≡ true → english_before b a ≡ false
reaches-before a b h = go (cases_same a b)
  where
    go : (a ≡ b) ⊎ (a ≢ b) → english_before b a ≡ false
    go (inl e) = rw e (before-irreflexive english b)
    go (inr ne) =
        before-total english english-ranks a b ne ∙
        ap not (and_parts (english_before a b) (hebrew_before a b) (sym (reaches-orders a b ne) ∙ h)).0

-- before an address with no continuation in it there is only what reaches it
reaches-without_next : (a b : Address) → is_without_next a ≡ true → english_before a b ≡ false → reaches b a ≡ true
reaches-without_next a [] h k = reaches-nil a
reaches-without_next [] (y ∷ b) h k = cc
reaches-without_next (child ∷ a) (child ∷ b) h k = reaches-without_next a b h k
reaches-without_next (child ∷ a) (next ∷ b) h k = cc
reaches-without_next (child ∷ a) (join ∷ b) h k = cc
reaches-without_next (next ∷ a) (y ∷ b) h k = cc
reaches-without_next (join ∷ a) (child ∷ b) h k = refl
reaches-without_next (join ∷ a) (next ∷ b) h k = refl
reaches-without_next (join ∷ a) (join ∷ b) h k = reaches-without_next a b h k

unordered : (m n : ℕ) → ltb m n ≡ false → ltb n m ≡ false → m ≡ n
unordered m n h k = grind (arith, nat_tests)

-- what the serial order has from an address to a longer one without continuations in the rest is between them by paths
within-reached : (first rest a : Address) → is_without_next rest ≡ true → english_before a first ≡ false → english_before (first ++ rest) a ≡ false →
    (reaches first a ≡ true) × (reaches a (first ++ rest) ≡ true)
within-reached [] rest a h low high = (reaches-nil a, reaches-without_next rest a h high)
within-reached (x ∷ first) rest [] h low high = cc
within-reached (x ∷ first) rest (y ∷ a) h low high =
    rw (same_word-comm y x) (go (same_word x y) refl (within-reached first rest a h) (rw (same_word-comm y x) at low) high)
  where
    go : (t : Bool) → same_word x y ≡ t →
        (english_before a first ≡ false → english_before (first ++ rest) a ≡ false → (reaches first a ≡ true) × (reaches a (first ++ rest) ≡ true)) →
        before_at english (cond t (first_difference a first) (differ y x)) ≡ false →
        before_at english (cond t (first_difference (first ++ rest) a) (differ x y)) ≡ false →
        (reaches_at (cond t (first_difference first a) (differ x y)) ≡ true) × (reaches_at (cond t (first_difference a (first ++ rest)) (differ y x)) ≡ true)
    go true e ih l k = ih l k
    go false e ih l k = absurd (same_word-distinct x y e (english-ranks x y (unordered (english x) (english y) k l)))

pub is_within-parts : (first last a : Address) → is_within first last a ≡ true → (english_before a first ≡ false) × (english_before last a ≡ false)
is_within-parts first last a h =
    let both = and_parts (not (english_before a first)) (not (english_before last a)) h in
    (not-true (english_before a first) both.0, not-true (english_before last a) both.1)

-- between an address and a longer one with no continuation in the rest, paths and the serial order have the same strands
within-paths : (first rest a : Address) → is_without_next rest ≡ true → (reaches first a && reaches a (first ++ rest)) ≡ is_within first (first ++ rest) a
within-paths first rest a h =
    same_from_decides (reaches first a && reaches a (first ++ rest)) (is_within first (first ++ rest) a) (forward, backward) (λ k. k, λ k. k)
  where
    forward : (reaches first a && reaches a (first ++ rest)) ≡ true → is_within first (first ++ rest) a ≡ true
    forward k =
        let both = and_parts (reaches first a) (reaches a (first ++ rest)) k in
        rw (reaches-before first a both.0, reaches-before a (first ++ rest) both.1) refl

    backward : is_within first (first ++ rest) a ≡ true → (reaches first a && reaches a (first ++ rest)) ≡ true
    backward k =
        let low_high = is_within-parts first (first ++ rest) a k in
        let both = within-reached first rest a h low_high.0 low_high.1 in
        and_from (reaches first a) (reaches a (first ++ rest)) both.0 both.1

-- The root of a strand's view.

root_before-extended : (x word : Word) (a : Address) → root_before x (extended a word) ≡ x ∷ extended a word
root_before-extended x word [] = refl
root_before-extended x word (y ∷ a) = refl

pub view_root-child : (a : Address) → view_root (extended a child) ≡ view_root a
view_root-child [] = refl
view_root-child (x ∷ a) = ap (root_before x) (view_root-child a)

pub view_root-join : (a : Address) → view_root (extended a join) ≡ view_root a
view_root-join [] = refl
view_root-join (x ∷ a) = ap (root_before x) (view_root-join a)

pub view_root-next : (a : Address) → view_root (extended a next) ≡ extended a next
view_root-next [] = refl
view_root-next (x ∷ a) = ap (root_before x) (view_root-next a) ∙ root_before-extended x next a

without_next-extended : (word : Word) → is_without_next (word ∷ []) ≡ true → (a : Address) → is_without_next a ≡ true → is_without_next (extended a word) ≡ true
without_next-extended word h [] k = h
without_next-extended word h (child ∷ a) k = without_next-extended word h a k
without_next-extended word h (next ∷ a) k = cc
without_next-extended word h (join ∷ a) k = without_next-extended word h a k

-- a strand is behind its root with no continuation in between
pub view_root-rest : (a : Address) → (rest : Address) × (is_without_next rest ≡ true) × (a ≡ view_root a ++ rest)
view_root-rest = by_last (λ a. (rest : Address) × (is_without_next rest ≡ true) × (a ≡ view_root a ++ rest)) ([], refl, refl) step
  where
    more : (a : Address) (word : Word) → is_without_next (word ∷ []) ≡ true → view_root (extended a word) ≡ view_root a →
        ((rest : Address) × (is_without_next rest ≡ true) × (a ≡ view_root a ++ rest)) →
        (rest : Address) × (is_without_next rest ≡ true) × (extended a word ≡ view_root (extended a word) ++ rest)
    more a word plain e h = (
      extended h.0 word,
      without_next-extended word plain h.0 h.1,
      ap (λ b. b ++ (word ∷ [])) h.2 ∙ append_assoc (view_root a) h.0 (word ∷ []) ∙ ap (λ b. b ++ extended h.0 word) (sym e),
    )

    step : (a : Address) (word : Word) → ((rest : Address) × (is_without_next rest ≡ true) × (a ≡ view_root a ++ rest)) →
        (rest : Address) × (is_without_next rest ≡ true) × (extended a word ≡ view_root (extended a word) ++ rest)
    step a child h = more a child refl (view_root-child a) h
    step a next h = ([], refl, sym (append-nil (extended a next)) ∙ ap (λ b. b ++ []) (sym (view_root-next a)))
    step a join h = more a join refl (view_root-join a) h

pub view_root-prefix : (a : Address) → IsPrefix (view_root a) a
view_root-prefix a = let rest = view_root-rest a in (rest.0, rest.2)

-- the strands on the paths from the root of a strand's view to the strand are those that the serial order has there
pub view-within : (strand a : Address) → (reaches (view_root strand) a && reaches a strand) ≡ is_within (view_root strand) strand a
view-within strand a =
    let rest = view_root-rest strand in
    let P : Address → Type 0 = λ b. (reaches (view_root strand) a && reaches a b) ≡ is_within (view_root strand) b a in
    subst P (sym rest.2) (within-paths (view_root strand) rest.0 a rest.1)

-- Two strands of one branch.

joins-more : (n : ℕ) → replicate n join ++ (join ∷ []) ≡ join ∷ replicate n join
joins-more zero = refl
joins-more (suc n) = ap (λ a. join ∷ a) (joins-more n)

-- an address is its branch behind which joins follow
pub branch-joined : (a : Address) → (n : ℕ) × (a ≡ joined (branch a) n)
branch-joined = by_last (λ a. (n : ℕ) × (a ≡ joined (branch a) n)) (0, refl) step
  where
    whole : (a : Address) (word : Word) → branch (extended a word) ≡ extended a word → (n : ℕ) × (extended a word ≡ joined (branch (extended a word)) n)
    whole a word e = (0, sym (append-nil (extended a word)) ∙ ap (λ b. b ++ []) (sym e))

    step : (a : Address) (word : Word) → ((n : ℕ) × (a ≡ joined (branch a) n)) → (n : ℕ) × (extended a word ≡ joined (branch (extended a word)) n)
    step a child h = whole a child (branch-fork child refl a)
    step a next h = whole a next (branch-fork next refl a)
    step a join h = (
      suc h.0,
      ap (λ b. b ++ (join ∷ [])) h.1 ∙ append_assoc (branch a) (replicate h.0 join) (join ∷ []) ∙
          ap (λ rest. branch a ++ rest) (joins-more h.0) ∙ ap (λ b. b ++ (join ∷ replicate h.0 join)) (sym (branch-join a)),
    )

joins-reach : (m n : ℕ) → reaches (replicate m join) (replicate n join) ≡ true → (k : ℕ) × (replicate n join ≡ replicate m join ++ replicate k join)
joins-reach zero n h = (n, refl)
joins-reach (suc m) zero h = cc
joins-reach (suc m) (suc n) h = let rest = joins-reach m n h in (rest.0, ap (λ a. join ∷ a) rest.1)

joins-without_next : (n : ℕ) → is_without_next (replicate n join) ≡ true
joins-without_next zero = refl
joins-without_next (suc n) = joins-without_next n

-- of two strands of one branch, one is the other with joins behind it
pub branch-behind : (a b : Address) → branch a ≡ branch b → reaches a b ≡ true → (n : ℕ) × (b ≡ joined a n)
branch-behind a b e h =
    let of_a = branch-joined a in
    let of_b = branch-joined b in
    let at_a : a ≡ branch b ++ replicate of_a.0 join = of_a.1 ∙ ap (λ c. c ++ replicate of_a.0 join) e in
    let both : reaches (branch b ++ replicate of_a.0 join) (branch b ++ replicate of_b.0 join) ≡ true = rw (← at_a, ← of_b.1) h in
    let more = joins-reach of_a.0 of_b.0 (sym (reaches-append (branch b) (replicate of_a.0 join) (replicate of_b.0 join)) ∙ both) in (
      more.0,
      of_b.1 ∙ ap (λ rest. branch b ++ rest) more.1 ∙ sym (append_assoc (branch b) (replicate of_a.0 join) (replicate more.0 join)) ∙
          ap (λ c. c ++ replicate more.0 join) (sym at_a),
    )

-- and what is between them by paths is what the serial order has there
pub branch-within : (first last : Address) → branch first ≡ branch last → reaches first last ≡ true → (a : Address) →
    (reaches first a && reaches a last) ≡ is_within first last a
branch-within first last e h a =
    let rest = branch-behind first last e h in
    let P : Address → Type 0 = λ b. (reaches first a && reaches a b) ≡ is_within first b a in
    subst P (sym rest.1) (within-paths first (replicate rest.0 join) a (joins-without_next rest.0))

both-iff : (s t u : Bool) → (s && t) ≡ u → ((IsTrue s × IsTrue t) ↔ IsTrue u)
both-iff s t u e = (λ h. sym e ∙ and_from s t h.0 h.1, λ h. and_parts s t (e ∙ h))

pub views-intervals : ViewsAreIntervals
views-intervals strand a = both-iff (reaches (view_root strand) a) (reaches a strand) (is_within (view_root strand) strand a) (view-within strand a)

pub branches-intervals : BranchesAreIntervals
branches-intervals first last a e h = both-iff (reaches first a) (reaches a last) (is_within first last a) (branch-within first last e h a)
