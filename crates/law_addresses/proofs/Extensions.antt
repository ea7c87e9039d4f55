-- What a longer address has of a shorter one: new addresses at the end of an old one stand to the others as the old one does.
use Rattle.std.proofs.Common.{◌≡◌, ◌||◌, ℕ, Bool, true, false, cond, [], ◌∷◌, ◌++◌, refl, sym, ap, ◌∙◌, append-nil, append_assoc}
use Rattle.model_strands.specs.Address.{Word, child, next, join, Address, extended, same_word, Difference, equal, prefix, extension, differ, first_difference, same_at}
use Rattle.law_addresses.specs.Address.{is_fork, sibling, same, is_prefix, is_prefix_at, reaches_word, reaches_at, reaches, parallel, before_at, before, PartBy, IsSplit}
use Rattle.law_addresses.specs.Laws.{SidesAreReached}
use Rattle.law_addresses.proofs.Differences.{same_word-comm, first_difference-self, first_difference-append, first_difference-shorter, first_difference-reversed, first_difference-made, IsMade}

-- an address with more words at its end parts from a where it does without them, if a does not begin with it
pub first_difference-extended : (base rest a : Address) → is_prefix base a ≡ false → first_difference (base ++ rest) a ≡ first_difference base a
first_difference-extended [] rest [] h = cc
first_difference-extended [] rest (y ∷ a) h = cc
first_difference-extended (x ∷ base) rest [] h = refl
first_difference-extended (x ∷ base) rest (y ∷ a) h = go (same_word x y) (first_difference-extended base rest a) h
  where
    go : (t : Bool) → (is_prefix base a ≡ false → first_difference (base ++ rest) a ≡ first_difference base a) →
        is_prefix_at (cond t (first_difference base a) (differ x y)) ≡ false →
        cond t (first_difference (base ++ rest) a) (differ x y) ≡ cond t (first_difference base a) (differ x y)
    go true ih k = ih k
    go false ih k = refl

pub before-from_extended : (rank : Word → ℕ) (base rest a : Address) → is_prefix base a ≡ false → before rank (base ++ rest) a ≡ before rank base a
before-from_extended rank base rest a h = ap (before_at rank) (first_difference-extended base rest a h)

pub before-to_extended : (rank : Word → ℕ) (base rest a : Address) → is_prefix base a ≡ false → before rank a (base ++ rest) ≡ before rank a base
before-to_extended rank base rest a h = rw (first_difference-reversed (base ++ rest) a, first_difference-reversed base a, first_difference-extended base rest a h) refl

-- An address before its own extensions, and these among themselves.

pub before-extension : (rank : Word → ℕ) (base : Address) (word : Word) (rest : Address) → before rank base (base ++ (word ∷ rest)) ≡ true
before-extension rank base word rest = rw (first_difference-shorter base word rest) refl

pub before-append : (rank : Word → ℕ) (front a b : Address) → before rank (front ++ a) (front ++ b) ≡ before rank a b
before-append rank front a b = ap (before_at rank) (first_difference-append front a b)

pub reaches-append : (front a b : Address) → reaches (front ++ a) (front ++ b) ≡ reaches a b
reaches-append front a b = ap reaches_at (first_difference-append front a b)

pub parallel-append : (front a b : Address) → parallel (front ++ a) (front ++ b) ≡ parallel a b
parallel-append front a b = rw (reaches-append front a b, reaches-append front b a) refl

pub reaches-nil : (b : Address) → reaches [] b ≡ true
reaches-nil [] = refl
reaches-nil (y ∷ b) = refl

pub reaches-extension : (base rest : Address) → reaches base (base ++ rest) ≡ true
reaches-extension base [] = rw (append-nil base, first_difference-self base) refl
reaches-extension base (word ∷ rest) = rw (first_difference-shorter base word rest) refl

fork-not_reached : (x w : Word) → is_fork w ≡ true → reaches_word x w ≡ false
fork-not_reached x child h = refl
fork-not_reached x next h = refl
fork-not_reached x join h = cc

-- what reaches the child or the continuation of a spawn is that strand itself or reaches the spawner
pub reaches-fork : (word : Word) → is_fork word ≡ true → (a spawner : Address) →
    reaches a (extended spawner word) ≡ (same a (extended spawner word) || reaches a spawner)
reaches-fork word fork [] [] = refl
reaches-fork word fork [] (y ∷ spawner) = refl
reaches-fork word fork (x ∷ a) [] = go (same_word x word) a
  where
    go : (t : Bool) (a : Address) → reaches_at (cond t (first_difference a []) (differ x word)) ≡ (same_at (cond t (first_difference a []) (differ x word)) || false)
    go true [] = refl
    go true (z ∷ a) = refl
    go false a = fork-not_reached x word fork ∙ refl
reaches-fork word fork (x ∷ a) (y ∷ spawner) = go (same_word x y) (reaches-fork word fork a spawner)
  where
    go : (t : Bool) → reaches a (extended spawner word) ≡ (same a (extended spawner word) || reaches a spawner) →
        reaches_at (cond t (first_difference a (extended spawner word)) (differ x y)) ≡
        (same_at (cond t (first_difference a (extended spawner word)) (differ x y)) || reaches_at (cond t (first_difference a spawner) (differ x y)))
    go true ih = ih
    go false ih = refl

reaches-first_join : (x : Word) (a : Address) → is_prefix (join ∷ []) (x ∷ a) ≡ false → reaches (x ∷ a) (join ∷ []) ≡ true
reaches-first_join child a h = refl
reaches-first_join next a h = refl
reaches-first_join join [] h = cc
reaches-first_join join (y ∷ a) h = cc

-- what reaches a join reaches the first spawner of its block or is inside the block
pub reaches-join : (a opener : Address) → is_prefix (extended opener join) a ≡ false → reaches a (extended opener join) ≡ (is_prefix opener a || reaches a opener)
reaches-join [] [] h = refl
reaches-join [] (y ∷ opener) h = refl
reaches-join (x ∷ a) [] h = reaches-first_join x a h
reaches-join (x ∷ a) (y ∷ opener) h = go (same_word y x) (same_word-comm x y) (reaches-join a opener) h
  where
    go : (t : Bool) → same_word x y ≡ t → (is_prefix (extended opener join) a ≡ false → reaches a (extended opener join) ≡ (is_prefix opener a || reaches a opener)) →
        is_prefix_at (cond t (first_difference (extended opener join) a) (differ y x)) ≡ false →
        reaches_at (cond (same_word x y) (first_difference a (extended opener join)) (differ x y)) ≡
        (is_prefix_at (cond t (first_difference opener a) (differ y x)) || reaches_at (cond (same_word x y) (first_difference a opener) (differ x y)))
    go true e ih k = rw e (ih k)
    go false e ih k = rw e refl

-- The sides of a spawn.

is_prefix-nil : (a : Address) → is_prefix [] a ≡ true
is_prefix-nil [] = refl
is_prefix-nil (y ∷ a) = refl

reaches-first_side : (word y : Word) (a : Address) → is_fork word ≡ true → reaches (word ∷ []) (y ∷ a) ≡ true → reaches (sibling word ∷ []) (y ∷ a) ≡ false →
    is_prefix (word ∷ []) (y ∷ a) ≡ true
reaches-first_side child child a fork h k = is_prefix-nil a
reaches-first_side child next a fork h k = cc
reaches-first_side child join a fork h k = cc
reaches-first_side next child a fork h k = cc
reaches-first_side next next a fork h k = is_prefix-nil a
reaches-first_side next join a fork h k = cc
reaches-first_side join y a fork h k = cc

-- what one side of a spawn reaches and the other does not begins with that side
pub reaches-side : (word : Word) → is_fork word ≡ true → (spawner a : Address) → reaches (extended spawner word) a ≡ true →
    reaches (extended spawner (sibling word)) a ≡ false → is_prefix (extended spawner word) a ≡ true
reaches-side word fork [] [] h k = cc
reaches-side word fork [] (y ∷ a) h k = reaches-first_side word y a fork h k
reaches-side word fork (x ∷ spawner) [] h k = cc
reaches-side word fork (x ∷ spawner) (y ∷ a) h k = go (same_word x y) (reaches-side word fork spawner a) h k
  where
    go : (t : Bool) →
        (reaches (extended spawner word) a ≡ true → reaches (extended spawner (sibling word)) a ≡ false → is_prefix (extended spawner word) a ≡ true) →
        reaches_at (cond t (first_difference (extended spawner word) a) (differ x y)) ≡ true →
        reaches_at (cond t (first_difference (extended spawner (sibling word)) a) (differ x y)) ≡ false →
        is_prefix_at (cond t (first_difference (extended spawner word) a) (differ x y)) ≡ true
    go true ih h k = ih h k
    go false ih h k = cc

-- a child reaches one address alone and its continuation another exactly where the addresses part at these sides
pub split-parts : SidesAreReached
split-parts a b = (forward, backward)
  where
    rest_of : (spawner c : Address) (word : Word) → is_prefix (extended spawner word) c ≡ true → (rest : Address) × (c ≡ spawner ++ (word ∷ rest))
    rest_of spawner c word h = go (first_difference (extended spawner word) c) (first_difference-made (extended spawner word) c) h
      where
        go : (d : Difference) → IsMade d (extended spawner word) c → is_prefix_at d ≡ true → (rest : Address) × (c ≡ spawner ++ (word ∷ rest))
        go equal k t = ([], sym k)
        go prefix k t = (k.0 ∷ k.1, k.2 ∙ append_assoc spawner (word ∷ []) (k.0 ∷ k.1))
        go extension k t = cc
        go (differ x y) k t = cc

    forward : IsSplit a b → PartBy (λ word other. (word ≡ child) × (other ≡ next)) a b
    forward (spawner, child_a, child_b, next_b, next_a) =
        let of_a = rest_of spawner a child (reaches-side child refl spawner a child_a next_a) in
        let of_b = rest_of spawner b next (reaches-side next refl spawner b next_b child_b) in
        (spawner, of_a.0, of_b.0, child, next, of_a.1, of_b.1, (refl, refl))

    backward : PartBy (λ word other. (word ≡ child) × (other ≡ next)) a b → IsSplit a b
    backward (front, rest_a, rest_b, word, other, e, f, sides) =
        let at_a : a ≡ front ++ (child ∷ rest_a) = e ∙ ap (λ w. front ++ (w ∷ rest_a)) sides.0 in
        let at_b : b ≡ front ++ (next ∷ rest_b) = f ∙ ap (λ w. front ++ (w ∷ rest_b)) sides.1 in (
          front,
          rw at_a (reaches-append front (child ∷ []) (child ∷ rest_a) ∙ reaches-nil rest_a),
          rw at_b (reaches-append front (child ∷ []) (next ∷ rest_b)),
          rw at_b (reaches-append front (next ∷ []) (next ∷ rest_b) ∙ reaches-nil rest_b),
          rw at_a (reaches-append front (next ∷ []) (child ∷ rest_a)),
        )
