-- The first difference of two addresses: that it determines how they are made, and the other way round.
-- a, b: addresses; x, y: words; d: a difference; t: a Boolean
use Rattle.std.proofs.Common.{◌≡◌, ◌≢◌, Bool, true, false, cond, [], ◌∷◌, ◌++◌, refl, ◌∙◌}
use Rattle.model_strands.specs.Address.{Word, child, next, join, Address, same_word, Difference, equal, prefix, extension, differ, first_difference}
use Rattle.law_addresses.specs.Address.{reversed}

pub same_word-self : (x : Word) → same_word x x ≡ true
same_word-self child = refl
same_word-self next = refl
same_word-self join = refl

pub same_word-true : (x y : Word) → same_word x y ≡ true → x ≡ y
same_word-true child child h = refl
same_word-true next next h = refl
same_word-true join join h = refl
same_word-true child next h = cc
same_word-true child join h = cc
same_word-true next child h = cc
same_word-true next join h = cc
same_word-true join child h = cc
same_word-true join next h = cc

pub same_word-distinct : (x y : Word) → same_word x y ≡ false → x ≢ y
same_word-distinct x y h e = let as_self : same_word x y ≡ true = rw e (same_word-self y) in cc

pub same_word-comm : (x y : Word) → same_word x y ≡ same_word y x
same_word-comm child child = refl
same_word-comm child next = refl
same_word-comm child join = refl
same_word-comm next child = refl
same_word-comm next next = refl
same_word-comm next join = refl
same_word-comm join child = refl
same_word-comm join next = refl
same_word-comm join join = refl

pub first_difference-self : (a : Address) → first_difference a a ≡ equal
first_difference-self [] = refl
first_difference-self (x ∷ a) = rw (same_word-self x) (first_difference-self a)

-- a common front changes nothing
pub first_difference-append : (front a b : Address) → first_difference (front ++ a) (front ++ b) ≡ first_difference a b
first_difference-append [] a b = refl
first_difference-append (x ∷ front) a b = rw (same_word-self x) (first_difference-append front a b)

reversed-cond : (t : Bool) (d : Difference) (x y : Word) → cond t (reversed d) (differ y x) ≡ reversed (cond t d (differ x y))
reversed-cond true d x y = refl
reversed-cond false d x y = refl

pub first_difference-reversed : (a b : Address) → first_difference b a ≡ reversed (first_difference a b)
first_difference-reversed [] [] = refl
first_difference-reversed [] (y ∷ b) = refl
first_difference-reversed (x ∷ a) [] = refl
first_difference-reversed (x ∷ a) (y ∷ b) =
    rw (same_word-comm y x, first_difference-reversed a b) (reversed-cond (same_word x y) (first_difference a b) x y)

-- how two addresses with that difference are made
abbrev pub IsMade : Difference → Address → Address → Type 0
IsMade equal a b = a ≡ b
IsMade prefix a b = (word : Word) × (rest : Address) × (b ≡ a ++ (word ∷ rest))
IsMade extension a b = (word : Word) × (rest : Address) × (a ≡ b ++ (word ∷ rest))
IsMade (differ word other) a b =
    (front rest_a rest_b : Address) × (a ≡ front ++ (word ∷ rest_a)) × (b ≡ front ++ (other ∷ rest_b)) × (same_word word other ≡ false)

made-under : (d : Difference) (x y : Word) → x ≡ y → (a b : Address) → IsMade d a b → IsMade d (x ∷ a) (y ∷ b)
made-under equal x y e a b h = cc
made-under prefix x y e a b h = (h.0, h.1, cc)
made-under extension x y e a b h = (h.0, h.1, cc)
made-under (differ w z) x y e a b h = (x ∷ h.0, h.1, h.2, cc, cc, h.5)

made-step : (x y : Word) (a b : Address) → IsMade (first_difference a b) a b → (t : Bool) → same_word x y ≡ t →
    IsMade (cond t (first_difference a b) (differ x y)) (x ∷ a) (y ∷ b)
made-step x y a b h true e = made-under (first_difference a b) x y (same_word-true x y e) a b h
made-step x y a b h false e = ([], a, b, refl, refl, e)

pub first_difference-made : (a b : Address) → IsMade (first_difference a b) a b
first_difference-made [] [] = refl
first_difference-made [] (y ∷ b) = (y, b, refl)
first_difference-made (x ∷ a) [] = (x, a, refl)
first_difference-made (x ∷ a) (y ∷ b) = made-step x y a b (first_difference-made a b) (same_word x y) refl

pub first_difference-shorter : (a : Address) (word : Word) (rest : Address) → first_difference a (a ++ (word ∷ rest)) ≡ prefix
first_difference-shorter [] word rest = refl
first_difference-shorter (x ∷ a) word rest = rw (same_word-self x) (first_difference-shorter a word rest)

pub first_difference-longer : (b : Address) (word : Word) (rest : Address) → first_difference (b ++ (word ∷ rest)) b ≡ extension
first_difference-longer [] word rest = refl
first_difference-longer (y ∷ b) word rest = rw (same_word-self y) (first_difference-longer b word rest)

-- addresses that are made so have that difference
pub first_difference-from_made : (d : Difference) (a b : Address) → IsMade d a b → first_difference a b ≡ d
first_difference-from_made equal a b h = rw (← h) (first_difference-self a)
first_difference-from_made prefix a b h = rw h.2 (first_difference-shorter a h.0 h.1)
first_difference-from_made extension a b h = rw h.2 (first_difference-longer b h.0 h.1)
first_difference-from_made (differ x y) a b h =
    rw (h.3, h.4) (first_difference-append h.0 (x ∷ h.1) (y ∷ h.2) ∙ rw h.5 refl)
