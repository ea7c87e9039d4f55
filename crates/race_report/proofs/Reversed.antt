-- Lists in the other order, and the items from a place on.
use Rattle.std.proofs.Common.{◌≡◌, ◌<◌, ◌+◌, ◌-◌, ℕ, zero, suc, List, [], ◌∷◌, Some, length, drop, drop-cons, add-one, get_or, reverse, refl, sym, ap, subst, ◌∙◌, arith}
use Rattle.std.specs.List.{All, slice_get}
use Rattle.std.proofs.lemmas.Option.{slice_get_within, get_or_from_slice_get}
use Rattle.std.proofs.lemmas.List.{length-reverse, get_or-reverse}

-- what is true of each in the other order is true of each
pub all_reversed : {X : Type 0} (P : X → Type 0) (xs : List X) → All P (reverse xs) → All P xs
all_reversed P xs all k d below =
    let other : length xs - 1 - k < length (reverse xs) = omega (arith, length-reverse xs) in
    let within : length xs - 1 - k < length xs = omega arith in
    let back : length xs - 1 - (length xs - 1 - k) ≡ k = omega arith in
    let is : get_or (reverse xs) (length xs - 1 - k) d ≡ get_or xs k d = get_or-reverse xs (length xs - 1 - k) d within ∙ ap (λ (n : ℕ). get_or xs n d) back in
    subst P is (all (length xs - 1 - k) d other)

pub all_reverses : {X : Type 0} (P : X → Type 0) (xs : List X) → All P xs → All P (reverse xs)
all_reverses P xs all k d below =
    let within : k < length xs = omega (arith, length-reverse xs) in
    let other : length xs - 1 - k < length xs = omega arith in
    subst P (sym (get_or-reverse xs k d within)) (all (length xs - 1 - k) d other)

item_at : {X : Type 0} (xs : List X) (at : ℕ) → at < length xs → (x : X) × (slice_get xs at ≡ Some x)
item_at [] at low = absurd (omega (arith, low))
item_at (x ∷ xs) zero low = (x, refl)
item_at (x ∷ xs) (suc at) low = item_at xs at (omega (arith, low))

-- there is an item at each place, before those behind it
pub item_there : {X : Type 0} (xs : List X) (at : ℕ) → at < length xs → (x : X) × (slice_get xs at ≡ Some x) × (drop at xs ≡ x ∷ drop (at + 1) xs)
item_there {X} xs at low =
    let there = item_at xs at low in
    let x : X = there.0 in
    let next : drop at xs ≡ x ∷ drop (at + 1) xs =
    rw (add-one)
    (drop-cons xs at x (slice_get_within xs at x there.1) ∙ ap (λ (one : X). one ∷ drop (suc at) xs) (get_or_from_slice_get xs at x x there.1)) in
    (x, there.1, next)
