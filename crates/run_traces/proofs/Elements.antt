-- What holds of each element of a list, in places.
use Rattle.std.proofs.Common.{◌≡◌, ℕ, zero, suc, ◌∷◌, ◌++◌, [], List, Some, subst}
use Rattle.std.specs.Prelude.{slice_get, slice_set}
use Rattle.std.specs.List.{AllByRecursion}

pub get_all : {X : Type 0} (P : X → Type 0) (xs : List X) (place : ℕ) (x : X) → AllByRecursion P xs → slice_get xs place ≡ Some x → P x
get_all P [] place x h e = cc
get_all P (y ∷ xs) zero x h e = let same : y ≡ x = cc in subst P same h.0
get_all P (y ∷ xs) (suc place) x h e = get_all P xs place x h.1 e

pub set_all : {X : Type 0} (P : X → Type 0) (xs : List X) (place : ℕ) (x : X) → AllByRecursion P xs → P x → AllByRecursion P (slice_set xs place x)
set_all P [] place x h k = tt
set_all P (y ∷ xs) zero x h k = (k, h.1)
set_all P (y ∷ xs) (suc place) x h k = (h.0, set_all P xs place x h.1 k)

pub append_all : {X : Type 0} (P : X → Type 0) (xs ys : List X) → AllByRecursion P xs → AllByRecursion P ys → AllByRecursion P (xs ++ ys)
append_all P [] ys h k = k
append_all P (x ∷ xs) ys h k = (h.0, append_all P xs ys h.1 k)
