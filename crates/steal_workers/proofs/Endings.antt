-- Some of those that were to begin.
use Rattle.std.proofs.Common.{◌≡◌, inl, inr, ◌∷◌, ◌++◌, [], List, map, refl, sym, subst, ap}
use Rattle.steal_workers.specs.Ending.{AreSomeOf}

-- one more began
pub some-push : {X : Type 0} (xs ys : List X) (x : X) → AreSomeOf xs ys → AreSomeOf (xs ++ x ∷ []) (ys ++ x ∷ [])
some-push xs [] x same = inr ([], ap (λ zs. zs ++ x ∷ []) same, refl)
some-push xs (y ∷ ys) x (inl less) = inl (some-push xs ys x less)
some-push xs (y ∷ ys) x (inr more) = inr (more.0 ++ x ∷ [], ap (λ zs. zs ++ x ∷ []) more.1, some-push more.0 ys x more.2)

-- one more was to begin, and could not
pub some-less : {X : Type 0} (xs ys : List X) (x : X) → AreSomeOf xs ys → AreSomeOf xs (ys ++ x ∷ [])
some-less xs [] x same = inl same
some-less xs (y ∷ ys) x (inl less) = inl (some-less xs ys x less)
some-less xs (y ∷ ys) x (inr more) = inr (more.0, more.1, some-less more.0 ys x more.2)

-- so it is with what is said of each
pub some-map : {X Y : Type 0} (f : X → Y) (xs ys : List X) → AreSomeOf xs ys → AreSomeOf (map f xs) (map f ys)
some-map f xs [] same = ap (map f) same
some-map f xs (y ∷ ys) (inl less) = inl (some-map f xs ys less)
some-map f xs (y ∷ ys) (inr more) = inr (map f more.0, ap (map f) more.1, some-map f more.0 ys more.2)

-- so it is with what is said alike of others
pub some_map_as : {X Y : Type 0} (f : X → Y) (back xs ys : List X) → map f back ≡ map f xs → AreSomeOf xs ys → AreSomeOf (map f back) (map f ys)
some_map_as f back xs ys same some = subst (λ said. AreSomeOf said (map f ys)) (sym same) (some-map f xs ys some)
