-- Groups of findings by their places.
use Rattle.std.proofs.Common.{◌≡◌, ℕ, List, [], ◌∷◌, ◌++◌, map, flat_map, refl, ap}
use Rattle.std.specs.Global.{Vec}

-- the places of a group
abbrev pub items_of : Vec ℕ → List ℕ
items_of group = group.items

-- what is told of each group by its places
pub each_of_map : (tells : List ℕ → List ℕ) (groups : List (Vec ℕ)) → flat_map (λ group. tells group.items) groups ≡ flat_map tells (map items_of groups)
each_of_map tells [] = refl
each_of_map tells (group ∷ groups) = ap (λ rest. tells group.items ++ rest) (each_of_map tells groups)
