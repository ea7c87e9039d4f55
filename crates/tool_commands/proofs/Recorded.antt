-- What notes of a run say, one after another.
use Rattle.std.proofs.Common.{◌≡◌, ℕ, ◌+◌, ◌<◌, List, [], ◌∷◌, ◌++◌, length, take, map, flat_map, get_or, refl, sym, ap, ◌∙◌, append_assoc, append-nil}
use Rattle.std.proofs.lemmas.Grind.{flat_map-append}
use Rattle.std.proofs.lemmas.List.{take_more}

map-append : {X Y : Type 0} (f : X → Y) (xs ys : List X) → map f (xs ++ ys) ≡ map f xs ++ map f ys
map-append f [] ys = refl
map-append f (x ∷ xs) ys = ap (λ rest. f x ∷ rest) (map-append f xs ys)

-- one more of the items that are told one by one
pub one_told : {X : Type 0} (name : X → List ℕ) (line : List ℕ → List ℕ) (items : List X) (index : ℕ) (d : X) (old now new : List ℕ) →
    index < length items → now ≡ old ++ flat_map line (map name (take index items)) → new ≡ now ++ line (name (get_or items index d)) →
    new ≡ old ++ flat_map line (map name (take (index + 1) items))
one_told name line items index d old now new below before is =
    let item = get_or items index d in
    let front = map name (take index items) in
    let one : flat_map line (name item ∷ []) ≡ line (name item) = append-nil (line (name item)) in
    let more : map name (take (index + 1) items) ≡ front ++ name item ∷ [] =
    ap (map name) (take_more items index d below) ∙ map-append name (take index items) (item ∷ []) in
    is ∙ ap (λ text. text ++ line (name item)) before ∙ append_assoc old (flat_map line front) (line (name item)) ∙
    ap (λ text. old ++ (flat_map line front ++ text)) (sym one) ∙
    ap (λ text. old ++ text) (sym (flat_map-append line front (name item ∷ [])) ∙ ap (flat_map line) (sym more))
