-- Names as values.
use Rattle.std.proofs.Common.{◌≡◌, ℕ, List, [], ◌∷◌, map, refl, ap, ◌∙◌, Bor}
use Rattle.std.specs.Global.{Vec}
use Rattle.std.specs.Map.Iter.{deref}
use Rattle.serde_json.specs.Data.{Data, array}
use Rattle.serde_json.specs.View.{items_of}
use Rattle.race_records.specs.Values.{list_told}
use Rattle.race_records.specs.Races.{name_told}

through : (names : List (Bor (Vec ℕ))) → map (λ name. name_told name.now.items) names ≡ map name_told (map (λ (name : Vec ℕ). name.items) (map deref names))
through [] = refl
through (name ∷ names) = ap (λ (rest : List Data). name_told name.now.items ∷ rest) (through names)

pub names_listed : (values : List Data) (names : List (Bor (Vec ℕ))) (keys : List (Vec ℕ)) → map deref names ≡ keys →
    values ≡ map (λ name. name_told name.now.items) names → array (items_of values) ≡ list_told name_told (map (λ (name : Vec ℕ). name.items) keys)
names_listed values names keys all are =
    ap (λ (items : List Data). array (items_of items))
    (are ∙ through names ∙ ap (λ (some : List (Vec ℕ)). map name_told (map (λ (name : Vec ℕ). name.items) some)) all)
