-- The place of the first access that has one.
use Rattle.std.proofs.Common.{◌≡◌, List, ◌∷◌, Option, Some, None, ap}
use Rattle.std.specs.Option.{option_or}
use Rattle.trace_notes.specs.Places.{PlaceParts}
use Rattle.dag_drawing.specs.declared.drawing.Access.{Access}
use Rattle.dag_drawing.specs.Labels.{Naming, place_of, first_place}

pub place_here : (naming : Naming) (access : Access) (rest : List Access) (place : PlaceParts) → Some place ≡ place_of naming access →
    Some place ≡ first_place naming (access ∷ rest)
place_here naming access rest place is = ap (λ (o : Option PlaceParts). option_or o (first_place naming rest)) is

pub place_later : (naming : Naming) (access : Access) (rest : List Access) → None ≡ place_of naming access →
    first_place naming rest ≡ first_place naming (access ∷ rest)
place_later naming access rest is = ap (λ (o : Option PlaceParts). option_or o (first_place naming rest)) is
