-- A list that is made item by item: Some of its items so far, and None once there was no memory for one.
use Rattle.std.specs.Prelude.{ℕ, ◌≡◌, ◌+◌, Bool, true, false, List, [], ◌∷◌, ◌++◌, length, map, Option, Some, None, IfSome}
use Rattle.std.specs.Option.{option_map}
use Rattle.serde_json.specs.Data.{Data}
use Rattle.serde_json.specs.View.{view}
use Rattle.sarif_logs.specs.declared.list.ValueList.{ValueList}

abbrev pub items_so_far : Bool → List Data → Option (List Data)
items_so_far true items = None
items_so_far false items = Some items

abbrev pub items_made : ValueList → Option (List Data)
items_made list = items_so_far list.is_short (map view list.items.items)

-- the number, from 1 on, of the item that comes next
pub record IsNext (list : Option (List Data)) (number : ℕ) : Type 0 where
  pub is_next : IfSome list (λ items. number ≡ length items + 1)

abbrev pub with_item : Option Data → Option (List Data) → Option (List Data)
with_item (Some told) (Some items) = Some (items ++ told ∷ [])
with_item told items = None

-- this item comes behind those before, where there was memory for it
pub record Gets (old : Option (List Data)) (told : Option Data) (new : Option (List Data)) : Type 0 where
  pub gets : IfSome new (λ items. with_item told old ≡ Some items)

-- what was made so far is changed so, where there was memory for it
pub record Turns {X : Type 0} (old : Option X) (change : X → X) (new : Option X) : Type 0 where
  pub turns : IfSome new (λ made. option_map change old ≡ Some made)
