-- A list of values that is told as it is.
use Rattle.std.proofs.Common.{◌≡◌, List, ap, sym}
use Rattle.std.proofs.lemmas.List.{map-id}
use Rattle.serde_json.specs.Data.{Data, array}
use Rattle.serde_json.specs.View.{items_of}
use Rattle.race_records.specs.Values.{list_told}

pub told_as_is : (items : List Data) → array (items_of items) ≡ list_told (λ item. item) items
told_as_is items = ap (λ list. array (items_of list)) (sym (map-id items))
