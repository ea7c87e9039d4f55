use Rattle.std.proofs.Common.{◌≡◌, ◌++◌, map, take}
use Rattle.serde_json.specs.View.{view}
use Rattle.race_explanations.specs.Scenes.{setting_of}
use Rattle.race_records.specs.Races.{places_told}
use Rattle.race_records.proofs.document.add_group.Given as goal

-- those so far are told
abbrev pub invariant-loop-place : goal.invariant-loop-place
invariant-loop-place l =
    map view l.values.items ≡ map view l.initial.values.items ++ places_told (setting_of l.scene) l.cases l.number l.is_sure (take l.place-index l.places)
