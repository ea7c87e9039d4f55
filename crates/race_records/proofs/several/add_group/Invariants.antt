use Rattle.std.proofs.Common.{◌≡◌, ◌++◌, map, take}
use Rattle.serde_json.specs.View.{view}
use Rattle.race_records.specs.RaceViews.{race_parts}
use Rattle.race_records.specs.Several.{found_places}
use Rattle.race_records.proofs.several.add_group.Given as goal

-- those so far are told
abbrev pub invariant-loop-place : goal.invariant-loop-place
invariant-loop-place l =
    map view l.values.items ≡ map view l.initial.values.items ++
    found_places l.findings (map race_parts l.races) l.group l.is_sure (take l.place-index l.places)
