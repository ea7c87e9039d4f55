use Rattle.std.proofs.Common.{◌≡◌, take, map}
use Rattle.serde_json.specs.View.{view}
use Rattle.race_explanations.specs.Scenes.{setting_of}
use Rattle.race_records.specs.Accesses.{link_told}
use Rattle.race_records.proofs.access.within_value.Given as goal

-- the values of the spawns and calls so far
abbrev pub invariant-loop-link : goal.invariant-loop-link
invariant-loop-link l = map view l.values.items ≡ map (link_told (setting_of l.scene)) (take l.link-index l.told)
