use Rattle.std.proofs.Common.{◌≡◌, ◌++◌, suc, map, drop}
use Rattle.serde_json.specs.View.{view}
use Rattle.race_explanations.specs.Scenes.{setting_of}
use Rattle.race_records.specs.Races.{groups_told}
use Rattle.race_records.proofs.document.group_values.Given as goal

-- what is told so far, and of the groups that are left, is the whole
abbrev pub invariant-loop-before : goal.invariant-loop-before
invariant-loop-before l =
    map view l.values.items ++ groups_told (setting_of l.scene) l.cases (suc l.before) (drop l.before l.groups) ≡
    groups_told (setting_of l.scene) l.cases 1 l.groups
