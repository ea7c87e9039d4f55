use Rattle.std.proofs.Common.{◌≡◌, ◌++◌, ℕ, suc, map, drop}
use Rattle.std.specs.Global.{Vec}
use Rattle.serde_json.specs.View.{view}
use Rattle.race_records.specs.RaceViews.{race_parts}
use Rattle.race_records.specs.Several.{found_groups}
use Rattle.race_records.proofs.several.group_values.Given as goal

-- what is told so far, and of the groups that are left, is the whole
abbrev pub invariant-loop-before : goal.invariant-loop-before
invariant-loop-before l =
    map view l.values.items ++ found_groups l.findings (map race_parts l.races) (suc l.before) (map (λ (group : Vec ℕ). group.items) (drop l.before l.groups)) ≡
    found_groups l.findings (map race_parts l.races) 1 (map (λ (group : Vec ℕ). group.items) l.groups)
