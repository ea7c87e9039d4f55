use Rattle.std.proofs.Common.{ℕ, take, flat_map}
use Rattle.std.specs.Global.{Vec}
use Rattle.text_buffers.specs.Builders.{Adds}
use Rattle.race_explanations.specs.FoundGroups.{found_group}
use Rattle.race_explanations.proofs.found_told.tell_each.Given as goal

-- those so far are told
abbrev pub invariant-loop-group : goal.invariant-loop-group
invariant-loop-group l =
    Adds l.initial.text (flat_map (λ (group : Vec ℕ). found_group l.most l.findings group.items) (take l.group-index l.groups)) l.text
