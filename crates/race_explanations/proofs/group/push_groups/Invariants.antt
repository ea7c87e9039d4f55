use Rattle.std.proofs.Common.{take}
use Rattle.text_buffers.specs.Builders.{Adds}
use Rattle.race_explanations.specs.Scenes.{setting_of}
use Rattle.race_explanations.specs.Groups.{groups_text}
use Rattle.race_explanations.proofs.group.push_groups.Given as goal

-- those so far are told
abbrev pub invariant-loop-group : goal.invariant-loop-group
invariant-loop-group l = Adds l.initial.text (groups_text (setting_of l.scene) l.most l.cases (take l.group-index l.groups)) l.text
