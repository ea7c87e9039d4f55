use Rattle.std.proofs.Common.{take}
use Rattle.text_buffers.specs.Builders.{Adds}
use Rattle.race_explanations.specs.Scenes.{setting_of}
use Rattle.race_explanations.specs.Groups.{members_text}
use Rattle.race_explanations.proofs.group.push_members.Given as goal

-- those so far are told
abbrev pub invariant-loop-place : goal.invariant-loop-place
invariant-loop-place l = Adds l.initial.text (members_text (setting_of l.scene) l.cases (take l.place-index l.places)) l.text
