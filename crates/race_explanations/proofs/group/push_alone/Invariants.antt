use Rattle.std.proofs.Common.{take}
use Rattle.text_buffers.specs.Builders.{Adds}
use Rattle.race_explanations.specs.Scenes.{setting_of}
use Rattle.race_explanations.specs.Groups.{alone_text}
use Rattle.race_explanations.proofs.group.push_alone.Given as goal

-- those so far are told
abbrev pub invariant-loop-place : goal.invariant-loop-place
invariant-loop-place l = Adds l.initial.text (alone_text (setting_of l.scene) l.cases l.is_sure (take l.place-index l.places)) l.text
