use Rattle.std.proofs.Common.{take}
use Rattle.text_buffers.specs.Builders.{Adds}
use Rattle.race_explanations.specs.Scenes.{setting_of}
use Rattle.race_explanations.specs.Titles.{other_names}
use Rattle.race_explanations.proofs.title.push_others.Given as goal

-- the names so far are told
abbrev pub invariant-loop-place : goal.invariant-loop-place
invariant-loop-place l =
    Adds l.initial.text (other_names (setting_of l.scene) l.reason (take l.place-index l.places)) l.text
