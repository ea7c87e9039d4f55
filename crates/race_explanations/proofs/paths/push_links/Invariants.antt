use Rattle.std.proofs.Common.{take}
use Rattle.text_buffers.specs.Builders.{Adds}
use Rattle.race_explanations.specs.Scenes.{setting_of}
use Rattle.race_explanations.specs.Paths.{links_text}
use Rattle.race_explanations.proofs.paths.push_links.Given as goal

-- the spawns and calls so far are told
abbrev pub invariant-loop-link : goal.invariant-loop-link
invariant-loop-link l = Adds l.initial.text (links_text (setting_of l.scene) (take l.link-index l.chain)) l.text
