use Rattle.std.proofs.Common.{take, flat_map}
use Rattle.text_buffers.specs.Builders.{Adds}
use Rattle.race_explanations.specs.FoundGroups.{found_member}
use Rattle.race_explanations.proofs.found_told.tell_members.Given as goal

-- those so far are told
abbrev pub invariant-loop-place : goal.invariant-loop-place
invariant-loop-place l = Adds l.initial.text (flat_map (found_member l.findings) (take l.place-index l.places)) l.text
