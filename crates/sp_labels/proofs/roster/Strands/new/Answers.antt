use Rattle.std.proofs.Common.{[], false, ◌∙◌}
use Rattle.sp_labels.specs.Packing.{all_unpacked}
use Rattle.sp_labels.proofs.Causes.{no-room}
use Rattle.sp_labels.proofs.Packed.{first-unpacked}
use Rattle.sp_labels.proofs.Opening.{opening-at}
use Rattle.sp_labels.proofs.roster.Strands.new.Goals as goal

pub returns-clause-opening : goal.returns-clause-opening
returns-clause-opening g c =
    opening-at c.new-3.result.slots false (all_unpacked c.in_ok-from_slice.field-0.items) _ _
    (first-unpacked _ _ _ c.in_ok-from_slice.ensures.items (c.of-root.ensures ∙ c.running.ensures)) c.in_ok-new.ensures.items c.in_ok-new-2.ensures.items

pub invariant_of-result : goal.invariant_of-result
invariant_of-result g c = (([], returns-clause-opening g c), no-room)
