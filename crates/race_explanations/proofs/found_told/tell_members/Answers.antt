use Rattle.std.proofs.Common.{rules, refl, ap}
use Rattle.race_explanations.specs.FoundGroups.{member_words, found_member}
use Rattle.race_explanations.specs.FindingTexts.{finding_with}
use Rattle.text_buffers.proofs.Builders.{these, none_adds, one_more}
use Rattle.race_explanations.proofs.Telling.{told_there, told_past}
use Rattle.race_explanations.proofs.found_told.tell_members.Goals.{in-Some, in_default}
use Rattle.race_explanations.proofs.found_told.tell_members.Goals as goal

pub loop-place-init : goal.loop-place-init
loop-place-init c = none_adds c.args.text.now

pub loop-place-preserved : goal.loop-place-preserved
loop-place-preserved c =
    one_more (found_member c.args.findings.now) c.args.places.now c.loop-place.place-index 0 _ _ _ c.loop-place-test.true c.loop-place.invariant
    (elim c.match-get.branch [
      | in-Some w ↦ rw w.text-is (told_there (member_words) c.args.findings.now _ _ _ _ (search rules) w.in-Some.ensures.lookup.1
          (these _ _ _ _ w.tell_with.ensures (ap (finding_with w.in-Some.finding.now) w.as_slice.ensures.value)))
      | in_default w ↦ rw w.text-is (told_past (member_words) c.args.findings.now _ _ w.in_default.ensures.lookup.3 refl)
    ])
