use Rattle.std.proofs.Common.{rules, refl}
use Rattle.race_explanations.specs.Scenes.{setting_of}
use Rattle.race_explanations.specs.Groups.{member_of, member_at}
use Rattle.text_buffers.proofs.Builders.{none_adds, one_more}
use Rattle.race_explanations.proofs.Telling.{told_there, told_past}
use Rattle.race_explanations.proofs.group.push_members.Goals.{in-Some, in_default}
use Rattle.race_explanations.proofs.group.push_members.Goals as goal

pub loop-place-init : goal.loop-place-init
loop-place-init c = none_adds c.args.text.now

pub loop-place-preserved : goal.loop-place-preserved
loop-place-preserved c =
    one_more (member_at (setting_of c.args.scene.now) c.args.cases.now) c.args.places.now c.loop-place.place-index 0 _ _ _ c.loop-place-test.true c.loop-place.invariant
    (elim c.match-get.branch [
      | in-Some w ↦ rw w.text-is (told_there (member_of (setting_of c.args.scene.now)) c.args.cases.now _ _ _ _ (search rules) w.in-Some.ensures.lookup.1 w.push_member.ensures)
      | in_default w ↦ rw w.text-is (told_past (member_of (setting_of c.args.scene.now)) c.args.cases.now _ _ w.in_default.ensures.lookup.3 refl)
    ])
