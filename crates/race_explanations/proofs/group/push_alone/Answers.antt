use Rattle.std.proofs.Common.{rules, refl}
use Rattle.race_explanations.specs.Scenes.{setting_of}
use Rattle.race_explanations.specs.Groups.{alone_of, alone_at}
use Rattle.text_buffers.proofs.Builders.{none_adds, one_more}
use Rattle.race_explanations.proofs.Telling.{told_there, told_past}
use Rattle.race_explanations.proofs.group.push_alone.Goals.{in-Some, in_default}
use Rattle.race_explanations.proofs.group.push_alone.Goals as goal

pub loop-place-init : goal.loop-place-init
loop-place-init c = none_adds c.args.text.now

pub loop-place-preserved : goal.loop-place-preserved
loop-place-preserved c =
    one_more (alone_at (setting_of c.args.scene.now) c.args.cases.now c.args.is_sure) c.args.places.now c.loop-place.place-index 0 _ _ _ c.loop-place-test.true c.loop-place.invariant
    (elim c.match-get.branch [
      | in-Some w ↦ rw w.text-is (told_there (alone_of (setting_of c.args.scene.now) c.args.is_sure) c.args.cases.now _ _ _ _ (search rules) w.in-Some.ensures.lookup.1 w.push_case.ensures)
      | in_default w ↦ rw w.text-is (told_past (alone_of (setting_of c.args.scene.now) c.args.is_sure) c.args.cases.now _ _ w.in_default.ensures.lookup.3 refl)
    ])
