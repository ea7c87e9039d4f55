use Rattle.std.proofs.Common.{◌++◌, codes}
use Rattle.race_explanations.specs.Scenes.{setting_of}
use Rattle.race_explanations.specs.Titles.{spaced_name}
use Rattle.text_buffers.proofs.Builders.{none_adds, one_more, two_adds}
use Rattle.race_explanations.proofs.title.push_others.Goals as goal

pub loop-place-init : goal.loop-place-init
loop-place-init c = none_adds c.args.text.now

pub loop-place-preserved : goal.loop-place-preserved
loop-place-preserved c =
    one_more (λ location. codes "," ++ spaced_name (setting_of c.args.scene.now) c.args.reason location) c.args.places.now
    c.loop-place.place-index _ _ _ _ c.loop-place-test.true c.loop-place.invariant
    (two_adds _ _ _ _ _ c.push_words.ensures c.push_name.ensures)
