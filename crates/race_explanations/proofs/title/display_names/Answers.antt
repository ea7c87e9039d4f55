use Rattle.race_explanations.specs.Scenes.{setting_of}
use Rattle.race_explanations.specs.Titles.{spaced_name}
use Rattle.race_explanations.proofs.Named.{told_more}
use Rattle.race_explanations.proofs.title.display_names.Goals as goal

pub loop-place-preserved : goal.loop-place-preserved
loop-place-preserved c =
    told_more (spaced_name (setting_of c.args.scene.now) c.args.reason) c.args.places.now c.loop-place.place-index _ _ _ c.in_ok-display_name.field-0
    c.loop-place-test.true c.loop-place.invariant c.in_ok-display_name.ensures c.in_ok-insert.ensures.keys
