use Rattle.race_explanations.specs.Scenes.{setting_of}
use Rattle.race_explanations.specs.Paths.{link_text}
use Rattle.text_buffers.proofs.Builders.{none_adds, one_more}
use Rattle.race_explanations.proofs.paths.push_links.Goals as goal

pub loop-link-init : goal.loop-link-init
loop-link-init c = none_adds c.args.text.now

pub loop-link-preserved : goal.loop-link-preserved
loop-link-preserved c =
    one_more (link_text (setting_of c.args.scene.now)) c.args.chain.now c.loop-link.link-index _ _ _ _
    c.loop-link-test.true c.loop-link.invariant c.push_link.ensures
