use Rattle.std.proofs.Common.{rules, arith, ap, ◌≡◌, take}
use Rattle.std.proofs.lemmas.Grind.{common_steps}
use Rattle.race_explanations.specs.Scenes.{setting_of}
use Rattle.race_explanations.specs.Paths.{links_text}
use Rattle.text_buffers.proofs.Builders.{these, two_adds}
use Rattle.race_explanations.proofs.paths.push_chain.Goals as goal

pub returns : goal.returns
returns c =
    let front : c.split_at.result.0.now ≡ take 8 c.args.chain.now = first_of (search rules, grind (arith, common_steps)) in
    two_adds _ _ _ _ _ (these _ _ _ _ c.push_links.ensures (ap (links_text (setting_of c.args.scene.now)) front)) c.push_links_left_out.ensures
