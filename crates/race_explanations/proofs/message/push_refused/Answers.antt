use Rattle.std.proofs.Common.{ap}
use Rattle.race_explanations.specs.Scenes.{setting_of}
use Rattle.race_explanations.specs.Paths.{chain_text}
use Rattle.text_buffers.proofs.Builders.{these, three_adds}
use Rattle.race_explanations.proofs.message.push_refused.Goals as goal

pub returns : goal.returns
returns c =
    three_adds _ _ _ _ _ _ _ c.push_access.ensures (these _ _ _ _ c.push_words.ensures c.verdict_words.ensures)
    (these _ _ _ _ c.push_chain.ensures (ap (chain_text (setting_of c.args.scene.now)) c.as_slice.ensures.value))
