use Rattle.std.proofs.Common.{rules, ap, ◌∙◌}
use Rattle.race_explanations.specs.Advice.{order_words}
use Rattle.text_buffers.proofs.Builders.{these, two_adds}
use Rattle.race_explanations.proofs.advice.push_missing.Goals as goal

pub returns : goal.returns
returns c =
    two_adds _ _ _ _ _ c.push_sync_place.ensures (these _ _ _ _ c.push_words.ensures (c.order_words.ensures ∙ ap order_words (search rules)))
