use Rattle.text_buffers.proofs.Builders.{these, three_adds}
use Rattle.race_explanations.proofs.advice.push_rounds.Goals as goal

pub returns : goal.returns
returns c =
    three_adds _ _ _ _ _ _ _ c.begin_help.ensures (these _ _ _ _ c.push_words.ensures c.rounds_words.ensures) c.push_words-2.ensures
