use Rattle.text_buffers.proofs.Builders.{three_adds}
use Rattle.race_explanations.proofs.advice.push_sync.Goals as goal

pub returns : goal.returns
returns c = three_adds _ _ _ _ _ _ _ c.begin_help.ensures c.push_missing.ensures c.push_words.ensures
