use Rattle.text_buffers.proofs.Builders.{three_adds}
use Rattle.race_explanations.proofs.advice.push_sync_place.Goals as goal

pub returns : goal.returns
returns c = three_adds _ _ _ _ _ _ _ c.push_words.ensures c.push_function.ensures c.push_where_before.ensures
