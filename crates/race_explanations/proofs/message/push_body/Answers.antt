use Rattle.text_buffers.proofs.Builders.{three_adds}
use Rattle.race_explanations.proofs.message.push_body.Goals as goal

pub returns : goal.returns
returns c = three_adds _ _ _ _ _ _ _ c.push_earlier.ensures c.push_refused.ensures c.push_where.ensures
