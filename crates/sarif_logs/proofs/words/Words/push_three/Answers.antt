use Rattle.text_buffers.proofs.Builders.{three_adds}
use Rattle.sarif_logs.proofs.words.Words.push_three.Goals as goal

pub returns : goal.returns
returns c = three_adds _ _ _ _ _ _ _ c.push.ensures c.push-2.ensures c.push-3.ensures
