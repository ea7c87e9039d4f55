use Rattle.text_buffers.proofs.Builders.{built}
use Rattle.race_explanations.proofs.findings.Findings.to_message.Goals as goal

pub returns : goal.returns
returns c = built _ _ _ _ c.new-text.ensures c.tell.ensures c.end.ensures
