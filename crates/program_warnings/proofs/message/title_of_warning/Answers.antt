use Rattle.text_buffers.proofs.Builders.{built}
use Rattle.program_warnings.proofs.message.title_of_warning.Goals as goal

pub returns : goal.returns
returns c = built _ _ _ _ c.new-told.ensures c.push_title.ensures c.end.ensures
