use Rattle.text_buffers.proofs.Builders.{two_adds, five_adds}
use Rattle.sarif_logs.proofs.message.push_between.Goals as goal

pub returns : goal.returns
returns c =
    two_adds _ _ _ _ _
    (five_adds _ _ _ _ _ _ _ _ _ _ _ c.push.ensures c.push_three.ensures c.push_function.ensures c.push-2.ensures c.push_place.ensures)
    c.push-3.ensures
