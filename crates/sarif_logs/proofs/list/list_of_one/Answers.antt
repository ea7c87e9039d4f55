use Rattle.sarif_logs.proofs.Telling.{one_whole}
use Rattle.sarif_logs.proofs.list.list_of_one.Goals as goal

pub returns : goal.returns
returns c = one_whole _ _ _ c.finish.result c.new-list.ensures c.push.ensures c.finish.ensures
