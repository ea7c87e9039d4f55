use Rattle.sarif_logs.proofs.Relating.{related_more}
use Rattle.sarif_logs.proofs.related.push_related.Goals as goal

pub returns : goal.returns
returns c = related_more _ _ _ _ _ _ c.next_number.ensures c.related_value-value.ensures c.push.ensures
