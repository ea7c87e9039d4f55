use Rattle.sarif_logs.proofs.Telling.{one_listed, none_listed}
use Rattle.sarif_logs.proofs.place.functions_value.Goals as goal

pub returns-in-Some : goal.returns-in-Some
returns-in-Some c = rw c.in-Some.is (one_listed _ _ _ c.function_value.ensures c.list_of_one.ensures)

pub returns-in-None : goal.returns-in-None
returns-in-None c = rw c.in-None.is (none_listed _ c.finish.result c.new.ensures c.finish.ensures)
