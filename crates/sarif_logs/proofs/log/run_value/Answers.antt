use Rattle.sarif_logs.proofs.Objects.{begins, puts, told_as, finishes}
use Rattle.sarif_logs.proofs.Telling.{one_listed}
use Rattle.sarif_logs.proofs.log.run_value.Goals as goal

pub returns : goal.returns
returns c =
    let invoked = puts _ _ _ (begins _ _ c.new.ensures) (told_as _ _ (one_listed _ _ _ c.invocation_value.ensures c.list_of_one.ensures))
    c.with_made.ensures in
    let properties = puts _ _ _ invoked (told_as _ _ c.properties_value.ensures) c.with_made-2.ensures in
    let results = puts _ _ _ properties (told_as _ _ c.results_value.ensures) c.with_made-3.ensures in
    finishes _ _ c.finish.result (puts _ _ _ results (told_as _ _ c.tool_value.ensures) c.with_made-4.ensures) c.finish.ensures
