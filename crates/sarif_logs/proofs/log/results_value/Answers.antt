use Rattle.sarif_logs.specs.declared.log.Finding.TheVariants.{Warning, Race, Fault}
use Rattle.sarif_logs.specs.Logs.{with_findings}
use Rattle.sarif_logs.proofs.Telling.{two_turns, turns_by, listed}
use Rattle.sarif_logs.proofs.log.results_value.Goals as goal

pub returns : goal.returns
returns c =
    let warnings = turns_by (with_findings Warning) _ _ _ _ c.items_at-warnings.ensures c.push_findings.ensures in
    let races = turns_by (with_findings Race) _ _ _ _ c.items_at-races.ensures c.push_findings-2.ensures in
    let faults = turns_by (with_findings Fault) _ _ _ _ c.items_at-faults.ensures c.push_findings-3.ensures in
    listed _ _ _ c.finish.result c.new-results.ensures
    (two_turns _ _ _ _ _ (two_turns _ _ _ _ _ (two_turns _ _ _ _ _ warnings races) faults) c.push_illegal.ensures) c.finish.ensures
