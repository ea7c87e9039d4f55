use Rattle.std.proofs.Common.{take, map}
use Rattle.serde_json.specs.View.{view}
use Rattle.sarif_logs.specs.Lists.{items_made, Turns}
use Rattle.sarif_logs.specs.Logs.{with_findings}
use Rattle.sarif_logs.proofs.log.push_findings.Given as goal

-- behind what was there, the results of the findings so far
abbrev pub invariant-loop-told : goal.invariant-loop-told
invariant-loop-told l =
    Turns (items_made l.initial.results) (with_findings l.finding (map view (take l.told-index l.all))) (items_made l.results)
