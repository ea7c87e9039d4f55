use Rattle.std.proofs.Common.{rules, arith, ◌≡◌, get_or, map}
use Rattle.std.proofs.lemmas.Grind.{common_steps}
use Rattle.std.specs.String.{string_bytes}
use Rattle.tool_commands.specs.Together.{with_run}
use Rattle.tool_commands.proofs.KeptRuns.{one_kept}
use Rattle.tool_commands.proofs.explain_traces.keep_runs.Goals.{then-not-is_among+in_ok-from_str+in_ok-push, else-not-is_among}
use Rattle.tool_commands.proofs.explain_traces.keep_runs.Goals as goal

pub loop-run-preserved : goal.loop-run-preserved
loop-run-preserved c =
    let same : c.run-item.result ≡ get_or c.runs-run-items.result.now c.loop-run.run-index c.run-item.result =
    first_of (search rules, grind (arith, common_steps)) in
    let kept : map string_bytes c.if-not-is_among.runs.items ≡ with_run (map string_bytes c.loop-run.runs.items) c.as_str.result.now =
    elim c.if-not-is_among.branch [
      | then-not-is_among+in_ok-from_str+in_ok-push w ↦ first_of (search rules, grind (arith, common_steps))
      | else-not-is_among w ↦ first_of (search rules, grind (arith, common_steps))
    ] in
    one_kept string_bytes c.runs-run-items.result.now c.loop-run.run-index c.run-item.result c.as_str.result.now (map string_bytes c.args.runs.now.items) _ _
    (first_of (search rules, grind (arith, common_steps))) same (search rules) c.loop-run.invariant kept
