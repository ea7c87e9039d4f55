use Rattle.std.proofs.Common.{rules, arith, ◌≡◌, ◌++◌, codes, get_or, ap, ◌∙◌, append_assoc}
use Rattle.std.proofs.lemmas.Grind.{common_steps}
use Rattle.std.specs.String.{string_bytes}
use Rattle.tool_commands.specs.Explanations.{recorded_line}
use Rattle.tool_commands.proofs.Recorded.{one_told}
use Rattle.tool_commands.proofs.explain_trace.push_recorded.Goals as goal

pub loop-run-preserved : goal.loop-run-preserved
loop-run-preserved c =
    let run = c.as_str.result.now in
    let told = c.loop-run.told.items in
    let same : run ≡ string_bytes (get_or c.args.runs.now c.loop-run.run-index c.run-item.result) = first_of (search rules, grind (arith, common_steps)) in
    one_told string_bytes recorded_line c.args.runs.now c.loop-run.run-index c.run-item.result _ told _
    (first_of (search rules, grind (arith, common_steps))) c.loop-run.invariant
    (c.in_ok-push_words-3.ensures.added ∙ ap (λ t. t ++ codes "\n") (c.in_ok-push_words-2.ensures.added ∙ ap (λ t. t ++ run) c.in_ok-push_words.ensures.added
    ∙ append_assoc told (codes "recorded: ") run) ∙ append_assoc told (codes "recorded: " ++ run) (codes "\n") ∙ ap (λ r. told ++ recorded_line r) same)
