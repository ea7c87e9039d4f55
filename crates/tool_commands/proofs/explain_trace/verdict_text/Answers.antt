use Rattle.std.proofs.Common.{◌++◌, flat_map, ap, ◌∙◌}
use Rattle.tool_commands.specs.Explanations.{recorded_line}
use Rattle.tool_commands.proofs.explain_trace.verdict_text.Goals as goal

pub returns : goal.returns
returns c = λ entries is. (
  c.in_ok-told.told.items,
  c.in_ok-told.ensures entries is,
  c.in_ok-push_recorded.ensures ∙ ap (λ runs. c.in_ok-told.told.items ++ flat_map recorded_line runs) c.runs.ensures.noted,
)
