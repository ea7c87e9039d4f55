use Rattle.std.proofs.Common.{◌⊎◌, List, ℕ, sym, subst}
use Rattle.std.proofs.lemmas.Result.{IfOk-weaker}
use Rattle.trace_text.specs.Traces.{contents as trace_contents}
use Rattle.trace_text.specs.Grammar.{TextMeans as TraceMeans}
use Rattle.tool_commands.specs.Explanations.{IsTraceTold, IsUnjudgedTold}
use Rattle.tool_commands.proofs.explain_trace.explain_whole_text.Goals as goal

pub explain_trace-requires : goal.explain_trace-requires
explain_trace-requires c = record {
  kept = c.requires.kept;
  means = subst (λ (bytes : List ℕ). TraceMeans bytes (trace_contents c.in-Ok.trace)) (sym c.requires.whole) c.in-Ok.ensures;
}

pub returns-in-Ok-clause-ok : goal.returns-in-Ok-clause-ok
returns-in-Ok-clause-ok c =
    IfOk-weaker c.explain_trace.result _ _
    (λ told is. subst (λ (bytes : List ℕ). IsTraceTold c.args.manner.now bytes told.0.items told.1 ⊎ IsUnjudgedTold c.args.manner.now bytes told.0.items told.1) c.requires.whole is)
    c.explain_trace.ensures.ok
