use Rattle.std.proofs.Common.{List, ℕ, sym, subst, IfOk}
use Rattle.trace_text.specs.Traces.{contents as trace_contents}
use Rattle.trace_text.specs.Grammar.{TextMeans as TraceMeans}
use Rattle.tool_commands.specs.Together.{together_of, TakesText}
use Rattle.tool_commands.proofs.explain_traces.Traces.take_whole.Goals as goal

pub take_trace-requires : goal.take_trace-requires
take_trace-requires c = record {
  kept = c.requires.kept;
  means = subst (λ (bytes : List ℕ). TraceMeans bytes (trace_contents c.in-Ok.trace)) (sym c.requires.whole) c.in-Ok.ensures;
}

pub returns-in-Ok-clause-ok : goal.returns-in-Ok-clause-ok
returns-in-Ok-clause-ok c =
    subst (λ (bytes : List ℕ). IfOk c.take_trace.result (TakesText c.args.manner.now bytes (together_of c.args.self.now) (together_of c.take_trace.new.self)))
    c.requires.whole c.take_trace.ensures.ok
