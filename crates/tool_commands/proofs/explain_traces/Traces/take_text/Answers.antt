use Rattle.std.proofs.Common.{◌≡◌, ◌⊎◌, List, ℕ, ap, sym, ◌∙◌, subst, IfOk}
use Rattle.std.proofs.lemmas.Result.{IfErr-weaker}
use Rattle.trace_text.specs.Traces.{contents as trace_contents}
use Rattle.command_streams.specs.declared.fault.CliFault.TheVariants.{Memory}
use Rattle.command_streams.specs.KeptTexts.{text_of}
use Rattle.tool_commands.specs.Explanations.{IsUntoldTrace}
use Rattle.tool_commands.specs.Together.{together_of, TakesText}
use Rattle.tool_commands.proofs.TraceTexts.{kept_means, untold}
use Rattle.tool_commands.proofs.explain_traces.Traces.take_text.Goals as goal

pub take_whole-requires-clause-whole : goal.take_whole-requires-clause-whole
take_whole-requires-clause-whole c = ap text_of c.in-Whole.is ∙ sym c.as_slice.ensures.value

pub returns-in-Whole-clause-ok : goal.returns-in-Whole-clause-ok
returns-in-Whole-clause-ok c =
    let same : c.as_slice.result.now ≡ text_of c.args.source.now = c.as_slice.ensures.value ∙ sym (ap text_of c.in-Whole.is) in
    subst (λ (bytes : List ℕ). IfOk c.take_whole.result (TakesText c.args.manner.now bytes (together_of c.args.self.now) (together_of c.take_whole.new.self)))
    same c.take_whole.ensures.ok

pub returns-in-Whole-clause-fault : goal.returns-in-Whole-clause-fault
returns-in-Whole-clause-fault c =
    let same : c.as_slice.result.now ≡ text_of c.args.source.now = c.as_slice.ensures.value ∙ sym (ap text_of c.in-Whole.is) in
    IfErr-weaker c.take_whole.result _ _
    (λ fault why. subst (λ (bytes : List ℕ). (fault ≡ Memory) ⊎ IsUntoldTrace bytes fault) same why)
    c.take_whole.ensures.fault

pub take_trace-requires : goal.take_trace-requires
take_trace-requires c = kept_means c.args.source.now c.in-Plain.kept c.in-Plain.is c.requires

pub returns-in-Plain-clause-fault : goal.returns-in-Plain-clause-fault
returns-in-Plain-clause-fault c =
    IfErr-weaker c.take_trace.result _ _
    (λ fault why. untold c.args.source.now (trace_contents c.in-Plain.kept.trace) fault (kept_means c.args.source.now c.in-Plain.kept c.in-Plain.is c.requires) why)
    c.take_trace.ensures.fault
