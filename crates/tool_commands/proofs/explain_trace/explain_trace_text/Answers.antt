use Rattle.std.proofs.Common.{◌≡◌, ◌⊎◌, List, ℕ, ap, sym, ◌∙◌, subst}
use Rattle.std.proofs.lemmas.Result.{IfOk-weaker, IfErr-weaker}
use Rattle.trace_text.specs.Traces.{contents as trace_contents}
use Rattle.command_streams.specs.declared.fault.CliFault.TheVariants.{Memory}
use Rattle.command_streams.specs.KeptTexts.{text_of}
use Rattle.tool_commands.specs.Explanations.{IsTraceTold, IsUnjudgedTold, IsUntoldTrace}
use Rattle.tool_commands.proofs.TraceTexts.{kept_means, untold}
use Rattle.tool_commands.proofs.explain_trace.explain_trace_text.Goals as goal

pub explain_whole_text-requires-clause-whole : goal.explain_whole_text-requires-clause-whole
explain_whole_text-requires-clause-whole c = ap text_of c.in-Whole.is ∙ sym c.as_slice.ensures.value

pub returns-in-Whole-clause-ok : goal.returns-in-Whole-clause-ok
returns-in-Whole-clause-ok c =
    let same : c.as_slice.result.now ≡ text_of c.args.source.now = c.as_slice.ensures.value ∙ sym (ap text_of c.in-Whole.is) in
    IfOk-weaker c.explain_whole_text.result _ _
    (λ told is. subst (λ (bytes : List ℕ). IsTraceTold c.args.manner.now bytes told.0.items told.1 ⊎ IsUnjudgedTold c.args.manner.now bytes told.0.items told.1) same is)
    c.explain_whole_text.ensures.ok

pub returns-in-Whole-clause-fault : goal.returns-in-Whole-clause-fault
returns-in-Whole-clause-fault c =
    let same : c.as_slice.result.now ≡ text_of c.args.source.now = c.as_slice.ensures.value ∙ sym (ap text_of c.in-Whole.is) in
    IfErr-weaker c.explain_whole_text.result _ _
    (λ fault why. subst (λ (bytes : List ℕ). (fault ≡ Memory) ⊎ IsUntoldTrace bytes fault) same why)
    c.explain_whole_text.ensures.fault

pub explain_trace-requires : goal.explain_trace-requires
explain_trace-requires c = kept_means c.args.source.now c.in-Plain.kept c.in-Plain.is c.requires

pub returns-in-Plain-clause-fault : goal.returns-in-Plain-clause-fault
returns-in-Plain-clause-fault c =
    IfErr-weaker c.explain_trace.result _ _
    (λ fault why. untold c.args.source.now (trace_contents c.in-Plain.kept.trace) fault (kept_means c.args.source.now c.in-Plain.kept c.in-Plain.is c.requires) why)
    c.explain_trace.ensures.fault
