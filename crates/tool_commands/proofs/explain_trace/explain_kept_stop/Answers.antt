use Rattle.std.proofs.Common.{◌≡◌, List, ℕ, ap, sym, ◌∙◌, subst}
use Rattle.std.proofs.lemmas.Result.{IfOk-weaker}
use Rattle.trace_text.specs.Traces.{contents as trace_contents}
use Rattle.trace_text.specs.Grammar.{TextMeans as TraceMeans}
use Rattle.command_streams.specs.KeptTexts.{text_of}
use Rattle.tool_commands.specs.Explanations.{IsIllegalTold}
use Rattle.tool_commands.proofs.explain_trace.explain_kept_stop.Goals as goal

pub explain_stop-requires-clause-means : goal.explain_stop-requires-clause-means
explain_stop-requires-clause-means c =
    let same : c.as_slice.result.now ≡ text_of c.args.source.now = c.as_slice.ensures.value ∙ sym (ap text_of c.in-Whole.is) in
    subst (λ (bytes : List ℕ). TraceMeans bytes (trace_contents c.args.trace.now)) (sym same) c.requires.means.means

pub explain_stop-requires-in-Plain-clause-means : goal.explain_stop-requires-in-Plain-clause-means
explain_stop-requires-in-Plain-clause-means c =
    let same : c.as_slice-in-Plain.result.now ≡ text_of c.args.source.now =
    c.as_slice-in-Plain.ensures.value ∙ (c.in_ok-text-in-Plain.ensures ∙ sym (ap text_of c.in-Plain.is)) in
    subst (λ (bytes : List ℕ). TraceMeans bytes (trace_contents c.args.trace.now)) (sym same) c.requires.means.means

pub returns-in-Whole-clause-ok : goal.returns-in-Whole-clause-ok
returns-in-Whole-clause-ok c =
    let same : c.as_slice.result.now ≡ text_of c.args.source.now = c.as_slice.ensures.value ∙ sym (ap text_of c.in-Whole.is) in
    IfOk-weaker c.explain_stop.result _ _ (λ told is. subst (λ (bytes : List ℕ). IsIllegalTold c.args.manner.now bytes told.items 2) same is) c.explain_stop.ensures.ok

pub returns-in_ok-text-in-Plain-clause-ok : goal.returns-in_ok-text-in-Plain-clause-ok
returns-in_ok-text-in-Plain-clause-ok c =
    let same : c.as_slice-in-Plain.result.now ≡ text_of c.args.source.now =
    c.as_slice-in-Plain.ensures.value ∙ (c.in_ok-text-in-Plain.ensures ∙ sym (ap text_of c.in-Plain.is)) in
    IfOk-weaker c.explain_stop-in-Plain.result _ _ (λ told is. subst (λ (bytes : List ℕ). IsIllegalTold c.args.manner.now bytes told.items 2) same is) c.explain_stop-in-Plain.ensures.ok
