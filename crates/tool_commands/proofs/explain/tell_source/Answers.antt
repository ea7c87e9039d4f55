use Rattle.std.proofs.Common.{Bool, sym, subst, IfOk}
use Rattle.std.proofs.lemmas.Result.{IfErr-weaker}
use Rattle.command_streams.specs.KeptTexts.{text_of}
use Rattle.tool_commands.specs.Explanations.{ExplainsAs}
use Rattle.tool_commands.proofs.TraceTexts.{kept_no_program, stops_traced}
use Rattle.tool_commands.proofs.explain.tell_source.Goals as goal

pub returns-in-Plain-clause-ok : goal.returns-in-Plain-clause-ok
returns-in-Plain-clause-ok g c =
    let none = kept_no_program c.args.source.now _ c.in-Plain.is c.requires.kept in
    subst (λ (b : Bool). IfOk c.explain_trace_text-in-Plain.result
    (λ told. ExplainsAs b c.args.manner.now (text_of c.args.source.now) c.args.limit told.0.items told.1))
    (sym none) c.explain_trace_text-in-Plain.ensures.ok

pub returns-in-Plain-clause-fault : goal.returns-in-Plain-clause-fault
returns-in-Plain-clause-fault g c =
    let none = kept_no_program c.args.source.now _ c.in-Plain.is c.requires.kept in
    IfErr-weaker c.explain_trace_text-in-Plain.result _ _
    (λ fault why. stops_traced (text_of c.args.source.now) c.args.limit fault none why)
    c.explain_trace_text-in-Plain.ensures.fault
