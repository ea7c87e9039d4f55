use Rattle.std.proofs.lemmas.Result.{IfErr-weaker}
use Rattle.tool_commands.proofs.TracedCauses.{no_run_cause, telling_cause, telling_writes, told_written}
use Rattle.tool_commands.proofs.traced_run.run_traced_text.Goals as goal

pub returns-clause-answered : goal.returns-clause-answered
returns-clause-answered g c =
    told_written _ _ _ _ _ c.args.limit c.in-Ok.told.line.items c.in-Ok.told.trace.items c.in-Ok.told.status c.write_traced_run.result c.in-Ok.ensures.ok
    c.write_traced_run.ensures.status c.write_traced_run.ensures.kept c.write_traced_run.ensures.written

pub returns-clause-fault : goal.returns-clause-fault
returns-clause-fault g c =
    IfErr-weaker c.write_traced_run.result _ _ (λ fault stops. telling_cause _ _ _ _ _ c.args.limit _ _ _ fault c.in-Ok.ensures.ok stops) c.write_traced_run.ensures.fault

pub returns-clause-untraced : goal.returns-clause-untraced
returns-clause-untraced g c =
    IfErr-weaker c.write_traced_run.result _ _ (λ fault stops no_trace no_write. absurd (telling_writes _ _ _ _ _ _ fault stops no_trace no_write)) c.write_traced_run.ensures.fault

pub returns-in-Err-clause-fault : goal.returns-in-Err-clause-fault
returns-in-Err-clause-fault g c = no_run_cause _ _ _ _ _ c.args.limit c.in-Err.fault c.in-Err.ensures.fault
