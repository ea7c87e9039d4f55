use Rattle.std.proofs.Common.{◌≡◌, length, ap, rules, arith}
use Rattle.std.proofs.lemmas.List.{nil_from_length}
use Rattle.std.proofs.lemmas.Result.{err_from_is_err_and, IfOk-weaker, IfErr-weaker}
use Rattle.command_streams.specs.Watched.{held, calls_of}
use Rattle.command_streams.specs.declared.fault.CliFault.TheVariants.{Read}
use Rattle.trace_text.specs.Traces.{contents}
use Rattle.command_streams.specs.KeptTexts.{text_of}
use Rattle.command_streams.proofs.Failing.{memory_failed, all_well}
use Rattle.command_streams.proofs.KeptTexts.{found_all, found_plain, found_kept, found_more, found_stops, found_called}
use Rattle.command_streams.proofs.kept.keep_found.Goals as goal

pub returns-clause-ok : goal.returns-clause-ok
returns-clause-ok g c =
    IfOk-weaker c.read_rest.result _ _
    (λ kept from before called is.
    found_more c.args.head.items before (g.R.Read.remaining (held c.args.input.now)) called (calls_of c.args.input.now) c.args.found is
    (g.R.Read.remaining (held c.read_rest.new.input)) c.restore.new.head.items (text_of kept) c.in_ok-restore.ensures from)
    c.read_rest.ensures.ok

pub returns-clause-fault : goal.returns-clause-fault
returns-clause-fault g c =
    IfErr-weaker c.read_rest.result _ _
    (λ fault stops before called is.
    found_stops c.args.head.items before (g.R.Read.remaining (held c.args.input.now)) called (calls_of c.args.input.now) c.args.found is
    (g.R.Read.remaining (held c.read_rest.new.input)) c.restore.new.head.items fault c.in_ok-restore.ensures stops)
    c.read_rest.ensures.fault

pub returns-clause-calls : goal.returns-clause-calls
returns-clause-calls g c before called is =
    found_called c.args.head.items before (g.R.Read.remaining (held c.args.input.now)) called (calls_of c.args.input.now) c.args.found is
    c.restore.new.head.items (calls_of c.read_rest.new.input) c.in_ok-restore.ensures c.if-is_ended.false c.read_rest.ensures.calls

pub returns-clause-kept : goal.returns-clause-kept
returns-clause-kept g c = c.read_rest.ensures.kept

pub returns-clause-failed : goal.returns-clause-failed
returns-clause-failed g c = c.read_rest.ensures.failed

pub returns-in_err-restore-clause-failed : goal.returns-in_err-restore-clause-failed
returns-in_err-restore-clause-failed g c =
    let gone = err_from_is_err_and c.from_residual.result c.from_residual.ensures.1 in
    memory_failed _ _ gone.0 gone.1 gone.2 c.requires.fresh

pub returns-in_err-restore-clause-calls : goal.returns-in_err-restore-clause-calls
returns-in_err-restore-clause-calls g c before called is = is.called_most

pub returns-then-is_ended-clause-calls : goal.returns-then-is_ended-clause-calls
returns-then-is_ended-clause-calls g c before called is = is.called_most

pub returns-then-is_empty-clause-calls : goal.returns-then-is_empty-clause-calls
returns-then-is_empty-clause-calls g c before called is = is.called_most

pub read_rest-requires-clause-short : goal.read_rest-requires-clause-short
read_rest-requires-clause-short g c = omega (arith, c.requires.found.2.short, ap length c.in_ok-restore.ensures)

pub returns-then-is_ended-clause-failed : goal.returns-then-is_ended-clause-failed
returns-then-is_ended-clause-failed g c = all_well _ Read _ c.requires.fresh

pub returns-then-is_empty-clause-failed : goal.returns-then-is_empty-clause-failed
returns-then-is_empty-clause-failed g c = all_well _ Read _ c.requires.fresh

pub returns-then-is_empty-clause-ok : goal.returns-then-is_empty-clause-ok
returns-then-is_empty-clause-ok g c before called is =
    let none : length c.args.found.waiting.items ≡ 0 = search (rules, c.if-is_empty.true, c.is_empty.ensures) in
    found_plain c.args.head.items before (g.R.Read.remaining (held c.args.input.now)) called (calls_of c.args.input.now) c.args.found is
    c.truncate.new.self.items c.into_parts-trace.result.1 (contents c.into_parts-trace.result.0) c.truncate.ensures.items c.into_parts-trace.ensures.1
    (ap contents c.into_parts-trace.ensures.0) (nil_from_length c.args.found.waiting.items none) c.if-found.true

pub returns-then-is_empty-clause-kept : goal.returns-then-is_empty-clause-kept
returns-then-is_empty-clause-kept g c =
    found_kept c.args.head.items c.requires.found.0 (g.R.Read.remaining (held c.args.input.now)) c.requires.found.1 (calls_of c.args.input.now) c.args.found
    c.requires.found.2 c.truncate.new.self.items c.into_parts-trace.result.1 (contents c.into_parts-trace.result.0) c.truncate.ensures.items
    c.into_parts-trace.ensures.1 (ap contents c.into_parts-trace.ensures.0)

pub returns-then-is_ended-clause-ok : goal.returns-then-is_ended-clause-ok
returns-then-is_ended-clause-ok g c before called is =
    found_all c.args.head.items before (g.R.Read.remaining (held c.args.input.now)) called (calls_of c.args.input.now) c.args.found is
    c.restore.new.head.items c.in_ok-restore.ensures c.if-is_ended.true
