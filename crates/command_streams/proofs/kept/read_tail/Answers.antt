use Rattle.std.proofs.Common.{Err, take, length, ap, arith, length-drop, refl, ◌∙◌}
use Rattle.std.proofs.lemmas.Result.{err_from_is_err_and}
use Rattle.command_streams.specs.Watched.{held, calls_of}
use Rattle.command_streams.specs.declared.fault.CliFault.{CliFault}
use Rattle.command_streams.specs.declared.fault.CliFault.TheVariants.{Read}
use Rattle.command_streams.specs.PlainTexts.{progress}
use Rattle.command_streams.proofs.Bytes.{uncalled, called_within}
use Rattle.command_streams.proofs.Failing.{step_failed, memory_failed, all_well}
use Rattle.command_streams.proofs.KeptTexts.{plain_begun, found_behind, head_stops}
use Rattle.command_streams.proofs.kept.read_tail.Goals as goal

pub returns-in_err-waiting-clause-calls : goal.returns-in_err-waiting-clause-calls
returns-in_err-waiting-clause-calls g c = uncalled _ (calls_of c.args.input.now)

pub returns-in_err-is_ended-clause-fault : goal.returns-in_err-is_ended-clause-fault
returns-in_err-is_ended-clause-fault g c =
    let gone = err_from_is_err_and c.from_residual-in_err-is_ended.result c.from_residual-in_err-is_ended.ensures.1 in
    let begun = c.requires.begun in
    rw (gone.1, gone.2)
    (head_stops c.args.head.now c.args.end c.args.begun begun.0 begun.1 c.in_ok-waiting.waiting.items
    (g.R.Read.remaining (held c.args.input.now)) (g.R.Read.remaining (held c.read_plain.new.input)) _ c.in_ok-waiting.ensures
    c.in_err-is_ended.ensures.fault)

pub returns-clause-found : goal.returns-clause-found
returns-clause-found g c =
    let begun = c.requires.begun in
    found_behind c.args.head.now c.args.end c.args.begun begun.0 begun.1
    (g.R.Read.remaining (held c.args.input.now)) c.in_ok-waiting.waiting.items
    (progress c.read_plain.new.begun c.in_ok-is_ended.ensures.read.0 c.read_plain.new.waiting.items (g.R.Read.remaining (held c.read_plain.new.input)))
    (calls_of c.args.input.now) (calls_of c.read_plain.new.input) _ _ c.in_ok-waiting.ensures
    c.in_ok-is_ended.ensures.read.1 c.in_ok-is_ended.ensures.calls refl c.request_count-count.ensures c.into_trace.ensures refl refl

pub returns-clause-calls : goal.returns-clause-calls
returns-clause-calls g c =
    let begun = c.requires.begun in
    called_within _ _ (calls_of c.args.input.now) (calls_of c.read_plain.new.input)
    (omega (arith, begun.0, ap length c.in_ok-waiting.ensures, length-drop c.args.end c.args.head.now))
    c.in_ok-is_ended.ensures.calls

pub returns-in_err-waiting-clause-failed : goal.returns-in_err-waiting-clause-failed
returns-in_err-waiting-clause-failed g c =
    let gone = err_from_is_err_and c.from_residual.result c.from_residual.ensures.1 in
    memory_failed _ _ gone.0 gone.1 gone.2 c.requires.fresh

pub returns-in_err-is_ended-clause-failed : goal.returns-in_err-is_ended-clause-failed
returns-in_err-is_ended-clause-failed g c =
    let gone = err_from_is_err_and c.from_residual-in_err-is_ended.result c.from_residual-in_err-is_ended.ensures.1 in
    step_failed _ Read _ c.in_err-is_ended.field-0.0 (gone.1 ∙ ap (λ (f : CliFault). Err f) gone.2) c.in_err-is_ended.ensures.failed

pub returns-clause-failed : goal.returns-clause-failed
returns-clause-failed g c = all_well _ Read _ c.in_ok-is_ended.ensures.fresh

pub read_plain-requires-clause-begun : goal.read_plain-requires-clause-begun
read_plain-requires-clause-begun g c = (take c.args.end c.args.head.now, c.requires.begun.1)

pub read_plain-requires-clause-short : goal.read_plain-requires-clause-short
read_plain-requires-clause-short g c =
    let within = c.requires.begun.0 in
    omega (arith, within, ap length c.in_ok-waiting.ensures, length-drop c.args.end c.args.head.now, c.requires.short)

pub read_plain-requires-clause-fresh : goal.read_plain-requires-clause-fresh
read_plain-requires-clause-fresh g c = c.requires.fresh

pub read_plain-requires-clause-room : goal.read_plain-requires-clause-room
read_plain-requires-clause-room g c = c.requires.room

pub into_trace-requires : goal.into_trace-requires
into_trace-requires g c =
    let begun = c.requires.begun in
    plain_begun (progress c.args.begun c.args.end c.in_ok-waiting.waiting.items (g.R.Read.remaining (held c.args.input.now)))
    (progress c.read_plain.new.begun c.in_ok-is_ended.ensures.read.0 c.read_plain.new.waiting.items (g.R.Read.remaining (held c.read_plain.new.input)))
    c.in_ok-is_ended.ensures.read.1.reads (take c.args.end c.args.head.now, begun.1)

pub copy_behind-requires : goal.copy_behind-requires
copy_behind-requires g c = c.requires.begun.0

pub returns-in_err-waiting-clause-found : goal.returns-in_err-waiting-clause-found
returns-in_err-waiting-clause-found g c =
    let gone = err_from_is_err_and c.from_residual.result c.from_residual.ensures.1 in
    rw gone.1 tt

pub returns-in_err-waiting-clause-fault : goal.returns-in_err-waiting-clause-fault
returns-in_err-waiting-clause-fault g c =
    let gone = err_from_is_err_and c.from_residual.result c.from_residual.ensures.1 in
    rw (gone.1, gone.2) (λ first taken. tt)

pub returns-in_err-waiting-clause-fresh : goal.returns-in_err-waiting-clause-fresh
returns-in_err-waiting-clause-fresh g c =
    let gone = err_from_is_err_and c.from_residual.result c.from_residual.ensures.1 in
    rw gone.1 tt

pub returns-in_err-is_ended-clause-found : goal.returns-in_err-is_ended-clause-found
returns-in_err-is_ended-clause-found g c =
    let gone = err_from_is_err_and c.from_residual-in_err-is_ended.result c.from_residual-in_err-is_ended.ensures.1 in
    rw gone.1 tt

pub returns-in_err-is_ended-clause-fresh : goal.returns-in_err-is_ended-clause-fresh
returns-in_err-is_ended-clause-fresh g c =
    let gone = err_from_is_err_and c.from_residual-in_err-is_ended.result c.from_residual-in_err-is_ended.ensures.1 in
    rw gone.1 tt

pub returns-in_err-is_ended-clause-calls : goal.returns-in_err-is_ended-clause-calls
returns-in_err-is_ended-clause-calls g c =
    called_within _ _ (calls_of c.args.input.now) (calls_of c.read_plain.new.input)
    (omega (arith, c.requires.begun.0, ap length c.in_ok-waiting.ensures, length-drop c.args.end c.args.head.now))
    c.in_err-is_ended.ensures.calls

pub returns-clause-fault : goal.returns-clause-fault
returns-clause-fault g c = tt

pub returns-clause-fresh : goal.returns-clause-fresh
returns-clause-fresh g c = c.in_ok-is_ended.ensures.fresh
