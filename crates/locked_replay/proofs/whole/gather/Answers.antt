use Rattle.std.proofs.Common.{◌≡◌, List, Err, reverse, subst, sym, ap, ◌∙◌}
use Rattle.std.proofs.lemmas.Result.{err_from_is_err_and}
use Rattle.program_text.specs.Shapes.{shape_in}
use Rattle.locked_replay.specs.declared.fault.RunFault.TheVariants.{Limit}
use Rattle.locked_replay.specs.declared.worker.WorkerLog.{WorkerLog}
use Rattle.locked_replay.specs.Logs.{AreWhole}
use Rattle.locked_replay.proofs.Faulted.{logs_faulted}
use Rattle.locked_replay.proofs.Gathered.{if_ok, if_err, gathered, its_logs, its_memory, its_elision, its_schedules, unfinished, faulted}
use Rattle.locked_replay.proofs.whole.gather.Goals as goal

pub returns-clause-logs : goal.returns-clause-logs
returns-clause-logs g c =
    let ensured = c.whole_of_gate.ensures in
    if_ok c.whole_of_gate.result
    (gathered c.args.program.now c.into_gate-gate.result c.args.logs.items c.whole_of_gate.result ensured.shape ensured.entries ensured.memory ensured.clean ensured.run)
    (λ whole is.
    its_logs c.args.program.now c.into_gate-gate.result c.args.logs.items whole is
    (subst (λ (l : List (WorkerLog _ _)). AreWhole (reverse c.into_gate-gate.result.history) l) c.as_slice.ensures.value c.in_ok-check_logs.ensures.whole))

pub returns-clause-memory : goal.returns-clause-memory
returns-clause-memory g c =
    let ensured = c.whole_of_gate.ensures in
    if_ok c.whole_of_gate.result
    (gathered c.args.program.now c.into_gate-gate.result c.args.logs.items c.whole_of_gate.result ensured.shape ensured.entries ensured.memory ensured.clean ensured.run)
    (λ whole is. its_memory c.args.program.now c.into_gate-gate.result c.args.logs.items whole is c.into_gate-gate.ensures.values)

pub returns-clause-elided : goal.returns-clause-elided
returns-clause-elided g c =
    let ensured = c.whole_of_gate.ensures in
    if_ok c.whole_of_gate.result
    (gathered c.args.program.now c.into_gate-gate.result c.args.logs.items c.whole_of_gate.result ensured.shape ensured.entries ensured.memory ensured.clean ensured.run)
    (λ whole is. its_elision c.args.program.now c.into_gate-gate.result c.args.logs.items whole is)

pub returns-clause-agree : goal.returns-clause-agree
returns-clause-agree g c =
    let ensured = c.whole_of_gate.ensures in
    if_ok c.whole_of_gate.result
    (gathered c.args.program.now c.into_gate-gate.result c.args.logs.items c.whole_of_gate.result ensured.shape ensured.entries ensured.memory ensured.clean ensured.run)
    (λ whole is. its_schedules c.args.program.now c.into_gate-gate.result c.args.logs.items whole is)

pub returns-in_err-check_logs-clause-faults : goal.returns-in_err-check_logs-clause-faults
returns-in_err-check_logs-clause-faults g c =
    let gate = c.into_gate-gate.result in
    let fault = c.in_err-check_logs.field-0.0 in
    let gone = err_from_is_err_and c.from_residual.result c.from_residual.ensures.1 in
    rw (gone.1, gone.2) (
    faulted c.args.program.now gate c.args.logs.items c.into_gate-gate.ensures.judged c.into_gate-gate.ensures.values fault
    (logs_faulted c.args.program.now.functions (shape_in c.args.program.now) gate c.args.logs.items c.check_logs.result fault
    c.in_err-check_logs.was c.check_logs.ensures.stopped
    (λ is whole. c.check_logs.ensures.torn is
    (subst (λ (l : List (WorkerLog _ _)). AreWhole (reverse gate.history) l) (sym c.as_slice.ensures.value) whole))
    c.check_logs.ensures.faults))

pub returns-clause-faults : goal.returns-clause-faults
returns-clause-faults g c =
    let gate = c.into_gate-gate.result in
    let ensured = c.whole_of_gate.ensures in
    if_err c.whole_of_gate.result
    (unfinished c.args.program.now gate c.args.logs.items c.check_logs.result c.whole_of_gate.result
    (λ e. let was = c.in_ok-check_logs.was in cc) c.check_logs.ensures.stopped.1
    (subst (λ (l : List (WorkerLog _ _)). AreWhole (reverse gate.history) l) c.as_slice.ensures.value c.in_ok-check_logs.ensures.whole)
    ensured.strange ensured.faults)
    (λ fault has. faulted c.args.program.now gate c.args.logs.items c.into_gate-gate.ensures.judged c.into_gate-gate.ensures.values fault has)

pub returns-in_err-check_logs-clause-limit : goal.returns-in_err-check_logs-clause-limit
returns-in_err-check_logs-clause-limit g c = λ e.
    let gone = err_from_is_err_and c.from_residual.result c.from_residual.ensures.1 in
    let told = gone.1 in
    let from = gone.2 in
    let same : c.in_err-check_logs.field-0.0 ≡ Limit = cc in
    c.check_logs.ensures.faults.0 (c.in_err-check_logs.was ∙ ap Err same)

pub returns-clause-limit : goal.returns-clause-limit
returns-clause-limit g c = c.whole_of_gate.ensures.faults.0
