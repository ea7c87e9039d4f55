use Rattle.std.proofs.Common.{Err, ap, refl, ◌∙◌}
use Rattle.std.proofs.lemmas.Result.{err_from_is_err_and}
use Rattle.command_streams.specs.Watched.{calls_of}
use Rattle.command_streams.specs.declared.fault.CliFault.{CliFault}
use Rattle.command_streams.specs.declared.fault.CliFault.TheVariants.{Read, Memory}
use Rattle.command_streams.proofs.Bytes.{uncalled}
use Rattle.command_streams.proofs.Failing.{step_failed, memory_failed, all_well}
use Rattle.command_streams.proofs.kept.read_behind.Goals as goal

pub returns-in-Err-Memory-clause-calls : goal.returns-in-Err-Memory-clause-calls
returns-in-Err-Memory-clause-calls g c = uncalled _ (calls_of c.args.input.now)

pub returns-in-Ok-None-clause-calls : goal.returns-in-Ok-None-clause-calls
returns-in-Ok-None-clause-calls g c = uncalled _ (calls_of c.args.input.now)

pub returns-in-Ok-None-clause-failed : goal.returns-in-Ok-None-clause-failed
returns-in-Ok-None-clause-failed g c = all_well _ Read _ c.requires.fresh

pub returns-in-Err-Memory-clause-failed : goal.returns-in-Err-Memory-clause-failed
returns-in-Err-Memory-clause-failed g c = memory_failed _ _ Memory refl refl c.requires.fresh

pub read_tail-requires-clause-begun : goal.read_tail-requires-clause-begun
read_tail-requires-clause-begun g c = rw c.in-Ok-Some.field-0-is at c.in-Ok-Some.ensures

pub read_tail-requires-clause-fresh : goal.read_tail-requires-clause-fresh
read_tail-requires-clause-fresh g c = c.requires.fresh

pub read_tail-requires-clause-room : goal.read_tail-requires-clause-room
read_tail-requires-clause-room g c = c.requires.room

pub read_tail-requires-clause-short : goal.read_tail-requires-clause-short
read_tail-requires-clause-short g c = c.requires.short

pub returns-in_err-read_tail-in-Ok-Some-clause-found : goal.returns-in_err-read_tail-in-Ok-Some-clause-found
returns-in_err-read_tail-in-Ok-Some-clause-found g c =
    let gone = err_from_is_err_and c.from_residual.result c.from_residual.ensures.1 in
    rw gone.1 tt

pub returns-in_err-read_tail-in-Ok-Some-clause-none : goal.returns-in_err-read_tail-in-Ok-Some-clause-none
returns-in_err-read_tail-in-Ok-Some-clause-none g c =
    let gone = err_from_is_err_and c.from_residual.result c.from_residual.ensures.1 in
    rw gone.1 tt

pub returns-in_err-read_tail-in-Ok-Some-clause-fault : goal.returns-in_err-read_tail-in-Ok-Some-clause-fault
returns-in_err-read_tail-in-Ok-Some-clause-fault g c =
    let gone = err_from_is_err_and c.from_residual.result c.from_residual.ensures.1 in
    rw (gone.1, gone.2) c.in_err-read_tail-in-Ok-Some.ensures.fault

pub returns-in_err-read_tail-in-Ok-Some-clause-fresh : goal.returns-in_err-read_tail-in-Ok-Some-clause-fresh
returns-in_err-read_tail-in-Ok-Some-clause-fresh g c =
    let gone = err_from_is_err_and c.from_residual.result c.from_residual.ensures.1 in
    rw gone.1 tt

pub returns-in_err-read_tail-in-Ok-Some-clause-failed : goal.returns-in_err-read_tail-in-Ok-Some-clause-failed
returns-in_err-read_tail-in-Ok-Some-clause-failed g c =
    let gone = err_from_is_err_and c.from_residual.result c.from_residual.ensures.1 in
    step_failed _ Read _ c.in_err-read_tail-in-Ok-Some.field-0.0 (gone.1 ∙ ap (λ (f : CliFault). Err f) gone.2) c.in_err-read_tail-in-Ok-Some.ensures.failed

pub returns-in_err-read_tail-in-Ok-Some-clause-calls : goal.returns-in_err-read_tail-in-Ok-Some-clause-calls
returns-in_err-read_tail-in-Ok-Some-clause-calls g c = c.in_err-read_tail-in-Ok-Some.ensures.calls

pub returns-in_ok-read_tail-in-Ok-Some-clause-found : goal.returns-in_ok-read_tail-in-Ok-Some-clause-found
returns-in_ok-read_tail-in-Ok-Some-clause-found g c = c.in_ok-read_tail-in-Ok-Some.ensures.found

pub returns-in_ok-read_tail-in-Ok-Some-clause-fault : goal.returns-in_ok-read_tail-in-Ok-Some-clause-fault
returns-in_ok-read_tail-in-Ok-Some-clause-fault g c = tt

pub returns-in_ok-read_tail-in-Ok-Some-clause-fresh : goal.returns-in_ok-read_tail-in-Ok-Some-clause-fresh
returns-in_ok-read_tail-in-Ok-Some-clause-fresh g c = c.in_ok-read_tail-in-Ok-Some.ensures.fresh

pub returns-in_ok-read_tail-in-Ok-Some-clause-failed : goal.returns-in_ok-read_tail-in-Ok-Some-clause-failed
returns-in_ok-read_tail-in-Ok-Some-clause-failed g c = all_well _ Read _ c.in_ok-read_tail-in-Ok-Some.ensures.fresh

pub returns-in_ok-read_tail-in-Ok-Some-clause-calls : goal.returns-in_ok-read_tail-in-Ok-Some-clause-calls
returns-in_ok-read_tail-in-Ok-Some-clause-calls g c = c.in_ok-read_tail-in-Ok-Some.ensures.calls

pub returns-in-Err-Memory-clause-found : goal.returns-in-Err-Memory-clause-found
returns-in-Err-Memory-clause-found g c = tt

pub returns-in-Err-Memory-clause-none : goal.returns-in-Err-Memory-clause-none
returns-in-Err-Memory-clause-none g c = tt

pub returns-in-Err-Memory-clause-fault : goal.returns-in-Err-Memory-clause-fault
returns-in-Err-Memory-clause-fault g c = λ first taken. tt

pub returns-in-Err-Memory-clause-fresh : goal.returns-in-Err-Memory-clause-fresh
returns-in-Err-Memory-clause-fresh g c = tt

pub returns-in-Ok-None-clause-found : goal.returns-in-Ok-None-clause-found
returns-in-Ok-None-clause-found g c = tt

pub returns-in-Ok-None-clause-none : goal.returns-in-Ok-None-clause-none
returns-in-Ok-None-clause-none g c = λ is. refl

pub returns-in-Ok-None-clause-fault : goal.returns-in-Ok-None-clause-fault
returns-in-Ok-None-clause-fault g c = tt

pub returns-in-Ok-None-clause-fresh : goal.returns-in-Ok-None-clause-fresh
returns-in-Ok-None-clause-fresh g c = c.requires.fresh
