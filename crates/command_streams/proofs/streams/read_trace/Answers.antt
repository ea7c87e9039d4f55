use Rattle.std.proofs.lemmas.Result.{err_from_is_err_and}
use Rattle.command_streams.specs.Watched.{calls_of}
use Rattle.command_streams.proofs.Bytes.{uncalled}
use Rattle.command_streams.proofs.Failing.{memory_failed}
use Rattle.command_streams.proofs.streams.read_trace.Goals as goal

pub returns-in_err-buffer-clause-calls : goal.returns-in_err-buffer-clause-calls
returns-in_err-buffer-clause-calls g c = uncalled _ (calls_of c.args.input.now)

pub returns-in_err-buffer-clause-failed : goal.returns-in_err-buffer-clause-failed
returns-in_err-buffer-clause-failed g c =
    let gone = err_from_is_err_and c.from_residual.result c.from_residual.ensures.1 in
    memory_failed _ _ gone.0 gone.1 gone.2 c.requires

pub returns-in_err-buffer-clause-ok : goal.returns-in_err-buffer-clause-ok
returns-in_err-buffer-clause-ok g c =
    let gone = err_from_is_err_and c.from_residual.result c.from_residual.ensures.1 in
    rw gone.1 tt

pub returns-in_err-buffer-clause-fault : goal.returns-in_err-buffer-clause-fault
returns-in_err-buffer-clause-fault g c =
    let gone = err_from_is_err_and c.from_residual.result c.from_residual.ensures.1 in
    rw (gone.1, gone.2) tt

pub read_pieces-requires-clause-fresh : goal.read_pieces-requires-clause-fresh
read_pieces-requires-clause-fresh g c = c.requires

pub returns-clause-ok : goal.returns-clause-ok
returns-clause-ok g c = c.read_pieces.ensures.ok

pub returns-clause-fault : goal.returns-clause-fault
returns-clause-fault g c = c.read_pieces.ensures.fault

pub returns-clause-failed : goal.returns-clause-failed
returns-clause-failed g c = c.read_pieces.ensures.failed

pub returns-clause-calls : goal.returns-clause-calls
returns-clause-calls g c = c.read_pieces.ensures.calls
