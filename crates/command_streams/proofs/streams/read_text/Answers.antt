use Rattle.std.proofs.Common.{Err, ap, arith, ◌∙◌}
use Rattle.std.proofs.lemmas.Result.{err_from_is_err_and}
use Rattle.command_streams.specs.Watched.{held, calls_of}
use Rattle.command_streams.specs.declared.fault.CliFault.{CliFault}
use Rattle.command_streams.specs.declared.fault.CliFault.TheVariants.{Read}
use Rattle.command_streams.proofs.Failing.{step_failed, memory_failed, all_well}
use Rattle.command_streams.proofs.Bytes.{uncalled, called_within, pieces_all, stops_first}
use Rattle.command_streams.proofs.streams.read_text.Goals as goal

pub returns-in_err-buffer-clause-calls : goal.returns-in_err-buffer-clause-calls
returns-in_err-buffer-clause-calls g c = uncalled _ (calls_of c.args.input.now)

pub returns-in_err-read_until-clause-fault : goal.returns-in_err-read_until-clause-fault
returns-in_err-read_until-clause-fault g c =
    let gone = err_from_is_err_and c.from_residual-in_err-read_until.result c.from_residual-in_err-read_until.ensures.1 in
    rw (gone.1, gone.2) (stops_first (g.R.Read.remaining (held c.args.input.now)) (g.R.Read.remaining (held c.read_until.new.input))
    c.new-text.result.items _ c.new-text.ensures.items c.in_err-read_until.ensures.fault)

pub returns-clause-ok : goal.returns-clause-ok
returns-clause-ok g c =
    pieces_all (g.R.Read.remaining (held c.args.input.now)) (g.R.Read.remaining (held c.read_until.new.input)) c.new-text.result.items c.read_until.new.text.items _
    c.in_ok-read_until.ensures.taken c.new-text.ensures.items

pub returns-in_err-buffer-clause-failed : goal.returns-in_err-buffer-clause-failed
returns-in_err-buffer-clause-failed g c =
    let gone = err_from_is_err_and c.from_residual.result c.from_residual.ensures.1 in
    memory_failed _ _ gone.0 gone.1 gone.2 c.requires

pub read_until-requires-clause-fresh : goal.read_until-requires-clause-fresh
read_until-requires-clause-fresh g c = c.requires

pub returns-in_err-read_until-clause-failed : goal.returns-in_err-read_until-clause-failed
returns-in_err-read_until-clause-failed g c =
    let gone = err_from_is_err_and c.from_residual-in_err-read_until.result c.from_residual-in_err-read_until.ensures.1 in
    step_failed _ Read _ c.in_err-read_until.field-0.0 (gone.1 ∙ ap (λ (f : CliFault). Err f) gone.2) c.in_err-read_until.ensures.failed

pub returns-clause-failed : goal.returns-clause-failed
returns-clause-failed g c = all_well _ Read _ c.in_ok-read_until.ensures.fresh

pub returns-in_err-read_until-clause-calls : goal.returns-in_err-read_until-clause-calls
returns-in_err-read_until-clause-calls g c =
    called_within _ _ (calls_of c.args.input.now) (calls_of c.read_until.new.input) (omega arith) c.in_err-read_until.ensures.calls

pub returns-clause-calls : goal.returns-clause-calls
returns-clause-calls g c = called_within _ _ (calls_of c.args.input.now) (calls_of c.read_until.new.input) (omega arith) c.in_ok-read_until.ensures.calls

pub returns-in_err-buffer-clause-ok : goal.returns-in_err-buffer-clause-ok
returns-in_err-buffer-clause-ok g c =
    let gone = err_from_is_err_and c.from_residual.result c.from_residual.ensures.1 in
    rw gone.1 tt

pub returns-in_err-buffer-clause-fault : goal.returns-in_err-buffer-clause-fault
returns-in_err-buffer-clause-fault g c =
    let gone = err_from_is_err_and c.from_residual.result c.from_residual.ensures.1 in
    rw (gone.1, gone.2) tt

pub returns-in_err-read_until-clause-ok : goal.returns-in_err-read_until-clause-ok
returns-in_err-read_until-clause-ok g c =
    let gone = err_from_is_err_and c.from_residual-in_err-read_until.result c.from_residual-in_err-read_until.ensures.1 in
    rw gone.1 tt

pub returns-clause-fault : goal.returns-clause-fault
returns-clause-fault g c = tt
