use Rattle.command_streams.specs.declared.fault.CliFault.TheVariants.{Read}
use Rattle.command_streams.specs.declared.fault.CliFault.{CliFault}
use Rattle.command_streams.proofs.Reading.{rest_whole}
use Rattle.command_streams.proofs.Failing.{step_failed, all_well}
use Rattle.std.proofs.Common.{[], refl, Err, ap, arith, ◌∙◌}
use Rattle.std.proofs.lemmas.Result.{err_from_is_err_and}
use Rattle.command_streams.specs.Watched.{held, calls_of}
use Rattle.command_streams.proofs.Bytes.{stops_reading, called_within}
use Rattle.command_streams.proofs.kept.read_rest.Goals as goal

pub returns-in_err-read_until-clause-fault : goal.returns-in_err-read_until-clause-fault
returns-in_err-read_until-clause-fault g c =
    let gone = err_from_is_err_and c.from_residual.result c.from_residual.ensures.1 in
    rw (gone.1, gone.2) (λ first taken.
    stops_reading first (g.R.Read.remaining (held c.args.input.now)) (g.R.Read.remaining (held c.read_until.new.input)) [] c.args.text.items 0 _ refl taken
    c.in_err-read_until.ensures.fault)

pub read_until-requires-clause-fresh : goal.read_until-requires-clause-fresh
read_until-requires-clause-fresh g c = c.requires.fresh

pub read_until-requires-clause-room : goal.read_until-requires-clause-room
read_until-requires-clause-room g c = c.requires.room

pub returns-in_err-read_until-clause-ok : goal.returns-in_err-read_until-clause-ok
returns-in_err-read_until-clause-ok g c =
    let gone = err_from_is_err_and c.from_residual.result c.from_residual.ensures.1 in
    rw gone.1 tt

pub returns-in_err-read_until-clause-kept : goal.returns-in_err-read_until-clause-kept
returns-in_err-read_until-clause-kept g c =
    let gone = err_from_is_err_and c.from_residual.result c.from_residual.ensures.1 in
    rw gone.1 tt

pub returns-in_err-read_until-clause-failed : goal.returns-in_err-read_until-clause-failed
returns-in_err-read_until-clause-failed g c =
    let gone = err_from_is_err_and c.from_residual.result c.from_residual.ensures.1 in
    step_failed _ Read _ c.in_err-read_until.field-0.0 (gone.1 ∙ ap (λ (f : CliFault). Err f) gone.2) c.in_err-read_until.ensures.failed

pub returns-in_err-read_until-clause-calls : goal.returns-in_err-read_until-clause-calls
returns-in_err-read_until-clause-calls g c = called_within _ _ (calls_of c.args.input.now) (calls_of c.read_until.new.input) (omega arith) c.in_err-read_until.ensures.calls

pub returns-clause-ok : goal.returns-clause-ok
returns-clause-ok g c =
    λ first taken.
    rest_whole first (g.R.Read.remaining (held c.args.input.now)) (g.R.Read.remaining (held c.read_until.new.input)) c.args.text.items
    c.read_until.new.text.items _ taken c.in_ok-read_until.ensures.taken

pub returns-clause-kept : goal.returns-clause-kept
returns-clause-kept g c = tt

pub returns-clause-fault : goal.returns-clause-fault
returns-clause-fault g c = tt

pub returns-clause-failed : goal.returns-clause-failed
returns-clause-failed g c = all_well _ Read _ c.in_ok-read_until.ensures.fresh

pub returns-clause-calls : goal.returns-clause-calls
returns-clause-calls g c = called_within _ _ (calls_of c.args.input.now) (calls_of c.read_until.new.input) (omega arith) c.in_ok-read_until.ensures.calls
