use Rattle.std.proofs.Common.{rules, ◌≡◌, false}
use Rattle.std.proofs.lemmas.Result.{err_from_is_err_and}
use Rattle.command_streams.specs.Watched.{held}
use Rattle.command_jobs.proofs.Hosts.{host_noted, not_opened}
use Rattle.command_jobs.proofs.Sources.{unread}
use Rattle.command_jobs.proofs.performing.run_source.Goals as goal

pub returns-in_err-program-clause-job : goal.returns-in_err-program-clause-job
returns-in_err-program-clause-job g c =
    let gone = err_from_is_err_and c.from_residual.result c.from_residual.ensures.1 in record {
      done = search rules;
      fault = rw (gone.1, gone.2) (rw c.in_err-program.ensures.fault (unread (g.H.Host.sources (held c.args.host.now)) c.args.job.now _ _ c.requires.one));
      lacking = search rules;
    }

pub returns-in_err-program-clause-devices : goal.returns-in_err-program-clause-devices
returns-in_err-program-clause-devices g c =
    let gone = err_from_is_err_and c.from_residual.result c.from_residual.ensures.1 in
    rw (gone.1, gone.2) (not_opened c.in_err-program.field-0.0 _ _ c.in_err-program.ensures.fault (search rules) c.requires.writer)

pub returns-clause-job : goal.returns-clause-job
returns-clause-job g c = record {
  done = search rules;
  fault = search rules;
  lacking = search rules;
}

pub returns-clause-devices : goal.returns-clause-devices
returns-clause-devices g c =
    let fresh : c.open_source.new.host.failed ≡ false = search rules in
    host_noted _ _ _ _ _ _ c.note.ensures.failed fresh c.answer_run-answer.ensures.devices
