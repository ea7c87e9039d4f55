use Rattle.std.proofs.Common.{rules, ◌≡◌}
use Rattle.std.specs.String.{string_bytes}
use Rattle.either.specs.Either.{either}
use Rattle.command_streams.specs.Watched.{held}
use Rattle.command_jobs.specs.Performed.{named, replayed}
use Rattle.command_jobs.proofs.Replaying.{replayed_so, stopped_so, replayed_there, stopped_there}
use Rattle.command_jobs.proofs.performing.replay_files.Goals as goal

pub returns-then-eq-clause-job : goal.returns-then-eq-clause-job
returns-then-eq-clause-job g c =
    let sources = g.H.Host.sources (held c.args.host.now) in
    let first : sources.input ≡ named sources (string_bytes c.args.file.now) = search rules in
    let second : sources.file (string_bytes c.args.trace.now) ≡ replayed sources (string_bytes c.args.file.now) (string_bytes c.args.trace.now) = search rules in record {
      done = replayed_there _ _ _ _ _ _ c.replay_input.result first second c.replay_input.ensures.done;
      fault = stopped_there _ _ _ _ _ _ c.replay_input.result first second c.replay_input.ensures.fault;
      lacking = search rules;
    }

pub returns-clause-job : goal.returns-clause-job
returns-clause-job g c =
    let first : g.H.File.Read.remaining (held c.in_ok-program.program) ≡ named (g.H.Host.sources (held c.args.host.now)) (string_bytes c.args.file.now) = search rules in
    let second : either g.H.Input.Read.remaining g.H.File.Read.remaining (held c.in_ok-entries.entries)
    ≡ replayed (g.H.Host.sources (held c.args.host.now)) (string_bytes c.args.file.now) (string_bytes c.args.trace.now) = search rules in record {
      done = replayed_so _ _ _ _ _ _ _ _ c.replay_text-answer.result first second c.replay_text-answer.ensures.answered;
      fault = stopped_so _ _ _ _ _ _ _ _ c.replay_text-answer.result first second c.replay_text-answer.ensures.fault;
      lacking = search rules;
    }
