use Rattle.std.proofs.Common.{rules, ◌≡◌}
use Rattle.std.specs.String.{string_bytes}
use Rattle.command_streams.specs.Watched.{held}
use Rattle.command_jobs.proofs.Replaying.{replayed_so, stopped_so}
use Rattle.command_jobs.proofs.performing.replay_input.Goals as goal

pub returns-clause-done : goal.returns-clause-done
returns-clause-done g c =
    let first : g.H.Input.Read.remaining (held c.input-program.result) ≡ (g.H.Host.sources (held c.args.host.now)).input = search rules in
    let second : g.H.File.Read.remaining (held c.in_ok-entries.entries) ≡ (g.H.Host.sources (held c.args.host.now)).file (string_bytes c.args.trace.now) = search rules in
    replayed_so _ _ _ _ _ _ _ _ c.replay_text-answer.result first second c.replay_text-answer.ensures.answered

pub returns-clause-fault : goal.returns-clause-fault
returns-clause-fault g c =
    let first : g.H.Input.Read.remaining (held c.input-program.result) ≡ (g.H.Host.sources (held c.args.host.now)).input = search rules in
    let second : g.H.File.Read.remaining (held c.in_ok-entries.entries) ≡ (g.H.Host.sources (held c.args.host.now)).file (string_bytes c.args.trace.now) = search rules in
    stopped_so _ _ _ _ _ _ _ _ c.replay_text-answer.result first second c.replay_text-answer.ensures.fault
