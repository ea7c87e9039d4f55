use Rattle.std.proofs.Common.{ap, Err}
use Rattle.locked_replay.proofs.Reversed.{told_strange}
use Rattle.run_replay.specs.declared.replays.ReplayFault.{ReplayFault}
use Rattle.locked_replay.proofs.whole.check_run.Goals as goal

pub returns-in-Err-clause-strange : goal.returns-in-Err-clause-strange
returns-in-Err-clause-strange g c =
    λ e. told_strange c.args.program.now.functions _ c.args.gate.now c.kept_history.result.now.items c.in-Err.fault c.kept_history.ensures.entries
    (λ same. c.in-Err.ensures.unfinished (ap (λ (f : ReplayFault). Err f) same))
    (λ number same. c.in-Err.ensures.strange number (ap (λ (f : ReplayFault). Err f) same))
    (let told = c.fault_of.ensures.told in cc)
