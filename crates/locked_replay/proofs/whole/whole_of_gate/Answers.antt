use Rattle.std.proofs.Common.{ap, Err}
use Rattle.locked_replay.proofs.Reversed.{clean_either, told_strange}
use Rattle.run_replay.specs.declared.replays.ReplayFault.{ReplayFault}
use Rattle.locked_replay.proofs.whole.whole_of_gate.Goals as goal

pub returns-in-Err-clause-strange : goal.returns-in-Err-clause-strange
returns-in-Err-clause-strange g c =
    λ e. told_strange c.args.program.now.functions _ c.args.gate c.into_parts-entries.result.0.items c.in-Err.fault c.into_parts-entries.ensures.entries
    (λ same. c.in-Err.ensures.unfinished (ap (λ (f : ReplayFault). Err f) same))
    (λ number same. c.in-Err.ensures.strange number (ap (λ (f : ReplayFault). Err f) same))
    (let told = c.fault_of.ensures.told in cc)

pub returns-in-Ok-clause-clean : goal.returns-in-Ok-clause-clean
returns-in-Ok-clause-clean g c = clean_either c.into_parts-entries.result.0.items c.is_clean-clean.result c.is_clean-clean.ensures
