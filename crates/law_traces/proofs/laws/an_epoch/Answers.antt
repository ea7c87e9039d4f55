use Rattle.law_traces.proofs.Moments.{open_block_law, moment_law}
use Rattle.law_traces.proofs.Epochs.{epoch_law}
use Rattle.law_traces.proofs.laws.an_epoch.Goals as goal

pub returns : goal.returns
returns c = record { moments = open_block_law; ordered = moment_law; verdicts = epoch_law }
