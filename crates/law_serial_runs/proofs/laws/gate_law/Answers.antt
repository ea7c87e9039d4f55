use Rattle.law_serial_runs.proofs.Gate.{kinds_law, gate_law}
use Rattle.law_serial_runs.proofs.Told.{answers_law}
use Rattle.law_serial_runs.proofs.laws.gate_law.Goals as goal

pub returns : goal.returns
returns c = record { kinds = kinds_law; gate = gate_law; answers = answers_law }
