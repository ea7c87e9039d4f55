use Rattle.law_serial_runs.proofs.ReadGate.{view_races_law, read_gate_law}
use Rattle.law_serial_runs.proofs.laws.read_gate_law.Goals as goal

pub returns : goal.returns
returns c = record { views = view_races_law; gate = read_gate_law }
