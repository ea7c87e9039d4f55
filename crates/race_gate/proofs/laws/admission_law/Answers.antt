use Rattle.race_gate.proofs.Admitted.{admission_law, entry_law}
use Rattle.race_gate.proofs.laws.admission_law.Goals as goal

pub returns : goal.returns
returns c = record { faultless = admission_law; entered = entry_law }
