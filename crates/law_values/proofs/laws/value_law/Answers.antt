use Rattle.std.proofs.Common.{ℕ, Option}
use Rattle.law_values.proofs.Values.{value_laws}
use Rattle.law_values.proofs.laws.value_law.Goals as goal

pub returns : goal.returns
returns c = record { numbers = value_laws ℕ; options = value_laws (Option ℕ); pairs = value_laws (ℕ × ℕ) }
