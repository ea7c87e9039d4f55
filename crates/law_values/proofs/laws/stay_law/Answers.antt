use Rattle.std.proofs.Common.{ℕ, Option}
use Rattle.law_values.proofs.Stays.{stay_law}
use Rattle.law_values.proofs.laws.stay_law.Goals as goal

pub returns : goal.returns
returns c = record { numbers = stay_law ℕ; options = stay_law (Option ℕ); pairs = stay_law (ℕ × ℕ) }
