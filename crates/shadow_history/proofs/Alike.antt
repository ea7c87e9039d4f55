-- A strand is not before itself.
use Rattle.std.proofs.Common.{◌≡◌, ℕ, false}
use Rattle.model_strands.specs.Address.{Word}
use Rattle.law_addresses.specs.Address.{before}
use Rattle.law_addresses.proofs.Orders.{before-irreflexive}
use Rattle.model_strands.specs.History.{History}
use Rattle.model_strands.specs.Addresses.{address}

pub never_before : (rank : Word → ℕ) (history : History) (a b : ℕ) → a ≡ b → before rank (address history a) (address history b) ≡ false
never_before rank history a b same = rw same (before-irreflexive rank (address history b))
