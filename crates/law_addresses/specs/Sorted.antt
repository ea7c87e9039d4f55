-- Lists in the order of their addresses.
use Rattle.std.specs.Prelude.{◌≡◌, ℕ, true, List, AllPairs}
use Rattle.model_strands.specs.Address.{Word, Address}
use Rattle.law_addresses.specs.Address.{before}

-- each item is before each later one
abbrev pub IsSortedBy : {X : Type 0} → (Word → ℕ) → (X → Address) → List X → Type 0
IsSortedBy rank address items = AllPairs (λ item later. before rank (address item) (address later) ≡ true) items
