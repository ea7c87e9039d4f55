-- The last of some items in an order of their addresses.
use Rattle.std.specs.Prelude.{◌≡◌, ℕ, false, cond, List, fold}
use Rattle.model_strands.specs.Address.{Word, Address}
use Rattle.law_addresses.specs.Address.{before}

-- it is one of the members, and none is after it
pub record IsLast {X : Type 0} (rank : Word → ℕ) (address : X → Address) (Member : X → Type 0) (last : X) : Type 0 where
  pub is_member : Member last
  pub none_after : (item : X) → Member item → before rank (address last) (address item) ≡ false

-- the later of two, and the one that is kept where they have one address
abbrev pub later_of : {X : Type 0} → (Word → ℕ) → (X → Address) → X → X → X
later_of rank address kept new = cond (before rank (address kept) (address new)) new kept

-- the last of some items, and the first of those that have its address
abbrev pub last_of : {X : Type 0} → (Word → ℕ) → (X → Address) → X → List X → X
last_of rank address first rest = fold (later_of rank address) first rest
