-- Accesses by location and kind, and the last of them in an order of strands.
use Rattle.std.specs.Prelude.{◌≡◌, ◌≢◌, ◌++◌, ◌∷◌, ℕ, List, Contains}
use Rattle.model_accesses.specs.Accesses.{Access}
use Rattle.model_accesses.specs.declared.kind.Kind.{Kind}
use Rattle.model_strands.specs.Address.{Word}
use Rattle.law_addresses.specs.Extremes.{IsLast}
use Rattle.model_strands.specs.History.{History}
use Rattle.model_strands.specs.Strands.{Begun}
use Rattle.model_strands.specs.Addresses.{address}

-- the access is one of the list, and of this location and kind
abbrev pub IsAdded : List Access → ℕ → Kind → Access → Type 0
IsAdded accesses location kind access = Contains accesses access × (access.location ≡ location) × (access.kind ≡ kind)

-- the strands of the accesses have begun
abbrev pub HaveAllBegun : History → List Access → Type 0
HaveAllBegun history accesses = (access : Access) → Contains accesses access → Begun history access.strand

-- no access before it in the list is of its location, kind and strand
abbrev pub IsEarliest : List Access → Access → Type 0
IsEarliest accesses access =
    (before after : List Access) × (accesses ≡ before ++ access ∷ after) ×
    ((other : Access) → IsAdded before access.location access.kind other → other.strand ≢ access.strand)

-- of the accesses of its location and kind none is of a strand that is later in the order, and none of its own strand is earlier in the
-- list
pub record IsExtreme (rank : Word → ℕ) (history : History) (accesses : List Access) (access : Access) : Type 0 where
  pub last : IsLast rank (λ other. address history other.strand) (IsAdded accesses access.location access.kind) access
  pub earliest : IsEarliest accesses access
