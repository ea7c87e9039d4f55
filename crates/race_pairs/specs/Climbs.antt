-- Two climbs from two strands to what made them.
use Rattle.std.specs.Prelude.{◌≡◌, ◌<◌, ◌≤◌, ℕ, List, length}
use Rattle.law_addresses.specs.Address.{IsPrefix, parallel}
use Rattle.model_strands.specs.Strands.{Begun, unused}
use Rattle.model_strands.specs.Addresses.{address}
use Rattle.model_histories.specs.Entries.{Entries, control_part}
use Rattle.race_pairs.specs.declared.kept.Frame.{Frame}
use Rattle.race_pairs.specs.declared.kept.Strand.{Strand}
use Rattle.race_pairs.specs.declared.kept.Jump.{Jump}
use Rattle.race_pairs.specs.Makers.{maker}
use Rattle.race_pairs.specs.Jumps.{IsUp}
use Rattle.race_pairs.specs.Lineages.{AreMade, AreWays}

-- the climbs came by these two, and a spawn where the strands part was not passed
pub record Climbs (entries : Entries) (strand other one two : ℕ) : Type 0 where
  pub one_known : one < unused (control_part entries)
  pub two_known : two < unused (control_part entries)
  pub one_begins : IsPrefix (address (control_part entries) one) (address (control_part entries) strand)
  pub two_begins : IsPrefix (address (control_part entries) two) (address (control_part entries) other)
  pub parallel_alike : parallel (address (control_part entries) strand) (address (control_part entries) other) ≡
      parallel (address (control_part entries) one) (address (control_part entries) two)

-- the two strands are among those of some entries
abbrev pub AreKnown : List Frame → List Strand → ℕ → ℕ → Type 0
AreKnown opened strands strand other = (entries : Entries) × AreMade opened strands entries × (strand < length strands) × (other < length strands)

-- the same where the jumps are known too
abbrev pub AreMet : List Frame → List Strand → List Jump → ℕ → ℕ → Type 0
AreMet opened strands jumps strand other =
    (entries : Entries) × AreWays opened strands jumps entries × (strand < length strands) × (other < length strands)

-- the strand stands below the depth
abbrev pub AreBelow : List Frame → List Strand → List Jump → Entries → ℕ → ℕ → Type 0
AreBelow opened strands jumps entries strand depth =
    AreWays opened strands jumps entries × (strand < length strands) × (depth < length (address (control_part entries) strand))

-- a strand further up, which does not stand above the depth
pub record IsFurther (entries : Entries) (strand depth above : ℕ) : Type 0 where
  pub up : IsUp entries above strand
  pub within : depth ≤ length (address (control_part entries) above)
  pub further : length (address (control_part entries) above) < length (address (control_part entries) strand)

-- the strand stands at the depth or below it
abbrev pub AreRisen : List Frame → List Strand → List Jump → Entries → ℕ → ℕ → Type 0
AreRisen opened strands jumps entries strand depth =
    AreWays opened strands jumps entries × (strand < length strands) × (depth ≤ length (address (control_part entries) strand))

-- the strand above it at that depth
abbrev pub IsAbove : Entries → ℕ → ℕ → ℕ → Type 0
IsAbove entries strand depth above =
    IsUp entries above strand × (length (address (control_part entries) above) ≡ depth)

-- two strands at one depth, which no one entry made
abbrev pub AreApart : List Frame → List Strand → List Jump → Entries → ℕ → ℕ → Type 0
AreApart opened strands jumps entries one two =
    AreWays opened strands jumps entries × (one < length strands) × (two < length strands) ×
    (length (address (control_part entries) one) ≡ length (address (control_part entries) two)) ×
    (maker entries one ≡ maker entries two → ⊥)

-- Two strands at one depth stand above two others, which stand lower, and differ.
pub record AreAbove (entries : Entries) (one two left right : ℕ) : Type 0 where
  pub left_up : IsUp entries left one
  pub right_up : IsUp entries right two
  pub level : length (address (control_part entries) left) ≡ length (address (control_part entries) right)
  pub differ : address (control_part entries) left ≡ address (control_part entries) right → ⊥
  pub further : length (address (control_part entries) left) < length (address (control_part entries) one)

-- some entry made the strand
abbrev pub IsMade : List Frame → List Strand → ℕ → Type 0
IsMade opened strands strand = (entries : Entries) × AreMade opened strands entries × (strand < length strands) × (0 < maker entries strand)

-- a path leads from an earlier strand to this one
abbrev pub IsOnWay : Entries → ℕ → ℕ → Type 0
IsOnWay entries earlier strand =
    Begun (control_part entries) earlier × Begun (control_part entries) strand ×
    IsPrefix (address (control_part entries) earlier) (address (control_part entries) strand)
