-- Jumps on the way up from a strand.
use Rattle.std.specs.Prelude.{◌≡◌, ◌<◌, ◌≤◌, ℕ, suc, Bool, List, [], ◌∷◌, length, get_or, if◌then◌else◌}
use Rattle.law_addresses.specs.Address.{IsPrefix}
use Rattle.model_strands.specs.Strands.{unused}
use Rattle.model_strands.specs.Addresses.{address}
use Rattle.model_strands.specs.Legal.{Legal}
use Rattle.model_histories.specs.Entries.{Entries, control_part}
use Rattle.model_histories.specs.Shapes.{most_entries}
use Rattle.race_pairs.specs.declared.kept.Jump.{Jump}

-- the strand stands above the other one, or is it
abbrev pub IsUp : Entries → ℕ → ℕ → Type 0
IsUp entries above strand =
    (above < unused (control_part entries)) × IsPrefix (address (control_part entries) above) (address (control_part entries) strand)

-- The strand's address has as many words as its depth. The jump leads up, past one strand at least where one is above.
pub record IsRaised (entries : Entries) (strand : ℕ) (it : Jump) : Type 0 where
  pub depth : it.depth ≡ length (address (control_part entries) strand)
  pub low : it.depth ≤ length entries
  pub up : IsUp entries it.to strand
  pub further : 0 < it.depth → length (address (control_part entries) it.to) < it.depth

-- these are the jumps of the strands, by their numbers
pub record AreRaised (jumps : List Jump) (entries : Entries) : Type 0 where
  pub len : length jumps ≡ unused (control_part entries)
  pub each : (strand : ℕ) (d : Jump) → strand < length jumps → IsRaised entries strand (get_or jumps strand d)

-- three jumps more where a block is opened, else two
abbrev pub jumps_made : Bool → Jump → List Jump
jumps_made opens made = if opens then made ∷ (made ∷ (made ∷ [])) else made ∷ (made ∷ [])

-- they may be more, and the spawner is known
pub record CanRaise (jumps : List Jump) (entries : Entries) (spawner : ℕ) : Type 0 where
  pub raised : AreRaised jumps entries
  pub legal : Legal (control_part entries)
  pub few : length entries < most_entries
  pub known : spawner < length jumps

-- the jump of the strands that the spawner makes
abbrev pub IsJumpOf : List Jump → Entries → ℕ → Jump → Type 0
IsJumpOf jumps entries spawner made = ((d : Jump) → made.depth ≡ suc (get_or jumps spawner d).depth) × IsUp entries made.to spawner
