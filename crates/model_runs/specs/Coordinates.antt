-- What was done at each address: the same place in every schedule of a program.
use Rattle.std.specs.Prelude.{◌≡◌, List, [], ◌∷◌, ◌++◌, if◌then◌else◌}
use Rattle.model_strands.specs.Address.{Address, first_difference, same_at}
use Rattle.model_strands.specs.Addresses.{address}
use Rattle.model_histories.specs.Entries.{Entries, control_part}
use Rattle.model_programs.specs.Evaluation.{Effect}
use Rattle.model_runs.specs.Serial.{effect_of}

-- what the strand at this address did, in order
abbrev pub effects_at : Entries → Address → List Effect
effects_at [] place = []
effects_at (entry ∷ entries) place =
    effects_at entries place ++
    (if same_at (first_difference (address (control_part entries) entry.request.strand) place) then effect_of entry ∷ [] else [])

-- the first list is how the second begins
abbrev pub IsPrefixOf : List Effect → List Effect → Type 0
IsPrefixOf effects all = (later : List Effect) × (effects ++ later ≡ all)
