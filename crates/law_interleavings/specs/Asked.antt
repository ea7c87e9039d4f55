-- What the strand at an address asked and was given: the same place in every interleaving.
use Rattle.std.specs.Prelude.{◌≡◌, ℕ, List, [], ◌∷◌, ◌++◌, Option, if◌then◌else◌}
use Rattle.model_accesses.specs.declared.request.Act.{Act}
use Rattle.model_strands.specs.Address.{Address, first_difference, same_at}
use Rattle.model_strands.specs.Addresses.{address}
use Rattle.model_histories.specs.declared.answer.Entry.{Entry}
use Rattle.model_histories.specs.Entries.{Entries, control_part}
use Rattle.model_runs.specs.Serial.{value_given}

-- what is told of each entry of the strand at this address, in order
abbrev pub told_at : {X : Type 0} → (Entry → X) → Entries → Address → List X
told_at tell [] place = []
told_at tell (entry ∷ entries) place =
    told_at tell entries place ++
    (if same_at (first_difference (address (control_part entries) entry.request.strand) place) then tell entry ∷ [] else [])

-- the acts that the strand at this address asked for, control included
abbrev pub asked_at : Entries → Address → List Act
asked_at = told_at (λ entry. entry.request.act)

-- the value that each of them was given, if any
abbrev pub values_at : Entries → Address → List (Option ℕ)
values_at = told_at (λ entry. value_given entry.answer)

-- the second list begins with the first
abbrev pub Begins : {X : Type 0} → List X → List X → Type 0
Begins {X} list all = (later : List X) × (list ++ later ≡ all)

-- at each address the history asks what the other one begins with there
abbrev pub AsksNoMore : (entries other : Entries) → Type 0
AsksNoMore entries other = (place : Address) → Begins (asked_at entries place) (asked_at other place)
