-- The accesses and the races among entries.
use Rattle.std.specs.Prelude.{ℕ, ◌+◌, List, [], ◌∷◌, ◌++◌, Option, Some, None}
use Rattle.std.specs.Option.{option_map, option_to_list}
use Rattle.model_accesses.specs.declared.request.Request.{Request}
use Rattle.model_accesses.specs.Asking.{access_asked}
use Rattle.model_histories.specs.declared.answer.Answer.{Answer}
use Rattle.model_histories.specs.declared.answer.Answer.TheVariants.{Refused}
use Rattle.model_histories.specs.declared.answer.Entry.{Entry}
use Rattle.dag_drawing.specs.declared.drawing.Access.{Access}
use Rattle.dag_drawing.specs.declared.drawing.Race.{Race}

-- the access that the entry with this number is, where it is one
abbrev pub access_told : ℕ → Entry → Option Access
access_told number told =
    option_map (λ asked. record { entry = number; request = told.request; answer = told.answer }) (access_asked told.request.act)

-- the race that an answer tells, where it is a refusal with a witness
abbrev pub race_answered : ℕ → Request → Answer → Option Race
race_answered number request (Refused rule witness) = Some (record { entry = number; request = request; witness = witness })
race_answered number request answer = None

abbrev pub race_told : ℕ → Entry → Option Race
race_told number told = race_answered number told.request told.answer

-- the accesses among the entries that stand behind so many others, in their order
abbrev pub accesses_behind : ℕ → List Entry → List Access
accesses_behind before [] = []
accesses_behind before (entry ∷ rest) = option_to_list (access_told (before + 1) entry) ++ accesses_behind (before + 1) rest

-- and the races
abbrev pub races_behind : ℕ → List Entry → List Race
races_behind before [] = []
races_behind before (entry ∷ rest) = option_to_list (race_told (before + 1) entry) ++ races_behind (before + 1) rest

-- the accesses of entries, the oldest first
abbrev pub accesses_told : List Entry → List Access
accesses_told entries = accesses_behind 0 entries

-- the races of entries, the oldest first
abbrev pub races_told : List Entry → List Race
races_told entries = races_behind 0 entries
