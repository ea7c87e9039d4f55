-- What the message of a race says: what races with what, and what would order them. `[WORDS](N)` is a link to the related location N.
use Rattle.std.specs.Prelude.{ℕ, ◌==◌, List, [], ◌∷◌, ◌++◌, codes, length, decimal, Option, Some, None, unwrap_or, if◌then◌else◌}
use Rattle.serde_json.specs.Data.{Data}
use Rattle.serde_json.specs.Find.{as_str}
use Rattle.sarif_logs.specs.Reading.{text_at, is_at, items_at, object_at}
use Rattle.sarif_logs.specs.Places.{in_function, place_words}
use Rattle.sarif_logs.specs.Accesses.{AccessParts, access_at}

abbrev pub name_words : Data → List ℕ
name_words name = codes "`" ++ unwrap_or (as_str name) [] ++ codes "`"

-- how many other names there are
abbrev pub other_words : ℕ → List ℕ
other_words count =
    if count == 0 then [] else codes " and " ++ decimal count ++ (if count == 1 then codes " other" else codes " others")

abbrev pub names_words : List Data → List ℕ
names_words [] = codes "something"
names_words (name ∷ others) = name_words name ++ other_words (length others)

-- the access that was refused
abbrev pub refused_words : AccessParts → (names : List Data) → List ℕ
refused_words refused names = codes "This " ++ refused.word ++ codes " of " ++ names_words names ++ in_function refused.place.function

-- words, the earlier access, and further words
abbrev pub between_words : (before : List ℕ) → AccessParts → (behind : List ℕ) → List ℕ
between_words before witness behind =
    before ++ (codes "[" ++ witness.word ++ codes "](1)") ++ in_function witness.place.function ++ codes " at " ++
    place_words witness.place ++ behind

-- what is wrong with the refused access
abbrev pub conflict_words : Data → List ℕ
conflict_words race =
    if is_at (codes "rule") (codes "determinacy-race") race
    then between_words (codes " may run before or after the ") (access_at (codes "witness") race) (codes ".")
    else (if is_at (codes "rule") (codes "view-read-race") race
    then between_words (codes " has other peers than the ") (access_at (codes "witness") race)
    (codes ", so what it finds may depend on the schedule.")
    else codes " finds nothing: no put or get of it was granted before.")

abbrev pub spawn_words : (parting outstanding : Option Data) → List ℕ
spawn_words (Some parting) outstanding = codes " They part at [this spawn](2)."
spawn_words None (Some outstanding) = codes " [This spawn](2) is outstanding at one of the two and not at the other."
spawn_words None None = []

abbrev pub help_words : Option (List ℕ) → List ℕ
help_words (Some help) = codes " Help: " ++ help ++ codes "."
help_words None = []

abbrev pub race_words : Data → List ℕ
race_words race =
    refused_words (access_at (codes "refused") race) (items_at (codes "locations") race) ++ conflict_words race ++
    spawn_words (object_at (codes "parting") race) (object_at (codes "outstanding") race) ++ help_words (text_at (codes "help") race)
