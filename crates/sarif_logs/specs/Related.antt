-- The related locations of a race: the earlier access, the spawn where the two part, and the spawns and calls that led there. Each is added
-- behind others, and has the next number.
use Rattle.std.specs.Prelude.{ℕ, ◌+◌, ◌≡◌, List, [], ◌∷◌, ◌++◌, codes, length, Option, Some, None, IfSome, option_and_then}
use Rattle.std.specs.Option.{option_map}
use Rattle.serde_json.specs.Data.{Data}
use Rattle.sarif_logs.specs.Reading.{words_at, object_at}
use Rattle.sarif_logs.specs.Places.{PlaceParts, place_at, place_words, related_told}
use Rattle.sarif_logs.specs.Accesses.{access_at}

abbrev pub with_related : (words : List ℕ) → PlaceParts → List Data → List Data
with_related words place related = related ++ related_told (length related + 1) words place ∷ []

-- a related location is added, of which these words are said, where there was memory for both
pub record Relates (old : Option (List Data)) (words : Option (List ℕ)) (place : PlaceParts) (new : Option (List Data)) : Type 0 where
  pub relates : IfSome new (λ now. option_and_then (λ said. option_map (with_related said place) old) words ≡ Some now)

-- a spawn or call that led to one of two accesses
abbrev pub link_words : Data → (which word : List ℕ) → List ℕ
link_words link which word = words_at (codes "way") link ++ codes " here, on the way to " ++ which ++ word

abbrev pub with_witness : Option Data → List Data → List Data
with_witness (Some witness) related =
    with_related (codes "the earlier " ++ words_at (codes "word") witness) (place_at (codes "place") witness) related
with_witness None related = related

-- a spawn, with what is said of the places at these two keys
abbrev pub with_spawn : (before first between second : List ℕ) → Option Data → List Data → List Data
with_spawn before first between second (Some spawn) related =
    with_related (before ++ place_words (place_at first spawn) ++ between ++ place_words (place_at second spawn))
    (place_at (codes "spawn") spawn) related
with_spawn before first between second None related = related

abbrev pub with_parting : Option Data → List Data → List Data
with_parting parting =
    with_spawn (codes "here they part: what is spawned comes to ") (codes "child") (codes ", and the spawner goes on to ") (codes "next") parting

abbrev pub with_outstanding : Option Data → List Data → List Data
with_outstanding outstanding =
    with_spawn (codes "this spawn is outstanding at ") (codes "at") (codes " and not at ") (codes "not_at") outstanding

-- the spawns and calls that led to one of two accesses
abbrev pub with_links : (which word : List ℕ) → (links : List Data) → List Data → List Data
with_links which word [] related = related
with_links which word (link ∷ links) related =
    with_links which word links (with_related (link_words link which word) (place_at (codes "place") link) related)

-- those of the two accesses of a race
abbrev pub with_accesses : Data → List Data → List Data
with_accesses race related =
    with_links (codes "the earlier ") (access_at (codes "witness") race).word (access_at (codes "witness") race).within
    (with_links (codes "this ") (access_at (codes "refused") race).word (access_at (codes "refused") race).within related)

abbrev pub with_all : Data → List Data → List Data
with_all race related =
    with_accesses race (with_outstanding (object_at (codes "outstanding") race) (with_parting (object_at (codes "parting") race)
    (with_witness (object_at (codes "witness") race) related)))

abbrev pub related_of : Data → List Data
related_of race = with_all race []
