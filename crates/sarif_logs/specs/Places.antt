-- Places of a record as locations of a log.
use Rattle.std.specs.Prelude.{ℕ, ◌==◌, List, [], ◌∷◌, ◌++◌, codes, decimal, Option, Some, None, if◌then◌else◌}
use Rattle.percent_encoding.specs.Percent.{percent_encode}
use Rattle.serde_json.specs.Data.{Data, string, number, unsigned, array, object, item, no_items, member, no_members}
use Rattle.sarif_logs.specs.declared.place.TheConstants.{ESCAPED}
use Rattle.sarif_logs.specs.Reading.{text_at, number_at, object_at}

-- ---- a place

-- where something is: each part that is known
pub record PlaceParts : Type 0 where
  pub file : Option (List ℕ)
  pub line : Option ℕ
  pub column : Option ℕ
  pub function : Option (List ℕ)
  pub code : Option (List ℕ)

abbrev pub place_of : Data → PlaceParts
place_of value = record {
  file = text_at (codes "file") value;
  line = number_at (codes "line") value;
  column = number_at (codes "column") value;
  function = text_at (codes "function") value;
  code = text_at (codes "code") value;
}

abbrev pub nowhere : PlaceParts
nowhere = record { file = None; line = None; column = None; function = None; code = None }

abbrev pub place_or_nowhere : Option Data → PlaceParts
place_or_nowhere (Some value) = place_of value
place_or_nowhere None = nowhere

-- the place that stands at this key
abbrev pub place_at : (key : List ℕ) → Data → PlaceParts
place_at key value = place_or_nowhere (object_at key value)

-- ---- in words

-- a number behind a colon, where there is one
abbrev pub column_words : Option ℕ → List ℕ
column_words (Some column) = codes ":" ++ decimal column
column_words None = []

abbrev pub line_words : Option ℕ → List ℕ
line_words (Some line) = codes "line " ++ decimal line
line_words None = codes "an unknown line"

-- `FILE:LINE:COLUMN`, as far as it is known
abbrev pub file_words : Option (List ℕ) → PlaceParts → List ℕ
file_words (Some file) place = file ++ column_words place.line ++ column_words place.column
file_words None place = line_words place.line

abbrev pub place_words : PlaceParts → List ℕ
place_words place = file_words place.file place

abbrev pub in_function : Option (List ℕ) → List ℕ
in_function (Some function) = codes " in `" ++ function ++ codes "`"
in_function None = []

-- ---- as locations

-- an absolute name is a URI of the scheme `file`, another is relative as it was given
abbrev pub scheme : List ℕ → List ℕ
scheme [] = []
scheme (byte ∷ name) = if byte == 47 then codes "file://" else []

-- the URI of a file
abbrev pub uri : List ℕ → List ℕ
uri name = scheme name ++ percent_encode ESCAPED name

abbrev pub text_told : List ℕ → Data
text_told text = object (member (codes "text") (string text) no_members)

abbrev pub count_told : ℕ → Data
count_told count = number (unsigned count)

-- a line, from a column on where it is known
abbrev pub region_told : (line : ℕ) → (column : Option ℕ) → (code : Option (List ℕ)) → Data
region_told line (Some column) (Some code) =
    object (member (codes "snippet") (text_told code)
    (member (codes "startColumn") (count_told column)
    (member (codes "startLine") (count_told line) no_members)))
region_told line None (Some code) =
    object (member (codes "snippet") (text_told code) (member (codes "startLine") (count_told line) no_members))
region_told line (Some column) None =
    object (member (codes "startColumn") (count_told column) (member (codes "startLine") (count_told line) no_members))
region_told line None None = object (member (codes "startLine") (count_told line) no_members)

abbrev pub artifact_told : (file : List ℕ) → Data
artifact_told file = object (member (codes "uri") (string (uri file)) no_members)

abbrev pub physical_at : (file : List ℕ) → Option ℕ → PlaceParts → Data
physical_at file (Some line) place =
    object (member (codes "artifactLocation") (artifact_told file)
    (member (codes "region") (region_told line place.column place.code) no_members))
physical_at file None place = object (member (codes "artifactLocation") (artifact_told file) no_members)

-- a file and the part of it, where its line is known
abbrev pub physical_told : (file : List ℕ) → PlaceParts → Data
physical_told file place = physical_at file place.line place

abbrev pub function_told : (function : List ℕ) → Data
function_told function =
    object (member (codes "kind") (string (codes "function")) (member (codes "name") (string function) no_members))

abbrev pub functions_told : Option (List ℕ) → Data
functions_told (Some function) = array (item (function_told function) no_items)
functions_told None = array no_items

-- words, and behind them a place without a file
abbrev pub noted_words : (words : List ℕ) → PlaceParts → List ℕ
noted_words words place = words ++ (codes " (" ++ place_words place ++ codes ")")

abbrev pub location_in : Option (List ℕ) → PlaceParts → Data
location_in (Some file) place =
    object (member (codes "logicalLocations") (functions_told place.function)
    (member (codes "physicalLocation") (physical_told file place) no_members))
location_in None place =
    object (member (codes "logicalLocations") (functions_told place.function)
    (member (codes "message") (text_told (place_words place)) no_members))

-- the location of a result
abbrev pub location_told : PlaceParts → Data
location_told place = location_in place.file place

abbrev pub related_in : Option (List ℕ) → (id : ℕ) → (words : List ℕ) → PlaceParts → Data
related_in (Some file) id words place =
    object (member (codes "id") (count_told id)
    (member (codes "logicalLocations") (functions_told place.function)
    (member (codes "message") (text_told words)
    (member (codes "physicalLocation") (physical_told file place) no_members))))
related_in None id words place =
    object (member (codes "id") (count_told id)
    (member (codes "logicalLocations") (functions_told place.function)
    (member (codes "message") (text_told (noted_words words place)) no_members)))

-- a related location, with a number by which messages link to it
abbrev pub related_told : (id : ℕ) → (words : List ℕ) → PlaceParts → Data
related_told id words place = related_in place.file id words place
