-- Where a line stands.
use Rattle.std.specs.Prelude.{ℕ, List, [], ◌∷◌, codes, Option, Some, None, cond, option_and_then}
use Rattle.std.specs.Path.{rsplit_once}
use Rattle.std.specs.Str.Parse.{digits_value}
use Rattle.serde_json.specs.Data.{Data, object, member, no_members}
use Rattle.source_quotes.specs.Lines.{line_in}
use Rattle.trace_notes.specs.Lines.{is_mark}
use Rattle.trace_notes.specs.Places.{PlaceParts}
use Rattle.trace_notes.specs.Notes.{noted_place}
use Rattle.race_explanations.specs.Settings.{Origin, in_program, in_trace}
use Rattle.race_explanations.specs.Names.{function_at, statement}
use Rattle.race_records.specs.Values.{text_or_null, number_or_null}

-- ---- the parts of a location

-- the number from 1 on that digits write
abbrev pub number_of : List ℕ → Option ℕ
number_of digits = cond (is_mark digits) (Some (digits_value 10 digits)) None

abbrev pub with_number : List ℕ → Option ℕ → Option (List ℕ × ℕ)
with_number before (Some number) = Some (before, number)
with_number before None = None

-- what stands before the last colon, and the number behind it
abbrev pub number_behind : List ℕ → Option (List ℕ × ℕ)
number_behind text = option_and_then (λ split. with_number split.0 (number_of split.1)) (rsplit_once 58 text)

pub record Location : Type 0 where
  pub file : List ℕ
  pub line : Option ℕ
  pub column : Option ℕ

-- what the last number of a location is, by what stands before it
abbrev pub location_by : (before : List ℕ) → (last : ℕ) → Option (List ℕ × ℕ) → Location
location_by before last None = record { file = before; line = Some last; column = None }
location_by before last (Some ([], line)) = record { file = before; line = Some last; column = None }
location_by before last (Some (byte ∷ file, line)) = record { file = byte ∷ file; line = Some line; column = Some last }

abbrev pub location_from : (text : List ℕ) → Option (List ℕ × ℕ) → Location
location_from text None = record { file = text; line = None; column = None }
location_from text (Some split) = location_by split.0 split.1 (number_behind split.0)

-- `FILE:LINE` or `FILE:LINE:COLUMN`
abbrev pub location_of : List ℕ → Location
location_of text = location_from text (number_behind text)

-- ---- a site

-- where a line stands: each part that is known
pub record SiteParts : Type 0 where
  pub file : Option (List ℕ)
  pub line : Option ℕ
  pub column : Option ℕ
  pub function : Option (List ℕ)
  pub code : Option (List ℕ)

abbrev pub noted_site : Location → PlaceParts → SiteParts
noted_site location place = record {
  file = Some location.file;
  line = location.line;
  column = location.column;
  function = place.function;
  code = place.code;
}

-- the place that a mark stands for, or its number where no note says it
abbrev pub marked_site : Option PlaceParts → ℕ → SiteParts
marked_site (Some place) line = noted_site (location_of place.location) place
marked_site None line = record { file = None; line = Some line; column = None; function = None; code = None }

abbrev pub site_in : Origin → ℕ → SiteParts
site_in (in_program file source functions) line = record {
  file = Some file;
  line = Some line;
  column = None;
  function = Some (function_at functions line);
  code = Some (statement (line_in source line));
}
site_in (in_trace notes) line = marked_site (noted_place notes line) line

-- a line of a file
abbrev pub line_of_file : (file : List ℕ) → (source : List (List ℕ)) → (line : ℕ) → SiteParts
line_of_file file source line = record {
  file = Some file;
  line = Some line;
  column = None;
  function = None;
  code = Some (statement (line_in source line));
}

abbrev pub parts_told : SiteParts → Data
parts_told site =
    object (member (codes "code") (text_or_null site.code)
    (member (codes "column") (number_or_null site.column)
    (member (codes "file") (text_or_null site.file)
    (member (codes "function") (text_or_null site.function)
    (member (codes "line") (number_or_null site.line) no_members)))))

abbrev pub site_told : Origin → ℕ → Data
site_told origin line = parts_told (site_in origin line)
