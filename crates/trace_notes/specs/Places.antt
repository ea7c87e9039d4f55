-- What stands at a mark: a location, a function, a line of code.
use Rattle.std.specs.Prelude.{ℕ, ◌+◌, ◌==◌, ◌&&◌, ◌||◌, Bool, true, false, Option, None, Some, List, [], ◌∷◌, take, drop, cond, unwrap_or}
use Rattle.std.specs.Option.{option_map}
use Rattle.std.specs.Char.{is_ascii_digit}
use Rattle.trace_notes.specs.declared.place.Seen.{Seen}
use Rattle.trace_notes.specs.declared.place.Seen.TheVariants.{Nothing, Other, Colon, Number}
use Rattle.trace_notes.specs.declared.place.Place.{Place}

-- A place, as lists of bytes.
pub record PlaceParts : Type 0 where
  pub location : List ℕ
  pub function : Option (List ℕ)
  pub code : Option (List ℕ)

abbrev pub behind_colon : ℕ → Seen
behind_colon byte = cond (byte == 58) Colon (cond (is_ascii_digit byte) Number Other)

-- What stands at the end after one more byte. The file's name has a byte at least.
abbrev pub advanced : Seen → ℕ → Seen
advanced Nothing byte = Other
advanced Other byte = cond (byte == 58) Colon Other
advanced Colon byte = behind_colon byte
advanced Number byte = behind_colon byte

abbrev pub is_number : Seen → Bool
is_number Number = true
is_number seen = false

-- `, ` stands there
abbrev pub begins_function : List ℕ → Bool
begins_function (comma ∷ space ∷ rest) = comma == 44 && space == 32
begins_function rest = false

-- ` | ` stands there
abbrev pub begins_code : List ℕ → Bool
begins_code (space ∷ bar ∷ another ∷ rest) = space == 32 && bar == 124 && another == 32
begins_code rest = false

abbrev pub is_empty : List ℕ → Bool
is_empty [] = true
is_empty (byte ∷ bytes) = false

-- A location may end before these bytes.
abbrev pub is_end : List ℕ → Bool
is_end rest = is_empty rest || begins_function rest || begins_code rest

-- How many bytes belong to the location, which ends at the first place where it may, behind a colon and digits.
abbrev pub location_len : Seen → List ℕ → Option ℕ
location_len seen [] = cond (is_number seen) (Some 0) None
location_len seen (byte ∷ bytes) =
    cond (is_number seen && is_end (byte ∷ bytes)) (Some 0) (option_map (λ n. n + 1) (location_len (advanced seen byte) bytes))

-- Where a bar with a space on each side begins first.
abbrev pub bar_at : List ℕ → Option ℕ
bar_at [] = None
bar_at (byte ∷ bytes) = cond (begins_code (byte ∷ bytes)) (Some 0) (option_map (λ n. n + 1) (bar_at bytes))

abbrev pub before_bar : List ℕ → List ℕ
before_bar text = unwrap_or (option_map (λ at. take at text) (bar_at text)) text

abbrev pub after_bar : List ℕ → Option (List ℕ)
after_bar text = option_map (λ at. drop (at + 3) text) (bar_at text)

-- The function and the code in what stands behind the location.
abbrev pub function_in : List ℕ → Option (List ℕ)
function_in behind = cond (begins_function behind) (Some (before_bar (drop 2 behind))) None

abbrev pub code_in : List ℕ → Option (List ℕ)
code_in behind = cond (begins_function behind) (after_bar (drop 2 behind)) (after_bar behind)

abbrev pub parts_at : List ℕ → ℕ → PlaceParts
parts_at text end = record { location = take end text; function = function_in (drop end text); code = code_in (drop end text) }

-- A place taken apart, where it is formed so.
abbrev pub split_place : List ℕ → Option PlaceParts
split_place text = option_map (parts_at text) (location_len Nothing text)

-- A place of the code as lists of bytes.
abbrev pub place_parts : Place → PlaceParts
place_parts place = record {
  location = place.location.now;
  function = option_map (λ text. text.now) place.function;
  code = option_map (λ text. text.now) place.code;
}
