-- Texts and numbers as JSON, and the text of a JSON value.
use Rattle.std.specs.Prelude.{ℕ, ◌≡◌, false, List, Option, Some, None, map}
use Rattle.std.specs.Str.Lossy.{utf8_lossy}
use Rattle.json.specs.Lex.{tokens}
use Rattle.json.specs.Print.{print}
use Rattle.serde_json.specs.Data.{Data, null, number, unsigned, string, array}
use Rattle.serde_json.specs.View.{items_of}
use Rattle.serde_json.specs.Written.{IsInOrder, has_float, compact_text}

-- bytes as a text, with U+FFFD for each sequence that is no UTF-8
abbrev pub text_told : List ℕ → Data
text_told text = string (utf8_lossy text)

abbrev pub text_or_null : Option (List ℕ) → Data
text_or_null (Some text) = text_told text
text_or_null None = null

abbrev pub count_told : ℕ → Data
count_told count = number (unsigned count)

abbrev pub number_or_null : Option ℕ → Data
number_or_null (Some count) = count_told count
number_or_null None = null

abbrev pub list_told : {X : Type 0} → (X → Data) → List X → Data
list_told told items = array (items_of (map told items))

-- The bytes are the text of the value, with no space and no line feed: each member and item once, in order, its integers in decimal.
pub record IsTextOf (value : Data) (text : List ℕ) : Type 0 where
  pub in_order : IsInOrder text value
  pub compact : text ≡ print (tokens text)
  pub exact : has_float value ≡ false → text ≡ compact_text value
