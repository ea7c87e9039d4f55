-- What a record says at its keys.
use Rattle.std.specs.Prelude.{ℕ, Bool, List, [], ◌∷◌, Option, Some, None, unwrap_or, option_and_then, is_some, if◌then◌else◌}
use Rattle.std.specs.Str.{bytes_eq}
use Rattle.serde_json.specs.Data.{Data, null, Items, no_items, item}
use Rattle.serde_json.specs.Find.{get, as_str, as_number, as_u64, as_array, as_object}

-- the text with this key, where there is one
abbrev pub text_at : (key : List ℕ) → Data → Option (List ℕ)
text_at key value = option_and_then as_str (get key value)

-- the text with this key, or an empty one
abbrev pub words_at : (key : List ℕ) → Data → List ℕ
words_at key value = unwrap_or (text_at key value) []

-- the number with this key, where there is one
abbrev pub number_at : (key : List ℕ) → Data → Option ℕ
number_at key value = option_and_then as_u64 (option_and_then as_number (get key value))

-- the number with this key, or 0
abbrev pub count_at : (key : List ℕ) → Data → ℕ
count_at key value = unwrap_or (number_at key value) 0

-- whether these words stand at this key
abbrev pub is_at : (key words : List ℕ) → Data → Bool
is_at key words value = bytes_eq (words_at key value) words

abbrev pub listed : Items → List Data
listed no_items = []
listed (item one items) = one ∷ listed items

abbrev pub all_listed : Option Items → List Data
all_listed (Some items) = listed items
all_listed None = []

-- the items of the list with this key; none where there is no list
abbrev pub items_at : (key : List ℕ) → Data → List Data
items_at key value = all_listed (option_and_then as_array (get key value))

abbrev pub if_object : Data → Option Data
if_object value = if is_some (as_object value) then Some value else None

-- the object with this key, where there is one
abbrev pub object_at : (key : List ℕ) → Data → Option Data
object_at key value = option_and_then if_object (get key value)

-- the member with this key, or null
abbrev pub member_at : (key : List ℕ) → Data → Data
member_at key value = unwrap_or (get key value) null
