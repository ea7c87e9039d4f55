-- The plain text of a trace: each item on its own line, words separated by one space, numbers without leading zeros.
use Rattle.std.specs.Prelude.{◌≡◌, ℕ, ◌+◌, ◌-◌, ◌<◌, ◌≤◌, nat_lt, Option, Some, None, List, []}
use Rattle.std.specs.Prelude.{◌∷◌, ◌++◌, codes, cond, map, flat_map, replicate, slice_index_or}
use Rattle.std.specs.Option.{option_to_list}
use Rattle.std.specs.Fmt.{decimal}
use Rattle.trace_text.specs.LineGrammar as line
use Rattle.trace_text.specs.declared.keyword.Keyword.{Keyword}
use Rattle.trace_text.specs.declared.keyword.Keyword.TheVariants.{Mem as MemWord, Reducer as ReducerWord}
use Rattle.text_words.specs.declared.value.Version.{Version}
use Rattle.model_accesses.specs.declared.request.Act.{Act}
use Rattle.model_accesses.specs.declared.request.Act.TheVariants.{Read, Write, Bump, Update, Put, Get}
use Rattle.text_words.specs.declared.value.Mem.{Mem}
use Rattle.text_words.specs.declared.value.Reducer.{Reducer}
use Rattle.text_words.specs.declared.value.TraceLine.{TraceLine}
use Rattle.text_words.specs.Values.{Known, Contents, version_spelling, monoid_spelling}
use Rattle.trace_text.specs.Lines.{Place, Cell, ReducerName, Mark, Value, OfName, OfNumber}
use Rattle.trace_text.specs.Lines.{OfMonoid, spelling, wanted, optional, asks, operands, if_there}
use Rattle.trace_text.specs.Grammar.{TextMeans}
use Rattle.trace_text.specs.Shapes.{name_of_cell}

-- ---- words

abbrev pub name_of_reducer : List Reducer → ℕ → List ℕ
name_of_reducer reducers number = slice_index_or (map (λ reducer. reducer.name) reducers) number []

-- The word for a value in its place.
abbrev pub plain_word : Known → Place → Value → List ℕ
plain_word known place (OfName name) = name
plain_word known place (OfMonoid monoid) = monoid_spelling monoid
plain_word known Cell (OfNumber cell) = name_of_cell known.mems cell
plain_word known ReducerName (OfNumber reducer) = name_of_reducer known.reducers reducer
plain_word known Mark (OfNumber line) = codes "@" ++ decimal line
plain_word known place (OfNumber number) = decimal number

-- The words for values in the places of a line.
-- The words for values in the places of a line.
abbrev pub plain_words : Known → List Place → Option Place → List Value → List (List ℕ)
plain_words known places last = line.plain_words (plain_word known) places (option_to_list last)

abbrev pub behind_space : List (List ℕ) → List ℕ
behind_space [] = []
behind_space (word ∷ words) = 32 ∷ (word ++ behind_space words)

-- The words, separated by one space.
abbrev pub spaced : List (List ℕ) → List ℕ
spaced [] = []
spaced (word ∷ words) = word ++ behind_space words

-- The line of a keyword and values.
abbrev pub plain_line : Known → Keyword → List Value → List ℕ
plain_line known keyword values = spaced (spelling keyword ∷ plain_words known (wanted keyword) (optional keyword) values)

-- ---- lines

-- What a trace holds in a line of its own.
pub data Entry : Type 0 where
  OfMemory : (mem : Mem) → Entry
  OfReducer : (reducer : Reducer) → Entry
  OfRequest : (line : TraceLine) → Entry

abbrev pub entry_line : Entry → ℕ
entry_line (OfMemory mem) = mem.line
entry_line (OfReducer reducer) = reducer.line
entry_line (OfRequest line) = line.at

abbrev pub length_of : Mem → Option ℕ
length_of mem = cond mem.array (Some mem.cells) None

abbrev pub mark_of : TraceLine → Option ℕ
mark_of line = cond line.marked (Some line.request.line) None

abbrev pub entry_text : Known → Entry → List ℕ
entry_text known (OfMemory mem) = plain_line known MemWord (OfName mem.name ∷ if_there (length_of mem))
entry_text known (OfReducer reducer) = plain_line known ReducerWord (OfName reducer.name ∷ OfMonoid reducer.monoid ∷ [])
entry_text known (OfRequest line) =
    plain_line known (asks line.request.act) (OfNumber line.request.strand ∷ (operands line.request.act ++ if_there (mark_of line)))

-- A memory before the reducers, of which those on earlier lines come first.
abbrev pub merged_into : Mem → (List Reducer → List Entry) → List Reducer → List Entry
merged_into mem rest [] = OfMemory mem ∷ rest []
merged_into mem rest (reducer ∷ reducers) =
    cond (nat_lt mem.line reducer.line) (OfMemory mem ∷ rest (reducer ∷ reducers)) (OfReducer reducer ∷ merged_into mem rest reducers)

-- The declarations in the order of their lines.
abbrev pub declarations : List Mem → List Reducer → List Entry
declarations [] reducers = map OfReducer reducers
declarations (mem ∷ mems) reducers = merged_into mem (declarations mems) reducers

abbrev pub entries : Contents → List Entry
entries contents = declarations contents.known.mems contents.known.reducers ++ map OfRequest contents.lines

-- The entries from the line with the number `at` on, with a blank line where none stands.
abbrev pub lines_from : Known → ℕ → List Entry → List (List ℕ)
lines_from known at [] = []
lines_from known at (entry ∷ entries) =
    replicate (entry_line entry - at) [] ++ entry_text known entry ∷ lines_from known (entry_line entry + 1) entries

abbrev pub plain_lines : Contents → List (List ℕ)
plain_lines contents = spaced (codes "cilk" ∷ version_spelling contents.known.version ∷ []) ∷ lines_from contents.known 2 (entries contents)

-- The plain text, in which a line feed ends each line.
abbrev pub plain_text : Contents → List ℕ
plain_text contents = flat_map (λ line. line ++ 10 ∷ []) (plain_lines contents)

-- What some text means, its plain text means.
abbrev pub PlainMeaning : Type 0
PlainMeaning = (text : List ℕ) (contents : Contents) → TextMeans text contents → TextMeans (plain_text contents) contents

-- And it means nothing else, so what is printed and read again is the same.
abbrev pub NoOtherMeaning : Type 0
NoOtherMeaning =
    (text : List ℕ) (contents other : Contents) → TextMeans text contents → TextMeans (plain_text contents) other → other ≡ contents

-- The plain lines of requests, one directly behind the other.
abbrev pub requests_text : Known → List TraceLine → List ℕ
requests_text known requests = flat_map (λ line. entry_text known (OfRequest line) ++ 10 ∷ []) requests

-- ---- what is printed so far

abbrev pub text_from : Known → ℕ → List Entry → List ℕ
text_from known at entries = flat_map (λ line. line ++ 10 ∷ []) (lines_from known at entries)

-- The text has grown by the entry's line, and the next line has the number `next`.
abbrev pub PrintsEntry : Known → List ℕ → ℕ → Entry → List ℕ → ℕ → Type 0
PrintsEntry known old at entry new next =
    (entries : List Entry) → new ++ text_from known next entries ≡ old ++ text_from known at (entry ∷ entries)

-- What stands between the strand and the mark.
abbrev pub operand_text : Known → Act → List ℕ
operand_text known (Read cell) = 32 ∷ name_of_cell known.mems cell
operand_text known (Write cell value) = 32 ∷ (name_of_cell known.mems cell ++ 32 ∷ decimal value)
operand_text known (Bump cell value) = 32 ∷ (name_of_cell known.mems cell ++ 32 ∷ decimal value)
operand_text known (Update reducer value) = 32 ∷ (name_of_reducer known.reducers reducer ++ 32 ∷ decimal value)
operand_text known (Put reducer value) = 32 ∷ (name_of_reducer known.reducers reducer ++ 32 ∷ decimal value)
operand_text known (Get reducer) = 32 ∷ name_of_reducer known.reducers reducer
operand_text known act = []

abbrev pub known_of : Version → List Mem → List Reducer → Known
known_of version mems reducers = record { version = version; mems = mems; reducers = reducers }

-- All reducers on lines up to the bound are printed.
abbrev pub StartsPast : ℕ → List Reducer → Type 0
StartsPast bound [] = Unit {0}
StartsPast bound (reducer ∷ reducers) = bound < reducer.line

-- Entries that begin with the reducers up to the bound.
abbrev pub TakesReducers : ℕ → (List Reducer → List Entry) → Type 0
TakesReducers bound merged =
    (reducer : Reducer) (reducers : List Reducer) → reducer.line ≤ bound → merged (reducer ∷ reducers) ≡ OfReducer reducer ∷ merged reducers
