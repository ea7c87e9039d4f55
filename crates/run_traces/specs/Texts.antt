-- What is printed of a trace, part by part.
use Rattle.std.specs.Prelude.{ℕ, true, List, [], ◌∷◌, ◌++◌, map, flat_map}
use Rattle.text_words.specs.declared.value.Mem.{Mem}
use Rattle.text_words.specs.declared.value.Reducer.{Reducer}
use Rattle.model_accesses.specs.declared.request.Request.{Request}
use Rattle.text_words.specs.Values.{Known}
use Rattle.trace_text.specs.Printing.{Entry as Line, OfMemory, OfReducer, OfRequest, entry_text}
use Rattle.model_histories.specs.declared.answer.Entry.{Entry}

-- The lines, a line feed behind each.
abbrev pub lines_text : Known → List Line → List ℕ
lines_text known lines = flat_map (λ line. entry_text known line ++ 10 ∷ []) lines

-- The line of a request with its mark, on whatever line of the trace it stands.
abbrev pub line_of_request : Request → Line
line_of_request request = OfRequest (record { at = 0; request = request; marked = true })

abbrev pub mems_text : Known → List Mem → List ℕ
mems_text known mems = lines_text known (map OfMemory mems)

abbrev pub reducers_text : Known → List Reducer → List ℕ
reducers_text known reducers = lines_text known (map OfReducer reducers)

abbrev pub requests_text : Known → List Entry → List ℕ
requests_text known entries = lines_text known (map (λ entry. line_of_request entry.request) entries)
