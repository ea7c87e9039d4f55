-- The trace of a run: what its text is to mean.
use Rattle.std.specs.Prelude.{ℕ, ◌+◌, true, List, [], ◌∷◌, length}
use Rattle.text_words.specs.declared.value.Mem.{Mem}
use Rattle.text_words.specs.declared.value.Reducer.{Reducer}
use Rattle.text_words.specs.declared.value.TraceLine.{TraceLine}
use Rattle.text_words.specs.Values.{Known, Contents as TraceContents}
use Rattle.program_text.specs.Drafts.{Contents}
use Rattle.model_histories.specs.declared.answer.Entry.{Entry}

-- The memories, declared on the lines from this number on.
abbrev pub mems_from : ℕ → List Mem → List Mem
mems_from at [] = []
mems_from at (mem ∷ mems) = record mem { line = at } ∷ mems_from (at + 1) mems

-- The reducers, declared on the lines from this number on.
abbrev pub reducers_from : ℕ → List Reducer → List Reducer
reducers_from at [] = []
reducers_from at (reducer ∷ reducers) = record reducer { line = at } ∷ reducers_from (at + 1) reducers

-- The requests of the entries, on the lines from this number on, each marked with its line of the program.
abbrev pub requests_from : ℕ → List Entry → List TraceLine
requests_from at [] = []
requests_from at (entry ∷ entries) = record { at = at; request = entry.request; marked = true } ∷ requests_from (at + 1) entries

-- The line behind the declarations of a trace: the first names the version, and then each memory and each reducer has a line.
abbrev pub behind_declarations : Known → ℕ
behind_declarations known = 2 + length known.mems + length known.reducers

-- What a program declares, as a trace declares it: the memories, and then the reducers.
abbrev pub known_in_trace : Known → Known
known_in_trace known = record {
  version = known.version;
  mems = mems_from 2 known.mems;
  reducers = reducers_from (2 + length known.mems) known.reducers;
}

-- The trace of entries of a program, the oldest first: the program's version and declarations, and the requests of the entries.
abbrev pub trace_contents : Contents → List Entry → TraceContents
trace_contents program entries = record {
  known = known_in_trace program.known;
  lines = requests_from (behind_declarations program.known) entries;
}
