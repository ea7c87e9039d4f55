-- What races are told from.
use Rattle.std.specs.Prelude.{ℕ, List}
use Rattle.text_words.specs.declared.value.Mem.{Mem}
use Rattle.text_words.specs.declared.value.Reducer.{Reducer}
use Rattle.model_bodies.specs.Codes.{Code}
use Rattle.source_quotes.specs.declared.look.Look.{Look}
use Rattle.trace_notes.specs.declared.notes.Notes.{Notes}

-- Where the lines of requests stand: in the text of a program, with the name of its file, its lines and its functions; or where the notes
-- of a trace say.
pub data Origin : Type 0 where
  in_program : (file : List ℕ) → (source : List (List ℕ)) → (functions : List Code) → Origin
  in_trace : (notes : Notes) → Origin

-- how quotes look, where lines stand, the memories and reducers that are named, and the line of each entry of the run, the oldest first
pub record Setting : Type 0 where
  pub look : Look
  pub origin : Origin
  pub mems : List Mem
  pub reducers : List Reducer
  pub lines : List ℕ
