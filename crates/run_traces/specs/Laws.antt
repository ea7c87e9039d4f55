-- What the trace of a run is.
use Rattle.std.specs.Prelude.{ℕ, ◌≡◌, ◌≤◌, List, length, map, reverse}
use Rattle.text_words.specs.Declarations.{cells_of}
use Rattle.text_words.specs.Values.{Known}
use Rattle.trace_text.specs.Grammar.{TextMeans as TraceMeans}
use Rattle.trace_text.specs.Printing.{plain_text}
use Rattle.program_text.specs.Drafts.{Contents}
use Rattle.program_text.specs.Grammar.{TextMeans}
use Rattle.model_histories.specs.declared.answer.Entry.{Entry}
use Rattle.model_histories.specs.Shapes.{Shape, most_entries}
use Rattle.model_runs.specs.Runs.{IsRun}
use Rattle.run_traces.specs.Traces.{trace_contents}
use Rattle.run_traces.specs.Fitting.{AreFitting}

-- what declarations come to
abbrev pub shape_known : Known → Shape
shape_known known = record { cells = cells_of known.mems; monoids = map (λ reducer. reducer.monoid) known.reducers }

-- The entries, oldest first, are a run of the program, and no more than a history has.
pub record IsRunOf (program : Contents) (entries : List Entry) : Type 0 where
  pub run : IsRun program.functions (shape_known program.known) (reverse entries)
  pub few : length entries ≤ most_entries

-- each request of a run is one that a trace of the program's declarations can say
abbrev pub FittingLaw : Type 0
FittingLaw =
    (text : List ℕ) (program : Contents) →
    TextMeans text program → (entries : List Entry) → IsRunOf program entries → AreFitting program.known entries

-- the plain text of the trace of a run means that trace
abbrev pub MeaningLaw : Type 0
MeaningLaw =
    (text : List ℕ) (program : Contents) → TextMeans text program → (entries : List Entry) → IsRunOf program entries →
    TraceMeans (plain_text (trace_contents program entries)) (trace_contents program entries)

-- the requests of a trace
abbrev pub RequestsLaw : Type 0
RequestsLaw = (program : Contents) (entries : List Entry) →
    map (λ line. line.request) (trace_contents program entries).lines ≡ map (λ entry. entry.request) entries

-- The trace declares what the program does: as many cells, and the same monoids.
abbrev pub ShapeLaw : Type 0
ShapeLaw = (program : Contents) (entries : List Entry) → shape_known (trace_contents program entries).known ≡ shape_known program.known
