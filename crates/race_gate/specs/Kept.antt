-- What a gate keeps beside its state.
use Rattle.std.specs.Prelude.{◌≡◌, ◌+◌, ◌≤◌, ℕ, [], ◌∷◌, List, length, Option, Some, None}
use Rattle.model_reducers.specs.declared.monoid.Monoid.{Monoid}
use Rattle.model_accesses.specs.declared.request.Request.{Request}
use Rattle.sp_labels.specs.Roster.{Roster, Follows}
use Rattle.shadow_history.specs.declared.cell.Cell.{Cell}
use Rattle.shadow_history.specs.Shadow.{Remembers}
use Rattle.model_histories.specs.Entries.{Entries, control_part}
use Rattle.model_histories.specs.Shapes.{Shape, most_entries}
use Rattle.model_races.specs.Accesses.{granted}
use Rattle.model_races.specs.Reducers.{steps_of, granted_reads}
use Rattle.model_histories.specs.States.{GateState}
use Rattle.race_gate.specs.States.{IsRight}
use Rattle.model_histories.specs.Faults.{IsFaultless}
use Rattle.race_gate.specs.declared.tracks.Tracks.{Tracks}
use Rattle.race_gate.specs.Books.{Books, Keeps, OpensBooks}
use Rattle.model_histories.specs.declared.answer.Answer.{Answer}

-- what is kept of the strands, of the granted accesses of cells, and of the reducers
pub record TracksState : Type 0 where
  pub strands : Roster
  pub shadow : List Cell
  pub reducers : Option Books

abbrev pub tracks_of : {A : Type 0} → Tracks A → TracksState
tracks_of tracks = record { strands = tracks.strands; shadow = tracks.shadow; reducers = tracks.reducers }

-- the books are those of the history, and there are none exactly where the program has no reducers
abbrev pub AreBooksOf : Shape → Entries → Option Books → Type 0
AreBooksOf shape history None = shape.monoids ≡ []
AreBooksOf shape history (Some books) = (books.views.monoids ≡ shape.monoids) × Keeps books (steps_of history) (granted_reads history)

-- the history is judged rightly, the strands follow its control part, the shadow history remembers its granted accesses, and the books its
-- reducers
pub record IsKept (state : GateState) (tracks : TracksState) : Type 0 where
  pub right : IsRight state
  pub follows : Follows tracks.strands (control_part state.history)
  pub remembers : Remembers tracks.shadow (control_part state.history) (granted state.history)
  pub locations : length tracks.shadow ≡ state.shape.cells
  pub within : length state.history ≤ state.limit
  pub limited : state.limit ≤ most_entries
  pub reducers : AreBooksOf state.shape state.history tracks.reducers

-- what is kept before any entry, of so many cells and of reducers with these monoids
pub record OpensTracks (tracks : TracksState) (cells : ℕ) (monoids : List Monoid) : Type 0 where
  pub follows : Follows tracks.strands []
  pub remembers : Remembers tracks.shadow [] []
  pub locations : length tracks.shadow ≡ cells
  pub opens : OpensBooks tracks.reducers monoids

-- the request has no fault in the state, and its entry will have this number
pub record IsReady (state : GateState) (tracks : TracksState) (memory : List ℕ) (request : Request) (number : ℕ) : Type 0 where
  pub kept : IsKept state tracks
  pub cells : memory ≡ state.memory
  pub faultless : IsFaultless state request
  pub numbered : number ≡ length state.history + 1

-- the state after one more entry
abbrev pub with_entry : GateState → Request → Answer → List ℕ → GateState
with_entry state request answer memory = record state {
  history = record { request = request; answer = answer } ∷ state.history;
  memory = memory;
}
