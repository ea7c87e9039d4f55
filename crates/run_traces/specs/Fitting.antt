-- Requests that a line of a trace can say.
use Rattle.std.specs.Prelude.{ℕ, ◌<◌, ◌≤◌, List, length}
use Rattle.std.specs.List.{All}
use Rattle.model_accesses.specs.declared.request.Act.{Act}
use Rattle.model_accesses.specs.declared.request.Request.{Request}
use Rattle.text_words.specs.Declarations.{cells_of}
use Rattle.text_words.specs.Limits.{max_strand, max_value}
use Rattle.text_words.specs.Names.{IsSecond}
use Rattle.text_words.specs.Values.{Known}
use Rattle.model_histories.specs.declared.answer.Entry.{Entry}

-- The value is a number of 64 bits.
abbrev pub IsValue : ℕ → Type 0
IsValue value = value ≤ max_value

-- The cell or the reducer of the act is declared, its value is a number of 64 bits, and the version has it.
abbrev pub IsSayable : Known → Act → Type 0
IsSayable known (Act.Read cell) = cell < cells_of known.mems
IsSayable known (Act.Write cell value) = (cell < cells_of known.mems) × IsValue value
IsSayable known (Act.Bump cell value) = (cell < cells_of known.mems) × IsValue value × IsSecond known.version
IsSayable known (Act.Update reducer value) = (reducer < length known.reducers) × IsValue value
IsSayable known (Act.Put reducer value) = (reducer < length known.reducers) × IsValue value
IsSayable known (Act.Get reducer) = reducer < length known.reducers
IsSayable known act = Unit {0}

-- A line of a trace can say the request, and mark it with its line of the program.
pub record IsFitting (known : Known) (request : Request) : Type 0 where
  pub strand : request.strand ≤ max_strand
  pub marked : 1 ≤ request.line
  pub mark : request.line ≤ max_strand
  pub act : IsSayable known request.act

abbrev pub AreFitting : Known → List Entry → Type 0
AreFitting known entries = All (λ entry. IsFitting known entry.request) entries
