-- What is said of a read of a reducer.
use Rattle.std.specs.Prelude.{◌≡◌, ◌↔◌, ℕ, Option, Contains, IsSome, IfSome}
use Rattle.model_serial_runs.specs.Current.{current}
use Rattle.model_serial_runs.specs.ReducerReads.{ReducerRead, ViewRaces}
use Rattle.serial_judge.specs.Runs.{Run}

-- a new read of the running strand
abbrev pub new_read : Run → ℕ → ℕ → ReducerRead
new_read run reducer site = record { reducer = reducer; strand = current run.history; site = site }

-- an earlier read of the reducer that races with a new one of the running strand
pub record IsRacingRead (run : Run) (reducer : ℕ) (read : ReducerRead) : Type 0 where
  pub listed : Contains run.reads read
  pub reducer_is : read.reducer ≡ reducer
  pub races : ViewRaces run.history (current run.history) read

-- the answer is the site of such a read, and there is none where none is answered
pub record IsReadRightly (run : Run) (reducer : ℕ) (answer : Option ℕ) : Type 0 where
  pub exact : IsSome answer ↔ ((read : ReducerRead) × IsRacingRead run reducer read)
  pub witness : IfSome answer (λ site. (read : ReducerRead) × IsRacingRead run reducer read × (read.site ≡ site))
