-- A serial run, with what a judge was told of it.
use Rattle.std.specs.Prelude.{◌≡◌, ℕ, List, [], ◌∷◌, ◌++◌}
use Rattle.model_strands.specs.History.{Event, History}
use Rattle.model_strands.specs.Legal.{Legal}
use Rattle.model_strands.specs.Extensions.{Extends}
use Rattle.model_serial_runs.specs.Accesses.{Access}
use Rattle.model_serial_runs.specs.ReducerReads.{ReducerRead}
use Rattle.model_serial_runs.specs.Current.{IsSerial}

-- a spawn, by the next that it began, and its place in the program
pub record SpawnSite : Type 0 where
  pub next : ℕ
  pub site : ℕ

pub record Run : Type 0 where
  pub history : History
  -- the sites of its spawns
  pub spawns : List SpawnSite
  -- accesses of which a judge keeps records, in the order of the run
  pub records : List Access
  -- the reads of reducers, in the order of the run
  pub reads : List ReducerRead

-- at its first strand
abbrev pub beginning : Run
beginning = record { history = []; spawns = []; records = []; reads = [] }

-- the run with one more event
abbrev pub and_then : Event → Run → Run
and_then event run = record { history = event ∷ run.history; spawns = run.spawns; records = run.records; reads = run.reads }

-- the run with one more record
abbrev pub with_record : Access → Run → Run
with_record access run =
    record { history = run.history; spawns = run.spawns; records = run.records ++ access ∷ []; reads = run.reads }

-- the run with one more read of a reducer
abbrev pub with_read : ReducerRead → Run → Run
with_read read run = record { history = run.history; spawns = run.spawns; records = run.records; reads = run.reads ++ read ∷ [] }

-- the run went on, and perhaps not
pub record IsLater (after run : Run) : Type 0 where
  pub extends : Extends after.history run.history
  pub legal : Legal after.history
  pub serial : IsSerial after.history
  pub records : (more : List Access) × (after.records ≡ run.records ++ more)
