-- Which events the calls of a judge stand for.
use Rattle.std.specs.Prelude.{◌⊎◌, ◌+◌, ℕ, Bool, ◌∷◌}
use Rattle.model_strands.specs.History.{split, same, joined, call, resumed, ended}
use Rattle.model_strands.specs.Strands.{unused}
use Rattle.model_serial_runs.specs.Current.{current}
use Rattle.serial_judge.specs.Runs.{Run, and_then}
use Rattle.serial_judge.specs.Judge.{Judge}
use Rattle.serial_judge.specs.Follows.{Follows}

-- so many events a run has at most
abbrev pub most_events : ℕ
most_events = 4_611_686_018_427_387_904

-- the run with a spawn of its strand at this site
abbrev pub with_spawn : ℕ → ℕ → Bool → Run → Run
with_spawn site join first run = record {
  history = split (current run.history) (unused run.history) (1 + unused run.history) join first ∷ run.history;
  spawns = record { next = 1 + unused run.history; site = site } ∷ run.spawns;
  records = run.records;
  reads = run.reads;
}

-- the judge follows the run with the event: legal as it is, the event is the only one that answers the strand
abbrev pub FollowsCall : Judge → Run → Type 0
FollowsCall judge run = Follows judge (and_then (call (current run.history)) run)

abbrev pub FollowsSpawn : Judge → ℕ → Run → Type 0
FollowsSpawn judge site run = (join : ℕ) × (first : Bool) × Follows judge (with_spawn site join first run)

abbrev pub FollowsSync : Judge → Run → Type 0
FollowsSync judge run =
    Follows judge (and_then (same (current run.history)) run) ⊎
    ((join : ℕ) × Follows judge (and_then (joined (current run.history) join) run))

abbrev pub FollowsReturn : Judge → Run → Type 0
FollowsReturn judge run =
    Follows judge (and_then (resumed (current run.history)) run) ⊎ Follows judge (and_then (ended (current run.history)) run)
