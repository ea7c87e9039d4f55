-- Records that are kept, and their new numbers.
use Rattle.std.specs.Prelude.{◌≡◌, ◌⊎◌, ◌+◌, ◌<◌, ◌≤◌, ℕ, zero, suc, Bool, true, cond, List, [], ◌∷◌, map, length, slice_index, Option, Some, None}
use Rattle.model_serial_runs.specs.declared.access_kind.AccessKind.{AccessKind}
use Rattle.serial_judge.specs.declared.cell.Cell.{Cell}
use Rattle.serial_judge.specs.declared.scope.Scope.{Scope}
use Rattle.serial_judge.specs.declared.scope.Spawn.{Spawn}
use Rattle.serial_judge.specs.declared.spans.Span.{Span}
use Rattle.serial_judge.specs.Judge.{Judge}
use Rattle.serial_judge.specs.Numbers.{numbered}
use Rattle.serial_judge.specs.Remembers.{kept_number}
use Rattle.serial_judge.specs.Runs.{Run}

-- the items that are marked
abbrev pub marked : {X : Type 0} → List Bool → List X → List X
marked [] items = []
marked (mark ∷ marks) [] = []
marked (mark ∷ marks) (item ∷ items) = cond mark (item ∷ marked marks items) (marked marks items)

-- how many of the first ones are
abbrev pub rank : List Bool → ℕ → ℕ
rank [] place = 0
rank (mark ∷ marks) zero = 0
rank (mark ∷ marks) (suc place) = cond mark 1 0 + rank marks place

-- the number that a record gets, or what comes behind it
abbrev pub moved : List Bool → ℕ → ℕ
moved marks zero = 0
moved marks (suc place) = suc (rank marks place)

abbrev pub moved_span : List Bool → Span → Span
moved_span marks span = record { begin = moved marks span.begin; end = moved marks span.end; site = span.site }

abbrev pub moved_spawn : List Bool → Option Spawn → Option Spawn
moved_spawn marks None = None
moved_spawn marks (Some spawn) = Some (record { begin = moved marks spawn.begin; site = spawn.site })

abbrev pub moved_scope : List Bool → Scope → Scope
moved_scope marks scope =
    record { spawn = moved_spawn marks scope.spawn; spans = scope.spans; branch = scope.branch; block = scope.block }

abbrev pub moved_judge : List Bool → Judge → Judge
moved_judge marks judge = record {
  scopes = map (moved_scope marks) judge.scopes;
  spans = map (moved_span marks) judge.spans;
  records = marked marks judge.records;
  first = moved marks judge.first;
  events = judge.events;
  reads = judge.reads;
}

-- the cell with the new numbers
abbrev pub moved_cell : List Bool → Cell → Cell
moved_cell marks cell = record {
  latest = 0;
  writer = moved marks cell.writer;
  reader = moved marks cell.reader;
  updater = moved marks cell.updater;
  loader = moved marks cell.loader;
}

-- what the cell names is marked
abbrev pub IsMarked : List Bool → Cell → Type 0
IsMarked marks cell = (kind : AccessKind) → (kept_number cell kind ≡ 0) ⊎ (numbered marks (kept_number cell kind) ≡ Some true)

-- the list has the new number of each number, and of the one behind the last
pub record AreMoves (marks : List Bool) (numbers : List ℕ) : Type 0 where
  pub len : length numbers ≡ length marks + 2
  pub each : (number : ℕ) → number < length numbers → slice_index numbers number ≡ moved marks number

-- the number of a spawn is at most this one
abbrev pub IsSpawnWithin : ℕ → Option Spawn → Type 0
IsSpawnWithin high None = Unit {0}
IsSpawnWithin high (Some spawn) = spawn.begin ≤ high

-- the run with the records that are marked
abbrev pub moved_run : List Bool → Run → Run
moved_run marks run = record { history = run.history; spawns = run.spawns; records = marked marks run.records; reads = run.reads }
