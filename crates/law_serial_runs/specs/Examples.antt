-- Worked serial runs, the newest event first, and what they show.
use Rattle.std.specs.Prelude.{◌≡◌, ℕ, List, [], ◌∷◌, true}
use Rattle.model_strands.specs.Address.{next}
use Rattle.model_strands.specs.Addresses.{address}
use Rattle.model_strands.specs.History.{split, joined, ended}
use Rattle.law_strands.specs.Examples.{waiting, two_spawns, newest, many_spawns}
use Rattle.model_serial_runs.specs.declared.access_kind.AccessKind.{AccessKind}
use Rattle.model_serial_runs.specs.declared.access_kind.AccessKind.TheVariants.{Read, Load, Update, Write}
use Rattle.model_serial_runs.specs.Current.{current, IsSerial}
use Rattle.law_serial_runs.specs.Accesses.{HasRaceAmong}
use Rattle.law_serial_runs.specs.Spawns.{passed_spawners}
use Rattle.law_serial_runs.specs.Told.{Step, controls, accesses, IsRun, moments_of}

-- the root function spawns, the child accesses location 0, and so does what goes on beside it
abbrev pub side_by_side : AccessKind → AccessKind → List Step
side_by_side one other =
    accesses 0 2 11 other ∷ controls (ended 1) ∷ accesses 0 1 10 one ∷ controls (split 0 1 2 3 true) ∷ []

-- and behind the sync
abbrev pub one_by_one : AccessKind → AccessKind → List Step
one_by_one one other =
    accesses 0 3 11 other ∷ controls (joined 2 3) ∷ controls (ended 1) ∷ accesses 0 1 10 one ∷ controls (split 0 1 2 3 true) ∷ []

-- what the worked runs show
pub record WorkedRuns : Type 0 where
  -- however many spawns one block has, a run that does each child first is serial, and goes on at the newest next
  pub serial : (more : ℕ) → IsSerial (many_spawns more)
  pub goes_on : (more : ℕ) → current (many_spawns more) ≡ newest more
  pub whole : IsSerial two_spawns
  -- a run that goes on beside a child before it has returned is not
  pub not_serial : IsSerial waiting → ⊥
  -- behind two children that have returned two spawners are passed, and behind the sync none
  pub two_passed : passed_spawners (address (many_spawns 1) 5) ≡ [] ∷ (next ∷ []) ∷ []
  pub none_passed : passed_spawners (address (many_spawns 1) 3) ≡ []
  -- the gate answers such runs
  pub are_runs : (one other : AccessKind) → IsRun 1 (side_by_side one other) × IsRun 1 (one_by_one one other)
  -- a write in a child races with a read beside it, and behind the sync it does not
  pub race : HasRaceAmong (moments_of (side_by_side Write Read) 0)
  pub no_race : (one other : AccessKind) → HasRaceAmong (moments_of (one_by_one one other) 0) → ⊥
  -- an atomic load races with a plain write, and not with an atomic update, with which a plain read races
  pub load_and_write : HasRaceAmong (moments_of (side_by_side Load Write) 0)
  pub load_and_update : HasRaceAmong (moments_of (side_by_side Load Update) 0) → ⊥
  pub read_and_update : HasRaceAmong (moments_of (side_by_side Read Update) 0)
