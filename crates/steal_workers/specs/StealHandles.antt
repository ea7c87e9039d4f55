-- Which deques a worker's ends are of, and what their passes have done.
use Rattle.std.specs.Prelude.{◌≡◌, ℕ, ◌+◌, List, [], ◌∷◌, All, map, Option, Some, None, Vec}
use Rattle.std.specs.List.{sum_by}
use Rattle.crossbeam_deque.specs.declared.handles.Worker as deque
use Rattle.crossbeam_deque.specs.Handles.{view, stealer_deque, worker_deque, worker_view}
use Rattle.steal_workers.specs.declared.task.Task.{Task}
use Rattle.steal_workers.specs.declared.pass_log.PassLog.{PassLog}
use Rattle.steal_workers.specs.declared.pass_log.Lossless.{Lossless}
use Rattle.steal_workers.specs.declared.steal_handle.StealHandle.{StealHandle}
use Rattle.steal_workers.specs.declared.worker_deques.WorkerDeques.{WorkerDeques}
use Rattle.steal_workers.specs.PassLogs.{joined, times}

-- which deque it is
abbrev pub Deque : Type 0 → Type 0
Deque A = (ℕ × ℕ) × A

abbrev pub Owner : Type 0 → Type 0
Owner A = deque.Worker (Task A) A PassLog Lossless

-- the deque at which it steals, and what its pass has done
abbrev pub deque_of : {A : Type 0} → StealHandle A → Deque A
deque_of reach = stealer_deque reach.thief

abbrev pub view_of : {A : Type 0} → StealHandle A → PassLog
view_of reach = view reach.hold

-- a worker's own deque, and what its owner knows
abbrev pub own_deque : {A : Type 0} → WorkerDeques A → Deque A
own_deque ends = worker_deque ends.owner

abbrev pub own_view : {A : Type 0} → WorkerDeques A → PassLog
own_view ends = worker_view ends.owner

abbrev pub views_of : {A : Type 0} → Vec (StealHandle A) A → List PassLog
views_of reaches = map view_of reaches.items

abbrev pub deques_of : {A : Type 0} → WorkerDeques A → List (Deque A)
deques_of ends = map deque_of ends.reaches.items

abbrev pub places_of : {A : Type 0} → List (WorkerDeques A) → List ℕ
places_of = map (λ ends. ends.place)

-- each of these leads to each of those deques, in order
abbrev pub AllLeadTo : {A : Type 0} → List (Deque A) → List (List (Deque A)) → Type 0
AllLeadTo owns others = All (λ deques. deques ≡ owns) others

-- the ends of the same deques
abbrev pub SameEnds : {A : Type 0} → WorkerDeques A → WorkerDeques A → Type 0
SameEnds old new = (new.place ≡ old.place) × (own_deque new ≡ own_deque old) × (deques_of new ≡ deques_of old)

-- what all passes of a worker have done
abbrev pub hands_of : {A : Type 0} → WorkerDeques A → List PassLog
hands_of ends = own_view ends ∷ views_of ends.reaches

-- how often these passes took a strand
abbrev pub taken_in : ℕ → List PassLog → ℕ
taken_in x views = sum_by (λ v. times x v.taken) views

-- a task that comes out was taken, once, and nothing else was
abbrev pub TakesFrom : {A : Type 0} → List PassLog → List PassLog → Option (Task A) → Type 0
TakesFrom before after None = (x : ℕ) → taken_in x after ≡ taken_in x before
TakesFrom before after (Some task) = (x : ℕ) → taken_in x after ≡ taken_in x before + times x (task.strand ∷ [])

-- what the owners know once each has the pass that these give back
abbrev pub joined_each : List PassLog → List PassLog → List PassLog
joined_each [] hands = []
joined_each (v ∷ vs) [] = v ∷ vs
joined_each (v ∷ vs) (w ∷ ws) = joined v w ∷ joined_each vs ws

-- and once all workers have given back theirs
abbrev pub joined_all : List PassLog → List (List PassLog) → List PassLog
joined_all views [] = views
joined_all views (hands ∷ rest) = joined_all (joined_each views hands) rest
