-- What a worker keeps, and what it does at a request.
use Rattle.std.specs.Prelude.{◌≡◌, ◌⊎◌, ℕ, List, [], ◌∷◌, ◌++◌, map, Some}
use Rattle.model_accesses.specs.declared.request.Request.{Request}
use Rattle.model_histories.specs.declared.answer.Answer.{Answer}
use Rattle.model_histories.specs.declared.answer.Answer.TheVariants.{Split, Waits, EndedJoined}
use Rattle.model_histories.specs.declared.reply.Receipt.{Receipt}
use Rattle.model_programs.specs.Exchanges.{Exchange}
use Rattle.frame_steps.specs.Frames.{IsAfter, CanFollow}
use Rattle.locked_replay.specs.declared.fault.RunFault.TheVariants.{Torn}
use Rattle.steal_workers.specs.declared.task.Task.{Task}
use Rattle.steal_workers.specs.declared.worker.Worker.{Worker}
use Rattle.steal_workers.specs.StealHandles.{Deque, own_deque, deques_of}

-- the answers at which a task comes to a join, or the last child that ends there
abbrev pub MeetsJoin : Answer → Type 0
MeetsJoin answer = (answer ≡ Waits) ⊎ ((join : ℕ) × (answer ≡ EndedJoined join))

-- the last of these receipts is answered so
abbrev pub EndsAtJoin : List Receipt → Type 0
EndsAtJoin receipts = (before : List Receipt) × (receipt : Receipt) × (receipts ≡ before ++ receipt ∷ []) × MeetsJoin receipt.answer

-- what a worker began with: how much was asked on its seat, its place, and the deques of its ends
pub record Station (A : Type 0) : Type 0 where
  pub before : ℕ
  pub place : ℕ
  pub own : Deque A
  pub others : List (Deque A)

abbrev pub owns_of : {A : Type 0} → List (Station A) → List (Deque A)
owns_of = map (λ station. station.own)

abbrev pub others_of : {A : Type 0} → List (Station A) → List (List (Deque A))
others_of = map (λ station. station.others)

module _ {L A : Type 0} where
  abbrev pub station_of : Worker L A → Station A
  station_of worker = record {
    before = worker.before;
    place = worker.ends.place;
    own = own_deque worker.ends;
    others = deques_of worker.ends;
  }

  abbrev pub stations_of : List (Worker L A) → List (Station A)
  stations_of = map station_of

  -- a join that was met twice shows in what the worker was told last
  abbrev pub TornAtJoin : Worker L A → Type 0
  TornAtJoin worker = worker.fault ≡ Some Torn → EndsAtJoin worker.receipts.items

-- the only request that the function of a task can go on with
abbrev pub IsWanted : {A : Type 0} → Task A → Request → Type 0
IsWanted task request =
    (function argument : ℕ) (history : List Exchange) (x : Exchange)
    → IsAfter task.program.now.functions function argument history task.frame.value
    → CanFollow task.program.now.functions function argument history x
    → (x.act ≡ request.act) × (x.line ≡ request.line)

-- a receipt was kept of what the task asks next, on its strand
abbrev pub AsksFor : {A : Type 0} → Task A → List Receipt → List Receipt → Type 0
AsksFor task before after =
    (receipt : Receipt) × (after ≡ before ++ receipt ∷ []) × (receipt.request.strand ≡ task.strand) × IsWanted task receipt.request

-- the strand of a child that a spawn has begun
abbrev pub child_of : Answer → List ℕ
child_of (Split strands) = strands.child ∷ []
child_of _ = []
