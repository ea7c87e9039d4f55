-- Workers as they are hired, and as the first of them begins.
use Rattle.std.specs.Prelude.{◌≡◌, ◌<◌, List, [], ◌∷◌, length, map, All}
use Rattle.steal_workers.specs.declared.pass_log.PassLog.{PassLog}
use Rattle.steal_workers.specs.declared.worker.Worker.{Worker}
use Rattle.steal_workers.specs.PassLogs.{pass_log}
use Rattle.steal_workers.specs.StealHandles.{own_view, AllLeadTo}
use Rattle.steal_workers.specs.Workers.{stations_of, owns_of, others_of}

-- the first owner has pushed the first strand, and nothing else was done
abbrev pub HaveRoot : List PassLog → Type 0
HaveRoot views = (rest : List PassLog) × (views ≡ pass_log (0 ∷ []) [] ∷ rest) × All (λ v. v ≡ pass_log [] []) rest

module _ {L A : Type 0} where
  abbrev pub own_hands : List (Worker L A) → List PassLog
  own_hands = map (λ worker. own_view worker.ends)

  -- they are some, each reaches the deques of all, and nothing was pushed yet
  abbrev pub IsReady : List (Worker L A) → Type 0
  IsReady workers =
      (0 < length workers)
      × AllLeadTo (owns_of (stations_of workers)) (others_of (stations_of workers))
      × All (λ v. v ≡ pass_log [] []) (own_hands workers)
