-- A theft raises what the passes of a worker took by one.
use Rattle.std.proofs.Common.{◌≡◌, ℕ, ◌+◌, ◌<◌, List, [], ◌∷◌, length, set, get_or, arith}
use Rattle.std.proofs.lemmas.List.Sums.{sum_by-set}
use Rattle.steal_workers.specs.declared.pass_log.PassLog.{PassLog}
use Rattle.steal_workers.specs.PassLogs.{taking, times}
use Rattle.steal_workers.specs.StealHandles.{taken_in}
use Rattle.steal_workers.proofs.Balances.{times-append}

pub taken_once : (x : ℕ) (views : List PassLog) (place strand : ℕ) (d : PassLog) → place < length views
    → taken_in x (set views place (taking strand (get_or views place d))) ≡ taken_in x views + times x (strand ∷ [])
taken_once x views place strand d within =
    let old = get_or views place d in
    let after = sum_by-set (λ v. times x v.taken) views place (taking strand old) d within in
    omega (arith, after, times-append x old.taken (strand ∷ []))
