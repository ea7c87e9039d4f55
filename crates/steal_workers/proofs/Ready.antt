-- Workers that begin, and that have come back.
use Rattle.std.proofs.Common.{◌≡◌, ◌<◌, Bool, List, [], ◌∷◌, length, get_or, map, set, sym, subst, ap, arith, ◌∙◌}
use Rattle.std.specs.Prelude.{All, slice_index_or, remove}
use Rattle.std.specs.List.{sum_by}
use Rattle.std.proofs.lemmas.List.{length-map, map-set, get_or-map}
use Rattle.std.proofs.lemmas.List.Elements.{All-head, All-tail}
use Rattle.std.proofs.lemmas.Simd.{map-map}
use Rattle.locked_replay.specs.declared.worker.WorkerLog.{WorkerLog}
use Rattle.packed_history.specs.Lists.{Listed}
use Rattle.std.specs.List.{list_any}
use Rattle.steal_workers.specs.declared.pass_log.PassLog.{PassLog}
use Rattle.steal_workers.specs.declared.worker_deques.WorkerDeques.{WorkerDeques}
use Rattle.steal_workers.specs.declared.worker.Worker.{Worker}
use Rattle.steal_workers.specs.Beginning.{own_hands, HaveRoot, IsReady}
use Rattle.steal_workers.specs.Ending.{saw_end}
use Rattle.locked_replay.specs.Finishing.{finishes, some_finished}
use Rattle.steal_workers.specs.PassLogs.{pass_log, pushing}
use Rattle.steal_workers.specs.StealHandles.{own_deque, own_view, deques_of, AllLeadTo}
use Rattle.steal_workers.specs.Workers.{station_of, stations_of, owns_of, others_of}
use Rattle.steal_workers.proofs.Sums.{sum_by-map, list_any-map}

-- the first of some idle owners pushes the first strand
pub root_lies : (views : List PassLog) (d : PassLog) → 0 < length views → All (λ v. v ≡ pass_log [] []) views → HaveRoot (set views 0 (pushing 0 (get_or views 0 d)))
root_lies [] d some idle = absurd (omega (arith, some))
root_lies (v ∷ vs) d some idle = (vs, ap (λ u. pushing 0 u ∷ vs) (All-head (λ v. v ≡ pass_log [] []) v vs idle), All-tail (λ v. v ≡ pass_log [] []) v vs idle)

-- those that are left behind the first
pub behind_first : {X : Type 0} (xs rest : List X) (x : X) → 0 < length xs → x ≡ slice_index_or xs 0 x → rest ≡ remove xs 0 → xs ≡ x ∷ rest
behind_first [] rest x some value items = absurd (omega (arith, some))
behind_first (y ∷ ys) rest x some value items = ap (λ z. z ∷ ys) (sym value) ∙ ap (λ zs. x ∷ zs) (sym items)

module _ {L A : Type 0} where
  -- so it is where the first of some ready workers begins
  pub root_begun : (workers : List (Worker L A)) (here new : Worker L A) → IsReady workers → here ≡ get_or workers 0 here → own_view new.ends ≡ pushing 0 (own_view here.ends) → HaveRoot (own_hands (set workers 0 new))
  root_begun workers here new is value pushed =
      let hands = own_hands workers in
      let some : 0 < length hands = omega (arith, length-map workers (λ worker. own_view worker.ends), is.0) in
      let had : own_view here.ends ≡ get_or hands 0 (own_view here.ends) = ap (λ worker. own_view worker.ends) value ∙ sym (get_or-map (λ worker. own_view worker.ends) workers 0 here (own_view here.ends) is.0) in
      let after : own_hands (set workers 0 new) ≡ set hands 0 (pushing 0 (get_or hands 0 (own_view here.ends))) = map-set (λ worker. own_view worker.ends) workers 0 new ∙ ap (set hands 0) (pushed ∙ ap (pushing 0) had) in
      subst HaveRoot (sym after) (root_lies hands (own_view here.ends) some is.2)

  -- workers that were given the ends of all deques are ready
  pub ready : (workers : List (Worker L A)) (all : List (WorkerDeques A)) → map (λ w. w.ends) workers ≡ all → 0 < length all → AllLeadTo (map own_deque all) (map deques_of all) → All (λ v. v ≡ pass_log [] []) (map own_view all) → IsReady workers
  ready workers all given some lead idle =
      let owns : map own_deque all ≡ owns_of (stations_of workers) = ap (map own_deque) (sym given) ∙ map-map own_deque (λ w. w.ends) workers ∙ sym (map-map (λ s. s.own) station_of workers) in
      let others : map deques_of all ≡ others_of (stations_of workers) = ap (map deques_of) (sym given) ∙ map-map deques_of (λ w. w.ends) workers ∙ sym (map-map (λ s. s.others) station_of workers) in
      let hands : map own_view all ≡ own_hands workers = ap (map own_view) (sym given) ∙ map-map own_view (λ w. w.ends) workers in (
        omega (arith, ap length given, length-map workers (λ w. w.ends), some),
        subst (λ ds. All (λ deques. deques ≡ ds) (others_of (stations_of workers))) owns (subst (AllLeadTo (map own_deque all)) others lead),
        subst (All (λ v. v ≡ pass_log [] [])) hands idle,
      )

  -- as many come back, and they had asked as much before
  pub same_many : (workers back : List (Worker L A)) → stations_of back ≡ stations_of workers → length back ≡ length workers
  same_many workers back same = omega (arith, ap length same, length-map workers station_of, length-map back station_of)

  pub same_before : (workers back : List (Worker L A)) → stations_of back ≡ stations_of workers → sum_by (λ w. w.before) back ≡ sum_by (λ w. w.before) workers
  same_before workers back same = sym (sum_by-map (λ s. s.before) station_of back) ∙ ap (sum_by (λ s. s.before)) same ∙ sum_by-map (λ s. s.before) station_of workers

  -- the run's end is seen in the logs as in the workers
  pub same_end : (workers : List (Worker L A)) (logs : List (WorkerLog L A)) → map (λ log. log.receipts) logs ≡ map (λ worker. worker.receipts) workers → some_finished logs ≡ saw_end workers
  same_end workers logs same =
      let ended : Listed → Bool = λ receipts. list_any (λ receipt. finishes receipt.answer) receipts.items in
      sym (list_any-map ended (λ log. log.receipts) logs) ∙ ap (list_any ended) same ∙ list_any-map ended (λ worker. worker.receipts) workers
