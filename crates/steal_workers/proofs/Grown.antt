-- What is said of each of some items, and of one more.
-- xs: items of one kind, and x: one more; zs and z: those of another that stand beside them
use Rattle.std.proofs.Common.{◌≡◌, ◌+◌, List, [], ◌∷◌, ◌++◌, map, length, sym, ap, arith, ◌∙◌}
use Rattle.std.specs.List.{sum_by}
use Rattle.std.proofs.lemmas.List.{map-append, length-append}
use Rattle.std.proofs.lemmas.List.Sums.{sum_by_push}
use Rattle.std.proofs.lemmas.List.Concat.{flat_map-append}
use Rattle.locked_replay.specs.declared.worker.WorkerLog.{WorkerLog}
use Rattle.locked_replay.specs.Logs.{all_receipts, all_asked}
use Rattle.steal_workers.specs.declared.worker.Worker.{Worker}

pub said_more : {X Y Z : Type 0} (f : X → Y) (g : Z → Y) (xs after : List X) (x : X) (zs : List Z) (z : Z) → after ≡ xs ++ x ∷ [] → map f xs ≡ map g zs → f x ≡ g z
    → map f after ≡ map g (zs ++ z ∷ [])
said_more f g xs after x zs z push before here =
    ap (map f) push ∙ map-append f xs (x ∷ []) ∙ ap (λ ys. ys ++ f x ∷ []) before ∙ ap (λ y. map g zs ++ y ∷ []) here ∙ sym (map-append g zs (z ∷ []))

-- where it is said of what was made of the others
pub said_through : {W X Y Z : Type 0} (f : X → Y) (h : W → Y) (g : Z → W) (xs after : List X) (x : X) (zs : List Z) (z : Z) → after ≡ xs ++ x ∷ [] → map f xs ≡ map h (map g zs)
    → f x ≡ h (g z) → map f after ≡ map h (map g (zs ++ z ∷ []))
said_through f h g xs after x zs z push before here =
    said_more f h xs after x (map g zs) (g z) push before here ∙ ap (map h) (sym (map-append g zs (z ∷ [])))

module _ {L A : Type 0} where
  -- so it is with what was asked
  pub asked_more : (logs after : List (WorkerLog L A)) (log : WorkerLog L A) (workers : List (Worker L A)) (worker : Worker L A) → after ≡ logs ++ log ∷ []
      → all_asked logs ≡ sum_by (λ w. w.before) workers + length (all_receipts logs)
      → log.seat.asked ≡ worker.before + length log.receipts.items
      → all_asked after ≡ sum_by (λ w. w.before) (workers ++ worker ∷ []) + length (all_receipts after)
  asked_more logs after log workers worker push before here =
      let asked : all_asked after ≡ all_asked logs + log.seat.asked = ap all_asked push ∙ sum_by_push (λ (l : WorkerLog L A). l.seat.asked) logs log in
      let had : sum_by (λ w. w.before) (workers ++ worker ∷ []) ≡ sum_by (λ w. w.before) workers + worker.before = sum_by_push (λ (w : Worker L A). w.before) workers worker in
      let told : length (all_receipts after) ≡ length (all_receipts logs) + length log.receipts.items =
      ap (λ l. length (all_receipts l)) push ∙ ap length (flat_map-append (λ (l : WorkerLog L A). l.receipts.items) logs (log ∷ [])) ∙ length-append (all_receipts logs) (log.receipts.items ++ [])
      ∙ ap (λ n. length (all_receipts logs) + n) (length-append log.receipts.items [] ∙ omega arith) in
      omega (arith, asked, had, told, before, here)
