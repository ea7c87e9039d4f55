-- Receipts of which one is answered with the run's end.
-- rs: receipts, or ls: logs; at: a place among them; r, or l: what stands there
use Rattle.std.proofs.Common.{◌≡◌, ℕ, ◌+◌, ◌<◌, Bool, true, false, List, length, take, get_or, Some, sym, ap, ◌∙◌}
use Rattle.std.specs.Prelude.{◌||◌}
use Rattle.std.specs.List.{list_any, slice_get}
use Rattle.std.proofs.lemmas.Option.{get_or_from_slice_get}
use Rattle.std.proofs.lemmas.List.Folds.{list_any_more, list_any_at}
use Rattle.model_histories.specs.declared.reply.Receipt.{Receipt}
use Rattle.locked_replay.specs.declared.worker.WorkerLog.{WorkerLog}
use Rattle.locked_replay.specs.Finishing.{finishes, some_finished}

abbrev ends_run : Receipt → Bool
ends_run receipt = finishes receipt.answer

pub none_more : (rs : List Receipt) (at : ℕ) (r : Receipt) → at < length rs → slice_get rs at ≡ Some r → ends_run r ≡ false →
    list_any ends_run (take at rs) ≡ false → list_any ends_run (take (at + 1) rs) ≡ false
none_more rs at r low is not before =
    list_any_more ends_run rs at r low ∙ ap (λ (b : Bool). b || ends_run (get_or rs at r)) before ∙
    ap ends_run (get_or_from_slice_get rs at r r is) ∙ not

pub some_here : (rs : List Receipt) (at : ℕ) (r : Receipt) → at < length rs → slice_get rs at ≡ Some r → ends_run r ≡ true → list_any ends_run rs ≡ true
some_here rs at r low is ends = list_any_at ends_run rs at r low (ap ends_run (get_or_from_slice_get rs at r r is) ∙ ends)

pub some_log : {L A : Type 0} (ls : List (WorkerLog L A)) (at : ℕ) (l : WorkerLog L A) → at < length ls → l ≡ get_or ls at l →
    list_any ends_run l.receipts.items ≡ true → some_finished ls ≡ true
some_log {L} {A} ls at l low is ends =
    let finished = λ (log : WorkerLog L A). list_any ends_run log.receipts.items in
    list_any_at finished ls at l low (ap finished (sym is) ∙ ends)
