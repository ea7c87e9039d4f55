use Rattle.std.proofs.Common.{◌≡◌, List, Result, Err, inl, inr, sym, ap, ◌∙◌}
use Rattle.model_accesses.specs.declared.request.Request.{Request}
use Rattle.model_histories.specs.declared.reply.Receipt.{Receipt}
use Rattle.model_histories.specs.declared.fault.GateFault.{GateFault}
use Rattle.model_histories.specs.declared.fault.GateFault.TheVariants as gate
use Rattle.locked_replay.specs.declared.fault.RunFault.{RunFault}
use Rattle.locked_replay.specs.declared.fault.RunFault.TheVariants.{Torn, Strange}
use Rattle.locked_replay.specs.Asking.{fault_of, KeepsReceipt}
use Rattle.steal_workers.specs.Workers.{AsksFor}
use Rattle.steal_workers.proofs.Asking.{err_is, on_ok, ends_at_join}
use Rattle.steal_workers.proofs.worker.Worker.step.Goals as goal

pub returns-clause-asks : goal.returns-clause-asks
returns-clause-asks g c =
    let next = c.in_ok-next in
    let kept = c.in_ok-answer.ensures.kept in
    let receipt : Receipt = record { number = kept.0; request = next.next.request; answer = c.in_ok-answer.answer } in
    on_ok c.follow.result (AsksFor c.args.task.now c.args.self.now.receipts.items c.follow.new.self.receipts.items) (receipt, ap (λ receipts. receipts.items) c.follow.ensures.receipts ∙ kept.1, next.ensures.on, next.ensures.wanted)

pub returns-clause-joins : goal.returns-clause-joins
returns-clause-joins g c =
    let kept = c.in_ok-answer.ensures.kept in
    let receipt : Receipt = record { number = kept.0; request = c.in_ok-next.next.request; answer = c.in_ok-answer.answer } in
    ends_at_join c.follow.result c.follow.new.self.receipts.items c.args.self.now.receipts.items receipt (ap (λ receipts. receipts.items) c.follow.ensures.receipts ∙ kept.1) c.follow.ensures.joins

pub returns-clause-torn : goal.returns-clause-torn
returns-clause-torn g c torn = absurd (c.follow.ensures.torn torn)

-- Torn is no fault of a gate
gate_torn : {P : Type 0} (cause : GateFault) → fault_of cause ≡ Torn → P
gate_torn gate.Stopped torn = absurd (cc)
gate_torn gate.Limit torn = absurd (cc)
gate_torn gate.NotRunning torn = absurd (cc)
gate_torn gate.BadName torn = absurd (cc)
gate_torn gate.Unsynced torn = absurd (cc)
gate_torn gate.Memory torn = absurd (cc)

asked_torn : {P : Type 0} (request : Request) (before after : List Receipt) (fault : RunFault) → KeepsReceipt request before after (Err fault) → fault ≡ Torn → P
asked_torn request before after fault (inl refused) torn = gate_torn refused.1.0 (sym refused.1.1 ∙ torn)
asked_torn request before after fault (inr other) torn = let strange : Strange ≡ Torn = sym other.0 ∙ torn in absurd (cc)

same_fault : {T : Type 0} (result : Result T RunFault) (fault other : RunFault) → result ≡ Err fault → result ≡ Err other → fault ≡ other
same_fault result fault other one two = cc

pub returns-in_err-answer-clause-torn : goal.returns-in_err-answer-clause-torn
returns-in_err-answer-clause-torn g c torn =
    let fault = c.in_err-answer.field-0.0 in
    let told : c.from_residual-in_err-answer.result ≡ Err fault = err_is _ fault c.from_residual-in_err-answer.ensures.1 in
    asked_torn _ _ _ fault c.in_err-answer.ensures.kept (same_fault _ fault Torn told torn)

pub returns-in_err-next-clause-torn : goal.returns-in_err-next-clause-torn
returns-in_err-next-clause-torn g c torn =
    let fault = c.in_err-next.field-0.0 in
    let told : c.from_residual.result ≡ Err fault = err_is _ fault c.from_residual.ensures.1 in
    absurd (c.in_err-next.ensures.err (same_fault _ fault Torn told torn))
