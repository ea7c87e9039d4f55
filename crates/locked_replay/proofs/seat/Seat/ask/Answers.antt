use Rattle.std.proofs.Common.{rules, ◌≡◌, inl, inr, ◌∷◌, ◌++◌, [], length, true≢false, refl, sym, ap, ◌∙◌, arith}
use Rattle.std.proofs.lemmas.List.{length-append}
use Rattle.std.proofs.lemmas.Result.{err_from_is_err_and}
use Rattle.model_accesses.specs.declared.request.Request.{Request}
use Rattle.model_histories.specs.declared.fault.GateFault.TheVariants as gate
use Rattle.locked_replay.proofs.seat.Seat.ask.Goals as goal

pub returns-then-is_same_request-clause-kept : goal.returns-then-is_same_request-clause-kept
returns-then-is_same_request-clause-kept g c =
    let receipt = c.in_ok-receipt.receipt in
    let same : receipt.request ≡ c.args.request = search rules in
    let kept : c.push_reserved.new.self.items ≡ c.args.receipts.now.items ++ receipt ∷ [] = search rules in
    (receipt.number, kept ∙ ap (λ (request : Request). c.args.receipts.now.items ++ record { number = receipt.number; request = request; answer = receipt.answer } ∷ []) same)

pub returns-then-is_same_request-clause-counted : goal.returns-then-is_same_request-clause-counted
returns-then-is_same_request-clause-counted g c =
    let receipt = c.in_ok-receipt.receipt in
    let kept : c.push_reserved.new.self.items ≡ c.args.receipts.now.items ++ receipt ∷ [] = search rules in
    omega (arith, c.in_ok-receipt.ensures.asked, ap length kept, length-append c.args.receipts.now.items (receipt ∷ []))

pub returns-else-is_same_request-clause-kept : goal.returns-else-is_same_request-clause-kept
returns-else-is_same_request-clause-kept g c =
    let receipt = c.in_ok-receipt.receipt in
    let kept : c.push_reserved.new.self.items ≡ c.args.receipts.now.items ++ receipt ∷ [] = search rules in
    inr (refl, (receipt, kept, λ same. true≢false (sym (c.is_same_request.ensures.1 same) ∙ c.if-is_same_request.false)))

pub returns-else-is_same_request-clause-counted : goal.returns-else-is_same_request-clause-counted
returns-else-is_same_request-clause-counted g c =
    let receipt = c.in_ok-receipt.receipt in
    let kept : c.push_reserved.new.self.items ≡ c.args.receipts.now.items ++ receipt ∷ [] = search rules in
    omega (arith, c.in_ok-receipt.ensures.asked, ap length kept, length-append c.args.receipts.now.items (receipt ∷ []))

pub returns-in_err-receipt-clause-kept : goal.returns-in_err-receipt-clause-kept
returns-in_err-receipt-clause-kept g c =
    let told = err_from_is_err_and c.from_residual-in_err-receipt.result c.from_residual-in_err-receipt.ensures.1 in
    let same : c.reserve.new.self.items ≡ c.args.receipts.now.items = search rules in
    rw told.1 (inl (same, (c.in_err-receipt.field-0.0, told.2)))

pub returns-in_err-reserve-clause-kept : goal.returns-in_err-reserve-clause-kept
returns-in_err-reserve-clause-kept g c =
    let told = err_from_is_err_and c.from_residual.result c.from_residual.ensures.1 in
    let same : c.reserve.new.self.items ≡ c.args.receipts.now.items = search rules in
    rw told.1 (inl (same, (gate.Memory, told.2)))
