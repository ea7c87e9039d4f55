use Rattle.std.proofs.Common.{rules, ◌≡◌, ◌-◌, ap, sym, arith, ◌∙◌}
use Rattle.std.proofs.lemmas.Option.{get_or_from_slice_get}
use Rattle.model_histories.specs.declared.reply.Receipt.{Receipt}
use Rattle.packed_history.specs.Entries.{entry_of}
use Rattle.locked_replay.proofs.Marking.{astray_number, astray_other, astray_twice, marked_next}
use Rattle.locked_replay.proofs.Rising.{not_told, is_told}
use Rattle.locked_replay.proofs.receipts.mark.Goals.{then-number-eq0-via-then-number-eq0, then-number-eq0-via-else-number-eq0+then-number-len, then-marks-place-via-then-marks-place, then-marks-place-via-else-marks-place+then-not-is_of}
use Rattle.locked_replay.proofs.receipts.mark.Goals as goal

pub returns-then-number-eq0-clause-marks : goal.returns-then-number-eq0-clause-marks
returns-then-number-eq0-clause-marks g c met receipt is are =
    let number : receipt.number ≡ c.args.number = ap (λ (r : Receipt). r.number) (sym (get_or_from_slice_get c.args.receipts.now.items c.args.at receipt receipt is)) ∙ c.requires.number receipt in
    elim c.then-number-eq0.branch [
      | then-number-eq0-via-then-number-eq0 w ↦ astray_number c.args.entries.now.items met receipt (λ positive within. omega (arith, number, positive, w.if-number-eq0.true))
      | then-number-eq0-via-else-number-eq0+then-number-len w ↦ astray_number c.args.entries.now.items met receipt (λ positive within. omega (arith, number, within, w.if-number-len.true))
    ]

pub returns-then-marks-place-clause-marks : goal.returns-then-marks-place-clause-marks
returns-then-marks-place-clause-marks g c met receipt is are =
    let number : receipt.number ≡ c.args.number = ap (λ (r : Receipt). r.number) (sym (get_or_from_slice_get c.args.receipts.now.items c.args.at receipt receipt is)) ∙ c.requires.number receipt in
    elim c.then-marks-place.branch [
      | then-marks-place-via-then-marks-place w ↦ astray_twice c.args.marks.now c.args.entries.now.items met receipt (c.args.number - 1) _ (omega (arith, number, c.if-number-eq0.false)) (omega (arith, c.if-number-eq0.false, c.if-number-len.false)) w.if-marks-place.true are
      | then-marks-place-via-else-marks-place+then-not-is_of w ↦ astray_other c.args.entries.now.items met receipt (c.args.number - 1) (entry_of receipt) (omega (arith, number, c.if-number-eq0.false))
          (not_told c.args.receipts.now.items c.args.at receipt c.args.entries.now.items (c.args.number - 1) (entry_of receipt) is (omega (arith, c.if-number-eq0.false, c.if-number-len.false))
          (λ here. let told = w.is_of.ensures.1 here in search rules))
    ]

pub returns-clause-marks : goal.returns-clause-marks
returns-clause-marks g c met receipt is are =
    let number : receipt.number ≡ c.args.number = ap (λ (r : Receipt). r.number) (sym (get_or_from_slice_get c.args.receipts.now.items c.args.at receipt receipt is)) ∙ c.requires.number receipt in
    marked_next c.args.marks.now c.args.entries.now.items met receipt (c.args.number - 1) _ (entry_of receipt) (omega (arith, number, c.if-number-eq0.false)) (omega (arith, c.if-number-eq0.false, c.if-number-len.false))
    c.if-marks-place.false
    (is_told c.args.receipts.now.items c.args.at receipt c.args.entries.now.items (c.args.number - 1) (entry_of receipt) is (c.is_of.ensures.0 (search rules))) are
