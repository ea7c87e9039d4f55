use Rattle.std.proofs.Common.{rules, sym, ◌∙◌}
use Rattle.packed_history.specs.Lists.{Listed}
use Rattle.model_histories.specs.declared.reply.Receipt.{Receipt}
use Rattle.locked_replay.proofs.Finished.{none_more, some_here}
use Rattle.locked_replay.proofs.finishing.has_finished.Goals as goal

pub loop-at-preserved : goal.loop-at-preserved
loop-at-preserved g c =
    let list : Listed = c.args.receipts.now in
    let receipt : Receipt = c.get.result in
    none_more list.items c.loop-at.at receipt (search rules) c.get.ensures (sym c.is_finishing.ensures ∙ c.if-is_finishing.false) c.loop-at.invariant

pub returns-then-is_finishing : goal.returns-then-is_finishing
returns-then-is_finishing g c =
    let list : Listed = c.args.receipts.now in
    let receipt : Receipt = c.get.result in
    sym (some_here list.items c.loop-at.at receipt (search rules) c.get.ensures (sym c.is_finishing.ensures ∙ c.if-is_finishing.true))
