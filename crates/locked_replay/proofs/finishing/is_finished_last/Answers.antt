use Rattle.std.proofs.Common.{sym, ◌∙◌}
use Rattle.std.proofs.lemmas.Option.{slice_get_within}
use Rattle.packed_history.specs.Lists.{Listed}
use Rattle.model_histories.specs.declared.reply.Receipt.{Receipt}
use Rattle.locked_replay.proofs.Finished.{some_here}
use Rattle.locked_replay.proofs.finishing.is_finished_last.Goals as goal

pub returns : goal.returns
returns g c ends =
    let list : Listed = c.args.receipts.now in
    let receipt : Receipt = c.get.result in
    some_here list.items _ receipt (slice_get_within list.items _ receipt c.get.ensures) c.get.ensures (sym c.is_finishing.ensures ∙ ends)
