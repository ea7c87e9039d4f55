use Rattle.std.proofs.Common.{List, sym, subst}
use Rattle.model_histories.specs.declared.answer.Entry.{Entry}
use Rattle.model_histories.specs.Legal.{IsLegal}
use Rattle.call_tests.proofs.tellings.drawings.draw_history.Goals as goal

pub draw-requires : goal.draw-requires
draw-requires c = (
  c.args.gate.now.shape,
  subst (λ (xs : List Entry). IsLegal c.args.gate.now.shape xs) (sym c.history.ensures.entries) c.history.ensures.judged.legal,
)
