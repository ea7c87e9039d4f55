use Rattle.std.proofs.Common.{arith}
use Rattle.reducer_views.proofs.Slots.{gather_first, gather_odd, gather_even}
use Rattle.reducer_views.proofs.touched.+gather.Goals as goal

pub gather_in-returns-then-number-eq0-clause-touches : goal.gather_in-returns-then-number-eq0-clause-touches
gather_in-returns-then-number-eq0-clause-touches g t c = gather_first _ _ _ _ _ c.if-number-eq0.true c.gather.ensures

pub gather_in-returns-then-number-eq1-clause-touches : goal.gather_in-returns-then-number-eq1-clause-touches
gather_in-returns-then-number-eq1-clause-touches g t c = gather_odd _ _ _ _ _ (λ e. omega arith) c.if-number-eq1.true c.gather_behind.ensures

pub gather_in-returns-else-number-eq1-clause-touches : goal.gather_in-returns-else-number-eq1-clause-touches
gather_in-returns-else-number-eq1-clause-touches g t c = gather_even _ _ _ _ _ (λ e. omega arith) (λ e. omega arith) c.gather_behind-else-number-eq1.ensures
