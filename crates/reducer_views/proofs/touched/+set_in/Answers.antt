use Rattle.std.proofs.Common.{ap, ◌∙◌, arith}
use Rattle.reducer_views.specs.Touched.{column_from}
use Rattle.reducer_views.proofs.Slots.{enough, some_left, set_first, set_odd, set_even}
use Rattle.reducer_views.proofs.touched.+set_in.Goals as goal
use Rattle.reducer_views.proofs.touched.+set_in.Goals.{then-number-eq0, else-number-eq0+then-number-eq1, else-number-eq0+else-number-eq1}

pub take_first-slot-requires : goal.take_first-slot-requires
take_first-slot-requires g t c = some_left _ _ c.requires.room

pub set_in-requires : goal.set_in-requires
set_in-requires g t c κs within = (omega arith, (within, (enough _ _ _ (λ e. omega arith) c.requires.room c.take_first-slot.ensures.less, c.requires.place)))

pub set_in-requires-else-number-eq1 : goal.set_in-requires-else-number-eq1
set_in-requires-else-number-eq1 g t c κs within = (omega arith, (within, (enough _ _ _ (λ e. omega arith) c.requires.room c.take_first-slot.ensures.less, c.requires.place)))

pub returns : goal.returns
returns g t c = elim c.if-number-eq0.branch [
  | then-number-eq0 w ↦ rw w.slot-is (set_first _ _ _ _ _ (λ place number. ap (λ s. column_from s place number) w.deref_mut.ensures.value ∙ c.take_first-slot.ensures.same place number)
      _ w.if-number-eq0.true w.set.ensures)
  | else-number-eq0+then-number-eq1 w ↦ rw w.slot-is (set_odd _ _ _ _ _ (λ place number. ap (λ s. column_from s place number) w.deref_mut-then-number-eq1.ensures.value ∙ c.take_first-slot.ensures.same place number)
      _ (λ e. omega arith) w.if-number-eq1.true w.set_in.ensures)
  | else-number-eq0+else-number-eq1 w ↦ rw w.slot-is (set_even _ _ _ _ _ (λ place number. ap (λ s. column_from s place number) w.deref_mut-else-number-eq1.ensures.value ∙ c.take_first-slot.ensures.same place number)
      _ (λ e. omega arith) (λ e. omega arith) w.set_in-else-number-eq1.ensures)
]
