-- Behind the last span there is none, and what is in it is held.
use Rattle.std.proofs.Common.{sym}
use Rattle.serial_judge.proofs.Ascending.{behind_last, in_last}
use Rattle.serial_judge.proofs.spans.Spans.find.Goals as goal

pub returns-then-number-last : goal.returns-then-number-last
returns-then-number-last g c =
    rw (sym c.self.view_is, sym c.deref.ensures.value)
    (sym (behind_last c.deref.result.now c.self.invariant.0 c.args.number c.in_ok-last.field-0.now (rw c.deref.ensures.value c.self.invariant.1)
    c.in_ok-last.ensures.value c.if-number-last.true))

pub returns-then-number-last-2 : goal.returns-then-number-last-2
returns-then-number-last-2 g c =
    rw (sym c.self.view_is, sym c.deref.ensures.value)
    (sym (in_last c.deref.result.now c.self.invariant.0 c.args.number c.in_ok-last.field-0.now (rw c.deref.ensures.value c.self.invariant.1)
    c.in_ok-last.ensures.value c.if-number-last.false c.if-number-last-2.true))
