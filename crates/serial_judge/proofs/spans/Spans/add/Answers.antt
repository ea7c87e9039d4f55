-- A span that is added behind the others.
use Rattle.serial_judge.proofs.Ascending.{ascending-push, added_push}
use Rattle.serial_judge.proofs.spans.Spans.add.Goals as goal

pub invariant_of-self-2 : goal.invariant_of-self-2
invariant_of-self-2 g c = (
  c.args.span.end,
  rw (c.in_ok-push.ensures.items, c.if-lengthen.ensures.same, c.self.view_is)
      (ascending-push 1 c.args.self.now c.args.span c.requires.ascending c.requires.order),
)

pub returns-clause-ok : goal.returns-clause-ok
returns-clause-ok g c =
    rw (c.in_ok-push.ensures.items, c.if-lengthen.ensures.same, c.self.view_is)
    (added_push c.args.self.now c.args.fixed c.args.span c.requires.ascending c.requires.order c.requires.fixed)
