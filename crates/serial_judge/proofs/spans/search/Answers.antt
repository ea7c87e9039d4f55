-- The first span that ends behind the number is the one that may have it.
use Rattle.std.proofs.Common.{◌∙◌, sym, arith}
use Rattle.serial_judge.proofs.Ascending.{more_before, more_behind, found_here, found_nowhere}
use Rattle.serial_judge.proofs.spans.search.Goals as goal
use Rattle.serial_judge.proofs.spans.search.Goals.{else-low-spans-via-then-low-spans+else-has, else-low-spans-via-else-low-spans}

pub loop-low-preserved-then-spans-middle : goal.loop-low-preserved-then-spans-middle
loop-low-preserved-then-spans-middle c = record {
  order = omega arith;
  within = c.loop-low.invariant.within;
  before = more_before c.args.spans.now c.requires.0 c.args.number c.requires.1 c.loop-low.low _ _ (omega arith) c.if-spans-middle.true;
  behind = c.loop-low.invariant.behind;
}

pub loop-low-preserved : goal.loop-low-preserved
loop-low-preserved c = record {
  order = omega arith;
  within = omega arith;
  before = c.loop-low.invariant.before;
  behind = more_behind c.args.spans.now c.requires.0 c.args.number c.requires.1 _ _ (omega arith) c.if-spans-middle.false;
}

pub returns-then-has : goal.returns-then-has
returns-then-has c = sym
    (found_here c.args.spans.now c.requires.0 c.args.number c.requires.1 c.loop-low.low c.loop-low.high _ c.loop-low-test.false c.loop-low.invariant.before
    c.loop-low.invariant.behind c.if-low-spans.true ∙ (sym c.has.ensures ∙ c.if-has.true))

pub returns-else-low-spans : goal.returns-else-low-spans
returns-else-low-spans c = sym (elim c.else-low-spans.branch [
  | else-low-spans-via-then-low-spans+else-has w ↦
      found_here c.args.spans.now c.requires.0 c.args.number c.requires.1 c.loop-low.low c.loop-low.high _ c.loop-low-test.false c.loop-low.invariant.before
      c.loop-low.invariant.behind w.if-low-spans.true ∙ (sym w.has.ensures ∙ w.if-has.false)
  | else-low-spans-via-else-low-spans w ↦
      found_nowhere c.args.spans.now c.requires.0 c.args.number c.requires.1 c.loop-low.low c.loop-low.invariant.before w.if-low-spans.false
])
