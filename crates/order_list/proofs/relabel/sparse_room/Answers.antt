use Rattle.std.proofs.Common.{◌∙◌, refl, arith}
use Rattle.std.proofs.lemmas.Nat.{and_le_l}
use Rattle.order_list.proofs.Stretches.{stretch-whole, room-whole}
use Rattle.order_list.proofs.relabel.sparse_room.Goals as goal

pub returns-clause-stretch : goal.returns-clause-stretch
returns-clause-stretch g c = rw c.len.ensures (stretch-whole c.args.ring.now.tied.chain c.args.item c.requires.known)

pub returns-clause-room : goal.returns-clause-room
returns-clause-room g c = rw c.len.ensures (room-whole c.args.ring.now.tied.chain c.args.labels.now c.args.item (omega (arith, c.args.ring.now.few, c.args.ring.now.next.ok, c.args.ring.now.tied.chain.next_len)))

pub returns-then-count-high-clause-room : goal.returns-then-count-high-clause-room
returns-then-count-high-clause-room g c = record {
  before = rw c.widen_ahead-stretch.ensures.first c.widen_back-stretch.ensures.before;
  behind = c.widen_ahead-stretch.ensures.behind;
  fits = omega arith;
}

pub bounds-labels-item : goal.bounds-labels-item
bounds-labels-item g c = omega (arith, c.requires.known, c.requires.was_rising.labels_len)

pub overflow_sub-low : goal.overflow_sub-low
overflow_sub-low g c = and_le_l _ _

pub loop-bits-init : goal.loop-bits-init
loop-bits-init g c =
    let inside = c.args.ring.now.tied.chain.listing c.args.item c.requires.known in
    record {
      stretch = record { first_known = c.requires.known; end_is = c.next.ensures.value; within = omega (arith, inside); from = omega arith; to = omega arith };
      item = refl;
    }

pub widen_back-stretch-requires-clause-labels_len : goal.widen_back-stretch-requires-clause-labels_len
widen_back-stretch-requires-clause-labels_len g c = c.requires.was_rising.labels_len

pub widen_back-stretch-requires-clause-stretch : goal.widen_back-stretch-requires-clause-stretch
widen_back-stretch-requires-clause-stretch g c = c.loop-bits.invariant.stretch

pub widen_ahead-stretch-requires-clause-labels_len : goal.widen_ahead-stretch-requires-clause-labels_len
widen_ahead-stretch-requires-clause-labels_len g c = c.requires.was_rising.labels_len

pub widen_ahead-stretch-requires-clause-stretch : goal.widen_ahead-stretch-requires-clause-stretch
widen_ahead-stretch-requires-clause-stretch g c = c.widen_back-stretch.ensures.stretch

pub returns-then-count-high-clause-item : goal.returns-then-count-high-clause-item
returns-then-count-high-clause-item g c =
    c.widen_ahead-stretch.ensures.item ∙ (c.widen_back-stretch.ensures.item ∙ c.loop-bits.invariant.item)

pub loop-bits-preserved : goal.loop-bits-preserved
loop-bits-preserved g c = record {
  stretch = c.widen_ahead-stretch.ensures.stretch;
  item = c.widen_ahead-stretch.ensures.item ∙ (c.widen_back-stretch.ensures.item ∙ c.loop-bits.invariant.item);
}
