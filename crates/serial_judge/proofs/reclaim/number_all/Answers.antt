-- Each number has its new one.
use Rattle.std.proofs.Common.{◌≡◌, ◌∙◌, ◌+◌, ◌++◌, ◌∷◌, [], suc, true, false, length, sym, ap, add-zero, length-append, arith}
use Rattle.serial_judge.specs.Moves.{moved}
use Rattle.serial_judge.proofs.Moving.{moved-one, each_pushed, next_moved}
use Rattle.serial_judge.proofs.reclaim.number_all.Goals as goal
use Rattle.serial_judge.proofs.reclaim.number_all.Goals.{then-mark, else-mark}

pub loop-mark-init : goal.loop-mark-init
loop-mark-init g c =
    let items : c.push_reserved.new.self.items ≡ 0 ∷ [] = c.push_reserved.ensures.items ∙ ap (λ z. z ++ 0 ∷ []) c.requires.none in
    let none : length c.args.numbers.now.items ≡ 0 = ap length c.requires.none in
    record {
      next_is = sym (moved-one c.args.marks.now);
      small = omega arith;
      len = ap length items;
      vec = omega (arith, ap length items);
      each = each_pushed c.args.marks.now c.args.numbers.now.items c.push_reserved.new.self.items 0 c.push_reserved.ensures.items
          (sym (ap (moved c.args.marks.now) none)) (λ k lt. absurd (omega (arith, none)));
      room = c.push_reserved.ensures.capacity;
    }

pub loop-mark-preserved : goal.loop-mark-preserved
loop-mark-preserved g c =
    let count : length c.push_reserved-in-loop-mark.new.self.items ≡ suc (c.loop-mark.mark-index + 1) =
    omega (arith, ap length c.push_reserved-in-loop-mark.ensures.items, length-append c.loop-mark.numbers.items (c.loop-mark.next ∷ []), c.loop-mark.invariant.len) in
    let each = each_pushed c.args.marks.now c.loop-mark.numbers.items c.push_reserved-in-loop-mark.new.self.items c.loop-mark.next
    c.push_reserved-in-loop-mark.ensures.items (c.loop-mark.invariant.next_is ∙ sym (ap (moved c.args.marks.now) c.loop-mark.invariant.len)) c.loop-mark.invariant.each in
    elim c.if-mark.branch [
      | then-mark w ↦ record {
        next_is = w.next-is ∙ next_moved c.args.marks.now c.loop-mark.mark-index c.loop-mark.next _ true (omega arith) w.if-mark.true c.loop-mark.invariant.next_is;
        small = omega arith;
        len = count;
        vec = omega (arith, c.push_reserved-in-loop-mark.ensures.len, c.loop-mark.invariant.vec);
        each = each;
        room = c.push_reserved-in-loop-mark.ensures.capacity ∙ c.loop-mark.invariant.room;
      }
      | else-mark w ↦ record {
        next_is = w.next-is ∙ (sym (add-zero c.loop-mark.next) ∙
            next_moved c.args.marks.now c.loop-mark.mark-index c.loop-mark.next _ false (omega arith) w.if-mark.false c.loop-mark.invariant.next_is);
        small = omega arith;
        len = count;
        vec = omega (arith, c.push_reserved-in-loop-mark.ensures.len, c.loop-mark.invariant.vec);
        each = each;
        room = c.push_reserved-in-loop-mark.ensures.capacity ∙ c.loop-mark.invariant.room;
      }
    ]
