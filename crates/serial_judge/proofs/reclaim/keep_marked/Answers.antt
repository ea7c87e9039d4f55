-- A marked record is kept behind the earlier ones.
use Rattle.std.proofs.Common.{◌∙◌, true, false, get_or, refl, sym, append-nil, arith}
use Rattle.model_serial_runs.specs.declared.access_kind.AccessKind.TheVariants.{Read}
use Rattle.serial_judge.proofs.Moving.{kept_moved}
use Rattle.serial_judge.proofs.reclaim.keep_marked.Goals as goal
use Rattle.serial_judge.proofs.reclaim.keep_marked.Goals.{then-mark, else-mark}

pub loop-i-preserved : goal.loop-i-preserved
loop-i-preserved g c = elim c.if-mark.branch [
  | then-mark w ↦ rw w.kept-is (record {
    kept = kept_moved c.args.marks.now c.args.records.now c.loop-i.kept.items w.push_reserved.new.self.items c.loop-i.i _ true _ _ (omega arith)
        c.requires.alike w.if-mark.true refl c.loop-i.invariant.kept w.push_reserved.ensures.items;
    few = omega (arith, w.push_reserved.ensures.len, c.loop-i.invariant.few);
    room = w.push_reserved.ensures.capacity ∙ c.loop-i.invariant.room;
  })
  | else-mark w ↦ rw w.kept-is (record {
    kept = kept_moved c.args.marks.now c.args.records.now c.loop-i.kept.items c.loop-i.kept.items c.loop-i.i _ false
        (get_or c.args.records.now c.loop-i.i (record { site = 0; kind = Read })) (record { site = 0; kind = Read }) (omega arith)
        c.requires.alike w.if-mark.false refl c.loop-i.invariant.kept (sym (append-nil c.loop-i.kept.items));
    few = omega (arith, c.loop-i.invariant.few);
    room = c.loop-i.invariant.room;
  })
]
