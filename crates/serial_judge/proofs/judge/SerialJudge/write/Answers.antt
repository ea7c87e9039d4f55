-- A race is one with what is kept of any kind.
use Rattle.std.proofs.Common.{refl}
use Rattle.serial_judge.proofs.Writing.{write_answer}
use Rattle.serial_judge.proofs.judge.SerialJudge.write.Goals as goal

pub returns : goal.returns
returns g c =
    write_answer c.args.self.now.spans c.args.self.now.records c.args.cell c.args.number c.find.result c.find-2.result c.find-3.result c.find-4.result
    (record { found = c.find.ensures.found; is = c.find.ensures.race }) (record { found = c.find-2.ensures.found; is = c.find-2.ensures.race })
    (record { found = c.find-3.ensures.found; is = c.find-3.ensures.race }) (record { found = c.find-4.ensures.found; is = c.find-4.ensures.race })
    _ (rw (c.either.ensures, c.either-plain.ensures, c.either-atomic.ensures) refl) c.kept.ensures c.kept-2.ensures c.kept-3.ensures c.kept-4.ensures refl
