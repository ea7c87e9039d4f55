-- The new record is noted at its place.
use Rattle.std.proofs.Common.{◌∷◌, [], length-append, arith}
use Rattle.serial_judge.proofs.Writing.{noted-set}
use Rattle.serial_judge.proofs.records.Records.make.Goals as goal

pub invariant_of-self-in_err-push : goal.invariant_of-self-in_err-push
invariant_of-self-in_err-push g c =
    rw c.in_err-push.ensures.items (c.self.invariant.0, c.make_place.ensures.zeros c.self.inside.records.items c.self.invariant.1)

pub invariant_of-self-2 : goal.invariant_of-self-2
invariant_of-self-2 g c = rw c.in_ok-push.ensures.items (
  omega (arith, length-append c.self.inside.records.items (c.args.made ∷ [])),
  noted-set c.self.inside.records.items c.make_place.new.notes.items c.args.place c.len-number.result c.args.made
      (c.make_place.ensures.zeros c.self.inside.records.items c.self.invariant.1) c.requires.place
      (omega (arith, c.len-number.ensures, c.in_ok-push.ensures.len)) c.in_ok-make_place.ensures.longer,
)
