use Rattle.std.proofs.Common.{arith}
use Rattle.std.proofs.lemmas.Option.{slice_get_within}
use Rattle.frame_steps.proofs.Places.{item_of}
use Rattle.frame_steps.proofs.activation.Activation.function_in.Goals as goal

pub bounds-as_slice-self : goal.bounds-as_slice-self
bounds-as_slice-self g c = rw c.as_slice.ensures (slice_get_within c.args.program.now.functions c.args.self.now.function c.requires.place.code c.requires.place.known)

pub offset_bounds-as_slice-self : goal.offset_bounds-as_slice-self
offset_bounds-as_slice-self g c = omega (arith, bounds-as_slice-self g c)

pub returns : goal.returns
returns g c =
    item_of c.as_slice.result.now c.args.program.now.functions c.args.self.now.function c.index-as_slice-self.result c.requires.place.code c.as_slice.ensures c.requires.place.known c.index-as_slice-self.is
