use Rattle.std.proofs.Common.{arith}
use Rattle.frame_steps.proofs.Places.{found, item_of}
use Rattle.serial_elision.proofs.elision.function_at.Goals as goal

pub returns : goal.returns
returns g c =
    let functions = c.args.program.now.functions in
    let f = found functions c.args.index c.requires in
    item_of c.as_slice.result.now functions c.args.index c.index-as_slice-index.result f.0 c.as_slice.ensures f.1 c.index-as_slice-index.is

pub offset_bounds-as_slice-index : goal.offset_bounds-as_slice-index
offset_bounds-as_slice-index g c = let within = c.requires in rw c.as_slice.ensures (omega (arith, within))

pub bounds-as_slice-index : goal.bounds-as_slice-index
bounds-as_slice-index g c = rw c.as_slice.ensures c.requires
