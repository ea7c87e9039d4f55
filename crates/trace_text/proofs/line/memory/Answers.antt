use Rattle.std.proofs.Common.{[], refl}
use Rattle.std.specs.Prelude.{Some}
use Rattle.model_accesses.specs.Limits.{most_cells}
use Rattle.trace_text.specs.Lines.{FreshName, Number, OfName, if_there}
use Rattle.trace_text.proofs.Outcomes.{takes}
use Rattle.trace_text.proofs.line.memory.Goals as goal

pub returns-in-Ok : goal.returns-in-Ok
returns-in-Ok g c at =
    let known = c.args.names.now in
    let fits = rw (← c.in-Ok.ensures) at
    (takes known FreshName [] (Some (Number 1 most_cells)) c.args.words.now c.fresh_name-name.new.words c.fresh_name-name.result c.length-cells.result
    (λ name. OfName name.now) if_there c.fresh_name-name.ensures (c.length-cells.ensures known)) in
    (fits.0, (c.args.words.now, refl, tt, fits.1), fits.2)

pub returns-in-Err : goal.returns-in-Err
returns-in-Err g c at =
    let known = c.args.names.now in
    rw (← c.in-Err.ensures) at
    (takes known FreshName [] (Some (Number 1 most_cells)) c.args.words.now c.fresh_name-name.new.words c.fresh_name-name.result c.length-cells.result
    (λ name. OfName name.now) if_there c.fresh_name-name.ensures (c.length-cells.ensures known))
