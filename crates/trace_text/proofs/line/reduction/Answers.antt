use Rattle.std.proofs.Common.{[], ◌∷◌, refl}
use Rattle.std.specs.Prelude.{None}
use Rattle.trace_text.specs.Lines.{FreshName, MonoidWord, OfName, OfMonoid}
use Rattle.text_words.specs.Causes.{both_of}
use Rattle.trace_text.proofs.Outcomes.{takes}
use Rattle.trace_text.proofs.line.reduction.Goals as goal

pub returns-in-Ok : goal.returns-in-Ok
returns-in-Ok g c at =
    let known = c.args.names.now in
    let is = rw c.both.ensures at c.in-Ok.ensures in
    let fits = rw (← is) at
    (takes known FreshName (MonoidWord ∷ []) None c.args.words.now c.fresh_name-name.new.words c.fresh_name-name.result (both_of c.monoid-monoid.result c.end-end.result)
    (λ name. OfName name.now) (λ r. OfMonoid r.0 ∷ []) c.fresh_name-name.ensures
    (takes known MonoidWord [] None c.fresh_name-name.new.words c.monoid-monoid.new.words c.monoid-monoid.result c.end-end.result OfMonoid (λ _. [])
    c.monoid-monoid.ensures (c.end-end.ensures known))) in
    (fits.0, (c.args.words.now, refl, tt, fits.1), fits.2)

pub returns-in-Err : goal.returns-in-Err
returns-in-Err g c at =
    let known = c.args.names.now in
    let is = rw c.both.ensures at c.in-Err.ensures in
    rw (← is) at
    (takes known FreshName (MonoidWord ∷ []) None c.args.words.now c.fresh_name-name.new.words c.fresh_name-name.result (both_of c.monoid-monoid.result c.end-end.result)
    (λ name. OfName name.now) (λ r. OfMonoid r.0 ∷ []) c.fresh_name-name.ensures
    (takes known MonoidWord [] None c.fresh_name-name.new.words c.monoid-monoid.new.words c.monoid-monoid.result c.end-end.result OfMonoid (λ _. [])
    c.monoid-monoid.ensures (c.end-end.ensures known)))
