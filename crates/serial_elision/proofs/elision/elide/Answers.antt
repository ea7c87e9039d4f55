use Rattle.std.proofs.Common.{refl, sym, ◌∙◌, arith, length, []}
use Rattle.text_words.specs.Declarations.{cells_of}
use Rattle.serial_elision.specs.States.{state_of, monoids_in, top_of}
use Rattle.serial_elision.proofs.Soundness.{few_places}
use Rattle.serial_elision.proofs.Elisions.{opening_leads, opening_stands, more_leads, leads_needs, over_elides, nearer}
use Rattle.serial_elision.proofs.elision.elide.Goals as goal

pub loop-elision-init : goal.loop-elision-init
loop-elision-init g c =
    let p = c.args.program.now in
    let first = state_of c.in_ok-elision.elision in
    let o = opening_leads p.functions (monoids_in p) (cells_of p.mems) first c.in_ok-elision.ensures in
    record { within = omega arith; stands = opening_stands p.functions (monoids_in p) (cells_of p.mems) first c.in_ok-elision.ensures; main = o.0; is_main = o.1; done = []; count = refl; leads = o.2 }

pub returns-then-asked-limit-clause-limit : goal.returns-then-asked-limit-clause-limit
returns-then-asked-limit-clause-limit g c = λ e.
    let p = c.args.program.now in
    let i = c.loop-elision.invariant in
    let m = more_leads p.functions (monoids_in p) (cells_of p.mems) c.in_ok-asked.asked c.loop-elision.requests i.main i.done (state_of c.loop-elision.elision) (state_of c.step.new.self) i.count i.leads c.in_ok-asked.ensures.makes in
    leads_needs p.functions (monoids_in p) (cells_of p.mems) c.args.limit i.main m.0 _ _ i.is_main (let n = m.1 in let t = c.if-asked-limit.true in let w = i.within in omega (arith, n, t, w)) m.2

pub loop-elision-smaller : goal.loop-elision-smaller
loop-elision-smaller g c =
    let p = c.args.program.now in
    let i = c.loop-elision.invariant in
    let before = few_places (cells_of p.mems) (length p.reducers) p.functions p.sound _ i.stands.top in
    let after = few_places (cells_of p.mems) (length p.reducers) p.functions p.sound _ c.in_ok-asked.ensures.stands.top in
    nearer c.args.limit c.loop-elision.requests c.in_ok-asked.asked (top_of c.loop-elision.elision).place (top_of c.step.new.self).place before after c.if-asked-limit.false c.in_ok-asked.ensures.makes.further

pub loop-elision-preserved : goal.loop-elision-preserved
loop-elision-preserved g c =
    let p = c.args.program.now in
    let i = c.loop-elision.invariant in
    let m = more_leads p.functions (monoids_in p) (cells_of p.mems) c.in_ok-asked.asked c.loop-elision.requests i.main i.done (state_of c.loop-elision.elision) (state_of c.step.new.self) i.count i.leads c.in_ok-asked.ensures.makes in
    record { within = (let f = c.if-asked-limit.false in let w = i.within in omega (arith, f, w)); stands = c.in_ok-asked.ensures.stands; main = i.main; is_main = i.is_main; done = m.0; count = m.1; leads = m.2 }

pub returns-clause-ok : goal.returns-clause-ok
returns-clause-ok g c =
    let p = c.args.program.now in
    let i = c.loop-elision.invariant in
    (i.within, over_elides p.functions (monoids_in p) (cells_of p.mems) c.loop-elision.requests i.main i.done (state_of c.loop-elision.elision) i.is_main (sym c.is_over.ensures ∙ c.loop-elision-test.false) i.count i.leads)

pub step-requires-clause-stands : goal.step-requires-clause-stands
step-requires-clause-stands g c = c.loop-elision.invariant.stands

pub step-requires-clause-going : goal.step-requires-clause-going
step-requires-clause-going g c = sym c.is_over.ensures ∙ c.loop-elision-test.true

pub overflow_sub-limit : goal.overflow_sub-limit
overflow_sub-limit g c = c.loop-elision.invariant.within

pub returns-then-asked-limit-clause-ok : goal.returns-then-asked-limit-clause-ok
returns-then-asked-limit-clause-ok g c = tt

pub overflow_add-requests : goal.overflow_add-requests
overflow_add-requests g c =
    let few = c.if-asked-limit.false in
    let within = c.loop-elision.invariant.within in
    let fits = c.ranges.limit.fits in
    omega (arith, few, within, fits)

pub returns-clause-limit : goal.returns-clause-limit
returns-clause-limit g c = λ e. cc
