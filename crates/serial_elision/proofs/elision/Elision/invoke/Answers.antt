use Rattle.std.proofs.Common.{◌<◌, drop, ◌+◌, ◌≤◌, Some, sym, ap, ◌∙◌, subst, length}
use Rattle.std.proofs.lemmas.Bool.{ltb-true}
use Rattle.text_words.specs.Declarations.{cells_of}
use Rattle.serial_elision.specs.States.{state_of, store_of, monoids_in, callers_of, left_at, length_in}
use Rattle.frame_steps.proofs.Places.{found}
use Rattle.serial_elision.proofs.Soundness.{next_fits, next_within, within}
use Rattle.serial_elision.proofs.Evaluations.{spawn_leads, call_leads}
use Rattle.serial_elision.proofs.Elisions.{on_ok, begun_stands, enter_makes}
use Rattle.serial_elision.proofs.elision.Elision.invoke.Goals as goal

pub returns-in-Spawn-clause-stands : goal.returns-in-Spawn-clause-stands
returns-in-Spawn-clause-stands g c =
    let p = c.args.program.now in
    let before = state_of c.args.self.now in
    let code = c.args.function.now in
    let known : c.in-Spawn.function < length p.functions = ltb-true _ _ (within (cells_of p.mems) (length p.reducers) p.functions p.sound before.top.function code c.requires.going.here before.top.place _ (c.requires.at ∙ ap Some c.in-Spawn.is)) in
    on_ok _ _ _ (λ e. begun_stands p.functions (monoids_in p) (cells_of p.mems) before code c.requires.going.here _ _ _ _ c.requires.going.stands (record { known = c.requires.going.stands.top.known; within = subst (λ o. before.top.place + 1 ≤ length_in o) (sym c.requires.going.here) (next_within (cells_of p.mems) (length p.reducers) p.functions p.sound before.top.function code c.requires.going.here before.top.place _ (c.requires.at ∙ ap Some c.in-Spawn.is)); turning = c.requires.going.stands.top.turning }) known e) c.enter.ensures

pub returns-in-Spawn-clause-makes : goal.returns-in-Spawn-clause-makes
returns-in-Spawn-clause-makes g c =
    let p = c.args.program.now in
    let before = state_of c.args.self.now in
    let code = c.args.function.now in
    let known : c.in-Spawn.function < length p.functions = ltb-true _ _ (within (cells_of p.mems) (length p.reducers) p.functions p.sound before.top.function code c.requires.going.here before.top.place _ (c.requires.at ∙ ap Some c.in-Spawn.is)) in
    let f = found p.functions c.in-Spawn.function known in
    on_ok _ _ _ (λ e. enter_makes p.functions (monoids_in p) before code _ c.in-Spawn.function _ f.0 _ _ c.requires.going.here c.requires.going.going c.requires.going.quiet (c.requires.at ∙ ap Some c.in-Spawn.is) f.1
    (spawn_leads p.functions (monoids_in p) code.end_line (callers_of p.functions before.callers) (left_at code.end_line (drop (before.top.place + 1) code.body)) before.top.registers (store_of before) c.in-Spawn.line c.in-Spawn.function c.in-Spawn.argument f.0 f.1)
    e) c.enter.ensures

pub returns-in-Call-clause-stands : goal.returns-in-Call-clause-stands
returns-in-Call-clause-stands g c =
    let p = c.args.program.now in
    let before = state_of c.args.self.now in
    let code = c.args.function.now in
    let known : c.in-Call.function < length p.functions = ltb-true _ _ (within (cells_of p.mems) (length p.reducers) p.functions p.sound before.top.function code c.requires.going.here before.top.place _ (c.requires.at ∙ ap Some c.in-Call.is)) in
    on_ok _ _ _ (λ e. begun_stands p.functions (monoids_in p) (cells_of p.mems) before code c.requires.going.here _ _ _ _ c.requires.going.stands (record { known = c.requires.going.stands.top.known; within = subst (λ o. before.top.place + 1 ≤ length_in o) (sym c.requires.going.here) (next_within (cells_of p.mems) (length p.reducers) p.functions p.sound before.top.function code c.requires.going.here before.top.place _ (c.requires.at ∙ ap Some c.in-Call.is)); turning = c.requires.going.stands.top.turning }) known e) c.enter-in-Call.ensures

pub returns-in-Call-clause-makes : goal.returns-in-Call-clause-makes
returns-in-Call-clause-makes g c =
    let p = c.args.program.now in
    let before = state_of c.args.self.now in
    let code = c.args.function.now in
    let known : c.in-Call.function < length p.functions = ltb-true _ _ (within (cells_of p.mems) (length p.reducers) p.functions p.sound before.top.function code c.requires.going.here before.top.place _ (c.requires.at ∙ ap Some c.in-Call.is)) in
    let f = found p.functions c.in-Call.function known in
    on_ok _ _ _ (λ e. enter_makes p.functions (monoids_in p) before code _ c.in-Call.function _ f.0 _ _ c.requires.going.here c.requires.going.going c.requires.going.quiet (c.requires.at ∙ ap Some c.in-Call.is) f.1
    (call_leads p.functions (monoids_in p) code.end_line (callers_of p.functions before.callers) (left_at code.end_line (drop (before.top.place + 1) code.body)) before.top.registers (store_of before) c.in-Call.line c.in-Call.function c.in-Call.argument f.0 f.1)
    e) c.enter-in-Call.ensures

pub enter-requires-clause-place : goal.enter-requires-clause-place
enter-requires-clause-place g c =
    let p = c.args.program.now in
    let before = state_of c.args.self.now in
    next_fits (cells_of p.mems) (length p.reducers) p.functions p.sound before.top.function c.args.function.now c.requires.going.here before.top.place _ (c.requires.at ∙ ap Some c.in-Spawn.is)

pub enter-requires-in-Call-clause-place : goal.enter-requires-in-Call-clause-place
enter-requires-in-Call-clause-place g c =
    let p = c.args.program.now in
    let before = state_of c.args.self.now in
    next_fits (cells_of p.mems) (length p.reducers) p.functions p.sound before.top.function c.args.function.now c.requires.going.here before.top.place _ (c.requires.at ∙ ap Some c.in-Call.is)

pub enter-requires-clause-begun : goal.enter-requires-clause-begun
enter-requires-clause-begun g c = c.requires.going.going

pub enter-requires-in-Call-clause-begun : goal.enter-requires-in-Call-clause-begun
enter-requires-in-Call-clause-begun g c = c.requires.going.going
