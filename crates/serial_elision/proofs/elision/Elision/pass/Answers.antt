use Rattle.std.proofs.Common.{drop, ◌+◌, Some, refl, ap, ◌∙◌, arith, length}
use Rattle.std.specs.Prelude.{slice_index}
use Rattle.std.proofs.lemmas.Bool.{ltb-true}
use Rattle.text_words.specs.Declarations.{cells_of}
use Rattle.serial_elision.specs.States.{state_of, store_of, monoids_in, callers_of, left_at}
use Rattle.frame_steps.proofs.Places.{left_behind_else}
use Rattle.serial_elision.proofs.Soundness.{body_sound, next_within, next_fits, part_ends, within}
use Rattle.serial_elision.proofs.Evaluations.{let_leads, pfor_leads}
use Rattle.serial_elision.proofs.Elisions.{moved_stands, counted_stands, line_makes, counts_makes, same_makes, if_stands, if_makes}
use Rattle.serial_elision.proofs.elision.Elision.pass.Goals as goal

pub returns-in-Let-clause-stands : goal.returns-in-Let-clause-stands
returns-in-Let-clause-stands g c =
    let p = c.args.program.now in
    let before = state_of c.args.self.now in
    let code = c.args.function.now in
    moved_stands p.functions (monoids_in p) (cells_of p.mems) before code c.requires.going.here _ _ _ c.requires.going.stands (next_within (cells_of p.mems) (length p.reducers) p.functions p.sound before.top.function code c.requires.going.here before.top.place _ (c.requires.at ∙ ap Some c.in-Let.is)) c.assign.ensures

pub returns-in-Let-clause-makes : goal.returns-in-Let-clause-makes
returns-in-Let-clause-makes g c =
    let p = c.args.program.now in
    let before = state_of c.args.self.now in
    let code = c.args.function.now in
    line_makes p.functions (monoids_in p) (cells_of p.mems) before code c.requires.going.here c.requires.going.going c.requires.going.quiet _ (c.requires.at ∙ ap Some c.in-Let.is) 0 (before.top.place + 1) _ _ _ _ refl (λ _. omega arith)
    (let_leads p.functions (monoids_in p) code.end_line (callers_of p.functions before.callers) (left_at code.end_line (drop (before.top.place + 1) code.body)) before.top.registers (store_of before) c.in-Let.line c.in-Let.register c.in-Let.value)
    c.assign.ensures

pub returns-in-ParallelFor-clause-stands : goal.returns-in-ParallelFor-clause-stands
returns-in-ParallelFor-clause-stands g c =
    let p = c.args.program.now in
    let before = state_of c.args.self.now in
    let code = c.args.function.now in
    counted_stands p.functions (monoids_in p) (cells_of p.mems) before code c.requires.going.here _ _ c.requires.going.stands (next_within (cells_of p.mems) (length p.reducers) p.functions p.sound before.top.function code c.requires.going.here before.top.place _ (c.requires.at ∙ ap Some c.in-ParallelFor.is)) (ltb-true _ _ (within (cells_of p.mems) (length p.reducers) p.functions p.sound before.top.function code c.requires.going.here before.top.place _ (c.requires.at ∙ ap Some c.in-ParallelFor.is)), let few = c.repeat.ensures.fits in omega (arith, few)) c.repeat.ensures.state

pub returns-in-ParallelFor-clause-makes : goal.returns-in-ParallelFor-clause-makes
returns-in-ParallelFor-clause-makes g c =
    let p = c.args.program.now in
    let before = state_of c.args.self.now in
    let code = c.args.function.now in
    counts_makes p.functions (monoids_in p) (cells_of p.mems) before code c.requires.going.here c.requires.going.going c.requires.going.quiet _ (c.requires.at ∙ ap Some c.in-ParallelFor.is) _ _
    (pfor_leads p.functions (monoids_in p) code.end_line (callers_of p.functions before.callers) (left_at code.end_line (drop (before.top.place + 1) code.body)) before.top.registers (store_of before) c.in-ParallelFor.line c.in-ParallelFor.function c.in-ParallelFor.register c.in-ParallelFor.count)
    c.repeat.ensures.state

pub returns-in-If-clause-stands : goal.returns-in-If-clause-stands
returns-in-If-clause-stands g c =
    let p = c.args.program.now in
    let before = state_of c.args.self.now in
    let code = c.args.function.now in
    if_stands p.functions (monoids_in p) (cells_of p.mems) before code c.requires.going.here c.in-If.line c.in-If.register c.in-If.otherwise (part_ends (cells_of p.mems) (length p.reducers) p.functions p.sound before.top.function code c.requires.going.here before.top.place _ (c.requires.at ∙ ap Some c.in-If.is) c.in-If.otherwise refl) _ c.requires.going.stands (next_within (cells_of p.mems) (length p.reducers) p.functions p.sound before.top.function code c.requires.going.here before.top.place _ (c.requires.at ∙ ap Some c.in-If.is)) (slice_index before.top.registers c.in-If.register.index) refl c.choose.ensures.first c.choose.ensures.second

pub returns-in-If-clause-makes : goal.returns-in-If-clause-makes
returns-in-If-clause-makes g c =
    let p = c.args.program.now in
    let before = state_of c.args.self.now in
    let code = c.args.function.now in
    if_makes p.functions (monoids_in p) (cells_of p.mems) before code c.requires.going.here c.in-If.line c.in-If.register c.in-If.otherwise (part_ends (cells_of p.mems) (length p.reducers) p.functions p.sound before.top.function code c.requires.going.here before.top.place _ (c.requires.at ∙ ap Some c.in-If.is) c.in-If.otherwise refl) _ c.requires.going.going c.requires.going.quiet (c.requires.at ∙ ap Some c.in-If.is) (slice_index before.top.registers c.in-If.register.index) refl c.choose.ensures.first c.choose.ensures.second

pub returns-in-Else-clause-stands : goal.returns-in-Else-clause-stands
returns-in-Else-clause-stands g c =
    let p = c.args.program.now in
    let before = state_of c.args.self.now in
    let code = c.args.function.now in
    moved_stands p.functions (monoids_in p) (cells_of p.mems) before code c.requires.going.here _ _ _ c.requires.going.stands (part_ends (cells_of p.mems) (length p.reducers) p.functions p.sound before.top.function code c.requires.going.here before.top.place _ (c.requires.at ∙ ap Some c.in-Else.is) c.in-Else.after refl).1 c.go.ensures

pub returns-in-Else-clause-makes : goal.returns-in-Else-clause-makes
returns-in-Else-clause-makes g c =
    let p = c.args.program.now in
    let before = state_of c.args.self.now in
    let code = c.args.function.now in
    let at = c.requires.at ∙ ap Some c.in-Else.is in
    let sound = body_sound (cells_of p.mems) (length p.reducers) p.functions p.sound before.top.function code c.requires.going.here in
    same_makes p.functions (monoids_in p) (cells_of p.mems) before code c.requires.going.here c.requires.going.going c.requires.going.quiet _ at c.in-Else.after _
    (part_ends (cells_of p.mems) (length p.reducers) p.functions p.sound before.top.function code c.requires.going.here before.top.place _ at c.in-Else.after refl).0
    (left_behind_else code.body before.top.place c.in-Else.line c.in-Else.after sound.linked sound.divided at)
    c.go.ensures

pub skip-requires-clause-place : goal.skip-requires-clause-place
skip-requires-clause-place g c =
    let p = c.args.program.now in
    let before = state_of c.args.self.now in
    let code = c.args.function.now in
    next_fits (cells_of p.mems) (length p.reducers) p.functions p.sound before.top.function code c.requires.going.here before.top.place _ (c.requires.at ∙ ap Some c.in-End.is)

pub returns-in-End-clause-stands : goal.returns-in-End-clause-stands
returns-in-End-clause-stands g c =
    let p = c.args.program.now in
    let before = state_of c.args.self.now in
    let code = c.args.function.now in
    moved_stands p.functions (monoids_in p) (cells_of p.mems) before code c.requires.going.here _ _ _ c.requires.going.stands (next_within (cells_of p.mems) (length p.reducers) p.functions p.sound before.top.function code c.requires.going.here before.top.place _ (c.requires.at ∙ ap Some c.in-End.is)) c.skip.ensures

pub returns-in-End-clause-makes : goal.returns-in-End-clause-makes
returns-in-End-clause-makes g c =
    let p = c.args.program.now in
    let before = state_of c.args.self.now in
    let code = c.args.function.now in
    same_makes p.functions (monoids_in p) (cells_of p.mems) before code c.requires.going.here c.requires.going.going c.requires.going.quiet _ (c.requires.at ∙ ap Some c.in-End.is) (before.top.place + 1) _ (omega arith) refl c.skip.ensures

pub assign-requires-clause-place : goal.assign-requires-clause-place
assign-requires-clause-place g c =
    let p = c.args.program.now in
    let before = state_of c.args.self.now in
    next_fits (cells_of p.mems) (length p.reducers) p.functions p.sound before.top.function c.args.function.now c.requires.going.here before.top.place _ (c.requires.at ∙ ap Some c.in-Let.is)

pub repeat-requires-clause-place : goal.repeat-requires-clause-place
repeat-requires-clause-place g c =
    let p = c.args.program.now in
    let before = state_of c.args.self.now in
    next_fits (cells_of p.mems) (length p.reducers) p.functions p.sound before.top.function c.args.function.now c.requires.going.here before.top.place _ (c.requires.at ∙ ap Some c.in-ParallelFor.is)

pub choose-requires-clause-place : goal.choose-requires-clause-place
choose-requires-clause-place g c =
    let p = c.args.program.now in
    let before = state_of c.args.self.now in
    next_fits (cells_of p.mems) (length p.reducers) p.functions p.sound before.top.function c.args.function.now c.requires.going.here before.top.place _ (c.requires.at ∙ ap Some c.in-If.is)

pub assign-requires-clause-begun : goal.assign-requires-clause-begun
assign-requires-clause-begun g c = c.requires.going.going

pub repeat-requires-clause-begun : goal.repeat-requires-clause-begun
repeat-requires-clause-begun g c = c.requires.going.going

pub choose-requires-clause-begun : goal.choose-requires-clause-begun
choose-requires-clause-begun g c = c.requires.going.going

pub skip-requires-clause-begun : goal.skip-requires-clause-begun
skip-requires-clause-begun g c = c.requires.going.going

pub go-requires : goal.go-requires
go-requires g c = c.requires.going.going
