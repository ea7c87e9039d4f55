use Rattle.std.proofs.Common.{◌+◌, ◌∙◌, ap, subst, refl, Some, length, arith}
use Rattle.std.specs.Prelude.{IsTrue}
use Rattle.std.proofs.lemmas.Bool.{ltb-true}
use Rattle.model_bodies.specs.Bodies.{part_end}
use Rattle.model_bodies.specs.Sound.{is_within}
use Rattle.frame_steps.proofs.Places.{left_behind_else}
use Rattle.frame_steps.proofs.Turns.{flat, if_first, if_second, part_over, loop_begins, let_passes, fewer, fewer_numbers}
use Rattle.frame_steps.proofs.activation.Activation.pass.Goals as goal

pub returns-in-Let-clause-stands : goal.returns-in-Let-clause-stands
returns-in-Let-clause-stands g c = λ cells reducers functions w s. c.step_in.ensures.stands functions (record { within = s.within; turn = s.turn })

pub returns-in-Let-clause-passes : goal.returns-in-Let-clause-passes
returns-in-Let-clause-passes g c =
    let l = c.step_in.ensures.behind _ (c.requires.at ∙ ap Some c.in-Let.is) refl in
    rw (c.step_in.ensures.same.1, c.from.ensures, c.result_of.ensures) (let_passes c.args.function.now c.args.self.now.place c.args.self.now.turn _ _ _ c.args.self.now.registers _ l)

pub returns-then-self-from-ne0-clause-stands : goal.returns-then-self-from-ne0-clause-stands
returns-then-self-from-ne0-clause-stands g c = λ cells reducers functions w s.
    let f = flat c.args.function.now c.args.self.now.place c.args.self.now.turn _ refl c.requires.stands.1.within (c.requires.at ∙ ap Some c.in-If.is) in
    record { within = (let h = f.within in omega arith); turn = s.turn }

pub returns-then-self-from-ne0-clause-later : goal.returns-then-self-from-ne0-clause-later
returns-then-self-from-ne0-clause-later g c =
    let f = flat c.args.function.now c.args.self.now.place c.args.self.now.turn _ refl c.requires.stands.1.within (c.requires.at ∙ ap Some c.in-If.is) in
    fewer (length c.args.function.now.body) c.args.self.now.place (c.args.self.now.place + 1) c.args.self.now.turn f.plainly (omega arith) f.within

pub returns-then-self-from-ne0-clause-passes : goal.returns-then-self-from-ne0-clause-passes
returns-then-self-from-ne0-clause-passes g c =
    let f = flat c.args.function.now c.args.self.now.place c.args.self.now.turn _ refl c.requires.stands.1.within (c.requires.at ∙ ap Some c.in-If.is) in
    if_first c.args.function.now c.args.self.now.place c.args.self.now.turn _ _ _ c.args.self.now.registers f (rw c.from-in-If.ensures at c.if-self-from-ne0.true)

pub returns-else-self-from-ne0-clause-stands : goal.returns-else-self-from-ne0-clause-stands
returns-else-self-from-ne0-clause-stands g c = λ cells reducers functions w s.
    let f = flat c.args.function.now c.args.self.now.place c.args.self.now.turn _ refl c.requires.stands.1.within (c.requires.at ∙ ap Some c.in-If.is) in
    let ends = c.requires.linked c.args.self.now.place c.in-If.otherwise (ap part_end f.at) in
    record { within = ends.1; turn = s.turn }

pub returns-else-self-from-ne0-clause-later : goal.returns-else-self-from-ne0-clause-later
returns-else-self-from-ne0-clause-later g c =
    let f = flat c.args.function.now c.args.self.now.place c.args.self.now.turn _ refl c.requires.stands.1.within (c.requires.at ∙ ap Some c.in-If.is) in
    let ends = c.requires.linked c.args.self.now.place c.in-If.otherwise (ap part_end f.at) in
    fewer (length c.args.function.now.body) c.args.self.now.place c.in-If.otherwise c.args.self.now.turn f.plainly ends.0 f.within

pub returns-else-self-from-ne0-clause-passes : goal.returns-else-self-from-ne0-clause-passes
returns-else-self-from-ne0-clause-passes g c =
    let f = flat c.args.function.now c.args.self.now.place c.args.self.now.turn _ refl c.requires.stands.1.within (c.requires.at ∙ ap Some c.in-If.is) in
    let ends = c.requires.linked c.args.self.now.place c.in-If.otherwise (ap part_end f.at) in
    if_second c.args.function.now c.args.self.now.place c.args.self.now.turn _ _ _ c.args.self.now.registers f (rw c.from-in-If.ensures at c.if-self-from-ne0.false) ends

pub returns-in-Else-clause-stands : goal.returns-in-Else-clause-stands
returns-in-Else-clause-stands g c = λ cells reducers functions w s.
    let f = flat c.args.function.now c.args.self.now.place c.args.self.now.turn _ refl c.requires.stands.1.within (c.requires.at ∙ ap Some c.in-Else.is) in
    let ends = c.requires.linked c.args.self.now.place c.in-Else.after (ap part_end f.at) in
    record { within = ends.1; turn = s.turn }

pub returns-in-Else-clause-later : goal.returns-in-Else-clause-later
returns-in-Else-clause-later g c =
    let f = flat c.args.function.now c.args.self.now.place c.args.self.now.turn _ refl c.requires.stands.1.within (c.requires.at ∙ ap Some c.in-Else.is) in
    let ends = c.requires.linked c.args.self.now.place c.in-Else.after (ap part_end f.at) in
    fewer (length c.args.function.now.body) c.args.self.now.place c.in-Else.after c.args.self.now.turn f.plainly ends.0 f.within

pub returns-in-Else-clause-passes : goal.returns-in-Else-clause-passes
returns-in-Else-clause-passes g c =
    let f = flat c.args.function.now c.args.self.now.place c.args.self.now.turn _ refl c.requires.stands.1.within (c.requires.at ∙ ap Some c.in-Else.is) in
    part_over c.args.function.now c.args.self.now.place c.args.self.now.turn _ c.in-Else.after c.args.self.now.registers f
    (left_behind_else c.args.function.now.body c.args.self.now.place c.in-Else.line c.in-Else.after c.requires.linked c.requires.divided f.at)

pub returns-in-End-clause-stands : goal.returns-in-End-clause-stands
returns-in-End-clause-stands g c = λ cells reducers functions w s.
    let f = flat c.args.function.now c.args.self.now.place c.args.self.now.turn _ refl c.requires.stands.1.within (c.requires.at ∙ ap Some c.in-End.is) in
    record { within = (let h = f.within in omega arith); turn = s.turn }

pub returns-in-End-clause-later : goal.returns-in-End-clause-later
returns-in-End-clause-later g c =
    let f = flat c.args.function.now c.args.self.now.place c.args.self.now.turn _ refl c.requires.stands.1.within (c.requires.at ∙ ap Some c.in-End.is) in
    fewer (length c.args.function.now.body) c.args.self.now.place (c.args.self.now.place + 1) c.args.self.now.turn f.plainly (omega arith) f.within

pub returns-in-End-clause-passes : goal.returns-in-End-clause-passes
returns-in-End-clause-passes g c =
    let f = flat c.args.function.now c.args.self.now.place c.args.self.now.turn _ refl c.requires.stands.1.within (c.requires.at ∙ ap Some c.in-End.is) in
    part_over c.args.function.now c.args.self.now.place c.args.self.now.turn _ (c.args.self.now.place + 1) c.args.self.now.registers f refl

pub returns-in-ParallelFor-clause-stands : goal.returns-in-ParallelFor-clause-stands
returns-in-ParallelFor-clause-stands g c = λ cells reducers functions w s.
    let f = flat c.args.function.now c.args.self.now.place c.args.self.now.turn _ refl c.requires.stands.1.within (c.requires.at ∙ ap Some c.in-ParallelFor.is) in
    let t = subst (λ x. IsTrue (is_within cells reducers functions x)) c.in-ParallelFor.is w in
    record { within = (let h = f.within in omega arith); turn = (ltb-true c.in-ParallelFor.function functions t, omega arith) }

pub returns-in-ParallelFor-clause-later : goal.returns-in-ParallelFor-clause-later
returns-in-ParallelFor-clause-later g c =
    let f = flat c.args.function.now c.args.self.now.place c.args.self.now.turn _ refl c.requires.stands.1.within (c.requires.at ∙ ap Some c.in-ParallelFor.is) in
    fewer_numbers (length c.args.function.now.body) c.args.self.now.place c.in-ParallelFor.line c.in-ParallelFor.register c.in-ParallelFor.function 0 0 c.args.self.now.turn f.plainly f.within

pub returns-in-ParallelFor-clause-passes : goal.returns-in-ParallelFor-clause-passes
returns-in-ParallelFor-clause-passes g c =
    let f = flat c.args.function.now c.args.self.now.place c.args.self.now.turn _ refl c.requires.stands.1.within (c.requires.at ∙ ap Some c.in-ParallelFor.is) in
    rw c.value_of.ensures (loop_begins c.args.function.now c.args.self.now.place c.args.self.now.turn c.in-ParallelFor.line c.in-ParallelFor.register c.in-ParallelFor.count c.in-ParallelFor.function c.args.self.now.registers f)
