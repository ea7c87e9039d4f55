use Rattle.std.proofs.Common.{◌≤◌, ◌<◌, subst, arith, ◌∙◌, ap, length}
use Rattle.frame_steps.specs.Activations.{IsTurn}
use Rattle.frame_steps.proofs.Turns.{plain_step, end_statement, end_step}
use Rattle.frame_steps.proofs.activation.Activation.step_in.Goals as goal

pub overflow_add-number : goal.overflow_add-number
overflow_add-number g c = let h = subst (λ t. IsTurn c.requires.stands.0 t) c.in-Spawning.is c.requires.stands.1.turn in let k = h.1 in let l = h.2 in omega arith

pub returns-then-self-as_slice-clause-behind : goal.returns-then-self-as_slice-clause-behind
returns-then-self-as_slice-clause-behind g c = λ statement e p.
    let k = ap length (c.as_slice.ensures ∙ ap (λ f. f.body) c.function.view_is) in
    let h : c.args.self.now.place < length c.args.function.now.body = omega arith in
    plain_step c.args.function.now c.args.self.now.place c.args.self.now.turn statement c.in-Plainly.is h e p

pub returns-else-self-as_slice-clause-behind : goal.returns-else-self-as_slice-clause-behind
returns-else-self-as_slice-clause-behind g c = λ statement e p.
    let k = ap length (c.as_slice.ensures ∙ ap (λ f. f.body) c.function.view_is) in
    let h : length c.args.function.now.body ≤ c.args.self.now.place = omega arith in
    end_step c.args.function.now c.args.self.now.place c.args.self.now.turn statement c.in-Plainly.is h e

pub returns-else-self-as_slice-clause-later : goal.returns-else-self-as_slice-clause-later
returns-else-self-as_slice-clause-later g c = λ line register value e.
    let k = ap length (c.as_slice.ensures ∙ ap (λ f. f.body) c.function.view_is) in
    let h : length c.args.function.now.body ≤ c.args.self.now.place = omega arith in
    absurd (let s = end_statement c.args.function.now c.args.self.now.place c.args.self.now.turn _ c.in-Plainly.is h e in cc)
