use Rattle.std.proofs.Common.{◌∙◌, sym, length}
use Rattle.frame_steps.proofs.Located.{stands_in, same_function, in_place, statement_is, behind_is}
use Rattle.frame_steps.proofs.activation.Activation.step.Goals as goal

pub step_in-requires : goal.step_in-requires
step_in-requires g c =
    let functions = c.args.program.now.functions in
    let h = c.function_in-function.ensures in
    record { stands = (length functions, stands_in functions c.function_in-function.result.now c.args.self.now h c.requires.place) }

pub returns-clause-place : goal.returns-clause-place
returns-clause-place g c =
    let functions = c.args.program.now.functions in
    let h = c.function_in-function.ensures in
    in_place functions c.function_in-function.result.now c.step_in.new.self (same_function functions c.function_in-function.result.now c.args.self.now c.step_in.new.self h c.step_in.ensures.same.0) (c.step_in.ensures.stands (length functions) (stands_in functions c.function_in-function.result.now c.args.self.now h c.requires.place))

pub returns-clause-behind : goal.returns-clause-behind
returns-clause-behind g c = λ statement e p.
    let functions = c.args.program.now.functions in
    let h = c.function_in-function.ensures in
    behind_is functions c.function_in-function.result.now c.args.self.now c.step_in.new.self statement h c.step_in.ensures.same.0 (c.step_in.ensures.behind statement (sym (statement_is functions c.function_in-function.result.now c.args.self.now h) ∙ e) p)
