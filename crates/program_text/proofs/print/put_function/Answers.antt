use Rattle.std.proofs.Common.{ap, ◌∙◌}
use Rattle.std.proofs.lemmas.Result.{IfOk-weaker}
use Rattle.model_bodies.specs.Codes.{Code}
use Rattle.trace_text.specs.Printing.{known_of}
use Rattle.program_text.specs.Printing.{names_of}
use Rattle.program_text.proofs.Printed.{function_steps}
use Rattle.program_text.proofs.print.put_function.Goals as goal

pub returns : goal.returns
returns g c = λ version.
    IfOk-weaker c.put_last.result _ _
    (λ next last. function_steps (known_of version c.args.mems.now c.args.reducers.now) (names_of c.args.functions.now) c.as_slice-registers.result.now c.as_slice-body.result.now c.args.function.now _ _ _ _ _ _ _ next
    (c.as_slice-registers.ensures ∙ ap (λ (f : Code). f.registers) c.function.view_is) (c.as_slice-body.ensures ∙ ap (λ (f : Code). f.body) c.function.view_is) c.in_ok-inside.ensures (λ more. c.in_ok-end.ensures version more) last) c.put_last.ensures
