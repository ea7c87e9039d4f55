use Rattle.std.proofs.Common.{ℕ, ◌+◌, ap, ◌∙◌}
use Rattle.std.proofs.lemmas.Result.{IfOk-weaker}
use Rattle.trace_text.specs.Printing.{known_of}
use Rattle.program_text.specs.Printing.{statement_row, names_of}
use Rattle.program_text.proofs.Printed.{row_steps}
use Rattle.program_text.proofs.print.put_statement_line.Goals as goal

pub returns : goal.returns
returns g c = λ version.
    let names = names_of c.args.functions.now in
    IfOk-weaker c.put_end.result _ _
    (λ next end. row_steps (statement_row (known_of version c.args.mems.now c.args.reducers.now) names c.args.registers.now c.args.statement.now) c.args.at c.from.result next _ _ _ _
    (c.from.ensures ∙ c.statement_line-line.ensures) (end.0 ∙ ap (λ (n : ℕ). n + 1) c.statement_line-line.ensures) c.in_ok-put_feeds.ensures
    (c.in_ok-put_statement.ensures version names c.named_function-function.ensures) end.1) c.put_end.ensures
