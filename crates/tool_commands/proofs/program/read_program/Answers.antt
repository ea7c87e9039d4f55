use Rattle.std.proofs.lemmas.Result.{err_from_is_err_and, IfOk-weaker, IfErr-weaker}
use Rattle.tool_commands.proofs.ReadPrograms.{unread, faulty}
use Rattle.tool_commands.proofs.program.read_program.Goals as goal

pub returns-in_err-text-clause-fault : goal.returns-in_err-text-clause-fault
returns-in_err-text-clause-fault g c =
    let gone = err_from_is_err_and c.from_residual.result c.from_residual.ensures.1 in
    rw (gone.1, gone.2) (unread _ c.in_err-text.field-0.0 c.in_err-text.ensures.fault)

pub returns-clause-ok : goal.returns-clause-ok
returns-clause-ok g c =
    IfOk-weaker c.parse_program.result _ _ (λ program means. record { text = c.in_ok-text.text.items; read = c.in_ok-text.ensures.ok; means = means })
    c.parse_program.ensures.ok

pub returns-clause-fault : goal.returns-clause-fault
returns-clause-fault g c =
    IfErr-weaker c.parse_program.result _ _ (λ fault stops. faulty _ c.in_ok-text.text.items fault c.in_ok-text.ensures.ok stops)
    c.parse_program.ensures.fault
