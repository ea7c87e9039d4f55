use Rattle.std.proofs.Common.{refl, [], ◌∷◌}
use Rattle.std.specs.Prelude.{option_copied}
use Rattle.trace_text.specs.Lines as trace
use Rattle.program_lines.specs.declared.keyword.Keyword.TheVariants.{ParallelFor}
use Rattle.program_lines.specs.Places.{AssignedRegister, OperandWord, FunctionName, Plain, OfAssigned, OfOperand}
use Rattle.program_lines.proofs.Outcomes.{reads, two_words, said}
use Rattle.program_lines.proofs.line.parallel_for.Goals as goal

pub returns-in-Ok : goal.returns-in-Ok
returns-in-Ok g c =
    let scope = c.args.scope.now in
    rw (c.in-Some.ensures, c.in-Some-two.ensures) (
      tt,
      refl,
      said scope ParallelFor (c.in-Some.target.now ∷ c.in-Some-two.count.now ∷ c.in-Some-two.name.now ∷ []) _ c.requires
          (reads scope AssignedRegister (OperandWord ∷ FunctionName ∷ []) [] c.in-Some.target.now (c.in-Some-two.count.now ∷ c.in-Some-two.name.now ∷ []) c.assignee.result c.both.result _ (λ r. OfAssigned r.register (option_copied r.named)) (λ r. OfOperand r.0 ∷ Plain (trace.OfNumber r.1) ∷ [])
          c.in-Ok.ensures c.assignee.ensures
          (two_words scope OperandWord FunctionName c.in-Some-two.count.now c.in-Some-two.name.now c.operand.result c.function.result c.both.result OfOperand (λ number. Plain (trace.OfNumber number)) c.both.ensures c.operand.ensures c.function.ensures)),
    )

pub returns-in-Err : goal.returns-in-Err
returns-in-Err g c =
    let scope = c.args.scope.now in
    rw (c.in-Some.ensures, c.in-Some-two.ensures)
    (reads scope AssignedRegister (OperandWord ∷ FunctionName ∷ []) [] c.in-Some.target.now (c.in-Some-two.count.now ∷ c.in-Some-two.name.now ∷ []) c.assignee.result c.both.result _ (λ r. OfAssigned r.register (option_copied r.named)) (λ r. OfOperand r.0 ∷ Plain (trace.OfNumber r.1) ∷ [])
    c.in-Err.ensures c.assignee.ensures
    (two_words scope OperandWord FunctionName c.in-Some-two.count.now c.in-Some-two.name.now c.operand.result c.function.result c.both.result OfOperand (λ number. Plain (trace.OfNumber number)) c.both.ensures c.operand.ensures c.function.ensures))
