use Rattle.std.proofs.Common.{refl, [], ◌∷◌, Bool, true, false, cond}
use Rattle.trace_text.specs.Lines as trace
use Rattle.program_lines.specs.declared.keyword.Keyword.TheVariants.{Spawn, Call}
use Rattle.program_lines.specs.Places.{FunctionName, OperandWord, Plain, OfOperand}
use Rattle.trace_text.specs.LineGrammar.{IsPlacedFault}
use Rattle.program_lines.specs.Table.{placed, wanted, optional}
use Rattle.program_lines.specs.Faults.{WordFault}
use Rattle.program_lines.proofs.Outcomes.{two_words, said}
use Rattle.program_lines.proofs.line.call.Goals as goal

pub returns-then-spawns : goal.returns-then-spawns
returns-then-spawns g c =
    let scope = c.args.scope.now in
    rw (c.if-spawns.true, c.statement_item.ensures) (
      refl,
      refl,
      said scope Spawn (c.args.name.now ∷ c.args.value.now ∷ []) _ tt
          (two_words scope FunctionName OperandWord c.args.name.now c.args.value.now c.function.result c.operand.result _ (λ number. Plain (trace.OfNumber number)) OfOperand c.in-Ok.ensures c.function.ensures c.operand.ensures),
    )

pub returns-else-spawns : goal.returns-else-spawns
returns-else-spawns g c =
    let scope = c.args.scope.now in
    rw (c.if-spawns.false, c.statement_item-else-spawns.ensures) (
      refl,
      refl,
      said scope Call (c.args.name.now ∷ c.args.value.now ∷ []) _ tt
          (two_words scope FunctionName OperandWord c.args.name.now c.args.value.now c.function.result c.operand.result _ (λ number. Plain (trace.OfNumber number)) OfOperand c.in-Ok.ensures c.function.ensures c.operand.ensures),
    )

pub returns-in-Err : goal.returns-in-Err
returns-in-Err g c =
    let scope = c.args.scope.now in
    by c.args.spawns
    (two_words scope FunctionName OperandWord c.args.name.now c.args.value.now c.function.result c.operand.result _ (λ number. Plain (trace.OfNumber number)) OfOperand c.in-Err.ensures c.function.ensures c.operand.ensures)
  where
    by : (b : Bool) → IsPlacedFault (WordFault c.args.scope.now) (placed (FunctionName ∷ OperandWord ∷ []) [] (c.args.name.now ∷ c.args.value.now ∷ [])) c.in-Err.why
        → IsPlacedFault (WordFault c.args.scope.now) (placed (wanted (cond b Spawn Call)) (optional (cond b Spawn Call)) (c.args.name.now ∷ c.args.value.now ∷ [])) c.in-Err.why
    by true f = f
    by false f = f
