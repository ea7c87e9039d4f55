use Rattle.std.proofs.Common.{refl, [], ◌∷◌, Bool, true, false, cond}
use Rattle.model_accesses.specs.declared.kind.Kind.TheVariants as kind
use Rattle.trace_text.specs.Lines as trace
use Rattle.program_lines.specs.declared.keyword.Keyword.TheVariants.{Access}
use Rattle.program_lines.specs.Places.{Common, OperandWord, Plain, OfOperand}
use Rattle.trace_text.specs.LineGrammar.{IsPlacedFault}
use Rattle.program_lines.specs.Table.{placed, wanted, optional}
use Rattle.program_lines.specs.Faults.{WordFault}
use Rattle.program_lines.proofs.Outcomes.{two_words, said}
use Rattle.program_lines.proofs.line.update.Goals as goal

pub returns-then-puts : goal.returns-then-puts
returns-then-puts g c =
    let scope = c.args.scope.now in
    rw (c.if-puts.true, c.statement_item.ensures) (
      refl,
      refl,
      said scope (Access kind.Put) (c.args.name.now ∷ c.args.value.now ∷ []) _ tt
          (two_words scope (Common trace.ReducerName) OperandWord c.args.name.now c.args.value.now c.reducer.result c.operand.result _ (λ number. Plain (trace.OfNumber number)) OfOperand c.in-Ok.ensures c.reducer.ensures c.operand.ensures),
    )

pub returns-else-puts : goal.returns-else-puts
returns-else-puts g c =
    let scope = c.args.scope.now in
    rw (c.if-puts.false, c.statement_item-else-puts.ensures) (
      refl,
      refl,
      said scope (Access kind.Update) (c.args.name.now ∷ c.args.value.now ∷ []) _ tt
          (two_words scope (Common trace.ReducerName) OperandWord c.args.name.now c.args.value.now c.reducer.result c.operand.result _ (λ number. Plain (trace.OfNumber number)) OfOperand c.in-Ok.ensures c.reducer.ensures c.operand.ensures),
    )

pub returns-in-Err : goal.returns-in-Err
returns-in-Err g c =
    let scope = c.args.scope.now in
    by c.args.puts
    (two_words scope (Common trace.ReducerName) OperandWord c.args.name.now c.args.value.now c.reducer.result c.operand.result _ (λ number. Plain (trace.OfNumber number)) OfOperand c.in-Err.ensures c.reducer.ensures c.operand.ensures)
  where
    by : (b : Bool) → IsPlacedFault (WordFault c.args.scope.now) (placed ((Common trace.ReducerName) ∷ OperandWord ∷ []) [] (c.args.name.now ∷ c.args.value.now ∷ [])) c.in-Err.why
        → IsPlacedFault (WordFault c.args.scope.now) (placed (wanted (Access (cond b kind.Put kind.Update))) (optional (Access (cond b kind.Put kind.Update))) (c.args.name.now ∷ c.args.value.now ∷ [])) c.in-Err.why
    by true f = f
    by false f = f
