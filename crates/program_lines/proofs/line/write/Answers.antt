use Rattle.std.proofs.Common.{refl, [], ◌∷◌, Bool, true, false, cond}
use Rattle.model_accesses.specs.declared.kind.Kind.TheVariants as kind
use Rattle.program_lines.specs.declared.keyword.Keyword.TheVariants.{Access}
use Rattle.program_lines.specs.Places.{LocationWord, OperandWord, OfLocation, OfOperand}
use Rattle.trace_text.specs.LineGrammar.{IsPlacedFault}
use Rattle.program_lines.specs.Table.{placed, wanted, optional}
use Rattle.program_lines.specs.Faults.{WordFault}
use Rattle.program_lines.proofs.Outcomes.{two_words, said}
use Rattle.program_lines.proofs.line.write.Goals as goal

pub returns-then-bumps : goal.returns-then-bumps
returns-then-bumps g c =
    let scope = c.args.scope.now in
    rw (c.if-bumps.true, c.statement_item.ensures) (
      refl,
      refl,
      said scope (Access kind.Bump) (c.args.place.now ∷ c.args.value.now ∷ []) _ (rw c.if-bumps.true at c.requires)
          (two_words scope LocationWord OperandWord c.args.place.now c.args.value.now c.location.result c.operand.result _ OfLocation OfOperand c.in-Ok.ensures c.location.ensures c.operand.ensures),
    )

pub returns-else-bumps : goal.returns-else-bumps
returns-else-bumps g c =
    let scope = c.args.scope.now in
    rw (c.if-bumps.false, c.statement_item-else-bumps.ensures) (
      refl,
      refl,
      said scope (Access kind.Write) (c.args.place.now ∷ c.args.value.now ∷ []) _ tt
          (two_words scope LocationWord OperandWord c.args.place.now c.args.value.now c.location.result c.operand.result _ OfLocation OfOperand c.in-Ok.ensures c.location.ensures c.operand.ensures),
    )

pub returns-in-Err : goal.returns-in-Err
returns-in-Err g c =
    let scope = c.args.scope.now in
    by c.args.bumps
    (two_words scope LocationWord OperandWord c.args.place.now c.args.value.now c.location.result c.operand.result _ OfLocation OfOperand c.in-Err.ensures c.location.ensures c.operand.ensures)
  where
    by : (b : Bool) → IsPlacedFault (WordFault c.args.scope.now) (placed (LocationWord ∷ OperandWord ∷ []) [] (c.args.place.now ∷ c.args.value.now ∷ [])) c.in-Err.why
        → IsPlacedFault (WordFault c.args.scope.now) (placed (wanted (Access (cond b kind.Bump kind.Write))) (optional (Access (cond b kind.Bump kind.Write))) (c.args.place.now ∷ c.args.value.now ∷ [])) c.in-Err.why
    by true f = f
    by false f = f
