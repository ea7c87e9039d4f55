use Rattle.std.proofs.Common.{refl, ◌≡◌, [], ◌∷◌}
use Rattle.std.specs.Prelude.{codes, option_copied}
use Rattle.program_lines.specs.declared.keyword.Keyword.TheVariants.{Let}
use Rattle.program_lines.specs.Places.{AssignedRegister, Exactly, OperandWord, Sign, OfAssigned, Nothing}
use Rattle.program_lines.specs.Grammar.{expression_values}
use Rattle.program_lines.proofs.Outcomes.{reads, known_word, said}
use Rattle.program_lines.proofs.line.assignment.Goals as goal

pub returns-in-Ok : goal.returns-in-Ok
returns-in-Ok g c =
    let scope = c.args.scope.now in
    let first : c.args.words.now ≡ c.in-Some.target.now ∷ c.take.new.self = c.in-Some.ensures in
    let second : c.take.new.self ≡ c.in-Some-text.field-0.now ∷ c.take-2.new.self = c.in-Some-text.ensures in
    let sign : c.in-Some-text.field-0.now ≡ codes "=" = c.in-Some-text.is-text in
    let whole : c.args.words.now ≡ c.in-Some.target.now ∷ codes "=" ∷ c.take-2.new.self = cc in
    rw whole (
      tt,
      refl,
      said scope Let (c.in-Some.target.now ∷ codes "=" ∷ c.take-2.new.self) _ tt
          (reads scope AssignedRegister (Exactly (codes "=") ∷ OperandWord ∷ []) (Sign ∷ OperandWord ∷ []) c.in-Some.target.now (codes "=" ∷ c.take-2.new.self) c.assignee.result c.expression.result _ (λ r. OfAssigned r.register (option_copied r.named)) (λ e. Nothing ∷ expression_values e)
          c.in-Ok.ensures c.assignee.ensures
          (known_word scope (Exactly (codes "=")) (OperandWord ∷ []) (Sign ∷ OperandWord ∷ []) (codes "=") c.take-2.new.self c.expression.result Nothing expression_values refl c.expression.ensures)),
    )

pub returns-in-Err : goal.returns-in-Err
returns-in-Err g c =
    let scope = c.args.scope.now in
    let first : c.args.words.now ≡ c.in-Some.target.now ∷ c.take.new.self = c.in-Some.ensures in
    let second : c.take.new.self ≡ c.in-Some-text.field-0.now ∷ c.take-2.new.self = c.in-Some-text.ensures in
    let sign : c.in-Some-text.field-0.now ≡ codes "=" = c.in-Some-text.is-text in
    let whole : c.args.words.now ≡ c.in-Some.target.now ∷ codes "=" ∷ c.take-2.new.self = cc in
    rw whole
    (reads scope AssignedRegister (Exactly (codes "=") ∷ OperandWord ∷ []) (Sign ∷ OperandWord ∷ []) c.in-Some.target.now (codes "=" ∷ c.take-2.new.self) c.assignee.result c.expression.result _ (λ r. OfAssigned r.register (option_copied r.named)) (λ e. Nothing ∷ expression_values e)
    c.in-Err.ensures c.assignee.ensures
    (known_word scope (Exactly (codes "=")) (OperandWord ∷ []) (Sign ∷ OperandWord ∷ []) (codes "=") c.take-2.new.self c.expression.result Nothing expression_values refl c.expression.ensures))
