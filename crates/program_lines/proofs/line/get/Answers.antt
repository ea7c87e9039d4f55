use Rattle.std.proofs.Common.{refl, [], ◌∷◌}
use Rattle.std.specs.Prelude.{option_copied}
use Rattle.model_accesses.specs.declared.kind.Kind.TheVariants as kind
use Rattle.trace_text.specs.Lines as trace
use Rattle.program_lines.specs.declared.keyword.Keyword.TheVariants.{Access}
use Rattle.program_lines.specs.Places.{Common, AssignedRegister, Plain, OfAssigned}
use Rattle.program_lines.proofs.Outcomes.{two_words, said}
use Rattle.program_lines.proofs.line.get.Goals as goal

pub returns-in-Ok : goal.returns-in-Ok
returns-in-Ok g c =
    let scope = c.args.scope.now in (
      tt,
      refl,
      said scope (Access kind.Get) (c.args.target.now ∷ c.args.name.now ∷ []) _ tt
          (two_words scope AssignedRegister (Common trace.ReducerName) c.args.target.now c.args.name.now c.assignee.result c.reducer.result _ (λ r. OfAssigned r.register (option_copied r.named)) (λ number. Plain (trace.OfNumber number))
          c.in-Ok.ensures c.assignee.ensures c.reducer.ensures),
    )

pub returns-in-Err : goal.returns-in-Err
returns-in-Err g c =
    two_words c.args.scope.now AssignedRegister (Common trace.ReducerName) c.args.target.now c.args.name.now c.assignee.result c.reducer.result _ (λ r. OfAssigned r.register (option_copied r.named)) (λ number. Plain (trace.OfNumber number))
    c.in-Err.ensures c.assignee.ensures c.reducer.ensures
