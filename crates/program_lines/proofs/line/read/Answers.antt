use Rattle.std.proofs.Common.{refl, [], ◌∷◌}
use Rattle.std.specs.Prelude.{option_copied}
use Rattle.model_accesses.specs.declared.kind.Kind.TheVariants as kind
use Rattle.program_lines.specs.declared.keyword.Keyword.TheVariants.{Access}
use Rattle.program_lines.specs.Places.{AssignedRegister, LocationWord, OfAssigned, OfLocation}
use Rattle.program_lines.proofs.Outcomes.{two_words, said}
use Rattle.program_lines.proofs.line.read.Goals as goal

pub returns-in-Ok : goal.returns-in-Ok
returns-in-Ok g c =
    let scope = c.args.scope.now in (
      tt,
      refl,
      said scope (Access kind.Read) (c.args.target.now ∷ c.args.place.now ∷ []) _ tt
          (two_words scope AssignedRegister LocationWord c.args.target.now c.args.place.now c.assignee.result c.location.result _ (λ r. OfAssigned r.register (option_copied r.named)) OfLocation
          c.in-Ok.ensures c.assignee.ensures c.location.ensures),
    )

pub returns-in-Err : goal.returns-in-Err
returns-in-Err g c =
    two_words c.args.scope.now AssignedRegister LocationWord c.args.target.now c.args.place.now c.assignee.result c.location.result _ (λ r. OfAssigned r.register (option_copied r.named)) OfLocation
    c.in-Err.ensures c.assignee.ensures c.location.ensures
