use Rattle.std.proofs.Common.{◌≤◌, List, Some, None, length, arith}
use Rattle.model_bodies.specs.Codes.{Code}
use Rattle.model_bodies.specs.Sound.{max_functions}
use Rattle.std.specs.Prelude.{Option}
use Rattle.program_text.specs.Drafts.{Open, begun_by}
use Rattle.program_text.specs.Openings.{IsCounted}
use Rattle.program_text.proofs.draft.Draft.functions.Goals as goal

few_functions : (functions : List Code) (current : Option Open) → begun_by functions current ≤ max_functions → length functions ≤ max_functions
few_functions functions None few = few
few_functions functions (Some current) few = omega (arith, few)

pub returns-clause-few : goal.returns-clause-few
returns-clause-few g c =
    let draft = c.self.inside in
    let counted : IsCounted draft.functions.items draft.current draft.lines = c.self.invariant in
    rw c.as_slice.ensures.value (few_functions draft.functions.items draft.current counted.0)
