use Rattle.std.proofs.Common.{ap}
use Rattle.program_text.specs.Drafts.{Draft}
use Rattle.program_text.proofs.Taken.{scope_is}
use Rattle.program_text.proofs.draft.Draft.scope.Goals as goal

pub returns : goal.returns
returns g c =
    scope_is c.new.result c.args.names.now c.args.self.now c.self.inside.names c.begun.result c.registers.result.now c.new.ensures
    (ap (λ (d : Draft). d.known) c.self.view_is) c.begun.ensures c.registers.ensures.value
