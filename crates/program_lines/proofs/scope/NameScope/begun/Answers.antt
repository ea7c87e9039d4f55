use Rattle.std.proofs.Common.{refl}
use Rattle.program_lines.proofs.scope.NameScope.begun.Goals as goal

pub returns : goal.returns
returns g c = rw (← c.self.view_is) refl
