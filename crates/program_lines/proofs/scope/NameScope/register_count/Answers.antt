use Rattle.std.proofs.Common.{refl}
use Rattle.program_lines.proofs.scope.NameScope.register_count.Goals as goal

pub returns-clause-count : goal.returns-clause-count
returns-clause-count g c = rw (← c.self.view_is) refl
