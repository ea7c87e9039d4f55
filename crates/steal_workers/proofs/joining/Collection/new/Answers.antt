use Rattle.std.proofs.Common.{rules, None, refl}
use Rattle.steal_workers.proofs.Collected.{brings_none}
use Rattle.steal_workers.proofs.joining.Collection.new.Goals as goal

pub returns : goal.returns
returns g c = brings_none None _ (search rules) (search rules) (search rules) refl
