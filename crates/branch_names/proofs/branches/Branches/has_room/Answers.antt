use Rattle.std.proofs.Common.{refl}
use Rattle.branch_names.proofs.branches.Branches.has_room.Goals as goal

pub returns : goal.returns
returns g c = rw (← c.self.view_is) refl
