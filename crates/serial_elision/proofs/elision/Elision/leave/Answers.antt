use Rattle.serial_elision.proofs.Stacks.{leaves}
use Rattle.serial_elision.proofs.elision.Elision.leave.Goals as goal

pub returns : goal.returns
returns g c =
    let before = c.args.self.now in
    leaves before.stack.items c.pop.new.self.items before.stack.len before.memory.items before.views.items before.monoids before.stack.ok.0 c.pop.ensures.rest
