use Rattle.serial_elision.specs.States.{turning}
use Rattle.serial_elision.proofs.Stacks.{topped}
use Rattle.serial_elision.proofs.elision.Elision.set_turns.Goals as goal

pub returns : goal.returns
returns g c =
    let before = c.args.self.now in
    topped before.memory.items before.views.items before.monoids before.stack.items c.last-last.result c.index_mut.result.now c.turn.new.self (λ t. turning t c.args.turns) c.requires c.last-last.ensures c.index_mut.ensures.value c.turn.ensures
