use Rattle.serial_elision.specs.States.{counted}
use Rattle.serial_elision.proofs.Stacks.{topped}
use Rattle.serial_elision.proofs.elision.Elision.count_turn.Goals as goal

pub returns : goal.returns
returns g c =
    let before = c.args.self.now in
    topped before.memory.items before.views.items before.monoids before.stack.items c.last-last.result c.index_mut.result.now c.count.new.self (counted c.args.turns) c.requires.begun c.last-last.ensures c.index_mut.ensures.value c.count.ensures
