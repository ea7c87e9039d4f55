use Rattle.serial_elision.specs.States.{moved}
use Rattle.serial_elision.proofs.Stacks.{topped}
use Rattle.serial_elision.proofs.elision.Elision.go.Goals as goal

pub returns : goal.returns
returns g c =
    let before = c.args.self.now in
    topped before.memory.items before.views.items before.monoids before.stack.items c.last-last.result c.index_mut.result.now c.go.new.self (λ t. moved t c.args.place t.registers) c.requires c.last-last.ensures c.index_mut.ensures.value c.go.ensures
