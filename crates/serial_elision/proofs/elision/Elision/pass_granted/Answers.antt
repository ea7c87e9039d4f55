use Rattle.std.proofs.Common.{◌+◌}
use Rattle.model_programs.specs.Values.{with_ok}
use Rattle.serial_elision.specs.States.{moved}
use Rattle.serial_elision.proofs.Stacks.{topped}
use Rattle.serial_elision.proofs.elision.Elision.pass_granted.Goals as goal

pub returns : goal.returns
returns g c =
    let before = c.args.self.now in
    topped before.memory.items before.views.items before.monoids before.stack.items c.last-last.result c.index_mut.result.now c.pass.new.self (λ t. moved t (t.place + 1) (with_ok 1 t.registers)) c.requires.begun c.last-last.ensures c.index_mut.ensures.value c.pass.ensures
