use Rattle.std.proofs.Common.{[], ◌∷◌, ◌++◌, ap, ◌∙◌}
use Rattle.serial_elision.specs.States.{state_in}
use Rattle.serial_elision.proofs.Stacks.{one_more}
use Rattle.serial_elision.proofs.elision.Elision.begin.Goals as goal

pub returns : goal.returns
returns g c =
    let before = c.args.self.now in
    ap (λ stack. state_in stack before.memory.items before.views.items before.monoids) (c.in_ok-push.ensures.items ∙ ap (λ top. before.stack.items ++ top ∷ []) c.begin.ensures)
    ∙ one_more before.memory.items before.views.items before.monoids before.stack.items c.args.function c.args.argument c.requires
