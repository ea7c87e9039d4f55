use Rattle.std.proofs.Common.{◌≢◌, arith, refl, sym}
use Rattle.std.specs.Prelude.{None}
use Rattle.program_text.proofs.Taken.{open_here, no_main_here, main_below, is_none, is_shut}
use Rattle.program_text.proofs.text.main_at_end.Goals as goal

pub returns-then-is_open : goal.returns-then-is_open
returns-then-is_open g c = rw c.fault.ensures (refl, open_here c.args.draft.now (c.is_open.ensures.0 c.if-is_open.true))

pub overflow_cast-result : goal.overflow_cast-result
overflow_cast-result g c =
    let below = main_below c.functions.result.now c.in-Some.main (sym c.in-Some.ensures) in
    omega (arith, below, c.functions.ensures.few)

pub returns-in-Some : goal.returns-in-Some
returns-in-Some g c =
    (is_none c.args.draft.now.current (λ (o : c.args.draft.now.current ≢ None). is_shut c.is_open.result c.if-is_open.false (c.is_open.ensures.1 o)), rw c.functions.ensures.value at (sym c.in-Some.ensures))

pub returns-in-None : goal.returns-in-None
returns-in-None g c =
    rw c.fault-in-None.ensures
    (refl, no_main_here c.args.draft.now (λ (o : c.args.draft.now.current ≢ None). is_shut c.is_open.result c.if-is_open.false (c.is_open.ensures.1 o)) (rw c.functions.ensures.value at (sym c.in-None.ensures)))
