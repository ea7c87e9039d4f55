use Rattle.std.proofs.Common.{◌<◌, length, sym, subst}
use Rattle.std.specs.Prelude.{IfSome}
use Rattle.steal_workers.proofs.serial.run_serially.Goals as goal

pub go_on-requires : goal.go_on-requires
go_on-requires g c =
    subst (λ program. IfSome c.in_ok-answer.target (λ target. target.function < length program.now.functions)) (sym c.ask_next.ensures.program)
    c.in_ok-answer.ensures.target
