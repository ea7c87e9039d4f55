use Rattle.std.proofs.Common.{◌≡◌, ◌≢◌, true, Err, sym, subst}
use Rattle.std.specs.Prelude.{IfErr}
use Rattle.frame_steps.specs.Frames.{IsAfter}
use Rattle.locked_replay.specs.declared.fault.RunFault.TheVariants.{Torn, Memory}
use Rattle.steal_workers.proofs.Asking.{err_is, roomy}
use Rattle.steal_workers.proofs.task.Task.next_request.Goals as goal

pub returns-clause-wanted : goal.returns-clause-wanted
returns-clause-wanted g c =
    let functions = c.args.self.now.program.now.functions in
    λ function argument history x after can.
    let begun = subst (IsAfter functions function argument history) (sym c.deref_mut.ensures.value) after in
    let roomed = subst (IsAfter functions function argument history) (sym c.in_ok-reserve_call.ensures.ok) (roomy functions function argument history c.deref_mut.result.now true begun) in
    c.next-want.ensures.asks x ((c.next-want.ensures.only function argument history x roomed).0 can)

pub returns-then-is_over-clause-err : goal.returns-then-is_over-clause-err
returns-then-is_over-clause-err g c = λ same. absurd (cc)

pub returns-in_err-reserve_call-clause-err : goal.returns-in_err-reserve_call-clause-err
returns-in_err-reserve_call-clause-err g c =
    let told : c.from_residual.result ≡ Err Memory = err_is _ Memory c.from_residual.ensures.1 in
    subst (λ result. IfErr result (λ fault. fault ≢ Torn)) (sym told) (λ same. absurd (cc))
