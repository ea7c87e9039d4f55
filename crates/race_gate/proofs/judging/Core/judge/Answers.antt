use Rattle.std.proofs.Common.{◌≡◌, Result, Ok, Err, refl}
use Rattle.std.specs.Prelude.{IfErr, MatchResult}
use Rattle.std.proofs.lemmas.Result.{err_from_is_err_and}
use Rattle.model_histories.specs.declared.answer.Answer.{Answer}
use Rattle.model_histories.specs.declared.fault.GateFault.{GateFault}
use Rattle.model_histories.specs.declared.fault.GateFault.TheVariants.{Memory}
use Rattle.model_histories.specs.Admission.{IsOfTheGate}
use Rattle.race_gate.proofs.Admitted.{admitted-fault}
use Rattle.race_gate.proofs.Cores.{judges-next}
use Rattle.race_gate.proofs.judging.Core.judge.Goals as goal

-- want of memory is the gate's fault
lacks-memory : (Entered : Answer → Type 0) (Stays : GateFault → Type 0) (result : Result Answer GateFault) →
    MatchResult result Entered (λ fault. (fault ≡ Memory) × Stays fault) → IfErr result IsOfTheGate
lacks-memory Entered Stays (Ok answer) done = tt
lacks-memory Entered Stays (Err fault) done = rw done.0 tt

pub returns-in_err-check-clause-judges : goal.returns-in_err-check-clause-judges
returns-in_err-check-clause-judges g c state fits =
    let p = err_from_is_err_and c.from_residual.result c.from_residual.ensures.1 in
    rw (p.1, p.2) (state, (refl, c.in_err-check.ensures.fault state fits), fits)

pub returns-in_err-check-clause-admitted : goal.returns-in_err-check-clause-admitted
returns-in_err-check-clause-admitted g c state fits admitted =
    let p = err_from_is_err_and c.from_residual.result c.from_residual.ensures.1 in
    rw (p.1, p.2) (admitted-fault state c.args.request _ admitted (c.in_err-check.ensures.fault state fits).0)

pub returns-clause-judges : goal.returns-clause-judges
returns-clause-judges g c state fits =
    let faultless = c.in_ok-check.ensures.fault state fits in
    judges-next _ _ state c.args.request c.answer.result fits faultless (c.answer.ensures state fits faultless)

pub returns-clause-admitted : goal.returns-clause-admitted
returns-clause-admitted g c state fits admitted =
    lacks-memory _ _ c.answer.result (c.answer.ensures state fits (c.in_ok-check.ensures.fault state fits))

pub answer-requires : goal.answer-requires
answer-requires g c =
    let held = c.check.ensures.fits in
    (held.0, held.1, c.in_ok-check.ensures.fault held.0 held.1)
