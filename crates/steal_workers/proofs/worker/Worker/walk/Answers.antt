use Rattle.std.proofs.Common.{◌≡◌, Result, Err, ap, ◌∙◌}
use Rattle.locked_replay.specs.declared.fault.RunFault.{RunFault}
use Rattle.locked_replay.specs.declared.fault.RunFault.TheVariants.{Torn}
use Rattle.steal_workers.proofs.Asking.{err_is}
use Rattle.steal_workers.proofs.worker.Worker.walk.Goals as goal

same_fault : {T : Type 0} (result : Result T RunFault) (fault other : RunFault) → result ≡ Err fault → result ≡ Err other → fault ≡ other
same_fault result fault other one two = cc

pub loop-preserved-in-Ahead : goal.loop-preserved-in-Ahead
loop-preserved-in-Ahead g c = c.step.ensures.station ∙ c.loop.invariant

pub loop-preserved : goal.loop-preserved
loop-preserved g c = c.step.ensures.station ∙ c.loop.invariant

pub returns-in_err-going-clause-torn : goal.returns-in_err-going-clause-torn
returns-in_err-going-clause-torn g c torn =
    let told : c.from_residual.result ≡ Err c.in_err-going.field-0.0 = err_is _ _ c.from_residual.ensures.1 in
    c.in_err-going.ensures.torn (ap Err (same_fault _ c.in_err-going.field-0.0 Torn told torn))

pub returns-in_err-next-in_default : goal.returns-in_err-next-in_default
returns-in_err-next-in_default g c = record {
  station = c.step.ensures.station ∙ c.loop.invariant;
  torn = λ torn.
      let told : c.from_residual-in_err-next-in_default.result ≡ Err c.in_err-next-in_default.field-0.0 = err_is _ _ c.from_residual-in_err-next-in_default.ensures.1 in
      c.in_ok-going.ensures.joins (c.in_err-next-in_default.ensures.torn (ap Err (same_fault _ c.in_err-next-in_default.field-0.0 Torn told torn)));
}

pub returns-in-None-2 : goal.returns-in-None-2
returns-in-None-2 g c = record {
  station = c.step.ensures.station ∙ c.loop.invariant;
  torn = λ torn. absurd (cc);
}

pub returns-clause-torn : goal.returns-clause-torn
returns-clause-torn g c torn = absurd (cc)
