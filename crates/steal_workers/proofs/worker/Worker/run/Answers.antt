use Rattle.std.proofs.Common.{◌≡◌, ◌∙◌, None, Some, Err, ap, sym}
use Rattle.locked_replay.specs.declared.fault.RunFault.{RunFault}
use Rattle.locked_replay.specs.declared.fault.RunFault.TheVariants.{Torn}
use Rattle.steal_workers.proofs.worker.Worker.run.Goals.{in-Ok, in-Err}
use Rattle.steal_workers.proofs.worker.Worker.run.Goals as goal

no_fault : {P : Type 0} → None ≡ Some Torn → P
no_fault none = absurd cc

this_fault : (fault : RunFault) → Some fault ≡ Some Torn → fault ≡ Torn
this_fault fault is = cc

pub returns-clause-torn : goal.returns-clause-torn
returns-clause-torn g c torn = elim c.match-work.branch [
  | in-Ok w ↦ no_fault (sym (ap (λ self. self.1.1.1.1.1.0) w.self-is) ∙ torn)
  | in-Err w ↦ rw w.self-is (c.work.ensures.torn
      (w.in-Err.is ∙ ap Err (this_fault w.in-Err.fault (sym (ap (λ self. self.1.1.1.1.1.0) w.self-is) ∙ torn))))
]
