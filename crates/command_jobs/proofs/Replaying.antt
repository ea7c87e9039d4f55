-- A replay of what two readers give.
use Rattle.std.proofs.Common.{◌≡◌, ℕ, List, Option, Result, IfOk, IfErr, subst}
use Rattle.std.proofs.lemmas.Result.{IfOk-weaker, IfErr-weaker}
use Rattle.command_streams.specs.declared.fault.CliFault.{CliFault}
use Rattle.command_streams.specs.Readings.{reading}
use Rattle.tool_commands.specs.Replays.{IsReplayed, HasReplayCause}

-- What the readers hold is what is to be replayed.
pub replayed_so : (program p trace t pb tb wrote writes : Option (List ℕ)) (answer : Result ℕ CliFault) → program ≡ p → trace ≡ t →
    IfOk answer (IsReplayed (reading program pb) (reading trace tb) wrote writes) →
    IfOk answer (λ status. (x : Option (List ℕ)) × (y : Option (List ℕ)) × IsReplayed (reading p x) (reading t y) wrote writes status)
replayed_so program p trace t pb tb wrote writes answer first second =
    IfOk-weaker answer _ (λ status. (x : Option (List ℕ)) × (y : Option (List ℕ)) × IsReplayed (reading p x) (reading t y) wrote writes status)
    (λ status is. (
      pb,
      tb,
      subst (λ (a : Option (List ℕ)). IsReplayed (reading a pb) (reading t tb) wrote writes status) first
          (subst (λ (b : Option (List ℕ)). IsReplayed (reading program pb) (reading b tb) wrote writes status) second is),
    ))

-- and the same of what stops it
pub stopped_so : (program p trace t pb tb wrote writes : Option (List ℕ)) (answer : Result ℕ CliFault) → program ≡ p → trace ≡ t →
    IfErr answer (HasReplayCause (reading program pb) (reading trace tb) wrote writes) →
    IfErr answer (λ fault. (x : Option (List ℕ)) × (y : Option (List ℕ)) × HasReplayCause (reading p x) (reading t y) wrote writes fault)
stopped_so program p trace t pb tb wrote writes answer first second =
    IfErr-weaker answer _ (λ fault. (x : Option (List ℕ)) × (y : Option (List ℕ)) × HasReplayCause (reading p x) (reading t y) wrote writes fault)
    (λ fault is. (
      pb,
      tb,
      subst (λ (a : Option (List ℕ)). HasReplayCause (reading a pb) (reading t tb) wrote writes fault) first
          (subst (λ (b : Option (List ℕ)). HasReplayCause (reading program pb) (reading b tb) wrote writes fault) second is),
    ))

-- The same where they are named otherwise.
pub replayed_there : (program p trace t wrote writes : Option (List ℕ)) (answer : Result ℕ CliFault) → program ≡ p → trace ≡ t →
    IfOk answer (λ status. (x : Option (List ℕ)) × (y : Option (List ℕ)) × IsReplayed (reading program x) (reading trace y) wrote writes status) →
    IfOk answer (λ status. (x : Option (List ℕ)) × (y : Option (List ℕ)) × IsReplayed (reading p x) (reading t y) wrote writes status)
replayed_there program p trace t wrote writes answer first second done =
    subst (λ (a : Option (List ℕ)). IfOk answer (λ status. (x : Option (List ℕ)) × (y : Option (List ℕ)) × IsReplayed (reading a x) (reading t y) wrote writes status)) first
    (subst (λ (b : Option (List ℕ)). IfOk answer (λ status. (x : Option (List ℕ)) × (y : Option (List ℕ)) × IsReplayed (reading program x) (reading b y) wrote writes status)) second done)

pub stopped_there : (program p trace t wrote writes : Option (List ℕ)) (answer : Result ℕ CliFault) → program ≡ p → trace ≡ t →
    IfErr answer (λ fault. (x : Option (List ℕ)) × (y : Option (List ℕ)) × HasReplayCause (reading program x) (reading trace y) wrote writes fault) →
    IfErr answer (λ fault. (x : Option (List ℕ)) × (y : Option (List ℕ)) × HasReplayCause (reading p x) (reading t y) wrote writes fault)
stopped_there program p trace t wrote writes answer first second stops =
    subst (λ (a : Option (List ℕ)). IfErr answer (λ fault. (x : Option (List ℕ)) × (y : Option (List ℕ)) × HasReplayCause (reading a x) (reading t y) wrote writes fault)) first
    (subst (λ (b : Option (List ℕ)). IfErr answer (λ fault. (x : Option (List ℕ)) × (y : Option (List ℕ)) × HasReplayCause (reading program x) (reading b y) wrote writes fault)) second stops)
