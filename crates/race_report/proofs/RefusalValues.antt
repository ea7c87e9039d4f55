-- What the values of refusals send to a serializer, and that none has a float.
use Rattle.std.proofs.Common.{◌≡◌, Option, Some, None, false, refl}
use Rattle.serde.specs.Event.{Log, WritesOption}
use Rattle.serde_json.specs.Events.{SendsValue}
use Rattle.serde_json.specs.Written.{has_float}
use Rattle.race_report.specs.declared.refusal.LinedWitness.{LinedWitness}
use Rattle.race_report.specs.declared.refusal.Refusal.{Refusal}
use Rattle.race_report.specs.Refusals.{witness_told, refusal_told}
use Rattle.race_report.specs.RefusalValues.{name_text, witness_in, refusal_in}

pub witness_sent : (witness : Option LinedWitness) (old new : Log) → WritesOption (λ lined. SendsValue (witness_told lined.line lined.witness)) witness old new →
    SendsValue (witness_in witness) old new
witness_sent None old new sent = sent
witness_sent (Some lined) old new sent = sent

pub refusal_whole : (refusal : Refusal) → has_float (refusal_in refusal) ≡ false
refusal_whole refusal = by refusal.witness
  where
    by : (witness : Option LinedWitness) → has_float (refusal_told refusal.number refusal.request (name_text refusal.name) refusal.rule.now (witness_in witness)) ≡ false
    by None = refl
    by (Some lined) = refl
