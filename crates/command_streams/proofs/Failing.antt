-- A device has failed exactly where a step of the whole has found it so.
use Rattle.std.proofs.Common.{◌≡◌, ◌↔◌, ℕ, List, Option, refl, Bool, false, Result, Ok, Err, IsTrue, IsErrOf, IfErr, ap, subst, ◌∙◌}
use Rattle.text_words.specs.declared.fault.TextFault.{TextFault}
use Rattle.text_words.specs.declared.fault.TextFault.TheVariants.{At, Memory as TextMemory}
use Rattle.command_streams.specs.declared.fault.CliFault.{CliFault}
use Rattle.command_streams.specs.declared.fault.CliFault.TheVariants.{Read, Write, Memory}
use Rattle.command_streams.specs.Faults.{fault_of_text}
use Rattle.command_streams.specs.Streams.{StopsWriting}

module _ {U : Type 0} (whole : Result U CliFault) (told : CliFault) (failed : Bool) where
  -- the whole has the fault of a step
  pub step_failed : {T : Type 0} (fault : CliFault) → whole ≡ Err fault → (IsErrOf {T = T} (Err fault) told ↔ IsTrue failed) → IsErrOf whole told ↔ IsTrue failed
  step_failed fault is before = (
    λ tells. before.0 (let same : fault ≡ told = cc in ap (λ (f : CliFault). Err f) same),
    λ tells. let step = before.1 tells in let same : fault ≡ told = cc in is ∙ ap (λ (f : CliFault). Err f) same,
  )

  -- the whole has another fault, and the device has not failed
  pub none_failed : (fault : CliFault) → whole ≡ Err fault → (fault ≡ told → ⊥) → failed ≡ false → IsErrOf whole told ↔ IsTrue failed
  none_failed fault is other fresh = (λ tells. absurd (other cc), λ tells. cc)

  -- no fault of the whole is that of the device, which has not failed
  pub never_failed : (Faults : CliFault → Type 0) → (Faults told → ⊥) → IfErr whole Faults → failed ≡ false → IsErrOf whole told ↔ IsTrue failed
  never_failed Faults other faults fresh = (λ tells. absurd (other (subst (λ (r : Result U CliFault). IfErr r Faults) tells faults)), λ tells. cc)

module _ {U : Type 0} (failed : Bool) where
  -- there was no memory, and the reader has not failed
  pub memory_failed : (whole : Result U CliFault) (fault : CliFault) → whole ≡ Err fault → fault ≡ Memory → failed ≡ false → IsErrOf whole Read ↔ IsTrue failed
  memory_failed whole fault is memory fresh = none_failed whole Read failed fault is (λ told. cc) fresh

  -- the whole went well
  pub all_well : (told : CliFault) (result : U) → failed ≡ false → IsErrOf (Ok result) told ↔ IsTrue failed
  all_well told result fresh = (λ tells. cc, λ tells. cc)

  -- the fault of the whole is the device's exactly where that has failed
  pub fault_failed : (told fault : CliFault) → (fault ≡ told ↔ IsTrue failed) → IsErrOf {T = U} (Err fault) told ↔ IsTrue failed
  fault_failed told fault device = (λ tells. device.0 cc, λ tells. ap (λ (f : CliFault). Err f) (device.1 tells))

-- the fault of a text is none of a reader
pub text_unread : (fault : TextFault) → fault_of_text fault ≡ Read → ⊥
text_unread TextMemory is = cc
text_unread (At line why) is = cc

-- writing alone has failed
pub write_alone : (wrote writes : Option (List ℕ)) (text : List ℕ) (fault : CliFault) → StopsWriting wrote writes text fault → fault ≡ Write
write_alone wrote writes text Write stops = refl
write_alone wrote writes text fault stops = absurd stops
