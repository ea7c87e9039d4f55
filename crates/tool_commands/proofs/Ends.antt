-- What the end of a command says of the whole.
use Rattle.std.proofs.Common.{◌≡◌, ◌↔◌, ℕ, Bool, false, Option, List, Vec, Result, Ok, Err, IfOk, IfErr, IsTrue, IsErrOf, refl, sym, ap, subst, ◌∙◌}
use Rattle.std.specs.Io.KnownBytes.{Appends}
use Rattle.command_streams.specs.declared.fault.CliFault.{CliFault}
use Rattle.command_streams.specs.declared.fault.CliFault.TheVariants.{Read, Write}
use Rattle.command_streams.specs.declared.watched.Watched.{Watched}
use Rattle.command_streams.specs.Watched.{has_failed}
use Rattle.command_streams.specs.Devices.{LeavesDevices}
use Rattle.command_streams.specs.Streams.{StopsWriting}
use Rattle.command_streams.proofs.Failing.{step_failed, never_failed, none_failed, write_alone}
use Rattle.tool_commands.specs.Ends.{EndsSo}
use Rattle.tool_commands.proofs.Devices.{not_failed, writing_stopped, all_written}

-- what is told was written
pub written : {A W : Type 0} (told : Result (Vec ℕ A × ℕ) CliFault) (wrote writes : Option (List ℕ)) (before after : Watched W) (result : Result ℕ CliFault) →
    EndsSo told wrote writes before after result → (Tells : List ℕ → ℕ → Type 0) (Whole : ℕ → Type 0) → IfOk told (λ t. Tells t.0.items t.1) →
    ((text : List ℕ) (status : ℕ) → Tells text status → Appends wrote writes text → Whole status) → IfOk result Whole
written (Ok told) wrote writes before after (Ok status) ends Tells Whole tells whole =
    subst Whole (sym ends.answered.0) (whole told.0.items told.1 tells ends.answered.1)
written (Err fault) wrote writes before after (Ok status) ends Tells Whole tells whole = absurd (let e = ends.0 in cc)
written told wrote writes before after (Err fault) ends Tells Whole tells whole = tt

-- nothing is told, or only a part of it could be written
pub stopped : {A W : Type 0} (told : Result (Vec ℕ A × ℕ) CliFault) (wrote writes : Option (List ℕ)) (before after : Watched W) (result : Result ℕ CliFault) →
    EndsSo told wrote writes before after result → (Tells : List ℕ → ℕ → Type 0) (Stops Cause : CliFault → Type 0) → IfOk told (λ t. Tells t.0.items t.1) →
    IfErr told Stops → ((fault : CliFault) → Stops fault → Cause fault) →
    ((text : List ℕ) (status : ℕ) (fault : CliFault) → Tells text status → StopsWriting wrote writes text fault → Cause fault) → IfErr result Cause
stopped (Ok told) wrote writes before after (Err fault) ends Tells Stops Cause tells stops untold cut = cut told.0.items told.1 fault tells ends.cut
stopped (Err fault) wrote writes before after result ends Tells Stops Cause tells stops untold cut =
    subst (λ (r : Result ℕ CliFault). IfErr r Cause) (sym ends.0) (untold fault stops)
stopped (Ok told) wrote writes before after (Ok status) ends Tells Stops Cause tells stops untold cut = tt

-- the devices, where the fault of what is told is that of reading exactly where a reader has failed
pub left : {A W : Type 0} (told : Result (Vec ℕ A × ℕ) CliFault) (wrote writes : Option (List ℕ)) (before after : Watched W) (result : Result ℕ CliFault) →
    EndsSo told wrote writes before after result → (failed : Bool) → (IsErrOf told Read ↔ IsTrue failed) → (IsErrOf told Write → ⊥) → has_failed before ≡ false →
    LeavesDevices result failed before after
left (Ok told) wrote writes before after (Ok status) ends failed read write fresh = all_written status failed before after told status read ends.delivered ends.failed
left (Ok told) wrote writes before after (Err fault) ends failed read write fresh =
    writing_stopped fault failed before told after read (write_alone wrote writes told.0.items fault ends.cut) ends.failed
left {W = W} (Err fault) wrote writes before after result ends failed read write fresh =
    subst (λ (r : Result ℕ CliFault). LeavesDevices r failed before after) (sym ends.0)
    (subst (λ (w : Watched W). LeavesDevices {T = ℕ} (Err fault) failed before w) (sym ends.1) (record {
      delivered = tt;
      read_failed = step_failed (Err fault) Read failed fault refl read;
      write_failed = none_failed (Err fault) Write (has_failed before) fault refl (λ is. write (ap (λ (f : CliFault). Err f) is)) fresh;
      unwritten = λ other. refl;
    }))

-- the devices, where a step before has read all, and what is told stops by no device
pub left_read : {A W S : Type 0} (told : Result (Vec ℕ A × ℕ) CliFault) (wrote writes : Option (List ℕ)) (before after : Watched W) (result : Result ℕ CliFault) →
    EndsSo told wrote writes before after result → (failed : Bool) (value : S) → (IsErrOf (Ok value) Read ↔ IsTrue failed) → (Stops : CliFault → Type 0) →
    IfErr told Stops → (Stops Read → ⊥) → (Stops Write → ⊥) → has_failed before ≡ false → LeavesDevices result failed before after
left_read {A = A} told wrote writes before after result ends failed value read Stops stops no_read no_write fresh =
    left told wrote writes before after result ends failed
    (never_failed told Read failed Stops no_read stops (not_failed value Read failed read))
    (λ is. no_write (subst (λ (r : Result (Vec ℕ A × ℕ) CliFault). IfErr r Stops) is stops)) fresh

-- the fault of what is told is that of the whole
pub same_fault : {A W : Type 0} (told : Result (Vec ℕ A × ℕ) CliFault) (wrote writes : Option (List ℕ)) (before after : Watched W) (result : Result ℕ CliFault) →
    EndsSo told wrote writes before after result → (fault : CliFault) → IsErrOf told fault → IsErrOf result fault
same_fault (Ok told) wrote writes before after result ends fault is = absurd (cc)
same_fault (Err other) wrote writes before after result ends fault is =
    let same : other ≡ fault = cc in ends.0 ∙ ap (λ (f : CliFault). Err f) same
