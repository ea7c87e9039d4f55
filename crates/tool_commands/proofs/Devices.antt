-- How a command leaves its devices, by the step at which it ends.
use Rattle.std.proofs.Common.{◌≡◌, ◌↔◌, Bool, true, false, Result, Ok, Err, IsTrue, IsErrOf, refl, sym, subst}
use Rattle.std.specs.Prelude.{◌||◌}
use Rattle.command_streams.specs.declared.fault.CliFault.{CliFault}
use Rattle.command_streams.specs.declared.fault.CliFault.TheVariants.{Read, Write}
use Rattle.command_streams.specs.declared.watched.Watched.{Watched}
use Rattle.command_streams.specs.Watched.{has_failed, is_delivered}
use Rattle.command_streams.specs.Devices.{LeavesDevices}
use Rattle.command_streams.proofs.Failing.{step_failed, none_failed}

-- a device at which a step went well has not failed
pub not_failed : {S : Type 0} (value : S) (told : CliFault) (failed : Bool) → (IsErrOf (Ok value) told ↔ IsTrue failed) → failed ≡ false
not_failed value told true step = absurd (let never = step.1 refl in cc)
not_failed value told false step = refl

-- one of two readers has failed, or none, as this one has
pub failed_first : {S : Type 0} (result : Result S CliFault) (first second : Bool) → second ≡ false → (IsErrOf result Read ↔ IsTrue first) →
    IsErrOf result Read ↔ IsTrue (first || second)
failed_first result true second fresh step = step
failed_first result false second fresh step = subst (λ (b : Bool). IsErrOf result Read ↔ IsTrue b) (sym fresh) step

pub failed_second : {S : Type 0} (result : Result S CliFault) (first second : Bool) → first ≡ false → (IsErrOf result Read ↔ IsTrue second) →
    IsErrOf result Read ↔ IsTrue (first || second)
failed_second result first second fresh step = subst (λ (b : Bool). IsErrOf result Read ↔ IsTrue (b || second)) (sym fresh) step

module _ {T W : Type 0} (fault : CliFault) (failed : Bool) (before : Watched W) where
  -- reading has stopped
  pub read_stopped : {S : Type 0} (Stops : CliFault → Type 0) → (IsErrOf {T = S} (Err fault) Read ↔ IsTrue failed) → Stops fault → (Stops Write → ⊥) →
      has_failed before ≡ false → LeavesDevices {T = T} (Err fault) failed before before
  read_stopped Stops step stops no_write fresh = record {
    delivered = tt;
    read_failed = step_failed _ _ _ fault refl step;
    write_failed = none_failed _ _ _ fault refl (λ is. no_write (subst Stops is stops)) fresh;
    unwritten = λ other. refl;
  }

  -- a step between reading and writing has stopped
  pub telling_stopped : {S : Type 0} (value : S) (Stops : CliFault → Type 0) → (IsErrOf (Ok value) Read ↔ IsTrue failed) → Stops fault → (Stops Read → ⊥) → (Stops Write → ⊥) →
      has_failed before ≡ false → LeavesDevices {T = T} (Err fault) failed before before
  telling_stopped value Stops read stops no_read no_write fresh = record {
    delivered = tt;
    read_failed = none_failed _ _ _ fault refl (λ is. no_read (subst Stops is stops)) (not_failed value Read failed read);
    write_failed = none_failed _ _ _ fault refl (λ is. no_write (subst Stops is stops)) fresh;
    unwritten = λ other. refl;
  }

  -- writing has stopped
  pub writing_stopped : {S U : Type 0} (value : S) (after : Watched W) → (IsErrOf (Ok value) Read ↔ IsTrue failed) → fault ≡ Write →
      (IsErrOf {T = U} (Err fault) Write ↔ IsTrue (has_failed after)) → LeavesDevices {T = T} (Err fault) failed before after
  writing_stopped value after read is step = record {
    delivered = tt;
    read_failed = none_failed _ _ _ fault refl (λ other. cc) (not_failed value Read failed read);
    write_failed = step_failed _ _ _ fault refl step;
    unwritten = λ other. absurd (other is);
  }

-- all was written
pub all_written : {S T U W : Type 0} (status : T) (failed : Bool) (before after : Watched W) (value : S) (written : U) → (IsErrOf (Ok value) Read ↔ IsTrue failed) →
    is_delivered after ≡ true → (IsErrOf (Ok written) Write ↔ IsTrue (has_failed after)) → LeavesDevices (Ok status) failed before after
all_written status failed before after value written read delivered step =
    let fresh : failed ≡ false = not_failed value Read failed read in
    let whole : has_failed after ≡ false = not_failed written Write (has_failed after) step in record {
      delivered = delivered;
      read_failed = (λ e. cc, λ e. cc);
      write_failed = (λ e. cc, λ e. cc);
      unwritten = tt;
    }
