-- How a job leaves its devices, by how its command leaves them.
use Rattle.std.proofs.Common.{◌≡◌, Bool, true, false, Result, Err, refl, sym, subst}
use Rattle.std.specs.Prelude.{◌||◌}
use Rattle.command_streams.specs.declared.fault.CliFault.{CliFault}
use Rattle.command_streams.specs.declared.fault.CliFault.TheVariants.{Read}
use Rattle.command_streams.specs.declared.watched.Watched.{Watched}
use Rattle.command_streams.specs.Watched.{has_failed}
use Rattle.command_streams.specs.Devices.{LeavesDevices}
use Rattle.command_streams.proofs.Failing.{none_failed}

-- a host that is shown the reader has failed where that has
pub host_noted : {T W : Type 0} (result : Result T CliFault) (before after : Watched W) (host noted reader : Bool) → noted ≡ (host || reader) → host ≡ false →
    LeavesDevices result reader before after → LeavesDevices result noted before after
host_noted result before after host noted reader shown fresh leaves =
    subst (λ (failed : Bool). LeavesDevices result failed before after) (sym (subst (λ (b : Bool). noted ≡ (b || reader)) fresh shown)) leaves

-- a file could not be opened
pub not_opened : {T W : Type 0} (fault : CliFault) (failed : Bool) (before : Watched W) → fault ≡ Read → failed ≡ true → has_failed before ≡ false →
    LeavesDevices {T = T} (Err fault) failed before before
not_opened fault failed before is lacks fresh = record {
  delivered = tt;
  read_failed = (λ tells. lacks, λ tells. cc);
  write_failed = none_failed _ _ _ fault refl (λ other. cc) fresh;
  unwritten = λ other. refl;
}
