-- How a call leaves what it reads from and what it writes to.
use Rattle.std.specs.Prelude.{◌≡◌, ◌≢◌, ◌↔◌, Bool, true, Result, IfErr, OnOk, IsErrOf, IsTrue}
use Rattle.command_streams.specs.declared.fault.CliFault.{CliFault}
use Rattle.command_streams.specs.declared.fault.CliFault.TheVariants.{Read, Write}
use Rattle.command_streams.specs.declared.watched.Watched.{Watched}
use Rattle.command_streams.specs.Watched.{has_failed, is_delivered}

-- Where it answers Ok, all that was written is delivered. Its fault is that of reading exactly where a reader has failed, and that of writing
-- exactly where the writer has. With any other fault the writer is as before.
pub record LeavesDevices {T W : Type 0} (result : Result T CliFault) (reader_failed : Bool) (before after : Watched W) : Type 0 where
  pub delivered : OnOk result (is_delivered after ≡ true)
  pub read_failed : IsErrOf result Read ↔ IsTrue reader_failed
  pub write_failed : IsErrOf result Write ↔ IsTrue (has_failed after)
  pub unwritten : IfErr result (λ fault. fault ≢ Write → after ≡ before)
