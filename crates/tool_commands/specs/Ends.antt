-- How a command ends, by what it tells.
use Rattle.std.specs.Prelude.{ℕ, ◌≡◌, ◌↔◌, Option, List, Vec, Result, Ok, Err, IfOk, IfErr, OnOk, IsErrOf, IsTrue, true}
use Rattle.std.specs.Io.KnownBytes.{Appends}
use Rattle.command_streams.specs.declared.fault.CliFault.{CliFault}
use Rattle.command_streams.specs.declared.fault.CliFault.TheVariants.{Write}
use Rattle.command_streams.specs.declared.watched.Watched.{Watched}
use Rattle.command_streams.specs.Watched.{has_failed, is_delivered}
use Rattle.command_streams.specs.Streams.{StopsWriting}

-- The text is written and its status answered, or only a part of it is written. The writer is left as `after`.
pub record IsWritten {W : Type 0} (text : List ℕ) (status : ℕ) (wrote writes : Option (List ℕ)) (after : Watched W) (result : Result ℕ CliFault) : Type 0 where
  pub answered : IfOk result (λ ended. (ended ≡ status) × Appends wrote writes text)
  pub cut : IfErr result (StopsWriting wrote writes text)
  pub delivered : OnOk result (is_delivered after ≡ true)
  pub failed : IsErrOf result Write ↔ IsTrue (has_failed after)

-- What is told is written. Where a fault is told in its place, it is the answer, and nothing is written.
abbrev pub EndsSo : {A W : Type 0} → (told : Result (Vec ℕ A × ℕ) CliFault) → (wrote writes : Option (List ℕ)) → (before after : Watched W) →
    Result ℕ CliFault → Type 0
EndsSo (Ok told) wrote writes before after result = IsWritten told.0.items told.1 wrote writes after result
EndsSo (Err fault) wrote writes before after result = (result ≡ Err fault) × (after ≡ before)
