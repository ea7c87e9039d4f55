-- A text that is told: a part of it is written, and the rest waits.
use Rattle.std.specs.Prelude.{◌≡◌, ◌++◌, ℕ, Bool, false, List, Option}
use Rattle.std.specs.Io.KnownBytes.{Appends}

-- A text was told so far: a part of it was written, and where no write has failed the rest waits.
pub record IsTold (wrote writes : Option (List ℕ)) (failed : Bool) (waiting text : List ℕ) : Type 0 where
  pub part : List ℕ
  pub rest : List ℕ
  pub written : Appends wrote writes part
  pub whole : part ++ rest ≡ text
  pub waits : failed ≡ false → rest ≡ waiting

-- How far a text is told: what the writer has, where that is known, whether a write has failed, and what waits.
pub record Telling : Type 0 where
  pub device : Option (List ℕ)
  pub failed : Bool
  pub waiting : List ℕ

abbrev pub telling : (device : Option (List ℕ)) → (failed : Bool) → (waiting : List ℕ) → Telling
telling device failed waiting = record { device = device; failed = failed; waiting = waiting }

-- What was told before is told still, and these bytes behind it: they were written or wait, unless a write has failed.
abbrev pub TellsMore : (before behind : Telling) → (bytes : List ℕ) → Type 0
TellsMore before behind bytes =
    (wrote : Option (List ℕ)) (text : List ℕ) →
    IsTold wrote before.device before.failed before.waiting text → IsTold wrote behind.device behind.failed behind.waiting (text ++ bytes)
