-- What commands read.
use Rattle.std.specs.Prelude.{ℕ, Option, Some, None, List, String, string_bytes}

-- what standard input holds, and the file with each name, where that is known
pub record Sources : Type 0 where
  pub input : Option (List ℕ)
  pub file : List ℕ → Option (List ℕ)

-- what the file of this name holds, or standard input where none is named
abbrev pub source_of : {A : Type 0} → Sources → Option (String A) → Option (List ℕ)
source_of sources (Some file) = sources.file (string_bytes file)
source_of sources None = sources.input

-- nothing is known, as of the files of a real host
abbrev pub unknown_sources : Sources
unknown_sources = record { input = None; file = λ name. None }
