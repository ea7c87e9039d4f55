-- The jobs that read one source: standard input, or a file.
use Rattle.std.specs.Prelude.{ℕ, List, Option, Some, None, if◌then◌else◌}
use Rattle.std.specs.Str.{bytes_eq}
use Rattle.std.specs.String.{string_bytes}
use Rattle.command_streams.specs.Sources.{Sources}
use Rattle.command_words.specs.Asked.{input_word}
use Rattle.command_words.specs.declared.words.Job.{Job}
use Rattle.command_words.specs.declared.words.Job.TheVariants.{Judge, Elide, Run, Trace, Record, Explain, ExplainTraces, Replay, Draw, Show}

-- what is read: standard input where there is no name, or else the file of this name
abbrev pub source : Sources → (file : Option (List ℕ)) → Option (List ℕ)
source sources None = sources.input
source sources (Some name) = sources.file name

-- that can't be opened
abbrev pub lacks_source : (List ℕ → Type 0) → (file : Option (List ℕ)) → Type 0
lacks_source lacks None = ⊥
lacks_source lacks (Some name) = lacks name

-- the file that the name stands for, where it does not stand for standard input
abbrev pub named_file : (name : List ℕ) → Option (List ℕ)
named_file name = if bytes_eq name input_word then None else Some name

-- the file that the job reads
abbrev pub file_of : Job → Option (List ℕ)
file_of (Judge (Some file) limit) = named_file (string_bytes file)
file_of (Elide file limit) = named_file (string_bytes file)
file_of (Run file workers limit) = named_file (string_bytes file)
file_of (Trace file workers limit) = named_file (string_bytes file)
file_of (Explain file workers is_serial limit color format is_all) = Some (string_bytes file)
file_of (Draw file language) = named_file (string_bytes file)
file_of job = None

-- the job reads one source, and makes no file
abbrev pub IsOfOne : Job → Type 0
IsOfOne (Record file workers limit trace) = ⊥
IsOfOne (ExplainTraces files color format is_all) = ⊥
IsOfOne (Replay file trace) = ⊥
IsOfOne (Show text) = ⊥
IsOfOne job = Unit {0}
