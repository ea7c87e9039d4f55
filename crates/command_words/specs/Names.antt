-- The names of a job's files.
use Rattle.std.specs.Prelude.{ℕ, ◌≡◌, ◌⊎◌, Bool, true, false, List, codes}
use Rattle.std.specs.String.{string_bytes}
use Rattle.command_streams.specs.declared.fault.CliFault.{CliFault}
use Rattle.command_streams.specs.Faults.{TellsUsage}
use Rattle.command_words.specs.declared.words.Job.{Job}
use Rattle.command_words.specs.declared.words.Job.TheVariants.{Record}

-- A trace would be written over its program: both have one name, or the host says that the two names are of one file.
abbrev pub OverwritesProgram : (says_one : List ℕ → List ℕ → Bool → Type 0) → Job → Type 0
OverwritesProgram says_one (Record file workers limit trace) =
    (string_bytes file ≡ string_bytes trace) ⊎ says_one (string_bytes file) (string_bytes trace) true
OverwritesProgram says_one job = ⊥

-- None would be: where there is a trace, it has another name, and the host says that the two names are not of one file.
abbrev pub SparesProgram : (says_one : List ℕ → List ℕ → Bool → Type 0) → Job → Type 0
SparesProgram says_one (Record file workers limit trace) =
    (string_bytes file ≡ string_bytes trace → ⊥) × says_one (string_bytes file) (string_bytes trace) false
SparesProgram says_one job = Unit {0}

-- what is told where both have one name
abbrev pub over_program : List ℕ
over_program = codes "the trace would be written over the program: name another file with '--trace <OUT>'"

-- what is told where two names are of one file
abbrev pub over_file : List ℕ
over_file = codes "the trace would be written over the program, whose file has both names: name another file with '--trace <OUT>'"

-- The fault tells which of the two it is, or that there is no memory for its text.
abbrev pub TellsOverwriting : Job → CliFault → Type 0
TellsOverwriting (Record file workers limit trace) fault =
    ((string_bytes file ≡ string_bytes trace) × TellsUsage over_program fault)
    ⊎ ((string_bytes file ≡ string_bytes trace → ⊥) × TellsUsage over_file fault)
TellsOverwriting job fault = ⊥
