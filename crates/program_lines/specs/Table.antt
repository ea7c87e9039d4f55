-- The table of lines: how each keyword is written, and what it wants behind it.
use Rattle.std.specs.Prelude.{ℕ, Option, List, [], ◌∷◌, codes}
use Rattle.model_accesses.specs.declared.kind.Kind.TheVariants as kind
use Rattle.model_accesses.specs.Table.{spelling as kind_spelling}
use Rattle.text_words.specs.declared.value.Version.{Version}
use Rattle.text_words.specs.Names.{IsSecond}
use Rattle.model_accesses.specs.Limits.{most_cells}
use Rattle.trace_text.specs.Lines as trace
use Rattle.trace_text.specs.LineGrammar as line
use Rattle.trace_text.specs.LineGrammar.{Table}
use Rattle.program_lines.specs.declared.keyword.Keyword.{Keyword}
use Rattle.program_lines.specs.declared.keyword.Keyword.TheVariants.{Mem, Reducer, Func, Let, Access, Spawn}
use Rattle.program_lines.specs.declared.keyword.Keyword.TheVariants.{Call, Sync, ParallelFor, If, Else, End}
use Rattle.program_lines.specs.Scopes.{NameScope}
use Rattle.program_lines.specs.Places.{Place, Common, FreshName, OperandWord, LocationWord, AssignedRegister}
use Rattle.program_lines.specs.Places.{KnownRegister, FunctionName, ParameterName, Sign, Exactly, Value, WordMeans}

abbrev pub spelling : Keyword → List ℕ
spelling Mem = codes "mem"
spelling Reducer = codes "reducer"
spelling Func = codes "func"
spelling Let = codes "let"
spelling (Access kind) = kind_spelling kind
spelling Spawn = codes "spawn"
spelling Call = codes "call"
spelling Sync = codes "sync"
spelling ParallelFor = codes "pfor"
spelling If = codes "if"
spelling Else = codes "else"
spelling End = codes "end"

-- Version 2 has all keywords, version 1 all but `bump` and `pfor`.
abbrev pub HasKeyword : Version → Keyword → Type 0
HasKeyword version (Access kind.Bump) = IsSecond version
HasKeyword version ParallelFor = IsSecond version
HasKeyword version keyword = Unit {0}

-- What a line wants behind its keyword.
abbrev pub wanted : Keyword → List Place
wanted Mem = FreshName ∷ []
wanted Reducer = FreshName ∷ Common trace.MonoidWord ∷ []
wanted Func = FreshName ∷ ParameterName ∷ []
wanted Let = AssignedRegister ∷ Exactly (codes "=") ∷ OperandWord ∷ []
wanted (Access kind.Read) = AssignedRegister ∷ LocationWord ∷ []
wanted (Access kind.Write) = LocationWord ∷ OperandWord ∷ []
wanted (Access kind.Bump) = LocationWord ∷ OperandWord ∷ []
wanted (Access kind.Update) = Common trace.ReducerName ∷ OperandWord ∷ []
wanted (Access kind.Put) = Common trace.ReducerName ∷ OperandWord ∷ []
wanted (Access kind.Get) = AssignedRegister ∷ Common trace.ReducerName ∷ []
wanted Spawn = FunctionName ∷ OperandWord ∷ []
wanted Call = FunctionName ∷ OperandWord ∷ []
wanted Sync = []
wanted ParallelFor = AssignedRegister ∷ OperandWord ∷ FunctionName ∷ []
wanted If = KnownRegister ∷ []
wanted Else = []
wanted End = []

-- What may stand at its end, all of it or nothing.
abbrev pub optional : Keyword → List Place
optional Mem = Common (trace.Number 1 most_cells) ∷ []
optional Let = Sign ∷ OperandWord ∷ []
optional keyword = []

-- The table of keywords, and words in the places of a line.
abbrev pub table : Table Keyword Place
table = record { spelling = spelling; HasKeyword = HasKeyword; wanted = wanted; optional = optional }

abbrev pub Placed : Type 0
Placed = line.Placed Place

abbrev pub placed : (places last : List Place) → List (List ℕ) → Option (List Placed)
placed = line.placed

-- Each word means its value.
abbrev pub WordsMean : NameScope → List Placed → List Value → Type 0
WordsMean scope = line.WordsMean (WordMeans scope)

-- The words are a keyword and words that mean these values in the places that it wants.
abbrev pub Says : NameScope → List (List ℕ) → Keyword → List Value → Type 0
Says scope = line.Says (WordMeans scope) table scope.known.version
