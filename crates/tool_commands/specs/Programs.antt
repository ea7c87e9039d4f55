-- What a program declares, and why a text means no program.
use Rattle.std.specs.Prelude.{ℕ, Option, List, map}
use Rattle.model_reducers.specs.declared.monoid.Monoid.{Monoid}
use Rattle.text_words.specs.declared.fault.TextFault.{TextFault}
use Rattle.text_words.specs.declared.fault.TextFault.TheVariants.{At, Memory as TextMemory}
use Rattle.text_words.specs.Declarations.{cells_of}
use Rattle.program_text.specs.Drafts.{Contents}
use Rattle.program_text.specs.Faults.{TextFaults}
use Rattle.model_histories.specs.Shapes.{Shape}
use Rattle.command_streams.specs.declared.fault.CliFault.{CliFault}
use Rattle.command_streams.specs.declared.fault.CliFault.TheVariants.{Read, TooLong, Program, Memory}
use Rattle.command_streams.specs.Readings.{Reading, StopsReader}
use Rattle.command_streams.specs.Streams.{IsRead}

-- ---- what a program declares

abbrev pub monoids_of : Contents → List Monoid
monoids_of contents = map (λ reducer. reducer.monoid) contents.known.reducers

abbrev pub shape_of_program : Contents → Shape
shape_of_program program = record { cells = cells_of program.known.mems; monoids = monoids_of program }

-- ---- a text that means no program

-- the fault of the text of a program as one of the command: want of memory is want of memory wherever it comes
abbrev pub fault_of_program : TextFault → CliFault
fault_of_program TextMemory = Memory
fault_of_program fault = Program fault

-- The fault is that of the text of a program.
abbrev pub IsProgramFault : List ℕ → CliFault → Type 0
IsProgramFault text (Program (At line why)) = TextFaults text line why
IsProgramFault text Memory = Unit {0}
IsProgramFault text fault = ⊥

-- A text was read, and the fault is that of this text.
pub record IsFaultyProgram (before behind : Option (List ℕ)) (fault : CliFault) : Type 0 where
  pub text : List ℕ
  pub read : IsRead before behind text
  pub faulty : IsProgramFault text fault

-- Why no program is read: reading stopped before the end, or the fault is that of the text.
abbrev pub StopsProgram : Reading → CliFault → Type 0
StopsProgram reader Read = Unit {0}
StopsProgram reader TooLong = StopsReader reader TooLong
StopsProgram reader (Program fault) = IsFaultyProgram reader.before reader.behind (Program fault)
StopsProgram reader Memory = Unit {0}
StopsProgram reader fault = ⊥
