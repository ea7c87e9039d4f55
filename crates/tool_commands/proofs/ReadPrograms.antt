-- What each step of reading a program says of the whole, and what the whole says of a command.
use Rattle.std.proofs.Common.{ℕ, List, Option, inl}
use Rattle.text_words.specs.declared.fault.TextFault.TheVariants.{At}
use Rattle.command_streams.specs.declared.fault.CliFault.{CliFault}
use Rattle.command_streams.specs.declared.fault.CliFault.TheVariants.{Read, TooLong, Program, Memory}
use Rattle.command_streams.specs.Streams.{IsRead}
use Rattle.command_streams.specs.Readings.{Reading, StopsReader}
use Rattle.tool_commands.specs.Programs.{IsProgramFault, StopsProgram}
use Rattle.tool_commands.specs.Runs.{HasRunCause}
use Rattle.tool_commands.specs.Elided.{HasElisionCause}
use Rattle.tool_commands.specs.Replays.{HasReplayCause}
use Rattle.tool_commands.specs.Traced.{StopsRun, HasTraceCause}

-- it is not read to its end
pub unread : (reader : Reading) (fault : CliFault) → StopsReader reader fault → StopsProgram reader fault
unread reader Read stops = tt
unread reader TooLong stops = stops
unread reader Memory stops = tt
unread reader fault stops = absurd stops

-- the text has a fault
pub faulty : (reader : Reading) (text : List ℕ) (fault : CliFault) → IsRead reader.before reader.behind text → IsProgramFault text fault →
    StopsProgram reader fault
faulty reader text (Program (At line why)) read wrong = record { text = text; read = read; faulty = wrong }
faulty reader text Memory read wrong = tt
faulty reader text fault read wrong = absurd wrong

-- there is no program to be run
pub no_program_to_run : (reader : Reading) (wrote writes : Option (List ℕ)) (limit : ℕ) (fault : CliFault) → StopsProgram reader fault →
    HasRunCause reader wrote writes limit fault
no_program_to_run reader wrote writes limit Read stops = tt
no_program_to_run reader wrote writes limit TooLong stops = stops
no_program_to_run reader wrote writes limit (Program why) stops = stops
no_program_to_run reader wrote writes limit Memory stops = tt
no_program_to_run reader wrote writes limit fault stops = absurd stops

pub no_program_to_tell : (reader : Reading) (limit : ℕ) (fault : CliFault) → StopsProgram reader fault → StopsRun reader limit fault
no_program_to_tell reader limit Read stops = tt
no_program_to_tell reader limit TooLong stops = stops
no_program_to_tell reader limit (Program why) stops = stops
no_program_to_tell reader limit Memory stops = tt
no_program_to_tell reader limit fault stops = absurd stops

pub no_program_to_trace : (reader : Reading) (wrote writes : Option (List ℕ)) (limit : ℕ) (fault : CliFault) → StopsProgram reader fault →
    HasTraceCause reader wrote writes limit fault
no_program_to_trace reader wrote writes limit Read stops = tt
no_program_to_trace reader wrote writes limit TooLong stops = stops
no_program_to_trace reader wrote writes limit (Program why) stops = stops
no_program_to_trace reader wrote writes limit Memory stops = tt
no_program_to_trace reader wrote writes limit fault stops = absurd stops

pub no_program_to_replay : (program trace : Reading) (wrote writes : Option (List ℕ)) (fault : CliFault) → StopsProgram program fault →
    HasReplayCause program trace wrote writes fault
no_program_to_replay program trace wrote writes Read stops = tt
no_program_to_replay program trace wrote writes TooLong stops = inl stops
no_program_to_replay program trace wrote writes (Program why) stops = stops
no_program_to_replay program trace wrote writes Memory stops = tt
no_program_to_replay program trace wrote writes fault stops = absurd stops

pub no_program_to_elide : (reader : Reading) (wrote writes : Option (List ℕ)) (limit : ℕ) (fault : CliFault) → StopsProgram reader fault →
    HasElisionCause reader.before reader.behind wrote writes limit fault
no_program_to_elide reader wrote writes limit Read stops = tt
no_program_to_elide reader wrote writes limit TooLong stops = stops
no_program_to_elide reader wrote writes limit (Program why) stops = stops
no_program_to_elide reader wrote writes limit Memory stops = tt
no_program_to_elide reader wrote writes limit fault stops = absurd stops
