-- The faults of commands.
use Rattle.std.specs.Prelude.{ℕ, ◌≡◌, List}
use Rattle.std.specs.String.{string_bytes}
use Rattle.text_words.specs.declared.fault.TextFault.{TextFault}
use Rattle.text_words.specs.declared.fault.TextFault.TheVariants.{Memory as TextMemory}
use Rattle.command_streams.specs.declared.fault.CliFault.{CliFault}
use Rattle.command_streams.specs.declared.fault.CliFault.TheVariants.{Usage, Trace, Program, Limit, TooManyStrands}
use Rattle.command_streams.specs.declared.fault.CliFault.TheVariants.{Stopped, Torn, Strange, Memory}

-- the exit status: 3 for want of memory, 4 where the limit was passed, there is too much to draw or a run did not come to its end, and else
-- 2
abbrev pub status_of_fault : CliFault → ℕ
status_of_fault Memory = 3
status_of_fault (Trace TextMemory) = 3
status_of_fault (Program TextMemory) = 3
status_of_fault Limit = 4
status_of_fault TooManyStrands = 4
status_of_fault Stopped = 4
status_of_fault Torn = 4
status_of_fault Strange = 4
status_of_fault fault = 2

-- the fault of a text as one of the command: want of memory is want of memory wherever it comes
abbrev pub fault_of_text : TextFault → CliFault
fault_of_text TextMemory = Memory
fault_of_text fault = Trace fault

-- a fault of the words of the command line
abbrev pub IsUsageFault : CliFault → Type 0
IsUsageFault (Usage text) = Unit {0}
IsUsageFault Memory = Unit {0}
IsUsageFault fault = ⊥

-- a fault of the words of the command line that tells this text, or want of memory for it
abbrev pub TellsUsage : List ℕ → CliFault → Type 0
TellsUsage text (Usage told) = string_bytes told ≡ text
TellsUsage text Memory = Unit {0}
TellsUsage text fault = ⊥
