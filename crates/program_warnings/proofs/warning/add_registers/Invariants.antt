use Rattle.std.proofs.Common.{◌≡◌, ◌+◌, ◌++◌, drop}
use Rattle.program_warnings.specs.Declarations.{stored_at}
use Rattle.program_warnings.specs.Warnings.{register_warnings}
use Rattle.program_warnings.proofs.warning.add_registers.Given as goal

-- those so far and those of the registers that are left are all
abbrev pub invariant-loop-index : goal.invariant-loop-index
invariant-loop-index l =
    l.warnings.items ++ register_warnings (stored_at l.names) l.number l.function (l.index + 1) (drop l.index l.registers)
    ≡ l.initial.warnings.items ++ register_warnings (stored_at l.names) l.number l.function 1 l.registers
