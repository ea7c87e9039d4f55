use Rattle.std.proofs.Common.{◌≡◌, ◌++◌, drop}
use Rattle.fault_lists.specs.FaultLists.{blanked}
use Rattle.fault_lists.proofs.list.blank_line.Given as goal

-- what was added, and what the bytes that are left become, is all
abbrev pub invariant-loop-byte : goal.invariant-loop-byte
invariant-loop-byte l = l.left.items ++ blanked l.line (drop l.byte-index l.text) ≡ blanked l.number l.text
