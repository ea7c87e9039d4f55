use Rattle.std.proofs.Common.{take}
use Rattle.text_buffers.specs.Builders.{Adds}
use Rattle.source_quotes.specs.Parts.{indent}
use Rattle.source_quotes.proofs.look.push_indent.Given as goal

-- what stands below the bytes so far was added
abbrev pub invariant-loop-byte : goal.invariant-loop-byte
invariant-loop-byte l = Adds l.initial.text (indent (take l.byte-index l.front)) l.text
