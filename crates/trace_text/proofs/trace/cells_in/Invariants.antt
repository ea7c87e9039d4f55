use Rattle.std.proofs.Common.{◌≡◌, ◌+◌, drop}
use Rattle.text_words.specs.Declarations.{cells_of}
use Rattle.trace_text.proofs.trace.cells_in.Given as goal

-- what is left to count makes up all
abbrev pub invariant-loop-mem : goal.invariant-loop-mem
invariant-loop-mem l = l.cells + cells_of (drop l.mem-index l.mems) ≡ cells_of l.mems
