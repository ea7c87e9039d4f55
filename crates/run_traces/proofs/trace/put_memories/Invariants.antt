use Rattle.std.proofs.Common.{◌≡◌, ◌++◌, drop}
use Rattle.std.specs.Prelude.{string_bytes}
use Rattle.text_words.specs.Values.{Known}
use Rattle.run_traces.specs.Texts.{mems_text}
use Rattle.run_traces.proofs.trace.put_memories.Given as goal

-- what is left to print stays the same
abbrev pub invariant-loop-mem : goal.invariant-loop-mem
invariant-loop-mem g l = (known : Known) → string_bytes l.out ++ mems_text known (drop l.mem-index l.mems) ≡ string_bytes l.fn.out ++ mems_text known l.mems
