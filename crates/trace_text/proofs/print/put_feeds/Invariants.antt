use Rattle.std.proofs.Common.{◌≡◌, ◌++◌, ◌-◌, ◌≤◌}
use Rattle.std.specs.Prelude.{string_bytes, replicate}
use Rattle.trace_text.proofs.print.put_feeds.Given as goal

abbrev pub invariant-loop : goal.invariant-loop
invariant-loop g l = record {
  most : l.counter - l.from ≤ l.to - l.from;
  same : string_bytes l.out ≡ string_bytes l.fn.out ++ replicate (l.counter - l.from) 10;
}
