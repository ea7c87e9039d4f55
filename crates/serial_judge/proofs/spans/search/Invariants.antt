-- The spans before `low` end before the number, those from `high` on behind it.
use Rattle.std.proofs.Common.{◌≤◌, ◌<◌, ◌-◌, length}
use Rattle.std.specs.List.{AllWithin}
use Rattle.serial_judge.specs.declared.spans.Span.{Span}
use Rattle.serial_judge.proofs.spans.search.Given as goal

abbrev pub invariant-loop-low : goal.invariant-loop-low
invariant-loop-low l = record {
  order : l.low ≤ l.high;
  within : l.high ≤ length l.spans;
  before : AllWithin (λ (span : Span). span.end ≤ l.number) l.spans 0 l.low;
  behind : AllWithin (λ (span : Span). l.number < span.end) l.spans l.high (length l.spans);
}

abbrev pub decreases-loop-low : goal.decreases-loop-low
decreases-loop-low l = l.high - l.low
