-- So far each number has its new one, and the next one comes behind them.
use Rattle.std.proofs.Common.{◌≡◌, ◌≤◌, ◌<◌, ◌+◌, ℕ, suc, length, vec_len, vec_capacity}
use Rattle.std.specs.Prelude.{slice_index}
use Rattle.serial_judge.specs.Moves.{moved}
use Rattle.serial_judge.proofs.reclaim.number_all.Given as goal

abbrev pub invariant-loop-mark : goal.invariant-loop-mark
invariant-loop-mark g l = record {
  next_is : l.next ≡ moved l.marks (suc l.mark-index);
  small : l.next ≤ l.mark-index + 1;
  len : length l.numbers.items ≡ suc l.mark-index;
  vec : vec_len l.numbers ≡ l.mark-index + 1;
  each : (k : ℕ) → k < length l.numbers.items → slice_index l.numbers.items k ≡ moved l.marks k;
  room : vec_capacity l.numbers ≡ vec_capacity l.fn.numbers;
}
