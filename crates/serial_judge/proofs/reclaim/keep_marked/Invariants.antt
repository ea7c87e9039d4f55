-- So far the marked records are kept.
use Rattle.std.proofs.Common.{◌≡◌, ◌≤◌, take, vec_len, vec_capacity}
use Rattle.serial_judge.specs.Moves.{marked}
use Rattle.serial_judge.proofs.reclaim.keep_marked.Given as goal

abbrev pub invariant-loop-i : goal.invariant-loop-i
invariant-loop-i g l = record {
  kept : l.kept.items ≡ marked (take l.i l.marks) (take l.i l.records);
  few : vec_len l.kept ≤ l.i;
  room : vec_capacity l.kept ≡ vec_capacity l.fn.kept;
}
