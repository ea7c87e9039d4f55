use Rattle.std.proofs.Common.{◌≤◌, vec_len}
use Rattle.reducer_views.proofs.touched.fill.Given as goal

abbrev pub invariant-loop : goal.invariant-loop
invariant-loop g l = record {
  counted : l.counter ≤ vec_len l.spare;
  kept : vec_len l.initial.spare ≤ vec_len l.spare;
}
