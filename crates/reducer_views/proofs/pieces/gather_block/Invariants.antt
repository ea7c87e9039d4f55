use Rattle.std.proofs.Common.{◌<◌, List, length}
use Rattle.model_reducers.specs.declared.monoid.Monoid.{Monoid}
use Rattle.reducer_views.specs.Pieces.{all_kept, AreKept}
use Rattle.reducer_views.proofs.KeptLists.{Progress, numbers_left}
use Rattle.reducer_views.proofs.pieces.gather_block.Given as goal

abbrev pub invariant-loop-at : goal.invariant-loop-at
invariant-loop-at g l = record {
  in_range : l.at < length l.pieces;
  progress : (monoids : List Monoid) → AreKept monoids (all_kept l.initial.pieces) → Progress monoids (all_kept l.initial.pieces) (all_kept l.pieces) l.home l.initial.at l.at;
}

abbrev pub decreases-loop-at : goal.decreases-loop-at
decreases-loop-at g l = numbers_left (length l.pieces) l.at
