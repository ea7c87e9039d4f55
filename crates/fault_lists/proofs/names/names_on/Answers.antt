use Rattle.fault_lists.proofs.Pieces.{piece_kept}
use Rattle.fault_lists.proofs.names.names_on.Goals as goal

pub loop-rest-preserved : goal.loop-rest-preserved
loop-rest-preserved c = piece_kept _ _ _ _ _ _ c.in_ok-push_name.ensures c.split_piece.ensures.pieces c.loop-rest.invariant
