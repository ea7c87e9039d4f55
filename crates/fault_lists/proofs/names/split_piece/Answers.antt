use Rattle.std.proofs.Common.{arith}
use Rattle.std.proofs.lemmas.Grind.{common_steps}
use Rattle.fault_lists.proofs.Pieces.{pieces_found, pieces_not_found}
use Rattle.fault_lists.proofs.names.split_piece.Goals as goal

pub returns-in-Some-clause-pieces : goal.returns-in-Some-clause-pieces
returns-in-Some-clause-pieces c = grind (arith, common_steps, pieces_found)

pub returns-in-None-clause-pieces : goal.returns-in-None-clause-pieces
returns-in-None-clause-pieces c = grind (arith, common_steps, pieces_not_found)
