use Rattle.std.proofs.Common.{ltb, rules}
use Rattle.std.proofs.lemmas.Bool.{ltb-true, ltb-false}
use Rattle.std.proofs.lemmas.List.Sorted.{IsPartitionPoint-from_clause, IsPartitionedBy-ltb}
use Rattle.race_pairs.proofs.OpenerLists.{frames_rise}
use Rattle.race_pairs.proofs.openers.count_before.Goals as goal

pub returns-clause-point : goal.returns-clause-point
returns-clause-point c =
    let parted = IsPartitionedBy-ltb (λ frame. frame.opener.number) c.args.opened.now c.args.number (frames_rise c.requires.0 c.args.opened.now c.requires.1) in
    let point = IsPartitionPoint-from_clause (λ frame. ltb frame.opener.number c.args.number) _ _ c.partition_point.ensures.partitioned parted (λ a r q k. search rules) in
    (λ k d low high. ltb-true _ _ (point.0 k d low high), λ k d low high. ltb-false _ _ (point.1 k d low high))
