use Rattle.std.proofs.Common.{leb, leb-true, leb-false, rules}
use Rattle.std.proofs.lemmas.List.Sorted.{IsPartitionPoint-from_clause, IsPartitionedBy-leb}
use Rattle.trace_text.proofs.CellSearch.{firsts_rise}
use Rattle.trace_text.proofs.cell.count_begun.Goals as goal

pub returns-clause-begun : goal.returns-clause-begun
returns-clause-begun c =
    let parted = IsPartitionedBy-leb (λ mem. mem.first) c.args.mems.now c.args.location (firsts_rise 0 c.args.mems.now c.requires.numbered) in
    let point = IsPartitionPoint-from_clause (λ mem. leb mem.first c.args.location) _ _ c.partition_point.ensures.partitioned parted (λ a r q k. search rules) in
    (λ k d low high. leb-true _ _ (point.0 k d low high), λ k d low high. leb-false _ _ (point.1 k d low high))
