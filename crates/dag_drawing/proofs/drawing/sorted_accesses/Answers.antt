use Rattle.std.proofs.Common.{rules}
use Rattle.std.proofs.lemmas.List.Sorted.{IsNonDecreasingBy-from_sort_by_key, answers_always}
use Rattle.dag_drawing.specs.Drawn.{strand_of}
use Rattle.dag_drawing.proofs.drawing.sorted_accesses.Goals as goal

pub returns : goal.returns
returns c = record {
  same = rw c.in_ok-accesses.ensures at c.sort_by_key.ensures.permutation;
  by_strand = IsNonDecreasingBy-from_sort_by_key strand_of _ c.in_ok-sort_by_key.ensures.sorted (λ a r q k. search rules);
  in_order = rw c.in_ok-accesses.ensures at (c.sort_by_key.ensures.stable strand_of (answers_always _ _ _ (λ f a r g h. search rules)));
}
