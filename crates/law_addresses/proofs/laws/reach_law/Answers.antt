use Rattle.law_addresses.proofs.Relations.{reaches-decides, parallel-decides, reaches-partial, reaches-both, parallel-disagreement}
use Rattle.law_addresses.proofs.laws.reach_law.Goals as goal

pub returns : goal.returns
returns c = record {
  in_words = reaches-decides;
  parallel_in_words = parallel-decides;
  partial_order = reaches-partial;
  both_orders = reaches-both;
  disagreement = parallel-disagreement;
}
