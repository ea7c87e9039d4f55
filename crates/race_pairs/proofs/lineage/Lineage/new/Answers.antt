use Rattle.std.proofs.Common.{refl, ◌∙◌, ap, ◌++◌, ◌∷◌, []}
use Rattle.race_pairs.proofs.Places.{no_strand}
use Rattle.race_pairs.proofs.Raised.{no_jump}
use Rattle.race_pairs.proofs.Added.{lineage_first}
use Rattle.race_pairs.proofs.lineage.Lineage.new.Goals as goal

pub returns : goal.returns
returns c =
    lineage_first _ refl c.new.ensures.items c.new-2.ensures.items
    (c.in_ok-push.ensures.items ∙ ap (λ xs. xs ++ no_strand ∷ []) c.new-strands.ensures.items)
    (c.in_ok-push-2.ensures.items ∙ ap (λ xs. xs ++ no_jump ∷ []) c.new-jumps.ensures.items)
