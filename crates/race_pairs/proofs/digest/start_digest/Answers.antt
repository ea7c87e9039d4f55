use Rattle.std.proofs.Common.{refl}
use Rattle.race_pairs.proofs.Digesting.{digest_none}
use Rattle.race_pairs.proofs.digest.start_digest.Goals as goal

pub returns : goal.returns
returns c =
    (digest_none _ c.in_ok-with_capacity.ensures.items c.in_ok-new.ensures refl c.new-2.ensures.kept, c.new-2.ensures.own, c.new-2.ensures.most)
