use Rattle.std.proofs.Common.{subst}
use Rattle.std.proofs.lemmas.Result.{on_ok_weaker}
use Rattle.race_pairs.specs.declared.groups.Group.{Group}
use Rattle.race_pairs.specs.Groups.{HasOneMore}
use Rattle.race_pairs.proofs.Grouped.{placed_at}
use Rattle.race_pairs.proofs.groups.join_group.Goals as goal

pub returns : goal.returns
returns c =
    on_ok_weaker c.add.result (λ more. placed_at c.args.at c.args.place c.args.groups.now.items c.index_mut.result.now c.add.new.self c.requires
    (subst (λ (g : Group). HasOneMore c.args.place g c.add.new.self) c.index_mut.ensures.value more)) c.add.ensures
