use Rattle.std.proofs.Common.{ap, ◌∙◌}
use Rattle.race_explanations.specs.ToldPlaces.{told_of}
use Rattle.race_explanations.proofs.Placing.{told_stays}
use Rattle.race_explanations.proofs.merge.join_at.Goals as goal

pub returns-clause-told : goal.returns-clause-told
returns-clause-told c =
    told_stays c.args.list.now.items c.args.place c.join.new.one c.index_mut.result.now (c.join.ensures.told ∙ ap told_of c.index_mut.ensures.value) c.requires
