use Rattle.race_pairs.proofs.Knowing.{kept_first}
use Rattle.race_pairs.proofs.races.Races.new.Goals as goal

pub returns-clause-kept : goal.returns-clause-kept
returns-clause-kept c = λ told. kept_first told _ c.new.ensures.items c.requires
