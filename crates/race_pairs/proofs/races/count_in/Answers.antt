use Rattle.std.proofs.Common.{subst, arith}
use Rattle.std.proofs.lemmas.Result.{on_ok_weaker}
use Rattle.race_pairs.specs.declared.race.Race.{Race}
use Rattle.race_pairs.specs.Races.{HasAgain}
use Rattle.race_pairs.proofs.Knowing.{counted_at}
use Rattle.race_pairs.proofs.races.count_in.Goals as goal

pub returns : goal.returns
returns c =
    on_ok_weaker c.count.result (λ again. counted_at c.args.before c.args.place c.args.races.now.items c.index_mut.result.now c.count.new.self
    (omega (arith, c.if-before-kept.false, c.len-kept.ensures)) (subst (λ (r : Race). HasAgain c.args.place r c.count.new.self) c.index_mut.ensures.value again))
    c.count.ensures
