use Rattle.std.proofs.Common.{◌<◌, length, sym, subst, arith}
use Rattle.race_gate.specs.Books.{Books}
use Rattle.race_gate.proofs.Answering.{running-there, answers-update}
use Rattle.race_gate.proofs.reducers.ReducerTracks.update.Goals as goal

pub update-requires-clause-there : goal.update-requires-clause-there
update-requires-clause-there g c =
    subst (λ (books : Books). c.args.strand < length books.views.strands) (sym c.self.view_is) (running-there c.args.self.now c.args.strand c.requires.keeps)

pub returns : goal.returns
returns g c number =
    answers-update _ _ _ c.args.self.now c.self.view_is c.update.new.self number c.args.strand c.args.reducer c.args.value (omega arith) c.update.ensures.monoids c.update.ensures.follows
