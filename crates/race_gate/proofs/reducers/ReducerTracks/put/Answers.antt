use Rattle.std.proofs.Common.{◌<◌, length, refl, sym, subst, arith}
use Rattle.model_accesses.specs.declared.kind.Kind.TheVariants as kind
use Rattle.race_gate.specs.Books.{Books}
use Rattle.race_gate.proofs.Answering.{running-there, answers-put, answers-refused_put}
use Rattle.race_gate.proofs.reducers.ReducerTracks.put.Goals as goal

pub returns-in-Some : goal.returns-in-Some
returns-in-Some g c =
    answers-refused_put c.args.self.now c.args.number c.args.strand c.args.reducer c.args.value c.in-Some.refused
    (λ steps earlier kept runs. c.in-Some.ensures steps earlier kept runs) c.requires.keeps

pub put-requires-clause-there : goal.put-requires-clause-there
put-requires-clause-there g c =
    subst (λ (books : Books). c.args.strand < length books.views.strands) (sym c.self.view_is) (running-there c.args.self.now c.args.strand c.requires.keeps)

pub returns : goal.returns
returns g c =
    answers-put _ _ _ c.args.self.now c.self.view_is c.args.number c.args.strand c.args.reducer kind.Put c.add.new.self c.add.ensures.reducers c.add.ensures.added
    (λ steps earlier kept runs. c.in_default.ensures steps earlier kept runs) c.put.new.self c.args.value refl (omega arith) c.put.ensures.monoids c.put.ensures.follows
