use Rattle.std.proofs.Common.{◌<◌, length, refl, sym, subst, inl}
use Rattle.model_accesses.specs.declared.kind.Kind.TheVariants as kind
use Rattle.race_gate.specs.Books.{Books}
use Rattle.race_gate.proofs.Answering.{running-there, answers-get, gets-some, answers-refused_get}
use Rattle.race_gate.proofs.reducers.ReducerTracks.get.Goals as goal

pub returns-in-Some : goal.returns-in-Some
returns-in-Some g c =
    answers-refused_get c.args.self.now c.args.number c.args.strand c.args.reducer c.in-Some.refused (λ steps earlier kept runs. c.in-Some.ensures steps earlier kept runs)
    c.requires.keeps

pub get-requires-clause-there : goal.get-requires-clause-there
get-requires-clause-there g c =
    subst (λ (books : Books). c.args.strand < length books.views.strands) (sym c.self.view_is) (running-there c.args.self.now c.args.strand c.requires.keeps)

pub unreachable-requires : goal.unreachable-requires
unreachable-requires g c =
    gets-some _ _ _ c.args.self.now c.self.view_is c.args.number c.args.strand c.args.reducer kind.Get c.add.new.self c.add.ensures.reducers c.add.ensures.added
    (λ steps earlier kept runs. c.in_default.ensures steps earlier kept runs) refl c.requires.keeps
    (λ steps legal holds runs. c.in-None.ensures steps legal holds (inl runs))

pub returns : goal.returns
returns g c =
    answers-get _ _ _ c.args.self.now c.self.view_is c.args.number c.args.strand c.args.reducer kind.Get c.add.new.self c.add.ensures.reducers c.add.ensures.added
    (λ steps earlier kept runs. c.in_default.ensures steps earlier kept runs) c.in-Some-get.value refl
    (λ steps legal holds runs. c.in-Some-get.ensures steps legal holds (inl runs))
