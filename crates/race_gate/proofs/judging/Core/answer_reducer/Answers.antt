use Rattle.std.proofs.Common.{Ok, Err, refl, sym, subst, ◌∙◌}
use Rattle.std.proofs.lemmas.Result.{err_from_is_err_and}
use Rattle.race_gate.specs.Cores.{IsCoreOf}
use Rattle.race_gate.proofs.Cores.{is-ready, fits-entered, fits-kept, judges-next}
use Rattle.race_gate.proofs.judging.Core.answer_reducer.Goals as goal

pub invariant_of-self : goal.invariant_of-self
invariant_of-self g c =
    let at_first = c.requires.faultless in
    let fits = subst (λ core. IsCoreOf core at_first.0) (sym c.self.view_is) at_first.1 in
    let stays = c.in_err-answer.ensures at_first.0 _ (is-ready _ _ fits c.args.request _ _ at_first.2 refl refl) in
    (at_first.0, fits-kept _ _ fits _ stays.1)

pub returns-in_err-answer : goal.returns-in_err-answer
returns-in_err-answer g c state at_first faultless =
    let fits = subst (λ core. IsCoreOf core state) (sym c.self.view_is) at_first in
    let stays = c.in_err-answer.ensures state _ (is-ready _ _ fits c.args.request _ _ faultless refl refl) in
    let told = err_from_is_err_and c.from_residual.result c.from_residual.ensures.1 in
    rw told.1 (judges-next c.args.self.now _ state c.args.request (Err told.0) at_first faultless (told.2 ∙ stays.0, fits-kept _ _ fits _ stays.1))

pub invariant_of-self-2 : goal.invariant_of-self-2
invariant_of-self-2 g c =
    let at_first = c.requires.faultless in
    let fits = subst (λ core. IsCoreOf core at_first.0) (sym c.self.view_is) at_first.1 in
    let done = c.in_ok-answer.ensures at_first.0 _ (is-ready _ _ fits c.args.request _ _ at_first.2 refl refl) in
    (_, fits-entered _ _ fits c.args.request c.in_ok-answer.answer _ _ _ refl c.is_end-self-inside.ensures done)

pub returns : goal.returns
returns g c state at_first faultless =
    let fits = subst (λ core. IsCoreOf core state) (sym c.self.view_is) at_first in
    let done = c.in_ok-answer.ensures state _ (is-ready _ _ fits c.args.request _ _ faultless refl refl) in
    judges-next _ _ state c.args.request (Ok c.in_ok-answer.answer) fits faultless
    (fits-entered _ _ fits c.args.request c.in_ok-answer.answer _ _ _ refl c.is_end-self-inside.ensures done)
