use Rattle.std.proofs.Common.{refl, sym, subst, ◌∙◌}
use Rattle.std.proofs.lemmas.Result.{err_from_is_err_and}
use Rattle.race_gate.specs.Cores.{IsCoreOf}
use Rattle.race_gate.proofs.Cores.{is-ready, fits-answered, fits-still}
use Rattle.race_gate.proofs.judging.Core.answer.Goals as goal

pub invariant_of-self : goal.invariant_of-self
invariant_of-self g c =
    let fits = subst (λ core. IsCoreOf core c.requires.0) (sym c.self.view_is) c.requires.1 in
    let stays = c.in_err-answer.ensures _ (is-ready _ _ fits c.args.request _ _ c.requires.2 c.as_mut_slice.ensures.value refl) in
    (c.requires.0, fits-still _ _ fits _ _ _ c.self.inside.memory.ok.0 (stays.1 ∙ c.as_mut_slice.ensures.value) stays.2)

pub returns-in_err-answer : goal.returns-in_err-answer
returns-in_err-answer g c state at_first faultless =
    let fits = subst (λ core. IsCoreOf core state) (sym c.self.view_is) at_first in
    let stays = c.in_err-answer.ensures _ (is-ready _ _ fits c.args.request _ _ faultless c.as_mut_slice.ensures.value refl) in
    let told = err_from_is_err_and c.from_residual.result c.from_residual.ensures.1 in
    rw told.1 (told.2 ∙ stays.0, fits-still _ _ fits _ _ _ c.self.inside.memory.ok.0 (stays.1 ∙ c.as_mut_slice.ensures.value) stays.2)

pub invariant_of-self-2 : goal.invariant_of-self-2
invariant_of-self-2 g c =
    let fits = subst (λ core. IsCoreOf core c.requires.0) (sym c.self.view_is) c.requires.1 in
    let done = c.in_ok-answer.ensures _ (is-ready _ _ fits c.args.request _ _ c.requires.2 c.as_mut_slice.ensures.value refl) in
    (_, fits-answered _ _ fits c.args.request c.in_ok-answer.answer _ _ _ _ _ refl c.is_end-self-inside.ensures c.self.inside.memory.ok.0 done)

pub returns : goal.returns
returns g c state at_first faultless =
    let fits = subst (λ core. IsCoreOf core state) (sym c.self.view_is) at_first in
    let done = c.in_ok-answer.ensures _ (is-ready _ _ fits c.args.request _ _ faultless c.as_mut_slice.ensures.value refl) in
    fits-answered _ _ fits c.args.request c.in_ok-answer.answer _ _ _ _ _ refl c.is_end-self-inside.ensures c.self.inside.memory.ok.0 done
