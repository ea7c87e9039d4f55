use Rattle.std.proofs.Common.{Ok, refl, sym, subst}
use Rattle.race_gate.specs.Cores.{IsCoreOf}
use Rattle.race_gate.proofs.Cores.{is-ready, fits-answered, judges-next}
use Rattle.race_gate.proofs.judging.Core.answer_cell.Goals as goal

pub invariant_of-self : goal.invariant_of-self
invariant_of-self g c =
    let at_first = c.requires.faultless in
    let fits = subst (λ core. IsCoreOf core at_first.0) (sym c.self.view_is) at_first.1 in
    let done = c.access_cell-answer.ensures _ (is-ready _ _ fits c.args.request _ _ at_first.2 c.as_mut_slice.ensures.value refl) in
    (_, fits-answered _ _ fits c.args.request c.access_cell-answer.result _ _ _ _ _ refl c.is_end-self-inside.ensures c.self.inside.memory.ok.0 done)

pub returns : goal.returns
returns g c state at_first faultless =
    let fits = subst (λ core. IsCoreOf core state) (sym c.self.view_is) at_first in
    let done = c.access_cell-answer.ensures state (is-ready _ _ fits c.args.request _ _ faultless c.as_mut_slice.ensures.value refl) in
    judges-next _ _ state c.args.request (Ok c.access_cell-answer.result) fits faultless
    (fits-answered _ _ fits c.args.request c.access_cell-answer.result _ _ _ _ _ refl c.is_end-self-inside.ensures c.self.inside.memory.ok.0 done)
