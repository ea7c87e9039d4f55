use Rattle.std.proofs.Common.{◌∙◌, refl}
use Rattle.std.proofs.lemmas.Result.{err_from_is_err_and}
use Rattle.race_gate.proofs.Admitted.{admitted-fault}
use Rattle.race_gate.proofs.Cores.{now-fits, now-history, now-pushed, gate-fits, is-entered, is-out_of_memory}
use Rattle.race_gate.proofs.gate.Gate.judge.Goals as goal

pub returns-in_err-check-clause-replies : goal.returns-in_err-check-clause-replies
returns-in_err-check-clause-replies g c =
    let fits = now-fits _ (g.H.History.entries c.self.inside.history) _ c.self.view_is c.self.invariant in
    let p = err_from_is_err_and c.from_residual.result c.from_residual.ensures.1 in
    rw (p.1, p.2) (refl {a = c.args.self.now}, c.in_err-check.ensures.fault _ fits)

pub returns-in_err-check-clause-judged : goal.returns-in_err-check-clause-judged
returns-in_err-check-clause-judged g c = (now-fits _ (g.H.History.entries c.self.inside.history) _ c.self.view_is c.self.invariant).kept.right.judged

pub returns-in_err-check-clause-values : goal.returns-in_err-check-clause-values
returns-in_err-check-clause-values g c = (now-fits _ (g.H.History.entries c.self.inside.history) _ c.self.view_is c.self.invariant).kept.right.memory

pub returns-in_err-check-clause-admitted : goal.returns-in_err-check-clause-admitted
returns-in_err-check-clause-admitted g c admitted =
    let fits = now-fits _ (g.H.History.entries c.self.inside.history) _ c.self.view_is c.self.invariant in
    let p = err_from_is_err_and c.from_residual.result c.from_residual.ensures.1 in
    rw (p.1, p.2) (admitted-fault c.args.self.now c.args.request _ admitted (c.in_err-check.ensures.fault _ fits).0)

pub invariant_of-self : goal.invariant_of-self
invariant_of-self g c =
    let held = g.H.History.entries c.self.inside.history in
    let fits = now-fits _ held _ c.self.view_is c.self.invariant in
    gate-fits _ (g.H.History.entries c.reserve_entry.new.self) _ fits (now-history _ held _ c.self.view_is c.self.invariant _ c.in_err-reserve_entry.ensures.same)

pub returns-in_err-reserve_entry-clause-judged : goal.returns-in_err-reserve_entry-clause-judged
returns-in_err-reserve_entry-clause-judged g c = (invariant_of-self g c).kept.right.judged

pub returns-in_err-reserve_entry-clause-values : goal.returns-in_err-reserve_entry-clause-values
returns-in_err-reserve_entry-clause-values g c = (invariant_of-self g c).kept.right.memory

pub answer-requires : goal.answer-requires
answer-requires g c =
    let fits = now-fits _ (g.H.History.entries c.self.inside.history) _ c.self.view_is c.self.invariant in
    (c.args.self.now, fits, c.in_ok-check.ensures.fault _ fits)

pub push_entry-requires : goal.push_entry-requires
push_entry-requires g c = c.in_ok-reserve_entry.ensures.room

pub invariant_of-self-in_err-answer : goal.invariant_of-self-in_err-answer
invariant_of-self-in_err-answer g c =
    let held = g.H.History.entries c.self.inside.history in
    let fits = now-fits _ held _ c.self.view_is c.self.invariant in
    let stays = c.in_err-answer.ensures _ fits (c.in_ok-check.ensures.fault _ fits) in
    gate-fits _ (g.H.History.entries c.reserve_entry.new.self) _ stays.1
    (now-history _ held _ c.self.view_is c.self.invariant _ c.in_ok-reserve_entry.ensures.same)

pub returns-in_err-answer-clause-replies : goal.returns-in_err-answer-clause-replies
returns-in_err-answer-clause-replies g c =
    let held = g.H.History.entries c.self.inside.history in
    let fits = now-fits _ held _ c.self.view_is c.self.invariant in
    let faultless = c.in_ok-check.ensures.fault _ fits in
    let stays = c.in_err-answer.ensures _ fits faultless in
    let told = err_from_is_err_and c.from_residual-in_err-answer.result c.from_residual-in_err-answer.ensures.1 in
    let turned = now-history _ held _ c.self.view_is c.self.invariant _ c.in_ok-reserve_entry.ensures.same in
    rw told.1 (is-out_of_memory _ (g.H.History.entries c.reserve_entry.new.self) _ c.args.request told.0 faultless stays.1 turned (told.2 ∙ stays.0))

pub returns-in_err-answer-clause-admitted : goal.returns-in_err-answer-clause-admitted
returns-in_err-answer-clause-admitted g c admitted =
    let fits = now-fits _ (g.H.History.entries c.self.inside.history) _ c.self.view_is c.self.invariant in
    let stays = c.in_err-answer.ensures _ fits (c.in_ok-check.ensures.fault _ fits) in
    let told = err_from_is_err_and c.from_residual-in_err-answer.result c.from_residual-in_err-answer.ensures.1 in
    rw (told.1, told.2 ∙ stays.0) tt

pub returns-clause-admitted : goal.returns-clause-admitted
returns-clause-admitted g c admitted = tt

pub invariant_of-self-2 : goal.invariant_of-self-2
invariant_of-self-2 g c =
    let held = g.H.History.entries c.self.inside.history in
    let fits = now-fits _ held _ c.self.view_is c.self.invariant in
    let done = c.in_ok-answer.ensures _ fits (c.in_ok-check.ensures.fault _ fits) in
    let pushed = rw c.in_ok-reserve_entry.ensures.same at c.push_entry.ensures in
    gate-fits _ (g.H.History.entries c.push_entry.new.self) _ done (now-pushed _ held _ c.self.view_is c.self.invariant _ _ pushed)

pub returns-clause-replies : goal.returns-clause-replies
returns-clause-replies g c =
    let held = g.H.History.entries c.self.inside.history in
    let fits = now-fits _ held _ c.self.view_is c.self.invariant in
    let faultless = c.in_ok-check.ensures.fault _ fits in
    let pushed = rw c.in_ok-reserve_entry.ensures.same at c.push_entry.ensures in
    is-entered _ (g.H.History.entries c.push_entry.new.self) _ c.args.request c.in_ok-answer.answer _ faultless (c.in_ok-answer.ensures _ fits faultless)
    (now-pushed _ held _ c.self.view_is c.self.invariant _ _ pushed) c.entries.ensures

pub returns-clause-judged : goal.returns-clause-judged
returns-clause-judged g c = (invariant_of-self-2 g c).kept.right.judged

pub returns-clause-values : goal.returns-clause-values
returns-clause-values g c = (invariant_of-self-2 g c).kept.right.memory

pub returns-in_err-answer-clause-judged : goal.returns-in_err-answer-clause-judged
returns-in_err-answer-clause-judged g c = (invariant_of-self-in_err-answer g c).kept.right.judged

pub returns-in_err-answer-clause-values : goal.returns-in_err-answer-clause-values
returns-in_err-answer-clause-values g c = (invariant_of-self-in_err-answer g c).kept.right.memory

pub returns-in_err-reserve_entry-clause-replies : goal.returns-in_err-reserve_entry-clause-replies
returns-in_err-reserve_entry-clause-replies g c =
    let held = g.H.History.entries c.self.inside.history in
    let fits = now-fits _ held _ c.self.view_is c.self.invariant in
    let told = err_from_is_err_and c.from_residual-in_err-reserve_entry.result c.from_residual-in_err-reserve_entry.ensures.1 in
    let turned = now-history _ held _ c.self.view_is c.self.invariant _ c.in_err-reserve_entry.ensures.same in
    rw told.1 (is-out_of_memory _ (g.H.History.entries c.reserve_entry.new.self) _ c.args.request told.0 (c.in_ok-check.ensures.fault _ fits) fits turned told.2)

pub returns-in_err-reserve_entry-clause-admitted : goal.returns-in_err-reserve_entry-clause-admitted
returns-in_err-reserve_entry-clause-admitted g c admitted =
    let told = err_from_is_err_and c.from_residual-in_err-reserve_entry.result c.from_residual-in_err-reserve_entry.ensures.1 in
    rw (told.1, told.2) tt
