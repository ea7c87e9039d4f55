use Rattle.std.proofs.Common.{Ok, Err}
use Rattle.std.proofs.lemmas.Result.{err_from_is_err_and}
use Rattle.race_gate.specs.Accesses.{act_of_reducer, reducer_of}
use Rattle.race_gate.specs.Books.{answered_act}
use Rattle.race_gate.proofs.Controlled.{running-still, known-still, still-by, answers-still}
use Rattle.race_gate.proofs.Tracked.{ready-known, ready-running, answers-reducer}
use Rattle.race_gate.proofs.tracks.Tracks.access_reducer.Goals as goal

pub answer-requires-clause-in_range : goal.answer-requires-clause-in_range
answer-requires-clause-in_range g c =
    known-still _ _ _ (reducer_of c.args.act) c.in-Some.is c.in_ok-reserve_for.ensures.still (ready-known _ _ _ _ _ c.requires.ready.2 c.args.act c.requires.is)

pub answer-requires-clause-keeps : goal.answer-requires-clause-keeps
answer-requires-clause-keeps g c =
    running-still _ _ _ c.args.request.strand c.in-Some.is c.in_ok-reserve_for.ensures.still (ready-running _ _ _ _ _ c.requires.ready.2 c.args.act c.requires.is)

pub returns-in_err-reserve_for : goal.returns-in_err-reserve_for
returns-in_err-reserve_for g c state cells ready =
    let told = err_from_is_err_and c.from_residual.result c.from_residual.ensures.1 in
    rw told.1 (answers-reducer _ _ _ _ _ ready c.args.act _ (Err told.0) c.requires.is tt told.2 (still-by _ _ _ c.in-Some.is c.in_err-reserve_for.ensures.still))

pub returns : goal.returns
returns g c state cells ready =
    answers-reducer _ _ _ _ _ ready c.args.act _ (Ok c.answer.result) c.requires.is
    (answers-still _ _ _ _ (answered_act c.args.number c.args.request.strand (act_of_reducer c.args.act) c.answer.result) c.in-Some.is c.in_ok-reserve_for.ensures.still c.answer.ensures)
    tt tt
