use Rattle.std.proofs.Common.{rules}
use Rattle.std.proofs.lemmas.Result.{on_ok_weaker}
use Rattle.program_text.specs.Shapes.{shape_in}
use Rattle.run_replay.proofs.Openings.{odd_misfit}
use Rattle.run_replay.proofs.replays.judge_and_play.Goals as goal

pub returns-in_err-confirm-clause-strange : goal.returns-in_err-confirm-clause-strange
returns-in_err-confirm-clause-strange g c =
    λ state fits plays e. odd_misfit c.args.program.now.functions (shape_in c.args.program.now) state plays.0 c.args.table.now.places.items
    plays.2 c.args.entry
    (search (rules, c.confirm.ensures.strange state fits, c.in_err-confirm.ensures.strange state fits, c.in_err-confirm.was, c.in_err-confirm.is, c.from_residual.ensures, e))

pub returns-clause-ok : goal.returns-clause-ok
returns-clause-ok g c = λ state fits plays.
    let next = c.in_ok-confirm.ensures.ok state fits in
    on_ok_weaker c.play.result (λ now. (next.0, next.1, now, next.2.history)) (c.play.ensures.ok state next.0 plays next.2)
