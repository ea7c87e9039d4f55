use Rattle.std.proofs.Common.{subst, sym}
use Rattle.model_histories.specs.Entries.{Entries}
use Rattle.program_text.specs.Shapes.{shape_in}
use Rattle.run_replay.specs.Wraps.{index_at, AreWraps}
use Rattle.run_replay.proofs.Wrapped.{more_wraps, both_ok}
use Rattle.run_replay.proofs.wraps.keep_and_play.Goals as goal

pub returns-in-Ok : goal.returns-in-Ok
returns-in-Ok g c = λ state next plays entered before.
    let functions = c.args.program.now.functions in
    let shape = shape_in c.args.program.now in
    let more = more_wraps functions shape state.history c.args.entry (index_at c.args.wraps.now) (index_at c.keep_wrap.new.wraps) c.next_wrap-wrap.result before
    c.in-Ok.ensures (c.next_wrap-wrap.ensures state next plays entered) in
    both_ok c.play.result _ _ (c.play.ensures.ok state next plays entered)
    (subst (λ (h : Entries). AreWraps functions shape h c.keep_wrap.new.wraps) (sym entered.history) more)
