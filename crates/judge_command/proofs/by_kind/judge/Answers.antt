use Rattle.std.proofs.Common.{rules, [], ◌∷◌, ◌++◌, refl, sym, ap, map}
use Rattle.trace_text.specs.Traces.{contents}
use Rattle.race_gate.specs.Shapes.{shape_of}
use Rattle.command_streams.proofs.Telling.{none_told}
use Rattle.judge_command.proofs.Meeting.{judged_more, told_trace}
use Rattle.command_streams.proofs.TakenLines.{taken_more, taken_all}
use Rattle.judge_command.proofs.by_kind.judge.Goals as goal

pub loop-line-init : goal.loop-line-init
loop-line-init g c = rw c.make_room.ensures (record {
  judged = (
    [],
    record {
      last = _;
      judges = refl;
      fits = c.in_ok-core.ensures;
      tells = record { lines = none_told _ _ _ c.in_ok-new.ensures; met = c.new-3.ensures };
    },
  );
  whole = search rules;
})

pub loop-line-preserved : goal.loop-line-preserved
loop-line-preserved g c =
    let told = c.loop-line.invariant.judged in
    let more = c.judge_one.ensures _ _ _ told.0 told.1 in
    record {
      judged = (told.0 ++ more.0 ∷ [], judged_more _ _ _ _ _ _ c.loop-line.yielded _ (told.0 ++ more.0 ∷ []) more.1);
      whole = taken_more _ c.loop-line.yielded _ _ _ c.loop-line.invariant.whole c.in-Some.ensures.steps;
    }

pub returns-clause-told : goal.returns-clause-told
returns-clause-told g c =
    let told = c.loop-line.invariant.judged in
    let whole = taken_all _ c.loop-line.yielded _ c.loop-line.invariant.whole c.in-None.ensures.steps.0 in
    told_trace _ _ _ _ _ _ (contents c.args.trace.now) c.args.limit (shape_of c.in_ok-shape.shape) _ told.0 refl
    (λ j. record { cells = c.in_ok-shape.ensures.cells j; monoids = c.in_ok-shape.ensures.monoids j })
    (ap (map (λ line. line.request)) (sym whole)) told.1
