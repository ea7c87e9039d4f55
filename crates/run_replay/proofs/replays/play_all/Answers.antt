use Rattle.std.proofs.Common.{◌≡◌, suc, length, Err, refl, sym, ◌∙◌, ap, arith}
use Rattle.model_histories.specs.Shapes.{most_entries}
use Rattle.model_histories.specs.States.{opening}
use Rattle.program_text.specs.Shapes.{shape_in}
use Rattle.run_replay.specs.declared.replays.ReplayFault.TheVariants.{Strange, Unfinished}
use Rattle.run_replay.proofs.Openings.{opens_plays}
use Rattle.run_replay.proofs.Told.{more_played, strange_at, finished_all, unfinished_all, ok-other, memory-unfinished, memory-strange, strange-unfinished, unfinished-strange}
use Rattle.run_replay.proofs.replays.play_all.Goals as goal

pub loop-entry-init : goal.loop-entry-init
loop-entry-init g c = record {
  plays = (
    opening (shape_in c.args.program.now) most_entries,
    c.requires.core,
    (
      c.requires.opens.0,
      c.requires.opens.1,
      opens_plays c.args.program.now.functions (shape_in c.args.program.now) (opening (shape_in c.args.program.now) most_entries) c.requires.opens.0
          c.args.table.now.places.items c.requires.opens.2,
    ),
    refl,
  );
}

pub next_number-number-requires : goal.next_number-number-requires
next_number-number-requires g c =
    let kept = c.loop-entry.invariant.plays in
    omega (arith, kept.1.counted, kept.2.2.within)

pub judge_and_play-requires : goal.judge_and_play-requires
judge_and_play-requires g c =
    let kept = c.loop-entry.invariant.plays in
    record { plays = (kept.0, kept.2) }

pub returns-in-Err-Strange-clause-strange : goal.returns-in-Err-Strange-clause-strange
returns-in-Err-Strange-clause-strange g c = λ number e.
    let kept = c.loop-entry.invariant.plays in
    let is : c.next_number-number.result ≡ number = cc in
    let place : number ≡ suc (length kept.0.history) = omega (arith, is, c.next_number-number.ensures, kept.1.counted) in
    strange_at c.args.program.now.functions (shape_in c.args.program.now) kept.0 kept.2.0 c.loop-entry.table.places.items
    kept.2.2 c.args.entries.now c.loop-entry.entry-index kept.3 _ number c.loop-entry-test.true place
    (c.in-Err-Strange.ensures.strange kept.0 kept.1 kept.2 (ap Err c.in-Err-Strange.field-0-is))

pub loop-entry-preserved : goal.loop-entry-preserved
loop-entry-preserved g c =
    let kept = c.loop-entry.invariant.plays in
    let next = c.in-Ok.ensures.ok kept.0 kept.1 kept.2 in
    record {
      plays = (
        next.0,
        next.1,
        next.2,
        more_played c.args.entries.now c.loop-entry.entry-index _ _ _ c.loop-entry-test.true next.3 kept.3,
      );
    }

pub returns-then-is_finished-clause-finished : goal.returns-then-is_finished-clause-finished
returns-then-is_finished-clause-finished g c =
    let kept = c.loop-entry.invariant.plays in
    finished_all c.args.program.now.functions (shape_in c.args.program.now) kept.0 kept.2.0 c.loop-entry.table.places.items
    kept.2.2 c.args.entries.now c.loop-entry.entry-index kept.3 (omega (arith, c.loop-entry-test.false, c.loop-entry.auto.entry-index-end))
    (kept.1.finished.0 (sym c.is_finished.ensures ∙ c.if-is_finished.true))

pub returns-else-is_finished-clause-unfinished : goal.returns-else-is_finished-clause-unfinished
returns-else-is_finished-clause-unfinished g c = λ e.
    let kept = c.loop-entry.invariant.plays in
    unfinished_all c.args.program.now.functions (shape_in c.args.program.now) kept.0 kept.2.0 c.loop-entry.table.places.items
    kept.2.2 c.args.entries.now c.loop-entry.entry-index kept.3 (omega (arith, c.loop-entry-test.false, c.loop-entry.auto.entry-index-end))
    (λ f. let t = c.is_finished.ensures ∙ kept.1.finished.1 f in let n = c.if-is_finished.false in cc)

pub returns-else-is_finished-clause-finished : goal.returns-else-is_finished-clause-finished
returns-else-is_finished-clause-finished g c = tt

pub returns-in-Err-Strange-clause-finished : goal.returns-in-Err-Strange-clause-finished
returns-in-Err-Strange-clause-finished g c = tt

pub returns-in-Err-Strange-clause-unfinished : goal.returns-in-Err-Strange-clause-unfinished
returns-in-Err-Strange-clause-unfinished g c = λ e. absurd (strange-unfinished c.next_number-number.result e)

pub returns-in-Err-Memory-clause-finished : goal.returns-in-Err-Memory-clause-finished
returns-in-Err-Memory-clause-finished g c = tt

pub returns-in-Err-Memory-clause-unfinished : goal.returns-in-Err-Memory-clause-unfinished
returns-in-Err-Memory-clause-unfinished g c = λ e. absurd (memory-unfinished e)

pub returns-in-Err-Memory-clause-strange : goal.returns-in-Err-Memory-clause-strange
returns-in-Err-Memory-clause-strange g c = λ number e. absurd (memory-strange number e)

pub returns-then-is_finished-clause-unfinished : goal.returns-then-is_finished-clause-unfinished
returns-then-is_finished-clause-unfinished g c = λ e. absurd (ok-other tt Unfinished e)

pub returns-then-is_finished-clause-strange : goal.returns-then-is_finished-clause-strange
returns-then-is_finished-clause-strange g c = λ number e. absurd (ok-other tt (Strange number) e)

pub returns-else-is_finished-clause-strange : goal.returns-else-is_finished-clause-strange
returns-else-is_finished-clause-strange g c = λ number e. absurd (unfinished-strange number e)
