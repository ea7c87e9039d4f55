use Rattle.std.proofs.Common.{◌≡◌, ◌<◌, ◌+◌, suc, length, true≢false, Err, inl, ◌∙◌, refl, ap, sym, subst, arith}
use Rattle.std.proofs.lemmas.Option.{get_or_from_slice_get}
use Rattle.model_histories.specs.declared.answer.Entry.{Entry}
use Rattle.model_histories.specs.Shapes.{most_entries}
use Rattle.model_histories.specs.States.{opening}
use Rattle.program_text.specs.Shapes.{shape_in}
use Rattle.run_replay.specs.declared.replays.ReplayFault.TheVariants.{Strange, Unfinished}
use Rattle.run_replay.specs.Slots.{PlaysIn}
use Rattle.run_replay.specs.Turns.{IsEntered}
use Rattle.run_replay.specs.FrameTables.{IsMisfit}
use Rattle.run_replay.proofs.Openings.{opens_plays}
use Rattle.run_replay.proofs.Told.{strange_at, run_of_all, ok-other, memory-unfinished, memory-strange, strange-unfinished, unfinished-strange}
use Rattle.run_replay.proofs.Followed.{so_many, one_further, entry_there}
use Rattle.run_replay.proofs.replays.follow_all.Goals as goal

pub loop-at-init : goal.loop-at-init
loop-at-init g c = (
  opening (shape_in c.args.program.now) most_entries,
  (
    c.requires.opens.0,
    c.requires.opens.1,
    opens_plays c.args.program.now.functions (shape_in c.args.program.now) (opening (shape_in c.args.program.now) most_entries) c.requires.opens.0
        c.args.table.now.places.items c.requires.opens.2,
  ),
  refl,
)

pub play_at-requires : goal.play_at-requires
play_at-requires g c =
    let kept = c.loop-at.invariant in
    record { there = omega (arith, c.loop-at-test.true, c.len-at-end.ensures); plays = (kept.0, kept.1) }

pub returns-in-Err-Strange-clause-strange : goal.returns-in-Err-Strange-clause-strange
returns-in-Err-Strange-clause-strange g c = λ number e.
    let functions = c.args.program.now.functions in
    let shape = shape_in c.args.program.now in
    let items = c.args.entries.now.items in
    let kept = c.loop-at.invariant in
    let low : c.loop-at.at < length items = omega (arith, c.loop-at-test.true, c.len-at-end.ensures) in
    let is : c.loop-at.at + 1 ≡ number = cc in
    let played = so_many items c.loop-at.at kept.0.history low kept.2 in
    let place : number ≡ suc (length kept.0.history) = omega (arith, is, played) in
    let found = entry_there items c.loop-at.at low in
    let here = get_or_from_slice_get items c.loop-at.at found.0 found.0 found.1 in
    strange_at functions shape kept.0 kept.1.0 c.loop-at.table.places.items kept.1.2 items c.loop-at.at kept.2 found.0 number low place
    (subst (λ (entry : Entry). IsMisfit functions shape entry kept.0) (sym here) (c.in-Err-Strange.ensures.strange found.0 found.1 kept.0 kept.1 (ap Err c.in-Err-Strange.field-0-is)))

pub loop-at-preserved : goal.loop-at-preserved
loop-at-preserved g c =
    let functions = c.args.program.now.functions in
    let shape = shape_in c.args.program.now in
    let items = c.args.entries.now.items in
    let kept = c.loop-at.invariant in
    let low : c.loop-at.at < length items = omega (arith, c.loop-at-test.true, c.len-at-end.ensures) in
    let now = c.play_at.new.table in
    let found = entry_there items c.loop-at.at low in
    let here = get_or_from_slice_get items c.loop-at.at found.0 found.0 found.1 in
    one_further shape items c.loop-at.at kept.0 found.0 c.requires.judged c.if-at.false low kept.1.2.shape_is kept.1.2.limit_is kept.2
    (λ state. PlaysIn functions shape state now.slots.items now.homes.items now.places.items)
    (λ next entered. c.in-Ok.ensures.ok found.0 found.1 kept.0 next kept.1 (subst (λ (entry : Entry). IsEntered entry kept.0 next) here entered))

pub returns-then-at-clause-strange : goal.returns-then-at-clause-strange
returns-then-at-clause-strange g c = λ number e.
    let kept = c.loop-at.invariant in
    let items = c.args.entries.now.items in
    let low : c.loop-at.at < length items = omega (arith, c.loop-at-test.true, c.len-at-end.ensures) in
    let is : most_entries + 1 ≡ number = cc in
    let played = so_many items c.loop-at.at kept.0.history low kept.2 in
    let full : length kept.0.history ≡ most_entries = omega (arith, played, c.if-at.true, kept.1.2.within) in
    strange_at c.args.program.now.functions (shape_in c.args.program.now) kept.0 kept.1.0 c.loop-at.table.places.items kept.1.2 items c.loop-at.at kept.2
    (entry_there items c.loop-at.at low).0 number low (omega (arith, is, full)) (λ run. inl full)

pub returns-in-Err-Strange-clause-unfinished : goal.returns-in-Err-Strange-clause-unfinished
returns-in-Err-Strange-clause-unfinished g c = λ e. absurd (strange-unfinished (c.loop-at.at + 1) e)

pub returns-in-Err-Memory-clause-unfinished : goal.returns-in-Err-Memory-clause-unfinished
returns-in-Err-Memory-clause-unfinished g c = λ e. absurd (memory-unfinished e)

pub returns-in-Err-Memory-clause-strange : goal.returns-in-Err-Memory-clause-strange
returns-in-Err-Memory-clause-strange g c = λ number e. absurd (memory-strange number e)

pub returns-clause-finished : goal.returns-clause-finished
returns-clause-finished g c =
    let kept = c.loop-at.invariant in
    let end : c.loop-at.at ≡ length c.args.entries.now.items = omega (arith, c.loop-at-test.false, c.loop-at.auto.at-end, c.len-at-end.ensures) in (
      run_of_all c.args.program.now.functions (shape_in c.args.program.now) kept.0 kept.1.0 c.loop-at.table.places.items kept.1.2 c.args.entries.now.items c.loop-at.at kept.2 end,
      c.is_finished.ensures.0 c.if-not-is_finished.false,
    )

pub returns-clause-unfinished : goal.returns-clause-unfinished
returns-clause-unfinished g c = λ e. absurd (ok-other tt Unfinished e)

pub returns-clause-strange : goal.returns-clause-strange
returns-clause-strange g c = λ number e. absurd (ok-other tt (Strange number) e)

pub returns-then-not-is_finished-clause-unfinished : goal.returns-then-not-is_finished-clause-unfinished
returns-then-not-is_finished-clause-unfinished g c = λ e.
    let kept = c.loop-at.invariant in
    let end : c.loop-at.at ≡ length c.args.entries.now.items = omega (arith, c.loop-at-test.false, c.loop-at.auto.at-end, c.len-at-end.ensures) in (
      run_of_all c.args.program.now.functions (shape_in c.args.program.now) kept.0 kept.1.0 c.loop-at.table.places.items kept.1.2 c.args.entries.now.items c.loop-at.at kept.2 end,
      (λ ends. true≢false (sym (c.is_finished.ensures.1 ends) ∙ c.if-not-is_finished.true)),
    )

pub returns-then-not-is_finished-clause-strange : goal.returns-then-not-is_finished-clause-strange
returns-then-not-is_finished-clause-strange g c = λ number e. absurd (unfinished-strange number e)

pub returns-then-not-is_finished-clause-finished : goal.returns-then-not-is_finished-clause-finished
returns-then-not-is_finished-clause-finished g c = tt

pub returns-then-at-clause-finished : goal.returns-then-at-clause-finished
returns-then-at-clause-finished g c = tt

pub returns-then-at-clause-unfinished : goal.returns-then-at-clause-unfinished
returns-then-at-clause-unfinished g c = λ e. absurd (strange-unfinished (most_entries + 1) e)

pub returns-in-Err-Strange-clause-finished : goal.returns-in-Err-Strange-clause-finished
returns-in-Err-Strange-clause-finished g c = tt

pub returns-in-Err-Memory-clause-finished : goal.returns-in-Err-Memory-clause-finished
returns-in-Err-Memory-clause-finished g c = tt
