use Rattle.std.proofs.Common.{rules, ◌≡◌, ◌<◌, ◌∙◌, length, refl, reverse, take, ap, subst, arith}
use Rattle.std.proofs.lemmas.Option.{get_or_from_slice_get}
use Rattle.std.proofs.Math.Seq.{take-length}
use Rattle.model_histories.specs.declared.answer.Entry.{Entry}
use Rattle.model_histories.specs.Entries.{Entries}
use Rattle.model_histories.specs.Shapes.{most_entries}
use Rattle.model_histories.specs.States.{opening}
use Rattle.program_text.specs.Shapes.{shape_in}
use Rattle.run_replay.specs.Slots.{PlaysIn}
use Rattle.run_replay.specs.Turns.{IsEntered}
use Rattle.run_replay.specs.Wraps.{index_at, AreWraps}
use Rattle.run_replay.proofs.Openings.{opens_plays}
use Rattle.run_replay.proofs.Followed.{one_further}
use Rattle.run_replay.proofs.Wrapped.{first_wraps}
use Rattle.run_replay.proofs.wraps.keep_all.Goals as goal

pub loop-at-init : goal.loop-at-init
loop-at-init g c =
    let functions = c.args.program.now.functions in
    let shape = shape_in c.args.program.now in (
      opening shape most_entries,
      (
        (c.requires.opens.0, c.requires.opens.1, opens_plays functions shape (opening shape most_entries) c.requires.opens.0 c.args.table.now.places.items c.requires.opens.2),
        first_wraps functions shape (index_at c.args.wraps.now) c.requires.none,
      ),
      refl,
    )

pub keep_and_play-requires : goal.keep_and_play-requires
keep_and_play-requires g c =
    let kept = c.loop-at.invariant in
    record { plays = (kept.0, kept.1.0) }

pub loop-at-preserved : goal.loop-at-preserved
loop-at-preserved g c =
    let functions = c.args.program.now.functions in
    let shape = shape_in c.args.program.now in
    let items = c.args.entries.now.items in
    let kept = c.loop-at.invariant in
    let low : c.loop-at.at < length items = search rules in
    let now = c.keep_and_play.new.table in
    let here = get_or_from_slice_get items c.loop-at.at c.get.result c.get.result c.get.ensures in
    one_further shape items c.loop-at.at kept.0 c.get.result c.requires.judged (omega (arith, low, c.requires.within)) low kept.1.0.2.shape_is kept.1.0.2.limit_is kept.2
    (λ state. PlaysIn functions shape state now.slots.items now.homes.items now.places.items × AreWraps functions shape state.history c.keep_and_play.new.wraps)
    (λ next entered. c.in_ok-keep_and_play.ensures kept.0 next kept.1.0 (subst (λ (entry : Entry). IsEntered entry kept.0 next) here entered) kept.1.1)

pub returns : goal.returns
returns g c =
    let functions = c.args.program.now.functions in
    let shape = shape_in c.args.program.now in
    let items = c.args.entries.now.items in
    let kept = c.loop-at.invariant in
    let ended : c.loop-at.at ≡ length items = search rules in
    subst (λ (h : Entries). AreWraps functions shape h c.loop-at.wraps) (kept.2 ∙ ap (λ n. reverse (take n items)) ended ∙ ap reverse (take-length items)) kept.1.1
