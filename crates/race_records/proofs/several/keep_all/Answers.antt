use Rattle.std.proofs.Common.{length, sym, subst}
use Rattle.std.proofs.lemmas.List.Elements.{All-get_or}
use Rattle.race_pairs.specs.Kept.{IsRace}
use Rattle.race_explanations.specs.Scenes.{setting_of}
use Rattle.race_records.specs.SeveralViews.{kept_of}
use Rattle.race_records.proofs.Keeping.{none_kept, race_kept}
use Rattle.race_records.proofs.several.keep_all.Goals as goal

pub loop-race-init : goal.loop-race-init
loop-race-init c = λ entries are. none_kept (setting_of c.args.scene.now) c.args.trace entries (kept_of c.args.findings.now c.args.races.now.items)

pub loop-race-preserved : goal.loop-race-preserved
loop-race-preserved c = λ entries are.
    race_kept (setting_of c.args.scene.now) c.args.trace entries _ _ _ c.args.found.now c.loop-race.race-index c.race-item.result _
    c.loop-race-test.true (c.loop-race.invariant entries are) c.race-item.is
    (c.in_ok-keep_pair.ensures entries (
      are.0,
      subst (IsRace entries (length entries)) (sym c.race-item.is)
          (All-get_or (IsRace entries (length entries)) c.args.found.now c.loop-race.race-index c.race-item.result c.loop-race-test.true are.1),
    ))
