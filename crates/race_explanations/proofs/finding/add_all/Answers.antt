use Rattle.std.proofs.Common.{length, sym, subst}
use Rattle.std.proofs.lemmas.List.Elements.{All-get_or}
use Rattle.race_pairs.specs.declared.race.Race.{Race}
use Rattle.race_pairs.specs.Kept.{IsRace}
use Rattle.race_explanations.specs.Findings.{numbered_trace, IsFinding}
use Rattle.race_explanations.specs.Scenes.{setting_of}
use Rattle.race_explanations.proofs.Merging.{none_added, race_added}
use Rattle.race_explanations.proofs.finding.add_all.Goals as goal

pub loop-race-init : goal.loop-race-init
loop-race-init c = λ entries are. none_added (numbered_trace (setting_of c.args.scene.now) c.args.trace entries) c.args.findings.now

pub loop-race-preserved : goal.loop-race-preserved
loop-race-preserved c = λ entries are.
    race_added (numbered_trace (setting_of c.args.scene.now) c.args.trace entries) c.args.races.now c.loop-race.race-index c.race-item.result _ _ _ _ c.loop-race-test.true
    (c.loop-race.invariant entries are) (subst (λ (race : Race). IsFinding (setting_of c.args.scene.now) c.args.trace entries race.pair c.in_ok-finding.finding) c.race-item.is
    (c.in_ok-finding.ensures entries (
      are.0,
      subst (IsRace entries (length entries)) (sym c.race-item.is)
          (All-get_or (IsRace entries (length entries)) c.args.races.now c.loop-race.race-index c.race-item.result c.loop-race-test.true are.1),
    ))) c.in_ok-join.ensures
