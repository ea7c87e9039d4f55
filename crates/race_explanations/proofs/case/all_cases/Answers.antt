use Rattle.std.proofs.Common.{rules, length, sym, subst}
use Rattle.std.proofs.lemmas.List.Elements.{All-get_or}
use Rattle.race_pairs.specs.declared.race.Race.{Race}
use Rattle.race_pairs.specs.Kept.{IsRace}
use Rattle.race_explanations.specs.Cases.{IsCase}
use Rattle.race_explanations.proofs.Gathering.{no_cases, race_case}
use Rattle.race_explanations.proofs.case.all_cases.Goals as goal

pub loop-race-init : goal.loop-race-init
loop-race-init c = λ entries are. no_cases entries _ (search rules)

pub loop-race-preserved : goal.loop-race-preserved
loop-race-preserved c = λ entries are.
    race_case entries c.args.races.now c.loop-race.race-index c.race-item.result _ _ _
    c.loop-race-test.true (c.loop-race.invariant entries are)
    (subst (λ (race : Race). IsCase entries race.pair c.in_ok-case_of.field-0) c.race-item.is (c.in_ok-case_of.ensures entries (
      are.0,
      subst (IsRace entries (length entries)) (sym c.race-item.is)
          (All-get_or (IsRace entries (length entries)) c.args.races.now c.loop-race.race-index c.race-item.result c.loop-race-test.true are.1),
    )))
    c.in_ok-push.ensures.items
