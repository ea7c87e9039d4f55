use Rattle.std.proofs.Common.{List, map, take}
use Rattle.model_histories.specs.declared.answer.Entry.{Entry}
use Rattle.race_pairs.specs.Encounters.{AreRacesOf}
use Rattle.race_explanations.specs.Cases.{AreCases}
use Rattle.race_explanations.proofs.case.all_cases.Given as goal

-- the cases of the races so far
abbrev pub invariant-loop-race : goal.invariant-loop-race
invariant-loop-race l = (entries : List Entry) → AreRacesOf entries l.digest l.races →
    AreCases entries (take l.race-index (map (λ race. race.pair) l.races)) l.cases.items
