use Rattle.std.proofs.Common.{List, map, take}
use Rattle.model_histories.specs.declared.answer.Entry.{Entry}
use Rattle.race_pairs.specs.Encounters.{AreRacesOf}
use Rattle.race_explanations.specs.Scenes.{setting_of}
use Rattle.race_explanations.specs.Findings.{numbered_trace, AddsAll}
use Rattle.race_explanations.proofs.finding.add_all.Given as goal

-- the findings of the pairs so far are added
abbrev pub invariant-loop-race : goal.invariant-loop-race
invariant-loop-race l = (entries : List Entry) → AreRacesOf entries l.scene.digest.now l.races →
    AddsAll (numbered_trace (setting_of l.scene) l.trace entries) (take l.race-index (map (λ race. race.pair) l.races)) l.initial.findings l.findings
