use Rattle.std.proofs.Common.{List, map, take}
use Rattle.model_histories.specs.declared.answer.Entry.{Entry}
use Rattle.race_pairs.specs.Encounters.{AreRacesOf}
use Rattle.race_explanations.specs.Scenes.{setting_of}
use Rattle.race_records.specs.Several.{AddsKept}
use Rattle.race_records.specs.SeveralViews.{kept_of}
use Rattle.race_records.proofs.several.keep_all.Given as goal

-- the pairs so far are added
abbrev pub invariant-loop-race : goal.invariant-loop-race
invariant-loop-race l = (entries : List Entry) → AreRacesOf entries l.scene.digest.now l.found →
    AddsKept (setting_of l.scene) l.trace entries (kept_of l.initial.findings l.initial.races.items) (take l.race-index (map (λ race. race.pair) l.found))
    (kept_of l.findings l.races.items)
