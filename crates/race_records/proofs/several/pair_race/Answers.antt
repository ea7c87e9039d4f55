use Rattle.std.proofs.Common.{List, ◌≡◌}
use Rattle.std.proofs.lemmas.Result.{IfOk-weaker}
use Rattle.model_histories.specs.declared.answer.Entry.{Entry}
use Rattle.race_pairs.specs.Encounters.{IsRaceOf}
use Rattle.race_explanations.specs.Scenes.{setting_of}
use Rattle.race_records.specs.RaceViews.{race_parts}
use Rattle.race_records.specs.Races.{parts_of}
use Rattle.race_records.specs.Several.{IsRace}
use Rattle.race_records.proofs.several.pair_race.Goals as goal

pub returns : goal.returns
returns c =
    let pair = c.args.race.now.pair in
    IfOk-weaker c.race_of.result
    (λ told. race_parts told ≡ parts_of (setting_of c.args.scene.now) pair c.in_ok-encounter.encounter)
    (λ told. (entries : List Entry) → IsRaceOf entries c.args.scene.now.digest.now c.args.race.now → IsRace (setting_of c.args.scene.now) entries pair (race_parts told))
    (λ told is entries race. record {
      encounter = c.in_ok-encounter.encounter;
      is_encounter = c.in_ok-encounter.ensures entries race;
      parts_are = is;
    })
    c.race_of.ensures
