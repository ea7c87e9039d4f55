-- The parts of a race as data.
use Rattle.serde_json.specs.View.{view}
use Rattle.race_records.specs.declared.race.Race.{Race}
use Rattle.race_records.specs.AdviceViews.{advice_parts}
use Rattle.race_records.specs.Races.{RaceParts}

abbrev pub race_parts : Race → RaceParts
race_parts race = record {
  reason = race.reason;
  spawn = race.spawn;
  advice = advice_parts race.advice;
  refused = view race.refused;
  witness = view race.witness;
}
