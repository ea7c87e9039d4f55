-- How the two strands of a pair stand to each other, as data.
use Rattle.serde_json.specs.View.{view}
use Rattle.race_records.specs.declared.advice.Advice.{Advice}
use Rattle.race_records.specs.Advice.{AdviceParts}

abbrev pub advice_parts : Advice → AdviceParts
advice_parts advice = record {
  sure_help = view advice.sure_help;
  open_help = view advice.open_help;
  outstanding = view advice.outstanding;
  parting = view advice.parting;
}
