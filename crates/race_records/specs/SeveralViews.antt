-- What is kept of several traces, as data.
use Rattle.std.specs.Prelude.{List, map}
use Rattle.serde_json.specs.View.{view}
use Rattle.race_explanations.specs.declared.finding.Finding.{Finding}
use Rattle.race_records.specs.declared.race.Race.{Race}
use Rattle.race_records.specs.declared.several.Records.{Records}
use Rattle.race_records.specs.RaceViews.{race_parts}
use Rattle.race_records.specs.Several.{Kept, Recorded}

abbrev pub kept_of : List Finding → List Race → Kept
kept_of findings races = record { findings = findings; races = map race_parts races }

abbrev pub recorded_of : Records → Recorded
recorded_of records = record {
  kept = kept_of records.findings records.races.items;
  untold = map view records.untold.items;
  refusals = records.refusals;
  requests = records.requests;
  traces = records.traces;
}
