-- The parts of an access as data.
use Rattle.std.specs.Prelude.{map}
use Rattle.serde_json.specs.View.{view}
use Rattle.sarif_logs.specs.declared.access.Access.{Access}
use Rattle.sarif_logs.specs.Accesses.{AccessParts}
use Rattle.sarif_logs.specs.PlaceViews.{place_parts}

abbrev pub access_parts : Access → AccessParts
access_parts access = record {
  word = access.word.now;
  place = place_parts access.place;
  within = map view access.within.now;
  further = access.further;
}
