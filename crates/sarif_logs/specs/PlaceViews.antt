-- The parts of a place, as lists of bytes.
use Rattle.std.specs.Option.{option_map}
use Rattle.sarif_logs.specs.declared.place.Place.{Place}
use Rattle.sarif_logs.specs.Places.{PlaceParts}

abbrev pub place_parts : Place → PlaceParts
place_parts place = record {
  file = option_map (λ text. text.now) place.file;
  line = place.line;
  column = place.column;
  function = option_map (λ text. text.now) place.function;
  code = option_map (λ text. text.now) place.code;
}
