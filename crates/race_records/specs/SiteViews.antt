-- The parts of a location and of a site, as lists of bytes.
use Rattle.std.specs.Option.{option_map}
use Rattle.race_records.specs.declared.site.Location.{Location as Located}
use Rattle.race_records.specs.declared.site.Site.{Site}
use Rattle.race_records.specs.Sites.{Location, SiteParts}

abbrev pub location_parts : Located → Location
location_parts location = record { file = location.file.now; line = location.line; column = location.column }

abbrev pub site_parts : Site → SiteParts
site_parts site = record {
  file = option_map (λ text. text.now) site.file;
  line = site.line;
  column = site.column;
  function = option_map (λ text. text.now) site.function;
  code = option_map (λ text. text.now) site.code;
}
