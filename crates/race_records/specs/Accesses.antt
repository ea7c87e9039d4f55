-- An access, and the spawns and calls that led there.
use Rattle.std.specs.Prelude.{ℕ, ◌-◌, List, Option, codes, length, take}
use Rattle.serde_json.specs.Data.{Data, string, object, member, no_members}
use Rattle.race_pairs.specs.declared.refusal.Side.{Side}
use Rattle.race_pairs.specs.declared.encounter.Link.{Link}
use Rattle.race_pairs.specs.Refusals.{line_in}
use Rattle.race_explanations.specs.Settings.{Setting}
use Rattle.race_explanations.specs.Names.{side_word, way_word}
use Rattle.race_records.specs.Values.{count_told, list_told}
use Rattle.race_records.specs.Sites.{site_told}

-- where the entry with this number stands
abbrev pub place_told : Setting → ℕ → Data
place_told setting entry_number = site_told setting.origin (line_in setting.lines entry_number)

-- a spawn or a call on the way to an access
abbrev pub link_told : Setting → Link → Data
link_told setting link =
    object (member (codes "place") (place_told setting link.entry)
    (member (codes "way") (string (way_word link.way)) no_members))

-- The access that is the entry with this number, with the innermost eight of the spawns and calls that led there, and how many more there
-- are.
abbrev pub access_told : Setting → ℕ → Option Side → List Link → Data
access_told setting entry_number side chain =
    object (member (codes "further") (count_told (length chain - 8))
    (member (codes "place") (place_told setting entry_number)
    (member (codes "within") (list_told (link_told setting) (take 8 chain))
    (member (codes "word") (string (side_word side)) no_members))))
