-- Warnings that are told, as data.
use Rattle.serde_json.specs.View.{view}
use Rattle.race_records.specs.declared.warning.Warned.{Warned as Told}
use Rattle.race_records.specs.Warned.{Warned}

abbrev pub warned_parts : Told → Warned
warned_parts warned = record { count = warned.count; warnings = view warned.warnings }
