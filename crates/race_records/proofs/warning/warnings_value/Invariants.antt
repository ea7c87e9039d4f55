use Rattle.std.proofs.Common.{◌≡◌, take, map}
use Rattle.serde_json.specs.View.{view}
use Rattle.program_text.specs.Programs.{contents}
use Rattle.race_records.specs.Warned.{warning_told}
use Rattle.race_records.proofs.warning.warnings_value.Given as goal

-- the values of the warnings so far
abbrev pub invariant-loop-warning : goal.invariant-loop-warning
invariant-loop-warning l =
    map view l.values.items ≡ map (warning_told l.file l.source (contents l.program)) (take l.warning-index l.warnings)
