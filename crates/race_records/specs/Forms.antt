-- The forms of a record.
use Rattle.serde_json.specs.Data.{Data}
use Rattle.sarif_logs.specs.Logs.{log_told}
use Rattle.race_records.specs.declared.form.RecordForm.{RecordForm}
use Rattle.race_records.specs.declared.form.RecordForm.TheVariants.{Json, Sarif}

-- a record as it is, or its SARIF log
abbrev pub in_form : RecordForm → Data → Data
in_form Json told = told
in_form Sarif told = log_told told
