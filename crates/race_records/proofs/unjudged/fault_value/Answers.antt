use Rattle.std.proofs.Common.{rules, ◌≡◌, ap}
use Rattle.std.proofs.lemmas.Result.{IfOk-weaker}
use Rattle.serde_json.specs.Data.{string}
use Rattle.serde_json.specs.View.{view}
use Rattle.sarif_logs.proofs.Objects.{puts, finishes}
use Rattle.race_records.specs.Unjudged.{fault_told, RecordsFault}
use Rattle.race_records.proofs.unjudged.fault_value.Goals as goal

pub returns : goal.returns
returns c =
    IfOk-weaker c.finish.result (λ value. view value ≡ fault_told c.args.file.now c.args.source.now c.args.fault c.as_slice.result.now)
    (λ value. RecordsFault c.args.file.now c.args.source.now c.args.fault (view value))
    (λ value is. (c.as_slice.result.now, search rules, is))
    (finishes _ _ c.finish.result (puts _ _ _ c.quote_line.ensures (ap string c.cause_word.ensures) c.with_text.ensures) c.finish.ensures)
