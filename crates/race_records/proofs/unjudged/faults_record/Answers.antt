use Rattle.std.proofs.Common.{rules}
use Rattle.std.proofs.lemmas.Result.{IfOk-weaker}
use Rattle.serde_json.specs.View.{view}
use Rattle.race_records.specs.Values.{IsTextOf}
use Rattle.race_records.specs.Forms.{in_form}
use Rattle.race_records.specs.Unjudged.{RecordsText}
use Rattle.race_records.proofs.Faulty.{text_recorded}
use Rattle.race_records.proofs.unjudged.faults_record.Goals as goal

pub returns : goal.returns
returns c =
    IfOk-weaker c.record_text.result (λ text. IsTextOf (in_form c.args.form (view c.in_ok-document.document)) text.items)
    (λ text. RecordsText c.args.form c.args.file.now c.args.meant c.args.text.now c.args.first text.items)
    (λ text is. text_recorded c.args.form c.args.file.now c.args.meant c.args.text.now c.args.first c.in_ok-source.source c.as_slice-behind.result.now
    c.in_ok-others.others.faults.items c.in_ok-others.others.is_more _ (view c.in_ok-document.document) text.items
    c.in_ok-others.ensures (search rules) c.in_ok-source.ensures c.in_ok-faults.ensures c.in_ok-document.ensures is)
    c.record_text.ensures
