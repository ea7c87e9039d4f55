use Rattle.std.proofs.Common.{ap}
use Rattle.serde_json.specs.Data.{string}
use Rattle.sarif_logs.proofs.Objects.{begins, puts, told_as, told_by, finishes}
use Rattle.race_records.specs.Sites.{line_of_file, parts_told}
use Rattle.race_records.proofs.warning.warning_value.Goals as goal

pub returns : goal.returns
returns c =
    let place = puts _ _ _ (begins _ _ c.new.ensures)
    (told_by _ (ap (λ line. parts_told (line_of_file c.args.file.now c.args.source.now line)) c.line_of_warning.ensures)
    c.file_line_value-place.ensures) c.with_made.ensures in
    let rule = puts _ _ _ place (ap string c.rule_word.ensures) c.with_text.ensures in
    finishes _ _ c.finish.result (puts _ _ _ rule (told_as _ _ c.message_value.ensures) c.with_made-2.ensures) c.finish.ensures
