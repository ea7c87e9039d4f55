use Rattle.std.proofs.Common.{refl, arith}
use Rattle.text_words.specs.Text.{BeginsWithDigit}
use Rattle.trace_notes.proofs.Marks.{mark_read, no_mark}
use Rattle.race_records.proofs.site.number_of.Goals as goal

pub returns-in-Ok : goal.returns-in-Ok
returns-in-Ok c =
    let begins : BeginsWithDigit c.args.digits.now = c.if-not-begins_with_digit.ensures.0 refl in
    mark_read _ _ c.in-Ok.ensures.value.0 begins (omega arith)

pub returns-in-Err : goal.returns-in-Err
returns-in-Err c =
    let begins : BeginsWithDigit c.args.digits.now = c.if-not-begins_with_digit.ensures.0 refl in
    no_mark _ c.in-Err.ensures.value.0 begins
