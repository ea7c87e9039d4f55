use Rattle.std.proofs.Common.{arith, refl}
use Rattle.std.proofs.lemmas.Grind.{common_steps}
use Rattle.text_words.specs.Text.{BeginsWithDigit}
use Rattle.trace_text.proofs.Numbers.{number_of_parsed, no_number}
use Rattle.trace_text.proofs.Outcomes.{lowest_bad_number}
use Rattle.trace_text.proofs.number.number.Goals as goal

pub returns-then-n-high-clause-reads : goal.returns-then-n-high-clause-reads
returns-then-n-high-clause-reads c =
    let begins : BeginsWithDigit c.args.word.now = c.if-not-begins_with_digit.ensures.0 refl in
    λ known. (number_of_parsed _ _ c.in-Ok.ensures.value.0 begins, omega arith, omega arith)

pub returns-in-Err-clause-reads : goal.returns-in-Err-clause-reads
returns-in-Err-clause-reads c =
    let begins : BeginsWithDigit c.args.word.now = c.if-not-begins_with_digit.ensures.0 refl in
    λ known. lowest_bad_number known c.args.low c.args.high c.args.word.now begins
    (λ n h. no_number _ c.in-Err.ensures.value.0 begins c.args.low c.args.high n (omega arith) h)

pub returns-else-low-n-clause-reads : goal.returns-else-low-n-clause-reads
returns-else-low-n-clause-reads c = grind (arith, common_steps)
