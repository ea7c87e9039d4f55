use Rattle.std.proofs.Common.{◌≡◌, ◌++◌, ℕ, List, lit<, sym, subst}
use Rattle.std.specs.Prelude.{None, Some, codes}
use Rattle.std.proofs.lemmas.Str.Pattern.{strip_prefix_char}
use Rattle.text_words.specs.declared.fault.Cause.TheVariants.{BadNumber}
use Rattle.trace_text.specs.Lines.{Mark}
use Rattle.text_words.specs.Causes.{IsLowest}
use Rattle.trace_text.specs.Faults.{WordFault}
use Rattle.trace_text.proofs.CellWords.{lowest_bad_word}
use Rattle.trace_text.proofs.Outcomes.{lowest_bad_mark}
use Rattle.trace_text.proofs.place.mark_of.Goals as goal

pub returns-in-Ok : goal.returns-in-Ok
returns-in-Ok c = λ known.
    (c.in-Some.digits.now, strip_prefix_char 64 c.args.word.now (Some c.in-Some.digits) c.in-Some.ensures.cases (lit< tt), c.in-Ok.ensures.reads known)

pub returns-in-Err : goal.returns-in-Err
returns-in-Err c = λ known.
    let e : c.args.word.now ≡ codes "@" ++ c.in-Some.digits.now = strip_prefix_char 64 c.args.word.now (Some c.in-Some.digits) c.in-Some.ensures.cases (lit< tt) in
    subst (λ (w : List ℕ). IsLowest (WordFault known Mark w) BadNumber) (sym e) (lowest_bad_mark known c.in-Some.digits.now _ (c.in-Err.ensures.reads known))

pub returns-in-None : goal.returns-in-None
returns-in-None c = λ known.
    let none = strip_prefix_char 64 c.args.word.now None c.in-None.ensures.cases (lit< tt) in
    lowest_bad_word known Mark c.args.word.now (λ shape. none shape.0 shape.1)
