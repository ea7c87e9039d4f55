use Rattle.std.proofs.Common.{ℕ, ◌+◌, ap, ◌∙◌}
use Rattle.std.proofs.lemmas.Result.{IfOk-weaker}
use Rattle.model_bodies.specs.Codes.{Code}
use Rattle.program_text.specs.Printing.{begin_row}
use Rattle.program_text.proofs.Printed.{row_steps, begin_words}
use Rattle.program_text.proofs.print.put_begin.Goals as goal

pub returns : goal.returns
returns g c =
    let line = ap (λ (f : Code). f.line) c.function.view_is in
    IfOk-weaker c.put_end.result _ _
    (λ next end. row_steps (begin_row c.args.function.now) c.args.at c.from.result next _ _ _ _
    (c.from.ensures ∙ line) (end.0 ∙ ap (λ (n : ℕ). n + 1) line) c.in_ok-put_feeds.ensures
    (begin_words c.args.function.now _ _ c.as_str-name.result.now c.as_str-parameter.result.now (c.as_str-name.ensures ∙ ap (λ (f : Code). f.name) c.function.view_is) (c.as_str-parameter.ensures ∙ ap (λ (f : Code). f.parameter) c.function.view_is) c.in_ok-write.ensures.bytes)
    end.1) c.put_end.ensures
