use Rattle.std.proofs.Common.{ℕ, ◌+◌, ap, ◌∙◌}
use Rattle.std.proofs.lemmas.Result.{IfOk-weaker}
use Rattle.model_bodies.specs.Codes.{Code}
use Rattle.program_text.specs.Printing.{end_row}
use Rattle.program_text.proofs.Printed.{row_steps}
use Rattle.program_text.proofs.print.put_last.Goals as goal

pub returns : goal.returns
returns g c =
    let line = ap (λ (f : Code). f.end_line) c.function.view_is in
    IfOk-weaker c.put_end.result _ _
    (λ next end. row_steps (end_row c.args.function.now) c.args.at c.from.result next _ _ _ _
    (c.from.ensures ∙ line) (end.0 ∙ ap (λ (n : ℕ). n + 1) line) c.in_ok-put_feeds.ensures c.in_ok-push_str.ensures.bytes end.1) c.put_end.ensures
