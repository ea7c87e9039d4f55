use Rattle.std.proofs.Common.{◌≡◌, ◌++◌, append_assoc}
use Rattle.std.proofs.lemmas.Result.{IfOk-weaker}
use Rattle.std.specs.Prelude.{codes, string_bytes}
use Rattle.dag_drawing.proofs.labels.label_of.Goals as goal

pub returns : goal.returns
returns c =
    IfOk-weaker c.format.result _ _
    (λ label is.
    let written : string_bytes label ≡ c.rule_of-rule.result.now ++ (codes " on " ++ c.told_name-told.result.now) = is in
    simp append_assoc (rw (c.rule_of-rule.ensures, c.told_name-told.ensures, c.requires) at written))
    c.format.ensures.ok
