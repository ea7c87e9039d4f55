use Rattle.std.proofs.Common.{◌≡◌, ◌++◌, ◌∙◌, [], ap, sym, arith, rules}
use Rattle.std.proofs.lemmas.Grind.{common_steps}
use Rattle.std.proofs.lemmas.List.{append-nil}
use Rattle.std.proofs.lemmas.Result.{IfOk-weaker}
use Rattle.std.specs.Prelude.{decimal, string_bytes}
use Rattle.std.specs.Option.{option_map}
use Rattle.trace_notes.specs.Places.{place_parts}
use Rattle.dag_drawing.specs.Labels.{function_text}
use Rattle.dag_drawing.proofs.labels.line_at.Goals as goal
use Rattle.dag_drawing.proofs.labels.line_at.Goals.{in_default-via-in-Some+in_default, in_default-via-in_default}

pub returns-in_default : goal.returns-in_default
returns-in_default c =
    let none : function_text (option_map place_parts c.args.place) ≡ [] =
    elim c.in_default.branch [ in_default-via-in-Some+in_default w ↦ first_of (search rules, grind (arith, common_steps)) | in_default-via-in_default w ↦ first_of (search rules, grind (arith, common_steps)) ] in
    IfOk-weaker c.format-in_default.result _ _
    (λ line is.
    let written : string_bytes line ≡ decimal c.args.strand = is in
    written ∙ sym (append-nil _) ∙ ap (λ text. decimal c.args.strand ++ text) (sym none))
    c.format-in_default.ensures.ok
