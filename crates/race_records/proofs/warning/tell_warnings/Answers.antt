use Rattle.std.proofs.Common.{rules, ◌≡◌, length, min, take, ap, ◌∙◌}
use Rattle.program_text.specs.Programs.{contents}
use Rattle.serde_json.specs.Data.{Data}
use Rattle.race_explanations.proofs.Telling.{first_of_all}
use Rattle.race_records.specs.Values.{list_told}
use Rattle.race_records.specs.Warned.{warning_told}
use Rattle.race_records.proofs.warning.tell_warnings.Goals as goal

pub returns : goal.returns
returns c =
    let warnings = c.args.warnings.now in
    let first : c.split_at.result.0.now ≡ take (min (length warnings) 20) warnings = search rules in
    ap (λ (list : Data). record { count = length warnings; warnings = list })
    (c.in_ok-values.ensures ∙ ap (list_told (warning_told c.args.file.now c.args.source.now (contents c.args.program.now))) (first ∙ first_of_all warnings 20))
