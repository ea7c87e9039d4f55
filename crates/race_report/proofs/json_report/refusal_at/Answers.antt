use Rattle.std.proofs.Common.{length, subst}
use Rattle.std.proofs.lemmas.Option.{get_or_from_slice_get}
use Rattle.model_histories.specs.declared.answer.Entry.{Entry}
use Rattle.program_text.specs.Programs.{contents}
use Rattle.race_report.specs.Conditions.{shape_known, IsTellable}
use Rattle.race_report.proofs.json_report.refusal_at.Goals as goal

pub refusal_of-requires : goal.refusal_of-requires
refusal_of-requires g c =
    let entries = c.args.entries.now.items in
    let entry = c.get.result in
    subst (λ (one : Entry). IsTellable (shape_known (contents c.args.program.now).known) (length entries) one)
    (get_or_from_slice_get entries c.args.at entry entry c.get.ensures)
    (c.requires.tellable c.args.at entry c.requires.there)
