use Rattle.std.proofs.Common.{◌≡◌, ◌++◌, ◌+◌, ◌∷◌, List, Option, drop, ap, sym, ◌∙◌, rules}
use Rattle.std.specs.Option.{option_to_list}
use Rattle.serde_json.specs.Data.{Data}
use Rattle.model_histories.specs.declared.answer.Entry.{Entry}
use Rattle.program_text.specs.Programs.{contents}
use Rattle.race_report.specs.Refusals.{refusals_behind}
use Rattle.race_report.specs.RefusalValues.{text_with}
use Rattle.race_report.proofs.Reversed.{item_there}
use Rattle.race_report.proofs.json_report.push_refusals.Goals as goal

pub loop-at-preserved : goal.loop-at-preserved
loop-at-preserved g c =
    let known = (contents c.args.program.now).known in
    let entries = c.args.entries.now.items in
    let at = c.loop-at.at in
    let there = item_there entries at (search rules) in
    let next : drop at entries ≡ there.0 ∷ drop (at + 1) entries = there.2 in
    let behind = refusals_behind known entries (at + 1) (drop (at + 1) entries) in
    c.in_ok-push.ensures behind ∙
    ap (λ (told : Option Data). text_with c.loop-at.printer (option_to_list told ++ behind)) (c.refusal_at-refusal.ensures there.0 there.1) ∙
    ap (λ (rest : List Entry). text_with c.loop-at.printer (refusals_behind known entries at rest)) (sym next) ∙
    c.loop-at.invariant
