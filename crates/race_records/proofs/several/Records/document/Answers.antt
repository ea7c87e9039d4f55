use Rattle.std.proofs.Common.{rules, ◌≡◌, map, string_bytes}
use Rattle.std.proofs.lemmas.Result.{IfOk-weaker}
use Rattle.serde_json.specs.View.{view}
use Rattle.serde_json.specs.declared.value.Value.{the_lemmas}
use Rattle.race_explanations.specs.Extents.{most_pairs}
use Rattle.race_records.specs.SummaryViews.{summary_parts}
use Rattle.race_records.specs.WarnedViews.{warned_parts}
use Rattle.race_records.specs.Several.{recorded_told}
use Rattle.race_records.specs.SeveralViews.{recorded_of}
use Rattle.race_records.proofs.Together.{races_first, told_together}
use Rattle.race_records.proofs.several.Records.document.Goals as goal

pub returns : goal.returns
returns c =
    let races = races_first c.most_pairs-most.result (most_pairs c.args.extent) c.args.self.now.findings c.split_at.result.0.now c.args.self.now.races.items c.split_at-2.result.0.now _
    c.most_pairs-most.ensures (search rules) (search rules) c.in_ok-races.ensures in
    IfOk-weaker c.document_value.result _ (λ value. view value ≡ recorded_told c.args.extent (recorded_of c.args.self.now) (map string_bytes c.args.runs.now))
    (λ value is. told_together c.args.extent (recorded_of c.args.self.now) (map string_bytes c.args.runs.now) (summary_parts c.summary.result) _ (view value) _ _ (warned_parts c.none_warned.result) c.summary.ensures (search (rules, the_lemmas)) races
    (search rules) c.none_warned.ensures is)
    c.document_value.ensures
