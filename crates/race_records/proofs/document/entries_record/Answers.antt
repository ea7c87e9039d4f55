use Rattle.std.proofs.Common.{rules, List, map, ap, ◌∙◌, string_bytes, take}
use Rattle.std.proofs.lemmas.Result.{IfOk-weaker}
use Rattle.serde_json.specs.View.{view}
use Rattle.model_histories.specs.declared.answer.Entry.{Entry}
use Rattle.race_pairs.specs.Digests.{IsDigest}
use Rattle.race_pairs.proofs.Knowing.{knows_count}
use Rattle.race_pairs.proofs.Digesting.{races_now}
use Rattle.race_explanations.specs.Scenes.{setting_of}
use Rattle.race_records.specs.Values.{IsTextOf}
use Rattle.race_records.specs.Forms.{in_form}
use Rattle.race_records.specs.WarnedViews.{warned_parts}
use Rattle.race_records.specs.Documents.{EndParts, summary_of, RecordsEntries}
use Rattle.race_records.specs.SummaryViews.{summary_parts}
use Rattle.race_records.proofs.Recording.{entries_recorded}
use Rattle.race_records.proofs.document.entries_record.Goals as goal

pub returns : goal.returns
returns c =
    let digest = c.args.scene.now.digest.now in
    let setting = setting_of c.args.scene.now in
    let end : EndParts = record {
      outcome = c.args.outcome;
      traces = c.args.traces;
      memory = view c.args.memory;
      recorded = map string_bytes c.args.recorded.now;
      warned = warned_parts c.args.warned.now;
    } in
    IfOk-weaker c.record_text.result (λ text. IsTextOf (in_form c.args.form (view c.in_ok-document.document)) text.items)
    (λ text. (entries : List Entry) → IsDigest entries digest → RecordsEntries c.args.form c.args.extent setting entries end text.items)
    (λ text is entries d.
    let kept = races_now entries digest d in
    let counted = knows_count digest.races.known kept.pairs kept.knows in
    entries_recorded c.args.form c.args.extent setting entries end kept.pairs digest.races.list.items
    _ (map view c.new-untold.result.items) (summary_parts c.summary_of-summary.result) _ _ kept.are.are_pairs
    (kept.are.first ∙ ap (λ most. take most kept.pairs) c.requires.most)
    (c.in_ok-races.ensures entries d) (search rules)
    (c.summary_of-summary.ensures entries d ∙ ap (summary_of c.args.outcome c.args.traces entries) counted) c.in_ok-document.ensures is)
    c.record_text.ensures
