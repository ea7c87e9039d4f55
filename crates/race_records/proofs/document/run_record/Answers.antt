use Rattle.std.proofs.Common.{rules, sym, subst}
use Rattle.std.proofs.lemmas.Result.{IfOk-weaker}
use Rattle.std.specs.Ordering.{nat_cmp}
use Rattle.std.specs.BTreeMap.{get}
use Rattle.serde_json.specs.View.{view}
use Rattle.text_words.specs.Text.{lines}
use Rattle.program_text.specs.Programs.{contents}
use Rattle.race_pairs.specs.Digests.{IsDigest}
use Rattle.race_explanations.specs.Scenes.{setting_of}
use Rattle.race_explanations.specs.Explained.{program_file}
use Rattle.race_records.specs.WarnedViews.{warned_parts}
use Rattle.race_records.specs.Documents.{run_parts}
use Rattle.race_records.proofs.Recording.{run_recorded}
use Rattle.race_records.proofs.document.run_record.Goals as goal

pub returns : goal.returns
returns c =
    IfOk-weaker c.entries_record.result _ _
    (λ told records entries d. run_recorded c.args.form c.args.extent (program_file c.args.file.now (lines c.args.text.now) (contents c.args.program.now))
    (run_parts entries (get nat_cmp c.args.wraps.now) c.args.outcome (view c.args.memory))
    c.in_ok-warned.ensures.0 (setting_of c.program_scene-scene.result) (warned_parts c.in_ok-warned.warned) _ told.items
    (search rules) (search rules) (search (rules, c.in_ok-warned.ensures, c.in_ok-source.ensures)) (search rules)
    (records entries (subst (IsDigest entries) (sym c.program_scene-scene.ensures.digest) d)))
    c.entries_record.ensures
