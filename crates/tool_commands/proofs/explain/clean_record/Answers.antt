use Rattle.std.proofs.Common.{subst, ap₂, ◌∙◌}
use Rattle.std.proofs.lemmas.Result.{IfOk-weaker}
use Rattle.std.specs.Ordering.{nat_cmp}
use Rattle.std.specs.BTreeMap.{get}
use Rattle.serde_json.specs.Data.{Data}
use Rattle.serde_json.specs.View.{view}
use Rattle.program_text.specs.Programs.{contents}
use Rattle.race_records.specs.declared.document.Outcome.TheVariants.{Clean}
use Rattle.race_records.specs.Documents.{RecordsRun, RunParts, run_parts}
use Rattle.tool_commands.specs.Memories.{memory_told}
use Rattle.tool_commands.specs.Explanations.{Manner, file_of}
use Rattle.tool_commands.proofs.explain.clean_record.Goals as goal

pub run_record-requires-clause-digest : goal.run_record-requires-clause-digest
run_record-requires-clause-digest c = (c.args.whole.now.entries.items, c.in_ok-digest.ensures.digest)

pub returns : goal.returns
returns c =
    let entries = c.args.whole.now.entries.items in
    let program = contents c.args.program.now in
    let run : Data → RunParts = λ memory. run_parts entries (get nat_cmp c.args.wraps.now) Clean memory in
    IfOk-weaker c.run_record.result _ _
    (λ told records. subst (λ (memory : Data). RecordsRun c.args.form c.args.manner.now.extent (file_of c.args.manner.now c.args.text.now program) (run memory) told.items)
    (c.in_ok-memory.ensures ∙ ap₂ memory_told c.as_slice.ensures c.as_slice-2.ensures.value)
    (subst (λ (manner : Manner). RecordsRun c.args.form manner.extent (file_of manner c.args.text.now program) (run (view c.in_ok-memory.memory)) told.items)
    c.manner.view_is (records entries c.in_ok-digest.ensures.digest)))
    c.run_record.ensures
