use Rattle.trace_text.specs.Drafts.{so_far}
use Rattle.trace_text.specs.Grammar.{TextMeans}
use Rattle.trace_text.proofs.Kept.{kept_of_text}
use Rattle.trace_text.proofs.RoomFaults.{assembled}
use Rattle.trace_text.proofs.trace.Trace.of_draft.Goals as goal

pub invariant_of-result : goal.invariant_of-result
invariant_of-result g c =
    let parts = c.into_parts-version.result in
    let read = c.into_parts-names in
    let text = c.requires.0 in
    let meant : TextMeans text (so_far read.result.0 read.result.1) = rw (read.ensures.0, read.ensures.1) c.requires.1 in
    let means : TextMeans text (so_far (record { version = parts.0; mems = c.new.result; reducers = c.new-2.result }) read.result.1) =
    assembled text read.result.0 read.result.1 parts.0 parts.1.items c.new.result parts.2.items c.new-2.result
    c.into_parts-version.ensures c.new.ensures c.new-2.ensures meant in
    let kept = kept_of_text text _ means in
    record {
      meant = ∣ (text, means) ∣₁;
      numbered = kept.numbered;
      few_cells = kept.few_cells;
      few_reducers = kept.few_reducers;
      few_lines = kept.few_lines;
      within = kept.within;
    }
