use Rattle.std.proofs.Common.{◌≡◌, ◌∙◌, ap, refl}
use Rattle.text_words.specs.Text.{words}
use Rattle.text_words.specs.Causes.{IsLowest}
use Rattle.trace_text.specs.Faults.{WordsFault}
use Rattle.trace_text.specs.Drafts.{so_far}
use Rattle.trace_text.proofs.RoomFaults.{lowest_of_words}
use Rattle.trace_text.proofs.trace.Draft.read_item.Goals as goal

pub returns-in-Ok : goal.returns-in-Ok
returns-in-Ok g c =
    let ws : c.of_line.result ≡ words c.args.line.now = c.of_line.ensures ∙ ap words c.in-Some.ensures.0 in
    (c.in-Some.ensures.1, rw ws at c.in-Ok.ensures)

pub returns-in-Err : goal.returns-in-Err
returns-in-Err g c =
    let line = c.args.line.now in
    let draft = c.args.self.now in
    let ws : c.of_line.result ≡ words line = c.of_line.ensures ∙ ap words c.in-Some.ensures.0 in
    let lowest : IsLowest (WordsFault draft.names (words line)) c.in-Err.why = rw ws at c.in-Err.ensures in
    rw c.fault-in-Err.ensures
    (refl, lowest_of_words c.args.at (so_far draft.names draft.lines) line c.in-Some.ensures.1 c.in-Err.why lowest)
