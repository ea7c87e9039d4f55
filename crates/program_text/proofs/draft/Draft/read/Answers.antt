use Rattle.std.proofs.Common.{◌≡◌, ◌∙◌, ap, refl}
use Rattle.text_words.specs.Text.{words}
use Rattle.text_words.specs.Causes.{IsLowest}
use Rattle.program_lines.specs.Faults.{WordsFault}
use Rattle.program_text.specs.Drafts.{scope_of}
use Rattle.program_text.proofs.Taken.{lowest_of_words}
use Rattle.program_text.proofs.draft.Draft.read.Goals as goal

pub returns-in-Ok : goal.returns-in-Ok
returns-in-Ok g c =
    let ws : c.of_line.result ≡ words c.args.line.now = c.of_line.ensures ∙ ap words c.in-Some.ensures.0 in
    (c.in-Some.ensures.1, rw c.scope.ensures at (rw ws at c.in-Ok.ensures))

pub returns-in-Err : goal.returns-in-Err
returns-in-Err g c =
    let line = c.args.line.now in
    let draft = c.args.self.now in
    let ws : c.of_line.result ≡ words line = c.of_line.ensures ∙ ap words c.in-Some.ensures.0 in
    let lowest : IsLowest (WordsFault (scope_of c.args.names.now draft) (words line)) c.in-Err.why = rw c.scope.ensures at (rw ws at c.in-Err.ensures) in
    rw c.fault-in-Err.ensures
    (refl, lowest_of_words c.args.names.now c.args.at draft line c.in-Some.ensures.1 c.in-Err.why lowest)
