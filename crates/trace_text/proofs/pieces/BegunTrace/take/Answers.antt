use Rattle.std.proofs.Common.{◌≡◌, ◌+◌, take, length}
use Rattle.text_words.specs.Text.{lines}
use Rattle.trace_text.specs.Drafts.{so_far, IsLinesFault}
use Rattle.trace_text.specs.Grammar.{LinesMean}
use Rattle.trace_text.proofs.WholeLines.{text_behind, fault_of_piece, whole_both, lines_counted}
use Rattle.trace_text.proofs.pieces.BegunTrace.take.Goals as goal

pub returns-in-Ok : goal.returns-in-Ok
returns-in-Ok g c done read =
    let begun = c.args.self.now in
    let after = c.take_lines.new.self in
    let end = c.whole_lines-end.ensures in
    let front = take c.whole_lines-end.result c.args.text.now in
    let lines_mean : LinesMean (begun.at + 1) (so_far begun.draft.names begun.draft.lines) (lines front) (so_far after.names after.lines) =
    rw c.split_at.ensures.front at c.in-Ok.ensures.0 in
    let last : c.in-Ok.last ≡ begun.at + length (lines front) = rw c.split_at.ensures.front at c.in-Ok.ensures.1 in (
      end.within,
      record {
        whole = whole_both done front read.whole end.whole;
        means = text_behind done front begun.at (so_far begun.draft.names begun.draft.lines) (so_far after.names after.lines)
            read.whole read.means read.count lines_mean;
        count = lines_counted done front begun.at c.in-Ok.last read.whole read.count last;
        few = c.in-Ok.ensures.2;
        some = c.in-Ok.ensures.3;
      },
    )

pub returns-in-Err : goal.returns-in-Err
returns-in-Err g c done read rest =
    let begun = c.args.self.now in
    let before = so_far begun.draft.names begun.draft.lines in
    let end = c.whole_lines-end.result in
    let front = take end c.args.text.now in
    let fault : IsLinesFault (begun.at + 1) before (lines front) c.in-Err.fault = rw c.split_at.ensures.front at c.in-Err.ensures in
    fault_of_piece done c.args.text.now rest begun.at end before c.in-Err.fault read.whole read.means read.count c.whole_lines-end.ensures.whole fault
