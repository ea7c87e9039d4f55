use Rattle.std.proofs.Common.{◌++◌}
use Rattle.trace_text.specs.Drafts.{so_far}
use Rattle.trace_text.proofs.WholeLines.{text_behind, fault_behind}
use Rattle.trace_text.proofs.pieces.BegunTrace.end.Goals as goal

pub of_draft-requires : goal.of_draft-requires
of_draft-requires g c =
    let begun = c.args.self in
    let done = c.requires.0 in
    let read = c.requires.1 in
    let after = c.take_lines.new.self in (
      done ++ c.args.text.now,
      text_behind done c.args.text.now begun.at (so_far begun.draft.names begun.draft.lines) (so_far after.names after.lines)
          read.whole read.means read.count c.in-Ok.ensures.0,
    )

pub returns-in-Ok : goal.returns-in-Ok
returns-in-Ok g c done read =
    let begun = c.args.self in
    let after = c.take_lines.new.self in
    rw c.of_draft.ensures
    (text_behind done c.args.text.now begun.at (so_far begun.draft.names begun.draft.lines) (so_far after.names after.lines)
    read.whole read.means read.count c.in-Ok.ensures.0)

pub returns-in-Err : goal.returns-in-Err
returns-in-Err g c done read =
    let begun = c.args.self in
    fault_behind done c.args.text.now begun.at (so_far begun.draft.names begun.draft.lines) c.in-Err.fault read.whole read.means read.count c.in-Err.ensures
