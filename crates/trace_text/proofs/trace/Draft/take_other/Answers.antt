use Rattle.std.proofs.Common.{Ok, Err}
use Rattle.text_words.specs.Text.{words}
use Rattle.trace_text.specs.Items.{item_of}
use Rattle.trace_text.specs.Drafts.{so_far}
use Rattle.trace_text.proofs.Once.{item_clean}
use Rattle.trace_text.proofs.RoomFaults.{line_taken, first_taken, first_stopped}
use Rattle.trace_text.proofs.trace.Draft.take_other.Goals as goal

pub returns-in-Ok-add_behind : goal.returns-in-Ok-add_behind
returns-in-Ok-add_behind g c =
    let draft = c.args.self.now in
    let before = so_far draft.names draft.lines in
    let after = so_far c.add_behind.new.self.names c.add_behind.new.self.lines in
    let parts = c.split_line in
    let line = c.without_return.result.now in
    let item = item_of c.in-Ok.item in
    let said = c.in-Ok.ensures in
    let clean = item_clean draft.names c.args.at (words line) item said.1 in
    first_taken c.args.at before after c.args.text.now parts.result.0.now line parts.result.1.now parts.ensures.pieces c.without_return.ensures parts.ensures.shorter
    (line_taken {U = Unit {0}} c.args.at before after line item (Ok tt) said.0 said.1 clean c.in-Ok-add_behind.ensures)

pub returns-in-Err-add_behind : goal.returns-in-Err-add_behind
returns-in-Err-add_behind g c =
    let draft = c.args.self.now in
    let before = so_far draft.names draft.lines in
    let parts = c.split_line in
    let line = c.without_return.result.now in
    let item = item_of c.in-Ok.item in
    let said = c.in-Ok.ensures in
    let clean = item_clean draft.names c.args.at (words line) item said.1 in
    first_stopped c.args.at before c.args.text.now parts.result.0.now line parts.result.1.now c.in-Err-add_behind.fault parts.ensures.pieces c.without_return.ensures
    (line_taken {U = Unit {0}} c.args.at before before line item (Err c.in-Err-add_behind.fault) said.0 said.1 clean c.in-Err-add_behind.ensures)

pub returns-in-Err : goal.returns-in-Err
returns-in-Err g c =
    let before = so_far c.args.self.now.names c.args.self.now.lines in
    let parts = c.split_line in
    first_stopped c.args.at before c.args.text.now parts.result.0.now c.without_return.result.now parts.result.1.now c.in-Err.fault
    parts.ensures.pieces c.without_return.ensures c.in-Err.ensures
