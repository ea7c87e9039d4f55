use Rattle.text_words.specs.Text.{words}
use Rattle.program_lines.specs.Items.{item_of}
use Rattle.program_text.proofs.Said.{said}
use Rattle.program_text.proofs.Taken.{line_taken}
use Rattle.program_text.proofs.draft.Draft.take.Goals as goal

pub add-requires : goal.add-requires
add-requires g c = said c.args.names.now c.args.at c.args.self.now (words c.args.line.now) (item_of c.in-Ok.item) c.in-Ok.ensures.1

pub returns-in-Ok : goal.returns-in-Ok
returns-in-Ok g c =
    line_taken c.args.names.now c.args.at c.args.self.now c.args.line.now c.in-Ok.ensures.0 (item_of c.in-Ok.item) c.in-Ok.ensures.1 c.add.new.self c.add.result c.add.ensures

pub returns-in-Err : goal.returns-in-Err
returns-in-Err g c = c.in-Err.ensures
