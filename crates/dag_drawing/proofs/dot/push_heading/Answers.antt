use Rattle.std.proofs.Common.{◌∙◌, sym}
use Rattle.text_buffers.proofs.Builders.{three_adds}
use Rattle.dag_drawing.proofs.Pushed.{heading_adds, no_heading}
use Rattle.dag_drawing.proofs.dot.push_heading.Goals as goal

pub returns-then-is_empty : goal.returns-then-is_empty
returns-then-is_empty c = no_heading c.args.runs.now _ (sym c.is_empty.ensures ∙ c.if-is_empty.true)

pub returns : goal.returns
returns c =
    heading_adds c.args.runs.now _ _ (sym c.is_empty.ensures ∙ c.if-is_empty.false)
    (three_adds _ _ _ _ _ _ _ c.push_words.ensures c.push_lines.ensures c.push_words-2.ensures)
