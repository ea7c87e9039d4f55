use Rattle.std.proofs.Common.{◌∙◌, sym}
use Rattle.text_buffers.proofs.Builders.{three_adds}
use Rattle.dag_drawing.specs.Plans.{most_title_lines}
use Rattle.dag_drawing.proofs.Pushed.{title_adds, no_title, title_shown}
use Rattle.dag_drawing.proofs.svg.push_title.Goals as goal

pub returns-then-is_empty : goal.returns-then-is_empty
returns-then-is_empty c = no_title c.args.runs.now _ (sym c.is_empty.ensures ∙ c.if-is_empty.true)

pub returns : goal.returns
returns c =
    title_adds c.args.runs.now _ _ (sym c.is_empty.ensures ∙ c.if-is_empty.false)
    (three_adds _ _ _ _ _ _ _ c.push_words.ensures
    (rw (title_shown most_title_lines c.args.runs.now _ (rw (c.min.ensures, c.from.ensures) at c.split_at.ensures.front)) at c.push_lines.ensures)
    c.push_words-2.ensures)
