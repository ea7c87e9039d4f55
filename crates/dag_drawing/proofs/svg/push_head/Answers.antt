use Rattle.std.specs.Prelude.{codes, decimal}
use Rattle.text_buffers.proofs.Builders.{these, two_adds}
use Rattle.dag_drawing.specs.Pictures.{head_text}
use Rattle.dag_drawing.proofs.Pushed.{head_filled}
use Rattle.dag_drawing.proofs.svg.push_head.Goals as goal

pub returns : goal.returns
unfolding head_text
returns c =
    two_adds _ _ _ _ _
    (these _ _ _ _ c.push_filled.ensures (head_filled (codes "<svg xmlns=\"http://www.w3.org/2000/svg\" width=\"") (decimal c.args.width)
    (codes "\" height=\"") (decimal c.args.height) (codes "\" viewBox=\"0 0 ") (codes " ") (codes "\">\n")))
    (these _ _ _ _ c.push_words.ensures c.style.ensures)
