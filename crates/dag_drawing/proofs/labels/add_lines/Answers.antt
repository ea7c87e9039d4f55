use Rattle.std.proofs.lemmas.List.{take_min}
use Rattle.dag_drawing.specs.Labels.{most_told, node_lines}
use Rattle.dag_drawing.proofs.Pushed.{on_ok, lines_pushed}
use Rattle.dag_drawing.proofs.labels.add_lines.Goals as goal

pub returns : goal.returns
unfolding node_lines
returns c =
    on_ok c.add_rest.result _ _
    (lines_pushed _ _ _ _ _ _ _ (c.in_ok-add_line.ensures _ (rw c.first_place-place.ensures at c.line_at.ensures))
    (rw (c.split_at.ensures.front, c.min.ensures, take_min most_told c.args.own.now) at c.in_ok-add_accesses.ensures))
    c.add_rest.ensures
