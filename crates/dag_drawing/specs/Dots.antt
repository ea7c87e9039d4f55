-- The text of a drawing with its notes, in Graphviz's language.
use Rattle.std.specs.Prelude.{ℕ, List, [], ◌∷◌, ◌++◌, codes, decimal, flat_map, take, drop}
use Rattle.dag_drawing.specs.declared.drawing.Access.{Access}
use Rattle.dag_drawing.specs.declared.drawing.Drawing.{Drawing}
use Rattle.dag_drawing.specs.declared.drawing.Race.{Race}
use Rattle.dag_drawing.specs.Texts.{escaped, edge_text, count_own, red_text}
use Rattle.dag_drawing.specs.Labels.{Naming, node_lines, race_label, title_lines}

-- a line of a label, on the left
abbrev pub line_text : List ℕ → List ℕ
line_text line = escaped line ++ codes "\\l"

-- a strand with the lines of its node
abbrev pub box_text : ℕ → List (List ℕ) → List ℕ
box_text strand lines = codes "  " ++ decimal strand ++ codes " [label=\"" ++ flat_map line_text lines ++ codes "\"];\n"

-- the strands, each with those at the head of what is left of the accesses, which stand by strands
abbrev pub boxes_text : Naming → List ℕ → List Access → List ℕ
boxes_text naming [] accesses = []
boxes_text naming (strand ∷ strands) accesses =
    box_text strand (node_lines naming strand (take (count_own strand accesses) accesses)) ++
    boxes_text naming strands (drop (count_own strand accesses) accesses)

-- a race, from the strand of the earlier access to that of the refused one
abbrev pub arc_text : Naming → Race → List ℕ
arc_text naming race =
    codes "  " ++ decimal race.witness.strand ++ codes " -> " ++ decimal race.request.strand ++ codes " [label=\"" ++
    escaped (race_label naming race) ++ red_text

-- what was recorded, above the graph
abbrev pub heading_text : List (List ℕ) → List ℕ
heading_text [] = []
heading_text (line ∷ lines) = codes "  labelloc=t;\n  label=\"" ++ flat_map line_text (line ∷ lines) ++ codes "\";\n"

-- a drawing
abbrev pub dot_text : Naming → Drawing → List ℕ
dot_text naming drawing =
    codes "digraph trace {\n" ++ heading_text (title_lines naming) ++ boxes_text naming drawing.strands.items drawing.accesses.items ++
    flat_map edge_text drawing.edges.items ++ flat_map (arc_text naming) drawing.races.items ++ codes "}\n"
