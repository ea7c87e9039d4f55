-- The text of a picture: a drawing in SVG.
use Rattle.std.specs.Prelude.{ℕ, ◌+◌, ◌-◌, ◌*◌, ◌/◌, ◌%◌, ◌==◌, ◌&&◌, nat_lt, nat_le, List, [], ◌∷◌, ◌++◌, codes, decimal, flat_map, length, take, drop, cond}
use Rattle.dag_drawing.specs.declared.drawing.Access.{Access}
use Rattle.dag_drawing.specs.declared.drawing.Drawing.{Drawing}
use Rattle.dag_drawing.specs.declared.drawing.Edge.{Edge}
use Rattle.dag_drawing.specs.declared.drawing.Race.{Race}
use Rattle.dag_drawing.specs.Texts.{kind_word, count_own}
use Rattle.dag_drawing.specs.Labels.{Naming, node_lines, race_label, title_lines}
use Rattle.dag_drawing.specs.Plans.{Plan, plan, left_at, middle_at, top_at, width_of, height_of, capped}
use Rattle.dag_drawing.specs.Plans.{most_characters, most_title_characters, most_box_lines, most_title_lines}

-- a byte as it stands in XML: those of its grammar by their names, and those that are no visible ASCII by a question mark
abbrev pub xml_byte : ℕ → List ℕ
xml_byte byte =
    cond (byte == 38) (codes "&amp;")
    (cond (byte == 60) (codes "&lt;")
    (cond (byte == 62) (codes "&gt;")
    (cond (byte == 34) (codes "&quot;")
    (cond (byte == 39) (codes "&apos;")
    (cond (nat_le 32 byte && nat_lt byte 127) (byte ∷ []) (codes "?"))))))

abbrev pub xml_text : List ℕ → List ℕ
xml_text bytes = flat_map xml_byte bytes

-- a line that is cut where it is longer than so many bytes
abbrev pub cut_text : ℕ → List ℕ → List ℕ
cut_text most line = cond (nat_lt most (length line)) (xml_text (take (most - 2) line) ++ codes "..") (xml_text line)

-- a line below the one before it
abbrev pub line_text : ℕ → ℕ → List ℕ → List ℕ
line_text most left line =
    codes "<tspan x=\"" ++ decimal left ++ codes "\" dy=\"16\">" ++ cut_text most line ++ codes "</tspan>"

abbrev pub lines_text : ℕ → ℕ → List (List ℕ) → List ℕ
lines_text most left lines = flat_map (line_text most left) lines

-- an edge, from the top of one box to that of another
unfoldable pub edge_text : Plan → Edge → List ℕ
edge_text plan edge =
    codes "<line class=\"" ++ kind_word edge.kind ++ codes "\" data-from=\"" ++ decimal edge.from ++ codes "\" data-to=\"" ++ decimal edge.to ++
    codes "\" x1=\"" ++ decimal (middle_at plan edge.from) ++ codes "\" y1=\"" ++ decimal (top_at plan edge.from) ++
    codes "\" x2=\"" ++ decimal (middle_at plan edge.to) ++ codes "\" y2=\"" ++ decimal (top_at plan edge.to) ++ codes "\"/>\n"

abbrev pub box_height : ℕ → ℕ
box_height lines = 16 * capped most_box_lines lines + 8

-- the box of a strand
unfoldable pub rect_text : Plan → ℕ → ℕ → List ℕ
rect_text plan strand lines =
    codes "<g id=\"strand-" ++ decimal strand ++ codes "\">\n<rect x=\"" ++ decimal (left_at plan strand) ++
    codes "\" y=\"" ++ decimal (top_at plan strand) ++ codes "\" width=\"" ++ decimal (2 * plan.half) ++
    codes "\" height=\"" ++ decimal (box_height lines) ++ codes "\"/>\n"

-- a strand with the lines of its box
unfoldable pub node_text : Plan → ℕ → List (List ℕ) → List ℕ
node_text plan strand lines =
    rect_text plan strand (length lines) ++ codes "<text y=\"" ++ decimal (top_at plan strand) ++ codes "\">" ++
    lines_text most_characters (left_at plan strand + 8) lines ++ codes "</text>\n</g>\n"

-- the strands, each with those at the head of what is left of the accesses, which stand by strands
abbrev pub nodes_text : Plan → Naming → List ℕ → List Access → List ℕ
nodes_text plan naming [] accesses = []
nodes_text plan naming (strand ∷ strands) accesses =
    node_text plan strand (node_lines naming strand (take (count_own strand accesses) accesses)) ++
    nodes_text plan naming strands (drop (count_own strand accesses) accesses)

-- how high the arc of the race with this number rises
abbrev pub rise : ℕ → ℕ
rise number = 24 + 12 * (number % 5)

-- between which strands a race is
unfoldable pub ends_text : Race → List ℕ
ends_text race =
    codes "<g class=\"race\" data-from=\"" ++ decimal race.witness.strand ++ codes "\" data-to=\"" ++ decimal race.request.strand ++ codes "\">\n"

-- the arc from one place to another, by a height above each
unfoldable pub curve_text : (x y above other_x other_y other_above : ℕ) → List ℕ
curve_text x y above other_x other_y other_above =
    codes "<path d=\"M " ++ decimal x ++ codes " " ++ decimal y ++ codes " C " ++ decimal x ++ codes " " ++ decimal above ++
    codes " " ++ decimal other_x ++ codes " " ++ decimal other_above ++ codes " " ++ decimal other_x ++ codes " " ++ decimal other_y ++ codes "\"/>\n"

unfoldable pub arc_text : Plan → ℕ → ℕ → ℕ → List ℕ
arc_text plan number from to =
    curve_text (middle_at plan from) (top_at plan from) (top_at plan from - rise number) (middle_at plan to) (top_at plan to)
    (top_at plan to - rise number)

-- what is written in the middle of an arc
unfoldable pub label_text : Plan → ℕ → ℕ → ℕ → List ℕ → List ℕ
label_text plan number from to label =
    codes "<text x=\"" ++ decimal ((middle_at plan from + middle_at plan to) / 2) ++
    codes "\" y=\"" ++ decimal ((top_at plan from + top_at plan to) / 2 - rise number) ++ codes "\">" ++ xml_text label ++ codes "</text>\n</g>\n"

-- a race, from the strand of the earlier access to that of the refused one
unfoldable pub race_text : Plan → Naming → ℕ → Race → List ℕ
race_text plan naming number race =
    ends_text race ++ arc_text plan number race.witness.strand race.request.strand ++
    label_text plan number race.witness.strand race.request.strand (race_label naming race)

-- the races from that with this number on
abbrev pub races_text : Plan → Naming → ℕ → List Race → List ℕ
races_text plan naming number [] = []
races_text plan naming number (race ∷ races) = race_text plan naming number race ++ races_text plan naming (number + 1) races

abbrev pub style_text : List ℕ
style_text = codes
    "<style>\nsvg { background: white }\ntext { font: 13px monospace; white-space: pre }\nrect { fill: white; stroke: black }\nline { stroke: black; marker-end: url(#arrow) }\n.join { stroke-dasharray: 6 3 }\n.race path { fill: none; stroke: red }\n.race text { fill: red; text-anchor: middle }\n</style>\n<marker id=\"arrow\" markerWidth=\"8\" markerHeight=\"8\" refX=\"8\" refY=\"4\" orient=\"auto\"><path d=\"M 0 0 L 8 4 L 0 8 z\"/></marker>\n"

unfoldable pub head_text : ℕ → ℕ → List ℕ
head_text width height =
    codes "<svg xmlns=\"http://www.w3.org/2000/svg\" width=\"" ++ decimal width ++ codes "\" height=\"" ++ decimal height ++
    codes "\" viewBox=\"0 0 " ++ decimal width ++ codes " " ++ decimal height ++ codes "\">\n" ++ style_text

-- what was recorded
abbrev pub title_text : List (List ℕ) → List ℕ
title_text [] = []
title_text (line ∷ lines) =
    codes "<text id=\"title\" y=\"8\">" ++ lines_text most_title_characters 16 (take most_title_lines (line ∷ lines)) ++ codes "</text>\n"

-- a drawing by its plan
abbrev pub picture_text : Plan → Naming → Drawing → List ℕ
picture_text plan naming drawing =
    head_text (width_of plan) (height_of plan) ++ title_text (title_lines naming) ++ flat_map (edge_text plan) drawing.edges.items ++
    nodes_text plan naming drawing.strands.items drawing.accesses.items ++ races_text plan naming 0 drawing.races.items ++ codes "</svg>\n"

-- a drawing
abbrev pub svg_text : Naming → Drawing → List ℕ
svg_text naming drawing = picture_text (plan naming drawing) naming drawing
