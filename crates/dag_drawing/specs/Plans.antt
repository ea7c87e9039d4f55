-- Where the boxes of a picture stand: a strand's level is its depth in the dag, and its column counts the strands before it on that level.
use Rattle.std.specs.Prelude.{ℕ, ◌+◌, ◌-◌, ◌*◌, max, nat_lt, List, [], ◌∷◌, length, replicate, take, drop, cond, slice_index_or, slice_set}
use Rattle.dag_drawing.specs.declared.drawing.Access.{Access}
use Rattle.dag_drawing.specs.declared.drawing.Drawing.{Drawing}
use Rattle.dag_drawing.specs.declared.drawing.Edge.{Edge}
use Rattle.dag_drawing.specs.declared.plan.Layout.{Layout}
use Rattle.dag_drawing.specs.declared.plan.Measures.{Measures}
use Rattle.dag_drawing.specs.Texts.{count_own}
use Rattle.dag_drawing.specs.Labels.{Naming, node_lines, title_lines}

-- the next number, which is at most that of the strands that are drawn
abbrev pub stepped : ℕ → ℕ
stepped number = cond (nat_lt number 10_000) (number + 1) 10_000

abbrev pub capped : ℕ → ℕ → ℕ
capped most number = cond (nat_lt number most) number most

-- ---- levels

-- An edge leads to a level below that which it comes from.
abbrev pub deepened : List ℕ → Edge → List ℕ
deepened depths edge =
    slice_set depths edge.to (max (slice_index_or depths edge.to 0) (stepped (slice_index_or depths edge.from 0)))

-- the levels after more edges, which stand in order of the entries that made them
abbrev pub depths_by : List ℕ → List Edge → List ℕ
depths_by depths [] = depths
depths_by depths (edge ∷ edges) = depths_by (deepened depths edge) edges

-- ---- columns

-- how many strands stand on each level after one more
abbrev pub counted : List ℕ → List ℕ → ℕ → List ℕ
counted depths counts strand =
    slice_set counts (slice_index_or depths strand 0) (stepped (slice_index_or counts (slice_index_or depths strand 0) 0))

abbrev pub counts_by : List ℕ → List ℕ → List ℕ → List ℕ
counts_by depths counts [] = counts
counts_by depths counts (strand ∷ strands) = counts_by depths (counted depths counts strand) strands

abbrev pub columns_by : List ℕ → List ℕ → List ℕ → List ℕ → List ℕ
columns_by depths counts columns [] = columns
columns_by depths counts columns (strand ∷ strands) =
    columns_by depths (counted depths counts strand)
    (slice_set columns strand (slice_index_or counts (slice_index_or depths strand 0) 0)) strands

-- ---- sizes

abbrev pub greatest : ℕ → List ℕ → ℕ
greatest most [] = most
greatest most (number ∷ numbers) = greatest (max most number) numbers

-- the length of the longest line
abbrev pub longest : ℕ → List (List ℕ) → ℕ
longest most [] = most
longest most (line ∷ lines) = longest (max most (length line)) lines

abbrev pub longest_line : Naming → ℕ → List ℕ → List Access → ℕ
longest_line naming most [] accesses = most
longest_line naming most (strand ∷ strands) accesses =
    longest_line naming (longest most (node_lines naming strand (take (count_own strand accesses) accesses))) strands
    (drop (count_own strand accesses) accesses)

-- the most lines of a strand
abbrev pub most_lines : Naming → ℕ → List ℕ → List Access → ℕ
most_lines naming most [] accesses = most
most_lines naming most (strand ∷ strands) accesses =
    most_lines naming (max most (length (node_lines naming strand (take (count_own strand accesses) accesses)))) strands
    (drop (count_own strand accesses) accesses)

-- the characters of a line and of a line of the title, and the lines of a box and of the title that there is room for
abbrev pub most_characters : ℕ
most_characters = 64

abbrev pub most_title_characters : ℕ
most_title_characters = 120

abbrev pub most_box_lines : ℕ
most_box_lines = 14

abbrev pub most_title_lines : ℕ
most_title_lines = 100

-- ---- the plan

pub record Plan : Type 0 where
  -- by the number of a strand
  pub depths : List ℕ
  pub columns : List ℕ
  -- by the number of a level
  pub counts : List ℕ
  -- the most strands of a level, and the last level
  pub widest : ℕ
  pub deepest : ℕ
  -- half of a box's width, half of the way from a box to the next one, and the way from a level to the next one
  pub half : ℕ
  pub across : ℕ
  pub down : ℕ
  -- the top of the first level, and the width of the title
  pub above : ℕ
  pub title : ℕ

abbrev pub plan_of : Layout → Plan
plan_of layout = record {
  depths = layout.depths.items;
  columns = layout.columns.items;
  counts = layout.counts.items;
  widest = layout.widest;
  deepest = layout.deepest;
  half = layout.measures.half;
  across = layout.measures.across;
  down = layout.measures.down;
  above = layout.measures.above;
  title = layout.measures.title;
}

-- the measures of a picture with lines so long, so many lines in a box, and these lines of a title
abbrev pub measures_by : ℕ → ℕ → List (List ℕ) → Measures
measures_by characters lines title = record {
  half = 4 * capped most_characters characters + 8;
  across = 4 * capped most_characters characters + 24;
  down = 16 * capped most_box_lines lines + 80;
  above = 16 * capped most_title_lines (length title) + 96;
  title = 8 * capped most_title_characters (longest 0 title) + 32;
}

-- Numbers of strands are below this where at most 10,000 have begun: two begin at each spawn, and one number more is reserved for a join.
abbrev pub most_numbers : ℕ
most_numbers = 20_000

-- the last of some numbers
abbrev pub last_of : List ℕ → ℕ
last_of numbers = slice_index_or numbers (length numbers - 1) 0

abbrev pub zeros : Drawing → List ℕ
zeros drawing = replicate (capped most_numbers (last_of drawing.strands.items) + 1) 0

abbrev pub depths_in : Drawing → List ℕ
depths_in drawing = depths_by (zeros drawing) drawing.edges.items

abbrev pub columns_in : Drawing → List ℕ
columns_in drawing = columns_by (depths_in drawing) (zeros drawing) (zeros drawing) drawing.strands.items

abbrev pub counts_in : Drawing → List ℕ
counts_in drawing = counts_by (depths_in drawing) (zeros drawing) drawing.strands.items

abbrev pub characters_in : Naming → Drawing → ℕ
characters_in naming drawing = capped most_characters (longest_line naming 0 drawing.strands.items drawing.accesses.items)

abbrev pub lines_in : Naming → Drawing → ℕ
lines_in naming drawing = capped most_box_lines (most_lines naming 0 drawing.strands.items drawing.accesses.items)

abbrev pub title_width : Naming → ℕ
title_width naming = 8 * capped most_title_characters (longest 0 (title_lines naming)) + 32

abbrev pub title_height : Naming → ℕ
title_height naming = 16 * capped most_title_lines (length (title_lines naming))

abbrev pub plan : Naming → Drawing → Plan
plan naming drawing = record {
  depths = depths_in drawing;
  columns = columns_in drawing;
  counts = counts_in drawing;
  widest = greatest 0 (counts_in drawing);
  deepest = greatest 0 (depths_in drawing);
  half = 4 * characters_in naming drawing + 8;
  across = 4 * characters_in naming drawing + 24;
  down = 16 * lines_in naming drawing + 80;
  above = title_height naming + 96;
  title = title_width naming;
}

-- ---- places

-- how many half ways a strand's box stands from the left, with each level in the middle
abbrev pub steps_at : Plan → ℕ → ℕ
steps_at plan strand =
    (plan.widest - slice_index_or plan.counts (slice_index_or plan.depths strand 0) 0) + 2 * slice_index_or plan.columns strand 0

abbrev pub left_at : Plan → ℕ → ℕ
left_at plan strand = 16 + steps_at plan strand * plan.across

abbrev pub middle_at : Plan → ℕ → ℕ
middle_at plan strand = left_at plan strand + plan.half

abbrev pub top_at : Plan → ℕ → ℕ
top_at plan strand = plan.above + slice_index_or plan.depths strand 0 * plan.down

abbrev pub width_of : Plan → ℕ
width_of plan = max (16 + 2 * plan.widest * plan.across) plan.title

abbrev pub height_of : Plan → ℕ
height_of plan = plan.above + (plan.deepest + 1) * plan.down
