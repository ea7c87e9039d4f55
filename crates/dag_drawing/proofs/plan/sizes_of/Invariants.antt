use Rattle.std.proofs.Common.{◌≡◌, drop}
use Rattle.dag_drawing.specs.Labels.{naming_of}
use Rattle.dag_drawing.specs.Plans.{longest_line, most_lines}
use Rattle.dag_drawing.proofs.plan.sizes_of.Given as goal

-- the longest line and the most lines with the strands that are left are those of all
abbrev pub invariant-loop-strand : goal.invariant-loop-strand
invariant-loop-strand l =
    (longest_line (naming_of l.names) l.sizes.length (drop l.strand-index l.strands) l.rest ≡ longest_line (naming_of l.names) 0 l.strands l.accesses) ×
    (most_lines (naming_of l.names) l.sizes.lines (drop l.strand-index l.strands) l.rest ≡ most_lines (naming_of l.names) 0 l.strands l.accesses)
