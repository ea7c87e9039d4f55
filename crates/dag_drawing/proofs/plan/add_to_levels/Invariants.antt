use Rattle.std.proofs.Common.{◌≡◌, drop}
use Rattle.dag_drawing.specs.Plans.{counts_by, columns_by}
use Rattle.dag_drawing.proofs.plan.add_to_levels.Given as goal

-- the counts and the columns after the strands that are left are those after all
abbrev pub invariant-loop-strand : goal.invariant-loop-strand
invariant-loop-strand l =
    (counts_by l.depths l.counts.items (drop l.strand-index l.strands) ≡ counts_by l.depths l.initial.counts.items l.strands) ×
    (columns_by l.depths l.counts.items l.columns.items (drop l.strand-index l.strands) ≡
    columns_by l.depths l.initial.counts.items l.initial.columns.items l.strands)
