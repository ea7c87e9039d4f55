use Rattle.std.proofs.Common.{◌∙◌, ap, ◌++◌, ◌∷◌, []}
use Rattle.packed_trace.specs.Lines.{lines_from}
use Rattle.packed_trace.proofs.Whole.{head_last, head_whole}
use Rattle.packed_trace.proofs.lines.TraceLines.push.Goals as goal

pub invariant_of-self-2 : goal.invariant_of-self-2
invariant_of-self-2 g c = rw c.in_ok-add.ensures.added (head_whole c.self.inside.heads.items c.self.inside.numbers.items _ _ c.args.line c.self.invariant c.in-Some.ensures.0 c.in-Some.ensures.1)

pub returns-clause-pushed : goal.returns-clause-pushed
returns-clause-pushed g c =
    ap (λ heads. lines_from 0 heads c.self.inside.numbers.items) c.in_ok-add.ensures.added ∙
    head_last c.self.inside.heads.items c.self.inside.numbers.items _ _ c.args.line c.self.invariant c.in-Some.ensures.0 c.in-Some.ensures.1 ∙ ap (λ lines. lines ++ c.args.line ∷ []) c.self.view_is
