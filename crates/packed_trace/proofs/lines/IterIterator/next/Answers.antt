use Rattle.std.proofs.Common.{rules, ap, length, ◌∙◌}
use Rattle.packed_trace.specs.Lines.{lines_from, lines_left}
use Rattle.packed_trace.proofs.Whole.{none_from}
use Rattle.packed_trace.proofs.lines.IterIterator.next.Goals as goal

pub returns-in_err-head-clause-steps : goal.returns-in_err-head-clause-steps
unfolding lines_left
returns-in_err-head-clause-steps c =
    let none = none_from c.args.self.now.last c.args.self.now.heads.now c.args.self.now.numbers.now c.in_err-head.ensures.cases in
    rw c.from_residual.ensures (none, none)

pub returns-clause-steps : goal.returns-clause-steps
unfolding lines_left
returns-clause-steps c = ap (λ heads. lines_from c.args.self.now.last heads c.args.self.now.numbers.now) c.in_ok-head.ensures.cases.0 ∙ c.first_line.ensures c.in_ok-head.behind.now

pub returns-clause-goes : goal.returns-clause-goes
unfolding lines_left
returns-clause-goes c =
    let step = ap (λ heads. lines_from c.args.self.now.last heads c.args.self.now.numbers.now) c.in_ok-head.ensures.cases.0 ∙ c.first_line.ensures c.in_ok-head.behind.now in
    let shorter = ap length step in search rules
