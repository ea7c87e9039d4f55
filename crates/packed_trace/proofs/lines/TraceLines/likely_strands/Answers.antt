use Rattle.std.proofs.Common.{◌≡◌, ◌≤◌, length, arith, ap, ◌∙◌, sym}
use Rattle.packed_trace.proofs.Whole.{counted}
use Rattle.packed_trace.proofs.lines.TraceLines.likely_strands.Goals as goal

pub returns : goal.returns
returns g c =
    let heads : length c.args.self.now ≡ length c.self.inside.heads.items = ap length (sym c.self.view_is) ∙ counted 0 c.self.inside.heads.items c.self.inside.numbers.items in
    omega (arith, heads, c.len.ensures, c.min-2.ensures)
