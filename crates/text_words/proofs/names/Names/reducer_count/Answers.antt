use Rattle.std.proofs.Common.{length, ap, arith}
use Rattle.text_words.specs.Values.{Known}
use Rattle.text_words.proofs.names.Names.reducer_count.Goals as goal

pub returns-clause-count : goal.returns-clause-count
returns-clause-count g c =
    let counted = c.len.ensures in
    let whole = c.self.inside.reducers.ok.0 in
    let seen = ap (λ (k : Known). length k.reducers) c.self.view_is in
    omega (arith, counted, whole, seen)
