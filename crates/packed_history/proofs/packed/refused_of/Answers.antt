use Rattle.std.proofs.Common.{sym, ◌∙◌}
use Rattle.packed_history.proofs.Packing.{refused-is}
use Rattle.packed_history.proofs.packed.refused_of.Goals as goal

pub returns-in_ok-second-in-Refused : goal.returns-in_ok-second-in-Refused
returns-in_ok-second-in-Refused c =
    let numbers = c.in_ok-numbers-in-Refused.numbers in
    let asked = c.in_ok-numbers-in-Refused.ensures in
    let witness = c.in-Refused.witness in
    let told = refused-is c.in_ok-start-in-Refused.start numbers.tag numbers.first c.in_ok-second-in-Refused.second
    (record { value = numbers.second; entry = witness.entry; strand = witness.strand; rule = c.in-Refused.rule; kind = witness.kind })
    c.args.receipt c.in_ok-start-in-Refused.ensures asked.0 asked.1 asked.2 (sym c.in-Refused.is) in
    (told.0, told.1 ∙ c.in_ok-second-in-Refused.ensures, told.2)
