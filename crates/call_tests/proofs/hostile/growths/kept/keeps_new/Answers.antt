use Rattle.std.proofs.Common.{[]}
use Rattle.call_tests.proofs.hostile.growths.kept.keeps_new.Goals as goal

pub keeps_three-requires-clause-stands : goal.keeps_three-requires-clause-stands
keeps_three-requires-clause-stands c =
    let (history, follows) = c.requires.follows in
    (history, [], follows, c.requires.empty history)
