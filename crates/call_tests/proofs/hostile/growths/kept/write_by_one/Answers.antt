use Rattle.call_tests.proofs.hostile.growths.kept.write_by_one.Goals as goal

pub returns-clause-stands : goal.returns-clause-stands
returns-clause-stands c =
    let (history, accesses, follows, remembers) = c.requires.stands in
    (history, _, follows, c.add.ensures.added history accesses follows remembers)
