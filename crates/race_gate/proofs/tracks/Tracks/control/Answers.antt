use Rattle.std.proofs.Common.{ap, subst, ◌∙◌}
use Rattle.race_gate.specs.Accesses.{act_of_control}
use Rattle.race_gate.specs.Steps.{FollowsWith}
use Rattle.race_gate.proofs.Tracked.{ready-runs, ready-synced, ready-numbers, ready-follows, answers-strands, answers-with}
use Rattle.race_gate.proofs.tracks.Tracks.control.Goals as goal

pub answer_to-requires-clause-runs : goal.answer_to-requires-clause-runs
answer_to-requires-clause-runs g c = ready-runs _ _ _ _ _ c.requires.ready.2

pub answer_to-requires-clause-synced : goal.answer_to-requires-clause-synced
answer_to-requires-clause-synced g c returns = ready-synced _ _ _ _ _ c.requires.ready.2 (c.requires.is ∙ ap act_of_control returns)

pub answer_to-requires-clause-numbers : goal.answer_to-requires-clause-numbers
answer_to-requires-clause-numbers g c = ready-numbers _ _ _ _ _ c.requires.ready.2

pub control_with-requires-clause-runs : goal.control_with-requires-clause-runs
control_with-requires-clause-runs g c = ready-runs _ _ _ _ _ c.requires.ready.2

pub control_with-requires-clause-synced : goal.control_with-requires-clause-synced
control_with-requires-clause-synced g c returns = ready-synced _ _ _ _ _ c.requires.ready.2 (c.requires.is ∙ ap act_of_control returns)

pub control_with-requires-clause-numbers : goal.control_with-requires-clause-numbers
control_with-requires-clause-numbers g c = ready-numbers _ _ _ _ _ c.requires.ready.2

pub control_with-requires-clause-follows : goal.control_with-requires-clause-follows
control_with-requires-clause-follows g c = subst (FollowsWith c.args.self.now.strands) c.in-Some.is (ready-follows _ _ _ _ _ c.requires.ready.2)

pub returns-in-None : goal.returns-in-None
returns-in-None g c state cells ready =
    answers-strands _ _ _ _ _ ready c.args.act _ _ c.requires.is c.in-None.is c.answer_to.ensures.ok c.answer_to.ensures.err c.answer_to.ensures.still

pub returns-in-Some : goal.returns-in-Some
returns-in-Some g c state cells ready =
    answers-with _ _ _ _ _ ready c.args.act _ _ _ _ c.requires.is c.in-Some.is c.control_with.ensures.ok c.control_with.ensures.books c.control_with.ensures.err
    c.control_with.ensures.still c.control_with.ensures.books_still
