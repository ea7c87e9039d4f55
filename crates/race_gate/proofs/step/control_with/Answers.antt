use Rattle.std.proofs.Common.{Some, refl}
use Rattle.race_gate.specs.Accesses.{act_of_control}
use Rattle.race_gate.proofs.Controlled.{still-some, takes-event, on-still}
use Rattle.race_gate.proofs.step.control_with.Goals as goal

pub follow-requires-clause-takes : goal.follow-requires-clause-takes
follow-requires-clause-takes g c =
    let (first, followed, books) = c.requires.follows in
    let still = still-some (Some c.args.reducers.now) (Some c.reserve_event.new.self) first c.in_ok-reserve_event.ensures.still books in
    takes-event _ (Some c.reserve_event.new.self) first c.args.strand (act_of_control c.args.act) c.in_ok-answer.answer _ refl still
    (c.in_ok-answer.ensures.ok first followed)

pub returns-clause-books : goal.returns-clause-books
returns-clause-books g c event between = on-still _ _ _ event c.in_ok-reserve_event.ensures.still (c.follow.ensures.follows (act_of_control c.args.act) event between)

pub answer_to-requires-clause-follows : goal.answer_to-requires-clause-follows
answer_to-requires-clause-follows g c = (c.requires.follows.0, c.requires.follows.1)

pub answer_to-requires-clause-runs : goal.answer_to-requires-clause-runs
answer_to-requires-clause-runs g c = c.requires.runs

pub answer_to-requires-clause-synced : goal.answer_to-requires-clause-synced
answer_to-requires-clause-synced g c = c.requires.synced

pub answer_to-requires-clause-numbers : goal.answer_to-requires-clause-numbers
answer_to-requires-clause-numbers g c = c.requires.numbers

pub returns-clause-ok : goal.returns-clause-ok
returns-clause-ok g c = c.in_ok-answer.ensures.ok

pub follow-requires-clause-room : goal.follow-requires-clause-room
follow-requires-clause-room g c = c.in_ok-reserve_event.ensures.room
