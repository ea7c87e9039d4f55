use Rattle.std.proofs.Common.{◌≡◌, ◌<◌, ◌+◌, length, inl, inr, refl, sym, subst}
use Rattle.model_strands.specs.History.{joined, ended_joined}
use Rattle.branch_names.specs.Names.{Takes, TakesJoin}
use Rattle.reducer_views.specs.Held.{split_of}
use Rattle.race_gate.specs.Books.{Books}
use Rattle.race_gate.proofs.Answered.{split-event, joined-event, ended_joined-event, calm-event}
use Rattle.race_gate.proofs.Answering.{split-next, next-takes, split-there, join-takes, join-there, keeps_on-calm, keeps_on-event}
use Rattle.race_gate.proofs.reducers.ReducerTracks.follow.Goals as goal

pub spawned-requires-clause-takes : goal.spawned-requires-clause-takes
spawned-requires-clause-takes g c =
    let next = split-next c.args.self.now c.args.strand c.args.answer c.in-Split.spawned c.in-Split.is c.requires.takes in
    subst (λ (books : Books). Takes books.branches (split_of c.args.strand c.in-Split.spawned)) (sym c.self.view_is)
    (next-takes c.args.self.now (split_of c.args.strand c.in-Split.spawned) next)

pub spawned-requires-in-Split-clause-there : goal.spawned-requires-in-Split-clause-there
spawned-requires-in-Split-clause-there g c =
    let next = split-next c.args.self.now c.args.strand c.args.answer c.in-Split.spawned c.in-Split.is c.requires.takes in
    subst (λ (books : Books). c.args.strand < length books.views.strands) (sym c.self.view_is) (split-there c.args.self.now c.args.strand c.in-Split.spawned next).0

pub spawned-requires-in-Split-clause-newest : goal.spawned-requires-in-Split-clause-newest
spawned-requires-in-Split-clause-newest g c =
    let next = split-next c.args.self.now c.args.strand c.args.answer c.in-Split.spawned c.in-Split.is c.requires.takes in
    subst (λ (books : Books). c.in-Split.spawned.next ≡ length books.views.strands + 1) (sym c.self.view_is) (split-there c.args.self.now c.args.strand c.in-Split.spawned next).1

pub joined-requires-clause-takes : goal.joined-requires-clause-takes
joined-requires-clause-takes g c =
    subst (λ (books : Books). TakesJoin books.branches c.in-Joined.join) (sym c.self.view_is)
    (join-takes c.args.self.now c.args.strand c.args.answer c.in-Joined.join c.in-Joined.is c.requires.takes)

pub joined-requires-in-Joined-clause-there : goal.joined-requires-in-Joined-clause-there
joined-requires-in-Joined-clause-there g c =
    subst (λ (books : Books). c.in-Joined.join < length books.views.strands) (sym c.self.view_is)
    (join-there c.args.self.now c.args.strand c.args.answer c.in-Joined.join c.in-Joined.is c.requires.takes)

pub returns-in-Split : goal.returns-in-Split
returns-in-Split g c = record {
  follows = λ act event between.
      keeps_on-event _ _ _ _ c.self.view_is _ _ (split_of c.args.strand c.in-Split.spawned) event
      (split-event c.args.strand act c.in-Split.spawned event (rw (sym c.in-Split.is) between)) c.spawned.ensures.follows c.spawned-in-Split.ensures.monoids
      c.spawned-in-Split.ensures.follows;
}

pub returns-in_default : goal.returns-in_default
returns-in_default g c = record {
  follows = λ act event between.
      keeps_on-calm c.args.self.now event
      (calm-event c.args.strand act c.args.answer event c.in_default.not-Split c.in_default.not-Joined c.in_default.not-EndedJoined between);
}

pub returns-in-Joined : goal.returns-in-Joined
returns-in-Joined g c = record {
  follows = λ act event between. elim c.in-Joined.is [
    | inl is ↦
        keeps_on-event _ _ _ _ c.self.view_is _ _ (joined c.args.strand c.in-Joined.join) event
        (joined-event c.args.strand act c.in-Joined.join event (rw (sym is) between)) (c.joined.ensures.follows (joined c.args.strand c.in-Joined.join) refl)
        c.joined-in-Joined.ensures.monoids (λ steps legal holds allowed. c.joined-in-Joined.ensures.at_sync steps legal holds c.args.strand allowed)
    | inr is ↦
        keeps_on-event _ _ _ _ c.self.view_is _ _ (ended_joined c.args.strand c.in-Joined.join) event
        (ended_joined-event c.args.strand act c.in-Joined.join event (rw (sym is) between))
        (c.joined.ensures.follows (ended_joined c.args.strand c.in-Joined.join) refl) c.joined-in-Joined.ensures.monoids
        (λ steps legal holds allowed. c.joined-in-Joined.ensures.at_return steps legal holds c.args.strand allowed)
  ];
}
