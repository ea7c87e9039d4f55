use Rattle.race_gate.proofs.step.answer_to.Goals as goal

pub spawn-requires-clause-numbers : goal.spawn-requires-clause-numbers
spawn-requires-clause-numbers g c = c.requires.numbers

pub ret-requires-clause-synced : goal.ret-requires-clause-synced
ret-requires-clause-synced g c = c.requires.synced c.in-Return.is

pub returns-in-Spawn-clause-ok : goal.returns-in-Spawn-clause-ok
returns-in-Spawn-clause-ok g c = rw c.in-Spawn.is c.spawn.ensures.ok

pub returns-in-Sync-clause-ok : goal.returns-in-Sync-clause-ok
returns-in-Sync-clause-ok g c = rw c.in-Sync.is c.sync.ensures

pub returns-in-Call-clause-ok : goal.returns-in-Call-clause-ok
returns-in-Call-clause-ok g c = rw c.in-Call.is c.call.ensures.ok

pub returns-in-Return-clause-ok : goal.returns-in-Return-clause-ok
returns-in-Return-clause-ok g c = rw c.in-Return.is c.ret.ensures
