use Rattle.race_gate.proofs.reducers.ReducerTracks.answer.Goals as goal

pub update-requires-clause-in_range : goal.update-requires-clause-in_range
update-requires-clause-in_range g c = rw c.in-Update.is at c.requires.in_range

pub update-requires-clause-room : goal.update-requires-clause-room
update-requires-clause-room g c = rw c.in-Update.is at c.requires.room

pub put-requires-clause-in_range : goal.put-requires-clause-in_range
put-requires-clause-in_range g c = rw c.in-Put.is at c.requires.in_range

pub put-requires-clause-room : goal.put-requires-clause-room
put-requires-clause-room g c = rw c.in-Put.is at c.requires.room

pub get-requires-clause-in_range : goal.get-requires-clause-in_range
get-requires-clause-in_range g c = rw c.in-Get.is at c.requires.in_range

pub returns-in-Update : goal.returns-in-Update
returns-in-Update g c = rw c.in-Update.is (c.update.ensures c.args.number)

pub returns-in-Put : goal.returns-in-Put
returns-in-Put g c = rw c.in-Put.is c.put.ensures

pub returns-in-Get : goal.returns-in-Get
returns-in-Get g c = rw c.in-Get.is c.get.ensures
