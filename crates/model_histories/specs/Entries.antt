-- The entries of a history, and the control history that they hold.
use Rattle.std.specs.Prelude.{ℕ, List, [], ◌∷◌, Option, Some, None}
use Rattle.model_accesses.specs.declared.request.Act.{Act}
use Rattle.model_accesses.specs.declared.request.Act.TheVariants.{Spawn, Sync, Call, Return}
use Rattle.model_strands.specs.History.{Event, split, same, joined, waits, call, resumed, ended, ended_joined, finished, History}
use Rattle.model_histories.specs.declared.answer.Answer.{Answer}
use Rattle.model_histories.specs.declared.answer.Answer.TheVariants.{Split, Same, Joined, Waits, Resumed, Ended, EndedJoined, Finished}
use Rattle.model_histories.specs.declared.answer.Entry.{Entry}

-- The entries so far, the newest first. An entry's number is its place from 1 on, the oldest first.
abbrev pub Entries : Type 0
Entries = List Entry

-- the control event that an act and its answer are, where they are one
abbrev pub event_between : ℕ → Act → Answer → Option Event
event_between strand Spawn (Split spawned) = Some (split strand spawned.child spawned.next spawned.join spawned.first)
event_between strand Sync Same = Some (same strand)
event_between strand Sync (Joined join) = Some (joined strand join)
event_between strand Sync Waits = Some (waits strand)
event_between strand Call Same = Some (call strand)
event_between strand Return Resumed = Some (resumed strand)
event_between strand Return Ended = Some (ended strand)
event_between strand Return (EndedJoined join) = Some (ended_joined strand join)
event_between strand Return Finished = Some (finished strand)
event_between strand act answer = None

abbrev pub event_of : Entry → Option Event
event_of entry = event_between entry.request.strand entry.request.act entry.answer

-- the history with one more event, where there is one
abbrev pub with_event : Option Event → History → History
with_event (Some event) history = event ∷ history
with_event None history = history

-- the control events of the entries
abbrev pub control_part : Entries → History
control_part [] = []
control_part (entry ∷ entries) = with_event (event_of entry) (control_part entries)
