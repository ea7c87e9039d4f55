-- The log of a strand: the entries whose combination is the strand's view.
use Rattle.std.specs.Prelude.{ℕ, suc, List, [], ◌∷◌, ◌++◌, length, flat_map}
use Rattle.model_strands.specs.Updated.{updated}
use Rattle.model_strands.specs.History.{Event, split, joined, ended_joined, History}
use Rattle.law_strands.specs.Gatherings.{gathered}
use Rattle.model_reducers.specs.Items.{control, update, put, other, Items, control_events}
use Rattle.model_reducers.specs.Entries.{Entry, update_entry, put_entry}

-- the logs after an event: a child begins with its spawner's, a next with none, a join with those that it gathers, one after another
abbrev pub logs_after : History → Event → (ℕ → List Entry) → ℕ → List Entry
logs_after history (split strand child next join first) logs = updated (updated logs child (logs strand)) next []
logs_after history (joined strand join) logs = updated logs join (flat_map logs (gathered (joined strand join ∷ history) join))
logs_after history (ended_joined strand join) logs = updated logs join (flat_map logs (gathered (ended_joined strand join ∷ history) join))
logs_after history _ logs = logs

-- an update comes last in its strand's log, and a put leaves only itself
abbrev pub log : Items → ℕ → List Entry
log [] = λ strand. []
log (control event ∷ items) = logs_after (control_events items) event (log items)
log (update strand value ∷ items) = updated (log items) strand (log items strand ++ (update_entry (suc (length items)) strand value ∷ []))
log (put strand value ∷ items) = updated (log items) strand (put_entry (suc (length items)) strand value ∷ [])
log (other strand ∷ items) = log items
