-- What the entries are to the reducers.
use Rattle.std.specs.Prelude.{ℕ, suc, List, [], ◌∷◌, ◌++◌, length, Option, Some, None}
use Rattle.std.specs.Option.{option_to_list}
use Rattle.model_accesses.specs.declared.kind.Kind.TheVariants as kind
use Rattle.model_accesses.specs.declared.request.Act.{Act}
use Rattle.model_accesses.specs.declared.request.Act.TheVariants.{Update, Put, Get}
use Rattle.model_strands.specs.History.{Event}
use Rattle.model_reducers.specs.Steps.{Step, control, update, put, other, Steps}
use Rattle.model_accesses.specs.Reads.{ReducerRead}
use Rattle.model_histories.specs.declared.answer.Answer.{Answer}
use Rattle.model_histories.specs.declared.answer.Answer.TheVariants.{Granted, Value}
use Rattle.model_histories.specs.declared.answer.Entry.{Entry}
use Rattle.model_histories.specs.Entries.{Entries, event_of}

-- a control event, or a granted update or put, or else an access that leaves the views of all reducers as they are
abbrev pub step_with : Option Event → ℕ → Act → Answer → Step
step_with (Some event) strand act answer = control event
step_with None strand (Update reducer value) Granted = update strand reducer value
step_with None strand (Put reducer value) Granted = put strand reducer value
step_with None strand act answer = other strand

abbrev pub step_of : Entry → Step
step_of entry = step_with (event_of entry) entry.request.strand entry.request.act entry.answer

-- one step for each entry, so that a step has its entry's number
abbrev pub steps_of : Entries → Steps
steps_of [] = []
steps_of (entry ∷ entries) = step_of entry ∷ steps_of entries

-- the granted put or get that an entry with this number is, where it is one
abbrev pub read_at : ℕ → ℕ → Act → Answer → Option ReducerRead
read_at number strand (Put reducer value) Granted = Some (record { reducer = reducer; kind = kind.Put; strand = strand; entry = number })
read_at number strand (Get reducer) (Value value) = Some (record { reducer = reducer; kind = kind.Get; strand = strand; entry = number })
read_at number strand act answer = None

-- the granted puts and gets, the oldest first
abbrev pub granted_reads : Entries → List ReducerRead
granted_reads [] = []
granted_reads (entry ∷ entries) =
    granted_reads entries ++ option_to_list (read_at (suc (length entries)) entry.request.strand entry.request.act entry.answer)
