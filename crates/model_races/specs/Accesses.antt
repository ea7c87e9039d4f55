-- The accesses of memory that were granted.
use Rattle.std.specs.Prelude.{ℕ, suc, List, [], ◌∷◌, ◌++◌, length, Option, Some, None, option_and_then, Bool, true, false, if◌then◌else◌}
use Rattle.std.specs.Option.{option_map, option_to_list}
use Rattle.model_accesses.specs.Table.{is_memory_kind}
use Rattle.model_accesses.specs.declared.request.Act.{Act}
use Rattle.model_accesses.specs.declared.asked.Asked.{Asked}
use Rattle.model_accesses.specs.Asking.{access_asked}
use Rattle.model_accesses.specs.Accesses.{Access}
use Rattle.model_races.specs.declared.access.CellAccess.{CellAccess}
use Rattle.model_histories.specs.declared.answer.Answer.{Answer}
use Rattle.model_histories.specs.declared.answer.Answer.TheVariants.{Granted, Value}
use Rattle.model_histories.specs.declared.answer.Entry.{Entry}
use Rattle.model_histories.specs.Entries.{Entries}

-- the access of a cell that an access is, where it is one
abbrev pub in_cell : Asked → Option CellAccess
in_cell asked = if is_memory_kind asked.kind then Some (record { kind = asked.kind; location = asked.place }) else None

-- what access of a cell an act is, where it is one
abbrev pub cell_access : Act → Option CellAccess
cell_access act = option_and_then in_cell (access_asked act)

-- an access with this answer was done
abbrev pub is_granted : Answer → Bool
is_granted Granted = true
is_granted (Value value) = true
is_granted answer = false

-- the granted access of a cell that an entry with this number is, where it is one
abbrev pub access_at : ℕ → Entry → Option Access
access_at number entry =
    if is_granted entry.answer
    then option_map (λ access. record { strand = entry.request.strand; kind = access.kind; location = access.location; entry = number })
    (cell_access entry.request.act)
    else None

-- the granted accesses of cells, the oldest first
abbrev pub granted : Entries → List Access
granted [] = []
granted (entry ∷ entries) = granted entries ++ option_to_list (access_at (suc (length entries)) entry)
