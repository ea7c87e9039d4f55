-- Which strands are in a function that was called or spawned, and the address of its first strand.
use Rattle.std.specs.Prelude.{◌≡◌, ℕ, suc, Bool, true, false, not, ◌||◌, ◌&&◌, ◌==◌, if◌then◌else◌, IsTrue, [], ◌∷◌, length, Some}
use Rattle.model_accesses.specs.declared.kind.Kind.{Kind}
use Rattle.model_strands.specs.Updated.{updated}
use Rattle.model_strands.specs.Address.{Address, child, extended}
use Rattle.model_strands.specs.Addresses.{address}
use Rattle.model_strands.specs.History.{split, call, resumed, History}
use Rattle.model_strands.specs.Blocks.{Stack, called, stack}
use Rattle.model_histories.specs.Entries.{Entries, control_part}
use Rattle.model_races.specs.Accesses.{cell_access}
use Rattle.law_traces.specs.Locations.{access_of}

-- a return from there is one from the function that this call began
abbrev pub returns_from : ℕ → Stack → Bool
returns_from function (called number below) = number == function
returns_from function stack = false

-- the strand is in the function that the event of this number called or spawned, or in one that was called or spawned from there
abbrev pub is_inside : History → ℕ → ℕ → Bool
is_inside [] function = λ strand. false
is_inside (split strand the_child the_next the_join true ∷ history) function =
    updated
    (updated (updated (is_inside history function) the_child (is_inside history function strand || (function == suc (length history)))) the_next
    (is_inside history function strand))
    the_join (is_inside history function strand)
is_inside (split strand the_child the_next the_join false ∷ history) function =
    updated (updated (is_inside history function) the_child (is_inside history function strand || (function == suc (length history)))) the_next
    (is_inside history function strand)
is_inside (call strand ∷ history) function =
    updated (is_inside history function) strand (is_inside history function strand || (function == suc (length history)))
is_inside (resumed strand ∷ history) function =
    updated (is_inside history function) strand (is_inside history function strand && not (returns_from function (stack history strand)))
is_inside (_ ∷ history) function = is_inside history function

-- the address of the strand that called the function, or of the first strand of the spawned one
abbrev pub begins_at : History → ℕ → Address
begins_at [] function = []
begins_at (split strand the_child the_next the_join first ∷ history) function =
    if function == suc (length history) then extended (address history strand) child else begins_at history function
begins_at (call strand ∷ history) function = if function == suc (length history) then address history strand else begins_at history function
begins_at (_ ∷ history) function = begins_at history function

-- each access of the cell is asked for in the function, or in one that was called or spawned from there
abbrev pub IsAskedInside : Entries → ℕ → ℕ → Type 0
IsAskedInside [] function cell = Unit {0}
IsAskedInside (entry ∷ entries) function cell =
    ((kind : Kind) → cell_access entry.request.act ≡ Some (access_of kind cell) →
    IsTrue (is_inside (control_part entries) function entry.request.strand)) ×
    IsAskedInside entries function cell
