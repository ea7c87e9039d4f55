-- One line, before which a sync orders each race of a group.
use Rattle.std.specs.Prelude.{ℕ, ◌≡◌, List, reverse, Option, Some, None, IfSome, slice_get}
use Rattle.std.specs.Option.{option_map}
use Rattle.std.specs.List.{All}
use Rattle.model_histories.specs.declared.answer.Entry.{Entry}
use Rattle.race_pairs.specs.declared.lineage.Parting.{Parting}
use Rattle.race_pairs.specs.Syncs.{IsPlaceToSync}
use Rattle.race_explanations.specs.declared.case.Case.{Case}
use Rattle.race_explanations.specs.Settings.{Setting}
use Rattle.race_explanations.specs.Groups.{first_among, courses_of}

-- On this line stands an entry in place of which a sync orders two strands that part there.
abbrev pub HasPlaceOnLine : List Entry → (line : ℕ) → Parting → Type 0
HasPlaceOnLine entries line parting =
    (number : ℕ) × (place : IsPlaceToSync (reverse entries) parting number) × (place.entry.request.line ≡ line)

-- the same of the race at a place, where its two strands part
abbrev pub IsOrderedOnLine : List Entry → (line : ℕ) → List Case → (place : ℕ) → Type 0
IsOrderedOnLine entries line cases place =
    IfSome (slice_get cases place) (λ case. IfSome case.encounter.parting (HasPlaceOnLine entries line))

-- the line before which a sync is told to order the races at these places
abbrev pub sync_line : Setting → List Case → (places : List ℕ) → Option ℕ
sync_line setting cases places = option_map (λ first. first.line) (first_among None (courses_of setting cases places))

-- each of them has an entry on that line where a sync orders it
abbrev pub OneSyncOrders : Setting → List Entry → List Case → (places : List ℕ) → Type 0
OneSyncOrders setting entries cases places =
    (line : ℕ) × (sync_line setting cases places ≡ Some line) × All (IsOrderedOnLine entries line cases) places
