-- The spawns and calls of a history.
use Rattle.std.specs.Prelude.{◌≡◌, ℕ, suc, List, [], ◌∷◌, ◌++◌, length, map, Option, Some, None}
use Rattle.model_strands.specs.History.{Event, split, call}
use Rattle.model_histories.specs.declared.answer.Entry.{Entry}
use Rattle.model_histories.specs.Entries.{Entries, event_of}
use Rattle.race_pairs.specs.declared.kept.Opener.{Opener}
use Rattle.race_pairs.specs.declared.kept.Frame.{Frame}
use Rattle.race_pairs.specs.Makers.{HasNumber}

-- the opener that an event with this number is, where it is one
abbrev pub opener_of : Option Event → ℕ → List Opener
opener_of (Some (split strand child next join first)) number =
    record { number = number; strand = strand; spawned = Some (record { child = child; next = next; join = join; first = first }) } ∷ []
opener_of (Some (call strand)) number = record { number = number; strand = strand; spawned = None } ∷ []
opener_of event number = []

-- the openers of the entries, the oldest first
abbrev pub openers : Entries → List Opener
openers [] = []
openers (entry ∷ entries) = openers entries ++ opener_of (event_of entry) (suc (length entries))

-- the entry with this number is this opener
abbrev pub IsOpener : Entries → ℕ → Opener → Type 0
IsOpener entries number opener = (entry : Entry) × HasNumber entries number entry × (opener_of (event_of entry) number ≡ opener ∷ [])

-- the entry with this number, where there is one, is no opener
abbrev pub IsNoOpener : Entries → ℕ → Type 0
IsNoOpener entries number = (entry : Entry) → HasNumber entries number entry → opener_of (event_of entry) number ≡ []

-- the frames are those of the entries' openers
abbrev pub AreOpeners : Entries → List Frame → Type 0
AreOpeners entries opened = map (λ frame. frame.opener) opened ≡ openers entries
