-- Where a strand's view of a reducer begins: a child goes on with its spawner's view and a join with its opener's, and a continuation
-- begins anew.
use Rattle.std.specs.Prelude.{Bool, true, false, not, ◌&&◌, List, [], ◌∷◌, filter}
use Rattle.model_strands.specs.Address.{Word, next, Address}
use Rattle.law_addresses.specs.Address.{english_before}

-- no word leads to a continuation
abbrev pub is_without_next : Address → Bool
is_without_next [] = true
is_without_next (next ∷ a) = false
is_without_next (word ∷ a) = is_without_next a

-- a first word with what is left of the words behind it: a child or a join goes where nothing is left behind it
abbrev pub root_before : Word → Address → Address
root_before word (other ∷ a) = word ∷ (other ∷ a)
root_before next [] = next ∷ []
root_before word [] = []

-- the address up to its last continuation, where the strand's view begins
abbrev pub view_root : Address → Address
view_root [] = []
view_root (word ∷ a) = root_before word (view_root a)

-- a strand is from first to last in the serial order, both included
abbrev pub is_within : Address → Address → Address → Bool
is_within first last strand = not (english_before strand first) && not (english_before last strand)

-- those of some items that are from first to last
abbrev pub between : {X : Type 0} → (X → Address) → List X → Address → Address → List X
between address items first last = filter (λ item. is_within first last (address item)) items

-- those that a strand's view holds: from where it begins to the strand
abbrev pub in_view : {X : Type 0} → (X → Address) → List X → Address → List X
in_view address items strand = between address items (view_root strand) strand
