-- Where the index of names stores a name: in one of two slots, or where both have another, in a tree.
use Rattle.std.specs.Prelude.{◌≡◌, ◌≢◌, ℕ, ◌+◌, ◌-◌, ◌/◌, ◌^◌, ◌<◌, ◌⊎◌, Option, Some, List, length, slice_get, slice_index, bit_and}
use Rattle.std.specs.List.{position_from}
use Rattle.std.specs.Str.{bytes_eq}
use Rattle.std.specs.Ordering.{nat_cmp}
use Rattle.std.specs.Cmp.Lexicographic.{slice_cmp}
use Rattle.std.specs.Hash.FoldHasher.{initial, write, finish}
use Rattle.std.specs.BTreeMap.{BTreeMap, get_by}
use denote.Ref.{Bor}
use Rattle.text_words.specs.declared.name_index.Seen.{Seen}
use Rattle.text_words.specs.declared.name_index.Seen.TheVariants.{Free, Same, Other}

-- The number of a name among these, from 0 on.
abbrev pub name_number : List (List ℕ) → List ℕ → Option ℕ
name_number names name = position_from (bytes_eq name) 0 names

abbrev pub hash_of : List ℕ → ℕ
hash_of name = finish (write initial name)

-- Which of so many slots that hash means.
abbrev pub slot_of : ℕ → ℕ → ℕ
slot_of count hash = bit_and hash (count - 1)

-- The two slots of a name, of so many.
unfoldable pub first_slot : ℕ → List ℕ → ℕ
first_slot count name = slot_of count (hash_of name)

unfoldable pub second_slot : ℕ → List ℕ → ℕ
second_slot count name = slot_of count (hash_of name / 2 ^ 32)

-- The number of a name in the tree.
abbrev pub overflow_at : BTreeMap (Bor (List ℕ)) ℕ → List ℕ → Option ℕ
overflow_at overflow name = get_by (λ (key : Bor (List ℕ)). slice_cmp nat_cmp name key.now) overflow

-- A slot has 0, or the number of a name and one more. It has this name, or another.
abbrev pub HasName : List ℕ → ℕ → ℕ → Type 0
HasName slots slot number = slice_index slots slot ≡ number + 1

abbrev pub IsTaken : List ℕ → ℕ → Type 0
IsTaken slots slot = slice_index slots slot ≢ 0

-- The name is stored under its number.
abbrev pub IsStored : List ℕ → BTreeMap (Bor (List ℕ)) ℕ → List ℕ → ℕ → Type 0
IsStored slots overflow name number =
    HasName slots (first_slot (length slots) name) number
    ⊎ (IsTaken slots (first_slot (length slots) name)
    × (HasName slots (second_slot (length slots) name) number
    ⊎ (IsTaken slots (second_slot (length slots) name) × (overflow_at overflow name ≡ Some number))))

-- Each name stands once, so its place is its number.
abbrev pub AreNumbered : List (List ℕ) → Type 0
AreNumbered names = (name : List ℕ) (number : ℕ) → slice_get names number ≡ Some name → name_number names name ≡ Some number

-- The tree has numbers of these names alone.
abbrev pub IsOverflow : List (List ℕ) → BTreeMap (Bor (List ℕ)) ℕ → Type 0
IsOverflow names overflow = (name : List ℕ) (number : ℕ) → overflow_at overflow name ≡ Some number → name_number names name ≡ Some number

-- Each of the first so many names is stored.
abbrev pub AreStored : ℕ → List (List ℕ) → List ℕ → BTreeMap (Bor (List ℕ)) ℕ → Type 0
AreStored count names slots overflow = (name : List ℕ) (number : ℕ) → number < count → slice_get names number ≡ Some name → IsStored slots overflow name number

pub record IsNameIndex (names : List (List ℕ)) (slots : List ℕ) (overflow : BTreeMap (Bor (List ℕ)) ℕ) : Type 0 where
  pub numbered : AreNumbered names
  pub stored : AreStored (length names) names slots overflow
  pub in_overflow : IsOverflow names overflow

-- A slot that was taken has what it had.
abbrev pub KeepsTaken : List ℕ → List ℕ → Type 0
KeepsTaken old new = (slot : ℕ) → IsTaken old slot → slice_index new slot ≡ slice_index old slot

-- At each other name the tree is as it was, and at this one too, or it has this number there.
abbrev pub AddsAt : BTreeMap (Bor (List ℕ)) ℕ → BTreeMap (Bor (List ℕ)) ℕ → List ℕ → ℕ → Type 0
AddsAt old new name number = (other : List ℕ) → (overflow_at new other ≡ overflow_at old other) ⊎ ((other ≡ name) × (overflow_at new other ≡ Some number))

-- What the tree had it still has.
abbrev pub KeepsOverflow : BTreeMap (Bor (List ℕ)) ℕ → BTreeMap (Bor (List ℕ)) ℕ → Type 0
KeepsOverflow old new = (name : List ℕ) (number : ℕ) → overflow_at old name ≡ Some number → overflow_at new name ≡ Some number

-- What is found in a slot where this name is looked for.
abbrev pub IsSeen : List (List ℕ) → List ℕ → ℕ → List ℕ → Seen → Type 0
IsSeen names slots slot name Free = slice_index slots slot ≡ 0
IsSeen names slots slot name (Same number) = (slice_get names number ≡ Some name) × HasName slots slot number
IsSeen names slots slot name Other = IsTaken slots slot × ((number : ℕ) → slice_get names number ≡ Some name → HasName slots slot number → ⊥)
