-- Groups of findings with one finding more, and by which numbers they are found.
use Rattle.std.specs.Prelude.{ℕ, zero, suc, ◌≡◌, Bool, false, Option, Some, None, List, [], ◌∷◌, ◌++◌, cond}
use Rattle.std.specs.Str.{bytes_eq}
use Rattle.std.specs.Ordering.{nat_cmp}
use Rattle.std.specs.Cmp.Lexicographic.{slice_cmp}
use Rattle.std.specs.BTreeMap.{BTreeMap, get_by}
use denote.Ref.{Bor}
use Rattle.race_explanations.specs.declared.lead.Lead.{Lead}
use Rattle.race_explanations.specs.declared.finding.Finding.{Finding}
use Rattle.race_explanations.specs.ToldPlaces.{place_of}
use Rattle.race_explanations.specs.FoundGroups.{lead_at, are_of_one_spawn}

-- the group with a number, with one member more
abbrev pub with_member : List (List ℕ) → (number place : ℕ) → List (List ℕ)
with_member [] number place = []
with_member (group ∷ groups) zero place = (group ++ place ∷ []) ∷ groups
with_member (group ∷ groups) (suc number) place = group ∷ with_member groups number place

-- the first of a group parts at the same spawn as the finding at a place
abbrev pub is_of_spawn : List Finding → List ℕ → ℕ → Bool
is_of_spawn findings [] place = false
is_of_spawn findings (first ∷ group) place = are_of_one_spawn findings first place

-- one finding more: in the first group of the same spawn, or as a group behind all
abbrev pub with_place : List Finding → List (List ℕ) → (place : ℕ) → List (List ℕ)
with_place findings [] place = (place ∷ []) ∷ []
with_place findings (group ∷ groups) place =
    cond (is_of_spawn findings group place) ((group ++ place ∷ []) ∷ groups) (group ∷ with_place findings groups place)

abbrev pub is_told_so : Option Lead → List ℕ → Bool
is_told_so (Some lead) spawn = bytes_eq lead.spawn.items spawn
is_told_so None spawn = false

-- the first of a group parts at a spawn that is told so
abbrev pub parts_at : List Finding → List ℕ → List ℕ → Bool
parts_at findings [] spawn = false
parts_at findings (first ∷ group) spawn = is_told_so (lead_at findings first) spawn

abbrev pub number_at : BTreeMap (Bor (List ℕ)) ℕ → List ℕ → Option ℕ
number_at numbers spawn = get_by (λ (key : Bor (List ℕ)). slice_cmp nat_cmp spawn key.now) numbers

-- The map has the number of the first group whose findings part at the spawn that is told so.
abbrev pub AreNumbersOf : List Finding → List (List ℕ) → BTreeMap (Bor (List ℕ)) ℕ → Type 0
AreNumbersOf findings groups numbers = (spawn : List ℕ) → number_at numbers spawn ≡ place_of (parts_at findings) groups spawn
