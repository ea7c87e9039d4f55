-- At which places those stand that are told so.
use Rattle.std.specs.Prelude.{ℕ, suc, ◌≡◌, Bool, Option, Some, None, List, [], ◌∷◌, cond}
use Rattle.std.specs.Option.{option_map}
use Rattle.std.specs.Ordering.{nat_cmp, ordering_then, is_eq}
use Rattle.std.specs.declared.cmp.Ordering.{Ordering}
use Rattle.std.specs.Cmp.Lexicographic.{slice_cmp}
use Rattle.std.specs.BTreeMap.{BTreeMap, get}
use Rattle.race_explanations.specs.declared.finding.Finding.{Finding}
use Rattle.race_explanations.specs.declared.finding.Told.{Told}

-- the place of the first one that is as wanted
abbrev pub place_of : {One Wanted : Type 0} → (is_as : One → Wanted → Bool) → List One → Wanted → Option ℕ
place_of is_as [] wanted = None
place_of is_as (one ∷ others) wanted = cond (is_as one wanted) (Some 0) (option_map suc (place_of is_as others wanted))

-- what a finding is told as
abbrev pub told_of : Finding → Told
told_of finding = record { kind = finding.kind; body = finding.body; sure_help = finding.sure_help }

abbrev pub told_cmp : Told → Told → Ordering
told_cmp one other =
    ordering_then (slice_cmp nat_cmp one.kind.items other.kind.items)
    (ordering_then (slice_cmp nat_cmp one.body.items other.body.items) (slice_cmp nat_cmp one.sure_help.items other.sure_help.items))

abbrev pub is_same : Told → Told → Bool
is_same one other = is_eq (told_cmp one other)

-- It has the texts of the finding.
pub record IsToldAs (finding : Finding) (told : Told) : Type 0 where
  pub kind_is : told.kind.items ≡ finding.kind.items
  pub body_is : told.body.items ≡ finding.body.items
  pub sure_is : told.sure_help.items ≡ finding.sure_help.items

-- The map has the place of the first one that is told so.
abbrev pub ArePlacesOf : List Told → BTreeMap Told ℕ → Type 0
ArePlacesOf all places = (told : Told) → get told_cmp places told ≡ place_of is_same all told
