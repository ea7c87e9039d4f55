-- The first so many items; and what is told of an item at a place, where there is one.
use Rattle.std.proofs.Common.{◌≡◌, ℕ, min, ◌<◌, ◌≤◌, List, [], length, take, get_or, Option, Some, None, slice_get, refl, sym, ap, ◌∙◌, arith}
use Rattle.std.proofs.lemmas.List.{take_min}
use Rattle.std.proofs.lemmas.Option.{slice_get_past, slice_get_read}
use Rattle.text_buffers.specs.Builders.{Adds}
use Rattle.text_buffers.proofs.Builders.{these, none_adds}

pub first_of_all : {X : Type 0} (pairs : List X) (most : ℕ) → take (min (length pairs) most) pairs ≡ take most pairs
first_of_all pairs most =
    let on : min (length pairs) most ≡ min most (length pairs) = omega arith in
    ap (λ k. take k pairs) on ∙ take_min most pairs

pub told_there : {X : Type 0} (tell : Option X → List ℕ) (items : List X) (place : ℕ) (one : X) (old new : Option (List ℕ)) → place < length items →
    one ≡ get_or items place one → Adds old (tell (Some one)) new → Adds old (tell (slice_get items place)) new
told_there tell items place one old new below at adds =
    these old new (tell (Some one)) (tell (slice_get items place)) adds
    (ap tell (sym (slice_get_read items (length items) place one refl below at)))

pub told_past : {X : Type 0} (tell : Option X → List ℕ) (items : List X) (place : ℕ) (old : Option (List ℕ)) → length items ≤ place →
    tell None ≡ [] → Adds old (tell (slice_get items place)) old
told_past tell items place old beyond none =
    these old old [] (tell (slice_get items place)) (none_adds old) (sym (ap tell (slice_get_past items place beyond) ∙ none))
