-- What is done behind an address decides whether a cell has a race.
use Rattle.std.proofs.Common.{◌≡◌, ◌≢◌, ◌⊎◌, ◌↔◌, inl, inr, ℕ, true, ◌++◌, refl, sym, ◌∙◌, subst, subst₂}
use Rattle.model_accesses.specs.declared.kind.Kind.{Kind}
use Rattle.model_strands.specs.Address.{Address}
use Rattle.model_strands.specs.Addresses.{address}
use Rattle.law_addresses.specs.Address.{parallel}
use Rattle.law_addresses.proofs.Extensions.{parallel-append}
use Rattle.law_strands.proofs.Orders.{parallel_iff}
use Rattle.law_strands.proofs.Updates.{same_or_not}
use Rattle.model_histories.specs.Entries.{Entries}
use Rattle.law_traces.specs.Locations.{HasRefusal}
use Rattle.law_traces.specs.Sets.{AccessesAt, Covers}
use Rattle.law_traces.specs.Moves.{AreCoveredBehind, IsOfOneLeftOut}
use Rattle.law_traces.specs.Omissions.{IsOfOther}
use Rattle.law_traces.specs.Laws.{MovedStrandsLaw, MovedLocationLaw, MovedCoveringLaw, StandInLaw}
use Rattle.law_traces.proofs.Sets.{covers_self, race_carried, set_law}
use Rattle.law_traces.proofs.Omissions.{one_access, leaves_more, other_locations_law}

-- addresses behind one are parallel as they are behind another
behind_parallel : (front other_front a b : Address) → parallel (front ++ a) (front ++ b) ≡ parallel (other_front ++ a) (other_front ++ b)
behind_parallel f g a b = parallel-append f a b ∙ sym (parallel-append g a b)

pub moved_strands_law : MovedStrandsLaw
moved_strands_law h i lh li f g a b s u bs bu s' u' bs' bu' at_s at_u at_s' at_u' = (
  (λ p. (parallel_iff i li s' u' bs' bu').1 (sym same ∙ (parallel_iff h lh s u bs bu).0 p)),
  (λ p. (parallel_iff h lh s u bs bu).1 (same ∙ (parallel_iff i li s' u' bs' bu').0 p)),
)
  where
    same : parallel (address h s) (address h u) ≡ parallel (address i s') (address i u')
    same = subst₂ (λ v w. parallel v w ≡ parallel (address i s') (address i u')) (sym at_s) (sym at_u)
        (subst₂ (λ v w. parallel (f ++ a) (f ++ b) ≡ parallel v w) (sym at_s') (sym at_u') (behind_parallel f g a b))

-- the address behind the one, and the same behind the other
abbrev Behind : Address → Address → Address → Address → Type 0
Behind front other_front at to = (rest : Address) × (at ≡ front ++ rest) × (to ≡ other_front ++ rest)

keeps_parallel : (front other_front at other to other_to : Address) → Behind front other_front at to → Behind front other_front other other_to →
    parallel at other ≡ true → parallel to other_to ≡ true
keeps_parallel f g a b a' b' (r, is, to) (q, other_is, other_to) p =
    subst₂ (λ v w. parallel v w ≡ true) (sym to) (sym other_to)
    (behind_parallel g f r q ∙ subst₂ (λ v w. parallel v w ≡ true) is other_is p)

covered : (entries : Entries) (front : Address) (cell : ℕ) (others : Entries) (other_front : Address) (other_cell : ℕ) →
    AreCoveredBehind entries front cell others other_front other_cell → (at : Address) (kind : Kind) → AccessesAt entries at kind cell →
    (to : Address) × (covering : Kind) × Behind front other_front at to × Covers covering kind × AccessesAt others to covering other_cell
covered H f c G g d behind a k x = let (r, m, is, covers, y) = behind a k x in (g ++ r, m, (r, is, refl), covers, y)

pub moved_covering_law : MovedCoveringLaw
moved_covering_law shape other_shape H G j i f g c d forth back = (
  (λ r. (set_law other_shape G i d).1 (race_carried H G c d (Behind f g) (covered H f c G g d forth) (keeps_parallel f g) ((set_law shape H j c).0 r))),
  (λ r. (set_law shape H j c).1 (race_carried G H d c (Behind g f) (covered G g d H f c back) (keeps_parallel g f) ((set_law other_shape G i d).0 r))),
)

pub moved_location_law : MovedLocationLaw
moved_location_law shape other_shape H G j i f g c d moved = moved_covering_law shape other_shape H G j i f g c d forth back
  where
    forth : AreCoveredBehind H f c G g d
    forth a k x =
        let (r, is) = moved.below a k x in
        (r, k, is, covers_self k, (moved.same r k).0 (subst (λ z. AccessesAt H z k c) is x))

    back : AreCoveredBehind G g d H f c
    back a k x =
        let (r, is) = moved.other_below a k x in
        (r, k, is, covers_self k, (moved.same r k).1 (subst (λ z. AccessesAt G z k d) is x))

pub stand_in_law : StandInLaw
stand_in_law shape kept_shape H G j i stand_in once like leaves c = go (same_or_not (stand_in c) c)
  where
    -- a cell that stands for itself keeps its accesses
    stays : (cell : ℕ) → stand_in cell ≡ cell → HasRefusal H cell ↔ HasRefusal G cell
    stays d stands =
        other_locations_law shape kept_shape H G j i d
        (leaves_more (IsOfOneLeftOut stand_in) (IsOfOther d)
        (λ request of_one m q. of_one.3 (subst (λ z. stand_in z ≡ z) (one_access q of_one.2).1 stands)) leaves)

    go : (stand_in c ≡ c) ⊎ (stand_in c ≢ c) → HasRefusal H c ↔ HasRefusal G (stand_in c)
    go (inl is) = subst (λ z. HasRefusal H c ↔ HasRefusal G z) (sym is) (stays c is)
    go (inr differs) =
        let (f, g, moved) = like c differs in
        let one = moved_location_law shape shape H H j j f g c (stand_in c) moved in
        let two = stays (stand_in c) (once c) in
        ((λ r. two.0 (one.0 r)), (λ r. one.1 (two.1 r)))
