-- The addresses and kinds of its accesses decide whether a cell has a race.
use Rattle.std.proofs.Common.{◌≡◌, ◌↔◌, ℕ, true, refl, sym, subst, subst₂}
use Rattle.model_accesses.specs.declared.kind.Kind.{Kind}
use Rattle.model_accesses.specs.declared.kind.Rule.TheVariants.{Race}
use Rattle.model_accesses.specs.Table.{rule_between}
use Rattle.model_strands.specs.Address.{Address}
use Rattle.model_strands.specs.History.{History}
use Rattle.model_strands.specs.Strands.{Begun}
use Rattle.model_strands.specs.Legal.{Legal}
use Rattle.model_strands.specs.Addresses.{address}
use Rattle.law_addresses.specs.Address.{parallel}
use Rattle.law_strands.proofs.Orders.{parallel_iff}
use Rattle.model_histories.specs.Entries.{Entries, control_part}
use Rattle.model_histories.specs.Shapes.{Shape}
use Rattle.model_histories.specs.Legal.{IsLegal}
use Rattle.model_races.specs.Judged.{IsJudged}
use Rattle.law_traces.specs.Locations.{Accesses, HasRefusal, HasRaceAt}
use Rattle.law_traces.specs.Sets.{AccessesAt, HasRaceBetween, Covers, AreCovered}
use Rattle.law_traces.specs.Laws.{SetLaw, CoveringLaw}
use Rattle.law_traces.proofs.Histories.{legal_part, extends_self, begun_by}
use Rattle.law_traces.proofs.Locations.{race_back, location_law}

-- who accesses a cell has begun
pub accessing_begun : (shape : Shape) (entries : Entries) → IsLegal shape entries → (strand : ℕ) (kind : Kind) (cell : ℕ) → Accesses entries strand kind cell →
    Begun (control_part entries) strand
accessing_begun shape H l s k c (one, h, at, q) = subst (Begun (control_part H)) at (begun_by shape H l one h)

-- the verdict is that of the dag at hand
pub location_here : (shape : Shape) (entries : Entries) → IsJudged shape entries → (cell : ℕ) → HasRefusal entries cell ↔ HasRaceAt (control_part entries) entries cell
location_here shape H j c = location_law shape H j (control_part H) (extends_self (control_part H)) (legal_part shape H j.legal) c

pub set_law : SetLaw
set_law shape H j c = ((λ r. to ((location_here shape H j c).0 r)), (λ r. (location_here shape H j c).1 (from r)))
  where
    legal : Legal (control_part H)
    legal = legal_part shape H j.legal

    to : HasRaceAt (control_part H) H c → HasRaceBetween H c
    to (s, u, k, m, x, y, rule, p) = (
      address (control_part H) s,
      address (control_part H) u,
      k,
      m,
      (s, refl, x),
      (u, refl, y),
      rule,
      (parallel_iff (control_part H) legal s u (accessing_begun shape H j.legal s k c x) (accessing_begun shape H j.legal u m c y)).0 p,
    )

    from : HasRaceBetween H c → HasRaceAt (control_part H) H c
    from (a, b, k, m, (s, at, x), (u, other_at, y), rule, p) = (
      s,
      u,
      k,
      m,
      x,
      y,
      rule,
      (parallel_iff (control_part H) legal s u (accessing_begun shape H j.legal s k c x) (accessing_begun shape H j.legal u m c y)).1
          (subst₂ (λ v w. parallel v w ≡ true) (sym at) (sym other_at) p),
    )

-- two kinds that cover two others race where these do
pub covered_race : (kind other covering other_covering : Kind) → Covers covering kind → Covers other_covering other → rule_between kind other ≡ Race →
    rule_between covering other_covering ≡ Race
covered_race k m k' m' first second rule = race_back m' k' (second k' (race_back k' m (first m rule)))

pub covers_self : (kind : Kind) → Covers kind kind
covers_self k third race = race

-- a race goes along with accesses that cover those of the cell, at addresses that are parallel where the first ones are
pub race_carried : (entries others : Entries) (cell other_cell : ℕ) (Carried : Address → Address → Type 0) →
    ((at : Address) (kind : Kind) → AccessesAt entries at kind cell →
    (to : Address) × (covering : Kind) × Carried at to × Covers covering kind × AccessesAt others to covering other_cell) →
    ((at other to other_to : Address) → Carried at to → Carried other other_to → parallel at other ≡ true → parallel to other_to ≡ true) →
    HasRaceBetween entries cell → HasRaceBetween others other_cell
race_carried H G c d Carried covered keeps (a, b, k, m, x, y, rule, p) =
    let (a', k', carried, covers, x') = covered a k x in
    let (b', m', other_carried, other_covers, y') = covered b m y in
    (a', b', k', m', x', y', covered_race k m k' m' covers other_covers rule, keeps a b a' b' carried other_carried p)

same_parallel : (at other to other_to : Address) → to ≡ at → other_to ≡ other → parallel at other ≡ true → parallel to other_to ≡ true
same_parallel a b a' b' e g p = subst₂ (λ v w. parallel v w ≡ true) (sym e) (sym g) p

pub covering_law : CoveringLaw
covering_law shape other_shape H G j i c d forth back = (
  (λ r. (set_law other_shape G i d).1 (race_carried H G c d (λ at to. to ≡ at) (carried H c G d forth) same_parallel ((set_law shape H j c).0 r))),
  (λ r. (set_law shape H j c).1 (race_carried G H d c (λ at to. to ≡ at) (carried G d H c back) same_parallel ((set_law other_shape G i d).0 r))),
)
  where
    carried : (entries : Entries) (cell : ℕ) (others : Entries) (other_cell : ℕ) → AreCovered entries cell others other_cell → (at : Address) (kind : Kind) →
        AccessesAt entries at kind cell → (to : Address) × (covering : Kind) × (to ≡ at) × Covers covering kind × AccessesAt others to covering other_cell
    carried H c G d covered a k x = let (k', covers, x') = covered a k x in (a, k', refl, covers, x')

-- in one dag a race goes along with accesses by the same strands that cover those of the cell
pub race_covered : (dag : History) (entries others : Entries) (cell other_cell : ℕ) →
    ((strand : ℕ) (kind : Kind) → Accesses entries strand kind cell → (covering : Kind) × Covers covering kind × Accesses others strand covering other_cell) →
    HasRaceAt dag entries cell → HasRaceAt dag others other_cell
race_covered dag H G c d covered (s, u, k, m, x, y, rule, p) =
    let (k', covers, x') = covered s k x in
    let (m', other_covers, y') = covered u m y in
    (s, u, k', m', x', y', covered_race k m k' m' covers other_covers rule, p)
