-- Addresses decide reach.
use Rattle.std.proofs.Common.{◌≡◌, ◌≢◌, ◌⊎◌, inl, inr, ℕ, ◌<◌, ◌≤◌, [], ◌∷◌, Some, refl, sym, ◌∙◌}
use Rattle.model_strands.specs.History.{History}
use Rattle.model_strands.specs.Strands.{Status, absent, reserved, running, over, status, Begun, unused}
use Rattle.model_strands.specs.Legal.{Legal}
use Rattle.model_strands.specs.Dag.{Forks, Arrives, Edge, Path, stay, step, Reaches}
use Rattle.model_strands.specs.Addresses.{address}
use Rattle.law_strands.specs.Laws.{AddressLaw}
use Rattle.law_addresses.proofs.Blocks.{prefix-reaches}
use Rattle.law_addresses.proofs.Relations.{reaches-self, reaches-transitive, reaches-decides}
use Rattle.law_strands.proofs.Words.{Precedes, diverges_precedes}
use Rattle.law_strands.proofs.Places.{place, join_of, below_or_beyond, Ranges, running_not_reserved, over_not_reserved}
use Rattle.law_strands.proofs.Range.{ranges}
use Rattle.law_strands.proofs.Holders.{Open, holders, join_reserved, reserved_open}
use Rattle.law_strands.proofs.Addresses.{addresses}
use Rattle.law_strands.proofs.Fates.{fates}
use Rattle.law_strands.proofs.Leads.{Link, leads}

pub begun_below : (history : History) → Ranges history → (strand : ℕ) → Begun history strand → strand < unused history
begun_below h r x b = go (below_or_beyond x (unused h)) b
  where
    go : (x < unused h) ⊎ (unused h ≤ x) → Begun h x → x < unused h
    go (inl t) b = t
    go (inr t) (inl e) = absurd (let g : absent ≡ running = sym (r.absent_beyond x t) ∙ e in cc)
    go (inr t) (inr e) = absurd (let g : absent ≡ over = sym (r.absent_beyond x t) ∙ e in cc)

edge_precedes : (history : History) → Legal history → (strand other : ℕ) → Edge history strand other →
    Precedes (address history strand) (address history other)
edge_precedes h l u v (inl g) = let t = (fates l).below u v g in prefix-reaches (address h u) (address h v) (t.0 ∷ [], t.1)
edge_precedes h l u v (inr g) =
    let t = (fates l).arrived u v g.0 in
    diverges_precedes (address h u) (address h v) ((addresses l).inside u v t.0 t.1)

pub reach_precedes : (history : History) → Legal history → (strand other : ℕ) → Reaches history strand other →
    Precedes (address history strand) (address history other)
reach_precedes h l u v stay = reaches-self (address h u)
reach_precedes h l u v (step {between = m} e p) =
    reaches-transitive (address h u) (address h m) (address h v) (edge_precedes h l u m e) (reach_precedes h l m v p)

-- from a reserved join the links lead to reserved joins alone
reserved_leads : (history : History) → Legal history → {u v : ℕ} → Path (Link history) u v → status history u ≡ reserved → status history v ≡ reserved
reserved_leads h l stay e = e
reserved_leads h l (step {strand = u} {between = w} k p) e = reserved_leads h l p (go k)
  where
    go : Link h u w → status h w ≡ reserved
    go (inl g) = absurd (over_not_reserved ((fates l).forked u w g).0 e)
    go (inr g) = join_reserved h (place h u) w ((holders l).live u (reserved_open h u e)) g.1

pub begun_not_reserved : (history : History) (strand : ℕ) → Begun history strand → status history strand ≡ reserved → ⊥
begun_not_reserved h x (inl e) g = running_not_reserved e g
begun_not_reserved h x (inr e) g = over_not_reserved e g

begun_or_reserved : (history : History) (strand : ℕ) → (status history strand ≡ absent → ⊥) → Begun history strand ⊎ (status history strand ≡ reserved)
begun_or_reserved h x ne = go (status h x) refl
  where
    go : (before : Status) → status h x ≡ before → Begun h x ⊎ (status h x ≡ reserved)
    go absent e = absurd (ne e)
    go reserved e = inr e
    go running e = inl (inl e)
    go over e = inl (inr e)

pub leads_reach : (history : History) → Legal history → (strand other : ℕ) → strand < unused history → Begun history other →
    Path (Link history) strand other → Reaches history strand other
leads_reach h l u v lu b stay = stay
leads_reach h l u v lu b (step {between = m} (inl g) p) = step (inl g) (leads_reach h l m v ((fates l).forked u m g).2 b p)
leads_reach h l u v lu b (step {between = m} (inr g) p) = go (leads_reach h l m v lm b p) ((fates l).fate u lu) begun
  where
    lm : m < unused h
    lm = (ranges l).join_below u m g.1

    begun : Begun h m
    begun = elim (begun_or_reserved h m ((fates l).known m lm)) [ inl t ↦ t | inr t ↦ absurd (begun_not_reserved h v b (reserved_leads h l p t)) ]

    go : Reaches h m v →
        Open h u ⊎ ((strand : ℕ) × Forks h u strand) ⊎ ((other_join : ℕ) → join_of (place h u) ≡ Some other_join → Arrives h u other_join) → Begun h m →
        Reaches h u v
    go q (inl op) bm = absurd (begun_not_reserved h m bm (join_reserved h (place h u) m ((holders l).live u op) g.1))
    go q (inr (inl t)) bm = absurd (g.0 t.0 t.1)
    go q (inr (inr t)) bm = step (inr (t m g.1, bm)) q

pub precedes_reach : (history : History) → Legal history → (strand other : ℕ) → Begun history strand → Begun history other →
    Precedes (address history strand) (address history other) → Reaches history strand other
precedes_reach h l u v bu bv k =
    let lu = begun_below h (ranges l) u bu in
    leads_reach h l u v lu bv ((leads l).leads u v lu (begun_below h (ranges l) v bv) k)

-- different begun strands have different addresses
pub address_differs : (history : History) → Legal history → (strand other : ℕ) → Begun history strand → Begun history other → strand ≢ other →
    address history strand ≢ address history other
address_differs h l u v bu bv ne e = ne ((addresses l).distinct u v (begun_below h (ranges l) u bu) (begun_below h (ranges l) v bv) e)

pub address_law : AddressLaw
address_law h l u v bu bv ne = (
  address_differs h l u v bu bv ne,
  (
    λ p. (reaches-decides (address h u) (address h v)).0 (reach_precedes h l u v p),
    λ t. precedes_reach h l u v bu bv ((reaches-decides (address h u) (address h v)).1 t),
  ),
)
