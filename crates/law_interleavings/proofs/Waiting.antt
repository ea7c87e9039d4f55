-- Below each join that is waited for some strand runs, so whatever reaches a begun strand is over.
use Rattle.std.proofs.Common.{◌≡◌, inl, inr, ℕ, zero, suc, ◌+◌, ◌<◌, ◌≤◌, true, Some, refl, ap, ◌∙◌, subst, arith}
use Rattle.law_addresses.specs.Address.{reaches}
use Rattle.law_addresses.proofs.Relations.{reaches-self, reaches-decides, reaches-transitive, reaches-antisymmetric}
use Rattle.model_strands.specs.History.{History}
use Rattle.model_strands.specs.Strands.{Status, absent, reserved, running, over, status, Running, Begun, unused}
use Rattle.model_strands.specs.Legal.{Legal}
use Rattle.model_strands.specs.Addresses.{address}
use Rattle.law_strands.proofs.Updates.{same_or_not}
use Rattle.law_strands.proofs.Places.{Place, continuation, child_of, join_of, below_or_beyond}
use Rattle.law_strands.proofs.Range.{ranges}
use Rattle.law_strands.proofs.Holders.{Open, not_open, absent_not_open, reserved_open}
use Rattle.law_strands.proofs.Addresses.{addresses}
use Rattle.law_strands.proofs.Busy.{Held, busy}
use Rattle.law_strands.proofs.Law.{begun_below}
use Rattle.law_strands.proofs.Sinks.{running_address_law}
use Rattle.law_interleavings.specs.Fronts.{IsActive}

-- a running strand that reaches the number
record Runner (history : History) (wanted : ℕ) : Type 0 where
  strand : ℕ
  runs : Running history strand
  leads : reaches (address history strand) (address history wanted) ≡ true

open_below : (h : History) → Legal h → (x : ℕ) → Open h x → x < unused h
open_below h l x op = elim (below_or_beyond x (unused h)) [ inl q ↦ q | inr q ↦ absurd (absent_not_open ((ranges l).absent_beyond x q) op) ]

runner_step : (h : History) → Legal h → (x : ℕ) → Open h x → ((y : ℕ) → x < y → Open h y → Runner h y) → Runner h x
runner_step h l x op again = go (status h x) refl
  where
    deeper : (held : Place) → join_of held ≡ Some x → Held h held → Runner h x
    deeper p jp t = next_one (status h t.0) refl
      where
        leads_on : reaches (address h t.0) (address h x) ≡ true
        leads_on = (reaches-decides (address h t.0) (address h x)).1 (inr ((addresses l).inside t.0 x (open_below h l t.0 t.1) (ap join_of t.2 ∙ jp)))

        next_one : (q : Status) → status h t.0 ≡ q → Runner h x
        next_one absent g = absurd (absent_not_open g t.1)
        next_one over g = absurd (not_open g t.1)
        next_one running g = record { strand = t.0; runs = g; leads = leads_on }
        next_one reserved g =
            let r = again t.0 ((busy l).younger t.0 x g (ap join_of t.2 ∙ jp)) t.1 in
            record { strand = r.strand; runs = r.runs; leads = reaches-transitive (address h r.strand) (address h t.0) (address h x) r.leads leads_on }

    go : (q : Status) → status h x ≡ q → Runner h x
    go absent e = absurd (absent_not_open e op)
    go over e = absurd (not_open e op)
    go running e = record { strand = x; runs = e; leads = reaches-self (address h x) }
    go reserved e = elim ((busy l).continues x e) [
      | inl g ↦ (let t = (busy l).for_someone x e g in deeper (child_of x t.0) refl ((busy l).child_held t.0 x t.1))
      | inr t ↦ deeper (continuation x) refl t
    ]

runner_by : (h : History) → Legal h → (fuel x : ℕ) → Open h x → unused h ≤ x + fuel → Runner h x
runner_by h l zero x op le = absurd (absent_not_open ((ranges l).absent_beyond x (omega arith)) op)
runner_by h l (suc fuel) x op le = runner_step h l x op (λ y lt oy. runner_by h l fuel y oy (omega arith))

runner : (h : History) → Legal h → (x : ℕ) → Open h x → Runner h x
runner h l x op = runner_by h l (unused h) x op (omega arith)

-- a running strand reaches no other begun one
pub running_reaches : (h : History) → Legal h → (strand other : ℕ) → Running h strand → Begun h other →
    reaches (address h strand) (address h other) ≡ true → strand ≡ other
running_reaches h l u v run b t = elim (same_or_not u v) [
  | inl e ↦ e
  | inr ne ↦ absurd (let f = running_address_law h l u v run b ne in cc)
]

-- who goes on for a frame reaches no other begun strand
pub active_reaches : (h : History) → Legal h → (strand other : ℕ) → IsActive h strand → Begun h other →
    reaches (address h strand) (address h other) ≡ true → strand ≡ other
active_reaches h l u v (inl run) b t = running_reaches h l u v run b t
active_reaches h l u v (inr (res, waited)) b t =
    let r = runner h l u (reserved_open h u res) in
    let e : r.strand ≡ v = running_reaches h l r.strand v r.runs b (reaches-transitive (address h r.strand) (address h u) (address h v) r.leads t) in
    let back : reaches (address h v) (address h u) ≡ true = subst (λ z. reaches (address h z) (address h u) ≡ true) e r.leads in
    let same : address h u ≡ address h v = reaches-antisymmetric (address h u) (address h v) t back in
    (addresses l).distinct u v (open_below h l u (reserved_open h u res)) (begun_below h (ranges l) v b) same
