-- Reach is the intersection of the two orders of addresses, and the English order is the serial order.
use Rattle.std.proofs.Common.{◌≡◌, ◌≢◌, ◌⊎◌, ◌↔◌, ◌&&◌, inl, inr, ℕ, Bool, true, false, not, refl, sym, ap, ◌∙◌, subst}
use Rattle.model_strands.specs.Address.{child, next}
use Rattle.law_addresses.specs.Address.{disagree, reaches, parallel, english, hebrew, english_before, hebrew_before, SerialBefore, IsSplit}
use Rattle.law_addresses.proofs.Orders.{english-ranks, hebrew-ranks, before-total}
use Rattle.law_addresses.proofs.Relations.{is_prefix-decides, reaches-decides, parallel-orders, serial-decides, reaches-both}
use Rattle.law_addresses.proofs.Extensions.{reaches-side, split-parts}
use Rattle.std.proofs.lemmas.Bool.{false_from_ne_true}
use Rattle.model_strands.specs.History.{History}
use Rattle.model_strands.specs.Strands.{Begun}
use Rattle.model_strands.specs.Legal.{Legal}
use Rattle.model_strands.specs.Dag.{Reaches, IsParallel}
use Rattle.model_strands.specs.Addresses.{address}
use Rattle.law_strands.specs.Addresses.{IsEnglishBefore}
use Rattle.model_strands.specs.SerialOrder.{IsSeriallyBefore}
use Rattle.law_strands.specs.Laws.{OrdersLaw, SerialLaw, AddressTestsLaw}
use Rattle.law_strands.proofs.Words.{Precedes, ◌▹◌, precedes_english}
use Rattle.law_strands.proofs.Range.{ranges}
use Rattle.law_strands.proofs.Law.{begun_below, reach_precedes, precedes_reach, address_differs}
use Rattle.law_strands.proofs.Splits.{SplitFacts, split_facts, SplitAt, turn_splits}

neither : (test other_test : Bool) → (test ≡ true → ⊥) → (other_test ≡ true → ⊥) → (not test && not other_test) ≡ true
neither true t h k = absurd (h refl)
neither false true h k = absurd (k refl)
neither false false h k = refl

neither_parts : (test other_test : Bool) → (not test && not other_test) ≡ true → (test ≡ true → ⊥) × (other_test ≡ true → ⊥)
neither_parts true t h = cc
neither_parts false true h = cc
neither_parts false false h = (λ e. cc, λ e. cc)

-- strands are parallel exactly where their addresses are
pub parallel_iff : (history : History) → Legal history → (strand other : ℕ) → Begun history strand → Begun history other →
    IsParallel history strand other ↔ (parallel (address history strand) (address history other) ≡ true)
parallel_iff h l u v bu bv = (
  λ p. neither (reaches (address h u) (address h v)) (reaches (address h v) (address h u))
      (λ k. p.0 (precedes_reach h l u v bu bv k)) (λ k. p.1 (precedes_reach h l v u bv bu k)),
  λ p. let t = neither_parts (reaches (address h u) (address h v)) (reaches (address h v) (address h u)) p in
      (λ r. t.0 (reach_precedes h l u v r), λ r. t.1 (reach_precedes h l v u r)),
)

pub address_tests_law : AddressTestsLaw
address_tests_law h l u v bu bv = ((reach_precedes h l u v, precedes_reach h l u v bu bv), parallel_iff h l u v bu bv)

opposite-cases : (early late e' f' : Bool) → e' ≡ not early → f' ≡ not late →
    (disagree early late ≡ true) ↔ (((early ≡ true) × (f' ≡ true)) ⊎ ((e' ≡ true) × (late ≡ true)))
opposite-cases true true e' f' p q = (λ h. cc, λ h. elim h [ inl k ↦ sym q ∙ k.1 | inr k ↦ sym p ∙ k.0 ])
opposite-cases true false e' f' p q = (λ h. inl (refl, q), λ h. refl)
opposite-cases false true e' f' p q = (λ h. inr (p, refl), λ h. refl)
opposite-cases false false e' f' p q = (λ h. cc, λ h. elim h [ inl k ↦ k.0 | inr k ↦ k.1 ])

pub orders_law : OrdersLaw
orders_law h l u v bu bv ne = (
  (λ r. both.0 (reach_precedes h l u v r), λ t. precedes_reach h l u v bu bv (both.1 t)),
  (
    λ p. cases.0 (sym (parallel-orders (address h u) (address h v)) ∙ (parallel_iff h l u v bu bv).0 p),
    λ t. (parallel_iff h l u v bu bv).1 (parallel-orders (address h u) (address h v) ∙ cases.1 t),
  ),
)
  where
    differ : address h u ≢ address h v
    differ = address_differs h l u v bu bv ne

    both : (reaches (address h u) (address h v) ≡ true) ↔ ((english_before (address h u) (address h v) ≡ true) × (hebrew_before (address h u) (address h v) ≡ true))
    both = reaches-both (address h u) (address h v) differ

    cases : (disagree (english_before (address h u) (address h v)) (hebrew_before (address h u) (address h v)) ≡ true) ↔
        (((english_before (address h u) (address h v) ≡ true) × (hebrew_before (address h v) (address h u) ≡ true)) ⊎
        ((english_before (address h v) (address h u) ≡ true) × (hebrew_before (address h u) (address h v) ≡ true)))
    cases =
        opposite-cases (english_before (address h u) (address h v)) (hebrew_before (address h u) (address h v)) (english_before (address h v) (address h u))
        (hebrew_before (address h v) (address h u)) (before-total english english-ranks (address h u) (address h v) differ)
        (before-total hebrew hebrew-ranks (address h u) (address h v) differ)

pub serial_law : SerialLaw
serial_law h l u v bu bv = (to, λ t. from ((serial-decides (address h u) (address h v)).0 t))
  where
    -- a split of the history parts the addresses
    parts : (strand the_child the_next : ℕ) → SplitFacts h strand the_child the_next → Reaches h the_child u → (Reaches h the_child v → ⊥) →
        Reaches h the_next v → (Reaches h the_next u → ⊥) → IsSplit (address h u) (address h v)
    parts s c n f child_u not_child_v next_v not_next_u = (
      address h s,
      subst (λ z. Precedes z (address h u)) f.child_address (reach_precedes h l c u child_u),
      false_from_ne_true (reaches (address h s ▹ child) (address h v))
          (λ k. not_child_v (precedes_reach h l c v f.child_begun bv (subst (λ z. Precedes z (address h v)) (sym f.child_address) k))),
      subst (λ z. Precedes z (address h v)) f.next_address (reach_precedes h l n v next_v),
      false_from_ne_true (reaches (address h s ▹ next) (address h u))
          (λ k. not_next_u (precedes_reach h l n u f.next_begun bu (subst (λ z. Precedes z (address h u)) (sym f.next_address) k))),
    )

    to : IsSeriallyBefore h u v → IsEnglishBefore h u v
    to (inl t) = precedes_english (address h u) (address h v) (address_differs h l u v bu bv t.1) (reach_precedes h l u v t.0)
    to (inr (s, c, n, k, cu, ncv, nv, nnu)) =
        (serial-decides (address h u) (address h v)).1
        (inr ((split-parts (address h u) (address h v)).0 (parts s c n (split_facts l s c n k) cu ncv nv nnu)))

    -- and where addresses part, the history has a split
    turn : IsSplit (address h u) (address h v) → IsSeriallyBefore h u v
    turn (q, child_u, not_child_v, next_v, not_next_u) = at_split
        (turn_splits l u (begun_below h (ranges l) u bu) q child
        ((is_prefix-decides (q ▹ child) (address h u)).0 (reaches-side child refl q (address h u) child_u not_next_u)))
      where
        at_split : SplitAt h q → IsSeriallyBefore h u v
        at_split t =
            let f = split_facts l t.spawner t.the_child t.the_next t.splits in
            let at_child : address h t.the_child ≡ q ▹ child = f.child_address ∙ ap (λ z. z ▹ child) t.spawner_address in
            let at_next : address h t.the_next ≡ q ▹ next = f.next_address ∙ ap (λ z. z ▹ next) t.spawner_address in
            inr (
              t.spawner,
              t.the_child,
              t.the_next,
              t.splits,
              precedes_reach h l t.the_child u f.child_begun bu (subst (λ z. Precedes z (address h u)) (sym at_child) child_u),
              (λ r. let k = subst (λ z. Precedes z (address h v)) at_child (reach_precedes h l t.the_child v r) in cc),
              precedes_reach h l t.the_next v f.next_begun bv (subst (λ z. Precedes z (address h v)) (sym at_next) next_v),
              (λ r. let k = subst (λ z. Precedes z (address h u)) at_next (reach_precedes h l t.the_next u r) in cc),
            )

    from : SerialBefore (address h u) (address h v) → IsSeriallyBefore h u v
    from (inl t) = inl (precedes_reach h l u v bu bv ((reaches-decides (address h u) (address h v)).1 t.0), λ e. t.1 (ap (address h) e))
    from (inr t) = turn ((split-parts (address h u) (address h v)).1 t)
