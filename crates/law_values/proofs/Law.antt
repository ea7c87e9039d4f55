-- At a granted get the strand's log is the last put and then the updates that count.
use Rattle.std.proofs.Common.{◌≡◌, ◌⊎◌, inl, inr, ℕ, ◌<◌, List, [], ◌∷◌, AllPairs, Contains, IsTrue, refl, sym, ap, subst, arith}
use Rattle.law_addresses.specs.Address.{english_before, IsPrefix, branch as branch_of_address}
use Rattle.law_addresses.proofs.Sorted.{pairs-head, pairs-tail}
use Rattle.model_strands.specs.History.{History}
use Rattle.model_strands.specs.Strands.{Begun}
use Rattle.model_strands.specs.Legal.{Legal}
use Rattle.model_strands.specs.Dag.{stay, Reaches}
use Rattle.model_strands.specs.Addresses.{address}
use Rattle.law_strands.specs.Views.{Covers, IsSink}
use Rattle.law_strands.proofs.Members.{Present, contains_present, pairs_alike, present_all}
use Rattle.law_strands.proofs.Words.{Precedes, branch_prefix, english_irreflexive, english_asymmetric}
use Rattle.law_strands.proofs.Law.{precedes_reach}
use Rattle.law_strands.proofs.Orders.{serial_law}
use Rattle.law_strands.proofs.Branches.{branch_address_law}
use Rattle.law_strands.proofs.Sinks.{sink_end, running_sink}
use Rattle.law_strands.proofs.Views.{reach_english, view_law}
use Rattle.model_reducers.specs.Items.{control_events}
use Rattle.law_values.specs.Items.{AreLegalItems}
use Rattle.model_reducers.specs.Entries.{Entry, entry_number, strand_of, AreInSerialOrder}
use Rattle.law_values.specs.Logs.{log}
use Rattle.model_reducers.specs.GetValues.{Counts, AreCounted}
use Rattle.law_values.specs.Laws.{LogLaw, CountedLaw}
use Rattle.law_values.proofs.Lists.{same_members}
use Rattle.law_values.proofs.Steps.{legal_control, covered, update_begun, put_begun, member_begun}
use Rattle.law_values.proofs.Sorted.{IsEarlier, sorted}
use Rattle.law_values.proofs.Since.{IsSince, keeps}
use Rattle.law_values.proofs.Anchor.{below_branch, holds_only}

-- a sorted list begins with a member that none is before
headed : {X : Type 0} (R : X → X → Type 0) → ((u v : X) → R u v → R v u → ⊥) → (p : X) (xs : List X) → AllPairs R xs → Present p xs →
    ((u : X) → Present u xs → (u ≡ p) ⊎ R p u) → (ys : List X) × (xs ≡ p ∷ ys)
headed R asymmetric p [] k i least = absurd i
headed R asymmetric p (x ∷ xs) k (inl e) least = (xs, ap (λ z. z ∷ xs) e)
headed R asymmetric p (x ∷ xs) k (inr i) least = elim (least x (inl refl)) [
  | inl e ↦ absurd (let r : R p p = subst (λ z. R z p) e (present_all (R x) xs (pairs-head R x xs k) p i) in asymmetric p p r r)
  | inr r ↦ absurd (asymmetric p x r (present_all (R x) xs (pairs-head R x xs k) p i))
]

earlier_asymmetric : (h : History) (u v : Entry) → IsEarlier h u v → IsEarlier h v u → ⊥
earlier_asymmetric h u v (inl a) (inl b) = english_asymmetric (address h (strand_of u)) (address h (strand_of v)) a b
earlier_asymmetric h u v (inl a) (inr b) =
    english_irreflexive (address h (strand_of u)) (subst (λ y. IsTrue (english_before (address h (strand_of u)) (address h y))) b.0 a)
earlier_asymmetric h u v (inr a) (inl b) =
    english_irreflexive (address h (strand_of v)) (subst (λ y. IsTrue (english_before (address h (strand_of v)) (address h y))) a.0 b)
earlier_asymmetric h u v (inr a) (inr b) = let x : entry_number u < entry_number v = a.1 in let y : entry_number v < entry_number u = b.1 in omega arith

-- the serial order of entries by begun strands is that of the addresses
earlier_serial : (h : History) → Legal h → (u v : Entry) → Begun h (strand_of u) → Begun h (strand_of v) → IsEarlier h u v → AreInSerialOrder h u v
earlier_serial h l u v bu bv (inl a) = inl ((serial_law h l (strand_of u) (strand_of v) bu bv).1 a)
earlier_serial h l u v bu bv (inr a) = inr a

serial_earlier : (h : History) → Legal h → (u v : Entry) → Begun h (strand_of u) → Begun h (strand_of v) → AreInSerialOrder h u v → IsEarlier h u v
serial_earlier h l u v bu bv (inl a) = inl ((serial_law h l (strand_of u) (strand_of v) bu bv).0 a)
serial_earlier h l u v bu bv (inr a) = inr a

pub log_law : LogLaw
log_law h s p g = (head.0, (tail_sorted, (λ u. (to u, from u))), head.1)
  where
    l : AreLegalItems h
    l = g.legal

    c : History
    c = control_events h

    lc : Legal c
    lc = legal_control h l

    bp : Begun c (strand_of p)
    bp = put_begun h l p g.last.0

    bs : Begun c s
    bs = inl g.runs

    sink : IsSink c s
    sink = running_sink c lc s g.runs

    prefix : IsPrefix (branch_of_address (address c (strand_of p))) (address c s)
    prefix = subst (λ y. IsPrefix y (address c s)) (sym ((branch_address_law c lc (strand_of p) s bp bs).0 g.same_branch)) (branch_prefix (address c s))

    before : Precedes (address c (strand_of p)) (address c s)
    before = elim (below_branch (address c (strand_of p)) (address c s) prefix) [
      | inl q ↦ q
      | inr q ↦ (let e : s ≡ strand_of p = sink_end c s (strand_of p) sink (precedes_reach c lc s (strand_of p) bs bp q) in
          subst (λ y. Precedes (address c y) (address c s)) e (subst (λ y. Precedes (address c s) (address c y)) (sym e) q))
    ]

    reach : Reaches c (strand_of p) s
    reach = precedes_reach c lc (strand_of p) s bp bs before

    viewed : (x : ℕ) → Reaches c (strand_of p) x → Reaches c x s → Covers c s x
    viewed x a b = (view_law c lc).whole (strand_of p) x s bp sink g.same_branch a b

    has_put : Present p (log h s)
    has_put = keeps h l p g.last s p bs (inl refl) (viewed (strand_of p) stay reach)

    only : (u : Entry) → Present u (log h s) → IsSince h p u × Precedes (address c (strand_of p)) (address c (strand_of u))
    only u i = holds_only h l p g.last s u bs (before, prefix) i

    reached : (u : Entry) → Present u (log h s) → Reaches c (strand_of p) (strand_of u)
    reached u i = precedes_reach c lc (strand_of p) (strand_of u) bp (member_begun h l s u i) (only u i).1

    least : (u : Entry) → Present u (log h s) → (u ≡ p) ⊎ IsEarlier c p u
    least u i = elim (only u i).0 [
      | inl e ↦ inl e
      | inr k ↦ inr (elim (reach_english c lc (strand_of p) (strand_of u) bp (member_begun h l s u i) (reached u i)) [ inl e ↦ inr (e, k.1) | inr a ↦ inl a ])
    ]

    head : (us : List Entry) × (log h s ≡ p ∷ us)
    head = headed (IsEarlier c) (earlier_asymmetric c) p (log h s) (sorted h l s bs) has_put least

    all_sorted : AllPairs (IsEarlier c) (p ∷ head.0)
    all_sorted = subst (AllPairs (IsEarlier c)) head.1 (sorted h l s bs)

    in_log : (u : Entry) → Present u head.0 → Present u (log h s)
    in_log u i = subst (Present u) (sym head.1) (inr i)

    tail_sorted : AllPairs (AreInSerialOrder c) head.0
    tail_sorted =
        pairs_alike (IsEarlier c) (AreInSerialOrder c) head.0
        (λ u v i k a. earlier_serial c lc u v (member_begun h l s u (in_log u i)) (member_begun h l s v (in_log v k)) a)
        (pairs-tail (IsEarlier c) p head.0 all_sorted)

    counts : (u : Entry) → Present u head.0 → Counts h p s u
    counts u i = elim (only u (in_log u i)).0 [
      | inl e ↦ absurd (let r : IsEarlier c p p = subst (IsEarlier c p) e (present_all (IsEarlier c p) head.0 (pairs-head (IsEarlier c) p head.0 all_sorted) u i) in
          earlier_asymmetric c p p r r)
      | inr k ↦ (k.0, k.1, reached u (in_log u i), ((view_law c lc).within s (strand_of u) bs (covered h l s u bs (in_log u i))).1)
    ]

    to : (u : Entry) → Contains head.0 u → Counts h p s u
    to u i = counts u ((contains_present u head.0).0 i)

    from : (u : Entry) → Counts h p s u → Contains head.0 u
    from u k = (contains_present u head.0).1 (in_tail (subst (Present u) head.1 (keeps h l p g.last s u bs (inr (k.0, k.1)) (viewed (strand_of u) k.2 k.3))))
      where
        in_tail : Present u (p ∷ head.0) → Present u head.0
        in_tail (inl e) = absurd (let m : entry_number p ≡ entry_number u = ap entry_number e in let n : entry_number p < entry_number u = k.1 in omega arith)
        in_tail (inr i) = i

pub counted_law : CountedLaw
counted_law h l s p us vs a b =
    same_members (IsEarlier (control_events h)) us vs (λ u v i k. earlier_asymmetric (control_events h) u v) (ordered us a) (ordered vs b)
    (λ u. ((λ i. there us vs a b u i), (λ i. there vs us b a u i)))
  where
    begun : (xs : List Entry) → AreCounted h p s xs → (u : Entry) → Present u xs → Begun (control_events h) (strand_of u)
    begun xs c u i = update_begun h l u ((c.1 u).0 ((contains_present u xs).1 i)).0

    ordered : (xs : List Entry) → AreCounted h p s xs → AllPairs (IsEarlier (control_events h)) xs
    ordered xs c =
        pairs_alike (AreInSerialOrder (control_events h)) (IsEarlier (control_events h)) xs
        (λ u v i k r. serial_earlier (control_events h) (legal_control h l) u v (begun xs c u i) (begun xs c v k) r) c.0

    there : (xs ys : List Entry) → AreCounted h p s xs → AreCounted h p s ys → (u : Entry) → Present u xs → Present u ys
    there xs ys c d u i = (contains_present u ys).0 ((d.1 u).1 ((c.1 u).0 ((contains_present u xs).1 i)))
