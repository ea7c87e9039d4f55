-- The addresses of a legal history: different for different strands, and nothing lies below an open one.
use Rattle.std.proofs.Common.{◌≡◌, ◌≢◌, ◌⊎◌, inl, inr, ℕ, ◌<◌, ◌≤◌, Bool, true, false, ◌∷◌, Some, refl, sym, ap, ◌∙◌, subst, subst₂, arith}
use Rattle.model_strands.specs.Address.{Word, child, next, join}
use Rattle.law_addresses.specs.Address.{is_fork, IsPrefix}
use Rattle.model_strands.specs.Updated.{updated}
use Rattle.model_strands.specs.History.{Event, split, same, joined, waits, call, resumed, ended, ended_joined, finished, History}
use Rattle.model_strands.specs.Strands.{absent, reserved, running, unused}
use Rattle.model_strands.specs.Legal.{Allowed, Legal, start, then}
use Rattle.model_strands.specs.Addresses.{address}
use Rattle.law_strands.proofs.Updates.{updated_case}
use Rattle.law_strands.proofs.Words.{Diverges, diverges_extend, diverges_join, not_prefix_shorter, prefix_longer, prefix_of_longer, prefix_refl, prefix_siblings, ◌▹◌}
use Rattle.law_strands.proofs.Places.{continuation, place, join_of, below_or_beyond, Ranges, Seen, at_child, at_next, at_join, at_spawner, elsewhere, some_same}
use Rattle.law_strands.proofs.Range.{ranges}
use Rattle.law_strands.proofs.Holders.{IsOpen, Open, Holders, holders, Splitting, splitting, running_open, not_open, absent_not_open}
use Rattle.law_strands.proofs.Calm.{IsCalm, calm_place, calm_address, calm_unused, calm_open}

-- different numbers have different addresses, nothing lies below an open one, and what stands in a block turns off before its join
pub record Addresses (history : History) : Type 0 where
  pub leaf : (holder number : ℕ) → Open history holder → number < unused history → IsPrefix (address history holder) (address history number) → number ≡ holder
  pub distinct : (number other : ℕ) → number < unused history → other < unused history → address history number ≡ address history other → number ≡ other
  pub inside : (number its_join : ℕ) → number < unused history → join_of (place history number) ≡ Some its_join →
      Diverges (address history number) (address history its_join)

-- which strand a split names by the word
abbrev pub by_word : (the_child the_next the_join : ℕ) → Word → ℕ
by_word the_child the_next the_join child = the_child
by_word the_child the_next the_join next = the_next
by_word the_child the_next the_join join = the_join

pub data Named (history : History) (strand the_child the_next the_join : ℕ) (first : Bool) (number : ℕ) : Type 0 where
  named_new : (word : Word) → number ≡ by_word the_child the_next the_join word → (word ≡ join → first ≡ true) →
      address (split strand the_child the_next the_join first ∷ history) number ≡ address history strand ▹ word →
      Named history strand the_child the_next the_join first number
  named_old : number < unused history → address (split strand the_child the_next the_join first ∷ history) number ≡ address history number →
      place (split strand the_child the_next the_join first ∷ history) number ≡ place history number →
      (Open (split strand the_child the_next the_join first ∷ history) number → (number ≢ strand) × Open history number) → Named history strand the_child the_next the_join first number

child_not_join : child ≡ join → ⊥
child_not_join e = cc

next_not_join : next ≡ join → ⊥
next_not_join e = cc

pub named : (history : History) (strand the_child the_next the_join : ℕ) (first : Bool) → Splitting history strand the_child the_next the_join first →
    (one : ℕ) → one < unused (split strand the_child the_next the_join first ∷ history) → Named history strand the_child the_next the_join first one
named h s c n j first w x lt = go (w.numbers.see x)
  where
    go : Seen h s c n j first x → Named h s c n j first x
    go (at_child e a b d) = named_new child e (λ k. absurd (child_not_join k)) d
    go (at_next e a b d) = named_new next e (λ k. absurd (next_not_join k)) d
    go (at_join e lo f a b d) = named_new join e (λ k. f) d
    go (at_spawner e a b d) =
        named_old (omega (arith, e, w.numbers.spawner_known)) (d ∙ ap (address h) (sym e)) (b ∙ ap (place h) (sym e)) (λ o. absurd (not_open a o))
    go (elsewhere ne (inl k) a b d) = named_old k d b (λ o. (ne, subst IsOpen a o))
    go (elsewhere ne (inr k) a b d) = absurd (omega arith)

-- what an old number keeps
pub address_kept : (history : History) (strand the_child the_next the_join : ℕ) (first : Bool) →
    Splitting history strand the_child the_next the_join first → (one : ℕ) → one < unused history →
    address (split strand the_child the_next the_join first ∷ history) one ≡ address history one
address_kept h s c n j first w x lt = go (w.numbers.see x)
  where
    go : Seen h s c n j first x → address (split s c n j first ∷ h) x ≡ address h x
    go (at_child e a b d) = absurd (omega (arith, e, w.numbers.child_is))
    go (at_next e a b d) = absurd (omega (arith, e, w.numbers.next_is))
    go (at_join e lo f a b d) = absurd (omega arith)
    go (at_spawner e a b d) = d ∙ ap (address h) (sym e)
    go (elsewhere ne k a b d) = d

pub place_kept : (history : History) (strand the_child the_next the_join : ℕ) (first : Bool) → Splitting history strand the_child the_next the_join first →
    (one : ℕ) → one < unused history → place (split strand the_child the_next the_join first ∷ history) one ≡ place history one
place_kept h s c n j first w x lt = go (w.numbers.see x)
  where
    go : Seen h s c n j first x → place (split s c n j first ∷ h) x ≡ place h x
    go (at_child e a b d) = absurd (omega (arith, e, w.numbers.child_is))
    go (at_next e a b d) = absurd (omega (arith, e, w.numbers.next_is))
    go (at_join e lo f a b d) = absurd (omega arith)
    go (at_spawner e a b d) = b ∙ ap (place h) (sym e)
    go (elsewhere ne k a b d) = b

-- the child and the continuation turn off before the join
pub side_diverges : (history : History) (strand the_child the_next the_join : ℕ) (first : Bool) → Ranges history → Addresses history →
    Splitting history strand the_child the_next the_join first → (word : Word) → is_fork word ≡ true →
    Diverges (address history strand ▹ word) (address (split strand the_child the_next the_join first ∷ history) the_join)
side_diverges h s c n j first r d w v fork = go w.block_is (w.numbers.see j)
  where
    go : ((first ≡ true) × (unused h ≤ j)) ⊎ ((first ≡ false) × (place h s ≡ continuation j)) → Seen h s c n j first j →
        Diverges (address h s ▹ v) (address (split s c n j first ∷ h) j)
    go (inl k) (at_child e a b g) = absurd (running_is_not (sym a ∙ w.join_waits))
      where
        running_is_not : running ≡ reserved → ⊥
        running_is_not t = cc
    go (inl k) (at_next e a b g) = absurd (running_is_not (sym a ∙ w.join_waits))
      where
        running_is_not : running ≡ reserved → ⊥
        running_is_not t = cc
    go (inl k) (at_join e lo f a b g) = subst (Diverges (address h s ▹ v)) (sym g) (diverges_join (address h s) v fork)
    go (inl k) (at_spawner e a b g) = absurd (omega (arith, e, k.1, w.numbers.spawner_known))
    go (inl k) (elsewhere ns (inl q) a b g) = absurd (omega (arith, k.1))
    go (inl k) (elsewhere ns (inr q) a b g) = absurd (omega (arith, w.numbers.join_known))
    go (inr k) seen =
        let jk : j < unused h = r.join_below s j (ap join_of k.1) in
        subst (Diverges (address h s ▹ v)) (sym (address_kept h s c n j first w j jk))
        (diverges_extend (address h s) (address h j) v (d.inside s j w.numbers.spawner_known (ap join_of k.1)))

open_below : (history : History) → Ranges history → (strand : ℕ) → Open history strand → strand < unused history
open_below h r x op = go (below_or_beyond x (unused h))
  where
    go : (x < unused h) ⊎ (unused h ≤ x) → x < unused h
    go (inl t) = t
    go (inr t) = absurd (absent_not_open (r.absent_beyond x t) op)

addresses_split : (history : History) (strand the_child the_next the_join : ℕ) (first : Bool) → Ranges history →
    Ranges (split strand the_child the_next the_join first ∷ history) → Addresses history → Splitting history strand the_child the_next the_join first →
    Addresses (split strand the_child the_next the_join first ∷ history)
addresses_split h s c n j first r r' d w = record {
  leaf = λ o x op lx p. leaf_at o x op p (named h s c n j first w o (open_below (split s c n j first ∷ h) r' o op)) (named h s c n j first w x lx);
  distinct = λ x y lx ly e. distinct_at x y e (named h s c n j first w x lx) (named h s c n j first w y ly);
  inside = λ x k lx e. inside_at x k e (w.numbers.see x) lx;
}
  where
    spawner_only : (strand : ℕ) → strand < unused h → (word : Word) → IsPrefix (address h s ▹ word) (address h strand) → ⊥
    spawner_only x lx v p =
        let e : x ≡ s = d.leaf s x (running_open h s w.runs) lx (prefix_of_longer (address h s) (address h x) v p) in
        not_prefix_shorter (address h s) v (subst (λ z. IsPrefix (address h s ▹ v) (address h z)) e p)

    same_new : (strand other : ℕ) (word v' : Word) → strand ≡ by_word c n j word → other ≡ by_word c n j v' →
        IsPrefix (address h s ▹ word) (address h s ▹ v') → other ≡ strand
    same_new x y v v' e e' p = e' ∙ (ap (by_word c n j) (sym (prefix_siblings (address h s) v v' p)) ∙ sym e)

    old_new : (holder strand : ℕ) (word : Word) → holder < unused h → holder ≢ s → Open h holder → IsPrefix (address h holder) (address h s ▹ word) → ⊥
    old_new o x v lo ne op p = elim (prefix_longer (address h o) (address h s) v p) [
      | inl q ↦ ne (sym (d.leaf o s op w.numbers.spawner_known q))
      | inr e ↦ spawner_only o lo v (subst (IsPrefix (address h s ▹ v)) (sym e) (prefix_refl (address h s ▹ v)))
    ]

    leaf_at : (holder strand : ℕ) → Open (split s c n j first ∷ h) holder →
        IsPrefix (address (split s c n j first ∷ h) holder) (address (split s c n j first ∷ h) strand) → Named h s c n j first holder →
        Named h s c n j first strand → strand ≡ holder
    leaf_at o x op p (named_new v e f a) (named_new v' e' f' a') = same_new o x v v' e e' (subst₂ IsPrefix a a' p)
    leaf_at o x op p (named_new v e f a) (named_old lx a' b' k') = absurd (spawner_only x lx v (subst₂ IsPrefix a a' p))
    leaf_at o x op p (named_old lo a b k) (named_new v e f a') = absurd (old_new o x v lo (k op).0 (k op).1 (subst₂ IsPrefix a a' p))
    leaf_at o x op p (named_old lo a b k) (named_old lx a' b' k') = d.leaf o x (k op).1 lx (subst₂ IsPrefix a a' p)

    distinct_at : (strand other : ℕ) → address (split s c n j first ∷ h) strand ≡ address (split s c n j first ∷ h) other → Named h s c n j first strand →
        Named h s c n j first other → strand ≡ other
    distinct_at x y g (named_new v e f a) (named_new v' e' f' a') =
        sym (same_new x y v v' e e' (subst (IsPrefix (address h s ▹ v)) (sym a ∙ (g ∙ a')) (prefix_refl (address h s ▹ v))))
    distinct_at x y g (named_new v e f a) (named_old ly a' b' k') =
        absurd (spawner_only y ly v (subst (IsPrefix (address h s ▹ v)) (sym a ∙ (g ∙ a')) (prefix_refl (address h s ▹ v))))
    distinct_at x y g (named_old lx a b k) (named_new v' e' f' a') =
        absurd (spawner_only x lx v' (subst (IsPrefix (address h s ▹ v')) (sym a' ∙ (sym g ∙ a)) (prefix_refl (address h s ▹ v'))))
    distinct_at x y g (named_old lx a b k) (named_old ly a' b' k') = d.distinct x y lx ly (sym a ∙ (g ∙ a'))

    inside_at : (strand other_join : ℕ) → join_of (place (split s c n j first ∷ h) strand) ≡ Some other_join → Seen h s c n j first strand →
        strand < unused (split s c n j first ∷ h) → Diverges (address (split s c n j first ∷ h) strand) (address (split s c n j first ∷ h) other_join)
    inside_at x k g (at_child e a b q) lx =
        let k_is : j ≡ k = some_same (sym (ap join_of b) ∙ g) in
        subst₂ Diverges (sym q) (ap (address (split s c n j first ∷ h)) k_is) (side_diverges h s c n j first r d w child refl)
    inside_at x k g (at_next e a b q) lx =
        let k_is : j ≡ k = some_same (sym (ap join_of b) ∙ g) in
        subst₂ Diverges (sym q) (ap (address (split s c n j first ∷ h)) k_is) (side_diverges h s c n j first r d w next refl)
    inside_at x k g (at_join e lo f a b q) lx =
        let of_spawner : join_of (place h s) ≡ Some k = sym (ap join_of b) ∙ g in
        subst₂ Diverges (sym q) (sym (address_kept h s c n j first w k (r.join_below s k of_spawner)))
        (diverges_extend (address h s) (address h k) join (d.inside s k w.numbers.spawner_known of_spawner))
    inside_at x k g (at_spawner e a b q) lx =
        let of_spawner : join_of (place h s) ≡ Some k = sym (ap join_of b) ∙ g in
        subst₂ Diverges (sym q) (sym (address_kept h s c n j first w k (r.join_below s k of_spawner))) (d.inside s k w.numbers.spawner_known of_spawner)
    inside_at x k g (elsewhere ne (inl kn) a b q) lx =
        let of_old : join_of (place h x) ≡ Some k = sym (ap join_of b) ∙ g in
        subst₂ Diverges (sym q) (sym (address_kept h s c n j first w k (r.join_below x k of_old))) (d.inside x k kn of_old)
    inside_at x k g (elsewhere ne (inr kn) a b q) lx = absurd (omega arith)

addresses_calm : (history : History) (event : Event) → IsCalm event → Holders history → Allowed history event → Addresses history →
    Addresses (event ∷ history)
addresses_calm h e calm o a d = record {
  leaf = λ p x op lx q. d.leaf p x (calm_open h e calm o a p op) (subst (λ m. x < m) (calm_unused h e calm) lx) (subst₂ IsPrefix (calm_address h e calm p) (calm_address h e calm x) q);
  distinct = λ x y lx ly g. d.distinct x y (subst (λ m. x < m) (calm_unused h e calm) lx) (subst (λ m. y < m) (calm_unused h e calm) ly) (sym (calm_address h e calm x) ∙ (g ∙ calm_address h e calm y));
  inside = λ x k lx g. subst₂ Diverges (sym (calm_address h e calm x)) (sym (calm_address h e calm k)) (d.inside x k (subst (λ m. x < m) (calm_unused h e calm) lx) (sym (ap join_of (calm_place h e calm x)) ∙ g));
}

pub addresses : {h : History} → Legal h → Addresses h
addresses start = record {
  leaf = λ o x op lx p. let z : x ≡ 0 = omega arith in z ∙ sym (only o op);
  distinct = λ x y lx ly e. omega arith;
  inside = λ x k lx e. absurd (cc);
}
  where
    only : (strand : ℕ) → IsOpen (updated (λ y. absent) 0 running strand) → strand ≡ 0
    only x = updated_case (λ t. IsOpen t → x ≡ 0) (λ y. absent) 0 running x (λ e op. e) (λ ne op. absurd op)
addresses (then {history = h} {event = split s c n j first} l a) =
    addresses_split h s c n j first (ranges l) (ranges (then l a)) (addresses l) (splitting h s c n j first (ranges l) (holders l) a)
addresses (then {history = h} {event = same s} l a) = addresses_calm h (same s) tt (holders l) a (addresses l)
addresses (then {history = h} {event = joined s j} l a) = addresses_calm h (joined s j) tt (holders l) a (addresses l)
addresses (then {history = h} {event = waits s} l a) = addresses_calm h (waits s) tt (holders l) a (addresses l)
addresses (then {history = h} {event = call s} l a) = addresses_calm h (call s) tt (holders l) a (addresses l)
addresses (then {history = h} {event = resumed s} l a) = addresses_calm h (resumed s) tt (holders l) a (addresses l)
addresses (then {history = h} {event = ended s} l a) = addresses_calm h (ended s) tt (holders l) a (addresses l)
addresses (then {history = h} {event = ended_joined s j} l a) = addresses_calm h (ended_joined s j) tt (holders l) a (addresses l)
addresses (then {history = h} {event = finished s} l a) = addresses_calm h (finished s) tt (holders l) a (addresses l)
