-- The children of a block in order of spawning lie one after another in the serial order.
use Rattle.std.proofs.Common.{◌≡◌, ◌⊎◌, inl, inr, ℕ, suc, ◌<◌, ◌≤◌, Bool, [], ◌∷◌, ◌++◌, length, AllPairs, refl, sym, ap, ◌∙◌, subst, subst₂, arith}
use Rattle.model_strands.specs.Address.{child, next, join, Address}
use Rattle.law_addresses.specs.Address.{IsPrefix}
use Rattle.law_addresses.proofs.Sorted.{pairs-nil}
use Rattle.model_strands.specs.Updated.{updated}
use Rattle.model_strands.specs.History.{Event, split, same, joined, waits, call, resumed, ended, ended_joined, finished, History}
use Rattle.model_strands.specs.Strands.{unused}
use Rattle.model_strands.specs.Legal.{Allowed, Legal, start, then}
use Rattle.model_strands.specs.Addresses.{address}
use Rattle.law_strands.specs.Gatherings.{children}
use Rattle.law_strands.proofs.Updates.{updated_at, updated_off, updated_case}
use Rattle.law_strands.proofs.Members.{Present, present_append, pairs_alike, pairs_push}
use Rattle.law_strands.proofs.Words.{◌▹◌, prefix_refl, prefix_widen}
use Rattle.law_strands.proofs.Places.{Place, continuation, child_of, place, join_of, Seen, at_child, at_next, at_join, at_spawner, elsewhere}
use Rattle.law_strands.proofs.Range.{ranges}
use Rattle.law_strands.proofs.Holders.{IsOpen, Open, Holders, holders, Splitting, splitting, running_open, not_open}
use Rattle.law_strands.proofs.Calm.{IsCalm, calm_place, calm_address, calm_unused, calm_open}

-- the address of the strand that made the split
abbrev pub origin : History → ℕ → Address
origin [] = λ number. []
origin (split strand the_child the_next the_join first ∷ history) = updated (origin history) (suc (length history)) (address history strand)
origin (_ ∷ history) = origin history

-- the one split was made by what went on beside the child of the other
abbrev pub IsOnward : History → ℕ → ℕ → Type 0
IsOnward history number later = IsPrefix (origin history number ▹ next) (origin history later)

-- a child of a block lies below the child of its split, and what goes on in the block below its next
pub record Sides (history : History) : Type 0 where
  pub numbered : (join number : ℕ) → Present number (children history join) → number ≤ length history
  pub known : (join number : ℕ) → Present number (children history join) → join < unused history
  pub place_numbered : (strand join number : ℕ) → strand < unused history → place history strand ≡ child_of join number → number ≤ length history
  pub child_side : (strand join number : ℕ) → strand < unused history → place history strand ≡ child_of join number →
      IsPrefix (origin history number ▹ child) (address history strand)
  pub next_side : (strand join number : ℕ) → strand < unused history → Open history strand → place history strand ≡ continuation join →
      Present number (children history join) → IsPrefix (origin history number ▹ next) (address history strand)
  pub in_order : (join : ℕ) → AllPairs (IsOnward history) (children history join)

next_not_child : {p : Place} {j k m : ℕ} → p ≡ continuation j → p ≡ child_of k m → ⊥
next_not_child e g = cc

same_child : {p : Place} {j k m n : ℕ} → p ≡ child_of j n → p ≡ child_of k m → m ≡ n
same_child e g = cc

same_next : {p : Place} {j k : ℕ} → p ≡ continuation j → p ≡ continuation k → k ≡ j
same_next e g = cc

pub children_cases : (history : History) (strand the_child the_next the_join : ℕ) (first : Bool) (other_join number : ℕ) →
    Present number (children (split strand the_child the_next the_join first ∷ history) other_join) →
    ((other_join ≡ the_join) × (number ≡ suc (length history))) ⊎ Present number (children history other_join)
children_cases h s c n j first k m = updated_case (λ ys. Present m ys → ((k ≡ j) × (m ≡ suc (length h))) ⊎ Present m (children h k)) (children h) j
    (children h j ++ (suc (length h) ∷ [])) k
    (λ e p. elim ((present_append (children h j) (suc (length h) ∷ []) m).0 p) [
      | inl t ↦ inr (subst (λ y. Present m (children h y)) (sym e) t)
      | inr t ↦ elim t [ inl q ↦ inl (e, sym q) | inr q ↦ absurd q ]
    ])
    (λ ne p. inr p)

pub children_kept : (history : History) (strand the_child the_next the_join : ℕ) (first : Bool) (other_join number : ℕ) →
    Present number (children history other_join) → Present number (children (split strand the_child the_next the_join first ∷ history) other_join)
children_kept h s c n j first k m p = updated_case (λ ys. Present m ys) (children h) j (children h j ++ (suc (length h) ∷ [])) k
    (λ e. (present_append (children h j) (suc (length h) ∷ []) m).1 (inl (subst (λ y. Present m (children h y)) e p))) (λ ne. p)

pub children_new : (history : History) (strand the_child the_next the_join : ℕ) (first : Bool) →
    Present (suc (length history)) (children (split strand the_child the_next the_join first ∷ history) the_join)
children_new h s c n j first =
    subst (Present (suc (length h))) (sym (updated_at (children h) j (children h j ++ (suc (length h) ∷ [])) j refl))
    ((present_append (children h j) (suc (length h) ∷ []) (suc (length h))).1 (inr (inl refl)))

sides_split : (history : History) (strand the_child the_next the_join : ℕ) (first : Bool) →
    ((one another : ℕ) → place history one ≡ continuation another → another < unused history) → Holders history →
    Splitting history strand the_child the_next the_join first → Sides history → Sides (split strand the_child the_next the_join first ∷ history)
sides_split h s c n j first ranges_at o w k = record {
  numbered = λ i m t. elim (children_cases h s c n j first i m t) [ inl q ↦ omega (arith, q.1) | inr q ↦ (let l : m ≤ length h = k.numbered i m q in omega arith) ];
  known = λ i m t. elim (children_cases h s c n j first i m t) [ inl q ↦ omega (arith, q.0, w.numbers.join_known) | inr q ↦ (let l : i < unused h = k.known i m q in omega (arith, w.numbers.grows)) ];
  place_numbered = λ x i m lt e. placed x i m lt e (w.numbers.see x);
  child_side = λ x i m lt e. at_side x i m lt e (w.numbers.see x);
  next_side = λ x i m lt op e t. at_next_side x i m lt op e (w.numbers.see x) (children_cases h s c n j first i m t);
  in_order = λ i. ordered i;
}
  where
    old_origin : (number : ℕ) → number ≤ length h → origin (split s c n j first ∷ h) number ≡ origin h number
    old_origin m l = updated_off (origin h) (suc (length h)) (address h s) m (λ e. omega arith)

    new_origin : (number : ℕ) → number ≡ suc (length h) → origin (split s c n j first ∷ h) number ≡ address h s
    new_origin m e = updated_at (origin h) (suc (length h)) (address h s) m e

    -- no block that opens now has an older child
    fresh : (another : ℕ) → another ≡ j → (number : ℕ) → Present number (children h another) → place h s ≡ continuation j
    fresh i e m t = elim w.block_is [ inl q ↦ absurd (let l : i < unused h = k.known i m t in omega (arith, q.1, e)) | inr q ↦ q.1 ]

    placed : (strand another number : ℕ) → strand < unused (split s c n j first ∷ h) → place (split s c n j first ∷ h) strand ≡ child_of another number →
        Seen h s c n j first strand → number ≤ length (split s c n j first ∷ h)
    placed x i m lt e (at_child xe a b d) = omega (arith, same_child b e)
    placed x i m lt e (at_next xe a b d) = absurd (next_not_child b e)
    placed x i m lt e (at_join xe lo t a b d) = let l : m ≤ length h = k.place_numbered s i m w.numbers.spawner_known (sym b ∙ e) in omega arith
    placed x i m lt e (at_spawner xe a b d) = let l : m ≤ length h = k.place_numbered s i m w.numbers.spawner_known (sym b ∙ e) in omega arith
    placed x i m lt e (elsewhere ne (inl q) a b d) = let l : m ≤ length h = k.place_numbered x i m q (sym b ∙ e) in omega arith
    placed x i m lt e (elsewhere ne (inr q) a b d) = absurd (omega arith)

    old_side : (other another number : ℕ) → other < unused h → place h other ≡ child_of another number →
        IsPrefix (origin (split s c n j first ∷ h) number ▹ child) (address h other)
    old_side y i m lt e = subst (λ z. IsPrefix (z ▹ child) (address h y)) (sym (old_origin m (k.place_numbered y i m lt e))) (k.child_side y i m lt e)

    at_side : (strand another number : ℕ) → strand < unused (split s c n j first ∷ h) → place (split s c n j first ∷ h) strand ≡ child_of another number →
        Seen h s c n j first strand → IsPrefix (origin (split s c n j first ∷ h) number ▹ child) (address (split s c n j first ∷ h) strand)
    at_side x i m lt e (at_child xe a b d) =
        subst₂ IsPrefix (ap (λ z. z ▹ child) (sym (new_origin m (same_child b e)))) (sym d) (prefix_refl (address h s ▹ child))
    at_side x i m lt e (at_next xe a b d) = absurd (next_not_child b e)
    at_side x i m lt e (at_join xe lo t a b d) =
        subst (IsPrefix (origin (split s c n j first ∷ h) m ▹ child)) (sym d) (prefix_widen (origin (split s c n j first ∷ h) m ▹ child) (address h s) join (old_side s i m w.numbers.spawner_known (sym b ∙ e)))
    at_side x i m lt e (at_spawner xe a b d) =
        subst (IsPrefix (origin (split s c n j first ∷ h) m ▹ child)) (sym d) (old_side s i m w.numbers.spawner_known (sym b ∙ e))
    at_side x i m lt e (elsewhere ne (inl q) a b d) = subst (IsPrefix (origin (split s c n j first ∷ h) m ▹ child)) (sym d) (old_side x i m q (sym b ∙ e))
    at_side x i m lt e (elsewhere ne (inr q) a b d) = absurd (omega arith)

    old_next : (other another number : ℕ) → other < unused h → Open h other → place h other ≡ continuation another → Present number (children h another) →
        IsPrefix (origin (split s c n j first ∷ h) number ▹ next) (address h other)
    old_next y i m lt op e t = subst (λ z. IsPrefix (z ▹ next) (address h y)) (sym (old_origin m (k.numbered i m t))) (k.next_side y i m lt op e t)

    run : Open h s
    run = running_open h s w.runs

    at_next_side : (strand another number : ℕ) → strand < unused (split s c n j first ∷ h) → Open (split s c n j first ∷ h) strand →
        place (split s c n j first ∷ h) strand ≡ continuation another → Seen h s c n j first strand →
        ((another ≡ j) × (number ≡ suc (length h))) ⊎ Present number (children h another) →
        IsPrefix (origin (split s c n j first ∷ h) number ▹ next) (address (split s c n j first ∷ h) strand)
    at_next_side x i m lt op e (at_child xe a b d) t = absurd (next_not_child e b)
    at_next_side x i m lt op e (at_next xe a b d) (inl t) =
        subst₂ IsPrefix (ap (λ z. z ▹ next) (sym (new_origin m t.1))) (sym d) (prefix_refl (address h s ▹ next))
    at_next_side x i m lt op e (at_next xe a b d) (inr t) = subst (IsPrefix (origin (split s c n j first ∷ h) m ▹ next)) (sym d)
        (prefix_widen (origin (split s c n j first ∷ h) m ▹ next) (address h s) next
        (old_next s i m w.numbers.spawner_known run (fresh i (same_next b e) m t ∙ ap continuation (sym (same_next b e))) t))
    at_next_side x i m lt op e (at_join xe lo f a b d) (inl t) = absurd (no_join (sym b ∙ e) t.0)
      where
        no_join : place h s ≡ continuation i → i ≡ j → ⊥
        no_join p q = let l : i < unused h = ranges_at s i p in omega (arith, q, xe, lo)
    at_next_side x i m lt op e (at_join xe lo f a b d) (inr t) = subst (IsPrefix (origin (split s c n j first ∷ h) m ▹ next)) (sym d)
        (prefix_widen (origin (split s c n j first ∷ h) m ▹ next) (address h s) join (old_next s i m w.numbers.spawner_known run (sym b ∙ e) t))
    at_next_side x i m lt op e (at_spawner xe a b d) t = absurd (not_open a op)
    at_next_side x i m lt op e (elsewhere ne (inr q) a b d) t = absurd (omega arith)
    at_next_side x i m lt op e (elsewhere ne (inl q) a b d) (inr t) =
        subst (IsPrefix (origin (split s c n j first ∷ h) m ▹ next)) (sym d) (old_next x i m q (subst IsOpen a op) (sym b ∙ e) t)
    at_next_side x i m lt op e (elsewhere ne (inl q) a b d) (inl t) = absurd (elim w.block_is [
      | inl z ↦ (let l : i < unused h = ranges_at x i (sym b ∙ e) in omega (arith, z.1, t.0))
      | inr z ↦ ne (o.alone x s (subst IsOpen a op) run ((sym b ∙ e) ∙ (ap continuation t.0 ∙ sym z.1)))
    ])

    ordered : (another : ℕ) → AllPairs (IsOnward (split s c n j first ∷ h)) (children (split s c n j first ∷ h) another)
    ordered i = updated_case (AllPairs (IsOnward (split s c n j first ∷ h))) (children h) j (children h j ++ (suc (length h) ∷ [])) i
        (λ e. pairs_push (IsOnward (split s c n j first ∷ h)) (children h j) (suc (length h)) (old_ordered j) (λ m t. newest m (suc (length h)) t (inl refl)))
        (λ ne. old_ordered i)
      where
        old_ordered : (another : ℕ) → AllPairs (IsOnward (split s c n j first ∷ h)) (children h another)
        old_ordered i = pairs_alike (IsOnward h) (IsOnward (split s c n j first ∷ h)) (children h i)
            (λ m q t r a. subst₂ (λ y z. IsPrefix (y ▹ next) z) (sym (old_origin m (k.numbered i m t))) (sym (old_origin q (k.numbered i q r))) a) (k.in_order i)

        newest : (number third : ℕ) → Present number (children h j) → Present third (suc (length h) ∷ []) →
            IsPrefix (origin (split s c n j first ∷ h) number ▹ next) (origin (split s c n j first ∷ h) third)
        newest m q t (inr r) = absurd r
        newest m q t (inl r) =
            subst (IsPrefix (origin (split s c n j first ∷ h) m ▹ next)) (sym (new_origin q (sym r))) (old_next s j m w.numbers.spawner_known run (fresh j refl m t) t)

pub calm_children : (history : History) (event : Event) → IsCalm event → (its_join : ℕ) → children (event ∷ history) its_join ≡ children history its_join
calm_children h (split s c n j first) k i = absurd k
calm_children h (same s) k i = refl
calm_children h (joined s j) k i = refl
calm_children h (waits s) k i = refl
calm_children h (call s) k i = refl
calm_children h (resumed s) k i = refl
calm_children h (ended s) k i = refl
calm_children h (ended_joined s j) k i = refl
calm_children h (finished s) k i = refl

pub calm_origin : (history : History) (event : Event) → IsCalm event → (number : ℕ) → origin (event ∷ history) number ≡ origin history number
calm_origin h (split s c n j first) k i = absurd k
calm_origin h (same s) k i = refl
calm_origin h (joined s j) k i = refl
calm_origin h (waits s) k i = refl
calm_origin h (call s) k i = refl
calm_origin h (resumed s) k i = refl
calm_origin h (ended s) k i = refl
calm_origin h (ended_joined s j) k i = refl
calm_origin h (finished s) k i = refl

sides_calm : (history : History) (event : Event) → IsCalm event → Holders history → Allowed history event → Sides history → Sides (event ∷ history)
sides_calm h e calm o a k = record {
  numbered = λ j m t. let l : m ≤ length h = k.numbered j m (subst (Present m) (calm_children h e calm j) t) in omega arith;
  known = λ j m t. subst (λ y. j < y) (sym (calm_unused h e calm)) (k.known j m (subst (Present m) (calm_children h e calm j) t));
  place_numbered = λ x j m lt g. let l : m ≤ length h = k.place_numbered x j m (older x lt) (sym (calm_place h e calm x) ∙ g) in omega arith;
  child_side = λ x j m lt g. subst₂ (λ y z. IsPrefix (y ▹ child) z) (sym (calm_origin h e calm m)) (sym (calm_address h e calm x)) (k.child_side x j m (older x lt) (sym (calm_place h e calm x) ∙ g));
  next_side = λ x j m lt op g t. subst₂ (λ y z. IsPrefix (y ▹ next) z) (sym (calm_origin h e calm m)) (sym (calm_address h e calm x))
      (k.next_side x j m (older x lt) (calm_open h e calm o a x op) (sym (calm_place h e calm x) ∙ g) (subst (Present m) (calm_children h e calm j) t));
  in_order = λ j. subst (AllPairs (IsOnward (e ∷ h))) (sym (calm_children h e calm j))
      (pairs_alike (IsOnward h) (IsOnward (e ∷ h)) (children h j)
      (λ m q t r b. subst₂ (λ y z. IsPrefix (y ▹ next) z) (sym (calm_origin h e calm m)) (sym (calm_origin h e calm q)) b) (k.in_order j));
}
  where
    older : (strand : ℕ) → strand < unused (e ∷ h) → strand < unused h
    older x lt = subst (λ m. x < m) (calm_unused h e calm) lt

sides_start : Sides []
sides_start = record {
  numbered = λ j m t. absurd t;
  known = λ j m t. absurd t;
  place_numbered = λ x j m lt g. absurd (cc);
  child_side = λ x j m lt g. absurd (cc);
  next_side = λ x j m lt op g t. absurd t;
  in_order = λ j. pairs-nil (IsOnward []);
}

pub sides : {h : History} → Legal h → Sides h
sides start = sides_start
sides (then {history = h} {event = split s c n j first} l a) =
    sides_split h s c n j first (λ x i e. (ranges l).join_below x i (ap join_of e)) (holders l) (splitting h s c n j first (ranges l) (holders l) a) (sides l)
sides (then {history = h} {event = same s} l a) = sides_calm h (same s) tt (holders l) a (sides l)
sides (then {history = h} {event = joined s j} l a) = sides_calm h (joined s j) tt (holders l) a (sides l)
sides (then {history = h} {event = waits s} l a) = sides_calm h (waits s) tt (holders l) a (sides l)
sides (then {history = h} {event = call s} l a) = sides_calm h (call s) tt (holders l) a (sides l)
sides (then {history = h} {event = resumed s} l a) = sides_calm h (resumed s) tt (holders l) a (sides l)
sides (then {history = h} {event = ended s} l a) = sides_calm h (ended s) tt (holders l) a (sides l)
sides (then {history = h} {event = ended_joined s j} l a) = sides_calm h (ended_joined s j) tt (holders l) a (sides l)
sides (then {history = h} {event = finished s} l a) = sides_calm h (finished s) tt (holders l) a (sides l)
