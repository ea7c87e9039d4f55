-- What can be decided of a history.
use Rattle.std.proofs.Common.{◌≡◌, ◌≢◌, ◌⊎◌, inl, inr, ℕ, zero, suc, ◌<◌, [], ◌∷◌, length, Some, ap, ap₂, subst, arith}
use Rattle.model_strands.specs.History.{split, same, joined, waits, call, resumed, ended, ended_joined, finished, History}
use Rattle.model_strands.specs.Blocks.{Stack, root, spawned, called, block, stack, enclosing, Outstanding, IsWaitedFor}
use Rattle.law_strands.proofs.Updates.{same_or_not}
use Rattle.law_strands.proofs.Places.{Ranges, some_same, spawned_same}
use Rattle.model_strands.specs.Dag.{Arrives}

pub spawned_or_not : (st : Stack) (number other_join : ℕ) → (st ≡ spawned number other_join) ⊎ (st ≢ spawned number other_join)
spawned_or_not root n k = inr (λ e. cc)
spawned_or_not (called m below) n k = inr (λ e. cc)
spawned_or_not (block j below) n k = inr (λ e. cc)
spawned_or_not (spawned m j) n k = go (same_or_not m n) (same_or_not j k)
  where
    go : (m ≡ n) ⊎ (m ≢ n) → (j ≡ k) ⊎ (j ≢ k) → (spawned m j ≡ spawned n k) ⊎ (spawned m j ≢ spawned n k)
    go (inl e) (inl g) = inl (ap₂ (λ a b. spawned a b) e g)
    go (inr e) g = inr (λ t. e (spawned_same t).0)
    go (inl e) (inr g) = inr (λ t. g (spawned_same t).1)

pub encloses_or_not : (st : Stack) (other_join : ℕ) → (enclosing st ≡ Some other_join) ⊎ (enclosing st ≢ Some other_join)
encloses_or_not root k = inr (λ e. cc)
encloses_or_not (called m below) k = encloses_or_not below k
encloses_or_not (spawned m j) k = elim (same_or_not j k) [ inl e ↦ inl (ap (λ z. Some z) e) | inr ne ↦ inr (λ e. ne (some_same e)) ]
encloses_or_not (block j below) k = elim (same_or_not j k) [ inl e ↦ inl (ap (λ z. Some z) e) | inr ne ↦ inr (λ e. ne (some_same e)) ]

not_both : {A B : Type 0} → (A ⊎ (A → ⊥)) → (B ⊎ (B → ⊥)) → ((A → ⊥) × B) ⊎ (((A → ⊥) × B) → ⊥)
not_both (inl a) b = inr (λ t. t.0 a)
not_both (inr a) (inl b) = inl (a, b)
not_both (inr a) (inr b) = inr (λ t. b t.1)

pub outstanding_or_not : (history : History) (number other_join : ℕ) → Outstanding history number other_join ⊎ (Outstanding history number other_join → ⊥)
outstanding_or_not [] n k = inr (λ t. t)
outstanding_or_not (split s c m j first ∷ h) n k = go (same_or_not n (suc (length h))) (same_or_not k j) (outstanding_or_not h n k)
  where
    go : (n ≡ suc (length h)) ⊎ (n ≢ suc (length h)) → (k ≡ j) ⊎ (k ≢ j) → Outstanding h n k ⊎ (Outstanding h n k → ⊥) →
        Outstanding (split s c m j first ∷ h) n k ⊎ (Outstanding (split s c m j first ∷ h) n k → ⊥)
    go (inl e) (inl g) o = inl (inl (e, g))
    go e g (inl o) = inl (inr o)
    go (inr e) g (inr o) = inr (λ t. elim t [ inl q ↦ e q.0 | inr q ↦ o q ])
    go (inl e) (inr g) (inr o) = inr (λ t. elim t [ inl q ↦ g q.1 | inr q ↦ o q ])
outstanding_or_not (ended s ∷ h) n k = not_both (spawned_or_not (stack h s) n k) (outstanding_or_not h n k)
outstanding_or_not (ended_joined s j ∷ h) n k = not_both (spawned_or_not (stack h s) n k) (outstanding_or_not h n k)
outstanding_or_not (same s ∷ h) n k = outstanding_or_not h n k
outstanding_or_not (joined s j ∷ h) n k = outstanding_or_not h n k
outstanding_or_not (waits s ∷ h) n k = outstanding_or_not h n k
outstanding_or_not (call s ∷ h) n k = outstanding_or_not h n k
outstanding_or_not (resumed s ∷ h) n k = outstanding_or_not h n k
outstanding_or_not (finished s ∷ h) n k = outstanding_or_not h n k

pub waited_or_not : (history : History) (other_join : ℕ) → IsWaitedFor history other_join ⊎ (IsWaitedFor history other_join → ⊥)
waited_or_not [] k = inr (λ t. t)
waited_or_not (waits s ∷ h) k = go (encloses_or_not (stack h s) k) (waited_or_not h k)
  where
    go : (enclosing (stack h s) ≡ Some k) ⊎ (enclosing (stack h s) ≢ Some k) → IsWaitedFor h k ⊎ (IsWaitedFor h k → ⊥) →
        IsWaitedFor (waits s ∷ h) k ⊎ (IsWaitedFor (waits s ∷ h) k → ⊥)
    go (inl e) o = inl (inl e)
    go (inr e) (inl o) = inl (inr o)
    go (inr e) (inr o) = inr (λ t. elim t [ inl q ↦ e q | inr q ↦ o q ])
waited_or_not (split s c n j first ∷ h) k = waited_or_not h k
waited_or_not (same s ∷ h) k = waited_or_not h k
waited_or_not (joined s j ∷ h) k = waited_or_not h k
waited_or_not (call s ∷ h) k = waited_or_not h k
waited_or_not (resumed s ∷ h) k = waited_or_not h k
waited_or_not (ended s ∷ h) k = waited_or_not h k
waited_or_not (ended_joined s j ∷ h) k = waited_or_not h k
waited_or_not (finished s ∷ h) k = waited_or_not h k

-- a number below the bound has the property, or none has
pub any_below : (P : ℕ → Type 0) → ((number : ℕ) → P number ⊎ (P number → ⊥)) → (bound : ℕ) →
    ((number : ℕ) × P number) ⊎ ((number : ℕ) → number < bound → P number → ⊥)
any_below P d zero = inr (λ n lt p. absurd (omega arith))
any_below P d (suc m) = go (d m) (any_below P d m)
  where
    go : P m ⊎ (P m → ⊥) → ((number : ℕ) × P number) ⊎ ((number : ℕ) → number < m → P number → ⊥) →
        ((number : ℕ) × P number) ⊎ ((number : ℕ) → number < suc m → P number → ⊥)
    go (inl p) r = inl (m, p)
    go (inr np) (inl t) = inl t
    go (inr np) (inr none) = inr (λ n lt p. elim (same_or_not n m) [ inl e ↦ np (subst P e p) | inr ne ↦ none n (omega arith) p ])

-- the block has another child outstanding, or none but this
pub other_child : (history : History) → Ranges history → (number its_join : ℕ) →
    ((bound : ℕ) × ((bound ≢ number) × Outstanding history bound its_join)) ⊎ ((bound : ℕ) → Outstanding history bound its_join → bound ≡ number)
other_child h r n j = go (any_below (λ m. (m ≢ n) × Outstanding h m j) (λ m. not_both (same_or_not m n) (outstanding_or_not h m j)) (suc (length h)))
  where
    go : ((number : ℕ) × ((number ≢ n) × Outstanding h number j)) ⊎ ((number : ℕ) → number < suc (length h) → (number ≢ n) × Outstanding h number j → ⊥) →
        ((number : ℕ) × ((number ≢ n) × Outstanding h number j)) ⊎ ((number : ℕ) → Outstanding h number j → number ≡ n)
    go (inl t) = inl t
    go (inr none) = inr (λ m o. elim (same_or_not m n) [ inl e ↦ e | inr ne ↦ absurd (none m (omega (arith, r.outstanding_below m j o)) (ne, o)) ])

-- the block has a child outstanding, or none
pub any_child : (history : History) → Ranges history → (its_join : ℕ) →
    ((number : ℕ) × Outstanding history number its_join) ⊎ ((number : ℕ) → Outstanding history number its_join → ⊥)
any_child h r j = go (any_below (λ m. Outstanding h m j) (λ m. outstanding_or_not h m j) (suc (length h)))
  where
    go : ((number : ℕ) × Outstanding h number j) ⊎ ((number : ℕ) → number < suc (length h) → Outstanding h number j → ⊥) →
        ((number : ℕ) × Outstanding h number j) ⊎ ((number : ℕ) → Outstanding h number j → ⊥)
    go (inl t) = inl t
    go (inr none) = inr (λ m o. none m (omega (arith, r.outstanding_below m j o)) o)

pub either : {A B : Type 0} → A ⊎ (A → ⊥) → B ⊎ (B → ⊥) → (A ⊎ B) ⊎ (A ⊎ B → ⊥)
either (inl a) b = inl (inl a)
either (inr na) (inl b) = inl (inr b)
either (inr na) (inr nb) = inr (λ t. elim t [ inl a ↦ na a | inr b ↦ nb b ])

pub both : {A B : Type 0} → A ⊎ (A → ⊥) → B ⊎ (B → ⊥) → (A × B) ⊎ (A × B → ⊥)
both (inl a) (inl b) = inl (a, b)
both (inl a) (inr nb) = inr (λ t. nb t.1)
both (inr na) b = inr (λ t. na t.0)

pub arrives_or_not : (history : History) (strand other : ℕ) → Arrives history strand other ⊎ (Arrives history strand other → ⊥)
arrives_or_not [] u v = inr (λ t. t)
arrives_or_not (joined s j ∷ h) u v = either (both (same_or_not u s) (encloses_or_not (stack h s) v)) (arrives_or_not h u v)
arrives_or_not (waits s ∷ h) u v = either (both (same_or_not u s) (encloses_or_not (stack h s) v)) (arrives_or_not h u v)
arrives_or_not (ended s ∷ h) u v = either (both (same_or_not u s) (encloses_or_not (stack h s) v)) (arrives_or_not h u v)
arrives_or_not (ended_joined s j ∷ h) u v = either (both (same_or_not u s) (encloses_or_not (stack h s) v)) (arrives_or_not h u v)
arrives_or_not (split s c n j first ∷ h) u v = arrives_or_not h u v
arrives_or_not (same s ∷ h) u v = arrives_or_not h u v
arrives_or_not (call s ∷ h) u v = arrives_or_not h u v
arrives_or_not (resumed s ∷ h) u v = arrives_or_not h u v
arrives_or_not (finished s ∷ h) u v = arrives_or_not h u v
