-- How new strands stand to the earlier ones, and the current strand to the joins of the open blocks and to the nexts that wait.
use Rattle.std.proofs.Common.{◌≡◌, ◌⊎◌, inl, inr, ℕ, ◌<◌, ◌≤◌, Bool, true, false, [], ◌∷◌, ◌++◌, append-nil, refl, sym, ap, ap₂, ◌∙◌, subst}
use Rattle.model_strands.specs.Address.{Word, child, next, join, Address}
use Rattle.model_strands.specs.Addresses.{address}
use Rattle.model_strands.specs.History.{split, History}
use Rattle.model_strands.specs.Strands.{unused}
use Rattle.model_strands.specs.Blocks.{Stack, root, spawned, called, block, stack}
use Rattle.model_strands.specs.Legal.{Legal, then}
use Rattle.law_addresses.specs.Address.{is_fork, is_prefix, reaches, parallel, IsPrefix}
use Rattle.law_addresses.proofs.Blocks.{prefix-transitive, inside-reaches}
use Rattle.law_addresses.proofs.Differences.{first_difference-longer}
use Rattle.law_addresses.proofs.Extensions.{first_difference-extended}
use Rattle.law_addresses.proofs.Relations.{is_prefix-decides, parallel_at, parallel-by_difference, parallel-comm, parallel-self}
use Rattle.law_strands.proofs.Words.{◌▹◌, prefix_longer, prefix_of_longer, last_same}
use Rattle.law_strands.proofs.Places.{continuation, place, true_not_false}
use Rattle.law_strands.proofs.Range.{ranges, child_seen, next_seen, join_seen}
use Rattle.law_strands.proofs.Holders.{holders, splitting, running_open}
use Rattle.law_strands.proofs.Addresses.{addresses}
use Rattle.law_strands.proofs.Law.{begun_below}
use Rattle.law_strands.proofs.Kept.{address_stays}
use Rattle.model_serial_runs.specs.Current.{current}
use Rattle.law_serial_runs.specs.Spawns.{IsInBlock, IsOpen}
use Rattle.law_serial_runs.specs.Laws.{StandsAsSpawner, SpawnLaw, BlocksLaw}
use Rattle.law_serial_runs.proofs.Stands.{Stands, stands}
use Rattle.law_serial_runs.proofs.Stays.{event_runs}
use Rattle.law_serial_runs.proofs.Children.{open_law}

-- an address with more words stands to those that do not begin with it as without them
pub parallel_longer : (base rest a : Address) → (IsPrefix base a → a ≡ base) → parallel (base ++ rest) a ≡ parallel base a
parallel_longer base [] a leaf = ap (λ z. parallel z a) (append-nil base)
parallel_longer base (w ∷ rest) a leaf = go (is_prefix base a) refl
  where
    go : (t : Bool) → is_prefix base a ≡ t → parallel (base ++ (w ∷ rest)) a ≡ parallel base a
    go true e =
        let is : a ≡ base = leaf ((is_prefix-decides base a).0 e) in
        subst (λ z. parallel (base ++ (w ∷ rest)) z ≡ parallel base z) (sym is) (below ∙ sym (parallel-self base))
      where
        below : parallel (base ++ (w ∷ rest)) base ≡ false
        below = parallel-by_difference (base ++ (w ∷ rest)) base ∙ ap parallel_at (first_difference-longer base w rest)
    go false e =
        parallel-by_difference (base ++ (w ∷ rest)) a ∙
        (ap parallel_at (first_difference-extended base (w ∷ rest) a e) ∙ sym (parallel-by_difference base a))

pub parallel_to_longer : (a base rest : Address) → (IsPrefix base a → a ≡ base) → parallel a (base ++ rest) ≡ parallel a base
parallel_to_longer a base rest leaf = parallel-comm a (base ++ rest) ∙ (parallel_longer base rest a leaf ∙ parallel-comm base a)

pub spawn_law : SpawnLaw
spawn_law h s c n j first legal x b = go legal
  where
    go : Legal (split s c n j first ∷ h) → StandsAsSpawner h s c n j first x
    go (then l a) =
        let w = splitting h s c n j first (ranges l) (holders l) a in
        let lt = begun_below h (ranges l) x b in
        let same_address : address (split s c n j first ∷ h) x ≡ address h x = address_stays (then l a) x lt in
        let leaf : IsPrefix (address h s) (address h x) → address h x ≡ address h s =
        λ p. ap (address h) ((addresses l).leaf s x (running_open h s (event_runs (split s c n j first) a)) lt p) in
        let one : (word : Word) (strand : ℕ) → address (split s c n j first ∷ h) strand ≡ address h s ▹ word →
        parallel (address (split s c n j first ∷ h) x) (address (split s c n j first ∷ h) strand) ≡ parallel (address h x) (address h s) =
        λ word strand e. ap₂ parallel same_address e ∙ parallel_to_longer (address h x) (address h s) (word ∷ []) leaf in
        record {
          at_child = one child c (child_seen h s c n j first w.numbers).2;
          at_next = one next n (next_seen h s c n j first w.numbers).2;
          at_join = λ is. one join j (join_seen h s c n j first w.numbers (fresh w.block_is is)).2;
        }
      where
        fresh : ((first ≡ true) × (unused h ≤ j)) ⊎ ((first ≡ false) × (place h s ≡ continuation j)) → first ≡ true → unused h ≤ j
        fresh (inl t) is = t.1
        fresh (inr t) is = absurd (true_not_false (sym is ∙ t.0))

-- who stands in a block comes behind its opener's next
pub in_block : (history : History) (st : Stack) (its_join : ℕ) (a : Address) → IsInBlock st its_join → Stands history st a →
    (its_join < unused history) × ((opener : Address) × (address history its_join ≡ opener ▹ join) × IsPrefix (opener ▹ next) a)
in_block h root k a i t = absurd i
in_block h (spawned n j) k a i t = absurd i
in_block h (called n below) k a i t = in_block h below k a i t
in_block h (block j below) k a (inl e) (lt, o, at, p, t) = (subst (λ z. z < unused h) (sym e) lt, (o, ap (address h) e ∙ at, p))
in_block h (block j below) k a (inr i) (lt, o, at, p, t) =
    let (known, (opener, is, inner)) = in_block h below k o i t in
    (known, (opener, is, prefix-transitive (opener ▹ next) o a inner (prefix_of_longer o a next p)))

-- behind the opener's child or next a strand leads to the join
leads : (history : History) (opener : Address) (word : Word) (its_join : ℕ) (a : Address) → is_fork word ≡ true → address history its_join ≡ opener ▹ join →
    IsPrefix (opener ▹ word) a → reaches a (address history its_join) ≡ true
leads h o w j a fork at p = subst (λ z. reaches a z ≡ true) (sym at) (inside-reaches o w fork a p)

pub blocks_law : BlocksLaw
blocks_law h l r j (inl i) =
    let (known, (opener, at, p)) = in_block h (stack h (current h)) j (address h (current h)) i (stands l (current h)) in
    (known, leads h opener next j (address h (current h)) refl at p)
blocks_law h l r j (inr (o, m, i)) =
    let (known, (opener, at, p)) = in_block h (stack h o.next_strand) j (address h o.next_strand) i (stands l o.next_strand) in
    (known, beside opener at (prefix_longer (opener ▹ next) (address h o.spawner) next (subst (IsPrefix (opener ▹ next)) waiting.next_address p)))
  where
    waiting : IsOpen h o
    waiting = open_law h l r o m

    -- the current strand is in the child of the spawner, which is behind the opener's next or the opener itself
    beside : (opener : Address) → address h j ≡ opener ▹ join → IsPrefix (opener ▹ next) (address h o.spawner) ⊎ (opener ▹ next ≡ address h o.spawner ▹ next) →
        reaches (address h (current h)) (address h j) ≡ true
    beside opener at (inl p) =
        leads h opener next j (address h (current h)) refl at
        (prefix-transitive (opener ▹ next) (address h o.spawner) (address h (current h)) p
        (prefix_of_longer (address h o.spawner) (address h (current h)) child waiting.inside))
    beside opener at (inr e) =
        leads h opener child j (address h (current h)) refl at
        (subst (λ z. IsPrefix (z ▹ child) (address h (current h))) (sym (last_same opener (address h o.spawner) next next e).0) waiting.inside)
