-- What holds of all addresses.
use Rattle.std.specs.Prelude.{◌≡◌, ◌≢◌, ◌⊎◌, ◌↔◌, ◌<◌, ℕ, Bool, false, List, ◌∷◌, ◌++◌, length, slice_index_or, All, Contains, IsTrue}
use Rattle.std.specs.List.{flat_map}
use Rattle.model_strands.specs.Address.{Word, Address, child, next, join, extended}
use Rattle.law_addresses.specs.Address.{english, hebrew, before, english_before}
use Rattle.law_addresses.specs.Address.{hebrew_before, reaches, parallel, is_prefix, branch, PartBy, IsSplit}
use Rattle.law_addresses.specs.Blocks.{Block, all_spawners, IsBlock, IsOlder}
use Rattle.law_addresses.specs.Dags.{AddressPath, IsStrandDag}
use Rattle.law_addresses.specs.Extremes.{last_of}
use Rattle.law_addresses.specs.Intervals.{view_root, is_within, in_view}
use Rattle.law_addresses.specs.Sorted.{IsSortedBy}

-- a test orders all addresses, and none before itself
pub record IsStrictTotalOrder (earlier : Address → Address → Bool) : Type 0 where
  pub irreflexive : (a : Address) → earlier a a ≡ false
  pub transitive : (a b c : Address) → IsTrue (earlier a b) → IsTrue (earlier b c) → IsTrue (earlier a c)
  pub total : (a b : Address) → a ≢ b → IsTrue (earlier a b) ⊎ IsTrue (earlier b a)

-- a test orders some addresses, and each with itself
pub record IsPartialOrder (below : Address → Address → Bool) : Type 0 where
  pub reflexive : (a : Address) → IsTrue (below a a)
  pub antisymmetric : (a b : Address) → IsTrue (below a b) → IsTrue (below b a) → a ≡ b
  pub transitive : (a b c : Address) → IsTrue (below a b) → IsTrue (below b c) → IsTrue (below a c)

-- two addresses part at the sides of a spawn exactly where its child reaches one of them alone and its continuation the other
abbrev pub SidesAreReached : Type 0
SidesAreReached = (a b : Address) → (IsSplit a b ↔ PartBy (λ word other. (word ≡ child) × (other ≡ next)) a b)

-- a path leads from one address to another exactly where both orders have it first
abbrev pub ReachIsBothOrders : Type 0
ReachIsBothOrders = (a b : Address) → a ≢ b → (IsTrue (reaches a b) ↔ (IsTrue (english_before a b) × IsTrue (hebrew_before a b)))

-- two addresses are parallel exactly where the orders disagree
abbrev pub ParallelIsDisagreement : Type 0
ParallelIsDisagreement = (a b : Address) → (IsTrue (parallel a b) ↔ (english_before a b ≢ hebrew_before a b))

-- a strand that leads to none of some others is parallel to one of them exactly where it is to one of the two last ones
abbrev pub ExtremesDecide : Type 0
ExtremesDecide =
    (address : ℕ → Address) (first : ℕ) (rest : List ℕ) (strand : Address) →
    ((item : ℕ) → Contains (first ∷ rest) item → address item ≢ strand → reaches strand (address item) ≡ false) →
    (((item : ℕ) × Contains (first ∷ rest) item × IsTrue (parallel (address item) strand)) ↔
    (IsTrue (parallel (address (last_of english address first rest)) strand) ⊎
    IsTrue (parallel (address (last_of hebrew address first rest)) strand)))

-- the strands of a test come with the other side of each spawn, and with the opener of each join
pub record IsClosed (has : Address → Bool) : Type 0 where
  pub siblings : (spawner : Address) → IsTrue (has (extended spawner child)) ↔ IsTrue (has (extended spawner next))
  pub openers : (opener : Address) → IsTrue (has (extended opener join)) → IsTrue (has opener)

-- among such strands those of one branch have the same peers, and no others do
abbrev pub BranchesArePeers : Type 0
BranchesArePeers =
    (has : Address → Bool) → IsClosed has → (a b : Address) → IsTrue (has a) → IsTrue (has b) →
    ((branch a ≡ branch b) ↔ ((peer : Address) → IsTrue (has peer) → (IsTrue (parallel peer a) ↔ IsTrue (parallel peer b))))

-- a join has the name of its opener, and no two of the strands that are branches have one name
pub record IsNamed {Name : Type 0} (Has : Address → Type 0) (name : Address → Name) : Type 0 where
  pub at_join : (opener : Address) → Has (extended opener join) → name (extended opener join) ≡ name opener
  pub distinct : (a b : Address) → Has a → Has b → branch a ≡ a → branch b ≡ b → name a ≡ name b → a ≡ b

-- such names tell the branches, among strands that come with the opener of each join
abbrev pub NamesDecide : Type 0
NamesDecide =
    (has : Address → Bool) (name : Address → ℕ) → ((opener : Address) → IsTrue (has (extended opener join)) → IsTrue (has opener)) →
    IsNamed (λ a. IsTrue (has a)) name → (a b : Address) → IsTrue (has a) → IsTrue (has b) → ((name a ≡ name b) ↔ (branch a ≡ branch b))

-- a later spawn of a block puts its child and its continuation directly behind the spawner
abbrev pub SpawnKeepsOrders : Type 0
SpawnKeepsOrders =
    (address : ℕ → Address) (front : List ℕ) (spawner child_strand next_strand : ℕ) (back : List ℕ) →
    address child_strand ≡ extended (address spawner) child → address next_strand ≡ extended (address spawner) next →
    All (λ item. is_prefix (address spawner) (address item) ≡ false) back →
    (IsSortedBy english address (front ++ (spawner ∷ back)) →
    IsSortedBy english address (front ++ (spawner ∷ (child_strand ∷ (next_strand ∷ back))))) ×
    (IsSortedBy hebrew address (front ++ (spawner ∷ back)) →
    IsSortedBy hebrew address (front ++ (spawner ∷ (next_strand ∷ (child_strand ∷ back)))))

-- the first spawn of a block puts the join behind them
abbrev pub OpeningKeepsOrders : Type 0
OpeningKeepsOrders =
    (address : ℕ → Address) (front : List ℕ) (spawner child_strand next_strand join_strand : ℕ) (back : List ℕ) →
    address child_strand ≡ extended (address spawner) child → address next_strand ≡ extended (address spawner) next →
    address join_strand ≡ extended (address spawner) join → All (λ item. is_prefix (address spawner) (address item) ≡ false) back →
    (IsSortedBy english address (front ++ (spawner ∷ back)) →
    IsSortedBy english address (front ++ (spawner ∷ (child_strand ∷ (next_strand ∷ (join_strand ∷ back)))))) ×
    (IsSortedBy hebrew address (front ++ (spawner ∷ back)) →
    IsSortedBy hebrew address (front ++ (spawner ∷ (next_strand ∷ (child_strand ∷ (join_strand ∷ back))))))

-- in a list that is in the order by a rank, an item stands before another exactly where its address is before the other's
abbrev pub PlacesAreOrder : (Word → ℕ) → Type 0
PlacesAreOrder rank =
    (address : ℕ → Address) (items : List ℕ) →
    IsSortedBy rank address items → (place other : ℕ) → place < length items → other < length items →
    (IsTrue (before rank (address (slice_index_or items place 0)) (address (slice_index_or items other 0))) ↔ (place < other))

-- the strands on the paths from the root of a strand's view to the strand are those that the serial order has there
abbrev pub ViewsAreIntervals : Type 0
ViewsAreIntervals =
    (strand a : Address) →
    ((IsTrue (reaches (view_root strand) a) × IsTrue (reaches a strand)) ↔ IsTrue (is_within (view_root strand) strand a))

-- and so between two strands of one branch, one of which reaches the other
abbrev pub BranchesAreIntervals : Type 0
BranchesAreIntervals =
    (first last a : Address) → branch first ≡ branch last → IsTrue (reaches first last) →
    ((IsTrue (reaches first a) × IsTrue (reaches a last)) ↔ IsTrue (is_within first last a))

-- what a join's view holds is what the views of the block's children hold, in the order of spawning, and then what that of the strand that
-- syncs holds
abbrev pub JoinsCombineViews : Type 0
JoinsCombineViews =
    (address : ℕ → Address) (items : List ℕ) (block : Block) →
    IsSortedBy english address items → IsBlock block → All (λ item. IsOlder block (address item)) items →
    in_view address items (extended block.opener join) ≡
    flat_map (λ spawner. in_view address items (block.last spawner)) (all_spawners block) ++ in_view address items block.syncing

-- what reaches a join, before it begins, is what reaches the strand that syncs or the last strand of a child
abbrev pub JoinsFollowEnds : Type 0
JoinsFollowEnds =
    (block : Block) (strand : Address) → IsBlock block → IsOlder block strand →
    (IsTrue (reaches strand (extended block.opener join)) ↔
    (IsTrue (reaches strand block.syncing) ⊎
    ((spawner : Address) × Contains (all_spawners block) spawner × IsTrue (reaches strand (block.last spawner)))))

-- in a dag whose edges are those of spawns and joins, a path leads from a strand to another exactly where its address reaches the other's
abbrev pub PathsAreReach : Type 0
PathsAreReach =
    (begun : Address → Bool) (edge : Address → Address → Bool) → IsStrandDag (λ a. IsTrue (begun a)) (λ a b. IsTrue (edge a b)) →
    (a b : Address) → IsTrue (begun a) → IsTrue (begun b) → (AddressPath (λ c d. IsTrue (edge c d)) a b ↔ IsTrue (reaches a b))
