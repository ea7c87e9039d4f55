-- Which strands reach the join of a block: those that reach a strand at its end.
use Rattle.std.proofs.Common.{ℕ, ◌≡◌, ◌≢◌, ◌⊎◌, ◌<◌, inl, inr, Bool, true, false, List, [], ◌∷◌, ◌++◌, refl, sym, ap, ◌∙◌, ◌||◌, zero, suc, replicate, Contains, append-nil, append_assoc, arith}
use Rattle.std.proofs.lemmas.Bool.{false_from_ne_true}
use Rattle.model_strands.specs.Address.{Word, child, next, join, Address, extended}
use Rattle.law_addresses.specs.Address.{is_fork, is_prefix, reaches, IsPrefix}
use Rattle.law_addresses.specs.Blocks.{joined, IsChain, IsLastOfChild, IsBeyond, Block, all_spawners, IsBlock, IsOlder}
use Rattle.law_addresses.specs.Laws.{JoinsFollowEnds}
use Rattle.law_addresses.proofs.Relations.{cases_same, is_prefix-decides, reaches-self, reaches-transitive}
use Rattle.law_addresses.proofs.Extensions.{reaches-append, reaches-extension, reaches-join}
use Rattle.law_addresses.proofs.Extremes.{contains-head, contains-tail, contains-cases}

-- Prefixes.

pub prefix-transitive : (a b c : Address) → IsPrefix a b → IsPrefix b c → IsPrefix a c
prefix-transitive a b c h k = (h.0 ++ k.0, k.1 ∙ ap (λ x. x ++ k.0) h.1 ∙ append_assoc a h.0 k.0)

pub prefix-reaches : (a b : Address) → IsPrefix a b → reaches a b ≡ true
prefix-reaches a b h = rw h.1 (reaches-extension a h.0)

pub joined-prefix : (a : Address) (word : Word) (blocks : ℕ) → IsPrefix a (joined (extended a word) blocks)
joined-prefix a word blocks = (word ∷ replicate blocks join, append_assoc a (word ∷ []) (replicate blocks join))

word-prefix : (a : Address) (word : Word) (rest b : Address) → b ≡ a ++ (word ∷ rest) → IsPrefix (extended a word) b
word-prefix a word rest b e = (rest, e ∙ sym (append_assoc a (word ∷ []) rest))

-- words behind one address go past the joins there, or into one of the blocks before
joins-passed : (blocks : ℕ) (rest : Address) → (reaches rest (replicate blocks join) ≡ true) ⊎ IsPrefix (replicate blocks join) rest
joins-passed zero rest = inr (rest, refl)
joins-passed (suc blocks) [] = inl refl
joins-passed (suc blocks) (child ∷ rest) = inl refl
joins-passed (suc blocks) (next ∷ rest) = inl refl
joins-passed (suc blocks) (join ∷ rest) = go (joins-passed blocks rest)
  where
    go : (reaches rest (replicate blocks join) ≡ true) ⊎ IsPrefix (replicate blocks join) rest →
        (reaches (join ∷ rest) (replicate (suc blocks) join) ≡ true) ⊎ IsPrefix (replicate (suc blocks) join) (join ∷ rest)
    go (inl h) = inl h
    go (inr h) = inr (h.0, ap (λ a. join ∷ a) h.1)

-- a strand behind a reaches the one behind the joins at a, or begins with it
pub joined-passed : (a strand : Address) (blocks : ℕ) → IsPrefix a strand → (reaches strand (joined a blocks) ≡ true) ⊎ IsPrefix (joined a blocks) strand
joined-passed a strand blocks h = go (joins-passed blocks h.0)
  where
    go : (reaches h.0 (replicate blocks join) ≡ true) ⊎ IsPrefix (replicate blocks join) h.0 →
        (reaches strand (joined a blocks) ≡ true) ⊎ IsPrefix (joined a blocks) strand
    go (inl k) = inl (rw h.1 (reaches-append a h.0 (replicate blocks join) ∙ k))
    go (inr k) = inr (k.0, h.1 ∙ ap (λ rest. a ++ rest) k.1 ∙ sym (append_assoc a (replicate blocks join) k.0))

at_end : (end strand : Address) → (IsBeyond end strand → ⊥) → IsPrefix end strand → reaches strand end ≡ true
at_end end strand none h = go (cases_same strand end)
  where
    go : (strand ≡ end) ⊎ (strand ≢ end) → reaches strand end ≡ true
    go (inl e) = rw e (reaches-self end)
    go (inr ne) = absurd (none (h, ne))

-- a strand of a finished child reaches the child's last strand
pub child-ends : (spawner last strand : Address) → IsLastOfChild spawner last → (IsBeyond last strand → ⊥) → IsPrefix (extended spawner child) strand →
    reaches strand last ≡ true
child-ends spawner last strand is_last none h = go (joined-passed (extended spawner child) strand is_last.0 h)
  where
    go : (reaches strand (joined (extended spawner child) is_last.0) ≡ true) ⊎ IsPrefix (joined (extended spawner child) is_last.0) strand → reaches strand last ≡ true
    go (inl k) = ap (reaches strand) is_last.1 ∙ k
    go (inr k) = at_end last strand none (k.0, k.1 ∙ ap (λ a. a ++ k.0) (sym is_last.1))

-- Chains of spawners.

pub chain-prefix : (start : Address) (spawners : List Address) (end : Address) → IsChain start spawners end → IsPrefix start end
chain-prefix start [] end h = ([], sym h ∙ sym (append-nil start))
chain-prefix start (spawner ∷ spawners) end h =
    rw h.0 (prefix-transitive spawner (joined (extended spawner next) h.1) end (joined-prefix spawner next h.1)
    (chain-prefix (joined (extended spawner next) h.1) spawners end h.2))

-- each spawner of a chain is behind its start
pub chain-member : (start : Address) (spawners : List Address) (end : Address) → IsChain start spawners end → (spawner : Address) → Contains spawners spawner →
    IsPrefix start spawner
chain-member start [] end h spawner member = absurd (let below : member.0 < 0 = member.1 in omega arith)
chain-member start (first ∷ spawners) end h spawner member =
    go (contains-cases first spawner spawners member) (chain-member (joined (extended first next) h.1) spawners end h.2 spawner)
  where
    go : (spawner ≡ first) ⊎ Contains spawners spawner → (Contains spawners spawner → IsPrefix (joined (extended first next) h.1) spawner) → IsPrefix start spawner
    go (inl e) ih = ([], e ∙ sym h.0 ∙ sym (append-nil start))
    go (inr k) ih = rw h.0 (prefix-transitive first (joined (extended first next) h.1) spawner (joined-prefix first next h.1) (ih k))

-- the end of a chain is behind the continuation of each spawner
pub chain-after : (start : Address) (spawners : List Address) (end : Address) → IsChain start spawners end → (spawner : Address) → Contains spawners spawner →
    IsPrefix (extended spawner next) end
chain-after start [] end chain spawner member = absurd (let below : member.0 < 0 = member.1 in omega arith)
chain-after start (first ∷ spawners) end chain spawner member =
    go (contains-cases first spawner spawners member) (chain-after (joined (extended first next) chain.1) spawners end chain.2 spawner)
  where
    behind : IsPrefix (extended first next) end
    behind =
        prefix-transitive (extended first next) (joined (extended first next) chain.1) end (replicate chain.1 join, refl)
        (chain-prefix (joined (extended first next) chain.1) spawners end chain.2)

    go : (spawner ≡ first) ⊎ Contains spawners spawner → (Contains spawners spawner → IsPrefix (extended spawner next) end) → IsPrefix (extended spawner next) end
    go (inl e) ih = rw e behind
    go (inr k) ih = ih k

-- each strand behind the start of a chain reaches the strand at its end, or the last strand of a child
pub chain-ends : (last : Address → Address) (strand start : Address) (spawners : List Address) (end : Address) → IsChain start spawners end →
    ((spawner : Address) → Contains spawners spawner → IsLastOfChild spawner (last spawner)) → (IsBeyond end strand → ⊥) →
    ((spawner : Address) → Contains spawners spawner → IsBeyond (last spawner) strand → ⊥) →
    ((spawner : Address) → Contains spawners spawner → IsPrefix (extended spawner join) strand → ⊥) → IsPrefix start strand →
    (reaches strand end ≡ true) ⊎ ((spawner : Address) × Contains spawners spawner × (reaches strand (last spawner) ≡ true))
chain-ends last strand start [] end chain lasts beyond beyond_last no_join h = inl (at_end end strand beyond (h.0, h.1 ∙ ap (λ a. a ++ h.0) chain))
chain-ends last strand start (first ∷ spawners) end chain lasts beyond beyond_last no_join h =
    words
    (λ k. chain-ends last strand (joined (extended first next) chain.1) spawners end chain.2
    (λ spawner member. lasts spawner (contains-tail first spawner spawners member)) beyond
    (λ spawner member. beyond_last spawner (contains-tail first spawner spawners member))
    (λ spawner member. no_join spawner (contains-tail first spawner spawners member)) k)
    h.0 (h.1 ∙ ap (λ a. a ++ h.0) chain.0)
  where
    after : Address
    after = joined (extended first next) chain.1

    to_tail : (reaches strand end ≡ true) ⊎ ((spawner : Address) × Contains spawners spawner × (reaches strand (last spawner) ≡ true)) →
        (reaches strand end ≡ true) ⊎ ((spawner : Address) × Contains (first ∷ spawners) spawner × (reaches strand (last spawner) ≡ true))
    to_tail (inl k) = inl k
    to_tail (inr (spawner, member, k)) = inr (spawner, contains-tail first spawner spawners member, k)

    own : IsLastOfChild first (last first)
    own = lasts first (contains-head first spawners)

    passed : (IsPrefix after strand → (reaches strand end ≡ true) ⊎ ((spawner : Address) × Contains spawners spawner × (reaches strand (last spawner) ≡ true))) →
        (reaches strand after ≡ true) ⊎ IsPrefix after strand →
        (reaches strand end ≡ true) ⊎ ((spawner : Address) × Contains (first ∷ spawners) spawner × (reaches strand (last spawner) ≡ true))
    passed ih (inl k) = inl (reaches-transitive strand after end k (prefix-reaches after end (chain-prefix after spawners end chain.2)))
    passed ih (inr k) = to_tail (ih k)

    words : (IsPrefix after strand → (reaches strand end ≡ true) ⊎ ((spawner : Address) × Contains spawners spawner × (reaches strand (last spawner) ≡ true))) →
        (rest : Address) → strand ≡ first ++ rest →
        (reaches strand end ≡ true) ⊎ ((spawner : Address) × Contains (first ∷ spawners) spawner × (reaches strand (last spawner) ≡ true))
    words ih [] e =
        let longer : IsPrefix first (last first) = rw own.1 (joined-prefix first child own.0) in
        inr (first, contains-head first spawners, rw (e, append-nil first) (prefix-reaches first (last first) longer))
    words ih (child ∷ rest) e =
        inr (first, contains-head first spawners, child-ends first (last first) strand own (beyond_last first (contains-head first spawners)) (word-prefix first child rest strand e))
    words ih (next ∷ rest) e = passed ih (joined-passed (extended first next) strand chain.1 (word-prefix first next rest strand e))
    words ih (join ∷ rest) e = absurd (no_join first (contains-head first spawners) (word-prefix first join rest strand e))

-- Blocks.

-- each strand on a side of the block reaches the join
pub inside-reaches : (opener : Address) (word : Word) → is_fork word ≡ true → (strand : Address) → IsPrefix (extended opener word) strand →
    reaches strand (extended opener join) ≡ true
inside-reaches opener child fork strand h = rw (h.1, append_assoc opener (child ∷ []) h.0) (reaches-append opener (child ∷ h.0) (join ∷ []))
inside-reaches opener next fork strand h = rw (h.1, append_assoc opener (next ∷ []) h.0) (reaches-append opener (next ∷ h.0) (join ∷ []))
inside-reaches opener join fork strand h = cc

module _ (block : Block) (is_block : IsBlock block) where
  -- each strand that reaches the join reaches the strand that syncs or the last strand of a child
  pub block-ends : (strand : Address) → IsOlder block strand → reaches strand (extended block.opener join) ≡ true →
      (reaches strand block.syncing ≡ true) ⊎ ((spawner : Address) × Contains (all_spawners block) spawner × (reaches strand (block.last spawner) ≡ true))
  block-ends strand older h = go (is_prefix block.opener strand) refl (sym (reaches-join strand block.opener apart) ∙ h)
    where
      apart : is_prefix (extended block.opener join) strand ≡ false
      apart =
          false_from_ne_true (is_prefix (extended block.opener join) strand)
          (λ k. older.not_behind_join block.opener (contains-head block.opener block.spawners) ((is_prefix-decides (extended block.opener join) strand).0 k))

      go : (t : Bool) → is_prefix block.opener strand ≡ t → (t || reaches strand block.opener) ≡ true →
          (reaches strand block.syncing ≡ true) ⊎ ((spawner : Address) × Contains (all_spawners block) spawner × (reaches strand (block.last spawner) ≡ true))
      go true e k =
          chain-ends block.last strand block.opener (all_spawners block) block.syncing is_block.chain is_block.lasts older.not_beyond_syncing older.not_beyond_last
          older.not_behind_join ((is_prefix-decides block.opener strand).0 e)
      go false e k =
          inl (reaches-transitive strand block.opener block.syncing k
          (prefix-reaches block.opener block.syncing (chain-prefix block.opener (all_spawners block) block.syncing is_block.chain)))

  -- and so do these: the strand that syncs, and the last strand of each child
  pub sync-reaches_join : reaches block.syncing (extended block.opener join) ≡ true
  sync-reaches_join =
      inside-reaches block.opener next refl block.syncing
      (chain-after block.opener (all_spawners block) block.syncing is_block.chain block.opener (contains-head block.opener block.spawners))

  pub last-reaches_join : (spawner : Address) → Contains (all_spawners block) spawner → reaches (block.last spawner) (extended block.opener join) ≡ true
  last-reaches_join spawner member = go (contains-cases block.opener spawner block.spawners member)
    where
      last : IsLastOfChild spawner (block.last spawner)
      last = is_block.lasts spawner member

      below : IsPrefix (extended spawner child) (block.last spawner)
      below = (replicate last.0 join, last.1)

      go : (spawner ≡ block.opener) ⊎ Contains block.spawners spawner → reaches (block.last spawner) (extended block.opener join) ≡ true
      go (inl e) = inside-reaches block.opener child refl (block.last spawner) (rw (← e) below)
      go (inr k) =
          let after = joined (extended block.opener next) is_block.chain.1 in
          let first = chain-member after block.spawners block.syncing is_block.chain.2 spawner k in
          let side = prefix-transitive (extended block.opener next) after spawner (replicate is_block.chain.1 join, refl) first in
          let longer = prefix-transitive spawner (extended spawner child) (block.last spawner) (child ∷ [], refl) below in
          inside-reaches block.opener next refl (block.last spawner) (prefix-transitive (extended block.opener next) spawner (block.last spawner) side longer)

pub joins-ends : JoinsFollowEnds
joins-ends block strand is_block older = (block-ends block is_block strand older, backward)
  where
    backward : (reaches strand block.syncing ≡ true) ⊎ ((spawner : Address) × Contains (all_spawners block) spawner × (reaches strand (block.last spawner) ≡ true)) →
        reaches strand (extended block.opener join) ≡ true
    backward (inl h) = reaches-transitive strand block.syncing (extended block.opener join) h (sync-reaches_join block is_block)
    backward (inr (spawner, member, h)) =
        reaches-transitive strand (block.last spawner) (extended block.opener join) h (last-reaches_join block is_block spawner member)
