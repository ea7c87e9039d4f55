-- The strands of a block in the serial order, cut into the views that its join combines.
-- a, b, c, u: addresses; X: the type of the members of lists; p, q: tests of members; t: a Boolean
use Rattle.std.proofs.Common.{ℕ, ◌≡◌, ◌⊎◌, ◌&&◌, ◌||◌, ltb, inl, inr, Bool, true, false, not, cond, List, [], ◌∷◌, ◌++◌, filter, All, AllPairs, Contains, slice_index_or, replicate, zero, suc, refl, sym, ap, ◌∙◌, append-nil, append_assoc, arith}
use Rattle.std.specs.List.{flat_map}
use Rattle.std.proofs.lemmas.Bool.{and_left, and_right, false_from_ne_true}
use Rattle.std.proofs.lemmas.Bool.Decides.{nat_tests}
use Rattle.std.proofs.lemmas.List.Elements.{All-head, All-tail}
use Rattle.model_strands.specs.Address.{child, next, join, Address, extended, same_word, differ, first_difference}
use Rattle.law_addresses.specs.Address.{before_at, is_prefix, is_prefix_at, reaches, english, english_before, IsPrefix}
use Rattle.law_addresses.specs.Blocks.{joined, IsChain, IsLastOfChild, IsBeyond, Block, all_spawners, IsBlock, IsOlder}
use Rattle.law_addresses.specs.Intervals.{view_root, is_within, between, in_view}
use Rattle.law_addresses.specs.Laws.{JoinsCombineViews}
use Rattle.law_addresses.specs.Sorted.{IsSortedBy}
use Rattle.law_addresses.proofs.Differences.{same_word-comm, first_difference-longer}
use Rattle.law_addresses.proofs.Orders.{english-ranks, before-transitive}
use Rattle.law_addresses.proofs.Relations.{is_prefix-decides}
use Rattle.law_addresses.proofs.Extensions.{before-from_extended, before-append}
use Rattle.law_addresses.proofs.Extremes.{before-ranks, before-passes, before-different, contains-head, contains-tail}
use Rattle.law_addresses.proofs.Sorted.{pairs-head, pairs-tail}
use Rattle.law_addresses.proofs.Blocks.{chain-prefix, chain-after, chain-ends, prefix-reaches, prefix-transitive}
use Rattle.law_addresses.proofs.Intervals.{reaches-before, is_within-parts, view_root-child, view_root-join, view_root-next, view_root-prefix}

-- Filters.

filter-alike : {X : Type 0} (p q : X → Bool) (xs : List X) → All (λ x. p x ≡ q x) xs → filter p xs ≡ filter q xs
filter-alike p q [] h = refl
filter-alike p q (x ∷ xs) h = rw (All-head (λ y. p y ≡ q y) x xs h, filter-alike p q xs (All-tail (λ y. p y ≡ q y) x xs h)) refl

filter-none : {X : Type 0} (p : X → Bool) (xs : List X) → All (λ x. p x ≡ false) xs → filter p xs ≡ []
filter-none p [] h = refl
filter-none p (x ∷ xs) h = rw (All-head (λ y. p y ≡ false) x xs h) (filter-none p xs (All-tail (λ y. p y ≡ false) x xs h))

-- a list filtered by either of two tests has first what passes one and then what passes the other, if they pass in that order
filter-or : {X : Type 0} (p q : X → Bool) (xs : List X) → All (λ x. (p x && q x) ≡ false) xs → AllPairs (λ x y. q x ≡ true → p y ≡ false) xs →
    filter (λ x. p x || q x) xs ≡ filter p xs ++ filter q xs
filter-or p q [] h k = refl
filter-or {X} p q (x ∷ xs) h k =
    go (p x) (q x) refl (All-head (λ y. (p y && q y) ≡ false) x xs h)
    (filter-or p q xs (All-tail (λ y. (p y && q y) ≡ false) x xs h) (pairs-tail (λ x y. q x ≡ true → p y ≡ false) x xs k))
  where
    after : All (λ y. q x ≡ true → p y ≡ false) xs
    after = pairs-head (λ x y. q x ≡ true → p y ≡ false) x xs k

    go : (s t : Bool) → q x ≡ t → (s && t) ≡ false → filter (λ x. p x || q x) xs ≡ filter p xs ++ filter q xs →
        cond (s || t) (x ∷ filter (λ x. p x || q x) xs) (filter (λ x. p x || q x) xs) ≡
        cond s (x ∷ filter p xs) (filter p xs) ++ cond t (x ∷ filter q xs) (filter q xs)
    go true true e apart ih = cc
    go true false e apart ih = ap (λ l. x ∷ l) ih
    go false true e apart ih =
        let none : filter p xs ≡ [] = filter-none p xs (λ i d below. after i d below e) in
        ap (λ l. x ∷ l) (ih ∙ ap (λ l. l ++ filter q xs) none) ∙ ap (λ l. l ++ (x ∷ filter q xs)) (sym none)
    go false false e apart ih = ih

-- The English order, by what is not before.

not_before-chain : (a b c : Address) → english_before b a ≡ false → english_before c b ≡ false → english_before c a ≡ false
not_before-chain a b c h k = (before-ranks english english-ranks (λ x. x)).chain a b c h k

one_way : (a b : Address) → english_before a b ≡ true → english_before b a ≡ false
one_way a b h = (before-ranks english english-ranks (λ x. x)).one_way b a h

or_false : (t : Bool) → t ≡ (t || false)
or_false true = refl
or_false false = refl

ltb-one_way : (m n : ℕ) → ltb m n ≡ true → ltb n m ≡ false
ltb-one_way m n h = grind (arith, nat_tests)

within-high : (first last a : Address) → english_before last a ≡ true → is_within first last a ≡ false
within-high first last a h = and_right (not (english_before a first)) (not (english_before last a)) (ap not h)

within-low : (first last a : Address) → english_before a first ≡ true → is_within first last a ≡ false
within-low first last a h = and_left (not (english_before a first)) (not (english_before last a)) (ap not h)

-- what is not after a second address is before each third that the second is before
before-from : (a b c : Address) → english_before b a ≡ false → english_before b c ≡ true → english_before a c ≡ true
before-from a b c h k = go (english_before a c) refl
  where
    go : (t : Bool) → english_before a c ≡ t → t ≡ true
    go true e = refl
    go false e = let clash = not_before-chain c a b e h in cc

-- what is from a to d is from a to b or from c to d, if b is before c and no item is between them
between-cut : {X : Type 0} (address : X → Address) (items : List X) (a b c d : Address) → IsSortedBy english address items →
    english_before b c ≡ true → english_before c a ≡ false → english_before d b ≡ false →
    All (λ item. english_before b (address item) ≡ true → english_before (address item) c ≡ false) items →
    between address items a d ≡ between address items a b ++ between address items c d
between-cut {X} address items a b c d sorted bc ac bd gap =
    filter-alike (λ x. is_within a d (address x)) (λ x. is_within a b (address x) || is_within c d (address x)) items
    (λ k e below. alike (address (slice_index_or items k e)) (gap k e below)) ∙
    filter-or (λ x. is_within a b (address x)) (λ x. is_within c d (address x)) items
    (λ k e below. apart (address (slice_index_or items k e)))
    (λ i j e ij below. in_order (address (slice_index_or items i e)) (address (slice_index_or items j e)) (sorted i j e ij below))
  where
    -- an address is past b, and so from c on; or it is up to b, and so before c
    past : (u : Address) → (english_before b u ≡ true → english_before u c ≡ false) → english_before b u ≡ true →
        is_within a d u ≡ (is_within a b u || is_within c d u)
    past u gap_u e =
        let from_c = gap_u e in
        let from_a : english_before u a ≡ false = not_before-chain a c u ac from_c in
        rw (e, from_c, from_a) refl

    upto : (u : Address) → english_before b u ≡ false → (english_before u c ≡ true) × (english_before d u ≡ false)
    upto u e = (before-from u b c e bc, not_before-chain u b d e bd)

    alike : (u : Address) → (english_before b u ≡ true → english_before u c ≡ false) → is_within a d u ≡ (is_within a b u || is_within c d u)
    alike u gap_u = go (english_before b u) refl
      where
        go : (t : Bool) → english_before b u ≡ t → is_within a d u ≡ (is_within a b u || is_within c d u)
        go true e = past u gap_u e
        go false e =
            let before_both = upto u e in
            rw (e, before_both.0, before_both.1) (or_false (not (english_before u a) && true))

    apart : (u : Address) → (is_within a b u && is_within c d u) ≡ false
    apart u = go (english_before b u) refl
      where
        go : (t : Bool) → english_before b u ≡ t → (is_within a b u && is_within c d u) ≡ false
        go true e = and_left (is_within a b u) (is_within c d u) (within-high a b u e)
        go false e = and_right (is_within a b u) (is_within c d u) (within-low c d u (upto u e).0)

    in_order : (u v : Address) → english_before u v ≡ true → is_within c d u ≡ true → is_within a b v ≡ false
    in_order u v uv h =
        let past_b = before-passes english english-ranks b c u bc (is_within-parts c d u h).0 in
        within-high a b v (before-transitive english b u v past_b uv)

-- The gaps of a block.

joins-last : (blocks : ℕ) (a : Address) → is_prefix (replicate blocks join) a ≡ false → english_before (replicate blocks join) a ≡ false
joins-last zero [] h = cc
joins-last zero (y ∷ a) h = cc
joins-last (suc blocks) [] h = refl
joins-last (suc blocks) (child ∷ a) h = refl
joins-last (suc blocks) (next ∷ a) h = refl
joins-last (suc blocks) (join ∷ a) h = joins-last blocks a h

-- nothing is between the last strand of a child and the continuation beside the child, if nothing is beyond that strand
child-gap : (blocks : ℕ) (spawner a : Address) → is_prefix (joined (extended spawner child) blocks) a ≡ false →
    english_before (joined (extended spawner child) blocks) a ≡ true → english_before a (extended spawner next) ≡ false
child-gap blocks [] [] h k = cc
child-gap blocks [] (child ∷ a) h k = let last = joins-last blocks a h in cc
child-gap blocks [] (next ∷ []) h k = refl
child-gap blocks [] (next ∷ (y ∷ a)) h k = refl
child-gap blocks [] (join ∷ a) h k = refl
child-gap blocks (x ∷ spawner) [] h k = cc
child-gap blocks (x ∷ spawner) (y ∷ a) h k = rw (same_word-comm y x) (go (same_word x y) (child-gap blocks spawner a) h k)
  where
    go : (t : Bool) →
        (is_prefix (joined (extended spawner child) blocks) a ≡ false → english_before (joined (extended spawner child) blocks) a ≡ true →
        english_before a (extended spawner next) ≡ false) →
        is_prefix_at (cond t (first_difference (joined (extended spawner child) blocks) a) (differ x y)) ≡ false →
        before_at english (cond t (first_difference (joined (extended spawner child) blocks) a) (differ x y)) ≡ true →
        before_at english (cond t (first_difference a (extended spawner next)) (differ y x)) ≡ false
    go true ih h k = ih h k
    go false ih h k = ltb-one_way (english x) (english y) k

not_beyond : (a b : Address) → (IsBeyond a b → ⊥) → english_before a b ≡ true → is_prefix a b ≡ false
not_beyond a b none h = false_from_ne_true (is_prefix a b) (λ k. none ((is_prefix-decides a b).0 k, λ e. before-different english a b h (sym e)))

-- the last strand of a child is before the continuation beside the child
last-before_next : (spawner last : Address) → IsLastOfChild spawner last → english_before last (extended spawner next) ≡ true
last-before_next spawner last is_last =
    rw (is_last.1, append_assoc spawner (child ∷ []) (replicate is_last.0 join)) (before-append english spawner (child ∷ replicate is_last.0 join) (next ∷ []))

gap-after_last : (spawner last a : Address) → IsLastOfChild spawner last → (IsBeyond last a → ⊥) → english_before last a ≡ true →
    english_before a (extended spawner next) ≡ false
gap-after_last spawner last a is_last none h =
    child-gap is_last.0 spawner a (rw is_last.1 at (not_beyond last a none h)) (rw is_last.1 at h)

-- the last strand of a child is before the strand at the end of the chain
last-before_end : (spawner last end : Address) → IsLastOfChild spawner last → IsPrefix (extended spawner next) end → english_before last end ≡ true
last-before_end spawner last end is_last h =
    before-passes english english-ranks last (extended spawner next) end (last-before_next spawner last is_last)
    (reaches-before (extended spawner next) end (prefix-reaches (extended spawner next) end h))

-- Where views begin.

view_root-joined : (blocks : ℕ) (a : Address) → view_root (joined a blocks) ≡ view_root a
view_root-joined zero a = ap view_root (append-nil a)
view_root-joined (suc blocks) a =
    ap view_root (sym (append_assoc a (join ∷ []) (replicate blocks join))) ∙ view_root-joined blocks (extended a join) ∙ view_root-join a

-- the view of a child's last strand begins where its spawner's does
pub view_root-last : (spawner last : Address) → IsLastOfChild spawner last → view_root last ≡ view_root spawner
view_root-last spawner last is_last = ap view_root is_last.1 ∙ view_root-joined is_last.0 (extended spawner child) ∙ view_root-child spawner

-- the view of a strand behind a spawner, through the joins of blocks, begins at the continuation
pub view_root-spawner : (spawner : Address) (blocks : ℕ) → view_root (joined (extended spawner next) blocks) ≡ extended spawner next
view_root-spawner spawner blocks = view_root-joined blocks (extended spawner next) ∙ view_root-next spawner

module _ {X : Type 0} (address : X → Address) (items : List X) (sorted : IsSortedBy english address items) (last : Address → Address) where
  -- the views of the children of a chain, and of the strand at its end, hold all that is from where the first one begins to that strand
  chain-spans : (start : Address) (spawners : List Address) (end : Address) → IsChain start spawners end →
      ((spawner : Address) → Contains spawners spawner → IsLastOfChild spawner (last spawner)) →
      ((spawner : Address) → Contains spawners spawner → All (λ item. IsBeyond (last spawner) (address item) → ⊥) items) →
      between address items (view_root start) end ≡ flat_map (λ spawner. in_view address items (last spawner)) spawners ++ in_view address items end
  chain-spans start [] end chain lasts beyond = ap (λ a. between address items (view_root a) end) chain
  chain-spans start (first ∷ spawners) end chain lasts beyond =
      ap (λ a. between address items (view_root a) end) chain.0 ∙
      between-cut address items (view_root first) (last first) (extended first next) end sorted (last-before_next first (last first) own) low at_end gap ∙
      ap (λ a. between address items a (last first) ++ between address items (extended first next) end) (sym (view_root-last first (last first) own)) ∙
      ap (λ l. in_view address items (last first) ++ l)
      (ap (λ a. between address items a end) (sym (view_root-spawner first chain.1)) ∙
      chain-spans (joined (extended first next) chain.1) spawners end chain.2 (λ spawner member. lasts spawner (contains-tail first spawner spawners member))
      (λ spawner member. beyond spawner (contains-tail first spawner spawners member))) ∙
      sym (append_assoc (in_view address items (last first)) (flat_map (λ spawner. in_view address items (last spawner)) spawners) (in_view address items end))
    where
      own : IsLastOfChild first (last first)
      own = lasts first (contains-head first spawners)

      low : english_before (extended first next) (view_root first) ≡ false
      low =
          reaches-before (view_root first) (extended first next)
          (prefix-reaches (view_root first) (extended first next)
          (prefix-transitive (view_root first) first (extended first next) (view_root-prefix first) (next ∷ [], refl)))

      at_end : english_before end (last first) ≡ false
      at_end =
          one_way (last first) end
          (last-before_end first (last first) end own (chain-after start (first ∷ spawners) end chain first (contains-head first spawners)))

      gap : All (λ item. english_before (last first) (address item) ≡ true → english_before (address item) (extended first next) ≡ false) items
      gap k d below h = gap-after_last first (last first) (address (slice_index_or items k d)) own (beyond first (contains-head first spawners) k d below) h

-- before the join begins, what is up to it is what is up to the strand that syncs
sync-gap : (block : Block) (strand : Address) → IsBlock block → IsOlder block strand →
    english_before (extended block.opener join) strand ≡ english_before block.syncing strand
sync-gap block strand is_block older = go (is_prefix block.opener strand) refl
  where
    to_syncing : IsPrefix block.opener block.syncing
    to_syncing = chain-prefix block.opener (all_spawners block) block.syncing is_block.chain

    up_to_syncing : IsPrefix block.opener strand → english_before block.syncing strand ≡ false
    up_to_syncing h =
        either
        (chain-ends block.last strand block.opener (all_spawners block) block.syncing is_block.chain is_block.lasts older.not_beyond_syncing older.not_beyond_last
        older.not_behind_join h)
      where
        either : (reaches strand block.syncing ≡ true) ⊎ ((spawner : Address) × Contains (all_spawners block) spawner × (reaches strand (block.last spawner) ≡ true)) →
            english_before block.syncing strand ≡ false
        either (inl k) = reaches-before strand block.syncing k
        either (inr (spawner, member, k)) =
            let behind = chain-after block.opener (all_spawners block) block.syncing is_block.chain spawner member in
            let ahead = last-before_end spawner (block.last spawner) block.syncing (is_block.lasts spawner member) behind in
            not_before-chain strand (block.last spawner) block.syncing (reaches-before strand (block.last spawner) k) (one_way (block.last spawner) block.syncing ahead)

    up_to_join : (rest : Address) → strand ≡ block.opener ++ rest → english_before (extended block.opener join) strand ≡ false
    up_to_join [] e = rw (e, append-nil block.opener, first_difference-longer block.opener join []) refl
    up_to_join (child ∷ rest) e = rw e (before-append english block.opener (join ∷ []) (child ∷ rest))
    up_to_join (next ∷ rest) e = rw e (before-append english block.opener (join ∷ []) (next ∷ rest))
    up_to_join (join ∷ rest) e =
        absurd (older.not_behind_join block.opener (contains-head block.opener block.spawners) (rest, e ∙ sym (append_assoc block.opener (join ∷ []) rest)))

    go : (t : Bool) → is_prefix block.opener strand ≡ t → english_before (extended block.opener join) strand ≡ english_before block.syncing strand
    go true e = let h = (is_prefix-decides block.opener strand).0 e in up_to_join h.0 h.1 ∙ sym (up_to_syncing h)
    go false e =
        before-from_extended english block.opener (join ∷ []) strand e ∙ sym (before-from_extended english block.opener to_syncing.0 strand e) ∙
        ap (λ a. english_before a strand) (sym to_syncing.1)

-- what a join's view holds is what those of the block's children hold, in the order of spawning, and then what that of the strand that syncs holds
pub join-spans : {X : Type 0} (address : X → Address) (items : List X) (block : Block) → IsSortedBy english address items → IsBlock block →
    All (λ item. IsOlder block (address item)) items →
    in_view address items (extended block.opener join) ≡
    flat_map (λ spawner. in_view address items (block.last spawner)) (all_spawners block) ++ in_view address items block.syncing
join-spans address items block sorted is_block older =
    ap (λ a. between address items a (extended block.opener join)) (view_root-join block.opener) ∙
    filter-alike (λ x. is_within (view_root block.opener) (extended block.opener join) (address x)) (λ x. is_within (view_root block.opener) block.syncing (address x)) items
    (λ k d below.
    ap (λ t. not (english_before (address (slice_index_or items k d)) (view_root block.opener)) && not t)
    (sync-gap block (address (slice_index_or items k d)) is_block (older k d below))) ∙
    chain-spans address items sorted block.last block.opener (all_spawners block) block.syncing is_block.chain is_block.lasts
    (λ spawner member k d below. (older k d below).not_beyond_last spawner member)

pub joins-combine : JoinsCombineViews
joins-combine = join-spans
