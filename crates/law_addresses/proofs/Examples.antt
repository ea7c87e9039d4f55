-- Small cases.
use Rattle.std.proofs.Common.{◌≡◌, ◌⊎◌, ◌<◌, inl, inr, true, [], ◌∷◌, Contains, refl, arith}
use Rattle.model_strands.specs.Address.{Address, child, next, join}
use Rattle.law_addresses.specs.Address.{reaches, parallel, english_before, hebrew_before, branch}
use Rattle.law_addresses.specs.Blocks.{Block, all_spawners, IsBlock, IsOlder}
use Rattle.law_addresses.specs.Intervals.{view_root, in_view}
use Rattle.law_addresses.proofs.Extremes.{contains-cases}

-- A spawn's child and its continuation are parallel. The one is first in the English order, the other in the Hebrew one.

sides-parallel : parallel (child ∷ []) (next ∷ []) ≡ true
sides-parallel = refl

child-first_in_english : english_before (child ∷ (join ∷ [])) (next ∷ []) ≡ true
child-first_in_english = refl

next-first_in_hebrew : hebrew_before (next ∷ (child ∷ [])) (child ∷ []) ≡ true
next-first_in_hebrew = refl

-- Both sides reach the join.

child-reaches_join : reaches (child ∷ (join ∷ [])) (join ∷ []) ≡ true
child-reaches_join = refl

next-reaches_join : reaches (next ∷ (child ∷ [])) (join ∷ []) ≡ true
next-reaches_join = refl

-- The branch of a join is that of the strand that opened its block, and a join inside an address stays.

join-keeps_branch : branch (child ∷ (join ∷ (join ∷ []))) ≡ child ∷ []
join-keeps_branch = refl

inner-join_stays : branch (join ∷ (next ∷ [])) ≡ join ∷ (next ∷ [])
inner-join_stays = refl

-- A view begins at the last continuation.

view-from_next : view_root (next ∷ (child ∷ (join ∷ []))) ≡ next ∷ []
view-from_next = refl

-- The block of one spawn by the first strand, before its join begins.

abbrev first_block : Block
first_block = record { opener = []; spawners = []; syncing = next ∷ []; last = λ spawner. child ∷ [] }

only_spawner : (spawner : Address) → Contains (all_spawners first_block) spawner → spawner ≡ []
only_spawner spawner member = go (contains-cases [] spawner [] member)
  where
    go : (spawner ≡ []) ⊎ Contains [] spawner → spawner ≡ []
    go (inl e) = e
    go (inr k) = absurd (let below : k.0 < 0 = k.1 in omega arith)

first_block-is_block : IsBlock first_block
first_block-is_block = record {
  chain = (refl, 0, refl);
  lasts = λ spawner member. let e = only_spawner spawner member in (0, rw e refl);
}

child-is_older : IsOlder first_block (child ∷ [])
child-is_older = record {
  not_beyond_syncing = λ h. let e : child ∷ [] ≡ next ∷ h.0.0 = h.0.1 in cc;
  not_beyond_last = λ spawner member h. h.1 refl;
  not_behind_join = λ spawner member h. let e : child ∷ [] ≡ join ∷ h.0 = rw (only_spawner spawner member) at h.1 in cc;
}

join-views : in_view (λ a. a) ([] ∷ ((child ∷ []) ∷ ((next ∷ []) ∷ []))) (join ∷ []) ≡ [] ∷ ((child ∷ []) ∷ ((next ∷ []) ∷ []))
join-views = refl
