-- A spawn that is outstanding at a strand: the other one of the strands that it began is parallel to it.
use Rattle.std.proofs.Common.{◌≡◌, ◌≢◌, ◌⊎◌, inl, inr, ℕ, zero, suc, ◌<◌, true, false, [], ◌∷◌, ◌++◌, Option, Some, None, refl, sym, ap, ◌∙◌, subst, append_assoc, arith}
use Rattle.std.specs.Prelude.{MatchOption, IfSome}
use Rattle.model_strands.specs.Address.{Word, child, next, join, Address}
use Rattle.law_addresses.specs.Address.{parallel, IsPrefix}
use Rattle.law_addresses.proofs.Extensions.{parallel-append}
use Rattle.law_addresses.proofs.Blocks.{prefix-reaches}
use Rattle.model_strands.specs.declared.spawned.Spawned.{Spawned}
use Rattle.model_strands.specs.Strands.{Begun, unused}
use Rattle.model_strands.specs.Legal.{Legal}
use Rattle.model_strands.specs.Dag.{IsParallel}
use Rattle.model_strands.specs.Addresses.{address}
use Rattle.law_strands.proofs.Words.{◌▹◌, prefix_refl, prefix_of_longer, prefix_longer, prefix_widen}
use Rattle.law_strands.proofs.Addresses.{addresses}
use Rattle.law_strands.proofs.Law.{begun_below, precedes_reach}
use Rattle.law_strands.proofs.Range.{ranges}
use Rattle.law_strands.proofs.Orders.{address_tests_law}
use Rattle.model_histories.specs.Entries.{Entries, control_part}
use Rattle.race_pairs.specs.declared.lineage.OpenSpawn.{OpenSpawn}
use Rattle.race_pairs.specs.Makers.{IsSpawn, maker}
use Rattle.race_pairs.specs.Climbs.{Climbs}
use Rattle.race_pairs.specs.OpenSpawns.{IsNeither, IsOpposite, IsOutstanding}
use Rattle.race_pairs.proofs.Made.{Made, origins}
use Rattle.race_pairs.proofs.Climbing.{made, same_spawn, climbs_swap}

-- Addresses behind one spawner.

behind_one : (a b c rest : Address) (x y : Word) → b ≡ (a ▹ x) ++ rest → c ≡ a ▹ y → parallel b c ≡ parallel (x ∷ rest) (y ∷ [])
behind_one a b c rest x y e f =
    ap (λ (z : Address). parallel z c) (e ∙ append_assoc a (x ∷ []) rest) ∙
    (ap (parallel (a ++ (x ∷ rest))) f ∙ parallel-append a (x ∷ rest) (y ∷ []))

beside_next : (word : Word) (rest : Address) → (word ≡ child → ⊥) → parallel (word ∷ rest) (next ∷ []) ≡ false
beside_next child rest none = absurd (none refl)
beside_next next [] none = refl
beside_next next (x ∷ rest) none = refl
beside_next join rest none = refl

beside_child : (word : Word) (rest : Address) → (word ≡ next → ⊥) → parallel (word ∷ rest) (child ∷ []) ≡ false
beside_child next rest none = absurd (none refl)
beside_child child [] none = refl
beside_child child (x ∷ rest) none = refl
beside_child join rest none = refl

-- What a spawn made, by the words behind its spawner.

record Spot (entries : Entries) (spawner : ℕ) (spawned : Spawned) (strand : ℕ) : Type 0 where
  pub spawner_known : spawner < unused (control_part entries)
  pub spawner_earlier : maker entries spawner < maker entries strand
  pub child_begun : Begun (control_part entries) spawned.child
  pub next_begun : Begun (control_part entries) spawned.next
  pub child_at : address (control_part entries) spawned.child ≡ address (control_part entries) spawner ▹ child
  pub next_at : address (control_part entries) spawned.next ≡ address (control_part entries) spawner ▹ next
  pub word : Word
  pub own_at : address (control_part entries) strand ≡ address (control_part entries) spawner ▹ word

spot : (entries : Entries) → Legal (control_part entries) → (strand : ℕ) → strand < unused (control_part entries) → 0 < maker entries strand →
    (spawner : ℕ) (spawned : Spawned) → IsSpawn entries (maker entries strand) spawner spawned → Spot entries spawner spawned strand
spot entries l strand known some spawner spawned is = subst (λ (s : ℕ). Spot entries s spawned strand) of_it.0 (subst (λ (b : Spawned). Spot entries w.spawner b strand) of_it.1 at_made)
  where
    w : Made entries (control_part entries) (maker entries) strand
    w = made entries l strand known some

    of_it : (w.spawner ≡ spawner) × (w.began ≡ spawned)
    of_it = same_spawn entries (maker entries strand) w.spawner spawner w.began spawned w.spawn is

    at_made : Spot entries w.spawner w.began strand
    at_made = record {
      spawner_known = w.spawner_known;
      spawner_earlier = w.earlier;
      child_begun = w.child_begun;
      next_begun = w.next_begun;
      child_at = w.child_address;
      next_at = w.next_address;
      word = w.word;
      own_at = w.own_address;
    }

known_of : (entries : Entries) → Legal (control_part entries) → (strand : ℕ) → Begun (control_part entries) strand → strand < unused (control_part entries)
known_of entries l strand begun = begun_below (control_part entries) (ranges l) strand begun

-- the peer has begun
peer_begun : (entries : Entries) (spawner : ℕ) (spawned : Spawned) (side peer : ℕ) → Spot entries spawner spawned side → IsOpposite spawned side peer →
    Begun (control_part entries) peer
peer_begun entries spawner spawned side peer at_side (inl t) = subst (Begun (control_part entries)) (sym t.1) at_side.next_begun
peer_begun entries spawner spawned side peer at_side (inr t) = subst (Begun (control_part entries)) (sym t.1) at_side.child_begun

-- it is parallel to what came by the side
peer_parallel : (entries : Entries) → Legal (control_part entries) → (spawner : ℕ) (spawned : Spawned) (side peer strand : ℕ) →
    Spot entries spawner spawned side → IsOpposite spawned side peer → Begun (control_part entries) strand →
    IsPrefix (address (control_part entries) side) (address (control_part entries) strand) → IsParallel (control_part entries) strand peer
peer_parallel entries l spawner spawned side peer strand at_side opposite begun p =
    (address_tests_law (control_part entries) l strand peer begun (peer_begun entries spawner spawned side peer at_side opposite)).1.1 (told opposite)
  where
    at_address : (x : ℕ) (word : Word) → x ≡ side → address (control_part entries) x ≡ address (control_part entries) spawner ▹ word →
        address (control_part entries) strand ≡ (address (control_part entries) spawner ▹ word) ++ p.0
    at_address x word e f = p.1 ∙ ap (λ (z : Address). z ++ p.0) (ap (address (control_part entries)) (sym e) ∙ f)

    told : IsOpposite spawned side peer → parallel (address (control_part entries) strand) (address (control_part entries) peer) ≡ true
    told (inl t) =
        behind_one (address (control_part entries) spawner) _ _ p.0 child next (at_address spawned.child child (sym t.0) at_side.child_at)
        (ap (address (control_part entries)) t.1 ∙ at_side.next_at)
    told (inr t) =
        behind_one (address (control_part entries) spawner) _ _ p.0 next child (at_address spawned.next next (sym t.0) at_side.next_at)
        (ap (address (control_part entries)) t.1 ∙ at_side.child_at)

-- and not to what came by another strand that the spawn made
peer_ordered : (entries : Entries) → Legal (control_part entries) → (spawner : ℕ) (spawned : Spawned) (side other peer strand : ℕ) →
    Spot entries spawner spawned side → Spot entries spawner spawned other → other < unused (control_part entries) → side ≢ other →
    IsOpposite spawned side peer → Begun (control_part entries) strand → IsPrefix (address (control_part entries) other) (address (control_part entries) strand) →
    IsParallel (control_part entries) strand peer → ⊥
peer_ordered entries l spawner spawned side other peer strand at_side at_other known differ opposite begun p both =
    let yes = (address_tests_law (control_part entries) l strand peer begun (peer_begun entries spawner spawned side peer at_side opposite)).1.0 both in
    let no = told opposite in cc
  where
    is_side : (x : ℕ) (word : Word) → x ≡ side → Begun (control_part entries) x →
        address (control_part entries) x ≡ address (control_part entries) spawner ▹ word → at_other.word ≡ word → ⊥
    is_side x word e b f g =
        differ (sym e ∙ (addresses l).distinct x other (known_of entries l x b) known
        (f ∙ (ap (λ (z : Word). address (control_part entries) spawner ▹ z) (sym g) ∙ sym at_other.own_at)))

    at_strand : address (control_part entries) strand ≡ (address (control_part entries) spawner ▹ at_other.word) ++ p.0
    at_strand = p.1 ∙ ap (λ (z : Address). z ++ p.0) at_other.own_at

    told : IsOpposite spawned side peer → parallel (address (control_part entries) strand) (address (control_part entries) peer) ≡ false
    told (inl t) =
        behind_one (address (control_part entries) spawner) _ _ p.0 at_other.word next at_strand (ap (address (control_part entries)) t.1 ∙ at_side.next_at) ∙
        beside_next at_other.word p.0 (is_side spawned.child child (sym t.0) at_side.child_begun at_side.child_at)
    told (inr t) =
        behind_one (address (control_part entries) spawner) _ _ p.0 at_other.word child at_strand (ap (address (control_part entries)) t.1 ∙ at_side.child_at) ∙
        beside_child at_other.word p.0 (is_side spawned.next next (sym t.0) at_side.next_begun at_side.next_at)

-- nor to a strand that stands before the spawner or is it
peer_behind : (entries : Entries) → Legal (control_part entries) → (spawner : ℕ) (spawned : Spawned) (side peer earlier : ℕ) →
    Spot entries spawner spawned side → IsOpposite spawned side peer → Begun (control_part entries) earlier →
    IsPrefix (address (control_part entries) earlier) (address (control_part entries) spawner) → IsParallel (control_part entries) earlier peer → ⊥
peer_behind entries l spawner spawned side peer earlier at_side opposite begun p both =
    both.0 (precedes_reach (control_part entries) l earlier peer begun (peer_begun entries spawner spawned side peer at_side opposite)
    (prefix-reaches (address (control_part entries) earlier) (address (control_part entries) peer) (within opposite)))
  where
    within : IsOpposite spawned side peer → IsPrefix (address (control_part entries) earlier) (address (control_part entries) peer)
    within (inl t) =
        subst (IsPrefix (address (control_part entries) earlier)) (sym (ap (address (control_part entries)) t.1 ∙ at_side.next_at))
        (prefix_widen (address (control_part entries) earlier) (address (control_part entries) spawner) next p)
    within (inr t) =
        subst (IsPrefix (address (control_part entries) earlier)) (sym (ap (address (control_part entries)) t.1 ∙ at_side.child_at))
        (prefix_widen (address (control_part entries) earlier) (address (control_part entries) spawner) child p)

side_of : (spawned : Spawned) (side peer : ℕ) → IsOpposite spawned side peer → (peer ≡ spawned.child) ⊎ (peer ≡ spawned.next)
side_of spawned side peer (inl t) = inr t.1
side_of spawned side peer (inr t) = inl t.1

-- The way from a strand back to an earlier one, from which spawns and syncs lead to it.

pub record OnWay (entries : Entries) (earlier strand here : ℕ) : Type 0 where
  pub known : here < unused (control_part entries)
  pub leads : IsPrefix (address (control_part entries) earlier) (address (control_part entries) here)
  pub begins : IsPrefix (address (control_part entries) here) (address (control_part entries) strand)

pub way_first : (entries : Entries) → Legal (control_part entries) → (earlier strand : ℕ) → Begun (control_part entries) strand →
    IsPrefix (address (control_part entries) earlier) (address (control_part entries) strand) → OnWay entries earlier strand strand
way_first entries l earlier strand begun p = record {
  known = known_of entries l strand begun;
  leads = p;
  begins = prefix_refl (address (control_part entries) strand);
}

-- what made the strand came behind the earlier one, so its spawner is on the way as well
spawner_leads : (entries : Entries) → Legal (control_part entries) → (earlier strand here : ℕ) → OnWay entries earlier strand here →
    Begun (control_part entries) earlier → maker entries earlier < maker entries here → (spawner : ℕ) (spawned : Spawned) →
    Spot entries spawner spawned here → IsPrefix (address (control_part entries) earlier) (address (control_part entries) spawner)
spawner_leads entries l earlier strand here way begun later spawner spawned at_here =
    elim (prefix_longer (address (control_part entries) earlier) (address (control_part entries) spawner) at_here.word
    (subst (IsPrefix (address (control_part entries) earlier)) at_here.own_at way.leads)) [
      | inl q ↦ q
      | inr e ↦ (let same : earlier ≡ here = (addresses l).distinct earlier here (known_of entries l earlier begun) way.known (e ∙ sym at_here.own_at) in
          let alike : maker entries earlier ≡ maker entries here = ap (maker entries) same in absurd (omega arith))
    ]

pub way_back : (entries : Entries) → Legal (control_part entries) → (earlier strand here : ℕ) → OnWay entries earlier strand here →
    Begun (control_part entries) earlier → maker entries earlier < maker entries here → (spawner : ℕ) (spawned : Spawned) →
    IsSpawn entries (maker entries here) spawner spawned → OnWay entries earlier strand spawner × (maker entries spawner < maker entries here)
way_back entries l earlier strand here way begun later spawner spawned is =
    let at_here = spot entries l here way.known (omega arith) spawner spawned
    is in (
      record {
        known = at_here.spawner_known;
        leads = spawner_leads entries l earlier strand here way begun (omega arith) spawner spawned at_here;
        begins = prefix_of_longer (address (control_part entries) spawner) (address (control_part entries) strand) at_here.word
            (subst (λ (z : Address). IsPrefix z (address (control_part entries) strand)) at_here.own_at way.begins);
      },
      at_here.spawner_earlier,
    )

-- the strand came by one of the two that run behind the spawn
pub way_outstanding : (entries : Entries) → Legal (control_part entries) → (earlier strand here : ℕ) → OnWay entries earlier strand here →
    Begun (control_part entries) earlier → Begun (control_part entries) strand → maker entries earlier < maker entries here →
    (number : ℕ) → number ≡ maker entries here → (spawner : ℕ) (spawned : Spawned) → IsSpawn entries (maker entries here) spawner spawned → (peer : ℕ) → IsOpposite spawned here peer →
    IsOutstanding entries earlier strand
    (record { entry = number; spawner = spawner; spawned = spawned; peer = peer; parallel = strand; ordered = earlier })
way_outstanding entries l earlier strand here way begun begun_too later number number_is spawner spawned is peer opposite =
    let at_here = spot entries l here way.known (omega arith) spawner spawned
    is in
    record {
      spawn = subst (λ (n : ℕ). IsSpawn entries n spawner spawned) (sym number_is) is;
      side = side_of spawned here peer opposite;
      strands = inr (refl, refl);
      begun = peer_begun entries spawner spawned here peer at_here opposite;
      parallel_to = peer_parallel entries l spawner spawned here peer strand at_here opposite begun_too way.begins;
      ordered_with = peer_behind entries l spawner spawned here peer earlier at_here opposite begun
          (spawner_leads entries l earlier strand here way begun (omega arith) spawner spawned at_here);
    }

-- Two climbs that came to two strands that one spawn made.

-- strands that no entry made are one
root_of : (entries : Entries) → Legal (control_part entries) → (strand : ℕ) → strand < unused (control_part entries) → maker entries strand ≡ 0 → strand ≡ 0
root_of entries l strand known none = elim (origins entries l strand known) [
  | inl t ↦ t.0
  | inr w ↦ absurd (let up : maker entries w.spawner < maker entries strand = w.earlier in omega arith)
]

pub some_maker : (entries : Entries) → Legal (control_part entries) → (first second one two : ℕ) → Climbs entries first second one two →
    maker entries one ≡ maker entries two → one ≢ two → 0 < maker entries one
some_maker entries l first second one two c alike differ =
    elim (zero_or_more (maker entries one)) [
      | inl e ↦ (absurd (differ (root_of entries l one c.one_known (e) ∙
          sym (root_of entries l two c.two_known (sym alike ∙ (e))))))
      | inr lt ↦ lt
    ]
  where
    zero_or_more : (n : ℕ) → (n ≡ 0) ⊎ (0 < n)
    zero_or_more zero = inl refl
    zero_or_more (suc n) = inr (omega arith)

opposite_of : (spawned : Spawned) (side : ℕ) (found : Option ℕ) → MatchOption found (IsNeither spawned side) (IsOpposite spawned side) → (peer : ℕ) →
    found ≡ Some peer → IsOpposite spawned side peer
opposite_of spawned side (Some one) told peer e = let is : one ≡ peer = cc in subst (IsOpposite spawned side) is told
opposite_of spawned side None told peer e = absurd (cc)

-- at the side of the first the peer is parallel to the first and not to the second
pub outstanding_first : (entries : Entries) → Legal (control_part entries) → (first second one two : ℕ) →
    Climbs entries first second one two → Begun (control_part entries) first → Begun (control_part entries) second →
    maker entries one ≡ maker entries two → one ≢ two → (number : ℕ) → number ≡ maker entries one → (spawner : ℕ) (spawned : Spawned) →
    IsSpawn entries number spawner spawned → (peer : ℕ) → IsOpposite spawned one peer →
    IsOutstanding entries first second
    (record { entry = number; spawner = spawner; spawned = spawned; peer = peer; parallel = first; ordered = second })
outstanding_first entries l first second one two c begun begun_too alike differ number at_number spawner spawned is peer opposite =
    let some = some_maker entries l first second one two c alike differ in
    let spawn_one = subst (λ (n : ℕ). IsSpawn entries n spawner spawned) at_number is in
    let spot_one = spot entries l one c.one_known (omega arith) spawner spawned spawn_one in
    let spot_two = spot entries l two c.two_known (omega arith) spawner spawned (subst (λ (n : ℕ). IsSpawn entries n spawner spawned) alike spawn_one) in
    record {
      spawn = is;
      side = side_of spawned one peer opposite;
      strands = inl (refl, refl);
      begun = peer_begun entries spawner spawned one peer spot_one opposite;
      parallel_to = peer_parallel entries l spawner spawned one peer first spot_one opposite begun c.one_begins;
      ordered_with = peer_ordered entries l spawner spawned one two peer second spot_one spot_two c.two_known differ opposite begun_too c.two_begins;
    }

pub outstanding_swap : (entries : Entries) (first second : ℕ) (found : OpenSpawn) → IsOutstanding entries second first found → IsOutstanding entries first second found
outstanding_swap entries first second found o = record {
  spawn = o.spawn;
  side = o.side;
  strands = elim o.strands [ inl t ↦ inr t | inr t ↦ inl t ];
  begun = o.begun;
  parallel_to = o.parallel_to;
  ordered_with = o.ordered_with;
}

-- at the side of the second the other way round
pub outstanding_second : (entries : Entries) → Legal (control_part entries) → (first second one two : ℕ) →
    Climbs entries first second one two → Begun (control_part entries) first → Begun (control_part entries) second →
    maker entries one ≡ maker entries two → one ≢ two → (number : ℕ) → number ≡ maker entries one → (spawner : ℕ) (spawned : Spawned) →
    IsSpawn entries number spawner spawned → (peer : ℕ) → IsOpposite spawned two peer →
    IsOutstanding entries first second
    (record { entry = number; spawner = spawner; spawned = spawned; peer = peer; parallel = second; ordered = first })
outstanding_second entries l first second one two c begun begun_too alike differ number at_number spawner spawned is peer opposite =
    outstanding_swap entries first second _
    (outstanding_first entries l second first two one (climbs_swap entries first second one two c) begun_too begun (sym alike)
    (λ e. differ (sym e)) number (at_number ∙ alike) spawner spawned is peer opposite)

-- what is told of one of the two sides
pub outstanding_told : (entries : Entries) → Legal (control_part entries) → (first second one two : ℕ) →
    Climbs entries first second one two → Begun (control_part entries) first → Begun (control_part entries) second →
    maker entries one ≡ maker entries two → one ≢ two → (number : ℕ) → number ≡ maker entries one → (spawner : ℕ) (spawned : Spawned) →
    IsSpawn entries number spawner spawned → (side : ℕ × ℕ × ℕ) → (side ≡ (one, first, second)) ⊎ (side ≡ (two, second, first)) →
    (found : Option ℕ) → MatchOption found (IsNeither spawned side.0) (IsOpposite spawned side.0) → (peer : ℕ) → found ≡ Some peer →
    IsOutstanding entries first second
    (record { entry = number; spawner = spawner; spawned = spawned; peer = peer; parallel = side.1; ordered = side.2 })
outstanding_told entries l first second one two c begun begun_too alike differ number number_is spawner spawned is side (inl e) found told peer f =
    let opposite = subst (λ (z : ℕ). IsOpposite spawned z peer) (ap (λ (z : ℕ × ℕ × ℕ). z.0) e) (opposite_of spawned side.0 found told peer f) in
    subst (λ (z : ℕ × ℕ × ℕ). IsOutstanding entries first second
    (record { entry = number; spawner = spawner; spawned = spawned; peer = peer; parallel = z.1; ordered = z.2 })) (sym e)
    (outstanding_first entries l first second one two c begun begun_too alike differ number number_is spawner spawned is peer opposite)
outstanding_told entries l first second one two c begun begun_too alike differ number number_is spawner spawned is side (inr e) found told peer f =
    let opposite = subst (λ (z : ℕ). IsOpposite spawned z peer) (ap (λ (z : ℕ × ℕ × ℕ). z.0) e) (opposite_of spawned side.0 found told peer f) in
    subst (λ (z : ℕ × ℕ × ℕ). IsOutstanding entries first second
    (record { entry = number; spawner = spawner; spawned = spawned; peer = peer; parallel = z.1; ordered = z.2 })) (sym e)
    (outstanding_second entries l first second one two c begun begun_too alike differ number number_is spawner spawned is peer opposite)

pub swapped : (entries : Entries) (first second : ℕ) (found : Option OpenSpawn) → IfSome found (IsOutstanding entries second first) →
    IfSome found (IsOutstanding entries first second)
swapped entries first second (Some found) o = outstanding_swap entries first second found o
swapped entries first second None o = o
