-- Two climbs by jumps: they pass no spawn at which two strands part.
-- a, b, x, y: addresses; es: the entries
use Rattle.std.proofs.Common.{◌≡◌, ◌⊎◌, inl, inr, ℕ, suc, ◌<◌, ◌≤◌, List, [], ◌∷◌, ◌++◌, length, get_or, refl, sym, ap, ◌∙◌, subst, append-nil, arith}
use Rattle.std.proofs.lemmas.Bool.{cases_Bool}
use Rattle.std.proofs.lemmas.List.{length-append}
use Rattle.model_strands.specs.Address.{child, Address}
use Rattle.model_strands.specs.declared.spawned.Spawned.{Spawned}
use Rattle.model_strands.specs.Strands.{unused}
use Rattle.model_strands.specs.Legal.{Legal}
use Rattle.model_strands.specs.Addresses.{address}
use Rattle.law_addresses.specs.Address.{is_prefix, parallel, IsPrefix}
use Rattle.law_addresses.proofs.Blocks.{prefix-transitive}
use Rattle.law_addresses.proofs.Differences.{first_difference-longer}
use Rattle.law_addresses.proofs.Extensions.{first_difference-extended}
use Rattle.law_addresses.proofs.Relations.{cases_same, is_prefix-decides, parallel-self, parallel-comm, parallel_at, parallel-by_difference}
use Rattle.law_strands.proofs.Addresses.{addresses}
use Rattle.law_strands.proofs.Places.{below_or_beyond}
use Rattle.law_strands.proofs.Words.{◌▹◌, prefix_refl}
use Rattle.model_histories.specs.Entries.{Entries, control_part}
use Rattle.race_pairs.specs.declared.kept.Jump.{Jump}
use Rattle.race_pairs.specs.Makers.{IsSpawn, maker}
use Rattle.race_pairs.specs.Climbs.{Climbs, IsFurther, IsAbove, AreAbove}
use Rattle.race_pairs.specs.Jumps.{IsUp, AreRaised}
use Rattle.race_pairs.proofs.Made.{Origin, origins}
use Rattle.race_pairs.proofs.Climbing.{same_spawn, made}

-- Addresses.

same_level : (a b y : Address) → IsPrefix a (b ++ y) → length a ≡ length b → a ≡ b
same_level [] [] y p e = refl
same_level [] (w ∷ b) y p e = absurd (omega (arith, e))
same_level (w ∷ a) [] y p e = absurd (omega (arith, e))
same_level (w ∷ a) (v ∷ b) y (r, q) e =
    let tails : b ++ y ≡ a ++ r = cc in
    let rest : a ≡ b = same_level a b y (r, tails) (omega (arith, e)) in
    cc

same_length : (a b : Address) → IsPrefix a b → length a ≡ length b → a ≡ b
same_length a b p e = same_level a b [] (p.0, append-nil b ∙ p.1) e

pub prefix_short : (a b : Address) → IsPrefix a b → length a ≤ length b
prefix_short a b p = let is : length b ≡ length (a ++ p.0) = ap length p.1 in omega (arith, is, length-append a p.0)

parallel_shorter : (a x b : Address) → (IsPrefix a b → ⊥) → parallel (a ++ x) b ≡ parallel a b
parallel_shorter a x b none = elim (cases_Bool (is_prefix a b)) [
  | inl e ↦ absurd (none ((is_prefix-decides a b).0 e))
  | inr e ↦ parallel-by_difference (a ++ x) b ∙ (ap parallel_at (first_difference-extended a x b e) ∙ sym (parallel-by_difference a b))
]

-- what lies behind two different addresses of one length makes no difference
parallel_apart : (a b x y : Address) → length a ≡ length b → (a ≡ b → ⊥) → parallel (a ++ x) (b ++ y) ≡ parallel a b
parallel_apart a b x y e differ =
    parallel_shorter a x (b ++ y) (λ p. differ (same_level a b y p e)) ∙
    (parallel-comm a (b ++ y) ∙
    (parallel_shorter b y a (λ p. differ (sym (same_length b a p (sym e)))) ∙ parallel-comm b a))

parallel_behind : (a x : Address) → parallel (a ++ x) a ≡ parallel a a
parallel_behind a [] = ap (λ (z : Address). parallel z a) (append-nil a)
parallel_behind a (w ∷ x) =
    parallel-by_difference (a ++ (w ∷ x)) a ∙ (ap parallel_at (first_difference-longer a w x) ∙ sym (parallel-self a))

-- nor does what lies behind one that is as long as the other
parallel_level : (a b x : Address) → length a ≡ length b → parallel (a ++ x) b ≡ parallel a b
parallel_level a b x e = elim (cases_same a b) [
  | inl is ↦ subst (λ (z : Address). parallel (a ++ x) z ≡ parallel a z) is (parallel_behind a x)
  | inr differ ↦ parallel_shorter a x b (λ p. differ (same_length a b p e))
]

-- The way up.

pub up_self : (es : Entries) (x : ℕ) → x < unused (control_part es) → IsUp es x x
up_self es x known = (known, prefix_refl (address (control_part es) x))

pub up_further : (es : Entries) (x y z : ℕ) → IsUp es x y → IsUp es y z → IsUp es x z
up_further es x y z one two = (one.0, prefix-transitive (address (control_part es) x) (address (control_part es) y) (address (control_part es) z) one.1 two.1)

-- what some entry made has its spawner one word above
pub up_spawner : (es : Entries) → Legal (control_part es) → (x : ℕ) → x < unused (control_part es) → 0 < maker es x → (s : ℕ) (b : Spawned) →
    IsSpawn es (maker es x) s b → IsUp es s x × (length (address (control_part es) x) ≡ suc (length (address (control_part es) s)))
up_spawner es l x known some s b is =
    let h = control_part es in
    let w = made es l x known some in
    let named : w.spawner ≡ s = (same_spawn es (maker es x) w.spawner s w.began b w.spawn is).0 in
    let own : address h x ≡ address h s ▹ w.word = w.own_address ∙ ap (λ (n : ℕ). address h n ▹ w.word) named in
    let longer : length (address h x) ≡ length (address h s ▹ w.word) = ap length own in
    let below : s < unused h = omega (arith, named, w.spawner_known) in
    ((below, (w.word ∷ [], own)), omega (arith, longer, length-append (address h s) (w.word ∷ [])))

-- what lies under another strand was made
pub made_below : (es : Entries) → Legal (control_part es) → (x : ℕ) → x < unused (control_part es) → 0 < length (address (control_part es) x) →
    0 < maker es x
made_below es l x known some = go (origins es l x known)
  where
    go : Origin es (control_part es) (maker es) x → 0 < maker es x
    go (inl t) = absurd (let none : length (address (control_part es) x) ≡ 0 = ap length t.2 in omega (arith, none, some))
    go (inr w) = omega (arith, w.earlier)

-- what no one entry made is not at the root
pub below_root : (es : Entries) → Legal (control_part es) → (one two : ℕ) → one < unused (control_part es) → two < unused (control_part es) →
    length (address (control_part es) one) ≡ length (address (control_part es) two) → (maker es one ≡ maker es two → ⊥) →
    0 < length (address (control_part es) one)
below_root es l one two known also level differ = elim (below_or_beyond 0 (length (address (control_part es) one))) [
  | inl lt ↦ lt
  | inr le ↦ absurd (differ (ap (maker es) ((addresses l).distinct one two known also
      (empty (address (control_part es) one) le ∙ sym (empty (address (control_part es) two) (omega (arith, le, level)))))))
]
  where
    empty : (a : Address) → length a ≤ 0 → a ≡ []
    empty [] none = refl
    empty (w ∷ a) none = absurd (omega (arith, none))

-- two spawners are one only where their strands have one maker
pub spawners_apart : (es : Entries) → Legal (control_part es) → (one two : ℕ) → one < unused (control_part es) → two < unused (control_part es) →
    0 < maker es one → 0 < maker es two → (maker es one ≡ maker es two → ⊥) → (s t : ℕ) (b c : Spawned) → IsSpawn es (maker es one) s b →
    IsSpawn es (maker es two) t c → address (control_part es) s ≡ address (control_part es) t → ⊥
spawners_apart es l one two known also some also_some differ s t b c is there same =
    let h = control_part es in
    let w = made es l one known some in
    let v = made es l two also also_some in
    let of_w : w.spawner ≡ s = (same_spawn es (maker es one) w.spawner s w.began b w.spawn is).0 in
    let of_v : v.spawner ≡ t = (same_spawn es (maker es two) v.spawner t v.began c v.spawn there).0 in
    let at : address h w.spawner ≡ address h v.spawner = ap (address h) of_w ∙ (same ∙ sym (ap (address h) of_v)) in
    let alike : address h w.began.child ≡ address h v.began.child = w.child_address ∙ (ap (λ a. a ▹ child) at ∙ sym v.child_address) in
    let child_is : w.began.child ≡ v.began.child = (addresses l).distinct w.began.child v.began.child w.child_known v.child_known alike in
    differ (sym w.child_maker ∙ (ap (maker es) child_is ∙ v.child_maker))

-- Two climbs.

-- both go up to the depth of the higher one
pub climbs_level : (es : Entries) (strand other one two d : ℕ) → IsAbove es strand d one → IsAbove es other d two →
    (d ≡ length (address (control_part es) strand)) ⊎ (d ≡ length (address (control_part es) other)) → Climbs es strand other one two
climbs_level es strand other one two d up down higher = record {
  one_known = up.0.0;
  two_known = down.0.0;
  one_begins = up.0.1;
  two_begins = down.0.1;
  parallel_alike = alike higher;
}
  where
    at : ℕ → Address
    at x = address (control_part es) x

    level : length (at one) ≡ length (at two)
    level = omega (arith, up.1, down.1)

    alike : (d ≡ length (at strand)) ⊎ (d ≡ length (at other)) → parallel (at strand) (at other) ≡ parallel (at one) (at two)
    alike (inl e) =
        let is : at one ≡ at strand = same_length (at one) (at strand) up.0.1 (omega (arith, up.1, e)) in
        ap (λ (z : Address). parallel z (at other)) (sym is) ∙ (parallel-comm (at one) (at other) ∙
        (ap (λ (z : Address). parallel z (at one)) down.0.1.1 ∙ (parallel_level (at two) (at one) down.0.1.0 (sym level) ∙ parallel-comm (at two) (at one))))
    alike (inr e) =
        let is : at two ≡ at other = same_length (at two) (at other) down.0.1 (omega (arith, down.1, e)) in
        ap (parallel (at strand)) (sym is) ∙ (ap (λ (z : Address). parallel z (at two)) up.0.1.1 ∙ parallel_level (at one) (at two) up.0.1.0 level)

-- both go further up
pub climbs_above : (es : Entries) (strand other one two left right : ℕ) → Climbs es strand other one two → AreAbove es one two left right →
    Climbs es strand other left right
climbs_above es strand other one two left right c up = record {
  one_known = up.left_up.0;
  two_known = up.right_up.0;
  one_begins = prefix-transitive (at left) (at one) (at strand) up.left_up.1 c.one_begins;
  two_begins = prefix-transitive (at right) (at two) (at other) up.right_up.1 c.two_begins;
  parallel_alike = c.parallel_alike ∙ (ap (λ (z : Address). parallel z (at two)) up.left_up.1.1 ∙
      (ap (parallel (at left ++ up.left_up.1.0)) up.right_up.1.1 ∙ parallel_apart (at left) (at right) up.left_up.1.0 up.right_up.1.0 up.level up.differ));
}
  where
    at : ℕ → Address
    at x = address (control_part es) x

-- by their jumps
pub above_by_jumps : (jumps : List Jump) (es : Entries) → Legal (control_part es) → AreRaised jumps es → (one two : ℕ) (d : Jump) →
    one < length jumps → two < length jumps → length (address (control_part es) one) ≡ length (address (control_part es) two) →
    (maker es one ≡ maker es two → ⊥) → ((get_or jumps one d).to ≡ (get_or jumps two d).to → ⊥) →
    (get_or jumps (get_or jumps one d).to d).depth ≡ (get_or jumps (get_or jumps two d).to d).depth →
    AreAbove es one two (get_or jumps one d).to (get_or jumps two d).to
above_by_jumps jumps es l raised one two d known also level differ apart same =
    let h = control_part es in
    let left = raised.each one d known in
    let right = raised.each two d also in
    let left_known : (get_or jumps one d).to < length jumps = omega (arith, left.up.0, raised.len) in
    let right_known : (get_or jumps two d).to < length jumps = omega (arith, right.up.0, raised.len) in
    let deep = below_root es l one two (omega (arith, known, raised.len)) (omega (arith, also, raised.len)) level differ in
    let shorter = left.further (omega (arith, deep, left.depth)) in
    record {
      left_up = left.up;
      right_up = right.up;
      level = sym (raised.each (get_or jumps one d).to d left_known).depth ∙ (same ∙ (raised.each (get_or jumps two d).to d right_known).depth);
      differ = λ e. apart ((addresses l).distinct (get_or jumps one d).to (get_or jumps two d).to left.up.0 right.up.0 e);
      further = omega (arith, shorter, left.depth);
    }

-- by their spawners
pub above_by_spawns : (es : Entries) → Legal (control_part es) → (one two : ℕ) → one < unused (control_part es) → two < unused (control_part es) →
    length (address (control_part es) one) ≡ length (address (control_part es) two) → (maker es one ≡ maker es two → ⊥) →
    (s t : ℕ) (b c : Spawned) → IsSpawn es (maker es one) s b → IsSpawn es (maker es two) t c → AreAbove es one two s t
above_by_spawns es l one two known also level differ s t b c is there =
    let deep = below_root es l one two known also level differ in
    let some = made_below es l one known deep in
    let also_some = made_below es l two also (omega (arith, deep, level)) in
    let up = up_spawner es l one known some s b is in
    let down = up_spawner es l two also also_some t c there in
    record {
      left_up = up.0;
      right_up = down.0;
      level = omega (arith, level, up.1, down.1);
      differ = spawners_apart es l one two known also some also_some differ s t b c is there;
      further = omega (arith, up.1);
    }

-- One climb.

-- by a jump
pub further_by_jump : (jumps : List Jump) (es : Entries) → AreRaised jumps es → (strand depth : ℕ) (d : Jump) → strand < length jumps →
    depth < length (address (control_part es) strand) → depth ≤ (get_or jumps (get_or jumps strand d).to d).depth →
    IsFurther es strand depth (get_or jumps strand d).to
further_by_jump jumps es raised strand depth d known below within =
    let it = raised.each strand d known in
    let to_known : (get_or jumps strand d).to < length jumps = omega (arith, it.up.0, raised.len) in
    let of_to = raised.each (get_or jumps strand d).to d to_known in
    let shorter = it.further (omega (arith, it.depth, below)) in
    record {
      up = it.up;
      within = omega (arith, within, of_to.depth);
      further = omega (arith, shorter, it.depth);
    }

-- by a spawn
pub further_by_spawn : (es : Entries) → Legal (control_part es) → (strand depth : ℕ) → strand < unused (control_part es) →
    depth < length (address (control_part es) strand) → (s : ℕ) (b : Spawned) → IsSpawn es (maker es strand) s b → IsFurther es strand depth s
further_by_spawn es l strand depth known below s b is =
    let up = up_spawner es l strand known (made_below es l strand known (omega (arith, below))) s b is in
    record {
      up = up.0;
      within = omega (arith, up.1, below);
      further = omega (arith, up.1);
    }

-- The jump of what is spawned.

-- where the jump of a spawner leads, and the jump behind it
pub record Jumps (jumps : List Jump) (es : Entries) (s : ℕ) (d : Jump) : Type 0 where
  pub near_known : (get_or jumps s d).to < length jumps
  pub far_known : (get_or jumps (get_or jumps s d).to d).to < length jumps
  pub near_higher : (get_or jumps (get_or jumps s d).to d).depth ≤ (get_or jumps s d).depth
  pub far_higher : (get_or jumps (get_or jumps (get_or jumps s d).to d).to d).depth ≤ (get_or jumps (get_or jumps s d).to d).depth
  pub far_up : IsUp es (get_or jumps (get_or jumps s d).to d).to s

pub jumps_from : (jumps : List Jump) (es : Entries) → AreRaised jumps es → (s : ℕ) (d : Jump) → s < length jumps → Jumps jumps es s d
jumps_from jumps es raised s d known =
    let it = raised.each s d known in
    let near_known : (get_or jumps s d).to < length jumps = omega (arith, it.up.0, raised.len) in
    let near = raised.each (get_or jumps s d).to d near_known in
    let far_known : (get_or jumps (get_or jumps s d).to d).to < length jumps = omega (arith, near.up.0, raised.len) in
    let far = raised.each (get_or jumps (get_or jumps s d).to d).to d far_known in
    record {
      near_known = near_known;
      far_known = far_known;
      near_higher = omega (arith, it.depth, near.depth, prefix_short _ _ it.up.1);
      far_higher = omega (arith, near.depth, far.depth, prefix_short _ _ near.up.1);
      far_up = up_further es (get_or jumps (get_or jumps s d).to d).to (get_or jumps s d).to s near.up it.up;
    }
