-- The climb over a list of makers, and where it ends.
use Rattle.std.proofs.Common.{◌≡◌, ◌<◌, ℕ, Bool, true, false, sym, ◌∙◌, subst, subst₂, refl, arith}
use Rattle.law_addresses.specs.Address.{parallel}
use Rattle.model_strands.specs.declared.spawned.Spawned.{Spawned}
use Rattle.model_strands.specs.Strands.{Begun, unused}
use Rattle.model_strands.specs.Legal.{Legal}
use Rattle.model_strands.specs.Dag.{IsParallel}
use Rattle.model_strands.specs.Addresses.{address}
use Rattle.model_histories.specs.Entries.{Entries, control_part}
use Rattle.race_pairs.specs.Makers.{IsSpawn, maker}
use Rattle.race_pairs.specs.Climbs.{Climbs}
use Rattle.race_pairs.proofs.Climbing.{climbs_swap, made, climb, parallel_told, Sides, sides, no_sides, at_root}

-- some entry made what has a maker
abbrev pub SomeSpawn : Entries → ℕ → Type 0
SomeSpawn entries number = (spawner : ℕ) × (spawned : Spawned) × IsSpawn entries number spawner spawned

pub some_spawn : (entries : Entries) → Legal (control_part entries) → (x : ℕ) → x < unused (control_part entries) → 0 < maker entries x →
    SomeSpawn entries (maker entries x)
some_spawn entries l x known some =
    let w = made entries l x known some in
    (w.spawner, w.began, w.spawn)

pub climb_one : (entries : Entries) → Legal (control_part entries) → (strand other one two : ℕ) → Climbs entries strand other one two →
    maker entries two < maker entries one → (s : ℕ) (b : Spawned) → IsSpawn entries (maker entries one) s b →
    Climbs entries strand other s two × (maker entries s < maker entries one)
climb_one entries l strand other one two c later s b is =
    climb entries l strand other one two c (omega arith) s b is

pub climb_two : (entries : Entries) → Legal (control_part entries) → (strand other one two : ℕ) → Climbs entries strand other one two →
    maker entries one < maker entries two → (s : ℕ) (b : Spawned) → IsSpawn entries (maker entries two) s b →
    Climbs entries strand other one s × (maker entries s < maker entries two)
climb_two entries l strand other one two c later s b is =
    let up = climb_one entries l other strand two one (climbs_swap entries strand other one two c) later s b is in
    (climbs_swap entries other strand s one up.0, up.1)

-- what is found of two strands
abbrev pub Told : Bool → Entries → ℕ → ℕ → Type 0
Told found entries strand other =
    ((found ≡ true) → IsParallel (control_part entries) strand other) × (IsParallel (control_part entries) strand other → found ≡ true)

pub told_parallel : (entries : Entries) (strand other : ℕ) → IsParallel (control_part entries) strand other → Told true entries strand other
told_parallel entries strand other p = (λ e. p, λ q. refl)

none_told : (entries : Entries) → Legal (control_part entries) → (strand other one two : ℕ) → Climbs entries strand other one two →
    Begun (control_part entries) strand → Begun (control_part entries) other →
    parallel (address (control_part entries) one) (address (control_part entries) two) ≡ false → Told false entries strand other
none_told entries l strand other one two c bs bo none =
    (λ e. absurd (cc), λ p. absurd (let t = (parallel_told entries l strand other one two c bs bo).0 p in cc))

-- both climbs came to strand 0
pub root_told : (entries : Entries) → Legal (control_part entries) → (strand other one two : ℕ) → Climbs entries strand other one two →
    Begun (control_part entries) strand → Begun (control_part entries) other → maker entries one ≡ maker entries two → maker entries one ≡ 0 →
    Told false entries strand other
root_told entries l strand other one two c bs bo alike zero =
    none_told entries l strand other one two c bs bo
    (at_root entries l one two c.one_known c.two_known zero (sym alike ∙ zero))

-- they came to what one spawn made, but not to its child and its next
pub beside_told : (entries : Entries) → Legal (control_part entries) → (strand other one two : ℕ) → Climbs entries strand other one two →
    Begun (control_part entries) strand → Begun (control_part entries) other → maker entries one ≡ maker entries two → 0 < maker entries one →
    (s : ℕ) (b : Spawned) → IsSpawn entries (maker entries one) s b → (one ≡ b.child → two ≡ b.next → ⊥) → (two ≡ b.child → one ≡ b.next → ⊥) →
    Told false entries strand other
beside_told entries l strand other one two c bs bo alike some s b is not_these nor_these =
    none_told entries l strand other one two c bs bo
    (no_sides entries l one two c.one_known c.two_known (omega arith) alike s b
    is not_these nor_these)

-- the one came to the child of a spawn, the other to its next
pub sided : (entries : Entries) → Legal (control_part entries) → (strand other one two : ℕ) → Climbs entries strand other one two →
    Begun (control_part entries) strand → Begun (control_part entries) other → 0 < maker entries one → (s : ℕ) (b : Spawned) →
    IsSpawn entries (maker entries one) s b → one ≡ b.child → two ≡ b.next →
    Sides entries b strand other × IsParallel (control_part entries) strand other
sided entries l strand other one two c bs bo some s b is at_child at_next =
    let found = sides entries l strand other one two c bs bo (omega arith) s b
    is at_child at_next in
    let parallel_here = subst₂ (λ (x : ℕ) (y : ℕ). parallel (address (control_part entries) x) (address (control_part entries) y) ≡ true)
    (sym at_child) (sym at_next) found.parallel_sides in
    (found, (parallel_told entries l strand other one two c bs bo).1 parallel_here)

-- the other way round
pub sided_turned : (entries : Entries) → Legal (control_part entries) → (strand other one two : ℕ) → Climbs entries strand other one two →
    Begun (control_part entries) strand → Begun (control_part entries) other → maker entries one ≡ maker entries two → 0 < maker entries one →
    (s : ℕ) (b : Spawned) → IsSpawn entries (maker entries one) s b → two ≡ b.child → one ≡ b.next →
    Sides entries b other strand × IsParallel (control_part entries) strand other
sided_turned entries l strand other one two c bs bo alike some s b is at_child at_next =
    let same : maker entries one ≡ maker entries two = alike in
    let turned = sided entries l other strand two one (climbs_swap entries strand other one two c) bo bs (omega (arith, same)) s b
    (subst (λ (n : ℕ). IsSpawn entries n s b) same is) at_child at_next in
    (turned.0, (turned.1.1, turned.1.0))
