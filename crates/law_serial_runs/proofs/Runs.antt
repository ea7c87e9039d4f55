-- The strand at which a serial run is runs, and so do the nexts of the spawns whose child has not returned, which stand one inside the other.
use Rattle.std.proofs.Common.{◌≡◌, ◌≢◌, ◌⊎◌, inl, inr, ℕ, ◌≤◌, List, [], ◌∷◌, length, Contains, refl, sym, ap, ◌∙◌, subst, arith}
use Rattle.model_strands.specs.Address.{child, next, Address}
use Rattle.model_strands.specs.Addresses.{address}
use Rattle.model_strands.specs.History.{Event, History}
use Rattle.model_strands.specs.Strands.{Running, Begun}
use Rattle.model_strands.specs.Blocks.{Stack, root, spawned, called, block, caller, stack, Outstanding, IsWaitedFor}
use Rattle.model_strands.specs.Legal.{Legal}
use Rattle.law_addresses.specs.Address.{IsPrefix}
use Rattle.law_addresses.proofs.Blocks.{prefix-transitive}
use Rattle.law_addresses.proofs.Extremes.{contains-head, contains-tail, contains-cases}
use Rattle.law_strands.proofs.Words.{◌▹◌, prefix_longer, prefix_siblings, prefix_of_longer, last_same}
use Rattle.law_strands.proofs.Places.{Place, outermost, continuation, child_of, place_of, place}
use Rattle.law_strands.proofs.Range.{ranges}
use Rattle.law_strands.proofs.Holders.{holders, running_open}
use Rattle.law_strands.proofs.Kept.{address_stays, begun_stays}
use Rattle.law_strands.proofs.Law.{begun_below}
use Rattle.law_strands.proofs.Sides.{origin}
use Rattle.law_traces.proofs.Histories.{none_in}
use Rattle.model_serial_runs.specs.Current.{strand_of, next_of, current}
use Rattle.law_serial_runs.specs.Spawns.{Spawn, open_spawns}
use Rattle.law_serial_runs.proofs.Stands.{Stands, stands, later}
use Rattle.law_serial_runs.proofs.Stays.{stack_stays, running_stays}

-- the spawned function in which a strand stands, or the root function
abbrev pub function_of : Stack → Place
function_of root = outermost
function_of (spawned number its_join) = child_of its_join number
function_of (called number below) = function_of below
function_of (block its_join below) = function_of below

pub function_caller : (st : Stack) → function_of (caller st) ≡ function_of st
function_caller root = refl
function_caller (spawned n j) = refl
function_caller (called n below) = refl
function_caller (block j below) = refl

pub same_number : {j k m n : ℕ} → child_of j m ≡ child_of k n → (j ≡ k) × (m ≡ n)
same_number e = (cc, cc)

pub outermost_not_child : {j m : ℕ} → outermost ≡ child_of j m → ⊥
outermost_not_child e = cc

-- who stands in a spawned function has an address in its child
pub in_child : (history : History) (st : Stack) (its_join number : ℕ) (a : Address) → function_of st ≡ child_of its_join number → Stands history st a →
    (number ≤ length history) × IsPrefix (origin history number ▹ child) a
in_child h root k m a e t = absurd (outermost_not_child e)
in_child h (spawned n j) k m a e (le, blocks, is) =
    let same : n ≡ m = (same_number e).1 in
    subst (λ z. (z ≤ length h) × IsPrefix (origin h z ▹ child) a) same (le, (_, is))
in_child h (called n below) k m a e t = in_child h below k m a e t
in_child h (block j below) k m a e (lt, o, at, p, t) =
    let inner = in_child h below k m o e t in
    (inner.0, prefix-transitive (origin h m ▹ child) o a inner.1 (prefix_of_longer o a next p))

-- the next of a spawn whose child has not returned
pub record Waits (history : History) (spawn : Spawn) : Type 0 where
  pub numbered : spawn.number ≤ length history
  pub spawner_begun : Begun history spawn.spawner
  pub origin_is : origin history spawn.number ≡ address history spawn.spawner
  pub next_is : next_of history spawn.number ≡ spawn.next_strand
  pub runs : Running history spawn.next_strand
  pub next_place : place history spawn.next_strand ≡ continuation spawn.block_join
  pub next_address : address history spawn.next_strand ≡ address history spawn.spawner ▹ next

-- the function is the child of the first of these spawns, and stands in that of the second, and so on
abbrev pub Nests : History → Place → List Spawn → Type 0
Nests history function [] = function ≡ outermost
Nests history function (spawn ∷ spawns) =
    (function ≡ child_of spawn.block_join spawn.number) × Waits history spawn × Nests history (function_of (stack history spawn.next_strand)) spawns

pub record Runs (history : History) : Type 0 where
  pub runs : Running history (current history)
  pub nests : Nests history (function_of (stack history (current history))) (open_spawns history)
  pub outstanding : (number its_join : ℕ) → Outstanding history number its_join →
      (spawn : Spawn) × Contains (open_spawns history) spawn × (spawn.number ≡ number) × (spawn.block_join ≡ its_join)
  pub direct : (its_join : ℕ) → IsWaitedFor history its_join → ⊥

pub child_not_next : child ≡ next → ⊥
child_not_next e = cc

-- each of the spawns waits
pub nested : (history : History) (function : Place) (spawns : List Spawn) → Nests history function spawns → (spawn : Spawn) → Contains spawns spawn → Waits history spawn
nested h f [] t o m = absurd (none_in o m)
nested h f (p ∷ ps) t o m = elim (contains-cases p o ps m) [
  | inl e ↦ subst (Waits h) (sym e) t.1
  | inr k ↦ nested h (function_of (stack h p.next_strand)) ps t.2 o k
]

-- and a strand in the innermost function is in the child of each
pub nested_inside : {h : History} → Legal h → (strand : ℕ) (spawns : List Spawn) → Nests h (function_of (stack h strand)) spawns →
    (spawn : Spawn) → Contains spawns spawn → IsPrefix (address h spawn.spawner ▹ child) (address h strand)
nested_inside l x [] t o m = absurd (none_in o m)
nested_inside {h} l x (p ∷ ps) t o m = go (nested_inside l p.next_strand ps t.2 o) (contains-cases p o ps m)
  where
    here : IsPrefix (address h p.spawner ▹ child) (address h x)
    here = subst (λ z. IsPrefix (z ▹ child) (address h x)) t.1.origin_is (in_child h (stack h x) p.block_join p.number (address h x) t.0 (stands l x)).1

    further : IsPrefix (address h o.spawner ▹ child) (address h p.next_strand) → IsPrefix (address h o.spawner ▹ child) (address h x)
    further inner = elim (prefix_longer (address h o.spawner ▹ child) (address h p.spawner) next
        (subst (IsPrefix (address h o.spawner ▹ child)) t.1.next_address inner)) [
          | inl k ↦ prefix-transitive (address h o.spawner ▹ child) (address h p.spawner) (address h x) k (prefix_of_longer (address h p.spawner) (address h x) child here)
          | inr e ↦ absurd (child_not_next (last_same (address h o.spawner) (address h p.spawner) child next e).1)
        ]

    go : (Contains ps o → IsPrefix (address h o.spawner ▹ child) (address h p.next_strand)) → (o ≡ p) ⊎ Contains ps o →
        IsPrefix (address h o.spawner ▹ child) (address h x)
    go ih (inl e) = subst (λ (z : Spawn). IsPrefix (address h z.spawner ▹ child) (address h x)) (sym e) here
    go ih (inr k) = further (ih k)

-- so it is none of the nexts
pub nested_elsewhere : {h : History} → Legal h → (strand : ℕ) (spawns : List Spawn) → Nests h (function_of (stack h strand)) spawns →
    (spawn : Spawn) → Contains spawns spawn → spawn.next_strand ≢ strand
nested_elsewhere {h} l x ps t o m e =
    let w = nested h (function_of (stack h x)) ps t o m in
    child_not_next (prefix_siblings (address h o.spawner) child next
    (subst (IsPrefix (address h o.spawner ▹ child)) (sym (ap (address h) e) ∙ w.next_address) (nested_inside l x ps t o m)))

-- the block that the current strand has open has no child outstanding
pub no_child_left : {h : History} → Legal h → Runs h → (its_join : ℕ) (below : Stack) → stack h (current h) ≡ block its_join below → (number : ℕ) →
    Outstanding h number its_join → ⊥
no_child_left {h} l r j below st m o =
    let found = r.outstanding m j o in
    let w = nested h (function_of (stack h (current h))) (open_spawns h) r.nests found.0 found.1 in
    let alike : place h found.0.next_strand ≡ place h (current h) =
    w.next_place ∙ (ap continuation found.3 ∙ sym (ap place_of st)) in
    nested_elsewhere l (current h) (open_spawns h) r.nests found.0 found.1
    ((holders l).alone found.0.next_strand (current h) (running_open h found.0.next_strand w.runs) (running_open h (current h) r.runs) alike)

-- What an event by the current strand leaves of the others
module _ {h : History} {e : Event} (l : Legal h) (l' : Legal (e ∷ h)) where
  waits_stay : (spawn : Spawn) → spawn.next_strand ≢ strand_of e → Waits h spawn → Waits (e ∷ h) spawn
  waits_stay o ne w =
      let after = later l' in
      let still = stack_stays l' o.next_strand (inl w.runs) ne in
      let at_spawner : address (e ∷ h) o.spawner ≡ address h o.spawner = address_stays l' o.spawner (begun_below h (ranges l) o.spawner w.spawner_begun) in
      let small : o.number ≤ length h = w.numbered in
      record {
        numbered = omega arith;
        spawner_begun = begun_stays l' o.spawner w.spawner_begun;
        origin_is = after.origins o.number w.numbered ∙ (w.origin_is ∙ sym at_spawner);
        next_is = after.nexts o.number w.numbered ∙ w.next_is;
        runs = running_stays l' o.next_strand ne w.runs;
        next_place = ap place_of still ∙ w.next_place;
        next_address = address_stays l' o.next_strand (begun_below h (ranges l) o.next_strand (inl w.runs)) ∙
            (w.next_address ∙ ap (λ z. z ▹ next) (sym at_spawner));
      }

  pub nests_stay : (function : Place) (spawns : List Spawn) → ((spawn : Spawn) → Contains spawns spawn → spawn.next_strand ≢ strand_of e) →
      Nests h function spawns → Nests (e ∷ h) function spawns
  nests_stay f [] apart t = t
  nests_stay f (o ∷ os) apart t =
      let ne = apart o (contains-head o os) in
      let still = stack_stays l' o.next_strand (inl t.1.runs) ne in (
        t.0,
        waits_stay o ne t.1,
        subst (λ z. Nests (e ∷ h) z os) (ap function_of (sym still))
            (nests_stay (function_of (stack h o.next_strand)) os (λ p k. apart p (contains-tail o p os k)) t.2),
      )
