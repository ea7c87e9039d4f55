-- Which strands become current between the spawn and the return of a child.
use Rattle.std.proofs.Common.{◌≡◌, inl, inr, ℕ, suc, ◌≤◌, Bool, List, [], ◌∷◌, ◌++◌, length, Contains, refl, sym, ap, ◌∙◌, subst, subst₂, arith}
use Rattle.model_strands.specs.Address.{child, next, Address}
use Rattle.model_strands.specs.Addresses.{address}
use Rattle.model_strands.specs.History.{Event, split, same, joined, waits, call, resumed, ended, ended_joined, finished, History}
use Rattle.model_strands.specs.Strands.{Running}
use Rattle.model_strands.specs.Blocks.{stack}
use Rattle.model_strands.specs.Dag.{IsParallel}
use Rattle.model_strands.specs.Legal.{root_return, Legal, start, then}
use Rattle.model_strands.specs.Extensions.{IsFinished}
use Rattle.law_addresses.specs.Address.{IsPrefix}
use Rattle.law_addresses.proofs.Extremes.{contains-tail, contains-cases}
use Rattle.law_strands.proofs.Words.{◌▹◌, prefix_refl, prefix_of_longer, not_prefix_shorter}
use Rattle.law_strands.proofs.Places.{outermost}
use Rattle.law_strands.proofs.Range.{ranges, numbered, child_seen}
use Rattle.law_strands.proofs.Holders.{running_open}
use Rattle.law_strands.proofs.Addresses.{addresses}
use Rattle.law_strands.proofs.Law.{begun_below}
use Rattle.law_strands.proofs.Branches.{legal_part, stability_law as strands_stay}
use Rattle.law_strands.proofs.Kept.{legal_before, address_stays, begun_stays}
use Rattle.law_traces.proofs.Histories.{none_in, parallel_stays}
use Rattle.model_serial_runs.specs.Current.{strand_of, current, IsSerial}
use Rattle.law_serial_runs.specs.Turns.{HasRun}
use Rattle.law_serial_runs.specs.Spawns.{Spawn, new_spawn, without_first, open_spawns, IsInChild}
use Rattle.law_serial_runs.specs.Laws.{StabilityLaw, OpenLaw, FreshLaw, ChildLaw}
use Rattle.law_addresses.proofs.Relations.{parallel-decides}
use Rattle.law_strands.proofs.Orders.{parallel_iff}
use Rattle.law_serial_runs.proofs.Passed.{word_behind}
use Rattle.law_serial_runs.proofs.Runs.{function_of, Nests, outermost_not_child, nested, nested_inside, nested_elsewhere}
use Rattle.law_serial_runs.proofs.Stays.{event_runs}
use Rattle.law_serial_runs.proofs.Steps.{runs_of, runs_before}
use Rattle.law_serial_runs.proofs.Earlier.{behind}

pub stability_law : StabilityLaw
stability_law h longer ext l x y bx by = let t = parallel_stays h longer ext l x y bx by in (t.1, t.0)

-- when the root function has returned, no spawn is open
none_at_end : {h : History} → Legal h → IsSerial h → IsFinished h → (spawn : Spawn) → Contains (open_spawns h) spawn → ⊥
none_at_end start r f o m = none_in o m
none_at_end (then {history = h} {event = finished s} l (root_return run st)) r f o m =
    let t = (runs_before (then l (root_return run st)) r).nests in
    outermost_of (open_spawns h) o m (subst (λ z. Nests h z (open_spawns h)) (ap (λ z. function_of (stack h z)) (sym r.0) ∙ ap function_of st) t)
  where
    outermost_of : (spawns : List Spawn) (spawn : Spawn) → Contains spawns spawn → Nests h outermost spawns → ⊥
    outermost_of [] o m t = none_in o m
    outermost_of (p ∷ ps) o m t = outermost_not_child t.0
none_at_end (then {event = split s c n j first} l a) r f o m = f
none_at_end (then {event = same s} l a) r f o m = f
none_at_end (then {event = joined s j} l a) r f o m = f
none_at_end (then {event = waits s} l a) r f o m = f
none_at_end (then {event = call s} l a) r f o m = f
none_at_end (then {event = resumed s} l a) r f o m = f
none_at_end (then {event = ended s} l a) r f o m = f
none_at_end (then {event = ended_joined s j} l a) r f o m = f

pub open_law : OpenLaw
open_law h l r o m =
    let runs = runs_of l r (λ f. none_at_end l r f o m) in
    let w = nested h (function_of (stack h (current h))) (open_spawns h) runs.nests o m in
    record {
      inside = nested_inside l (current h) (open_spawns h) runs.nests o m;
      waits = w.runs;
      not_current = nested_elsewhere l (current h) (open_spawns h) runs.nests o m;
      next_address = w.next_address;
      begun = w.spawner_begun;
      parallel = beside (address h o.spawner) (nested_inside l (current h) (open_spawns h) runs.nests o m) w.next_address runs.runs w.runs;
    }
  where
    beside : (spawner : Address) → IsPrefix (spawner ▹ child) (address h (current h)) → address h o.next_strand ≡ spawner ▹ next → Running h (current h) →
        Running h o.next_strand → IsParallel h (current h) o.next_strand
    beside p t e run waiting =
        let (rest, is) = word_behind p child (address h (current h)) t in
        (parallel_iff h l (current h) o.next_strand (inl run) (inl waiting)).1
        ((parallel-decides (address h (current h)) (address h o.next_strand)).1 (p, rest, [], child, next, is, e, inl (refl, refl)))

-- nothing lies below an open strand
pub fresh_law : FreshLaw
fresh_law h l s x run b t =
    let kept = (addresses l).leaf s x (running_open h s run) (begun_below h (ranges l) x b) (prefix_of_longer (address h s) (address h x) child t) in
    not_prefix_shorter (address h s) child (subst (λ z. IsPrefix (address h s ▹ child) (address h z)) kept t)

-- a spawn that is open after an event that did not make it was open before
open_before : (event : Event) (history : History) (spawn : Spawn) → spawn.number ≤ length history → Contains (open_spawns (event ∷ history)) spawn →
    Contains (open_spawns history) spawn
open_before (split s c n j first) h o le m = elim (contains-cases (new_spawn h s c n j) o (open_spawns h) m) [
  | inl e ↦ (let is : o.number ≡ suc (length h) = ap (λ (z : Spawn). z.number) e in absurd (omega arith))
  | inr k ↦ k
]
open_before (ended s) h o le m = go (open_spawns h) m
  where
    go : (spawns : List Spawn) → Contains (without_first spawns) o → Contains spawns o
    go [] k = k
    go (p ∷ ps) k = contains-tail p o ps k
open_before (same s) h o le m = m
open_before (joined s j) h o le m = m
open_before (waits s) h o le m = m
open_before (call s) h o le m = m
open_before (resumed s) h o le m = m
open_before (ended_joined s j) h o le m = m
open_before (finished s) h o le m = m

longer_than : (later : List Event) (history : History) → length history ≤ length (later ++ history)
longer_than [] h = omega arith
longer_than (e ∷ later) h = let le = longer_than later h in omega arith

pub serial_part : (later : List Event) (history : History) → IsSerial (later ++ history) → IsSerial history
serial_part [] h r = r
serial_part (e ∷ later) h r = serial_part later h r.1

spawner_runs : {h : History} (event : Event) → Legal (event ∷ h) → Running h (strand_of event)
spawner_runs e (then l a) = event_runs e a

module _ (h : History) (strand the_child the_next the_join : ℕ) (first : Bool) where
  -- what has become current since the spawn is in its child
  since : (later : List Event) → Legal (later ++ split strand the_child the_next the_join first ∷ h) →
      IsSerial (later ++ split strand the_child the_next the_join first ∷ h) →
      Contains (open_spawns (later ++ split strand the_child the_next the_join first ∷ h)) (new_spawn h strand the_child the_next the_join) → (one : ℕ) →
      HasRun (later ++ split strand the_child the_next the_join first ∷ h) one → (HasRun h one → ⊥) →
      IsInChild (address h strand) (address (later ++ split strand the_child the_next the_join first ∷ h) one)
  since [] (then l a) r m x (inl is) new =
      subst (IsPrefix (address h strand ▹ child)) (sym (ap (address (split strand the_child the_next the_join first ∷ h)) is ∙
      (child_seen h strand the_child the_next the_join first (numbered h strand the_child the_next the_join first (ranges l) a)).2))
      (prefix_refl (address h strand ▹ child))
  since [] l r m x (inr k) new = absurd (new k)
  since (e ∷ later) l r m x (inl is) new =
      let from : History = split strand the_child the_next the_join first ∷ h in
      let whole : History = e ∷ later ++ from in
      let spawner = begun_stays (legal_part from (e ∷ later ++ from) (e ∷ later, refl) l) strand (inl (spawner_runs (split strand the_child the_next the_join first) (legal_part from (e ∷ later ++ from) (e ∷ later, refl) l))) in
      let kept = (strands_stay from (e ∷ later ++ from) (e ∷ later, refl) l strand spawner).0.same_address ∙ at_spawner (legal_part from (e ∷ later ++ from) (e ∷ later, refl) l) in
      subst₂ (λ y z. IsPrefix (y ▹ child) (address whole z)) kept (sym is)
      (open_law whole l r (new_spawn h strand the_child the_next the_join) m).inside
    where
      at_spawner : Legal (split strand the_child the_next the_join first ∷ h) →
          address (split strand the_child the_next the_join first ∷ h) strand ≡ address h strand
      at_spawner l = address_stays l strand (begun_below h (ranges (legal_before l)) strand (inl (spawner_runs (split strand the_child the_next the_join first) l)))
  since (e ∷ later) l r m x (inr k) new =
      let from : History = split strand the_child the_next the_join first ∷ h in
      let le = longer_than later from in
      let earlier = since later (legal_before l) r.1 (open_before e (later ++ from) (new_spawn h strand the_child the_next the_join) le m) x k new in
      subst (IsPrefix (address h strand ▹ child))
      (sym (address_stays l x (begun_below (later ++ from) (ranges (legal_before l)) x (behind (legal_before l) r.1 x k).0))) earlier

pub child_law : ChildLaw
child_law h s c n j first later l r m x k = (
  (λ inside before.
      let from : History = split s c n j first ∷ h in
      let here = legal_part from (later ++ from) (later, refl) l in
      let begun = (behind (legal_before here) (serial_part later from r).1 x before).0 in
      let one = address_stays here x (begun_below h (ranges (legal_before here)) x begun) in
      let kept = (strands_stay from (later ++ from) (later, refl) l x (begun_stays here x begun)).0.same_address ∙ one in
      fresh_law h (legal_before here) s x (spawner_runs (split s c n j first) here) begun (subst (IsPrefix (address h s ▹ child)) kept inside)),
  since h s c n j first later l r m x k,
)
