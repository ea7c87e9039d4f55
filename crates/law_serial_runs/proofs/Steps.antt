-- Each event of a serial run leaves a current strand that runs, and the nexts that wait one inside the other.
use Rattle.std.proofs.Common.{◌≡◌, ◌≢◌, inl, inr, ℕ, suc, Bool, true, false, List, [], ◌∷◌, length, Contains, refl, sym, ap, ap₂, ◌∙◌, subst, subst₂, arith}
use Rattle.std.proofs.lemmas.Bool.Decides.{eqb_tells}
use Rattle.model_strands.specs.Updated.{updated}
use Rattle.model_strands.specs.Address.{child, next}
use Rattle.model_strands.specs.Addresses.{address}
use Rattle.model_strands.specs.History.{Event, split, same, joined, waits, call, resumed, ended, ended_joined, finished, History}
use Rattle.model_strands.specs.Strands.{absent, running, over, status, Running}
use Rattle.model_strands.specs.Blocks.{Stack, spawned, called, block, caller, stack, Outstanding}
use Rattle.model_strands.specs.Extensions.{IsFinished}
use Rattle.model_strands.specs.Legal.{Allowed, open_split, next_split, sync_joined, sync_waits, child_return, last_return, Legal, start, then}
use Rattle.law_addresses.specs.Blocks.{joined as joined_address}
use Rattle.law_addresses.proofs.Extremes.{contains-head, contains-tail, contains-cases}
use Rattle.law_strands.proofs.Updates.{updated_at, updated_off}
use Rattle.law_strands.proofs.Words.{◌▹◌}
use Rattle.law_strands.proofs.Places.{running_not_over}
use Rattle.law_strands.proofs.Range.{ranges, numbered, child_seen, next_seen, spawner_seen}
use Rattle.law_strands.proofs.Kept.{begun_stays, join_law}
use Rattle.law_strands.proofs.Sides.{origin}
use Rattle.model_serial_runs.specs.Current.{strand_of, next_of, beside, current, IsSerial}
use Rattle.law_serial_runs.specs.Turns.{IsDirect}
use Rattle.law_serial_runs.specs.Spawns.{Spawn, new_spawn, without_first, open_spawns, Returns}
use Rattle.law_serial_runs.specs.Laws.{CurrentLaw, LastEventLaw, DirectLaw}
use Rattle.law_serial_runs.proofs.Stands.{Stands, stands}
use Rattle.law_serial_runs.proofs.Stays.{event_runs}
use Rattle.law_serial_runs.proofs.Runs.{function_of, function_caller, Nests, Runs, nested_elsewhere, no_child_left, nests_stay, outermost_not_child, same_number}

-- A spawn: the child stands in its function, and the next in the spawner's.

pub child_stack : {h : History} (strand the_child the_next the_join : ℕ) (first : Bool) → Allowed h (split strand the_child the_next the_join first) →
    stack (split strand the_child the_next the_join first ∷ h) the_child ≡ spawned (suc (length h)) the_join
child_stack {h} s c n j true (open_split run sy ce ne je) =
    updated_off _ j _ c (λ e. omega arith) ∙ (updated_off _ n _ c (λ e. omega arith) ∙ updated_at (stack h) c (spawned (suc (length h)) j) c refl)
child_stack {h} s c n j false (next_split run st ce ne) =
    updated_off _ n _ c (λ e. omega arith) ∙ updated_at (stack h) c (spawned (suc (length h)) j) c refl

next_function : {h : History} (strand the_child the_next the_join : ℕ) (first : Bool) → Allowed h (split strand the_child the_next the_join first) →
    function_of (stack (split strand the_child the_next the_join first ∷ h) the_next) ≡ function_of (stack h strand)
next_function {h} s c n j true (open_split run sy ce ne je) =
    ap function_of (updated_off _ j _ n (λ e. omega arith) ∙ updated_at _ n (block j (stack h s)) n refl)
next_function {h} s c n j false (next_split run st ce ne) = ap function_of (updated_at _ n (stack h s) n refl)

pub new_next : (history : History) (strand the_child the_next the_join : ℕ) (first : Bool) →
    next_of (split strand the_child the_next the_join first ∷ history) (suc (length history)) ≡ the_next
new_next h s c n j first = elim (eqb_tells (suc (length h)) (suc (length h))) [ inl t ↦ rw t.0 refl | inr t ↦ absurd (t.1 refl) ]

module _ {h : History} (l : Legal h) (r : Runs h) (strand : ℕ) (at : strand ≡ current h) where
  nests_here : Nests h (function_of (stack h strand)) (open_spawns h)
  nests_here = subst (λ z. Nests h (function_of (stack h z)) (open_spawns h)) (sym at) r.nests

  others : (spawn : Spawn) → Contains (open_spawns h) spawn → spawn.next_strand ≢ strand
  others = nested_elsewhere l strand (open_spawns h) nests_here

  runs_split : (the_child the_next the_join : ℕ) (first : Bool) → Allowed h (split strand the_child the_next the_join first) →
      Runs (split strand the_child the_next the_join first ∷ h)
  runs_split c n j first a =
      let h' : History = split strand c n j first ∷ h in
      let w = numbered h strand c n j first (ranges l) a in
      let at_spawner = (spawner_seen h strand c n j first w).2 in
      let at_next = next_seen h strand c n j first w in
      record {
        runs = (child_seen h strand c n j first w).0;
        nests = (
          ap function_of (child_stack strand c n j first a),
          record {
            numbered = omega arith;
            spawner_begun = begun_stays (then l a) strand (inl (event_runs (split strand c n j first) a));
            origin_is = updated_at (origin h) (suc (length h)) (address h strand) (suc (length h)) refl ∙ sym at_spawner;
            next_is = new_next h strand c n j first;
            runs = at_next.0;
            next_place = at_next.1;
            next_address = at_next.2 ∙ ap (λ z. z ▹ next) (sym at_spawner);
          },
          subst (λ z. Nests h' z (open_spawns h)) (sym (next_function strand c n j first a))
              (nests_stay l (then l a) (function_of (stack h strand)) (open_spawns h) others nests_here),
        );
        outstanding = λ m k o. elim o [
          | inl t ↦ (new_spawn h strand c n j, contains-head (new_spawn h strand c n j) (open_spawns h), sym t.0, sym t.1)
          | inr t ↦ (let found = r.outstanding m k t in (found.0, contains-tail (new_spawn h strand c n j) found.0 (open_spawns h) found.1, found.2, found.3))
        ];
        direct = r.direct;
      }

  runs_same : Allowed h (same strand) → Runs (same strand ∷ h)
  runs_same a = record {
    runs = r.runs;
    nests = subst (λ z. Nests (same strand ∷ h) (function_of (stack h z)) (open_spawns h)) at
        (nests_stay l (then l a) (function_of (stack h strand)) (open_spawns h) others nests_here);
    outstanding = r.outstanding;
    direct = r.direct;
  }

  runs_call : Allowed h (call strand) → Runs (call strand ∷ h)
  runs_call a = record {
    runs = r.runs;
    nests = subst (λ z. Nests (call strand ∷ h) z (open_spawns h))
        (sym (ap function_of (updated_at (stack h) strand (called (suc (length h)) (stack h strand)) (current h) (sym at))))
        (nests_stay l (then l a) (function_of (stack h strand)) (open_spawns h) others nests_here);
    outstanding = r.outstanding;
    direct = r.direct;
  }

  runs_resumed : Allowed h (resumed strand) → Runs (resumed strand ∷ h)
  runs_resumed a = record {
    runs = r.runs;
    nests = subst (λ z. Nests (resumed strand ∷ h) z (open_spawns h))
        (sym (ap function_of (updated_at (stack h) strand (caller (stack h strand)) (current h) (sym at)) ∙ function_caller (stack h strand)))
        (nests_stay l (then l a) (function_of (stack h strand)) (open_spawns h) others nests_here);
    outstanding = r.outstanding;
    direct = r.direct;
  }

  runs_joined : (its_join : ℕ) (below : Stack) → Running h strand → stack h strand ≡ block its_join below → Allowed h (joined strand its_join) →
      Runs (joined strand its_join ∷ h)
  runs_joined j below run st a = record {
    runs = updated_at (updated (status h) strand over) j running j refl;
    nests = subst (λ z. Nests (joined strand j ∷ h) z (open_spawns h)) (ap function_of st ∙ sym (ap function_of (join_law h l strand j below run st)))
        (nests_stay l (then l a) (function_of (stack h strand)) (open_spawns h) others nests_here);
    outstanding = r.outstanding;
    direct = r.direct;
  }

  -- the child that returns is that of the newest spawn
  pub returning : (number its_join : ℕ) → stack h strand ≡ spawned number its_join → Returns h strand
  returning m j st = go (open_spawns h) refl nests_here
    where
      go : (spawns : List Spawn) → open_spawns h ≡ spawns → Nests h (function_of (stack h strand)) spawns → Returns h strand
      go [] e t = absurd (outermost_not_child (sym t ∙ ap function_of st))
      go (o ∷ os) e t =
          let both = same_number (sym t.0 ∙ ap function_of st) in
          let stack_is : stack h strand ≡ spawned o.number o.block_join = st ∙ ap₂ (λ a b. spawned a b) (sym both.1) (sym both.0) in
          let ends = subst (λ z. Stands h z (address h strand)) stack_is (stands l strand) in
          record {
            spawn = o;
            others = os;
            newest = e;
            stack_is = stack_is;
            goes_on = ap (beside h) stack_is ∙ t.1.next_is;
            waited = t.1.runs;
            next_address = t.1.next_address;
            blocks = ends.1;
            last_address = subst (λ z. address h strand ≡ joined_address (z ▹ child) ends.1) t.1.origin_is ends.2;
          }

  runs_ended : (number its_join : ℕ) → stack h strand ≡ spawned number its_join → Allowed h (ended strand) → Runs (ended strand ∷ h)
  runs_ended m j st a =
      let back = returning m j st in
      let here = subst (Nests h (function_of (stack h strand))) back.newest nests_here in
      let kept = nests_stay l (then l a) (function_of (stack h strand)) (back.spawn ∷ back.others)
      (λ o k. others o (subst (λ z. Contains z o) (sym back.newest) k)) here in
      record {
        runs = subst (Running (ended strand ∷ h)) (sym back.goes_on) kept.1.runs;
        nests = subst₂ (λ y z. Nests (ended strand ∷ h) (function_of (stack h y)) z) (sym back.goes_on) (sym (ap without_first back.newest)) kept.2;
        outstanding = λ k i o. outstanding_after back k i o (r.outstanding k i o.1);
        direct = r.direct;
      }
    where
      outstanding_after : (back : Returns h strand) (number its_join : ℕ) → Outstanding (ended strand ∷ h) number its_join →
          (spawn : Spawn) × Contains (open_spawns h) spawn × (spawn.number ≡ number) × (spawn.block_join ≡ its_join) →
          (spawn : Spawn) × Contains (open_spawns (ended strand ∷ h)) spawn × (spawn.number ≡ number) × (spawn.block_join ≡ its_join)
      outstanding_after back k i o found = elim (contains-cases back.spawn found.0 back.others (subst (λ z. Contains z found.0) back.newest found.1)) [
        | inl e ↦ absurd (o.0 (back.stack_is ∙
            ap₂ (λ a b. spawned a b) (sym (ap (λ (z : Spawn). z.number) e) ∙ found.2) (sym (ap (λ (z : Spawn). z.block_join) e) ∙ found.3)))
        | inr t ↦ (found.0, subst (λ z. Contains z found.0) (sym (ap without_first back.newest)) t, found.2, found.3)
      ]

runs_step : {h : History} → Legal h → Runs h → (event : Event) → Allowed h event → strand_of event ≡ current h → (IsFinished (event ∷ h) → ⊥) → Runs (event ∷ h)
runs_step {h} l r (split s c n j true) (open_split run sy ce ne je) at nf = runs_split l r s at c n j true (open_split run sy ce ne je)
runs_step {h} l r (split s c n j false) (next_split run st ce ne) at nf = runs_split l r s at c n j false (next_split run st ce ne)
runs_step {h} l r (same s) a at nf = runs_same l r s at a
runs_step {h} l r (joined s j) (sync_joined {below = below} run st none) at nf = runs_joined l r s at j below run st (sync_joined run st none)
runs_step {h} l r (waits s) (sync_waits {join = j} {below = below} run st m some) at nf =
    absurd (no_child_left l r j below (sym (ap (stack h) at) ∙ st) m some)
runs_step {h} l r (call s) a at nf = runs_call l r s at a
runs_step {h} l r (resumed s) a at nf = runs_resumed l r s at a
runs_step {h} l r (ended s) (child_return {number = m} {join = j} run st last) at nf = runs_ended l r s at m j st (child_return run st last)
runs_step {h} l r (ended_joined s j) (last_return run st last) at nf = absurd (r.direct j last.0)
runs_step {h} l r (finished s) a at nf = absurd (nf tt)

-- when the root function has returned, the current strand is over
pub over_at_end : {h : History} → Legal h → IsSerial h → IsFinished h → status h (current h) ≡ over
over_at_end start r f = absurd f
over_at_end (then {history = h} {event = finished s} l a) r f = updated_at (status h) s over (current h) (sym r.0)
over_at_end (then {history = h} {event = split s c n j first} l a) r f = absurd f
over_at_end (then {history = h} {event = same s} l a) r f = absurd f
over_at_end (then {history = h} {event = joined s j} l a) r f = absurd f
over_at_end (then {history = h} {event = waits s} l a) r f = absurd f
over_at_end (then {history = h} {event = call s} l a) r f = absurd f
over_at_end (then {history = h} {event = resumed s} l a) r f = absurd f
over_at_end (then {history = h} {event = ended s} l a) r f = absurd f
over_at_end (then {history = h} {event = ended_joined s j} l a) r f = absurd f

pub not_at_end : {h : History} {e : Event} → Legal h → Allowed h e → strand_of e ≡ current h → IsSerial h → IsFinished h → ⊥
not_at_end {h} {e} l a at r f = running_not_over (subst (Running h) at (event_runs e a)) (over_at_end l r f)

pub runs_of : {h : History} → Legal h → IsSerial h → (IsFinished h → ⊥) → Runs h
runs_of start r nf = record {
  runs = updated_at (λ n. absent) 0 running 0 refl;
  nests = refl;
  outstanding = λ m j o. absurd o;
  direct = λ j w. absurd w;
}
runs_of (then {history = h} {event = e} l a) r nf = runs_step l (runs_of l r.1 (not_at_end l a r.0 r.1)) e a r.0 nf

-- what is before an event of a serial run runs
pub runs_before : {h : History} {e : Event} → Legal (e ∷ h) → IsSerial (e ∷ h) → Runs h
runs_before (then {history = h} {event = e} l a) r = runs_of l r.1 (not_at_end l a r.0 r.1)

direct_of : {h : History} → Legal h → Runs h → (event : Event) → Allowed h event → strand_of event ≡ current h → IsDirect event
direct_of {h} l r (waits s) (sync_waits {join = j} {below = below} run st m some) at = no_child_left l r j below (sym (ap (stack h) at) ∙ st) m some
direct_of {h} l r (ended_joined s j) (last_return run st last) at = r.direct j last.0
direct_of {h} l r (split s c n j first) a at = tt
direct_of {h} l r (same s) a at = tt
direct_of {h} l r (joined s j) a at = tt
direct_of {h} l r (call s) a at = tt
direct_of {h} l r (resumed s) a at = tt
direct_of {h} l r (ended s) a at = tt
direct_of {h} l r (finished s) a at = tt

pub current_law : CurrentLaw
current_law h l r nf = (runs_of l r nf).runs

last_event : {h : History} {e : Event} → Legal (e ∷ h) → IsSerial (e ∷ h) → IsFinished h → ⊥
last_event (then l a) r f = not_at_end l a r.0 r.1 f

pub last_event_law : LastEventLaw
last_event_law h e l r f = last_event l r f

direct_event : {h : History} {e : Event} → Legal (e ∷ h) → IsSerial (e ∷ h) → IsDirect e
direct_event (then {event = e} l a) r = direct_of l (runs_before (then l a) r) e a r.0

pub direct_law : DirectLaw
direct_law h e l r = direct_event l r
