-- The worked runs are serial, and have the races that are said of them.
use Rattle.std.proofs.Common.{◌≡◌, inl, inr, ℕ, zero, suc, ◌+◌, ◌*◌, true, false, [], ◌∷◌, refl, sym, ap, ◌∙◌, subst, arith}
use Rattle.model_strands.specs.Updated.{updated}
use Rattle.model_strands.specs.Addresses.{address}
use Rattle.model_strands.specs.History.{split, joined, ended, History}
use Rattle.model_strands.specs.Blocks.{root, spawned, Outstanding}
use Rattle.model_strands.specs.Legal.{Allowed, open_split, sync_joined, child_return, Legal, then}
use Rattle.model_strands.specs.Dag.{IsParallel}
use Rattle.model_strands.specs.Address.{next}
use Rattle.law_serial_runs.specs.Spawns.{passed_spawners}
use Rattle.model_serial_runs.specs.Conflicts.{conflict}
use Rattle.law_addresses.proofs.Extremes.{contains-head, contains-cases}
use Rattle.law_strands.specs.Examples.{first_spawn, waiting, newest, many_spawns}
use Rattle.law_strands.proofs.Examples.{examples_law}
use Rattle.law_strands.proofs.Kept.{legal_before}
use Rattle.law_strands.proofs.Orders.{parallel_iff}
use Rattle.law_traces.proofs.Histories.{none_in}
use Rattle.model_serial_runs.specs.declared.access_kind.AccessKind.{AccessKind}
use Rattle.model_serial_runs.specs.declared.access_kind.AccessKind.TheVariants.{Read, Load, Update, Write}
use Rattle.model_serial_runs.specs.Current.{beside, current, IsSerial}
use Rattle.law_serial_runs.specs.Accesses.{Moment, HasRaceAmong}
use Rattle.law_serial_runs.specs.Told.{controls, accesses, IsRun, moments_of}
use Rattle.law_serial_runs.specs.Examples.{side_by_side, one_by_one, WorkedRuns}
use Rattle.law_serial_runs.proofs.Steps.{child_stack, new_next}

-- a child that returns at once leads to the next
beside_it : {h : History} (strand the_child the_next the_join : ℕ) (first : _) → Allowed h (split strand the_child the_next the_join first) →
    current (ended the_child ∷ split strand the_child the_next the_join first ∷ h) ≡ the_next
beside_it {h} s c n j first a = ap (beside (split s c n j first ∷ h)) (child_stack s c n j first a) ∙ new_next h s c n j first

allowed_of : {h : History} {e : _} → Legal (e ∷ h) → Allowed h e
allowed_of (then l a) = a

many_legal : (more : ℕ) → Legal (many_spawns more)
many_legal more = legal_before (legal_before (examples_law.many_spawns_legal more))

goes_on : (more : ℕ) → current (many_spawns more) ≡ newest more
goes_on zero = beside_it 0 1 2 3 true (allowed_of (legal_before (many_legal zero)))
goes_on (suc more) = beside_it (newest more) (4 + 2 * more) (5 + 2 * more) 3 false (allowed_of (legal_before (many_legal (suc more))))

serial : (more : ℕ) → IsSerial (many_spawns more)
serial zero = (refl, (refl, tt))
serial (suc more) = (refl, (sym (goes_on more), serial more))

not_serial : IsSerial waiting → ⊥
not_serial r = let e : ◌≡◌ {A = ℕ} 2 1 = r.0 in omega arith

two_passed : passed_spawners (address (many_spawns 1) 5) ≡ [] ∷ (next ∷ []) ∷ []
unfolding updated
two_passed = refl

none_passed : passed_spawners (address (many_spawns 1) 3) ≡ []
unfolding updated
none_passed = refl

none_left : (number : ℕ) → Outstanding (ended 1 ∷ first_spawn) number 3 → ⊥
unfolding updated
none_left m (ne, inl t) = ne (ap (λ z. spawned z 3) (sym t.0))
none_left m (ne, inr t) = absurd t

runs : (one other : AccessKind) → IsRun 1 (side_by_side one other) × IsRun 1 (one_by_one one other)
unfolding updated
runs one other = (
  (child, omega arith, refl),
  ((child, sync_joined {below = root} refl refl none_left), omega arith, refl),
)
  where
    child : IsRun 1 (controls (ended 1) ∷ accesses 0 1 10 one ∷ controls (split 0 1 2 3 true) ∷ [])
    child = (((tt, open_split refl tt refl refl refl), omega arith, refl), child_return {number = 1} {join = 3} refl refl (λ t. absurd t.0))

-- The child is parallel to what goes on beside it, and not to what goes on behind the sync.

beside_parallel : IsParallel (ended 1 ∷ first_spawn) 1 2
unfolding updated
beside_parallel = (parallel_iff (ended 1 ∷ first_spawn) (many_legal 0) 1 2 (inr refl) (inl refl)).1 refl

synced_legal : Legal (joined 2 3 ∷ ended 1 ∷ first_spawn)
synced_legal = legal_before (examples_law.many_spawns_legal 0)

behind_ordered : IsParallel (joined 2 3 ∷ ended 1 ∷ first_spawn) 1 3 → ⊥
unfolding updated
behind_ordered p =
    let t : false ≡ true = (parallel_iff (joined 2 3 ∷ ended 1 ∷ first_spawn) synced_legal 1 3 (inr refl) (inl refl)).0 p in cc

abbrev in_child : AccessKind → Moment
in_child one = record { history = first_spawn; access = record { strand = 1; site = 10; kind = one } }

race : (one other : AccessKind) → conflict one other ≡ true → HasRaceAmong (moments_of (side_by_side one other) 0)
race one other c = inl (in_child one, contains-head (in_child one) [], (c, beside_parallel))

no_conflict : (one other : AccessKind) → conflict one other ≡ false → HasRaceAmong (moments_of (side_by_side one other) 0) → ⊥
no_conflict one other f (inl (m, h, (c, p))) = elim (contains-cases (in_child one) m [] h) [
  | inl e ↦ (let t : conflict one other ≡ true = subst (λ (z : Moment). conflict z.access.kind other ≡ true) e c in cc)
  | inr k ↦ none_in m k
]
no_conflict one other f (inr (inl (m, h, r))) = none_in m h
no_conflict one other f (inr (inr r)) = r

no_race : (one other : AccessKind) → HasRaceAmong (moments_of (one_by_one one other) 0) → ⊥
no_race one other (inl (m, h, (c, p))) = elim (contains-cases (in_child one) m [] h) [
  | inl e ↦ behind_ordered (subst (λ (z : Moment). IsParallel (joined 2 3 ∷ ended 1 ∷ first_spawn) z.access.strand 3) e p)
  | inr k ↦ none_in m k
]
no_race one other (inr (inl (m, h, r))) = none_in m h
no_race one other (inr (inr r)) = r

pub worked_runs : WorkedRuns
worked_runs = record {
  serial = serial;
  goes_on = goes_on;
  whole = (refl, (sym (goes_on 1), serial 1));
  not_serial = not_serial;
  two_passed = two_passed;
  none_passed = none_passed;
  are_runs = runs;
  race = race Write Read refl;
  no_race = no_race;
  load_and_write = race Load Write refl;
  load_and_update = no_conflict Load Update refl;
  read_and_update = race Read Update refl;
}
