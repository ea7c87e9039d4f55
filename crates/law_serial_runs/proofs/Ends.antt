-- What the end of a block and the return of a child do to the spawners that the current strand has passed.
use Rattle.std.proofs.Common.{◌≡◌, ℕ, [], ◌∷◌, ◌++◌, map, append_assoc, refl, sym, ap, ◌∙◌, subst}
use Rattle.model_strands.specs.Address.{child, next, Address}
use Rattle.model_strands.specs.Addresses.{address}
use Rattle.model_strands.specs.History.{Event, split, same, joined, waits, call, resumed, ended, ended_joined, finished, History}
use Rattle.model_strands.specs.Blocks.{Stack, block, stack}
use Rattle.model_strands.specs.Legal.{Allowed, sync_joined, child_return, Legal, then}
use Rattle.law_strands.proofs.Words.{◌▹◌}
use Rattle.law_strands.proofs.Range.{ranges, numbered, child_seen}
use Rattle.model_serial_runs.specs.Current.{strand_of, current, IsSerial}
use Rattle.law_serial_runs.specs.Spawns.{passed_spawners, Returns, Ends, IsPassing}
use Rattle.law_serial_runs.specs.Laws.{PassingLaw}
use Rattle.law_serial_runs.proofs.Stands.{Stands, stands}
use Rattle.law_serial_runs.proofs.Passed.{passed_append, passed_joins, passed_more_law}
use Rattle.law_serial_runs.proofs.Runs.{Runs}
use Rattle.law_serial_runs.proofs.Steps.{returning, runs_before}

pub ending : {h : History} → Legal h → (strand its_join : ℕ) (below : Stack) → stack h strand ≡ block its_join below → Ends h strand its_join
ending {h} l s j below st =
    let here = subst (λ z. Stands h z (address h s)) st (stands l s) in
    let opener : Address = here.1 in
    let rest : Address = here.3.0 in
    record {
      opener = opener;
      join_address = here.2;
      behind_next = here.3;
      rest = map (λ p. (opener ▹ next) ++ p) (passed_spawners rest);
      passed = ap passed_spawners here.3.1 ∙ (passed_append (opener ▹ next) rest ∙
          (ap (λ z. z ++ map (λ p. (opener ▹ next) ++ p) (passed_spawners rest)) (passed_more_law opener).at_next ∙
          (append_assoc (passed_spawners opener) (opener ∷ []) (map (λ p. (opener ▹ next) ++ p) (passed_spawners rest)) ∙
          ap (λ z. z ++ opener ∷ map (λ p. (opener ▹ next) ++ p) (passed_spawners rest))
          (sym (ap passed_spawners here.2 ∙ (passed_more_law opener).at_join)))));
    }

returned : {h : History} (strand : ℕ) → (back : Returns h strand) →
    passed_spawners (address h back.spawn.next_strand) ≡ passed_spawners (address h strand) ++ address h back.spawn.spawner ∷ []
returned {h} s back =
    let spawner : Address = address h back.spawn.spawner in
    ap passed_spawners back.next_address ∙ ((passed_more_law spawner).at_next ∙
    ap (λ z. z ++ spawner ∷ []) (sym (ap passed_spawners back.last_address ∙ (passed_joins (spawner ▹ child) back.blocks ∙ (passed_more_law spawner).at_child))))

passing : {h : History} → Legal h → Runs h → (event : Event) → Allowed h event → strand_of event ≡ current h → IsPassing h event
passing {h} l r (split s c n j first) a at =
    ap passed_spawners (child_seen h s c n j first (numbered h s c n j first (ranges l) a)).2 ∙ (passed_more_law (address h s)).at_child
passing {h} l r (ended s) (child_return {number = m} {join = j} run st last) at = let back = returning l r s at m j st in (back, returned s back)
passing {h} l r (joined s j) (sync_joined {below = below} run st none) at = ending l s j below st
passing {h} l r (same s) a at = refl
passing {h} l r (waits s) a at = refl
passing {h} l r (call s) a at = refl
passing {h} l r (resumed s) a at = refl
passing {h} l r (ended_joined s j) a at = refl
passing {h} l r (finished s) a at = refl

pub passing_event : {h : History} {e : Event} → Legal (e ∷ h) → IsSerial (e ∷ h) → IsPassing h e
passing_event (then {event = e} l a) r = passing l (runs_before (then l a) r) e a r.0

pub passing_law : PassingLaw
passing_law h e l r = passing_event l r
