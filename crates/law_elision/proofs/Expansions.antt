-- A dialogue with what the spawned functions did is an evaluation.
use Rattle.std.proofs.Common.{◌≡◌, ℕ, List, [], ◌∷◌, ◌++◌, Some, None, refl, sym, ap, ◌∙◌, subst, append_assoc}
use Rattle.std.specs.Prelude.{slice_get, slice_set, slice_index}
use Rattle.model_accesses.specs.declared.request.Act.{Act}
use Rattle.model_reducers.specs.declared.monoid.Monoid.{Monoid}
use Rattle.model_histories.specs.declared.answer.Answer.{Answer}
use Rattle.model_histories.specs.declared.answer.Answer.TheVariants.{Split, Same, Joined, Waits, Resumed, Ended, EndedJoined, Finished, Granted, Value, Refused, Unset}
use Rattle.model_histories.specs.Extensions.{IsCleanAnswer}
use Rattle.model_bodies.specs.declared.statement.Register.{Register}
use Rattle.model_bodies.specs.declared.statement.Statement.TheVariants.{Read, Write, Bump, Update, Put, Get, Spawn, Call, Sync}
use Rattle.model_bodies.specs.Codes.{Code}
use Rattle.model_bodies.specs.Trees.{Tree, Step, Done}
use Rattle.model_programs.specs.Values.{Registers, first_registers, with_ok, value_of, cell_of}
use Rattle.model_programs.specs.Scripts.{script, Passes, assigned, first_part, second_part, counted}
use Rattle.model_programs.specs.Answers.{after_read, after_get, after_write, after_update, after_spawn, after_sync, Origin, FromCall, FromSpawn, IsReturned}
use Rattle.model_programs.specs.Exchanges.{Exchange}
use Rattle.model_programs.specs.Dialogue.{Whole, Dialogue}
use Rattle.model_programs.specs.Evaluation.{Effect, Store, got, with_register, Evaluates, let_evaluated, read_evaluated, write_evaluated, bump_evaluated, update_evaluated, put_evaluated, get_evaluated, spawn_evaluated, call_evaluated, sync_evaluated, first_evaluated, second_evaluated, pfor_evaluated, return_evaluated}
use Rattle.model_runs.specs.Serial.{value_given}
use Rattle.law_elision.specs.Expansions.{after_act, after_all, AreRight, did, IsDoneBy, Inserts, nothing, kept, inserted}

-- two stretches one after the other
pub after_parts : (monoids : List Monoid) (first second : List Effect) (store : Store) →
    after_all monoids (first ++ second) store ≡ after_all monoids second (after_all monoids first store)
after_parts monoids [] second store = refl
after_parts monoids (one ∷ first) second store = after_parts monoids first second (after_act monoids one.act store)

pub right_first : (monoids : List Monoid) (first second : List Effect) (store : Store) → AreRight monoids store (first ++ second) → AreRight monoids store first
right_first monoids [] second store r = tt
right_first monoids (one ∷ first) second store r = (r.0, right_first monoids first second (after_act monoids one.act store) r.1)

pub right_second : (monoids : List Monoid) (first second : List Effect) (store : Store) → AreRight monoids store (first ++ second) →
    AreRight monoids (after_all monoids first store) second
right_second monoids [] second store r = r
right_second monoids (one ∷ first) second store r = right_second monoids first second (after_act monoids one.act store) r.1

-- what a clean answer is

some_is : {A : Type 0} {x y : A} → Some x ≡ Some y → x ≡ y
some_is e = cc

read_value : (register : Register) (answer : Answer) (registers after : Registers) → after_read register answer registers ≡ Some after → IsCleanAnswer answer →
    (value : ℕ) × (answer ≡ Value value) × (slice_set (with_ok 1 registers) register.index value ≡ after)
read_value register (Value value) registers after e k = (value, refl, some_is e)
read_value register (Refused rule witness) registers after e k = absurd k
read_value register _ registers after e k = absurd (cc)

get_value : (register : Register) (answer : Answer) (registers after : Registers) → after_get register answer registers ≡ Some after → IsCleanAnswer answer →
    (value : ℕ) × (answer ≡ Value value) × (slice_set (with_ok 1 registers) register.index value ≡ after)
get_value register (Value value) registers after e k = (value, refl, some_is e)
get_value register (Refused rule witness) registers after e k = absurd k
get_value register Unset registers after e k = absurd k
get_value register _ registers after e k = absurd (cc)

write_granted : (answer : Answer) (registers after : Registers) → after_write answer registers ≡ Some after → IsCleanAnswer answer →
    (value_given answer ≡ None) × (with_ok 1 registers ≡ after)
write_granted Granted registers after e k = (refl, some_is e)
write_granted (Refused rule witness) registers after e k = absurd k
write_granted _ registers after e k = absurd (cc)

update_granted : (answer : Answer) (registers after : Registers) → after_update answer registers ≡ Some after →
    (value_given answer ≡ None) × (with_ok 1 registers ≡ after)
update_granted Granted registers after e = (refl, some_is e)
update_granted _ registers after e = absurd (cc)

spawn_split : (answer : Answer) (registers after : Registers) → after_spawn answer registers ≡ Some after →
    (value_given answer ≡ None) × (registers ≡ after)
spawn_split (Split strands) registers after e = (refl, some_is e)
spawn_split _ registers after e = absurd (cc)

sync_answered : (answer : Answer) (registers after : Registers) → after_sync answer registers ≡ Some after →
    (value_given answer ≡ None) × (registers ≡ after)
sync_answered Same registers after e = (refl, some_is e)
sync_answered (Joined join) registers after e = (refl, some_is e)
sync_answered Waits registers after e = (refl, some_is e)
sync_answered _ registers after e = absurd (cc)

return_given : (origin : Origin) (answer : Answer) → IsReturned origin answer → value_given answer ≡ None
return_given FromCall Resumed h = refl
return_given FromSpawn Ended h = refl
return_given FromSpawn (EndedJoined join) h = refl
return_given FromSpawn Finished h = refl
return_given _ _ h = absurd h

module _ (functions : List Code) (monoids : List Monoid) where
  -- what was inserted in two parts
  insert_parts : (first second : List Exchange) (all : List Effect) → Inserts functions monoids (first ++ second) all →
      (one : List Effect) × (two : List Effect) × (all ≡ one ++ two) × Inserts functions monoids first one × Inserts functions monoids second two
  insert_parts [] second all i = ([], all, refl, nothing, i)
  insert_parts (x ∷ first) second all (kept {all = more} t k i) =
      let r = insert_parts first second more i in (did x ∷ r.0, r.1, ap (λ l. did x ∷ l) r.2, kept t k r.3, r.4)
  insert_parts (x ∷ first) second all (inserted {inner = inner} {outer = outer} t f e i j) =
      let r = insert_parts first second outer i in
      (did x ∷ (inner ++ r.0), r.1, ap (λ l. did x ∷ l) (j ∙ ap (λ l. inner ++ l) r.2 ∙ sym (append_assoc inner r.0 r.1)), inserted t f e r.3 refl, r.4)

  passes : (end_line : ℕ) (rest later : Tree) (registers changed : Registers) (store last : Store) (all : List Effect) → Passes rest registers later changed →
      Evaluates functions monoids end_line later changed store all last → Evaluates functions monoids end_line rest registers store all last
  passes end_line rest later registers changed store last all assigned d = let_evaluated d
  passes end_line rest later registers changed store last all (first_part n) d = first_evaluated n d
  passes end_line rest later registers changed store last all (second_part z) d = second_evaluated z d
  passes end_line rest later registers changed store last all counted d = pfor_evaluated d

  pub dialogue_evaluates : (origin : Origin) (end_line : ℕ) (rest : Tree) (registers : Registers) (said : List Exchange) (all : List Effect) →
      Dialogue functions origin Whole end_line rest registers said → Inserts functions monoids said all → (store : Store) → AreRight monoids store all →
      Evaluates functions monoids end_line rest registers store all (after_all monoids all store)
  dialogue_evaluates origin end_line rest registers said all (Dialogue.passed {later = later} {changed = changed} p d) i store right =
      passes end_line rest later registers changed store (after_all monoids all store) all p
      (dialogue_evaluates origin end_line later changed said all d i store right)
  dialogue_evaluates origin end_line rest registers said all (Dialogue.read {rest = left} {after = after} {line = line} {register = register} {location = location} answer e d) (kept {all = more} t k i) store right =
      let v = read_value register answer registers after e k in
      let held : Some v.0 ≡ Some (slice_index store.memory (cell_of location registers)) = subst (λ a. value_given a ≡ Some (slice_index store.memory (cell_of location registers))) v.1 right.0 in
      let given : value_given answer ≡ Some (slice_index store.memory (cell_of location registers)) = right.0 in
      let same : with_register (with_ok 1 registers) register (slice_index store.memory (cell_of location registers)) ≡ after =
      ap (λ n. slice_set (with_ok 1 registers) register.index n) (sym (some_is held)) ∙ v.2 in
      subst (λ g. Evaluates functions monoids end_line (Step (Read line register location) left) registers store (record { act = Act.Read (cell_of location registers); line = line; value = g } ∷ more) (after_all monoids more store)) (sym given)
      (read_evaluated (subst (λ r. Evaluates functions monoids end_line left r store more (after_all monoids more store)) (sym same)
      (dialogue_evaluates origin end_line left after _ more d i store right.1)))
  dialogue_evaluates origin end_line rest registers said all (Dialogue.read answer e d) (inserted t f p i j) store right = absurd (cc)
  dialogue_evaluates origin end_line rest registers said all (Dialogue.write {rest = left} {after = after} {line = line} {location = location} {value = value} answer e d) (kept {all = more} t k i) store right =
      let v = write_granted answer registers after e k in
      let one : Act = Act.Write (cell_of location registers) (value_of value registers) in
      subst (λ g. Evaluates functions monoids end_line (Step (Write line location value) left) registers store (record { act = one; line = line; value = g } ∷ more) (after_all monoids more (after_act monoids one store))) (sym v.0)
      (write_evaluated (subst (λ r. Evaluates functions monoids end_line left r (after_act monoids one store) more (after_all monoids more (after_act monoids one store))) (sym v.1)
      (dialogue_evaluates origin end_line left after _ more d i (after_act monoids one store) right.1)))
  dialogue_evaluates origin end_line rest registers said all (Dialogue.write answer e d) (inserted t f p i j) store right = absurd (cc)
  dialogue_evaluates origin end_line rest registers said all (Dialogue.bump {rest = left} {after = after} {line = line} {location = location} {value = value} answer e d) (kept {all = more} t k i) store right =
      let v = write_granted answer registers after e k in
      let one : Act = Act.Bump (cell_of location registers) (value_of value registers) in
      subst (λ g. Evaluates functions monoids end_line (Step (Bump line location value) left) registers store (record { act = one; line = line; value = g } ∷ more) (after_all monoids more (after_act monoids one store))) (sym v.0)
      (bump_evaluated (subst (λ r. Evaluates functions monoids end_line left r (after_act monoids one store) more (after_all monoids more (after_act monoids one store))) (sym v.1)
      (dialogue_evaluates origin end_line left after _ more d i (after_act monoids one store) right.1)))
  dialogue_evaluates origin end_line rest registers said all (Dialogue.bump answer e d) (inserted t f p i j) store right = absurd (cc)
  dialogue_evaluates origin end_line rest registers said all (Dialogue.update {rest = left} {after = after} {line = line} {reducer = reducer} {value = value} answer e d) (kept {all = more} t k i) store right =
      let v = update_granted answer registers after e in
      let one : Act = Act.Update reducer (value_of value registers) in
      subst (λ g. Evaluates functions monoids end_line (Step (Update line reducer value) left) registers store (record { act = one; line = line; value = g } ∷ more) (after_all monoids more (after_act monoids one store))) (sym v.0)
      (update_evaluated (subst (λ r. Evaluates functions monoids end_line left r (after_act monoids one store) more (after_all monoids more (after_act monoids one store))) (sym v.1)
      (dialogue_evaluates origin end_line left after _ more d i (after_act monoids one store) right.1)))
  dialogue_evaluates origin end_line rest registers said all (Dialogue.update answer e d) (inserted t f p i j) store right = absurd (cc)
  dialogue_evaluates origin end_line rest registers said all (Dialogue.put {rest = left} {after = after} {line = line} {reducer = reducer} {value = value} answer e d) (kept {all = more} t k i) store right =
      let v = write_granted answer registers after e k in
      let one : Act = Act.Put reducer (value_of value registers) in
      subst (λ g. Evaluates functions monoids end_line (Step (Put line reducer value) left) registers store (record { act = one; line = line; value = g } ∷ more) (after_all monoids more (after_act monoids one store))) (sym v.0)
      (put_evaluated (subst (λ r. Evaluates functions monoids end_line left r (after_act monoids one store) more (after_all monoids more (after_act monoids one store))) (sym v.1)
      (dialogue_evaluates origin end_line left after _ more d i (after_act monoids one store) right.1)))
  dialogue_evaluates origin end_line rest registers said all (Dialogue.put answer e d) (inserted t f p i j) store right = absurd (cc)
  dialogue_evaluates origin end_line rest registers said all (Dialogue.get {rest = left} {after = after} {line = line} {reducer = reducer} {register = register} answer e d) (kept {all = more} t k i) store right =
      let v = get_value register answer registers after e k in
      let given : value_given answer ≡ Some (got store reducer) = right.0 in
      let held : Some v.0 ≡ Some (got store reducer) = subst (λ a. value_given a ≡ Some (got store reducer)) v.1 given in
      let same : with_register (with_ok 1 registers) register (got store reducer) ≡ after =
      ap (λ n. slice_set (with_ok 1 registers) register.index n) (sym (some_is held)) ∙ v.2 in
      subst (λ g. Evaluates functions monoids end_line (Step (Get line register reducer) left) registers store (record { act = Act.Get reducer; line = line; value = g } ∷ more) (after_all monoids more store)) (sym given)
      (get_evaluated (subst (λ r. Evaluates functions monoids end_line left r store more (after_all monoids more store)) (sym same)
      (dialogue_evaluates origin end_line left after _ more d i store right.1)))
  dialogue_evaluates origin end_line rest registers said all (Dialogue.get answer e d) (inserted t f p i j) store right = absurd (cc)
  dialogue_evaluates origin end_line rest registers said all (Dialogue.spawned answer e d) (kept t k i) store right = absurd (cc)
  dialogue_evaluates origin end_line rest registers said all (Dialogue.spawned {rest = left} {after = after} {line = line} {function = function} {argument = argument} answer e d) (inserted {inner = inner} {outer = outer} {all = more} {target = target} {child = child} t f p i j) store right =
      let v = spawn_split answer registers after e in
      let k : record { function = function; argument = value_of argument registers } ≡ target = cc in
      let f' = subst (λ u. slice_get functions u.function ≡ Some child) (sym k) f in
      let p' = subst (λ u. IsDoneBy functions monoids child u.argument inner) (sym k) p in
      let both = subst (AreRight monoids store) j right.1 in
      let between = after_all monoids inner store in
      let first = p' store (right_first monoids inner outer store both) in
      let second = dialogue_evaluates origin end_line left after _ outer d i between (right_second monoids inner outer store both) in
      let last : after_all monoids more store ≡ after_all monoids outer between = ap (λ l. after_all monoids l store) j ∙ after_parts monoids inner outer store in
      subst (λ g. Evaluates functions monoids end_line (Step (Spawn line function argument) left) registers store (record { act = Act.Spawn; line = line; value = g } ∷ more) (after_all monoids more store)) (sym v.0)
      (subst (λ s. Evaluates functions monoids end_line (Step (Spawn line function argument) left) registers store (record { act = Act.Spawn; line = line; value = None } ∷ more) s) (sym last)
      (spawn_evaluated f' first (subst (λ r. Evaluates functions monoids end_line left r between outer (after_all monoids outer between)) (sym v.1) second) j))
  dialogue_evaluates origin end_line rest registers said all (Dialogue.called {rest = left} {inner = inner} {outer = outer} {line = line} {function = function} {argument = argument} {callee = callee} g c d j) (kept {all = more} t k i) store right =
      let r = insert_parts inner outer more (subst (λ l. Inserts functions monoids l more) j i) in
      let both = subst (AreRight monoids store) r.2 right.1 in
      let between = after_all monoids r.0 store in
      let first = dialogue_evaluates FromCall callee.end_line (script callee) (first_registers (value_of argument registers)) inner r.0 c r.3 store (right_first monoids r.0 r.1 store both) in
      let second = dialogue_evaluates origin end_line left registers outer r.1 d r.4 between (right_second monoids r.0 r.1 store both) in
      let last : after_all monoids more store ≡ after_all monoids r.1 between = ap (λ l. after_all monoids l store) r.2 ∙ after_parts monoids r.0 r.1 store in
      subst (λ s. Evaluates functions monoids end_line (Step (Call line function argument) left) registers store (record { act = Act.Call; line = line; value = None } ∷ more) s) (sym last)
      (call_evaluated g first second r.2)
  dialogue_evaluates origin end_line rest registers said all (Dialogue.called g c d j) (inserted t f p i q) store right = absurd (cc)
  dialogue_evaluates origin end_line rest registers said all (Dialogue.synced {rest = left} {after = after} {line = line} answer e d) (kept {all = more} t k i) store right =
      let v = sync_answered answer registers after e in
      subst (λ g. Evaluates functions monoids end_line (Step (Sync line) left) registers store (record { act = Act.Sync; line = line; value = g } ∷ more) (after_all monoids more store)) (sym v.0)
      (sync_evaluated (subst (λ r. Evaluates functions monoids end_line left r store more (after_all monoids more store)) (sym v.1)
      (dialogue_evaluates origin end_line left after _ more d i store right.1)))
  dialogue_evaluates origin end_line rest registers said all (Dialogue.synced answer e d) (inserted t f p i j) store right = absurd (cc)
  dialogue_evaluates origin end_line rest registers said all (Dialogue.returned answer a) (kept t k nothing) store right =
      subst (λ g. Evaluates functions monoids end_line Done registers store (record { act = Act.Return; line = end_line; value = g } ∷ []) store) (sym (return_given origin answer a)) return_evaluated
  dialogue_evaluates origin end_line rest registers said all (Dialogue.returned answer a) (inserted t f p i j) store right = absurd (cc)
