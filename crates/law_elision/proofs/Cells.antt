-- In serial order each read is given what its cell holds there, and the cells hold in the end what the history leaves.
use Rattle.std.proofs.Common.{◌≡◌, ◌≢◌, ◌↔◌, inl, inr, ℕ, suc, ◌+◌, ◌%◌, ◌^◌, ◌<◌, Bool, true, false, cond, Option, Some, List, [], ◌∷◌, ◌++◌, length, AllPairs, Contains, refl, sym, ap, ◌∙◌, subst, add-zero, arith}
use Rattle.std.specs.Prelude.{◌==◌, if◌then◌else◌, MatchOption}
use Rattle.std.specs.Option.{option_to_list}
use Rattle.std.proofs.Math.Nat.{mod-add-mod, mod-eq_of_lt}
use Rattle.std.proofs.lemmas.Bool.{eqb-true, eq-eqb}
use Rattle.std.proofs.lemmas.List.{map-append}
use Rattle.std.proofs.lemmas.List.Elements.{All-head, All-tail}
use Rattle.model_accesses.specs.declared.kind.Kind.{Kind}
use Rattle.model_accesses.specs.declared.kind.Kind.TheVariants as kind
use Rattle.model_accesses.specs.declared.kind.Rule.TheVariants.{Race}
use Rattle.model_accesses.specs.Table.{rule_between}
use Rattle.model_accesses.specs.declared.request.Act.{Act}
use Rattle.model_strands.specs.Dag.{IsParallel}
use Rattle.law_strands.proofs.Updates.{same_or_not}
use Rattle.law_strands.proofs.Members.{Present, present_append, contains_present}
use Rattle.model_accesses.specs.Accesses.{Access}
use Rattle.model_races.specs.declared.access.CellAccess.{CellAccess}
use Rattle.model_histories.specs.declared.answer.Answer.{Answer}
use Rattle.model_histories.specs.declared.answer.Answer.TheVariants.{Granted, Value, Refused}
use Rattle.model_histories.specs.declared.answer.Entry.{Entry}
use Rattle.model_histories.specs.Entries.{Entries, control_part}
use Rattle.model_histories.specs.Shapes.{Shape}
use Rattle.model_histories.specs.Legal.{IsLegal, Belongs}
use Rattle.model_races.specs.Accesses.{cell_access, is_granted, access_at, granted}
use Rattle.model_races.specs.Memory.{effect_on_cell, last_written, bumped_since, cell_value, effects as effects_on_memory}
use Rattle.model_races.specs.Verdicts.{IsRefused, IfValue, IsRightVerdict, MemoryIsJudged}
use Rattle.model_histories.specs.Extensions.{IsCleanAnswer, IsClean}
use Rattle.model_programs.specs.Evaluation.{Effect}
use Rattle.model_runs.specs.Serial.{value_given, effect_of}
use Rattle.law_runs.specs.Numbers.{IsNumbered, AreNumbered}
use Rattle.law_elision.specs.Placed.{Placed, placed_at, IsPlaced}
use Rattle.law_elision.proofs.Insertions.{Inserted, by_insertions}
use Rattle.law_elision.proofs.Trees.{IsEarlier}
use Rattle.law_elision.proofs.Runs.{placed_effects, placed_clean, placed_belongs}

-- what an act makes of what one cell holds
abbrev pub cell_after : Act → ℕ → ℕ → ℕ
cell_after (Act.Write location value) cell held = if location == cell then value else held
cell_after (Act.Bump location value) cell held = if location == cell then (held + value) % 2 ^ 64 else held
cell_after act cell held = held

abbrev pub held_after : List Effect → ℕ → ℕ → ℕ
held_after [] cell held = held
held_after (one ∷ effects) cell held = held_after effects cell (cell_after one.act cell held)

-- a read of the cell is given what it holds
abbrev pub IsReadRight : ℕ → ℕ → Act → Option ℕ → Type 0
IsReadRight cell held (Act.Read location) value = location ≡ cell → value ≡ Some held
IsReadRight cell held act value = Unit {0}

abbrev pub AreReadsRight : ℕ → ℕ → List Effect → Type 0
AreReadsRight cell held [] = Unit {0}
AreReadsRight cell held (one ∷ effects) = IsReadRight cell held one.act one.value × AreReadsRight cell (cell_after one.act cell held) effects

held_parts : (first second : List Effect) (cell held : ℕ) → held_after (first ++ second) cell held ≡ held_after second cell (held_after first cell held)
held_parts [] second cell held = refl
held_parts (one ∷ first) second cell held = held_parts first second cell (cell_after one.act cell held)

reads_first : (first second : List Effect) (cell held : ℕ) → AreReadsRight cell held (first ++ second) → AreReadsRight cell held first
reads_first [] second cell held r = tt
reads_first (one ∷ first) second cell held r = (r.0, reads_first first second cell (cell_after one.act cell held) r.1)

reads_second : (first second : List Effect) (cell held : ℕ) → AreReadsRight cell held (first ++ second) → AreReadsRight cell (held_after first cell held) second
reads_second [] second cell held r = r
reads_second (one ∷ first) second cell held r = reads_second first second cell (cell_after one.act cell held) r.1

reads_both : (first second : List Effect) (cell held : ℕ) → AreReadsRight cell held first → AreReadsRight cell (held_after first cell held) second →
    AreReadsRight cell held (first ++ second)
reads_both [] second cell held r q = q
reads_both (one ∷ first) second cell held r q = (r.0, reads_both first second cell (cell_after one.act cell held) r.1 q)

-- what an act is to a cell

abbrev pub Leaves : ℕ → Act → Type 0
Leaves cell act = (held : ℕ) → cell_after act cell held ≡ held

abbrev pub ReadsNot : ℕ → Act → Type 0
ReadsNot cell act = (held : ℕ) (value : Option ℕ) → IsReadRight cell held act value

-- adding before it is adding behind it
abbrev pub Adds : ℕ → Act → Type 0
Adds cell act = (held value : ℕ) → cell_after act cell ((held + value) % 2 ^ 64) ≡ (cell_after act cell held + value) % 2 ^ 64

pub data Touch (cell : ℕ) : Act → Type 0 where
  idle : {act : Act} → Leaves cell act → ReadsNot cell act → Touch cell act
  reads : {location : ℕ} → location ≡ cell → Touch cell (Act.Read location)
  writes : {location value : ℕ} → location ≡ cell → Touch cell (Act.Write location value)
  bumps : {location value : ℕ} → location ≡ cell → Touch cell (Act.Bump location value)

pub other_cell : {A : Type 0} (location cell : ℕ) (x y : A) → location ≢ cell → (if location == cell then x else y) ≡ y
other_cell location cell x y ne = go (location == cell) refl
  where
    go : (b : Bool) → (location == cell) ≡ b → (if b then x else y) ≡ y
    go true e = absurd (ne (eqb-true location cell e))
    go false e = refl

pub this_cell : {A : Type 0} (location cell : ℕ) (x y : A) → location ≡ cell → (if location == cell then x else y) ≡ x
this_cell location cell x y e = ap (λ b. if b then x else y) (eq-eqb location cell e)

pub touch : (cell : ℕ) (act : Act) → Touch cell act
touch cell (Act.Read location) =
    elim (same_or_not location cell) [ inl e ↦ reads e | inr ne ↦ idle (λ held. refl) (λ held value e. absurd (ne e)) ]
touch cell (Act.Write location value) =
    elim (same_or_not location cell) [ inl e ↦ writes e | inr ne ↦ idle (λ held. other_cell location cell value held ne) (λ held given. tt) ]
touch cell (Act.Bump location value) =
    elim (same_or_not location cell) [ inl e ↦ bumps e | inr ne ↦ idle (λ held. other_cell location cell ((held + value) % 2 ^ 64) held ne) (λ held given. tt) ]
touch cell Act.Spawn = idle (λ held. refl) (λ held given. tt)
touch cell Act.Sync = idle (λ held. refl) (λ held given. tt)
touch cell Act.Call = idle (λ held. refl) (λ held given. tt)
touch cell Act.Return = idle (λ held. refl) (λ held given. tt)
touch cell (Act.Update reducer value) = idle (λ held. refl) (λ held given. tt)
touch cell (Act.Put reducer value) = idle (λ held. refl) (λ held given. tt)
touch cell (Act.Get reducer) = idle (λ held. refl) (λ held given. tt)

-- lists of such acts

leaves_all : (cell : ℕ) (back : List Placed) → ((y : Placed) → Present y back → Leaves cell y.entry.request.act) → (held : ℕ) →
    held_after (placed_effects back) cell held ≡ held
leaves_all cell [] f held = refl
leaves_all cell (y ∷ back) f held =
    ap (held_after (placed_effects back) cell) (f y (inl refl) held) ∙ leaves_all cell back (λ z p. f z (inr p)) held

reads_not_all : (cell : ℕ) (back : List Placed) → ((y : Placed) → Present y back → ReadsNot cell y.entry.request.act) → (held : ℕ) →
    AreReadsRight cell held (placed_effects back)
reads_not_all cell [] f held = tt
reads_not_all cell (y ∷ back) f held =
    (f y (inl refl) held (value_given y.entry.answer), reads_not_all cell back (λ z p. f z (inr p)) (cell_after y.entry.request.act cell held))

adds_all : (cell : ℕ) (back : List Placed) → ((y : Placed) → Present y back → Adds cell y.entry.request.act) → (held value : ℕ) →
    held_after (placed_effects back) cell ((held + value) % 2 ^ 64) ≡ (held_after (placed_effects back) cell held + value) % 2 ^ 64
adds_all cell [] f held value = refl
adds_all cell (y ∷ back) f held value =
    ap (held_after (placed_effects back) cell) (f y (inl refl) held value) ∙
    adds_all cell back (λ z p. f z (inr p)) (cell_after y.entry.request.act cell held) value

-- bumps add in any order
more_added : (held one other size : ℕ) → ((held + other) % size + one) % size ≡ ((held + one) % size + other) % size
more_added held one other size =
    let swap : held + other + one ≡ held + one + other = omega arith in
    mod-add-mod (held + other) size one ∙ ap (λ n. n % size) swap ∙ sym (mod-add-mod (held + one) size other)

bump_adds : (cell location value : ℕ) → Adds cell (Act.Bump location value)
bump_adds cell location value held added =
    elim (same_or_not location cell) [
      | inl e ↦ this_cell location cell (((held + added) % 2 ^ 64 + value) % 2 ^ 64) ((held + added) % 2 ^ 64) e ∙ more_added held value added (2 ^ 64) ∙
          ap (λ n. (n + added) % 2 ^ 64) (sym (this_cell location cell ((held + value) % 2 ^ 64) held e))
      | inr ne ↦ other_cell location cell (((held + added) % 2 ^ 64 + value) % 2 ^ 64) ((held + added) % 2 ^ 64) ne ∙
          ap (λ n. (n + added) % 2 ^ 64) (sym (other_cell location cell ((held + value) % 2 ^ 64) held ne))
    ]

idle_adds : (cell : ℕ) (act : Act) → Leaves cell act → Adds cell act
idle_adds cell act l held value = l ((held + value) % 2 ^ 64) ∙ ap (λ n. (n + value) % 2 ^ 64) (sym (l held))

-- what is parallel to a clean access does not conflict with it

placed_granted : (entries : Entries) (y : Placed) → IsPlaced entries y → is_granted y.entry.answer ≡ true → (access : CellAccess) →
    cell_access y.entry.request.act ≡ Some access →
    Contains (granted entries) (record { strand = y.entry.request.strand; kind = access.kind; location = access.location; entry = y.number })
placed_granted entries y p g access is = (contains_present _ (granted entries)).1 (go entries p)
  where
    of_y : Access
    of_y = record { strand = y.entry.request.strand; kind = access.kind; location = access.location; entry = y.number }

    found : access_at y.number y.entry ≡ Some of_y
    found = rw (g, is) refl

    go : (entries : Entries) → IsPlaced entries y → Present of_y (granted entries)
    go [] p = absurd p
    go (entry ∷ entries) (inr p) = (present_append (granted entries) (option_to_list (access_at (suc (length entries)) entry)) of_y).1 (inl (go entries p))
    go (entry ∷ entries) (inl e) =
        (present_append (granted entries) (option_to_list (access_at (suc (length entries)) entry)) of_y).1
        (inr (subst (λ z. Present of_y (option_to_list (access_at z.number z.entry))) e
        (subst (λ o. Present of_y (option_to_list o)) (sym found) (inl refl))))

clean_granted : (act : Act) (answer : Answer) (access : CellAccess) → Belongs act answer → IsCleanAnswer answer → cell_access act ≡ Some access → is_granted answer ≡ true
clean_granted (Act.Read x) (Value v) access b c is = refl
clean_granted (Act.Read x) (Refused rule witness) access b c is = absurd c
clean_granted (Act.Read x) _ access b c is = absurd b
clean_granted (Act.Write x v) Granted access b c is = refl
clean_granted (Act.Write x v) (Refused rule witness) access b c is = absurd c
clean_granted (Act.Write x v) _ access b c is = absurd b
clean_granted (Act.Bump x v) Granted access b c is = refl
clean_granted (Act.Bump x v) (Refused rule witness) access b c is = absurd c
clean_granted (Act.Bump x v) _ access b c is = absurd b
clean_granted act answer access b c is = absurd (cc)

verdict_now : (entry : Entry) (entries : Entries) → MemoryIsJudged (entry ∷ entries) → (access : CellAccess) → cell_access entry.request.act ≡ Some access →
    IsRightVerdict entries entry.request.strand access entry.answer
verdict_now entry entries judged access is =
    subst (λ found. MatchOption found (Unit {0}) (λ one. IsRightVerdict entries entry.request.strand one entry.answer)) is judged.1

not_refused : (answer : Answer) → IsCleanAnswer answer → IsRefused answer → ⊥
not_refused (Refused rule witness) c r = c
not_refused _ c r = r

module _ (shape : Shape) where
  no_conflict : (entry : Entry) (entries : Entries) → IsLegal shape (entry ∷ entries) → MemoryIsJudged (entry ∷ entries) → IsClean (entry ∷ entries) →
      (y : Placed) → IsPlaced entries y → IsParallel (control_part entries) y.entry.request.strand entry.request.strand → (one other : CellAccess) →
      cell_access y.entry.request.act ≡ Some one → cell_access entry.request.act ≡ Some other → one.location ≡ other.location → rule_between one.kind other.kind ≡ Race → ⊥
  no_conflict entry entries l judged clean y p parallel one other is_one is_other same_place race =
      let k = All-tail (λ e. IsCleanAnswer e.answer) entry entries clean in
      let g = clean_granted y.entry.request.act y.entry.answer one (placed_belongs shape entries l.0 y p) (placed_clean entries k y p) is_one in
      let v = verdict_now entry entries judged other is_other in
      not_refused entry.answer (All-head (λ e. IsCleanAnswer e.answer) entry entries clean)
      (v.refused.1 (
        record { strand = y.entry.request.strand; kind = one.kind; location = one.location; entry = y.number },
        (placed_granted entries y p g one is_one, same_place, race, parallel),
      ))

-- what stands behind an access and does not conflict with it

abbrev NoConflict : ℕ → Kind → Act → Type 0
NoConflict cell new act = (one : CellAccess) → cell_access act ≡ Some one → one.location ≡ cell → rule_between one.kind new ≡ Race → ⊥

behind_read : (cell : ℕ) (act : Act) → Touch cell act → NoConflict cell kind.Read act → Leaves cell act
behind_read cell act (idle l r) n = l
behind_read cell act (reads e) n = λ held. refl
behind_read cell act (writes {location = location} e) n = absurd (n (record { kind = kind.Write; location = location }) refl e refl)
behind_read cell act (bumps {location = location} e) n = absurd (n (record { kind = kind.Bump; location = location }) refl e refl)

behind_write : (cell : ℕ) (act : Act) → Touch cell act → NoConflict cell kind.Write act → Leaves cell act × ReadsNot cell act
behind_write cell act (idle l r) n = (l, r)
behind_write cell act (reads {location = location} e) n = absurd (n (record { kind = kind.Read; location = location }) refl e refl)
behind_write cell act (writes {location = location} e) n = absurd (n (record { kind = kind.Write; location = location }) refl e refl)
behind_write cell act (bumps {location = location} e) n = absurd (n (record { kind = kind.Bump; location = location }) refl e refl)

behind_bump : (cell : ℕ) (act : Act) → Touch cell act → NoConflict cell kind.Bump act → Adds cell act × ReadsNot cell act
behind_bump cell act (idle l r) n = (idle_adds cell act l, r)
behind_bump cell act (reads {location = location} e) n = absurd (n (record { kind = kind.Read; location = location }) refl e refl)
behind_bump cell act (writes {location = location} e) n = absurd (n (record { kind = kind.Write; location = location }) refl e refl)
behind_bump cell act (bumps {location = location} {value = value} e) n = (bump_adds cell location value, λ held given. tt)

-- an act passes what stands behind it
pub record Passes (cell : ℕ) (act : Act) (value : Option ℕ) (back : List Placed) : Type 0 where
  pub held : (held : ℕ) → held_after (placed_effects back) cell (cell_after act cell held) ≡ cell_after act cell (held_after (placed_effects back) cell held)
  pub reads_on : (held : ℕ) → AreReadsRight cell held (placed_effects back) → AreReadsRight cell (cell_after act cell held) (placed_effects back)
  pub read : (held : ℕ) → IsReadRight cell (held_after (placed_effects back) cell held) act value → IsReadRight cell held act value

passes : (cell : ℕ) (act : Act) (value : Option ℕ) (back : List Placed) → Touch cell act →
    ((other : CellAccess) → cell_access act ≡ Some other → (y : Placed) → Present y back → NoConflict other.location other.kind y.entry.request.act) →
    Passes cell act value back
passes cell act value back (idle l r) n = record {
  held = λ held. ap (held_after (placed_effects back) cell) (l held) ∙ sym (l (held_after (placed_effects back) cell held));
  reads_on = λ held k. subst (λ h. AreReadsRight cell h (placed_effects back)) (sym (l held)) k;
  read = λ held k. r held value;
}
passes cell act value back (reads {location = location} e) n =
    let f = λ (y : Placed) (p : Present y back). behind_read cell y.entry.request.act (touch cell y.entry.request.act)
    (subst (λ c. NoConflict c kind.Read y.entry.request.act) e (n (record { kind = kind.Read; location = location }) refl y p)) in
    record {
      held = λ held. refl;
      reads_on = λ held k. k;
      read = λ held k at. k at ∙ ap (λ h. Some h) (leaves_all cell back f held);
    }
passes cell act value back (writes {location = location} {value = written} e) n =
    let f = λ (y : Placed) (p : Present y back). behind_write cell y.entry.request.act (touch cell y.entry.request.act)
    (subst (λ c. NoConflict c kind.Write y.entry.request.act) e (n (record { kind = kind.Write; location = location }) refl y p)) in
    record {
      held = λ held. leaves_all cell back (λ y p. (f y p).0) (cell_after (Act.Write location written) cell held) ∙
          this_cell location cell written held e ∙ sym (this_cell location cell written (held_after (placed_effects back) cell held) e);
      reads_on = λ held k. reads_not_all cell back (λ y p. (f y p).1) (cell_after (Act.Write location written) cell held);
      read = λ held k. tt;
    }
passes cell act value back (bumps {location = location} {value = added} e) n =
    let f = λ (y : Placed) (p : Present y back). behind_bump cell y.entry.request.act (touch cell y.entry.request.act)
    (subst (λ c. NoConflict c kind.Bump y.entry.request.act) e (n (record { kind = kind.Bump; location = location }) refl y p)) in
    record {
      held = λ held. ap (held_after (placed_effects back) cell) (this_cell location cell ((held + added) % 2 ^ 64) held e) ∙
          adds_all cell back (λ y p. (f y p).0) held added ∙
          sym (this_cell location cell ((held_after (placed_effects back) cell held + added) % 2 ^ 64) (held_after (placed_effects back) cell held) e);
      reads_on = λ held k. reads_not_all cell back (λ y p. (f y p).1) (cell_after (Act.Bump location added) cell held);
      read = λ held k. tt;
    }

-- what one more entry makes of the value of a cell

value_written : (b : Bool) (value written since : ℕ) → value < 2 ^ 64 →
    (cond b value written + cond b 0 since) % 2 ^ 64 ≡ cond b value ((written + since) % 2 ^ 64)
value_written true value written since lt = ap (λ n. n % 2 ^ 64) (add-zero value) ∙ mod-eq_of_lt lt
value_written false value written since lt = refl

value_bumped : (b : Bool) (value written since : ℕ) →
    (written + cond b (value + since) since) % 2 ^ 64 ≡ cond b (((written + since) % 2 ^ 64 + value) % 2 ^ 64) ((written + since) % 2 ^ 64)
value_bumped true value written since =
    let same : written + (value + since) ≡ (written + since) + value = omega arith in
    ap (λ n. n % 2 ^ 64) same ∙ sym (mod-add-mod (written + since) (2 ^ 64) value)
value_bumped false value written since = refl

value_next : (entries : Entries) (act : Act) (answer : Answer) (cell : ℕ) → Belongs act answer → IsCleanAnswer answer → IsNumbered act →
    (last_written (effect_on_cell act answer ∷ effects_on_memory entries) cell + bumped_since (effect_on_cell act answer ∷ effects_on_memory entries) cell) % 2 ^ 64 ≡
    cell_after act cell (cell_value entries cell)
value_next entries (Act.Write x v) Granted cell b c n =
    value_written (x == cell) v (last_written (effects_on_memory entries) cell) (bumped_since (effects_on_memory entries) cell) n
value_next entries (Act.Write x v) (Refused rule witness) cell b c n = absurd c
value_next entries (Act.Write x v) _ cell b c n = absurd b
value_next entries (Act.Bump x v) Granted cell b c n =
    value_bumped (x == cell) v (last_written (effects_on_memory entries) cell) (bumped_since (effects_on_memory entries) cell)
value_next entries (Act.Bump x v) (Refused rule witness) cell b c n = absurd c
value_next entries (Act.Bump x v) _ cell b c n = absurd b
value_next entries (Act.Read x) answer cell b c n = refl
value_next entries Act.Spawn answer cell b c n = refl
value_next entries Act.Sync answer cell b c n = refl
value_next entries Act.Call answer cell b c n = refl
value_next entries Act.Return answer cell b c n = refl
value_next entries (Act.Update x v) answer cell b c n = refl
value_next entries (Act.Put x v) answer cell b c n = refl
value_next entries (Act.Get x) answer cell b c n = refl

-- the value that was answered

read_now : (entries : Entries) (act : Act) (answer : Answer) (cell : ℕ) → Belongs act answer → IsCleanAnswer answer →
    ((access : CellAccess) → cell_access act ≡ Some access → IfValue answer (λ value. value ≡ cell_value entries access.location)) →
    IsReadRight cell (cell_value entries cell) act (value_given answer)
read_now entries (Act.Read x) (Value v) cell b c f =
    λ e. ap (λ n. Some n) (f (record { kind = kind.Read; location = x }) refl ∙ ap (cell_value entries) e)
read_now entries (Act.Read x) (Refused rule witness) cell b c f = absurd c
read_now entries (Act.Read x) _ cell b c f = absurd b
read_now entries (Act.Write x v) answer cell b c f = tt
read_now entries (Act.Bump x v) answer cell b c f = tt
read_now entries Act.Spawn answer cell b c f = tt
read_now entries Act.Sync answer cell b c f = tt
read_now entries Act.Call answer cell b c f = tt
read_now entries Act.Return answer cell b c f = tt
read_now entries (Act.Update x v) answer cell b c f = tt
read_now entries (Act.Put x v) answer cell b c f = tt
read_now entries (Act.Get x) answer cell b c f = tt

-- in serial order the reads of a cell are right, and it holds in the end what the history leaves
pub record IsCellRight (cell : ℕ) (entries : Entries) (list : List Placed) : Type 0 where
  pub reads_right : AreReadsRight cell 0 (placed_effects list)
  pub leaves_value : held_after (placed_effects list) cell 0 ≡ cell_value entries cell

abbrev CellRight : ℕ → Entries → List Placed → Type 0
CellRight cell entries list = MemoryIsJudged entries → IsClean entries → AreNumbered entries → IsCellRight cell entries list

pub placed_append : (front back : List Placed) → placed_effects (front ++ back) ≡ placed_effects front ++ placed_effects back
placed_append front back = map-append (λ y. effect_of y.entry) front back

module _ (shape : Shape) (cell : ℕ) where
  cell_step : (entry : Entry) (entries : Entries) (front back : List Placed) → Inserted shape entry entries front back → CellRight cell entries (front ++ back) →
      CellRight cell (entry ∷ entries) (front ++ (placed_at entries entry ∷ back))
  cell_step entry entries front back i old judged clean numbers =
      record {
        reads_right = subst (AreReadsRight cell 0) (sym (placed_append front (placed_at entries entry ∷ back)))
            (reads_both (placed_effects front) (effect_of entry ∷ placed_effects back) cell 0 (reads_first (placed_effects front) (placed_effects back) cell 0 before_right) (
              p.read held_there (subst (λ h. IsReadRight cell h entry.request.act (value_given entry.answer)) (sym held_before) read_right),
              p.reads_on held_there (reads_second (placed_effects front) (placed_effects back) cell 0 before_right),
            ));
        leaves_value =
            ap (λ l. held_after l cell 0) (placed_append front (placed_at entries entry ∷ back)) ∙
            held_parts (placed_effects front) (effect_of entry ∷ placed_effects back) cell 0 ∙ p.held held_there ∙ ap (cell_after entry.request.act cell) held_before ∙
            sym (value_next entries entry.request.act entry.answer cell i.legal.1.belongs is_clean (All-head (λ e. IsNumbered e.request.act) entry entries numbers));
      }
    where
      before : IsCellRight cell entries (front ++ back)
      before = old judged.0 (All-tail (λ e. IsCleanAnswer e.answer) entry entries clean) (All-tail (λ e. IsNumbered e.request.act) entry entries numbers)

      is_clean : IsCleanAnswer entry.answer
      is_clean = All-head (λ e. IsCleanAnswer e.answer) entry entries clean

      held_there : ℕ
      held_there = held_after (placed_effects front) cell 0

      before_right : AreReadsRight cell 0 (placed_effects front ++ placed_effects back)
      before_right = subst (AreReadsRight cell 0) (placed_append front back) before.reads_right

      held_before : held_after (placed_effects back) cell held_there ≡ cell_value entries cell
      held_before = sym (held_parts (placed_effects front) (placed_effects back) cell 0) ∙ ap (λ l. held_after l cell 0) (sym (placed_append front back)) ∙ before.leaves_value

      read_right : IsReadRight cell (cell_value entries cell) entry.request.act (value_given entry.answer)
      read_right = read_now entries entry.request.act entry.answer cell i.legal.1.belongs is_clean (λ access is. (verdict_now entry entries judged access is).value)

      p : Passes cell entry.request.act (value_given entry.answer) back
      p = passes cell entry.request.act (value_given entry.answer) back (touch cell entry.request.act)
          (λ other is y q one is_one same_place race.
          no_conflict shape entry entries i.legal judged clean y ((i.members y).0 ((present_append front back y).1 (inr q))) (i.parallel y q) one other is_one is same_place race)

  pub cell_right : (entries : Entries) → IsLegal shape entries → (list : List Placed) → AllPairs (IsEarlier entries) list → ((y : Placed) → Present y list ↔ IsPlaced entries y) →
      CellRight cell entries list
  cell_right = by_insertions shape (CellRight cell) (λ judged clean numbers. record { reads_right = tt; leaves_value = refl }) cell_step
