-- A history and a request determine the right answer, but for the witness of a refusal.
use Rattle.std.proofs.Common.{◌≡◌, ◌⊎◌, inl, inr, ℕ, suc, List, [], ◌∷◌, map, length, Option, Some, None, refl, sym, ◌∙◌, ap, subst, arith}
use Rattle.std.specs.Prelude.{MatchOption}
use Rattle.model_accesses.specs.declared.request.Act.{Act}
use Rattle.model_reducers.specs.declared.monoid.Monoid.{Monoid}
use Rattle.model_strands.specs.declared.spawned.Spawned.{Spawned}
use Rattle.model_strands.specs.History.{Event, History}
use Rattle.model_strands.specs.Strands.{Running}
use Rattle.model_strands.specs.Blocks.{Stack, root, spawned, called, block, stack, IsSynced}
use Rattle.model_strands.specs.Legal.{Allowed, Legal}
use Rattle.law_strands.specs.Acts.{Act as ControlAct, spawns, syncs, calls, returns, Answers}
use Rattle.law_strands.proofs.Finish.{answer_law, unsynced_law, finish_law}
use Rattle.model_reducers.specs.Items.{Items, control, update, put, other as elsewhere}
use Rattle.law_values.specs.Items.{AreLegalItems as AreItemsLegal}
use Rattle.model_reducers.specs.Entries.{Entry as ItemEntry, entry_number, entry_value, HasPut}
use Rattle.model_reducers.specs.Steps.{Steps, items_of}
use Rattle.law_values.specs.Accesses.{control_steps, AreLegal}
use Rattle.model_reducers.specs.Views.{product}
use Rattle.model_reducers.specs.GetValues.{IsLastPut, AreCounted, IsValue}
use Rattle.law_values.proofs.Accesses.{projection_law}
use Rattle.law_values.proofs.Steps.{put_numbered}
use Rattle.law_values.proofs.Law.{counted_law}
use Rattle.model_reducers.specs.declared.view.View.{View}
use Rattle.model_reducers.specs.Products.{reducer_of, view_number, monoid_of}
use Rattle.model_races.specs.declared.access.CellAccess.{CellAccess}
use Rattle.model_histories.specs.declared.answer.Answer.{Answer}
use Rattle.model_histories.specs.declared.answer.Answer.TheVariants.{Split, Same, Joined, Waits, Resumed, Ended, EndedJoined, Finished, Granted, Value, Refused, Unset}
use Rattle.model_histories.specs.declared.answer.Entry.{Entry}
use Rattle.model_histories.specs.Entries.{Entries, event_between, event_of, control_part}
use Rattle.model_histories.specs.Shapes.{Shape}
use Rattle.model_histories.specs.Legal.{Belongs, IsLegal}
use Rattle.model_races.specs.Memory.{cell_value}
use Rattle.model_races.specs.Verdicts.{IsRefused, IfValue, IsRightVerdict}
use Rattle.model_races.specs.Reducers.{step_with, steps_of}
use Rattle.model_races.specs.ViewReads.{Completes}
use Rattle.model_races.specs.ReducerVerdicts.{IsGetValue}
use Rattle.model_races.specs.Judged.{IsJudged}
use Rattle.race_gate.proofs.Races.{legal-part}
use Rattle.race_gate.proofs.Entering.{steps-control}

-- Answers to acts of control

-- the act as control histories know it
abbrev control_act : Act → ControlAct
control_act Act.Spawn = spawns
control_act Act.Sync = syncs
control_act Act.Call = calls
control_act _ = returns

abbrev IsControl : Act → Type 0
IsControl Act.Spawn = Unit {0}
IsControl Act.Sync = Unit {0}
IsControl Act.Call = Unit {0}
IsControl Act.Return = Unit {0}
IsControl act = ⊥

-- an answer that belongs is an event that answers the act
answers_of : (history : History) (strand : ℕ) (act : Act) (answer : Answer) → IsControl act → Belongs act answer →
    MatchOption (event_between strand act answer) (Unit {0}) (Allowed history) → (event : Event) × (event_between strand act answer ≡ Some event) × Answers history strand (control_act act) event
answers_of h strand Act.Spawn (Split s) c b a = (_, refl, (refl, refl, a))
answers_of h strand Act.Spawn answer c b a = absurd b
answers_of h strand Act.Sync Same c b a = (_, refl, (refl, refl, a))
answers_of h strand Act.Sync (Joined j) c b a = (_, refl, (refl, refl, a))
answers_of h strand Act.Sync Waits c b a = (_, refl, (refl, refl, a))
answers_of h strand Act.Sync answer c b a = absurd b
answers_of h strand Act.Call Same c b a = (_, refl, (refl, refl, a))
answers_of h strand Act.Call answer c b a = absurd b
answers_of h strand Act.Return Resumed c b a = (_, refl, (refl, refl, a))
answers_of h strand Act.Return Ended c b a = (_, refl, (refl, refl, a))
answers_of h strand Act.Return (EndedJoined j) c b a = (_, refl, (refl, refl, a))
answers_of h strand Act.Return Finished c b a = (_, refl, (refl, refl, a))
answers_of h strand Act.Return answer c b a = absurd b
answers_of h strand act answer c b a = absurd c

-- only a function without an open block returns
pub returns_synced : (history : History) (strand : ℕ) (event : Event) → Answers history strand returns event → IsSynced (stack history strand)
returns_synced h s event a = go (stack h s) refl
  where
    go : (st : Stack) → stack h s ≡ st → IsSynced st
    go root e = tt
    go (spawned n j) e = tt
    go (called n below) e = tt
    go (block j below) e = absurd (unsynced_law h s j below e event a)

pub return_synced : (history : History) (strand : ℕ) (act : Act) (answer : Answer) → act ≡ Act.Return → Belongs act answer →
    MatchOption (event_between strand act answer) (Unit {0}) (Allowed history) → IsSynced (stack history strand)
return_synced h s act answer is b a =
    let belongs = subst (λ c. Belongs c answer) is b in
    let allowed = subst (λ c. MatchOption (event_between s c answer) (Unit {0}) (Allowed h)) is a in
    let found = answers_of h s Act.Return answer tt belongs allowed in
    returns_synced h s found.0 found.2

split_same : (strand : ℕ) (one other : Spawned) → event_between strand Act.Spawn (Split one) ≡ event_between strand Act.Spawn (Split other) → one ≡ other
split_same strand one other e =
    let c : one.child ≡ other.child = cc in
    let n : one.next ≡ other.next = cc in
    let j : one.join ≡ other.join = cc in
    let f : one.first ≡ other.first = cc in
    λ i. record { child = c i; next = n i; join = j i; first = f i }

same_event : (strand : ℕ) (act : Act) (one other : Answer) → IsControl act → Belongs act one → Belongs act other →
    event_between strand act one ≡ event_between strand act other → one ≡ other
same_event strand Act.Spawn (Split s) (Split t) c b d e = ap Split (split_same strand s t e)
same_event strand Act.Spawn (Split s) other c b d e = absurd d
same_event strand Act.Spawn one other c b d e = absurd b
same_event strand Act.Sync Same Same c b d e = refl
same_event strand Act.Sync Same (Joined k) c b d e = cc
same_event strand Act.Sync Same Waits c b d e = cc
same_event strand Act.Sync Same other c b d e = absurd d
same_event strand Act.Sync (Joined j) Same c b d e = cc
same_event strand Act.Sync (Joined j) (Joined k) c b d e = let f : j ≡ k = cc in ap Joined f
same_event strand Act.Sync (Joined j) Waits c b d e = cc
same_event strand Act.Sync (Joined j) other c b d e = absurd d
same_event strand Act.Sync Waits Same c b d e = cc
same_event strand Act.Sync Waits (Joined k) c b d e = cc
same_event strand Act.Sync Waits Waits c b d e = refl
same_event strand Act.Sync Waits other c b d e = absurd d
same_event strand Act.Sync one other c b d e = absurd b
same_event strand Act.Call Same Same c b d e = refl
same_event strand Act.Call Same other c b d e = absurd d
same_event strand Act.Call one other c b d e = absurd b
same_event strand Act.Return one other c b d e = returned strand one other b d e
  where
    returned : (strand : ℕ) (one other : Answer) → Belongs Act.Return one → Belongs Act.Return other → event_between strand Act.Return one ≡ event_between strand Act.Return other → one ≡ other
    returned strand Resumed Resumed b d e = refl
    returned strand Resumed Ended b d e = cc
    returned strand Resumed (EndedJoined k) b d e = cc
    returned strand Resumed Finished b d e = cc
    returned strand Resumed other b d e = absurd d
    returned strand Ended Resumed b d e = cc
    returned strand Ended Ended b d e = refl
    returned strand Ended (EndedJoined k) b d e = cc
    returned strand Ended Finished b d e = cc
    returned strand Ended other b d e = absurd d
    returned strand (EndedJoined j) Resumed b d e = cc
    returned strand (EndedJoined j) Ended b d e = cc
    returned strand (EndedJoined j) (EndedJoined k) b d e = let f : j ≡ k = cc in ap EndedJoined f
    returned strand (EndedJoined j) Finished b d e = cc
    returned strand (EndedJoined j) other b d e = absurd d
    returned strand Finished Resumed b d e = cc
    returned strand Finished Ended b d e = cc
    returned strand Finished (EndedJoined k) b d e = cc
    returned strand Finished Finished b d e = refl
    returned strand Finished other b d e = absurd d
    returned strand one other b d e = absurd b
same_event strand act one other c b d e = absurd c

control_same : (history : History) → Legal history → (strand : ℕ) → Running history strand → (act : Act) (one other : Answer) → IsControl act → Belongs act one →
    Belongs act other → MatchOption (event_between strand act one) (Unit {0}) (Allowed history) →
    MatchOption (event_between strand act other) (Unit {0}) (Allowed history) → one ≡ other
control_same h l strand runs act one other c b d a k =
    let first = answers_of h strand act one c b a in
    let second = answers_of h strand act other c d k in
    let synced : control_act act ≡ returns → IsSynced (stack h strand) = λ e. returns_synced h strand first.0 (subst (λ x. Answers h strand x first.0) e first.2) in
    let only = answer_law h l strand runs (control_act act) synced in
    same_event strand act one other c b d (first.1 ∙ ap Some (only.2 first.0 first.2 ∙ sym (only.2 second.0 second.2)) ∙ sym second.1)

-- Answers to accesses

pub refused_or_not : (answer : Answer) → IsRefused answer ⊎ (IsRefused answer → ⊥)
refused_or_not (Refused rule witness) = inl tt
refused_or_not answer = inr (λ r. r)

unset_or_not : (answer : Answer) → (answer ≡ Unset) ⊎ (answer ≡ Unset → ⊥)
unset_or_not Unset = inl refl
unset_or_not answer = inr (λ e. cc)

written : (cell value : ℕ) (answer : Answer) → Belongs (Act.Write cell value) answer → (IsRefused answer → ⊥) → answer ≡ Granted
written cell value Granted b n = refl
written cell value (Refused rule witness) b n = absurd (n tt)
written cell value answer b n = absurd b

bumped : (cell value : ℕ) (answer : Answer) → Belongs (Act.Bump cell value) answer → (IsRefused answer → ⊥) → answer ≡ Granted
bumped cell value Granted b n = refl
bumped cell value (Refused rule witness) b n = absurd (n tt)
bumped cell value answer b n = absurd b

put_done : (reducer value : ℕ) (answer : Answer) → Belongs (Act.Put reducer value) answer → (IsRefused answer → ⊥) → answer ≡ Granted
put_done reducer value Granted b n = refl
put_done reducer value (Refused rule witness) b n = absurd (n tt)
put_done reducer value answer b n = absurd b

updated : (reducer value : ℕ) (answer : Answer) → Belongs (Act.Update reducer value) answer → answer ≡ Granted
updated reducer value Granted b = refl
updated reducer value answer b = absurd b

was_read : (cell : ℕ) (answer : Answer) → Belongs (Act.Read cell) answer → (IsRefused answer → ⊥) → (value : ℕ) × (answer ≡ Value value)
was_read cell (Value value) b n = (value, refl)
was_read cell (Refused rule witness) b n = absurd (n tt)
was_read cell answer b n = absurd b

was_got : (reducer : ℕ) (answer : Answer) → Belongs (Act.Get reducer) answer → (IsRefused answer → ⊥) → (answer ≡ Unset → ⊥) → (value : ℕ) × (answer ≡ Value value)
was_got reducer (Value value) b n u = (value, refl)
was_got reducer (Refused rule witness) b n u = absurd (n tt)
was_got reducer Unset b n u = absurd (u refl)
was_got reducer answer b n u = absurd b

-- Values of gets

put_once : (items : Items) (one two : ItemEntry) → HasPut items one → HasPut items two → entry_number one ≡ entry_number two → one ≡ two
put_once [] one two h k e = absurd h
put_once (control event ∷ items) one two h k e = put_once items one two h k e
put_once (update strand value ∷ items) one two h k e = put_once items one two h k e
put_once (elsewhere strand ∷ items) one two h k e = put_once items one two h k e
put_once (put strand value ∷ items) one two (inl h) (inl k) e = h ∙ sym k
put_once (put strand value ∷ items) one two (inl h) (inr k) e =
    let at : entry_number one ≡ suc (length items) = ap entry_number h in
    let below = put_numbered items two k in
    absurd (omega arith)
put_once (put strand value ∷ items) one two (inr h) (inl k) e =
    let at : entry_number two ≡ suc (length items) = ap entry_number k in
    let below = put_numbered items one h in
    absurd (omega arith)
put_once (put strand value ∷ items) one two (inr h) (inr k) e = put_once items one two h k e

last_once : (items : Items) (one two : ItemEntry) → IsLastPut items one → IsLastPut items two → one ≡ two
last_once items one two h k =
    let below = k.1 one h.0 in
    let above = h.1 two k.0 in
    put_once items one two h.0 k.0 (omega arith)

value_once : (monoid : Monoid) (items : Items) → AreItemsLegal items → (strand : ℕ) (one two : View) → IsValue (reducer_of monoid) items strand one →
    IsValue (reducer_of monoid) items strand two → one ≡ two
value_once monoid items legal strand one two v w =
    let r = reducer_of monoid in
    let put_is : v.put ≡ w.put = last_once items v.put w.put v.last w.last in
    let f : ItemEntry → List ItemEntry → View = λ p c. r.combine (r.of_put (entry_value p)) (product r (map (λ (entry : ItemEntry). r.of_update (entry_value entry)) c)) in
    let counted_is : v.counted ≡ w.counted = counted_law items legal strand w.put v.counted w.counted (subst (λ p. AreCounted items p strand v.counted) put_is v.counts) w.counts in
    v.combined ∙ ap (λ p. f p v.counted) put_is ∙ ap (λ c. f w.put c) counted_is ∙ sym w.combined

get_once : (monoids : List Monoid) (steps : Steps) → AreLegal steps → (strand reducer one two : ℕ) → IsGetValue monoids steps strand reducer one →
    IsGetValue monoids steps strand reducer two → one ≡ two
get_once monoids steps legal strand reducer one two v w =
    let same = value_once (monoid_of monoids reducer) (items_of reducer steps) ((projection_law reducer steps).1.1 legal) strand v.0 w.0 v.1 w.1 in
    let some : Some one ≡ Some two = sym v.2 ∙ ap view_number same ∙ w.2 in
    cc

-- the steps of a legal history are legal
legal_access : (strand : ℕ) (act : Act) (answer : Answer) (steps : Steps) → AreLegal steps → Running (control_steps steps) strand → AreLegal (step_with None strand act answer ∷ steps)
legal_access strand (Act.Update reducer value) Granted steps l r = (l, r)
legal_access strand (Act.Update reducer value) answer steps l r = (l, r)
legal_access strand (Act.Put reducer value) Granted steps l r = (l, r)
legal_access strand (Act.Put reducer value) answer steps l r = (l, r)
legal_access strand act answer steps l r = (l, r)

legal_step : (event : Option Event) (strand : ℕ) (act : Act) (answer : Answer) (steps : Steps) (history : History) → control_steps steps ≡ history → AreLegal steps →
    Running history strand → MatchOption event (Unit {0}) (Allowed history) → AreLegal (step_with event strand act answer ∷ steps)
legal_step (Some event) strand act answer steps history e l r a = (l, subst (λ h. Allowed h event) (sym e) a)
legal_step None strand act answer steps history e l r a = legal_access strand act answer steps l (subst (λ h. Running h strand) (sym e) r)

steps_legal : (shape : Shape) (entries : Entries) → IsLegal shape entries → AreLegal (steps_of entries)
steps_legal shape [] l = tt
steps_legal shape (entry ∷ entries) l =
    legal_step (event_of entry) entry.request.strand entry.request.act entry.answer (steps_of entries) (control_part entries) (steps-control entries)
    (steps_legal shape entries l.0) l.1.runs l.1.allowed

-- The right answer

module _ (shape : Shape) (entries : Entries) (strand line : ℕ) where
  abbrev entry_with : Act → Answer → Entry
  entry_with act answer = record { request = record { strand = strand; act = act; line = line }; answer = answer }

  cell_case : (access : CellAccess) (one other : Answer) → IsRightVerdict entries strand access one → IsRightVerdict entries strand access other →
      ((IsRefused one → ⊥) → (IsRefused other → ⊥) → one ≡ other) → (one ≡ other) ⊎ IsRefused other
  cell_case access one other j k same =
      elim (refused_or_not other) [
        | inl r ↦ inr r
        | inr n ↦ inl (same (λ r. n (k.refused.1 (j.refused.0 r))) n)
      ]

  whole : IsLegal shape entries → (longer : History) × Completes longer (control_part entries)
  whole l =
      let f = finish_law (control_part entries) (legal-part shape entries l) in
      (f.0, record { extends = f.1; legal = f.2; finished = f.3 })

  determined_get : (reducer : ℕ) (one other : Answer) → IsJudged shape (entry_with (Act.Get reducer) one ∷ entries) → IsJudged shape (entry_with (Act.Get reducer) other ∷ entries) →
      (one ≡ other) ⊎ IsRefused other
  determined_get reducer one other j k =
      let w = whole j.legal.0 in
      let r = j.reducers.1.0 in
      let s = k.reducers.1.0 in
      elim (refused_or_not other) [
        | inl refused ↦ inr refused
        | inr n ↦ inl (let n' : IsRefused one → ⊥ = λ x. n ((s.refused w.0 w.1).1 ((r.refused w.0 w.1).0 x)) in
            elim (unset_or_not other) [
              | inl u ↦ r.unset.1 (s.unset.0 u) ∙ sym u
              | inr set ↦ (
                  let v = was_got reducer one j.legal.1.belongs n' (λ e. set (s.unset.1 (r.unset.0 e))) in
                  let v' = was_got reducer other k.legal.1.belongs n set in
                  let is = subst (λ a. IfValue a (IsGetValue shape.monoids (steps_of entries) strand reducer)) v.1 j.reducers.1.1 in
                  let is' = subst (λ a. IfValue a (IsGetValue shape.monoids (steps_of entries) strand reducer)) v'.1 k.reducers.1.1 in
                  v.1 ∙ ap Value (get_once shape.monoids (steps_of entries) (steps_legal shape entries j.legal.0) strand reducer v.0 v'.0 is is') ∙ sym v'.1
                  )
            ])
      ]

  pub determined : (act : Act) (one other : Answer) → IsJudged shape (entry_with act one ∷ entries) → IsJudged shape (entry_with act other ∷ entries) →
      (one ≡ other) ⊎ IsRefused other
  determined Act.Spawn one other j k = inl (control_same (control_part entries) (legal-part shape entries j.legal.0) strand j.legal.1.runs Act.Spawn one other tt j.legal.1.belongs k.legal.1.belongs j.legal.1.allowed k.legal.1.allowed)
  determined Act.Sync one other j k = inl (control_same (control_part entries) (legal-part shape entries j.legal.0) strand j.legal.1.runs Act.Sync one other tt j.legal.1.belongs k.legal.1.belongs j.legal.1.allowed k.legal.1.allowed)
  determined Act.Call one other j k = inl (control_same (control_part entries) (legal-part shape entries j.legal.0) strand j.legal.1.runs Act.Call one other tt j.legal.1.belongs k.legal.1.belongs j.legal.1.allowed k.legal.1.allowed)
  determined Act.Return one other j k = inl (control_same (control_part entries) (legal-part shape entries j.legal.0) strand j.legal.1.runs Act.Return one other tt j.legal.1.belongs k.legal.1.belongs j.legal.1.allowed k.legal.1.allowed)
  determined (Act.Write cell value) one other j k =
      cell_case _ one other j.memory.1 k.memory.1 (λ n m. written cell value one j.legal.1.belongs n ∙ sym (written cell value other k.legal.1.belongs m))
  determined (Act.Bump cell value) one other j k =
      cell_case _ one other j.memory.1 k.memory.1 (λ n m. bumped cell value one j.legal.1.belongs n ∙ sym (bumped cell value other k.legal.1.belongs m))
  determined (Act.Read cell) one other j k =
      cell_case _ one other j.memory.1 k.memory.1 (λ n m.
      let v = was_read cell one j.legal.1.belongs n in
      let w = was_read cell other k.legal.1.belongs m in
      let is = subst (λ a. IfValue a (λ value. value ≡ cell_value entries cell)) v.1 j.memory.1.value in
      let is' = subst (λ a. IfValue a (λ value. value ≡ cell_value entries cell)) w.1 k.memory.1.value in
      v.1 ∙ ap Value (is ∙ sym is') ∙ sym w.1)
  determined (Act.Update reducer value) one other j k = inl (updated reducer value one j.legal.1.belongs ∙ sym (updated reducer value other k.legal.1.belongs))
  determined (Act.Put reducer value) one other j k =
      let w = whole j.legal.0 in
      elim (refused_or_not other) [
        | inl r ↦ inr r
        | inr n ↦ inl (put_done reducer value one j.legal.1.belongs (λ x. n ((k.reducers.1.refused w.0 w.1).1 ((j.reducers.1.refused w.0 w.1).0 x))) ∙ sym (put_done reducer value other k.legal.1.belongs n))
      ]
  determined (Act.Get reducer) one other j k = determined_get reducer one other j k
