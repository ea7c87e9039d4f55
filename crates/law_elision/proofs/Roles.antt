-- What entries are to one reducer, and where its last put stands.
use Rattle.std.proofs.Common.{◌≡◌, ◌≢◌, ◌⊎◌, inl, inr, ℕ, suc, true, Option, Some, None, List, [], ◌∷◌, length, Contains, refl, sym, ap, ◌∙◌, subst}
use Rattle.std.specs.Prelude.{MatchOption}
use Rattle.std.specs.Option.{option_to_list}
use Rattle.std.proofs.lemmas.List.Elements.{All-head, All-tail}
use Rattle.model_accesses.specs.declared.kind.Kind.{Kind}
use Rattle.model_accesses.specs.declared.kind.Kind.TheVariants as kind
use Rattle.model_accesses.specs.declared.request.Act.{Act}
use Rattle.model_reducers.specs.declared.monoid.Monoid.{Monoid}
use Rattle.model_strands.specs.History.{Event, History}
use Rattle.model_strands.specs.Strands.{Running, Begun}
use Rattle.model_strands.specs.Peers.{HaveSamePeers}
use Rattle.law_strands.specs.Branches.{branch}
use Rattle.model_strands.specs.Legal.{Allowed, Legal, then as grown}
use Rattle.law_strands.proofs.Law.{begun_below}
use Rattle.law_strands.proofs.Range.{ranges}
use Rattle.law_strands.proofs.Updates.{same_or_not}
use Rattle.law_strands.proofs.Members.{Present, present_append, contains_present}
use Rattle.law_strands.proofs.Branches.{finished_branch_law, branch_stays}
use Rattle.model_accesses.specs.Reads.{ReducerRead}
use Rattle.model_reducers.specs.Items as item
use Rattle.model_reducers.specs.Items.{Item, Items}
use Rattle.model_reducers.specs.Entries.{HasPut, HasUpdate, update_entry, put_entry}
use Rattle.model_reducers.specs.Entries as value
use Rattle.model_reducers.specs.Steps.{Steps, item_of, items_of}
use Rattle.law_values.specs.Accesses.{control_steps, AreLegal}
use Rattle.law_values.proofs.Accesses.{item_cases}
use Rattle.model_histories.specs.declared.answer.Answer.{Answer}
use Rattle.model_histories.specs.declared.answer.Answer.TheVariants.{Granted, Value, Refused, Unset}
use Rattle.model_histories.specs.declared.answer.Entry.{Entry}
use Rattle.model_histories.specs.Entries.{Entries, event_between, event_of, with_event, control_part}
use Rattle.model_histories.specs.Shapes.{Shape}
use Rattle.model_histories.specs.Legal.{IsLegal, Belongs}
use Rattle.model_histories.specs.Extensions.{IsCleanAnswer, IsClean}
use Rattle.model_races.specs.Accesses.{is_granted}
use Rattle.model_races.specs.Reducers.{step_with, steps_of, read_at, granted_reads}
use Rattle.model_races.specs.ViewReads.{IsRightRead}
use Rattle.model_races.specs.ReducerVerdicts.{IsRightFor, ReducersAreJudged, reads_before}
use Rattle.race_gate.proofs.Races.{legal-part}
use Rattle.race_gate.proofs.Entering.{steps-control}
use Rattle.law_elision.specs.Placed.{Placed, placed_at, IsPlaced}
use Rattle.law_elision.proofs.Placements.{strand_begun}
use Rattle.law_elision.proofs.Runs.{placed_clean, placed_belongs}

-- what an act is to a reducer
pub data Role (reducer : ℕ) (act : Act) : Type 0 where
  updates : (value : ℕ) → act ≡ Act.Update reducer value → Role reducer act
  puts : (value : ℕ) → act ≡ Act.Put reducer value → Role reducer act
  gets : act ≡ Act.Get reducer → Role reducer act
  aside : ((value : ℕ) → act ≢ Act.Update reducer value) → ((value : ℕ) → act ≢ Act.Put reducer value) → act ≢ Act.Get reducer → Role reducer act

pub role : (reducer : ℕ) (act : Act) → Role reducer act
role reducer (Act.Update asked value) =
    elim (same_or_not asked reducer) [
      | inl e ↦ updates value (ap (λ r. Act.Update r value) e)
      | inr ne ↦ aside (λ v k. ne (let same : asked ≡ reducer = cc in same)) (λ v k. cc) (λ k. cc)
    ]
role reducer (Act.Put asked value) =
    elim (same_or_not asked reducer) [
      | inl e ↦ puts value (ap (λ r. Act.Put r value) e)
      | inr ne ↦ aside (λ v k. cc) (λ v k. ne (let same : asked ≡ reducer = cc in same)) (λ k. cc)
    ]
role reducer (Act.Get asked) =
    elim (same_or_not asked reducer) [
      | inl e ↦ gets (ap (λ r. Act.Get r) e)
      | inr ne ↦ aside (λ v k. cc) (λ v k. cc) (λ k. ne (let same : asked ≡ reducer = cc in same))
    ]
role reducer Act.Spawn = aside (λ v k. cc) (λ v k. cc) (λ k. cc)
role reducer Act.Sync = aside (λ v k. cc) (λ v k. cc) (λ k. cc)
role reducer Act.Call = aside (λ v k. cc) (λ v k. cc) (λ k. cc)
role reducer Act.Return = aside (λ v k. cc) (λ v k. cc) (λ k. cc)
role reducer (Act.Read location) = aside (λ v k. cc) (λ v k. cc) (λ k. cc)
role reducer (Act.Write location value) = aside (λ v k. cc) (λ v k. cc) (λ k. cc)
role reducer (Act.Bump location value) = aside (λ v k. cc) (λ v k. cc) (λ k. cc)

-- a put or a get of the reducer
abbrev pub IsRead : ℕ → Act → Type 0
IsRead reducer act = ((value : ℕ) × (act ≡ Act.Put reducer value)) ⊎ (act ≡ Act.Get reducer)

-- it is among the granted reads

read_found : (reducer number strand : ℕ) (act : Act) (answer : Answer) → Belongs act answer → IsCleanAnswer answer → IsRead reducer act →
    (read : ReducerRead) × (read_at number strand act answer ≡ Some read) × (read.reducer ≡ reducer) × (read.strand ≡ strand)
read_found reducer number strand (Act.Put asked value) Granted b c k =
    (record { reducer = asked; kind = kind.Put; strand = strand; entry = number }, refl, same k, refl)
  where
    same : IsRead reducer (Act.Put asked value) → asked ≡ reducer
    same (inl t) = let e : Act.Put asked value ≡ Act.Put reducer t.0 = t.1 in cc
    same (inr e) = absurd (cc)
read_found reducer number strand (Act.Get asked) (Value value) b c k =
    (record { reducer = asked; kind = kind.Get; strand = strand; entry = number }, refl, same k, refl)
  where
    same : IsRead reducer (Act.Get asked) → asked ≡ reducer
    same (inl t) = absurd (let e : Act.Get asked ≡ Act.Put reducer t.0 = t.1 in cc)
    same (inr e) = cc
read_found reducer number strand (Act.Put asked value) (Refused rule witness) b c k = absurd c
read_found reducer number strand (Act.Put asked value) _ b c k = absurd b
read_found reducer number strand (Act.Get asked) (Refused rule witness) b c k = absurd c
read_found reducer number strand (Act.Get asked) Unset b c k = absurd c
read_found reducer number strand (Act.Get asked) _ b c k = absurd b
read_found reducer number strand act answer b c (inl t) = absurd (let e : act ≡ Act.Put reducer t.0 = t.1 in cc)
read_found reducer number strand act answer b c (inr e) = absurd (cc)

placed_read : (entries : Entries) (y : Placed) → IsPlaced entries y → (read : ReducerRead) →
    read_at y.number y.entry.request.strand y.entry.request.act y.entry.answer ≡ Some read → Contains (granted_reads entries) read
placed_read entries y p read is = (contains_present read (granted_reads entries)).1 (go entries p)
  where
    go : (entries : Entries) → IsPlaced entries y → Present read (granted_reads entries)
    go [] p = absurd p
    go (entry ∷ entries) (inr p) =
        (present_append (granted_reads entries) (option_to_list (read_at (suc (length entries)) entry.request.strand entry.request.act entry.answer)) read).1 (inl (go entries p))
    go (entry ∷ entries) (inl e) =
        (present_append (granted_reads entries) (option_to_list (read_at (suc (length entries)) entry.request.strand entry.request.act entry.answer)) read).1
        (inr (subst (λ z. Present read (option_to_list (read_at z.number z.entry.request.strand z.entry.request.act z.entry.answer))) e
        (subst (λ o. Present read (option_to_list o)) (sym is) (inl refl))))

-- what is right of a read

right_read : (reducer : ℕ) (monoids : List Monoid) (entries : Entries) (strand : ℕ) (act : Act) (answer : Answer) → IsRead reducer act →
    IsRightFor (reads_before monoids entries) strand act answer →
    (new : Kind) × IsRightRead (control_part entries) (granted_reads entries) strand reducer new answer
right_read reducer monoids entries strand act answer (inl t) r =
    let right = subst (λ a. IsRightFor (reads_before monoids entries) strand a answer) t.1 r in (kind.Put, right)
right_read reducer monoids entries strand act answer (inr e) r =
    let right = subst (λ a. IsRightFor (reads_before monoids entries) strand a answer) e r in (kind.Get, right.0)

read_granted : (reducer : ℕ) (act : Act) (answer : Answer) → Belongs act answer → IsCleanAnswer answer → IsRead reducer act → is_granted answer ≡ true
read_granted reducer (Act.Put asked value) Granted b c k = refl
read_granted reducer (Act.Put asked value) (Refused rule witness) b c k = absurd c
read_granted reducer (Act.Put asked value) _ b c k = absurd b
read_granted reducer (Act.Get asked) (Value value) b c k = refl
read_granted reducer (Act.Get asked) (Refused rule witness) b c k = absurd c
read_granted reducer (Act.Get asked) Unset b c k = absurd c
read_granted reducer (Act.Get asked) _ b c k = absurd b
read_granted reducer act answer b c (inl t) = absurd (let e : act ≡ Act.Put reducer t.0 = t.1 in cc)
read_granted reducer act answer b c (inr e) = absurd (cc)

-- branches stay
branch_with : (found : Option Event) {h : History} → Legal h → MatchOption found (Unit {0}) (Allowed h) → (x y : ℕ) → Begun h x → Begun h y →
    branch h x ≡ branch h y → branch (with_event found h) x ≡ branch (with_event found h) y
branch_with None l a x y bx by e = e
branch_with (Some event) {h} l a x y bx by e =
    branch_stays (grown l a) x (begun_below h (ranges l) x bx) ∙ e ∙ sym (branch_stays (grown l a) y (begun_below h (ranges l) y by))

module _ (shape : Shape) (reducer : ℕ) where
  later : (entry : Entry) (entries : Entries) → IsLegal shape (entry ∷ entries) → (x y : ℕ) → Begun (control_part entries) x → Begun (control_part entries) y →
      branch (control_part entries) x ≡ branch (control_part entries) y → branch (control_part (entry ∷ entries)) x ≡ branch (control_part (entry ∷ entries)) y
  later entry entries l x y bx by e = branch_with (event_of entry) (legal-part shape entries l.0) l.1.allowed x y bx by e

  -- a read that comes now has the branch of all earlier ones
  pub branch_now : (entry : Entry) (entries : Entries) → IsLegal shape (entry ∷ entries) → ReducersAreJudged shape (entry ∷ entries) → IsClean (entry ∷ entries) →
      IsRead reducer entry.request.act → (y : Placed) → IsPlaced entries y → IsRead reducer y.entry.request.act →
      branch (control_part entries) y.entry.request.strand ≡ branch (control_part entries) entry.request.strand
  branch_now entry entries l judged clean k y p ky =
      let h = control_part entries in
      let is_clean = All-head (λ e. IsCleanAnswer e.answer) entry entries clean in
      let right = right_read reducer shape.monoids entries entry.request.strand entry.request.act entry.answer k judged.1 in
      let read = read_found reducer y.number y.entry.request.strand y.entry.request.act y.entry.answer (placed_belongs shape entries l.0 y p)
      (placed_clean entries (All-tail (λ e. IsCleanAnswer e.answer) entry entries clean) y p) ky in
      let same_peers = right.1.granted (read_granted reducer entry.request.act entry.answer l.1.belongs is_clean k) read.0
      (placed_read entries y p read.0 read.1, read.2) in
      (finished_branch_law h (legal-part shape entries l.0) y.entry.request.strand entry.request.strand (strand_begun shape entries l.0 y p) (inl l.1.runs)).0.1
      (λ longer extends legal finished.
      subst (λ s. HaveSamePeers longer s entry.request.strand) read.3 (same_peers longer (record { extends = extends; legal = legal; finished = finished })))

  -- all reads have one branch
  pub one_branch : (entries : Entries) → IsLegal shape entries → ReducersAreJudged shape entries → IsClean entries → (y z : Placed) → IsPlaced entries y → IsPlaced entries z →
      IsRead reducer y.entry.request.act → IsRead reducer z.entry.request.act →
      branch (control_part entries) y.entry.request.strand ≡ branch (control_part entries) z.entry.request.strand
  one_branch [] l judged clean y z p q ky kz = absurd p
  one_branch (entry ∷ entries) l judged clean y z (inl p) (inl q) ky kz = ap (λ w. branch (control_part (entry ∷ entries)) w.entry.request.strand) (p ∙ sym q)
  one_branch (entry ∷ entries) l judged clean y z (inr p) (inr q) ky kz =
      later entry entries l y.entry.request.strand z.entry.request.strand (strand_begun shape entries l.0 y p) (strand_begun shape entries l.0 z q)
      (one_branch entries l.0 judged.0 (All-tail (λ e. IsCleanAnswer e.answer) entry entries clean) y z p q ky kz)
  one_branch (entry ∷ entries) l judged clean y z (inr p) (inl q) ky kz =
      later entry entries l y.entry.request.strand z.entry.request.strand (strand_begun shape entries l.0 y p)
      (inl (subst (λ w. Running (control_part entries) w.entry.request.strand) (sym q) l.1.runs))
      (branch_now entry entries l judged clean (subst (λ w. IsRead reducer w.entry.request.act) q kz) y p ky ∙ ap (λ w. branch (control_part entries) w.entry.request.strand) (sym q))
  one_branch (entry ∷ entries) l judged clean y z (inl p) (inr q) ky kz =
      later entry entries l y.entry.request.strand z.entry.request.strand
      (inl (subst (λ w. Running (control_part entries) w.entry.request.strand) (sym p) l.1.runs)) (strand_begun shape entries l.0 z q)
      (ap (λ w. branch (control_part entries) w.entry.request.strand) p ∙
      sym (branch_now entry entries l judged clean (subst (λ w. IsRead reducer w.entry.request.act) p ky) z q kz))

-- the items of the reducer

pub items_length : (reducer : ℕ) (entries : Entries) → length (items_of reducer (steps_of entries)) ≡ length entries
items_length reducer [] = refl
items_length reducer (entry ∷ entries) = ap suc (items_length reducer entries)

put_item : (reducer : ℕ) (found : Option Event) (strand : ℕ) (act : Act) (answer : Answer) (items : Items) (e : value.Entry) →
    HasPut (item_of reducer (step_with found strand act answer) ∷ items) e →
    ((act ≡ Act.Put reducer (value.entry_value e)) × (strand ≡ value.strand_of e) × (value.entry_number e ≡ suc (length items))) ⊎ HasPut items e
put_item reducer (Some event) strand act answer items e h = inr h
put_item reducer None strand (Act.Put asked v) Granted items e h =
    item_cases (λ i. HasPut (i ∷ items) e → ((Act.Put asked v ≡ Act.Put reducer (value.entry_value e)) × (strand ≡ value.strand_of e) × (value.entry_number e ≡ suc (length items))) ⊎ HasPut items e)
    asked reducer (item.put strand v) (item.other strand)
    (λ same t. elim t [
      | inl k ↦ inl (ap (λ r. Act.Put r v) same ∙ ap (λ w. Act.Put reducer (value.entry_value w)) (sym k), ap value.strand_of (sym k), ap value.entry_number k)
      | inr r ↦ inr r
    ])
    (λ ne t. inr t) h
put_item reducer None strand (Act.Update asked v) Granted items e h =
    item_cases (λ i. HasPut (i ∷ items) e → ((Act.Update asked v ≡ Act.Put reducer (value.entry_value e)) × (strand ≡ value.strand_of e) × (value.entry_number e ≡ suc (length items))) ⊎ HasPut items e)
    asked reducer (item.update strand v) (item.other strand) (λ same t. inr t) (λ ne t. inr t) h
put_item reducer None strand act answer items e h = inr h

update_item : (reducer : ℕ) (found : Option Event) (strand : ℕ) (act : Act) (answer : Answer) (items : Items) (e : value.Entry) →
    HasUpdate (item_of reducer (step_with found strand act answer) ∷ items) e →
    ((act ≡ Act.Update reducer (value.entry_value e)) × (e ≡ update_entry (suc (length items)) strand (value.entry_value e))) ⊎ HasUpdate items e
update_item reducer (Some event) strand act answer items e h = inr h
update_item reducer None strand (Act.Update asked v) Granted items e h =
    item_cases (λ i. HasUpdate (i ∷ items) e → ((Act.Update asked v ≡ Act.Update reducer (value.entry_value e)) × (e ≡ update_entry (suc (length items)) strand (value.entry_value e))) ⊎ HasUpdate items e)
    asked reducer (item.update strand v) (item.other strand)
    (λ same t. elim t [
      | inl k ↦ inl (
        ap (λ r. Act.Update r v) same ∙ ap (λ w. Act.Update reducer (value.entry_value w)) (sym k),
        k ∙ ap (λ w. update_entry (suc (length items)) strand (value.entry_value w)) (sym k),
      )
      | inr r ↦ inr r
    ])
    (λ ne t. inr t) h
update_item reducer None strand (Act.Put asked v) Granted items e h =
    item_cases (λ i. HasUpdate (i ∷ items) e → ((Act.Put asked v ≡ Act.Update reducer (value.entry_value e)) × (e ≡ update_entry (suc (length items)) strand (value.entry_value e))) ⊎ HasUpdate items e)
    asked reducer (item.put strand v) (item.other strand) (λ same t. inr t) (λ ne t. inr t) h
update_item reducer None strand act answer items e h = inr h

-- an entry that is this value of the reducer

pub record IsPutAt (reducer : ℕ) (entries : Entries) (e : value.Entry) : Type 0 where
  pub placed : Placed
  pub stands : IsPlaced entries placed
  pub is_put : placed.entry.request.act ≡ Act.Put reducer (value.entry_value e)
  pub strand_is : placed.entry.request.strand ≡ value.strand_of e
  pub number_is : placed.number ≡ value.entry_number e

pub put_placed : (reducer : ℕ) (entries : Entries) (e : value.Entry) → HasPut (items_of reducer (steps_of entries)) e → IsPutAt reducer entries e
put_placed reducer [] e h = absurd h
put_placed reducer (entry ∷ entries) e h =
    elim (put_item reducer (event_of entry) entry.request.strand entry.request.act entry.answer (items_of reducer (steps_of entries)) e h) [
      | inl t ↦ record { placed = placed_at entries entry; stands = inl refl; is_put = t.0; strand_is = t.1; number_is = ap suc (sym (items_length reducer entries)) ∙ sym t.2 }
      | inr k ↦ (let t = put_placed reducer entries e k in
          record { placed = t.placed; stands = inr t.stands; is_put = t.is_put; strand_is = t.strand_is; number_is = t.number_is })
    ]

abbrev pub update_of : Placed → ℕ → value.Entry
update_of y written = update_entry y.number y.entry.request.strand written

pub record IsUpdateAt (reducer : ℕ) (entries : Entries) (e : value.Entry) : Type 0 where
  pub placed : Placed
  pub stands : IsPlaced entries placed
  pub is_update : placed.entry.request.act ≡ Act.Update reducer (value.entry_value e)
  pub is : e ≡ update_of placed (value.entry_value e)

pub update_placed : (reducer : ℕ) (entries : Entries) (e : value.Entry) → HasUpdate (items_of reducer (steps_of entries)) e → IsUpdateAt reducer entries e
update_placed reducer [] e h = absurd h
update_placed reducer (entry ∷ entries) e h =
    elim (update_item reducer (event_of entry) entry.request.strand entry.request.act entry.answer (items_of reducer (steps_of entries)) e h) [
      | inl t ↦ record {
        placed = placed_at entries entry;
        stands = inl refl;
        is_update = t.0;
        is = t.1 ∙ ap (λ n. update_entry (suc n) entry.request.strand (value.entry_value e)) (items_length reducer entries);
      }
      | inr k ↦ (let t = update_placed reducer entries e k in record { placed = t.placed; stands = inr t.stands; is_update = t.is_update; is = t.is })
    ]

-- and the other way round

has_older : (reducer : ℕ) (found : Option Event) (strand : ℕ) (act : Act) (answer : Answer) (items : Items) (e : value.Entry) →
    (HasPut items e → HasPut (item_of reducer (step_with found strand act answer) ∷ items) e) ×
    (HasUpdate items e → HasUpdate (item_of reducer (step_with found strand act answer) ∷ items) e)
has_older reducer (Some event) strand act answer items e = (λ h. h, λ h. h)
has_older reducer None strand (Act.Put asked v) Granted items e =
    item_cases (λ i. (HasPut items e → HasPut (i ∷ items) e) × (HasUpdate items e → HasUpdate (i ∷ items) e)) asked reducer (item.put strand v) (item.other strand)
    (λ same. (λ h. inr h, λ h. h)) (λ ne. (λ h. h, λ h. h))
has_older reducer None strand (Act.Update asked v) Granted items e =
    item_cases (λ i. (HasPut items e → HasPut (i ∷ items) e) × (HasUpdate items e → HasUpdate (i ∷ items) e)) asked reducer (item.update strand v) (item.other strand)
    (λ same. (λ h. h, λ h. inr h)) (λ ne. (λ h. h, λ h. h))
has_older reducer None strand act answer items e = (λ h. h, λ h. h)

has_now : (reducer : ℕ) (strand : ℕ) (act : Act) (answer : Answer) (items : Items) → Belongs act answer → IsCleanAnswer answer →
    ((v : ℕ) → act ≡ Act.Put reducer v →
    HasPut (item_of reducer (step_with (event_between strand act answer) strand act answer) ∷ items) (put_entry (suc (length items)) strand v)) ×
    ((v : ℕ) → act ≡ Act.Update reducer v →
    HasUpdate (item_of reducer (step_with (event_between strand act answer) strand act answer) ∷ items) (update_entry (suc (length items)) strand v))
has_now reducer strand (Act.Put asked w) Granted items b c = (
  (λ v e. item_cases (λ i. HasPut (i ∷ items) (put_entry (suc (length items)) strand v)) asked reducer (item.put strand w) (item.other strand)
      (λ same. inl (ap (put_entry (suc (length items)) strand) (let k : v ≡ w = cc in k)))
      (λ ne. absurd (ne (let k : asked ≡ reducer = cc in k)))),
  (λ v e. absurd (cc)),
)
has_now reducer strand (Act.Update asked w) Granted items b c = (
  (λ v e. absurd (cc)),
  (λ v e. item_cases (λ i. HasUpdate (i ∷ items) (update_entry (suc (length items)) strand v)) asked reducer (item.update strand w) (item.other strand)
      (λ same. inl (ap (update_entry (suc (length items)) strand) (let k : v ≡ w = cc in k)))
      (λ ne. absurd (ne (let k : asked ≡ reducer = cc in k)))),
)
has_now reducer strand (Act.Put asked w) (Refused rule witness) items b c = absurd c
has_now reducer strand (Act.Put asked w) _ items b c = absurd b
has_now reducer strand (Act.Update asked w) _ items b c = absurd b
has_now reducer strand act answer items b c = ((λ v e. absurd (cc)), (λ v e. absurd (cc)))

module _ (shape : Shape) (reducer : ℕ) where
  pub placed_put : (entries : Entries) → IsLegal shape entries → IsClean entries → (y : Placed) → IsPlaced entries y → (v : ℕ) → y.entry.request.act ≡ Act.Put reducer v →
      HasPut (items_of reducer (steps_of entries)) (put_entry y.number y.entry.request.strand v)
  placed_put [] l c y p v e = absurd p
  placed_put (entry ∷ entries) l c y (inr p) v e =
      (has_older reducer (event_of entry) entry.request.strand entry.request.act entry.answer (items_of reducer (steps_of entries)) (put_entry y.number y.entry.request.strand v)).0
      (placed_put entries l.0 (All-tail (λ e. IsCleanAnswer e.answer) entry entries c) y p v e)
  placed_put (entry ∷ entries) l c y (inl q) v e =
      let k = (has_now reducer entry.request.strand entry.request.act entry.answer (items_of reducer (steps_of entries)) l.1.belongs
      (All-head (λ e. IsCleanAnswer e.answer) entry entries c)).0 v (ap (λ z. z.entry.request.act) (sym q) ∙ e) in
      subst (λ z. HasPut (items_of reducer (steps_of (entry ∷ entries))) (put_entry z.number z.entry.request.strand v)) (sym q)
      (subst (λ n. HasPut (items_of reducer (steps_of (entry ∷ entries))) (put_entry (suc n) entry.request.strand v)) (items_length reducer entries) k)

  pub placed_update : (entries : Entries) → IsLegal shape entries → IsClean entries → (y : Placed) → IsPlaced entries y → (v : ℕ) → y.entry.request.act ≡ Act.Update reducer v →
      HasUpdate (items_of reducer (steps_of entries)) (update_of y v)
  placed_update [] l c y p v e = absurd p
  placed_update (entry ∷ entries) l c y (inr p) v e =
      (has_older reducer (event_of entry) entry.request.strand entry.request.act entry.answer (items_of reducer (steps_of entries)) (update_of y v)).1
      (placed_update entries l.0 (All-tail (λ e. IsCleanAnswer e.answer) entry entries c) y p v e)
  placed_update (entry ∷ entries) l c y (inl q) v e =
      let k = (has_now reducer entry.request.strand entry.request.act entry.answer (items_of reducer (steps_of entries)) l.1.belongs
      (All-head (λ e. IsCleanAnswer e.answer) entry entries c)).1 v (ap (λ z. z.entry.request.act) (sym q) ∙ e) in
      subst (λ z. HasUpdate (items_of reducer (steps_of (entry ∷ entries))) (update_of z v)) (sym q)
      (subst (λ n. HasUpdate (items_of reducer (steps_of (entry ∷ entries))) (update_entry (suc n) entry.request.strand v)) (items_length reducer entries) k)

-- the steps are legal

legal_step : (steps : Steps) (history : History) (found : Option Event) (strand : ℕ) (act : Act) (answer : Answer) → control_steps steps ≡ history → AreLegal steps →
    Running history strand → MatchOption found (Unit {0}) (Allowed history) → AreLegal (step_with found strand act answer ∷ steps)
legal_step steps h (Some event) s act answer e l r a = (l, subst (λ z. Allowed z event) (sym e) a)
legal_step steps h None s (Act.Update asked v) Granted e l r a = (l, subst (λ z. Running z s) (sym e) r)
legal_step steps h None s (Act.Put asked v) Granted e l r a = (l, subst (λ z. Running z s) (sym e) r)
legal_step steps h None s act answer e l r a = (l, subst (λ z. Running z s) (sym e) r)

pub steps_legal : (shape : Shape) (entries : Entries) → IsLegal shape entries → AreLegal (steps_of entries)
steps_legal shape [] l = tt
steps_legal shape (entry ∷ entries) l =
    legal_step (steps_of entries) (control_part entries) (event_of entry) entry.request.strand entry.request.act entry.answer (steps-control entries)
    (steps_legal shape entries l.0) l.1.runs l.1.allowed
