-- The updates and puts of a reducer, as deeds.
-- H: a history; e: an entry; r: a reducer; u: an update or put with its number; y, z: items; m, n: numbers of entries; v, w: values
use Rattle.std.proofs.Common.{◌≡◌, ◌⊎◌, inl, inr, ℕ, suc, ◌<◌, ◌≤◌, [], ◌∷◌, length, refl, sym, ap, ◌∙◌, subst, arith}
use Rattle.model_accesses.specs.declared.request.Act.{Act}
use Rattle.model_accesses.specs.declared.request.Act.TheVariants.{Read, Write, Bump, Update, Put, Get}
use Rattle.model_strands.specs.History.{Event, split, same, joined, waits, call, resumed, ended, ended_joined, finished}
use Rattle.model_strands.specs.Strands.{Begun}
use Rattle.model_strands.specs.Addresses.{address}
use Rattle.model_reducers.specs.Items as one
use Rattle.model_reducers.specs.Items.{Item as ReducerItem, Items}
use Rattle.model_reducers.specs.Steps.{items_of, item_of as seen_by}
use Rattle.model_reducers.specs.Entries.{Entry as NumberedEntry, update_entry, put_entry, entry_number, strand_of, entry_value, HasUpdate, HasPut}
use Rattle.law_values.proofs.Accesses.{item_cases}
use Rattle.model_histories.specs.declared.answer.Answer.{Answer}
use Rattle.model_histories.specs.declared.answer.Answer.TheVariants.{Split, Same, Joined, Waits, Resumed, Ended, EndedJoined, Finished, Granted, Refused}
use Rattle.model_histories.specs.declared.answer.Entry.{Entry}
use Rattle.model_histories.specs.Entries.{Entries, event_between, control_part}
use Rattle.model_histories.specs.Shapes.{Shape}
use Rattle.model_histories.specs.Legal.{Belongs, IsLegal}
use Rattle.model_races.specs.Reducers.{step_with, steps_of}
use Rattle.model_histories.specs.Extensions.{IsCleanAnswer}
use Rattle.law_interleavings.specs.Traces.{Notes, Occurrence, occurrence_address, occurrence_of, trace, Precedes}
use Rattle.law_interleavings.proofs.Swaps.{Member, Paired}
use Rattle.law_interleavings.proofs.Traces.{placed, begun_on, ordered}
use Rattle.law_interleavings.proofs.Spoken.{NoneRefused}
use Rattle.law_interleavings.proofs.Comparisons.{less_more, irreflexive}

-- what changes the view of a reducer
pub data Change : Type 0 where
  updating putting : Change

-- the act that makes the change
abbrev pub changing : Change → (reducer value : ℕ) → Act
changing updating reducer value = Update reducer value
changing putting reducer value = Put reducer value

-- and what it is among the items of the reducer
abbrev item_changing : Change → (strand value : ℕ) → ReducerItem
item_changing updating strand value = one.update strand value
item_changing putting strand value = one.put strand value

abbrev entry_changing : Change → (number strand value : ℕ) → NumberedEntry
entry_changing updating number strand value = update_entry number strand value
entry_changing putting number strand value = put_entry number strand value

-- the entry is one of those that change the view so
abbrev pub HasChange : Change → Items → NumberedEntry → Type 0
HasChange updating items u = HasUpdate items u
HasChange putting items u = HasPut items u

-- an item that changes no view of the reducer
abbrev IsQuiet : ReducerItem → Type 0
IsQuiet item = (change : Change) (items : Items) (u : NumberedEntry) → (HasChange change (item ∷ items) u → HasChange change items u) × (HasChange change items u → HasChange change (item ∷ items) u)

-- an entry as the reducer sees it
data Head (reducer strand : ℕ) (act : Act) (item : ReducerItem) : Type 0 where
  changes : (change : Change) (value : ℕ) → act ≡ changing change reducer value → item ≡ item_changing change strand value → Head reducer strand act item
  silent : ((value : ℕ) → act ≡ Update reducer value → ⊥) → ((value : ℕ) → act ≡ Put reducer value → ⊥) → IsQuiet item → Head reducer strand act item

-- an entry that has a change has it now, or had it before the newest change
now_or_before : (change newest : Change) (items : Items) (strand value : ℕ) (u : NumberedEntry) → HasChange change (item_changing newest strand value ∷ items) u →
    ((newest ≡ change) × (u ≡ entry_changing change (suc (length items)) strand value)) ⊎ HasChange change items u
now_or_before updating updating items s v u (inl e) = inl (refl, e)
now_or_before updating updating items s v u (inr h) = inr h
now_or_before updating putting items s v u h = inr h
now_or_before putting updating items s v u h = inr h
now_or_before putting putting items s v u (inl e) = inl (refl, e)
now_or_before putting putting items s v u (inr h) = inr h

has_now : (change : Change) (items : Items) (strand value : ℕ) →
    HasChange change (item_changing change strand value ∷ items) (entry_changing change (suc (length items)) strand value)
has_now updating items s v = inl refl
has_now putting items s v = inl refl

has_before : (change newest : Change) (items : Items) (strand value : ℕ) (u : NumberedEntry) → HasChange change items u → HasChange change (item_changing newest strand value ∷ items) u
has_before updating updating items s v u h = inr h
has_before updating putting items s v u h = h
has_before putting updating items s v u h = h
has_before putting putting items s v u h = inr h

-- what an entry of a change tells
entry_tells : (change : Change) (number strand value : ℕ) → let u = entry_changing change number strand value in
    (entry_number u ≡ number) × (strand_of u ≡ strand) × (entry_value u ≡ value)
entry_tells updating n s v = (refl, refl, refl)
entry_tells putting n s v = (refl, refl, refl)

-- the act tells the change and its value
one_change : (change other : Change) (reducer v w : ℕ) → changing change reducer v ≡ changing other reducer w → (change ≡ other) × (v ≡ w)
one_change updating updating r v w e = (refl, cc)
one_change updating putting r v w e = absurd (cc)
one_change putting updating r v w e = absurd (cc)
one_change putting putting r v w e = (refl, cc)

quiet_event : (event : Event) → IsQuiet (one.control event)
quiet_event event updating items u = ((λ h. h), (λ h. h))
quiet_event event putting items u = ((λ h. h), (λ h. h))

quiet_other : (strand : ℕ) → IsQuiet (one.other strand)
quiet_other s updating items u = ((λ h. h), (λ h. h))
quiet_other s putting items u = ((λ h. h), (λ h. h))

abbrev item_with : ℕ → ℕ → Act → Answer → ReducerItem
item_with reducer strand act answer = seen_by reducer (step_with (event_between strand act answer) strand act answer)

abbrev item_at : ℕ → Entry → ReducerItem
item_at reducer e = item_with reducer e.request.strand e.request.act e.answer

no_change : (r : ℕ) (act : Act) → ((value : ℕ) → act ≡ Update r value → ⊥) → ((value : ℕ) → act ≡ Put r value → ⊥) → (change : Change) (value : ℕ) → act ≡ changing change r value → ⊥
no_change r act no_update no_put updating = no_update
no_change r act no_update no_put putting = no_put

head : (r strand : ℕ) (act : Act) (answer : Answer) → Belongs act answer → IsCleanAnswer answer → Head r strand act (item_with r strand act answer)
head r s Act.Spawn (Split t) b c = silent (λ v e. cc) (λ v e. cc) (quiet_event (split s t.child t.next t.join t.first))
head r s Act.Spawn _ b c = absurd b
head r s Act.Sync Same b c = silent (λ v e. cc) (λ v e. cc) (quiet_event (same s))
head r s Act.Sync (Joined j) b c = silent (λ v e. cc) (λ v e. cc) (quiet_event (joined s j))
head r s Act.Sync Waits b c = silent (λ v e. cc) (λ v e. cc) (quiet_event (waits s))
head r s Act.Sync _ b c = absurd b
head r s Act.Call Same b c = silent (λ v e. cc) (λ v e. cc) (quiet_event (call s))
head r s Act.Call _ b c = absurd b
head r s Act.Return Resumed b c = silent (λ v e. cc) (λ v e. cc) (quiet_event (resumed s))
head r s Act.Return Ended b c = silent (λ v e. cc) (λ v e. cc) (quiet_event (ended s))
head r s Act.Return (EndedJoined j) b c = silent (λ v e. cc) (λ v e. cc) (quiet_event (ended_joined s j))
head r s Act.Return Finished b c = silent (λ v e. cc) (λ v e. cc) (quiet_event (finished s))
head r s Act.Return _ b c = absurd b
head r s (Update p v) Granted b c =
    item_cases (Head r s (Update p v)) p r (one.update s v) (one.other s)
    (λ q. changes updating v (ap (λ z. Update z v) q) refl)
    (λ ne. silent (λ w e. ne (cc)) (λ w e. cc) (quiet_other s))
head r s (Update p v) _ b c = absurd b
head r s (Put p v) Granted b c =
    item_cases (Head r s (Put p v)) p r (one.put s v) (one.other s)
    (λ q. changes putting v (ap (λ z. Put z v) q) refl)
    (λ ne. silent (λ w e. cc) (λ w e. ne (cc)) (quiet_other s))
head r s (Put p v) (Refused rule w) b c = absurd c
head r s (Put p v) _ b c = absurd b
head r s (Get p) answer b c = silent (λ v e. cc) (λ v e. cc) (quiet_other s)
head r s (Read l) answer b c = silent (λ v e. cc) (λ v e. cc) (quiet_other s)
head r s (Write l v) answer b c = silent (λ v e. cc) (λ v e. cc) (quiet_other s)
head r s (Bump l v) answer b c = silent (λ v e. cc) (λ v e. cc) (quiet_other s)

items_length : (reducer : ℕ) (H : Entries) → length (items_of reducer (steps_of H)) ≡ length H
items_length r [] = refl
items_length r (e ∷ H) = ap suc (items_length r H)

module _ {Note : Type 0} (shape : Shape) (T : Notes Note) where
  -- the deed with a number
  abbrev pub HasNumber : Entries → ℕ → Occurrence Note → Type 0
  HasNumber [] number y = ⊥
  HasNumber (e ∷ H) number y = ((number ≡ suc (length H)) × (y ≡ occurrence_of T H e)) ⊎ HasNumber H number y

  pub number_member : (H : Entries) (n : ℕ) (y : Occurrence Note) → HasNumber H n y → Member (trace T H) y
  number_member [] n y h = absurd h
  number_member (e ∷ H) n y (inl t) = inl t.1
  number_member (e ∷ H) n y (inr h) = inr (number_member H n y h)

  number_below : (H : Entries) (n : ℕ) (y : Occurrence Note) → HasNumber H n y → n ≤ length H
  number_below [] n y h = absurd h
  number_below (e ∷ H) n y (inl t) = let u = t.0 in omega arith
  number_below (e ∷ H) n y (inr h) = let u = number_below H n y h in omega arith

  pub one_item : (H : Entries) (n : ℕ) (y z : Occurrence Note) → HasNumber H n y → HasNumber H n z → y ≡ z
  one_item [] n y z h k = absurd h
  one_item (e ∷ H) n y z (inl h) (inl k) = h.1 ∙ sym k.1
  one_item (e ∷ H) n y z (inl h) (inr k) = let u = number_below H n z k in let t = h.0 in absurd (omega arith)
  one_item (e ∷ H) n y z (inr h) (inl k) = let u = number_below H n y h in let t = k.0 in absurd (omega arith)
  one_item (e ∷ H) n y z (inr h) (inr k) = one_item H n y z h k

  -- what holds of each two deeds holds by their numbers
  pub by_number : (R : Occurrence Note → Occurrence Note → Type 0) (H : Entries) → Paired R (trace T H) → (n m : ℕ) (y z : Occurrence Note) → HasNumber H n y → HasNumber H m z → n < m → R z y
  by_number R [] p n m y z h k lt = absurd h
  by_number R (e ∷ H) p n m y z (inl h) (inl k) lt = let t = h.0 in let u = k.0 in absurd (omega arith)
  by_number R (e ∷ H) p n m y z (inl h) (inr k) lt = let t = h.0 in let u = number_below H m z k in absurd (omega arith)
  by_number R (e ∷ H) p n m y z (inr h) (inl k) lt = subst (λ w. R w y) (sym k.1) (p.0 y (number_member H n y h))
  by_number R (e ∷ H) p n m y z (inr h) (inr k) lt = by_number R H p.1 n m y z h k lt

  -- what precedes has the lower number
  pub precedes_number : (H : Entries) → IsLegal shape H → (n m : ℕ) (y z : Occurrence Note) → HasNumber H n y → HasNumber H m z → Precedes y z → n < m
  precedes_number H l n m y z h k p = elim (less_more n m) [
    | inl t ↦ t
    | inr t ↦ elim t [
      | inl u ↦ absurd (by_number (λ later earlier. Precedes later earlier → ⊥) H (ordered shape T H l) m n z y k h u p)
      | inr u ↦ absurd (irreflexive shape T z (subst (λ w. Precedes w z) (one_item H m y z (subst (λ w. HasNumber H w y) u h) k) p))
    ]
  ]

  -- the deed of a change
  pub record Deed (change : Change) (reducer : ℕ) (H : Entries) (u : NumberedEntry) : Type 0 where
    pub deed : Occurrence Note
    pub numbered : HasNumber H (entry_number u) deed
    pub act : deed.newest.act ≡ changing change reducer (entry_value u)
    pub at : occurrence_address deed ≡ address (control_part H) (strand_of u)
    pub begun : Begun (control_part H) (strand_of u)

  deed_now : (change : Change) (r : ℕ) (H : Entries) (e : Entry) → IsLegal shape (e ∷ H) → (v : ℕ) → e.request.act ≡ changing change r v →
      Deed change r (e ∷ H) (entry_changing change (suc (length (items_of r (steps_of H)))) e.request.strand v)
  deed_now change r H e l v q =
      let t = begun_on shape H e l e.request.strand (inl l.1.runs) in
      let tells = entry_tells change (suc (length (items_of r (steps_of H)))) e.request.strand v in
      record {
        deed = occurrence_of T H e;
        numbered = inl (tells.0 ∙ ap suc (items_length r H), refl);
        act = q ∙ ap (changing change r) (sym tells.2);
        at = placed shape T H e l ∙ sym t.1 ∙ ap (address (control_part (e ∷ H))) (sym tells.1);
        begun = subst (Begun (control_part (e ∷ H))) (sym tells.1) t.0;
      }

  deed_on : (change : Change) (r : ℕ) (H : Entries) (e : Entry) → IsLegal shape (e ∷ H) → (u : NumberedEntry) → Deed change r H u → Deed change r (e ∷ H) u
  deed_on change r H e l u d =
      let t = begun_on shape H e l (strand_of u) d.begun in
      record { deed = d.deed; numbered = inr d.numbered; act = d.act; at = d.at ∙ sym t.1; begun = t.0 }

  pub deed_of_change : (change : Change) (r : ℕ) (H : Entries) → IsLegal shape H → NoneRefused H → (u : NumberedEntry) → HasChange change (items_of r (steps_of H)) u → Deed change r H u
  deed_of_change updating r [] l c u h = absurd h
  deed_of_change putting r [] l c u h = absurd h
  deed_of_change change r (e ∷ H) l c u h = go (deed_of_change change r H l.0 c.1 u) (head r e.request.strand e.request.act e.answer l.1.belongs c.0) h
    where
      s : ℕ
      s = e.request.strand

      items : Items
      items = items_of r (steps_of H)

      go : (HasChange change items u → Deed change r H u) → Head r s e.request.act (item_at r e) → HasChange change (item_at r e ∷ items) u → Deed change r (e ∷ H) u
      go older (changes newest v q i) h =
          elim (now_or_before change newest items s v u (subst (λ z. HasChange change (z ∷ items) u) i h)) [
            | inl n ↦ subst (Deed change r (e ∷ H)) (sym n.1) (deed_now change r H e l v (q ∙ ap (λ z. changing z r v) n.0))
            | inr n ↦ deed_on change r H e l u (older n)
          ]
      go older (silent no_update no_put quiet) h = deed_on change r H e l u (older ((quiet change items u).0 h))

  -- the change of a deed
  pub record DeedChange (change : Change) (reducer value : ℕ) (H : Entries) (y : Occurrence Note) : Type 0 where
    pub entry : NumberedEntry
    pub has : HasChange change (items_of reducer (steps_of H)) entry
    pub numbered : HasNumber H (entry_number entry) y
    pub value_is : entry_value entry ≡ value
    pub at : address (control_part H) (strand_of entry) ≡ occurrence_address y
    pub begun : Begun (control_part H) (strand_of entry)

  pub change_of_deed : (change : Change) (r v : ℕ) (H : Entries) → IsLegal shape H → NoneRefused H → (y : Occurrence Note) → Member (trace T H) y → y.newest.act ≡ changing change r v →
      DeedChange change r v H y
  change_of_deed change r v [] l c y m q = absurd m
  change_of_deed change r v (e ∷ H) l c y m q = go (λ n. change_of_deed change r v H l.0 c.1 y n q) (head r e.request.strand e.request.act e.answer l.1.belongs c.0) m
    where
      s : ℕ
      s = e.request.strand

      items : Items
      items = items_of r (steps_of H)

      the_entry : NumberedEntry
      the_entry = entry_changing change (suc (length items)) s v

      on : DeedChange change r v H y → ((u : NumberedEntry) → HasChange change items u → HasChange change (item_at r e ∷ items) u) → DeedChange change r v (e ∷ H) y
      on d more =
          let t = begun_on shape H e l (strand_of d.entry) d.begun in
          record {
            entry = d.entry;
            has = more d.entry d.has;
            numbered = inr d.numbered;
            value_is = d.value_is;
            at = t.1 ∙ d.at;
            begun = t.0;
          }

      now : item_at r e ≡ item_changing change s v → y ≡ occurrence_of T H e → DeedChange change r v (e ∷ H) y
      now i n =
          let t = begun_on shape H e l s (inl l.1.runs) in
          let tells = entry_tells change (suc (length items)) s v in
          record {
            entry = the_entry;
            has = subst (λ z. HasChange change (z ∷ items) the_entry) (sym i) (has_now change items s v);
            numbered = inl (tells.0 ∙ ap suc (items_length r H), n);
            value_is = tells.2;
            at = ap (address (control_part (e ∷ H))) tells.1 ∙ t.1 ∙ sym (placed shape T H e l) ∙ sym (ap occurrence_address n);
            begun = subst (Begun (control_part (e ∷ H))) (sym tells.1) t.0;
          }

      go : (Member (trace T H) y → DeedChange change r v H y) → Head r s e.request.act (item_at r e) → Member (trace T (e ∷ H)) y → DeedChange change r v (e ∷ H) y
      go older (changes newest w p i) (inl n) =
          let same = one_change newest change r w v (sym p ∙ sym (ap (λ z. z.newest.act) n) ∙ q) in
          now (i ∙ ap (λ z. item_changing z s w) same.0 ∙ ap (item_changing change s) same.1) n
      go older (changes newest w p i) (inr n) =
          on (older n) (λ u h. subst (λ z. HasChange change (z ∷ items) u) (sym i) (has_before change newest items s w u h))
      go older (silent no_update no_put quiet) (inl n) = absurd (no_change r e.request.act no_update no_put change v (sym (ap (λ z. z.newest.act) n) ∙ q))
      go older (silent no_update no_put quiet) (inr n) = on (older n) (λ u h. (quiet change items u).1 h)
