-- Where a part asks what the whole did at that occurrence_address, it is answered as the whole was.
use Rattle.std.proofs.Common.{◌≡◌, ◌⊎◌, inl, inr, ℕ, true, [], ◌∷◌, ◌++◌, Some, None, refl, sym, ap, ◌∙◌, subst}
use Rattle.std.specs.Prelude.{MatchOption}
use Rattle.model_accesses.specs.declared.kind.Kind.TheVariants as kind
use Rattle.law_addresses.specs.Address.{reaches}
use Rattle.model_accesses.specs.declared.request.Act.{Act}
use Rattle.model_accesses.specs.declared.request.Act.TheVariants.{Read, Write, Bump, Update, Put, Get}
use Rattle.model_races.specs.declared.access.CellAccess.{CellAccess}
use Rattle.model_histories.specs.declared.answer.Answer.{Answer}
use Rattle.model_histories.specs.declared.answer.Answer.TheVariants.{Split, Same, Joined, Waits, Resumed, Ended, EndedJoined, Finished, Granted, Value, Refused, Unset}
use Rattle.model_histories.specs.declared.answer.Entry.{Entry}
use Rattle.model_histories.specs.Entries.{Entries}
use Rattle.model_histories.specs.Shapes.{Shape}
use Rattle.model_histories.specs.Legal.{Belongs}
use Rattle.model_races.specs.Accesses.{cell_access}
use Rattle.model_races.specs.Memory.{cell_value}
use Rattle.model_races.specs.Verdicts.{IsRefused, IfValue, IsRightVerdict, MemoryIsJudged}
use Rattle.model_races.specs.Judged.{IsJudged}
use Rattle.model_histories.specs.Extensions.{IsCleanAnswer}
use Rattle.model_runs.specs.Serial.{value_given}
use Rattle.law_interleavings.specs.Traces.{Notes, Occurrence, occurrence_address, occurrence_of, trace}
use Rattle.law_interleavings.proofs.Swaps.{Member}
use Rattle.law_interleavings.proofs.Spoken.{NoneRefused}
use Rattle.law_interleavings.proofs.Races.{Conflict, compared, no_race}
use Rattle.law_interleavings.proofs.Cells.{conflict_of, touching, read_conflict, same_cell}
use Rattle.law_interleavings.proofs.Meetings.{Meeting, place_same, then_legal, member_later, mine_in_whole, theirs_in_whole, mine_before, theirs_before, mine_leads, theirs_leads}

-- the first entries of a judged history are judged
pub then_memory : (later : Entries) (entry : Entry) (before : Entries) → MemoryIsJudged (later ++ entry ∷ before) → MemoryIsJudged (entry ∷ before)
then_memory [] e K j = j
then_memory (d ∷ later) e K j = then_memory later e K j.0

pub then_clean : (later : Entries) (entry : Entry) (before : Entries) → NoneRefused (later ++ entry ∷ before) → NoneRefused (entry ∷ before)
then_clean [] e K c = c
then_clean (d ∷ later) e K c = then_clean later e K c.1

-- the answers that give no value, and those that do

pub clean_unless : (answer : Answer) → (IsRefused answer → ⊥) → (answer ≡ Unset → ⊥) → IsCleanAnswer answer
clean_unless (Refused rule w) r u = r tt
clean_unless Unset r u = u refl
clean_unless _ r u = tt

-- the answers to an access of a cell
access_set : (act : Act) (answer : Answer) (cell : CellAccess) → Belongs act answer → cell_access act ≡ Some cell → answer ≡ Unset → ⊥
access_set (Read l) Unset cell b q e = b
access_set (Write l v) Unset cell b q e = b
access_set (Bump l v) Unset cell b q e = b
access_set (Read l) _ cell b q e = cc
access_set (Write l v) _ cell b q e = cc
access_set (Bump l v) _ cell b q e = cc
access_set _ answer cell b q e = cc

-- a read that is not refused gives a value
pub record Given (answer : Answer) : Type 0 where
  pub value : ℕ
  pub is : answer ≡ Value value

read_given : (cell : ℕ) (answer : Answer) → Belongs (Read cell) answer → IsCleanAnswer answer → Given answer
read_given l (Value v) b c = record { value = v; is = refl }
read_given l (Refused rule w) b c = absurd c
read_given l _ b c = absurd b

-- acts other than reads and gets give no value
abbrev pub IsSilent : Act → Type 0
IsSilent (Read cell) = ⊥
IsSilent (Get reducer) = ⊥
IsSilent act = Unit {0}

pub no_value : (act : Act) (answer : Answer) → Belongs act answer → IsSilent act → value_given answer ≡ None
no_value (Read l) (Value v) b s = absurd s
no_value (Get r) (Value v) b s = absurd s
no_value Act.Spawn (Value v) b s = absurd b
no_value Act.Sync (Value v) b s = absurd b
no_value Act.Call (Value v) b s = absurd b
no_value Act.Return (Value v) b s = absurd b
no_value (Write l w) (Value v) b s = absurd b
no_value (Bump l w) (Value v) b s = absurd b
no_value (Update r w) (Value v) b s = absurd b
no_value (Put r w) (Value v) b s = absurd b
no_value act _ b s = refl

-- an act that is no access of a cell, put or get is never refused
abbrev pub IsPlain : Act → Type 0
IsPlain Act.Spawn = Unit {0}
IsPlain Act.Sync = Unit {0}
IsPlain Act.Call = Unit {0}
IsPlain Act.Return = Unit {0}
IsPlain (Update reducer value) = Unit {0}
IsPlain act = ⊥

plain_clean : (act : Act) (answer : Answer) → Belongs act answer → IsPlain act → IsCleanAnswer answer
plain_clean Act.Spawn (Split s) b p = tt
plain_clean Act.Spawn _ b p = absurd b
plain_clean Act.Sync Same b p = tt
plain_clean Act.Sync (Joined j) b p = tt
plain_clean Act.Sync Waits b p = tt
plain_clean Act.Sync _ b p = absurd b
plain_clean Act.Call Same b p = tt
plain_clean Act.Call _ b p = absurd b
plain_clean Act.Return Resumed b p = tt
plain_clean Act.Return Ended b p = tt
plain_clean Act.Return (EndedJoined j) b p = tt
plain_clean Act.Return Finished b p = tt
plain_clean Act.Return _ b p = absurd b
plain_clean (Update r v) Granted b p = tt
plain_clean (Update r v) _ b p = absurd b
plain_clean _ answer b p = absurd p

-- the answer is no refusal, and gives this value, if any
abbrev pub IsLike : Answer → Answer → Type 0
IsLike answer model = IsCleanAnswer answer × (value_given answer ≡ value_given model)

-- the act is a put or a get
abbrev pub IsRead : Act → Type 0
IsRead (Put reducer value) = Unit {0}
IsRead (Get reducer) = Unit {0}
IsRead act = ⊥

module _ {Note : Type 0} (shape : Shape) (mine T : Notes Note) (meeting : Meeting shape mine T) (judged : IsJudged shape (meeting.next ∷ meeting.part))
    (whole_judged : IsJudged shape (meeting.later ++ meeting.entry ∷ meeting.before)) (clean : NoneRefused meeting.part)
    (whole_clean : NoneRefused (meeting.later ++ meeting.entry ∷ meeting.before)) where
  then_clean_here : NoneRefused (meeting.entry ∷ meeting.before)
  then_clean_here = then_clean meeting.later meeting.entry meeting.before whole_clean

  then_judged_here : MemoryIsJudged (meeting.entry ∷ meeting.before)
  then_judged_here = then_memory meeting.later meeting.entry meeting.before whole_judged.memory

  other_in_whole : Member (trace T (meeting.later ++ meeting.entry ∷ meeting.before)) (occurrence_of T meeting.before meeting.entry)
  other_in_whole = member_later shape mine T meeting meeting.later meeting.entry meeting.before (occurrence_of T meeting.before meeting.entry) (inl refl)

  -- what conflicts with the deed is comparable to it
  with_other : (y : Occurrence Note) → Member (trace T (meeting.later ++ meeting.entry ∷ meeting.before)) y → Conflict y.newest.act meeting.entry.request.act →
      (reaches (occurrence_address y) (occurrence_address (occurrence_of T meeting.before meeting.entry)) ≡ true) ⊎ (reaches (occurrence_address (occurrence_of T meeting.before meeting.entry)) (occurrence_address y) ≡ true)
  with_other y m k = compared shape T (meeting.later ++ meeting.entry ∷ meeting.before) meeting.whole_legal whole_judged.memory whole_clean y
      (occurrence_of T meeting.before meeting.entry) m other_in_whole k

  with_own : (y : Occurrence Note) → Member (trace T (meeting.later ++ meeting.entry ∷ meeting.before)) y → Conflict y.newest.act meeting.entry.request.act →
      (reaches (occurrence_address y) (occurrence_address (occurrence_of mine meeting.part meeting.next)) ≡ true) ⊎ (reaches (occurrence_address (occurrence_of mine meeting.part meeting.next)) (occurrence_address y) ≡ true)
  with_own y m k =
      let q = place_same shape mine T meeting in
      elim (with_other y m k) [
        | inl r ↦ inl (subst (λ a. reaches (occurrence_address y) a ≡ true) (sym q) r)
        | inr r ↦ inr (subst (λ a. reaches a (occurrence_address y) ≡ true) (sym q) r)
      ]

  no_refusal : meeting.next.request.act ≡ meeting.entry.request.act → (cell : CellAccess) → cell_access meeting.next.request.act ≡ Some cell →
      IsRefused meeting.next.answer → ⊥
  no_refusal same_act cell is =
      no_race shape mine meeting.part meeting.next meeting.part_legal judged.memory cell is
      (λ y m k. with_own y (mine_in_whole shape mine T meeting y m) (conflict_of y.newest.act meeting.entry.request.act y.newest.act meeting.next.request.act refl (sym same_act) k))

  access_clean : meeting.next.request.act ≡ meeting.entry.request.act → (cell : CellAccess) → cell_access meeting.next.request.act ≡ Some cell →
      IsCleanAnswer meeting.next.answer
  access_clean same_act cell is =
      clean_unless meeting.next.answer (no_refusal same_act cell is)
      (access_set meeting.next.request.act meeting.next.answer cell meeting.part_legal.1.belongs is)

  -- the cell that is read holds the same
  same_held : (cell : ℕ) → meeting.entry.request.act ≡ Read cell → cell_value meeting.part cell ≡ cell_value meeting.before cell
  same_held cell is =
      same_cell shape T (meeting.later ++ meeting.entry ∷ meeting.before) meeting.whole_legal whole_judged.memory whole_clean mine T meeting.part meeting.before
      meeting.part_legal.0 clean (then_legal shape mine T meeting).0 then_clean_here.1 cell
      (λ y m t.
      let w = mine_in_whole shape mine T meeting y m in
      (w, mine_before shape mine T meeting y m (mine_leads shape mine T meeting y m (with_own y w (reads y t)))))
      (λ y m t. theirs_before shape mine T meeting y m (theirs_leads shape mine T meeting y m (with_other y (theirs_in_whole shape mine T meeting y m) (reads y t))))
    where
      reads : (y : Occurrence Note) → touching cell y ≡ true → Conflict y.newest.act meeting.entry.request.act
      reads y t = conflict_of y.newest.act meeting.entry.request.act y.newest.act (Read cell) refl is (read_conflict cell y.newest.act t)

  value_then : (entries : Entries) (entry : Entry) (cell value : ℕ) → MemoryIsJudged (entry ∷ entries) → entry.request.act ≡ Read cell → entry.answer ≡ Value value →
      value ≡ cell_value entries cell
  value_then K e cell value j is a =
      let right : IsRightVerdict K e.request.strand (record { kind = kind.Read; location = cell }) e.answer =
      subst (λ o. MatchOption o (Unit {0}) (λ one. IsRightVerdict K e.request.strand one e.answer)) (ap cell_access is) j.1 in
      subst (λ o. IfValue o (λ v. v ≡ cell_value K cell)) a right.value

  read_like : (cell : ℕ) → meeting.next.request.act ≡ meeting.entry.request.act → meeting.entry.request.act ≡ Read cell →
      IsLike meeting.next.answer meeting.entry.answer
  read_like cell same_act is =
      let mine_is : meeting.next.request.act ≡ Read cell = same_act ∙ is in
      let c = access_clean same_act (record { kind = kind.Read; location = cell }) (ap cell_access mine_is) in
      let g = read_given cell meeting.next.answer (subst (λ a. Belongs a meeting.next.answer) mine_is meeting.part_legal.1.belongs) c in
      let h = read_given cell meeting.entry.answer (subst (λ a. Belongs a meeting.entry.answer) is (then_legal shape mine T meeting).1.belongs) then_clean_here.0 in
      let v : g.value ≡ h.value =
      value_then meeting.part meeting.next cell g.value judged.memory mine_is g.is ∙ same_held cell is
      ∙ sym (value_then meeting.before meeting.entry cell h.value then_judged_here is h.is) in
      (c, ap value_given g.is ∙ ap (λ z. Some z) v ∙ sym (ap value_given h.is))

  silent_value : meeting.next.request.act ≡ meeting.entry.request.act → IsSilent meeting.next.request.act →
      value_given meeting.next.answer ≡ value_given meeting.entry.answer
  silent_value same_act s =
      no_value meeting.next.request.act meeting.next.answer meeting.part_legal.1.belongs s
      ∙ sym (no_value meeting.next.request.act meeting.entry.answer (subst (λ a. Belongs a meeting.entry.answer) (sym same_act) (then_legal shape mine T meeting).1.belongs) s)

  plain_like : meeting.next.request.act ≡ meeting.entry.request.act → IsPlain meeting.next.request.act → IsSilent meeting.next.request.act →
      IsLike meeting.next.answer meeting.entry.answer
  plain_like same_act p s = (plain_clean meeting.next.request.act meeting.next.answer meeting.part_legal.1.belongs p, silent_value same_act s)

  write_like : meeting.next.request.act ≡ meeting.entry.request.act → (cell : CellAccess) → cell_access meeting.next.request.act ≡ Some cell →
      IsSilent meeting.next.request.act → IsLike meeting.next.answer meeting.entry.answer
  write_like same_act cell is s = (access_clean same_act cell is, silent_value same_act s)

  pub is_like : meeting.next.request.act ≡ meeting.entry.request.act →
      (IsRead meeting.next.request.act → IsLike meeting.next.answer meeting.entry.answer) → IsLike meeting.next.answer meeting.entry.answer
  is_like same_act reads = by_act meeting.next.request.act refl
    where
      to : (act : Act) (P : Act → Type 0) → meeting.next.request.act ≡ act → P act → P meeting.next.request.act
      to act P q p = subst P (sym q) p

      by_act : (act : Act) → meeting.next.request.act ≡ act → IsLike meeting.next.answer meeting.entry.answer
      by_act Act.Spawn q = plain_like same_act (to Act.Spawn IsPlain q tt) (to Act.Spawn IsSilent q tt)
      by_act Act.Sync q = plain_like same_act (to Act.Sync IsPlain q tt) (to Act.Sync IsSilent q tt)
      by_act Act.Call q = plain_like same_act (to Act.Call IsPlain q tt) (to Act.Call IsSilent q tt)
      by_act Act.Return q = plain_like same_act (to Act.Return IsPlain q tt) (to Act.Return IsSilent q tt)
      by_act (Update r v) q = plain_like same_act (to (Update r v) IsPlain q tt) (to (Update r v) IsSilent q tt)
      by_act (Read l) q = read_like l same_act (sym same_act ∙ q)
      by_act (Write l v) q = write_like same_act (record { kind = kind.Write; location = l }) (ap cell_access q) (to (Write l v) IsSilent q tt)
      by_act (Bump l v) q = write_like same_act (record { kind = kind.Bump; location = l }) (ap cell_access q) (to (Bump l v) IsSilent q tt)
      by_act (Put r v) q = reads (to (Put r v) IsRead q tt)
      by_act (Get r) q = reads (to (Get r) IsRead q tt)
