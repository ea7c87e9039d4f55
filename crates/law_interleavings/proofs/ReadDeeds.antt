-- Puts and gets among the deeds of a history: in a clean one all of a reducer are of one branch.
use Rattle.std.proofs.Common.{◌≡◌, ◌⊎◌, inl, inr, ℕ, zero, suc, true, [], ◌∷◌, length, replicate, Contains, refl, sym, ap, ◌∙◌, subst, subst₂}
use Rattle.std.proofs.lemmas.List.Elements.{Contains-append_left, Contains-append_right, Contains-append_cases}
use Rattle.std.specs.Option.{option_to_list}
use Rattle.model_accesses.specs.declared.kind.Kind.{Kind}
use Rattle.model_accesses.specs.declared.kind.Kind.TheVariants as kind
use Rattle.model_strands.specs.Address.{join, Address}
use Rattle.law_addresses.specs.Address.{reaches, branch}
use Rattle.law_addresses.specs.Blocks.{joined}
use Rattle.law_addresses.proofs.Extremes.{contains-head, contains-cases}
use Rattle.law_addresses.proofs.Extensions.{reaches-append}
use Rattle.law_addresses.proofs.Intervals.{branch-joined}
use Rattle.model_accesses.specs.declared.request.Act.{Act}
use Rattle.model_accesses.specs.declared.request.Act.TheVariants.{Put, Get}
use Rattle.model_strands.specs.History.{History}
use Rattle.model_strands.specs.Strands.{Begun}
use Rattle.model_strands.specs.Addresses.{address}
use Rattle.law_strands.proofs.Branches.{branch_law, branch_address_law}
use Rattle.law_strands.proofs.Finish.{finish_law}
use Rattle.model_accesses.specs.Reads.{ReducerRead}
use Rattle.model_histories.specs.declared.answer.Answer.{Answer}
use Rattle.model_histories.specs.declared.answer.Answer.TheVariants.{Granted, Value, Refused, Unset}
use Rattle.model_histories.specs.declared.answer.Entry.{Entry}
use Rattle.model_histories.specs.Entries.{Entries, control_part}
use Rattle.model_histories.specs.Shapes.{Shape}
use Rattle.model_histories.specs.Legal.{Belongs, IsLegal}
use Rattle.model_races.specs.Accesses.{is_granted}
use Rattle.model_races.specs.Reducers.{steps_of, read_at, granted_reads}
use Rattle.model_races.specs.ViewReads.{Completes, IsRightRead}
use Rattle.model_races.specs.ReducerVerdicts.{IsRightFor, ReducersAreJudged, reads_before}
use Rattle.model_histories.specs.Extensions.{IsCleanAnswer}
use Rattle.law_interleavings.proofs.Control.{legal_part, none_listed}
use Rattle.law_interleavings.specs.Traces.{Notes, Occurrence, occurrence_address, occurrence_of, trace}
use Rattle.law_interleavings.proofs.Swaps.{Member}
use Rattle.law_interleavings.proofs.Traces.{placed, begun_on}
use Rattle.law_interleavings.proofs.Spoken.{NoneRefused}

-- the act is a put or a get of the reducer
abbrev pub IsReadBy : ℕ → Act → Type 0
IsReadBy reducer (Put other value) = other ≡ reducer
IsReadBy reducer (Get other) = other ≡ reducer
IsReadBy reducer act = ⊥

joins_lead : (n m : ℕ) → (reaches (replicate n join) (replicate m join) ≡ true) ⊎ (reaches (replicate m join) (replicate n join) ≡ true)
joins_lead zero zero = inl refl
joins_lead zero (suc m) = inl refl
joins_lead (suc n) zero = inr refl
joins_lead (suc n) (suc m) = joins_lead n m

-- of two strands of one branch one reaches the other
pub branch_leads : (a b : Address) → branch a ≡ branch b → (reaches a b ≡ true) ⊎ (reaches b a ≡ true)
branch_leads a b e =
    let p = branch-joined a in
    let q = branch-joined b in
    let q' : b ≡ joined (branch a) q.0 = q.1 ∙ ap (λ z. joined z q.0) (sym e) in
    let go : ((reaches (joined (branch a) p.0) (joined (branch a) q.0)) ≡ true) ⊎ ((reaches (joined (branch a) q.0) (joined (branch a) p.0)) ≡ true) =
    elim (joins_lead p.0 q.0) [
      | inl r ↦ inl (reaches-append (branch a) (replicate p.0 join) (replicate q.0 join) ∙ r)
      | inr r ↦ inr (reaches-append (branch a) (replicate q.0 join) (replicate p.0 join) ∙ r)
    ] in
    elim go [
      | inl r ↦ inl (subst₂ (λ u v. reaches u v ≡ true) (sym p.1) (sym q') r)
      | inr r ↦ inr (subst₂ (λ u v. reaches u v ≡ true) (sym q') (sym p.1) r)
    ]

read_granted : (act : Act) (answer : Answer) (reducer : ℕ) → Belongs act answer → IsCleanAnswer answer → IsReadBy reducer act → is_granted answer ≡ true
read_granted (Put s v) Granted r b c q = refl
read_granted (Put s v) (Refused rule w) r b c q = absurd c
read_granted (Put s v) _ r b c q = absurd b
read_granted (Get s) (Value v) r b c q = refl
read_granted (Get s) (Refused rule w) r b c q = absurd c
read_granted (Get s) Unset r b c q = absurd c
read_granted (Get s) _ r b c q = absurd b
read_granted _ answer r b c q = absurd q

listed_read : (number strand : ℕ) (act : Act) (answer : Answer) (read : ReducerRead) → Contains (option_to_list (read_at number strand act answer)) read →
    (read.strand ≡ strand) × IsReadBy read.reducer act
listed_read n s (Put r v) Granted read h = elim (contains-cases (record { reducer = r; kind = kind.Put; strand = s; entry = n }) read [] h) [
  | inl e ↦ (ap (λ z. z.strand) e, sym (ap (λ z. z.reducer) e))
  | inr none ↦ absurd (none_listed read none)
]
listed_read n s (Get r) (Value v) read h = elim (contains-cases (record { reducer = r; kind = kind.Get; strand = s; entry = n }) read [] h) [
  | inl e ↦ (ap (λ z. z.strand) e, sym (ap (λ z. z.reducer) e))
  | inr none ↦ absurd (none_listed read none)
]
listed_read n s act answer read h = absurd (none_listed read h)

-- the read that an entry is
record ReadThere (number strand reducer : ℕ) (act : Act) (answer : Answer) : Type 0 where
  read : ReducerRead
  listed : Contains (option_to_list (read_at number strand act answer)) read
  reducer_is : read.reducer ≡ reducer
  strand_is : read.strand ≡ strand

read_there : (number strand reducer : ℕ) (act : Act) (answer : Answer) → Belongs act answer → IsCleanAnswer answer → IsReadBy reducer act →
    ReadThere number strand reducer act answer
read_there n s r (Put p v) Granted b c q =
    let read : ReducerRead = record { reducer = p; kind = kind.Put; strand = s; entry = n } in
    record { read = read; listed = contains-head read []; reducer_is = q; strand_is = refl }
read_there n s r (Put p v) (Refused rule w) b c q = absurd c
read_there n s r (Put p v) _ b c q = absurd b
read_there n s r (Get p) (Value v) b c q =
    let read : ReducerRead = record { reducer = p; kind = kind.Get; strand = s; entry = n } in
    record { read = read; listed = contains-head read []; reducer_is = q; strand_is = refl }
read_there n s r (Get p) (Refused rule w) b c q = absurd c
read_there n s r (Get p) Unset b c q = absurd c
read_there n s r (Get p) _ b c q = absurd b
read_there n s r _ answer b c q = absurd q

module _ {Note : Type 0} (shape : Shape) (T : Notes Note) where
  pub record ReadDeed (H : Entries) (read : ReducerRead) : Type 0 where
    pub deed : Occurrence Note
    pub done : Member (trace T H) deed
    pub at : occurrence_address deed ≡ address (control_part H) read.strand
    pub begun : Begun (control_part H) read.strand
    pub is : IsReadBy read.reducer deed.newest.act

  pub read_deed : (H : Entries) → IsLegal shape H → (read : ReducerRead) → Contains (granted_reads H) read → ReadDeed H read
  read_deed [] l a h = absurd (none_listed a h)
  read_deed (e ∷ H) l a h =
      go (read_deed H l.0 a) (Contains-append_cases (granted_reads H) (option_to_list (read_at (suc (length H)) e.request.strand e.request.act e.answer)) a h)
    where
      go : (Contains (granted_reads H) a → ReadDeed H a) →
          Contains (granted_reads H) a ⊎ Contains (option_to_list (read_at (suc (length H)) e.request.strand e.request.act e.answer)) a → ReadDeed (e ∷ H) a
      go older (inl k) =
          let d = older k in
          let t = begun_on shape H e l a.strand d.begun in
          record { deed = d.deed; done = inr d.done; at = d.at ∙ sym t.1; begun = t.0; is = d.is }
      go older (inr k) =
          let p = listed_read (suc (length H)) e.request.strand e.request.act e.answer a k in
          let t = begun_on shape H e l e.request.strand (inl l.1.runs) in
          record {
            deed = occurrence_of T H e;
            done = inl refl;
            at = placed shape T H e l ∙ sym t.1 ∙ ap (address (control_part (e ∷ H))) (sym p.0);
            begun = subst (Begun (control_part (e ∷ H))) (sym p.0) t.0;
            is = p.1;
          }

  pub record DeedRead (H : Entries) (deed : Occurrence Note) (reducer : ℕ) : Type 0 where
    pub read : ReducerRead
    pub listed : Contains (granted_reads H) read
    pub reducer_is : read.reducer ≡ reducer
    pub at : address (control_part H) read.strand ≡ occurrence_address deed
    pub begun : Begun (control_part H) read.strand

  pub deed_read : (H : Entries) → IsLegal shape H → NoneRefused H → (y : Occurrence Note) → Member (trace T H) y → (reducer : ℕ) → IsReadBy reducer y.newest.act → DeedRead H y reducer
  deed_read [] l c y m r q = absurd m
  deed_read (e ∷ H) l c y (inr m) r q =
      let d = deed_read H l.0 c.1 y m r q in
      let t = begun_on shape H e l d.read.strand d.begun in
      record {
        read = d.read;
        listed = Contains-append_left (granted_reads H) (option_to_list (read_at (suc (length H)) e.request.strand e.request.act e.answer)) d.read d.listed;
        reducer_is = d.reducer_is;
        at = t.1 ∙ d.at;
        begun = t.0;
      }
  deed_read (e ∷ H) l c y (inl n) r q =
      let is : IsReadBy r e.request.act = subst (λ z. IsReadBy r z.newest.act) n q in
      let d = read_there (suc (length H)) e.request.strand r e.request.act e.answer l.1.belongs c.0 is in
      let t = begun_on shape H e l e.request.strand (inl l.1.runs) in
      record {
        read = d.read;
        listed = Contains-append_right (granted_reads H) (option_to_list (read_at (suc (length H)) e.request.strand e.request.act e.answer)) d.read d.listed;
        reducer_is = d.reducer_is;
        at = ap (address (control_part (e ∷ H))) d.strand_is ∙ t.1 ∙ sym (placed shape T H e l) ∙ sym (ap occurrence_address n);
        begun = subst (Begun (control_part (e ∷ H))) (sym d.strand_is) t.0;
      }

  -- the verdict on a put or a get
  pub record ReadVerdict (H : Entries) (e : Entry) (reducer : ℕ) : Type 0 where
    pub kind_is : Kind
    pub right : IsRightRead (control_part H) (granted_reads H) e.request.strand reducer kind_is e.answer

  pub read_verdict : (H : Entries) (e : Entry) (reducer : ℕ) → ReducersAreJudged shape (e ∷ H) → IsReadBy reducer e.request.act → ReadVerdict H e reducer
  read_verdict H e r j q = go e.request.act j.1 q
    where
      go : (act : Act) → IsRightFor (reads_before shape.monoids H) e.request.strand act e.answer → IsReadBy r act → ReadVerdict H e r
      go (Put s v) right q = record { kind_is = kind.Put; right = subst (λ z. IsRightRead (control_part H) (granted_reads H) e.request.strand z kind.Put e.answer) q right }
      go (Get s) right q = record { kind_is = kind.Get; right = subst (λ z. IsRightRead (control_part H) (granted_reads H) e.request.strand z kind.Get e.answer) q right.0 }
      go _ right q = absurd q

  -- some finished extension
  pub completed : (H : Entries) → IsLegal shape H → (whole : History) × Completes whole (control_part H)
  completed H l =
      let f = finish_law (control_part H) (legal_part shape H l) in
      (f.0, record { extends = f.1; legal = f.2; finished = f.3 })

  earlier_branch : (H : Entries) (e : Entry) → IsLegal shape (e ∷ H) → ReducersAreJudged shape (e ∷ H) → NoneRefused (e ∷ H) → (reducer : ℕ) (y : Occurrence Note) →
      Member (trace T H) y → IsReadBy reducer y.newest.act → IsReadBy reducer e.request.act → branch (occurrence_address y) ≡ branch (occurrence_address (occurrence_of T H e))
  earlier_branch H e l j c r y m p q =
      let d = deed_read H l.0 c.1 y m r p in
      let v = read_verdict H e r j q in
      let w = completed H l.0 in
      let h = control_part H in
      let lh = legal_part shape H l.0 in
      let peers = v.right.granted (read_granted e.request.act e.answer r l.1.belongs c.0 q) d.read (d.listed, d.reducer_is) w.0 w.1 in
      let one = (branch_law h lh d.read.strand e.request.strand d.begun (inl l.1.runs) w.0 w.1.extends w.1.legal).1 peers in
      let same_address = (branch_address_law h lh d.read.strand e.request.strand d.begun (inl l.1.runs)).0 one in
      ap branch (sym d.at) ∙ same_address ∙ ap branch (sym (placed shape T H e l))

  -- all puts and gets of a reducer are of one branch
  pub one_branch : (H : Entries) → IsLegal shape H → ReducersAreJudged shape H → NoneRefused H → (reducer : ℕ) (x y : Occurrence Note) → Member (trace T H) x → Member (trace T H) y →
      IsReadBy reducer x.newest.act → IsReadBy reducer y.newest.act → branch (occurrence_address x) ≡ branch (occurrence_address y)
  one_branch [] l j c r x y m n p q = absurd m
  one_branch (e ∷ H) l j c r x y (inl m) (inl n) p q = ap (λ z. branch (occurrence_address z)) (m ∙ sym n)
  one_branch (e ∷ H) l j c r x y (inr m) (inr n) p q = one_branch H l.0 j.0 c.1 r x y m n p q
  one_branch (e ∷ H) l j c r x y (inr m) (inl n) p q =
      earlier_branch H e l j c r x m p (subst (λ z. IsReadBy r z.newest.act) n q) ∙ sym (ap (λ z. branch (occurrence_address z)) n)
  one_branch (e ∷ H) l j c r x y (inl m) (inr n) p q =
      ap (λ z. branch (occurrence_address z)) m ∙ sym (earlier_branch H e l j c r y n q (subst (λ z. IsReadBy r z.newest.act) m p))
