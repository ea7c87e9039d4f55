-- Where a part asks what the whole did at that occurrence_address, what comes before it is the same in both.
use Rattle.std.proofs.Common.{◌≡◌, ◌⊎◌, inl, inr, ◌<◌, true, [], ◌∷◌, ◌++◌, length, refl, sym, ◌∙◌, subst}
use Rattle.model_strands.specs.Address.{Address}
use Rattle.law_addresses.specs.Address.{reaches}
use Rattle.law_addresses.proofs.Relations.{reaches-self}
use Rattle.model_strands.specs.Addresses.{address}
use Rattle.model_histories.specs.declared.answer.Entry.{Entry}
use Rattle.model_histories.specs.Entries.{Entries, control_part}
use Rattle.model_histories.specs.Shapes.{Shape}
use Rattle.model_histories.specs.Legal.{IsLegal}
use Rattle.law_interleavings.proofs.Control.{legal_part}
use Rattle.model_runs.specs.Frames.{frame_in}
use Rattle.law_interleavings.specs.Traces.{Notes, spoken_by, beginning, walk, Occurrence, occurrence_address, occurrence_of, trace, Precedes, IsLaterOf}
use Rattle.law_interleavings.proofs.Swaps.{Member}
use Rattle.law_interleavings.proofs.Fronts.{active_begun}
use Rattle.law_interleavings.proofs.Traces.{placed, deed_of}
use Rattle.law_interleavings.proofs.Parts.{IsPart, included, reached}
use Rattle.law_interleavings.proofs.Comparisons.{within_frame, leads_first, must_lead, member_before}

module _ {Note : Type 0} (shape : Shape) (mine T : Notes Note) where
  -- the whole is a history with an entry after some others, and the part comes to an entry at the same occurrence_address with the same deeds of its frame before
  pub record Meeting : Type 0 where
    pub later : Entries
    pub entry : Entry
    pub before : Entries
    pub part : Entries
    pub next : Entry
    pub whole_legal : IsLegal shape (later ++ entry ∷ before)
    pub part_legal : IsLegal shape (next ∷ part)
    pub is_part : IsPart shape mine T (later ++ entry ∷ before) part
    pub begin : (occurrence_of mine part next).begin ≡ (occurrence_of T before entry).begin
    pub earlier : (occurrence_of mine part next).earlier ≡ (occurrence_of T before entry).earlier

  abbrev begun_at : Occurrence Note → Address → Occurrence Note
  begun_at x begin = record { begin = begin; newest = x.newest; earlier = x.earlier }

  begin_at : (x : Occurrence Note) (a : Address) → a ≡ x.begin → begun_at x a ≡ x
  begin_at x a e = λ i. record { begin = e i; newest = x.newest; earlier = x.earlier }

  module _ (meeting : Meeting) where
    abbrev pub whole : Entries
    whole = meeting.later ++ meeting.entry ∷ meeting.before

    abbrev pub own : Occurrence Note
    own = occurrence_of mine meeting.part meeting.next

    abbrev pub other : Occurrence Note
    other = occurrence_of T meeting.before meeting.entry

    pub place_same : occurrence_address own ≡ occurrence_address other
    place_same = λ i. (walk (meeting.begin i) (meeting.earlier i)).here

    precedes_same : (y : Occurrence Note) → Precedes y own → Precedes y other
    precedes_same y (inl p) = inl (subst (λ a. (reaches (occurrence_address y) a ≡ true) × (occurrence_address y ≡ a → ⊥)) place_same p)
    precedes_same y (inr p) = inr (p.0 ∙ meeting.begin, subst (λ l. length y.earlier < length l) meeting.earlier p.1)

    -- the whole was legal when it came to its entry
    pub earlier_legal : (later : Entries) (entry : Entry) (before : Entries) → IsLegal shape (later ++ entry ∷ before) → IsLegal shape (entry ∷ before)
    earlier_legal [] entry before l = l
    earlier_legal (d ∷ later) entry before l = earlier_legal later entry before l.0

    pub then_legal : IsLegal shape (meeting.entry ∷ meeting.before)
    then_legal = earlier_legal meeting.later meeting.entry meeting.before meeting.whole_legal

    pub member_later : (later : Entries) (entry : Entry) (before : Entries) (y : Occurrence Note) → Member (trace T (entry ∷ before)) y → Member (trace T (later ++ entry ∷ before)) y
    member_later [] entry before y m = m
    member_later (d ∷ later) entry before y m = inr (member_later later entry before y m)

    pub mine_in_whole : (y : Occurrence Note) → Member (trace mine meeting.part) y → Member (trace T whole) y
    mine_in_whole y m = included shape mine T whole meeting.part meeting.part_legal.0 meeting.whole_legal meeting.is_part y m

    pub theirs_in_whole : (y : Occurrence Note) → Member (trace T meeting.before) y → Member (trace T whole) y
    theirs_in_whole y m = member_later meeting.later meeting.entry meeting.before y (inr m)

    -- what reaches the occurrence_address and was done in the part was done in the whole before
    pub mine_before : (y : Occurrence Note) → Member (trace mine meeting.part) y → reaches (occurrence_address y) (occurrence_address own) ≡ true → Member (trace T meeting.before) y
    mine_before y m r =
        member_before shape T meeting.later meeting.entry meeting.before meeting.whole_legal other y refl (mine_in_whole y m)
        (precedes_same y (leads_first shape mine meeting.part meeting.next meeting.part_legal y m r))

    -- and the other way
    pub theirs_before : (y : Occurrence Note) → Member (trace T meeting.before) y → reaches (occurrence_address y) (occurrence_address other) ≡ true → Member (trace mine meeting.part) y
    theirs_before y m r = go (leads_first shape T meeting.before meeting.entry then_legal y m r)
      where
        go : Precedes y other → Member (trace mine meeting.part) y
        go (inl p) =
            let at = placed shape mine meeting.part meeting.next meeting.part_legal in
            let there : occurrence_address other ≡ address (control_part meeting.part) meeting.next.request.strand = sym place_same ∙ at in
            reached shape mine T whole meeting.part meeting.part_legal.0 meeting.whole_legal meeting.is_part meeting.next.request.strand meeting.part_legal.1.runs
            whole meeting.whole_legal (λ z n. n) y (theirs_in_whole y m)
            (subst (λ a. reaches (occurrence_address y) a ≡ true) there p.0) (λ q. p.1 (q ∙ sym there))
        go (inr p) =
            let own_frame = frame_in meeting.part meeting.next.request.strand in
            let begun = active_begun (legal_part shape meeting.part meeting.part_legal.0) meeting.next.request.strand (inl meeting.part_legal.1.runs) in
            let w : IsLaterOf (y.newest ∷ y.earlier) other.earlier =
            within_frame shape T (meeting.entry ∷ meeting.before) then_legal y other (inr m) (inl refl) p.0 p.1 in
            let v : IsLaterOf (y.newest ∷ y.earlier) (spoken_by mine meeting.part own_frame) = subst (IsLaterOf (y.newest ∷ y.earlier)) (sym meeting.earlier) w in
            let b : beginning (control_part meeting.part) own_frame ≡ y.begin = meeting.begin ∙ sym p.0 in
            subst (Member (trace mine meeting.part)) (begin_at y (beginning (control_part meeting.part) own_frame) b)
            (deed_of shape mine meeting.part meeting.part_legal.0 own_frame begun y.newest y.earlier v)

    -- what is comparable reaches the occurrence_address
    pub mine_leads : (y : Occurrence Note) → Member (trace mine meeting.part) y → (reaches (occurrence_address y) (occurrence_address own) ≡ true) ⊎ (reaches (occurrence_address own) (occurrence_address y) ≡ true) →
        reaches (occurrence_address y) (occurrence_address own) ≡ true
    mine_leads y m (inl r) = r
    mine_leads y m (inr r) =
        let q = must_lead shape mine meeting.part meeting.next meeting.part_legal y m r in
        subst (λ a. reaches a (occurrence_address own) ≡ true) q (reaches-self (occurrence_address own))

    pub theirs_leads : (y : Occurrence Note) → Member (trace T meeting.before) y → (reaches (occurrence_address y) (occurrence_address other) ≡ true) ⊎ (reaches (occurrence_address other) (occurrence_address y) ≡ true) →
        reaches (occurrence_address y) (occurrence_address other) ≡ true
    theirs_leads y m (inl r) = r
    theirs_leads y m (inr r) =
        let q = must_lead shape T meeting.before meeting.entry then_legal y m r in
        subst (λ a. reaches a (occurrence_address other) ≡ true) q (reaches-self (occurrence_address other))
