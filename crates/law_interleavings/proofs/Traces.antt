-- What is known of the deeds of a legal history.
-- H: a history; e: an entry; n: a strand; f, g: frames; x, y: items, or what was spoken
use Rattle.std.proofs.Common.{true, ◌≡◌, ◌≢◌, ◌⊎◌, inl, inr, ℕ, ◌<◌, ◌≤◌, List, [], ◌∷◌, ◌++◌, length, Some, None, refl, sym, ap, ◌∙◌, subst, arith}
use Rattle.std.specs.Prelude.{MatchOption}
use Rattle.model_strands.specs.Address.{Address}
use Rattle.law_addresses.specs.Address.{reaches}
use Rattle.model_accesses.specs.declared.request.Act.{Act}
use Rattle.model_strands.specs.History.{Event, split, same, joined, waits, call, resumed, ended, ended_joined, finished, History}
use Rattle.model_strands.specs.Strands.{Begun}
use Rattle.model_strands.specs.Legal.{Allowed}
use Rattle.model_strands.specs.Addresses.{address}
use Rattle.law_strands.specs.Acts.{strand_of}
use Rattle.law_strands.proofs.Updates.{same_or_not, updated_at, updated_off}
use Rattle.law_strands.proofs.Branches.{stability_law}
use Rattle.model_histories.specs.declared.answer.Answer.{Answer}
use Rattle.model_histories.specs.declared.answer.Answer.TheVariants.{Split, Same, Joined, Waits, Resumed, Ended, EndedJoined, Finished}
use Rattle.model_histories.specs.declared.answer.Entry.{Entry}
use Rattle.model_histories.specs.Entries.{Entries, event_between, with_event, control_part}
use Rattle.model_histories.specs.Shapes.{Shape}
use Rattle.model_histories.specs.Legal.{Belongs, IsLegal}
use Rattle.law_interleavings.proofs.Control.{legal_part, extends_part}
use Rattle.model_runs.specs.Frames.{frame_in, next_frame}
use Rattle.law_interleavings.specs.Fronts.{Front, moved, act_in, frame_at, front, IsBegun}
use Rattle.law_interleavings.specs.Traces.{Notes, Spoken, spoken_of, spoken_by, beginning, walk, Occurrence, occurrence_address, occurrence_of, trace, Precedes, IsLaterOf}
use Rattle.law_interleavings.proofs.Swaps.{Member, Paired}
use Rattle.law_interleavings.proofs.Fronts.{begun_frame_below, frame_below, fronts, begun_more, active_begun}
use Rattle.law_interleavings.proofs.Beginnings.{beginning_stays, begun_now, Later, opens, moves_on, later, beginning_alone}
use Rattle.law_interleavings.proofs.Waiting.{running_reaches}
use Rattle.law_interleavings.proofs.Walks.{later_shorter}
use Rattle.law_interleavings.proofs.Spoken.{spoken_here, spoken_elsewhere}

-- an act with its answer: an access, or an event
data Deed (strand : ℕ) (act : Act) (answer : Answer) : Type 0 where
  access : event_between strand act answer ≡ None → ((front : Front) → moved front act ≡ front) → Deed strand act answer
  event_is : (event : Event) → event_between strand act answer ≡ Some event → strand_of event ≡ strand → act_in event ≡ act → Deed strand act answer

deed : (strand : ℕ) (act : Act) (answer : Answer) → Belongs act answer → Deed strand act answer
deed s Act.Spawn (Split t) b = event_is (split s t.child t.next t.join t.first) refl refl refl
deed s Act.Spawn _ b = absurd b
deed s Act.Sync Same b = event_is (same s) refl refl refl
deed s Act.Sync (Joined j) b = event_is (joined s j) refl refl refl
deed s Act.Sync Waits b = event_is (waits s) refl refl refl
deed s Act.Sync _ b = absurd b
deed s Act.Call Same b = event_is (call s) refl refl refl
deed s Act.Call _ b = absurd b
deed s Act.Return Resumed b = event_is (resumed s) refl refl refl
deed s Act.Return Ended b = event_is (ended s) refl refl refl
deed s Act.Return (EndedJoined j) b = event_is (ended_joined s j) refl refl refl
deed s Act.Return Finished b = event_is (finished s) refl refl refl
deed s Act.Return _ b = absurd b
deed s _ answer b = access refl (λ f. refl)

-- what one more entry does to the control history
pub data Grown (H : Entries) (e : Entry) : Type 0 where
  quiet : control_part (e ∷ H) ≡ control_part H → ((front : Front) → moved front e.request.act ≡ front) → Grown H e
  grows : (event : Event) → control_part (e ∷ H) ≡ event ∷ control_part H → strand_of event ≡ e.request.strand → act_in event ≡ e.request.act →
      Allowed (control_part H) event → Grown H e

module _ (shape : Shape) where
  pub grown : (H : Entries) (e : Entry) → IsLegal shape (e ∷ H) → Grown H e
  grown H e l = go (deed e.request.strand e.request.act e.answer l.1.belongs)
    where
      go : Deed e.request.strand e.request.act e.answer → Grown H e
      go (access n m) = quiet (ap (λ o. with_event o (control_part H)) n) m
      go (event_is ev n s a) =
          grows ev (ap (λ o. with_event o (control_part H)) n) s a
          (subst (λ o. MatchOption o (Unit {0}) (Allowed (control_part H))) n l.1.allowed)

  pub begun_on : (H : Entries) (e : Entry) → IsLegal shape (e ∷ H) → (n : ℕ) → Begun (control_part H) n →
      Begun (control_part (e ∷ H)) n × (address (control_part (e ∷ H)) n ≡ address (control_part H) n)
  begun_on H e l n b =
      let t = (stability_law (control_part H) (control_part (e ∷ H)) (extends_part (e ∷ []) H) (legal_part shape (e ∷ H) l) n b).0 in
      (t.begun, t.same_address)

  module _ {Note : Type 0} (notes : Notes Note) where
    -- a frame that has not begun did nothing
    pub spoken_before : (H : Entries) → IsLegal shape H → (frame : ℕ) → next_frame H ≤ frame → spoken_by notes H frame ≡ []
    spoken_before [] l f le = refl
    spoken_before (e ∷ H) l f le =
        let g = longer (grown H e l) in
        let t = frame_below (legal_part shape H l.0) e.request.strand (inl l.1.runs) in
        let ne : frame_in H e.request.strand ≢ f = λ q. absurd (omega (arith, t, q, g, le)) in
        spoken_elsewhere notes e H f ne ∙ spoken_before H l.0 f (omega (arith, g, le))
      where
        longer : Grown H e → length (control_part H) ≤ length (control_part (e ∷ H))
        longer (quiet q m) = subst (λ h. length (control_part H) ≤ length h) (sym q) (omega arith)
        longer (grows ev q s a al) = subst (λ h. length (control_part H) ≤ length h) (sym q) (omega arith)

    -- a frame's front is where its deeds lead
    pub walked : (H : Entries) → IsLegal shape H → (frame : ℕ) → front (control_part H) frame ≡ walk (beginning (control_part H) frame) (spoken_by notes H frame)
    walked [] l f = refl
    walked (e ∷ H) l f = go (walked H l.0) (grown H e l)
      where
        Goal : History → Type 0
        Goal h = front h f ≡ walk (beginning h f) (spoken_by notes (e ∷ H) f)

        quietly : ((front : Front) → moved front e.request.act ≡ front) →
            front (control_part H) f ≡ walk (beginning (control_part H) f) (spoken_by notes H f) → Goal (control_part H)
        quietly m before = elim (same_or_not (frame_in H e.request.strand) f) [
          | inl q ↦ before ∙ sym (m (walk (beginning (control_part H) f) (spoken_by notes H f))) ∙ sym (ap (walk (beginning (control_part H) f)) (spoken_here notes e H f q))
          | inr q ↦ before ∙ sym (ap (walk (beginning (control_part H) f)) (spoken_elsewhere notes e H f q))
        ]

        moving : (ev : Event) → strand_of ev ≡ e.request.strand → act_in ev ≡ e.request.act →
            ((g : ℕ) → front (control_part H) g ≡ walk (beginning (control_part H) g) (spoken_by notes H g)) → Later (control_part H) ev f → Goal (ev ∷ control_part H)
        moving ev sq aq before (opens q o) =
            let t = frame_below (legal_part shape H l.0) e.request.strand (inl l.1.runs) in
            let ne : frame_in H e.request.strand ≢ f = λ r. absurd (omega (arith, t, r, q)) in
            o ∙ sym (ap (walk (beginning (ev ∷ control_part H) f)) (spoken_elsewhere notes e H f ne ∙ spoken_before H l.0 f (omega (arith, q))))
        moving ev sq aq before (moves_on m b) = elim (same_or_not f (frame_at (control_part H) (strand_of ev))) [
          | inl q ↦
              (let is : frame_in H e.request.strand ≡ f = ap (frame_at (control_part H)) (sym sq) ∙ sym q in
              m ∙ updated_at (front (control_part H)) (frame_at (control_part H) (strand_of ev)) _ f q
              ∙ ap (λ z. moved z (act_in ev)) (ap (front (control_part H)) (sym q) ∙ before f)
              ∙ ap (moved (walk (beginning (control_part H) f) (spoken_by notes H f))) aq
              ∙ ap (λ b. walk b (spoken_of notes (next_frame H) e ∷ spoken_by notes H f)) (sym b)
              ∙ sym (ap (walk (beginning (ev ∷ control_part H) f)) (spoken_here notes e H f is)))
          | inr q ↦
              (let ne : frame_in H e.request.strand ≢ f = λ r. q (sym r ∙ ap (frame_at (control_part H)) (sym sq)) in
              m ∙ updated_off (front (control_part H)) (frame_at (control_part H) (strand_of ev)) _ f q ∙ before f
              ∙ ap (λ b. walk b (spoken_by notes H f)) (sym b)
              ∙ sym (ap (walk (beginning (ev ∷ control_part H) f)) (spoken_elsewhere notes e H f ne)))
        ]

        go : ((g : ℕ) → front (control_part H) g ≡ walk (beginning (control_part H) g) (spoken_by notes H g)) → Grown H e → Goal (control_part (e ∷ H))
        go before (quiet q m) = subst Goal (sym q) (quietly m (before f))
        go before (grows ev q sq aq al) = subst Goal (sym q) (moving ev sq aq before (later (control_part H) ev f))

    -- a deed is done at its strand's address
    pub placed : (H : Entries) (e : Entry) → IsLegal shape (e ∷ H) → occurrence_address (occurrence_of notes H e) ≡ address (control_part H) e.request.strand
    placed H e l =
        ap (λ z. z.here) (sym (walked H l.0 (frame_in H e.request.strand)) ∙ (fronts (legal_part shape H l.0)).at e.request.strand (inl l.1.runs))

    pub place_begun : (H : Entries) → IsLegal shape H → (x : Occurrence Note) → Member (trace notes H) x →
        (n : ℕ) × Begun (control_part H) n × (address (control_part H) n ≡ occurrence_address x)
    place_begun [] l x m = absurd m
    place_begun (e ∷ H) l x (inl q) =
        let t = begun_on H e l e.request.strand (inl l.1.runs) in
        (e.request.strand, t.0, t.1 ∙ sym (placed H e l) ∙ sym (ap occurrence_address q))
    place_begun (e ∷ H) l x (inr m) =
        let p = place_begun H l.0 x m in
        let t = begun_on H e l p.0 p.1 in
        (p.0, t.0, t.1 ∙ p.2)

    -- frames that have begun stay where they began
    pub frame_on : (H : Entries) (e : Entry) → IsLegal shape (e ∷ H) → (frame : ℕ) → IsBegun (control_part H) frame →
        IsBegun (control_part (e ∷ H)) frame × (beginning (control_part (e ∷ H)) frame ≡ beginning (control_part H) frame)
    frame_on H e l f b = go (grown H e l)
      where
        go : Grown H e → IsBegun (control_part (e ∷ H)) f × (beginning (control_part (e ∷ H)) f ≡ beginning (control_part H) f)
        go (quiet q m) = (subst (λ h. IsBegun h f) (sym q) b, ap (λ h. beginning h f) q)
        go (grows ev q sq aq al) = (
          subst (λ h. IsBegun h f) (sym q) (begun_more (control_part H) ev f b),
          ap (λ h. beginning h f) q ∙ beginning_stays (control_part H) ev f (begun_frame_below (control_part H) f b),
        )

    pub spoken_longer : (e : Entry) (H : Entries) (f : ℕ) (zs : List (Spoken Note)) → IsLaterOf zs (spoken_by notes H f) → IsLaterOf zs (spoken_by notes (e ∷ H) f)
    spoken_longer e H f zs m = elim (same_or_not (frame_in H e.request.strand) f) [
      | inl q ↦ subst (IsLaterOf zs) (sym (spoken_here notes e H f q)) (inr m)
      | inr q ↦ subst (IsLaterOf zs) (sym (spoken_elsewhere notes e H f q)) m
    ]

    -- the frame that did a deed
    pub record DoneBy (H : Entries) (x : Occurrence Note) : Type 0 where
      pub frame : ℕ
      pub begun : IsBegun (control_part H) frame
      pub begins : beginning (control_part H) frame ≡ x.begin
      pub done : IsLaterOf (x.newest ∷ x.earlier) (spoken_by notes H frame)

    pub done_by : (H : Entries) → IsLegal shape H → (x : Occurrence Note) → Member (trace notes H) x → DoneBy H x
    done_by [] l x m = absurd m
    done_by (e ∷ H) l x (inl q) =
        let f = frame_in H e.request.strand in
        let b = active_begun (legal_part shape H l.0) e.request.strand (inl l.1.runs) in
        let t = frame_on H e l f b in
        let now : IsLaterOf (spoken_of notes (next_frame H) e ∷ spoken_by notes H f) (spoken_by notes (e ∷ H) f) =
        subst (IsLaterOf (spoken_of notes (next_frame H) e ∷ spoken_by notes H f)) (sym (spoken_here notes e H f refl)) (inl refl) in
        subst (DoneBy (e ∷ H)) (sym q) (record { frame = f; begun = t.0; begins = t.1; done = now })
    done_by (e ∷ H) l x (inr m) =
        let p = done_by H l.0 x m in
        let t = frame_on H e l p.frame p.begun in
        record { frame = p.frame; begun = t.0; begins = t.1 ∙ p.begins; done = spoken_longer e H p.frame (x.newest ∷ x.earlier) p.done }

    abbrev item : Address → Spoken Note → List (Spoken Note) → Occurrence Note
    item begin newest earlier = record { begin = begin; newest = newest; earlier = earlier }

    item_same : (a b : Address) (x y : Spoken Note) (xs ys : List (Spoken Note)) → a ≡ b → x ∷ xs ≡ y ∷ ys → item a x xs ≡ item b y ys
    item_same a b x y xs ys e f = let p : x ≡ y = cc in let q : xs ≡ ys = cc in λ i. record { begin = e i; newest = p i; earlier = q i }

    -- a frame has begun now or before
    pub frame_cases : (H : Entries) (e : Entry) → IsLegal shape (e ∷ H) → (frame : ℕ) → IsBegun (control_part (e ∷ H)) frame →
        (next_frame H ≤ frame) ⊎ IsBegun (control_part H) frame
    frame_cases H e l f b = go (grown H e l)
      where
        go : Grown H e → (next_frame H ≤ f) ⊎ IsBegun (control_part H) f
        go (quiet q m) = inr (subst (λ h. IsBegun h f) q b)
        go (grows ev q sq aq al) = elim (begun_now (legal_part shape H l.0) al f (subst (λ h. IsBegun h f) q b)) [
          | inl t ↦ (let u = t.0 in inl (omega arith))
          | inr t ↦ inr t
        ]

    -- what a frame did is a deed
    pub deed_of : (H : Entries) → IsLegal shape H → (frame : ℕ) → IsBegun (control_part H) frame → (z : Spoken Note) (zs : List (Spoken Note)) →
        IsLaterOf (z ∷ zs) (spoken_by notes H frame) → Member (trace notes H) (record { begin = beginning (control_part H) frame; newest = z; earlier = zs })
    deed_of [] l f b z zs m = cc
    deed_of (e ∷ H) l f b z zs m = go (λ b'. deed_of H l.0 f b' z zs) (frame_cases H e l f b) (same_or_not (frame_in H e.request.strand) f)
      where
        Goal : Address → Type 0
        Goal a = Member (trace notes (e ∷ H)) (record { begin = a; newest = z; earlier = zs })

        here : frame_in H e.request.strand ≡ f → IsBegun (control_part H) f →
            (IsLaterOf (z ∷ zs) (spoken_by notes H f) → Goal (beginning (control_part (e ∷ H)) f)) →
            IsLaterOf (z ∷ zs) (spoken_of notes (next_frame H) e ∷ spoken_by notes H f) → Goal (beginning (control_part (e ∷ H)) f)
        here q b' older (inl n) =
            inl (item_same _ _ _ _ _ _ ((frame_on H e l f b').1 ∙ ap (beginning (control_part H)) (sym q)) (n ∙ ap (λ g. spoken_of notes (next_frame H) e ∷ spoken_by notes H g) (sym q)))
        here q b' older (inr n) = older n

        on : IsBegun (control_part H) f →
            (IsLaterOf (z ∷ zs) (spoken_by notes H f) → Member (trace notes H) (record { begin = beginning (control_part H) f; newest = z; earlier = zs })) →
            IsLaterOf (z ∷ zs) (spoken_by notes H f) → Goal (beginning (control_part (e ∷ H)) f)
        on b' older n = subst Goal (sym (frame_on H e l f b').1) (inr (older n))

        go : (IsBegun (control_part H) f → IsLaterOf (z ∷ zs) (spoken_by notes H f) →
            Member (trace notes H) (record { begin = beginning (control_part H) f; newest = z; earlier = zs })) →
            (next_frame H ≤ f) ⊎ IsBegun (control_part H) f → (frame_in H e.request.strand ≡ f) ⊎ (frame_in H e.request.strand ≢ f) → Goal (beginning (control_part (e ∷ H)) f)
        go older (inl new) (inl q) = let t = frame_below (legal_part shape H l.0) e.request.strand (inl l.1.runs) in absurd (omega (arith, t, q, new))
        go older (inl new) (inr q) =
            let n : IsLaterOf (z ∷ zs) [] = subst (IsLaterOf (z ∷ zs)) (spoken_elsewhere notes e H f q ∙ spoken_before H l.0 f new) m in
            absurd (cc)
        go older (inr b') (inl q) = here q b' (on b' (older b')) (subst (IsLaterOf (z ∷ zs)) (spoken_here notes e H f q) m)
        go older (inr b') (inr q) = on b' (older b') (subst (IsLaterOf (z ∷ zs)) (spoken_elsewhere notes e H f q) m)

    -- the newest deed of a frame comes behind all others
    pub newest_behind : (H : Entries) (e : Entry) → IsLegal shape (e ∷ H) → (y : Occurrence Note) → Member (trace notes H) y → (occurrence_of notes H e).begin ≡ y.begin →
        length y.earlier < length (occurrence_of notes H e).earlier
    newest_behind H e l y m q =
        let d = done_by H l.0 y m in
        let f = frame_in H e.request.strand in
        let same_frame : d.frame ≡ f =
        beginning_alone (legal_part shape H l.0) d.frame f d.begun (active_begun (legal_part shape H l.0) e.request.strand (inl l.1.runs)) (d.begins ∙ sym q) in
        let t = later_shorter (y.newest ∷ y.earlier) (spoken_by notes H f) (subst (λ g. IsLaterOf (y.newest ∷ y.earlier) (spoken_by notes H g)) same_frame d.done) in
        omega arith

    -- no deed comes behind one that it precedes
    behind : (H : Entries) (e : Entry) → IsLegal shape (e ∷ H) → (y : Occurrence Note) → Member (trace notes H) y → Precedes (occurrence_of notes H e) y → ⊥
    behind H e l y m (inl (r, ne)) =
        let p = place_begun H l.0 y m in
        let a = placed H e l in
        let same_strand = running_reaches (control_part H) (legal_part shape H l.0) e.request.strand p.0 l.1.runs p.1
        (subst (λ z. reaches z (address (control_part H) p.0) ≡ true) a (subst (λ z. reaches (occurrence_address (occurrence_of notes H e)) z ≡ true) (sym p.2) r)) in
        ne (a ∙ ap (address (control_part H)) same_strand ∙ p.2)
    behind H e l y m (inr (q, lt)) = let t = newest_behind H e l y m q in omega (arith, t, lt)

    pub ordered : (H : Entries) → IsLegal shape H → Paired (λ later earlier. Precedes later earlier → ⊥) (trace notes H)
    ordered [] l = tt
    ordered (e ∷ H) l = ((λ y m. behind H e l y m), ordered H l.0)

    pub distinct : (H : Entries) → IsLegal shape H → Paired (λ a b. a ≢ b) (trace notes H)
    distinct [] l = tt
    distinct (e ∷ H) l = ((λ y m q. let t = newest_behind H e l y m (ap (λ z. z.begin) q) in let u = ap (λ (z : Occurrence Note). length z.earlier) q in omega (arith, t, u)), distinct H l.0)

    -- the entry of a deed
    pub record EntryOf (H : Entries) (x : Occurrence Note) : Type 0 where
      pub later : Entries
      pub entry : Entry
      pub before : Entries
      pub whole : H ≡ later ++ entry ∷ before
      pub is : x ≡ occurrence_of notes before entry

    pub entry_of : (H : Entries) (x : Occurrence Note) → Member (trace notes H) x → EntryOf H x
    entry_of [] x m = absurd m
    entry_of (e ∷ H) x (inl q) = record { later = []; entry = e; before = H; whole = refl; is = q }
    entry_of (e ∷ H) x (inr m) =
        let t = entry_of H x m in
        record { later = e ∷ t.later; entry = t.entry; before = t.before; whole = ap (λ hs. e ∷ hs) t.whole; is = t.is }
