-- What was done at an address, by what its frame did.
use Rattle.std.proofs.Common.{◌≡◌, ◌≢◌, ◌⊎◌, inl, inr, ℕ, ◌≤◌, List, [], ◌∷◌, ◌++◌, refl, sym, ap, ap₂, ◌∙◌, subst, append_assoc, append-nil, arith}
use Rattle.std.specs.Prelude.{if◌then◌else◌}
use Rattle.std.proofs.lemmas.Bool.{cases_Bool}
use Rattle.model_strands.specs.Address.{Address, first_difference, same_at}
use Rattle.law_addresses.specs.Address.{same}
use Rattle.law_addresses.proofs.Relations.{cases_same, same-decides}
use Rattle.model_strands.specs.Addresses.{address}
use Rattle.law_strands.proofs.Updates.{same_or_not}
use Rattle.model_histories.specs.declared.answer.Entry.{Entry}
use Rattle.model_histories.specs.Entries.{Entries, control_part}
use Rattle.model_histories.specs.Shapes.{Shape}
use Rattle.model_histories.specs.Legal.{IsLegal}
use Rattle.law_interleavings.proofs.Control.{legal_part}
use Rattle.model_runs.specs.Frames.{frame_in, next_frame}
use Rattle.law_interleavings.specs.Fronts.{IsBegun}
use Rattle.law_interleavings.specs.Asked.{told_at, Begins}
use Rattle.law_interleavings.specs.Traces.{Notes, Spoken, spoken_of, spoken_by, beginning, walk, occurrence_address, occurrence_of, IsLaterOf}
use Rattle.law_interleavings.proofs.Fronts.{begun_frame_below, frame_below, active_begun}
use Rattle.law_interleavings.proofs.Beginnings.{beginning_alone}
use Rattle.law_interleavings.proofs.Walks.{home, walk_home}
use Rattle.law_interleavings.proofs.Traces.{placed, frame_on, spoken_before, frame_cases}
use Rattle.law_interleavings.proofs.Spoken.{spoken_here, spoken_elsewhere}
use Rattle.law_interleavings.proofs.Parts.{IsPart}
use Rattle.law_interleavings.proofs.Comparisons.{home_begin}

abbrev if_there : {X : Type 0} → Address → Address → X → List X
if_there here occurrence_address done = if same_at (first_difference here occurrence_address) then done ∷ [] else []

-- what is told of what a frame that began there did at a occurrence_address, the oldest first
abbrev pub picked : {Note X : Type 0} → (Spoken Note → X) → Address → Address → List (Spoken Note) → List X
picked tell occurrence_address begin [] = []
picked tell occurrence_address begin (one ∷ before) = picked tell occurrence_address begin before ++ if_there (walk begin before).here occurrence_address (tell one)

pub done_there : {X : Type 0} (here occurrence_address : Address) (done : X) → here ≡ occurrence_address → if_there here occurrence_address done ≡ done ∷ []
done_there a p d q = let e = (same-decides a p).1 q in rw e refl

not_there : {X : Type 0} (here occurrence_address : Address) (done : X) → here ≢ occurrence_address → if_there here occurrence_address done ≡ []
not_there a p d ne = elim (cases_Bool (same a p)) [
  | inl e ↦ absurd (ne ((same-decides a p).0 e))
  | inr e ↦ rw e refl
]

begins_more : {X : Type 0} (xs ys zs : List X) → Begins xs ys → Begins xs (ys ++ zs)
begins_more xs ys zs (r, q) = (r ++ zs, sym (append_assoc xs r zs) ∙ ap (λ l. l ++ zs) q)

pub picked_begins : {Note X : Type 0} (tell : Spoken Note → X) (occurrence_address begin : Address) (zs ws : List (Spoken Note)) → IsLaterOf zs ws →
    Begins (picked tell occurrence_address begin zs) (picked tell occurrence_address begin ws)
picked_begins tell p b zs [] m = subst (λ l. Begins (picked tell p b l) []) (sym m) ([], refl)
picked_begins tell p b zs (w ∷ ws) (inl e) =
    subst (λ l. Begins (picked tell p b l) (picked tell p b (w ∷ ws))) (sym e) ([], append-nil (picked tell p b (w ∷ ws)))
picked_begins tell p b zs (w ∷ ws) (inr m) =
    begins_more (picked tell p b zs) (picked tell p b ws) (if_there (walk b ws).here p (tell w)) (picked_begins tell p b zs ws m)

-- what is told of an entry is what is told of its act, its note and its value
abbrev pub TellsOf : {Note X : Type 0} → Notes Note → (Spoken Note → X) → (Entry → X) → Type 0
TellsOf notes tell told = (begins : ℕ) (entry : Entry) → tell (spoken_of notes begins entry) ≡ told entry

module _ {Note : Type 0} (shape : Shape) (T : Notes Note) where
  -- the frame of the strand that made an entry began at the home of its address
  pub entry_home : (H : Entries) (e : Entry) → IsLegal shape (e ∷ H) →
      home (address (control_part H) e.request.strand) ≡ beginning (control_part H) (frame_in H e.request.strand)
  entry_home H e l =
      let x = occurrence_of T H e in
      ap home (sym (placed shape T H e l)) ∙ walk_home x.begin x.earlier ∙ home_begin shape T (e ∷ H) l x (inl refl)

  module _ {X : Type 0} (tell : Spoken Note → X) (told : Entry → X) (tells : TellsOf T tell told) where
    -- nothing was done at a occurrence_address that no frame has
    none_at : (H : Entries) → IsLegal shape H → (occurrence_address : Address) →
        ((frame : ℕ) → IsBegun (control_part H) frame → home occurrence_address ≡ beginning (control_part H) frame → ⊥) → told_at told H occurrence_address ≡ []
    none_at [] l p without = refl
    none_at (e ∷ H) l p without =
        let s = e.request.strand in
        let begun = active_begun (legal_part shape H l.0) s (inl l.1.runs) in
        let on = frame_on shape T H e l (frame_in H s) begun in
        let apart : address (control_part H) s ≢ p = λ q. without (frame_in H s) on.0 (sym (ap home q) ∙ entry_home H e l ∙ sym on.1) in
        let before = none_at H l.0 p (λ f b q. let t = frame_on shape T H e l f b in without f t.0 (q ∙ sym t.1)) in
        ap₂ (λ a b. a ++ b) before (not_there (address (control_part H) s) p (told e) apart)

    -- what was done at a occurrence_address is what its frame did there
    pub frame_told : (H : Entries) → IsLegal shape H → (frame : ℕ) → IsBegun (control_part H) frame → (occurrence_address : Address) →
        home occurrence_address ≡ beginning (control_part H) frame → told_at told H occurrence_address ≡ picked tell occurrence_address (beginning (control_part H) frame) (spoken_by T H frame)
    frame_told [] l f b p q = refl
    frame_told (e ∷ H) l f b p q = go (λ b'. frame_told H l.0 f b' p) (frame_cases shape T H e l f b) (same_or_not (frame_in H e.request.strand) f)
      where
        s : ℕ
        s = e.request.strand

        begun : IsBegun (control_part H) (frame_in H s)
        begun = active_begun (legal_part shape H l.0) s (inl l.1.runs)

        begin : Address
        begin = beginning (control_part (e ∷ H)) f

        on : IsBegun (control_part (e ∷ H)) (frame_in H s) × (beginning (control_part (e ∷ H)) (frame_in H s) ≡ beginning (control_part H) (frame_in H s))
        on = frame_on shape T H e l (frame_in H s) begun

        apart : frame_in H s ≢ f → address (control_part H) s ≢ p
        apart ne r =
            ne (beginning_alone (legal_part shape (e ∷ H) l) (frame_in H s) f on.0 b (on.1 ∙ sym (entry_home H e l) ∙ ap home r ∙ q))

        off : frame_in H s ≢ f → told_at told (e ∷ H) p ≡ told_at told H p
        off ne = ap (λ z. told_at told H p ++ z) (not_there (address (control_part H) s) p (told e) (apart ne)) ∙ append-nil (told_at told H p)

        Older : Type 0
        Older = home p ≡ beginning (control_part H) f → told_at told H p ≡ picked tell p (beginning (control_part H) f) (spoken_by T H f)

        go : (IsBegun (control_part H) f → Older) → (next_frame H ≤ f) ⊎ IsBegun (control_part H) f →
            (frame_in H s ≡ f) ⊎ (frame_in H s ≢ f) → told_at told (e ∷ H) p ≡ picked tell p begin (spoken_by T (e ∷ H) f)
        go older (inl new) r =
            let t = frame_below (legal_part shape H l.0) s (inl l.1.runs) in
            let ne : frame_in H s ≢ f = λ z. absurd (omega (arith, t, z, new)) in
            let alone : (g : ℕ) → IsBegun (control_part H) g → home p ≡ beginning (control_part H) g → ⊥ =
            λ g bg z.
            let u = frame_on shape T H e l g bg in
            let same_frame = beginning_alone (legal_part shape (e ∷ H) l) g f u.0 b (u.1 ∙ sym z ∙ q) in
            let w = begun_frame_below (control_part H) g bg in
            omega (arith, same_frame, w, new) in
            off ne ∙ none_at H l.0 p alone
            ∙ sym (ap (picked tell p begin) (spoken_elsewhere T e H f ne ∙ spoken_before shape T H l.0 f new))
        go older (inr b') (inr ne) =
            let u = frame_on shape T H e l f b' in
            off ne ∙ older b' (q ∙ u.1) ∙ ap₂ (λ a zs. picked tell p a zs) (sym u.1) (sym (spoken_elsewhere T e H f ne))
        go older (inr b') (inl r) =
            let u = frame_on shape T H e l f b' in
            let here : address (control_part H) s ≡ (walk begin (spoken_by T H f)).here =
            sym (placed shape T H e l) ∙ ap (λ g. (walk (beginning (control_part H) g) (spoken_by T H g)).here) r
            ∙ ap (λ a. (walk a (spoken_by T H f)).here) (sym u.1) in
            ap₂ (λ a z. a ++ if_there z p (told e)) (older b' (q ∙ u.1) ∙ ap (λ a. picked tell p a (spoken_by T H f)) (sym u.1)) here
            ∙ ap (λ x. picked tell p begin (spoken_by T H f) ++ if_there (walk begin (spoken_by T H f)).here p x) (sym (tells (next_frame H) e))
            ∙ sym (ap (picked tell p begin) (spoken_here T e H f r))

    -- a occurrence_address has its frame, or nothing was done there
    frame_of_place : (H : Entries) → IsLegal shape H → (occurrence_address : Address) →
        (told_at told H occurrence_address ≡ []) ⊎ ((frame : ℕ) × IsBegun (control_part H) frame × (home occurrence_address ≡ beginning (control_part H) frame))
    frame_of_place [] l p = inl refl
    frame_of_place (e ∷ H) l p = go (frame_of_place H l.0 p) (cases_same (address (control_part H) e.request.strand) p)
      where
        s : ℕ
        s = e.request.strand

        begun : IsBegun (control_part H) (frame_in H s)
        begun = active_begun (legal_part shape H l.0) s (inl l.1.runs)

        go : (told_at told H p ≡ []) ⊎ ((frame : ℕ) × IsBegun (control_part H) frame × (home p ≡ beginning (control_part H) frame)) →
            (address (control_part H) s ≡ p) ⊎ (address (control_part H) s ≢ p) →
            (told_at told (e ∷ H) p ≡ []) ⊎ ((frame : ℕ) × IsBegun (control_part (e ∷ H)) frame × (home p ≡ beginning (control_part (e ∷ H)) frame))
        go _ (inl q) =
            let on = frame_on shape T H e l (frame_in H s) begun in
            inr (frame_in H s, on.0, sym (ap home q) ∙ entry_home H e l ∙ sym on.1)
        go (inr t) (inr q) = let on = frame_on shape T H e l t.0 t.1 in inr (t.0, on.0, t.2 ∙ sym on.1)
        go (inl n) (inr q) = inl (ap₂ (λ a b. a ++ b) n (not_there (address (control_part H) s) p (told e) q))

-- a part did at each occurrence_address what the whole began with there
pub part_begins : {Note X : Type 0} (shape : Shape) (mine T : Notes Note) (tell : Spoken Note → X) (told : Entry → X) → TellsOf mine tell told →
    TellsOf T tell told → (H R : Entries) → IsLegal shape H → IsLegal shape R → IsPart shape mine T R H → (occurrence_address : Address) →
    Begins (told_at told H occurrence_address) (told_at told R occurrence_address)
part_begins shape mine T tell told my_tells tells H R l r part p = go (frame_of_place shape mine tell told my_tells H l p)
  where
    go : (told_at told H p ≡ []) ⊎ ((frame : ℕ) × IsBegun (control_part H) frame × (home p ≡ beginning (control_part H) frame)) →
        Begins (told_at told H p) (told_at told R p)
    go (inl n) = subst (λ z. Begins z (told_at told R p)) (sym n) (told_at told R p, refl)
    go (inr t) =
        let m = part t.0 t.1 in
        let own = frame_told shape mine tell told my_tells H l t.0 t.1 p t.2 in
        let other = frame_told shape T tell told tells R r m.frame m.begun p (t.2 ∙ m.begins) in
        let pre = picked_begins tell p (beginning (control_part H) t.0) (spoken_by mine H t.0) (spoken_by T R m.frame) m.did in
        subst (λ z. Begins z (told_at told R p)) (sym own)
        (subst (Begins (picked tell p (beginning (control_part H) t.0) (spoken_by mine H t.0)))
        (sym (other ∙ ap (λ a. picked tell p a (spoken_by T R m.frame)) (sym m.begins))) pre)
