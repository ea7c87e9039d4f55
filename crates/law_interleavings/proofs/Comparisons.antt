-- Which deeds of a history precede one another.
use Rattle.std.proofs.Common.{◌≡◌, ◌≢◌, ◌⊎◌, inl, inr, ℕ, ◌<◌, true, [], ◌∷◌, ◌++◌, length, refl, sym, ap, ◌∙◌, subst, arith}
use Rattle.model_strands.specs.Address.{child, extended}
use Rattle.law_addresses.specs.Address.{reaches}
use Rattle.law_addresses.proofs.Relations.{cases_same}
use Rattle.model_strands.specs.Addresses.{address}
use Rattle.model_histories.specs.declared.answer.Entry.{Entry}
use Rattle.model_histories.specs.Entries.{Entries, control_part}
use Rattle.model_histories.specs.Shapes.{Shape}
use Rattle.model_histories.specs.Legal.{IsLegal}
use Rattle.law_interleavings.proofs.Control.{legal_part}
use Rattle.law_interleavings.specs.Traces.{Notes, spoken_by, beginning, walk, Occurrence, occurrence_address, occurrence_of, trace, Precedes, IsLaterOf}
use Rattle.law_interleavings.proofs.Swaps.{Member}
use Rattle.law_interleavings.proofs.Beginnings.{beginning_alone}
use Rattle.law_interleavings.proofs.Waiting.{running_reaches}
use Rattle.law_interleavings.proofs.Walks.{home, home_child, walk_home, walk_leads, later_self, later_transitive, later_same, later_either}
use Rattle.law_interleavings.proofs.Traces.{placed, place_begun, DoneBy, done_by, newest_behind, ordered}
use Rattle.law_interleavings.proofs.Parts.{Spawner, spawner, root_there}

pub less_more : (a b : ℕ) → (a < b) ⊎ ((b < a) ⊎ (a ≡ b))
less_more a b = grind arith

module _ {Note : Type 0} (shape : Shape) (T : Notes Note) where
  pub home_begin : (H : Entries) → IsLegal shape H → (y : Occurrence Note) → Member (trace T H) y → home y.begin ≡ y.begin
  home_begin H l y m = go (spawner shape T H l d.frame d.begun)
    where
      d : DoneBy shape T H y
      d = done_by shape T H l y m

      go : (d.frame ≡ 0) ⊎ Spawner shape T H d.frame → home y.begin ≡ y.begin
      go (inl z) =
          let e : y.begin ≡ [] = sym d.begins ∙ ap (beginning (control_part H)) z ∙ (root_there shape T H l).1 in
          ap home e ∙ sym e
      go (inr s) =
          let e : y.begin ≡ extended (occurrence_address s.deed) child = sym d.begins ∙ s.begins in
          ap home e ∙ home_child (occurrence_address s.deed) ∙ sym e

  -- deeds at one occurrence_address are of one frame
  pub begins_same : (H : Entries) → IsLegal shape H → (x y : Occurrence Note) → Member (trace T H) x → Member (trace T H) y → occurrence_address x ≡ occurrence_address y → x.begin ≡ y.begin
  begins_same H l x y m n q =
      sym (home_begin H l x m) ∙ sym (walk_home x.begin x.earlier) ∙ ap home q ∙ walk_home y.begin y.earlier ∙ home_begin H l y n

  one_frame : (H : Entries) → (l : IsLegal shape H) → (x y : Occurrence Note) (m : Member (trace T H) x) (n : Member (trace T H) y) → x.begin ≡ y.begin →
      (done_by shape T H l x m).frame ≡ (done_by shape T H l y n).frame
  one_frame H l x y m n q =
      let d = done_by shape T H l x m in
      let c = done_by shape T H l y n in
      beginning_alone (legal_part shape H l) d.frame c.frame d.begun c.begun (d.begins ∙ q ∙ sym c.begins)

  pub within_frame : (H : Entries) → IsLegal shape H → (x y : Occurrence Note) → Member (trace T H) x → Member (trace T H) y → x.begin ≡ y.begin →
      length x.earlier < length y.earlier → IsLaterOf (x.newest ∷ x.earlier) y.earlier
  within_frame H l x y m n q lt =
      let d = done_by shape T H l x m in
      let c = done_by shape T H l y n in
      let said = spoken_by T H c.frame in
      let mine = subst (λ f. IsLaterOf (x.newest ∷ x.earlier) (spoken_by T H f)) (one_frame H l x y m n q) d.done in
      let theirs = later_transitive y.earlier (y.newest ∷ y.earlier) said (inr (later_self y.earlier)) c.done in
      later_either (x.newest ∷ x.earlier) y.earlier said mine theirs (omega arith)

  items_by : (x y : Occurrence Note) → x.begin ≡ y.begin → x.newest ∷ x.earlier ≡ y.newest ∷ y.earlier → x ≡ y
  items_by x y q e =
      let p : x.newest ≡ y.newest = cc in
      let r : x.earlier ≡ y.earlier = cc in
      λ i. record { begin = q i; newest = p i; earlier = r i }

  pub same_item : (H : Entries) → IsLegal shape H → (x y : Occurrence Note) → Member (trace T H) x → Member (trace T H) y → x.begin ≡ y.begin →
      length x.earlier ≡ length y.earlier → x ≡ y
  same_item H l x y m n q e =
      let d = done_by shape T H l x m in
      let c = done_by shape T H l y n in
      let mine = subst (λ f. IsLaterOf (x.newest ∷ x.earlier) (spoken_by T H f)) (one_frame H l x y m n q) d.done in
      items_by x y q (later_same (x.newest ∷ x.earlier) (y.newest ∷ y.earlier) (spoken_by T H c.frame) mine c.done (omega arith))

  pub precedes_leads : (H : Entries) → IsLegal shape H → (x y : Occurrence Note) → Member (trace T H) x → Member (trace T H) y → Precedes x y →
      reaches (occurrence_address x) (occurrence_address y) ≡ true
  precedes_leads H l x y m n (inl p) = p.0
  precedes_leads H l x y m n (inr p) =
      let w = within_frame H l x y m n p.0 p.1 in
      let t = walk_leads x.begin x.earlier y.earlier (later_transitive x.earlier (x.newest ∷ x.earlier) y.earlier (inr (later_self x.earlier)) w) in
      subst (λ a. reaches (occurrence_address x) (walk a y.earlier).here ≡ true) p.0 t

  -- of two deeds one of which reaches the other one precedes the other
  pub order_of : (H : Entries) → IsLegal shape H → (x y : Occurrence Note) → Member (trace T H) x → Member (trace T H) y → x ≢ y →
      reaches (occurrence_address x) (occurrence_address y) ≡ true → Precedes x y ⊎ Precedes y x
  order_of H l x y m n ne r = elim (cases_same (occurrence_address x) (occurrence_address y)) [
    | inr apart ↦ inl (inl (r, apart))
    | inl q ↦
        (let b = begins_same H l x y m n q in
        elim (less_more (length x.earlier) (length y.earlier)) [
          | inl t ↦ inl (inr (b, t))
          | inr t ↦ elim t [ inl u ↦ inr (inr (sym b, u)) | inr u ↦ absurd (ne (same_item H l x y m n b u)) ]
        ])
  ]

  -- what reaches a new deed precedes it
  pub leads_first : (H : Entries) (e : Entry) → IsLegal shape (e ∷ H) → (y : Occurrence Note) → Member (trace T H) y →
      reaches (occurrence_address y) (occurrence_address (occurrence_of T H e)) ≡ true → Precedes y (occurrence_of T H e)
  leads_first H e l y m r = elim (cases_same (occurrence_address y) (occurrence_address (occurrence_of T H e))) [
    | inr apart ↦ inl (r, apart)
    | inl q ↦
        (let b = begins_same (e ∷ H) l y (occurrence_of T H e) (inr m) (inl refl) q in
        inr (b, newest_behind shape T H e l y m (sym b)))
  ]

  -- a new deed reaches earlier ones at its own occurrence_address alone
  pub must_lead : (H : Entries) (e : Entry) → IsLegal shape (e ∷ H) → (y : Occurrence Note) → Member (trace T H) y →
      reaches (occurrence_address (occurrence_of T H e)) (occurrence_address y) ≡ true → occurrence_address (occurrence_of T H e) ≡ occurrence_address y
  must_lead H e l y m r =
      let p = place_begun shape T H l.0 y m in
      let a = placed shape T H e l in
      let same_strand = running_reaches (control_part H) (legal_part shape H l.0) e.request.strand p.0 l.1.runs p.1
      (subst (λ z. reaches z (address (control_part H) p.0) ≡ true) a (subst (λ z. reaches (occurrence_address (occurrence_of T H e)) z ≡ true) (sym p.2) r)) in
      a ∙ ap (address (control_part H)) same_strand ∙ p.2

  pub irreflexive : (x : Occurrence Note) → Precedes x x → ⊥
  irreflexive x (inl p) = p.1 refl
  irreflexive x (inr p) = let t = p.1 in omega arith

  -- what precedes a deed of the history was done before it
  pub member_before : (later : Entries) (e : Entry) (K : Entries) → IsLegal shape (later ++ e ∷ K) → (x y : Occurrence Note) → x ≡ occurrence_of T K e →
      Member (trace T (later ++ e ∷ K)) y → Precedes y x → Member (trace T K) y
  member_before [] e K l x y q (inl n) p = absurd (irreflexive x (subst (λ z. Precedes z x) (n ∙ sym q) p))
  member_before [] e K l x y q (inr m) p = m
  member_before (d ∷ later) e K l x y q (inr m) p = member_before later e K l.0 x y q m p
  member_before (d ∷ later) e K l x y q (inl n) p =
      absurd ((ordered shape T (d ∷ later ++ e ∷ K) l).0 x (deep later) (subst (λ z. Precedes z x) n p))
    where
      deep : (early : Entries) → Member (trace T (early ++ e ∷ K)) x
      deep [] = inl q
      deep (c ∷ early) = inr (deep early)
