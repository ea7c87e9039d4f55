-- The value of a get, by deeds.
-- H: a history; T: its targets; r: a reducer; y, z: items; u: an update with its number; w: a number that is put
use Rattle.std.proofs.Common.{◌≡◌, ◌≢◌, ◌⊎◌, ◌↔◌, inl, inr, ℕ, suc, ◌<◌, true, cond, eqb, List, [], ◌∷◌, length, map, AllPairs, refl, sym, ap, ◌∙◌, subst, subst₂, arith}
use Rattle.std.proofs.lemmas.Bool.Decides.{eqb_tells}
use Rattle.model_strands.specs.Address.{Address}
use Rattle.law_addresses.specs.Address.{english, reaches, english_before}
use Rattle.law_addresses.proofs.Orders.{before-irreflexive, before-transitive}
use Rattle.model_accesses.specs.declared.request.Act.{Act}
use Rattle.model_accesses.specs.declared.request.Act.TheVariants.{Update, Put}
use Rattle.model_strands.specs.Strands.{Running}
use Rattle.model_strands.specs.Dag.{Reaches}
use Rattle.model_strands.specs.Addresses.{address}
use Rattle.model_strands.specs.SerialOrder.{IsSeriallyBefore}
use Rattle.law_strands.proofs.Law.{reach_precedes, precedes_reach}
use Rattle.law_strands.proofs.Orders.{serial_law}
use Rattle.law_strands.proofs.Members.{Present, present_map, map_present, contains_present, pairs_map}
use Rattle.model_reducers.specs.Items.{control_events as items_control}
use Rattle.model_reducers.specs.Steps.{items_of}
use Rattle.model_reducers.specs.Entries.{Entry as NumberedEntry, entry_number, strand_of, entry_value, AreInSerialOrder}
use Rattle.model_reducers.specs.Views.{Reducer, product}
use Rattle.model_reducers.specs.GetValues.{Counts, IsValue}
use Rattle.law_values.proofs.Accesses.{projection_law}
use Rattle.model_histories.specs.declared.answer.Answer.{Answer}
use Rattle.model_histories.specs.declared.answer.Entry.{Entry}
use Rattle.model_histories.specs.Entries.{Entries, control_part}
use Rattle.model_histories.specs.Shapes.{Shape}
use Rattle.model_histories.specs.Legal.{IsLegal}
use Rattle.model_races.specs.Reducers.{steps_of}
use Rattle.law_interleavings.proofs.Control.{legal_part, steps_control}
use Rattle.law_interleavings.specs.Traces.{Notes, Occurrence, occurrence_address, occurrence_of, trace, Precedes}
use Rattle.law_interleavings.proofs.Swaps.{Member}
use Rattle.law_interleavings.proofs.Traces.{ordered, distinct}
use Rattle.law_interleavings.proofs.Spoken.{NoneRefused}
use Rattle.law_interleavings.proofs.Comparisons.{less_more, begins_same, same_item, precedes_leads, order_of}
use Rattle.law_interleavings.proofs.ReducerDeeds.{HasNumber, number_member, one_item, by_number, precedes_number, updating, putting, Deed, deed_of_change, change_of_deed}

-- the serial order of deeds
abbrev pub Serially : {Note : Type 0} → Occurrence Note → Occurrence Note → Type 0
Serially one other = (english_before (occurrence_address one) (occurrence_address other) ≡ true) ⊎ ((occurrence_address one ≡ occurrence_address other) × (length one.earlier < length other.earlier))

not_itself : (a : Address) → english_before a a ≡ true → ⊥
not_itself a e = let f = before-irreflexive english a in cc

pub serially_strict : {Note : Type 0} → (x y : Occurrence Note) → Serially x y → Serially y x → ⊥
serially_strict x y (inl a) (inl b) = not_itself (occurrence_address x) (before-transitive english (occurrence_address x) (occurrence_address y) (occurrence_address x) a b)
serially_strict x y (inl a) (inr b) = not_itself (occurrence_address x) (subst (λ z. english_before (occurrence_address x) z ≡ true) b.0 a)
serially_strict x y (inr a) (inl b) = not_itself (occurrence_address y) (subst (λ z. english_before (occurrence_address y) z ≡ true) a.0 b)
serially_strict x y (inr a) (inr b) = let t = a.1 in let u = b.1 in omega arith

-- the value that an update or a put has
abbrev pub amount : Act → ℕ
amount (Update reducer value) = value
amount (Put reducer value) = value
amount act = 0

abbrev no_entry : Entry
no_entry = record { request = record { strand = 0; act = Act.Sync; line = 0 }; answer = Answer.Same }

map_alike : {X Y Z : Type 0} (f : X → Y) (g : Y → Z) (h : X → Z) (xs : List X) → ((x : X) → Present x xs → h x ≡ g (f x)) → map h xs ≡ map g (map f xs)
map_alike f g h [] e = refl
map_alike {Z = Z} f g h (x ∷ xs) e =
    let first = e x (inl refl) in
    let rest = map_alike f g h xs (λ y p. e y (inr p)) in
    cc

module _ {Note : Type 0} (shape : Shape) (T : Notes Note) where
  abbrev item_no : Entries → ℕ → Occurrence Note
  item_no [] number = occurrence_of T [] no_entry
  item_no (e ∷ H) number = cond (eqb number (suc (length H))) (occurrence_of T H e) (item_no H number)

  item_no_is : (H : Entries) (n : ℕ) (y : Occurrence Note) → HasNumber shape T H n y → item_no H n ≡ y
  item_no_is [] n y h = absurd h
  item_no_is (e ∷ H) n y h = elim (eqb_tells n (suc (length H))) [
    | inl t ↦ rw t.0 (one_item shape T (e ∷ H) n (occurrence_of T H e) y (inl (t.1, refl)) h)
    | inr t ↦ rw t.0 (elim h [ inl k ↦ absurd (t.1 k.0) | inr k ↦ item_no_is H n y k ])
  ]

  -- an update that counts at a get behind the put
  abbrev pub IsCounted : ℕ → Entries → Occurrence Note → Address → Occurrence Note → Type 0
  IsCounted reducer H put own y =
      Member (trace T H) y × ((value : ℕ) × (y.newest.act ≡ Update reducer value)) × Precedes put y × (reaches (occurrence_address y) own ≡ true)

  pub record GetDeeds {View : Type 0} (reducer : Reducer View) (number : ℕ) (H : Entries) (own : Address) (view : View) : Type 0 where
    pub put : Occurrence Note
    pub put_done : Member (trace T H) put
    pub put_value : ℕ
    pub put_act : put.newest.act ≡ Put number put_value
    pub last : (z : Occurrence Note) → Member (trace T H) z → (w : ℕ) → z.newest.act ≡ Put number w → (z ≡ put) ⊎ ((z ≢ put) × (Precedes put z → ⊥))
    pub counted : List (Occurrence Note)
    pub sorted : AllPairs Serially counted
    pub members : (y : Occurrence Note) → Present y counted ↔ IsCounted number H put own y
    pub view_is : view ≡ reducer.combine (reducer.of_put put_value) (product reducer (map (λ y. reducer.of_update (amount y.newest.act)) counted))

  -- of deeds at one occurrence_address the earlier has done less
  earlier_less : (H : Entries) → IsLegal shape H → (n m : ℕ) (y z : Occurrence Note) → HasNumber shape T H n y → HasNumber shape T H m z → n < m → occurrence_address y ≡ occurrence_address z →
      length y.earlier < length z.earlier
  earlier_less H l n m y z h k lt q =
      let my = number_member shape T H n y h in
      let mz = number_member shape T H m z k in
      let b = begins_same shape T H l y z my mz q in
      elim (less_more (length y.earlier) (length z.earlier)) [
        | inl t ↦ t
        | inr t ↦ elim t [
          | inl u ↦ absurd (by_number shape T (λ later earlier. Precedes later earlier → ⊥) H (ordered shape T H l) n m y z h k lt (inr (sym b, u)))
          | inr u ↦ absurd (by_number shape T (λ a c. a ≢ c) H (distinct shape T H l) n m y z h k lt (sym (same_item shape T H l y z my mz b u)))
        ]
      ]

  module _ {View : Type 0} (reducer : Reducer View) (r : ℕ) (H : Entries) (l : IsLegal shape H) (c : NoneRefused H) (s : ℕ) (runs : Running (control_part H) s)
      (view : View) (is : IsValue reducer (items_of r (steps_of H)) s view) where
    same_control : items_control (items_of r (steps_of H)) ≡ control_part H
    same_control = (projection_law r (steps_of H)).0 ∙ steps_control H

    p : Deed shape T putting r H is.put
    p = deed_of_change shape T putting r H l c is.put is.last.0

    p_done : Member (trace T H) p.deed
    p_done = number_member shape T H (entry_number is.put) p.deed p.numbered

    abbrev the_item : NumberedEntry → Occurrence Note
    the_item u = item_no H (entry_number u)

    counts_of : (u : NumberedEntry) → Present u is.counted → Counts (items_of r (steps_of H)) is.put s u
    counts_of u m = (is.counts.1 u).0 ((contains_present u is.counted).1 m)

    deed_is : (u : NumberedEntry) → Present u is.counted → Deed shape T updating r H u
    deed_is u m = deed_of_change shape T updating r H l c u (counts_of u m).0

    deed_at : (u : NumberedEntry) (m : Present u is.counted) → item_no H (entry_number u) ≡ (deed_is u m).deed
    deed_at u m = item_no_is H (entry_number u) (deed_is u m).deed (deed_is u m).numbered

    in_order : (u v : NumberedEntry) → (m : Present u is.counted) → (n : Present v is.counted) → AreInSerialOrder (items_control (items_of r (steps_of H))) u v →
        Serially (item_no H (entry_number u)) (item_no H (entry_number v))
    in_order u v m n o = subst₂ Serially (sym (deed_at u m)) (sym (deed_at v n)) (go o)
      where
        d : Deed shape T updating r H u
        d = deed_is u m

        e : Deed shape T updating r H v
        e = deed_is v n

        go : AreInSerialOrder (items_control (items_of r (steps_of H))) u v → Serially d.deed e.deed
        go (inl k) =
            let t = (serial_law (control_part H) (legal_part shape H l) (strand_of u) (strand_of v) d.begun e.begun).0
            (subst (λ h. IsSeriallyBefore h (strand_of u) (strand_of v)) same_control k) in
            inl (subst₂ (λ a b. english_before a b ≡ true) (sym d.at) (sym e.at) t)
        go (inr k) =
            let q = d.at ∙ ap (address (control_part H)) k.0 ∙ sym e.at in
            inr (q, earlier_less H l (entry_number u) (entry_number v) d.deed e.deed d.numbered e.numbered k.1 q)

    put_not_update : (y : Occurrence Note) (v : ℕ) → y.newest.act ≡ Update r v → p.deed ≢ y
    put_not_update y v q e = let k : Put r (entry_value is.put) ≡ Update r v = sym p.act ∙ ap (λ z. z.newest.act) e ∙ q in cc

    counted_to : (u : NumberedEntry) → (m : Present u is.counted) → IsCounted r H p.deed (address (control_part H) s) (deed_is u m).deed
    counted_to u m =
        let d = deed_is u m in
        let k = counts_of u m in
        let h = control_part H in
        let lh = legal_part shape H l in
        let done = number_member shape T H (entry_number u) d.deed d.numbered in
        let from_put = reach_precedes h lh (strand_of is.put) (strand_of u) (subst (λ z. Reaches z (strand_of is.put) (strand_of u)) same_control k.2) in
        let to_own = reach_precedes h lh (strand_of u) s (subst (λ z. Reaches z (strand_of u) s) same_control k.3) in
        let leads : reaches (occurrence_address p.deed) (occurrence_address d.deed) ≡ true = subst₂ (λ a b. reaches a b ≡ true) (sym p.at) (sym d.at) from_put in
        let first : Precedes p.deed d.deed =
        elim (order_of shape T H l p.deed d.deed p_done done (put_not_update d.deed (entry_value u) d.act) leads) [
          | inl t ↦ t
          | inr t ↦ absurd (let lt = precedes_number shape T H l (entry_number u) (entry_number is.put) d.deed p.deed d.numbered p.numbered t in let gt = k.1 in omega arith)
        ] in
        (done, (entry_value u, d.act), first, subst (λ a. reaches a (address h s) ≡ true) (sym d.at) to_own)

    members_to : (y : Occurrence Note) → Present y (map the_item is.counted) → IsCounted r H p.deed (address (control_part H) s) y
    members_to y m =
        let t = present_map the_item y is.counted m in
        subst (IsCounted r H p.deed (address (control_part H) s)) (sym (deed_at t.0 t.1) ∙ t.2) (counted_to t.0 t.1)

    members_from : (y : Occurrence Note) → IsCounted r H p.deed (address (control_part H) s) y → Present y (map the_item is.counted)
    members_from y m =
        let d = change_of_deed shape T updating r m.1.0 H l c y m.0 m.1.1 in
        let h = control_part H in
        let lh = legal_part shape H l in
        let lt = precedes_number shape T H l (entry_number is.put) (entry_number d.entry) p.deed y p.numbered d.numbered m.2 in
        let leads = precedes_leads shape T H l p.deed y p_done m.0 m.2 in
        let from_put = precedes_reach h lh (strand_of is.put) (strand_of d.entry) p.begun d.begun
        (subst₂ (λ a b. reaches a b ≡ true) p.at (sym d.at) leads) in
        let to_own = precedes_reach h lh (strand_of d.entry) s d.begun (inl runs) (subst (λ a. reaches a (address h s) ≡ true) (sym d.at) m.3) in
        let counts : Counts (items_of r (steps_of H)) is.put s d.entry = (
          d.has,
          lt,
          subst (λ z. Reaches z (strand_of is.put) (strand_of d.entry)) (sym same_control) from_put,
          subst (λ z. Reaches z (strand_of d.entry) s) (sym same_control) to_own,
        ) in
        let listed = (contains_present d.entry is.counted).0 ((is.counts.1 d.entry).1 counts) in
        subst (λ z. Present z (map the_item is.counted)) (item_no_is H (entry_number d.entry) y d.numbered) (map_present the_item d.entry is.counted listed)

    last_of : (z : Occurrence Note) → Member (trace T H) z → (w : ℕ) → z.newest.act ≡ Put r w → (z ≡ p.deed) ⊎ ((z ≢ p.deed) × (Precedes p.deed z → ⊥))
    last_of z m w q =
        let d = change_of_deed shape T putting r w H l c z m q in
        let le = is.last.1 d.entry d.has in
        elim (less_more (entry_number d.entry) (entry_number is.put)) [
          | inl lt ↦ inr (
            (λ e. by_number shape T (λ a b. a ≢ b) H (distinct shape T H l) (entry_number d.entry) (entry_number is.put) z p.deed d.numbered p.numbered lt (sym e)),
            by_number shape T (λ later earlier. Precedes later earlier → ⊥) H (ordered shape T H l) (entry_number d.entry) (entry_number is.put) z p.deed d.numbered p.numbered lt,
          )
          | inr t ↦ elim t [
            | inl gt ↦ absurd (omega (arith, le, gt))
            | inr e ↦ inl (one_item shape T H (entry_number is.put) z p.deed (subst (λ k. HasNumber shape T H k z) e d.numbered) p.numbered)
          ]
        ]

    pub get_deeds : GetDeeds reducer r H (address (control_part H) s) view
    get_deeds =
        record {
          put = p.deed;
          put_done = p_done;
          put_value = entry_value is.put;
          put_act = p.act;
          last = last_of;
          counted = map the_item is.counted;
          sorted = pairs_map (AreInSerialOrder (items_control (items_of r (steps_of H)))) Serially the_item is.counted (λ u v m n o. in_order u v m n o) is.counts.0;
          members = λ y. (members_to y, members_from y);
          view_is = is.combined ∙ ap (λ zs. reducer.combine (reducer.of_put (entry_value is.put)) (product reducer zs))
              (map_alike the_item (λ y. reducer.of_update (amount y.newest.act)) (λ u. reducer.of_update (entry_value u)) is.counted
              (λ u m. ap (λ v. reducer.of_update v) (sym (ap amount (ap (λ z. z.newest.act) (deed_at u m) ∙ (deed_is u m).act)))));
        }
