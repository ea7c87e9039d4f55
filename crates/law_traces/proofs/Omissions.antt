-- What may be left out of the accesses of a history.
use Rattle.std.proofs.Common.{◌≡◌, ◌≢◌, ◌⊎◌, ◌↔◌, inl, inr, ℕ, Option, Some, refl, sym, ap, ◌∙◌, subst}
use Rattle.model_accesses.specs.declared.kind.Kind.{Kind}
use Rattle.model_accesses.specs.declared.kind.Kind.TheVariants as kinds
use Rattle.model_accesses.specs.declared.request.Request.{Request}
use Rattle.law_addresses.proofs.Extremes.{contains-head, contains-tail, contains-cases}
use Rattle.model_histories.specs.declared.answer.Entry.{Entry}
use Rattle.model_histories.specs.Entries.{Entries, with_event, control_part}
use Rattle.model_histories.specs.Shapes.{Shape}
use Rattle.model_histories.specs.Legal.{IsLegal}
use Rattle.model_races.specs.declared.access.CellAccess.{CellAccess}
use Rattle.model_races.specs.Accesses.{cell_access}
use Rattle.model_races.specs.Judged.{IsJudged}
use Rattle.law_traces.specs.Locations.{access_of, Accesses, HasRefusal, HasRaceAt}
use Rattle.law_traces.specs.Sets.{Covers}
use Rattle.law_traces.specs.Omissions.{LeavesOut, nothing, keeps, omits, IsRepeated, IsReadByWriter, IsOfCell, IsOfOther}
use Rattle.law_traces.specs.Laws.{RepeatedAccessLaw, ReadBesideWriteLaw, OtherLocationsLaw, EqualLocationsLaw, LeftOutLocationLaw}
use Rattle.law_traces.proofs.Histories.{none_in}
use Rattle.law_traces.proofs.Locations.{accesses_same}
use Rattle.law_traces.proofs.Controls.{control_act, access_no_event, same_event}
use Rattle.law_traces.proofs.Sets.{location_here, covers_self, race_covered}

-- one act is one access
pub one_access : {found : Option CellAccess} {kind other_kind : Kind} {cell other : ℕ} → found ≡ Some (access_of kind cell) → found ≡ Some (access_of other_kind other) →
    (kind ≡ other_kind) × (cell ≡ other)
one_access e g = let same = accesses_same (sym e ∙ g) in (ap (λ (z : CellAccess). z.kind) same, ap (λ (z : CellAccess). z.location) same)

module _ (May : Request → Type 0) where
  -- leaving out accesses leaves the dag as it is
  same_control : (shape kept_shape : Shape) → {whole kept : Entries} → LeavesOut May whole kept → IsLegal shape whole → IsLegal kept_shape kept →
      control_part whole ≡ control_part kept
  same_control shape kept_shape nothing l i = refl
  same_control shape kept_shape (keeps {whole = H} {kept = G} {entry = e} {other = f} rest same) l i =
      same_event shape kept_shape H G e f l i (same_control shape kept_shape rest l.0 i.0) (sym same.0) (ap control_act (sym same.1))
  same_control shape kept_shape (omits {whole = H} {kept = G} {entry = e} rest is may) l i =
      ap (λ event. with_event event (control_part H)) (access_no_event e is) ∙ same_control shape kept_shape rest l.0 i

  -- an access is kept, or was one that may be left out
  kept_or_omitted : {whole kept : Entries} → LeavesOut May whole kept → (strand : ℕ) (kind : Kind) (cell : ℕ) → Accesses whole strand kind cell →
      Accesses kept strand kind cell ⊎ ((request : Request) × May request × (request.strand ≡ strand) × (cell_access request.act ≡ Some (access_of kind cell)))
  kept_or_omitted nothing s k c (one, h, at, q) = absurd (none_in one h)
  kept_or_omitted (keeps {whole = H} {kept = G} {entry = e} {other = f} rest same) s k c (one, h, at, q) = elim (contains-cases e one H h) [
    | inl is ↦ inl (
      f,
      contains-head f G,
      sym same.0 ∙ ap (λ (x : Entry). x.request.strand) (sym is) ∙ at,
      ap cell_access (sym same.1) ∙ ap (λ (x : Entry). cell_access x.request.act) (sym is) ∙ q,
    )
    | inr t ↦ elim (kept_or_omitted rest s k c (one, t, at, q)) [
      | inl x ↦ inl (x.0, contains-tail f x.0 G x.1, x.2, x.3)
      | inr x ↦ inr x
    ]
  ]
  kept_or_omitted (omits {whole = H} {kept = G} {entry = e} rest i may) s k c (one, h, at, q) = elim (contains-cases e one H h) [
    | inl is ↦ inr (e.request, may, ap (λ (x : Entry). x.request.strand) (sym is) ∙ at, ap (λ (x : Entry). cell_access x.request.act) (sym is) ∙ q)
    | inr t ↦ kept_or_omitted rest s k c (one, t, at, q)
  ]

  -- what is kept was asked for
  was_asked : {whole kept : Entries} → LeavesOut May whole kept → (strand : ℕ) (kind : Kind) (cell : ℕ) → Accesses kept strand kind cell → Accesses whole strand kind cell
  was_asked nothing s k c x = x
  was_asked (keeps {whole = H} {kept = G} {entry = e} {other = f} rest same) s k c (one, h, at, q) = elim (contains-cases f one G h) [
    | inl is ↦ (
      e,
      contains-head e H,
      same.0 ∙ ap (λ (x : Entry). x.request.strand) (sym is) ∙ at,
      ap cell_access same.1 ∙ ap (λ (x : Entry). cell_access x.request.act) (sym is) ∙ q,
    )
    | inr t ↦ (let x = was_asked rest s k c (one, t, at, q) in (x.0, contains-tail e x.0 H x.1, x.2, x.3))
  ]
  was_asked (omits {whole = H} {kept = G} {entry = e} rest i may) s k c x =
      let y = was_asked rest s k c x in (y.0, contains-tail e y.0 H y.1, y.2, y.3)

  -- where what is left out is covered by what is kept, the verdict stays
  verdict_stays : (shape kept_shape : Shape) (whole kept : Entries) → IsJudged shape whole → IsJudged kept_shape kept → LeavesOut May whole kept → (cell : ℕ) →
      ((request : Request) (kind : Kind) → May request → cell_access request.act ≡ Some (access_of kind cell) →
      (covering : Kind) × Covers covering kind × Accesses kept request.strand covering cell) →
      HasRefusal whole cell ↔ HasRefusal kept cell
  verdict_stays shape kept_shape H G j i leaves c covered = (
    (λ r. (location_here kept_shape G i c).1 (subst (λ dag. HasRaceAt dag G c) part (race_covered (control_part H) H G c c forth ((location_here shape H j c).0 r)))),
    (λ r. (location_here shape H j c).1 (race_covered (control_part H) G H c c back
        (subst (λ dag. HasRaceAt dag G c) (sym part) ((location_here kept_shape G i c).0 r)))),
  )
    where
      part : control_part H ≡ control_part G
      part = same_control shape kept_shape leaves j.legal i.legal

      forth : (strand : ℕ) (kind : Kind) → Accesses H strand kind c → (covering : Kind) × Covers covering kind × Accesses G strand covering c
      forth s k x = elim (kept_or_omitted leaves s k c x) [
        | inl y ↦ (k, covers_self k, y)
        | inr (request, may, at, q) ↦ (
            let t = covered request k may q in
            (t.0, t.1, subst (λ z. Accesses G z t.0 c) at t.2))
      ]

      back : (strand : ℕ) (kind : Kind) → Accesses G strand kind c → (covering : Kind) × Covers covering kind × Accesses H strand covering c
      back s k x = (k, covers_self k, was_asked leaves s k c x)

pub repeated_access_law : RepeatedAccessLaw
repeated_access_law shape kept_shape H G j i leaves c = verdict_stays (IsRepeated G) shape kept_shape H G j i leaves c covered
  where
    covered : (request : Request) (kind : Kind) → IsRepeated G request → cell_access request.act ≡ Some (access_of kind c) →
        (covering : Kind) × Covers covering kind × Accesses G request.strand covering c
    covered request k (m, d, is, x) q =
        let same = one_access is q in
        (k, covers_self k, subst (λ z. Accesses G request.strand z c) same.0 (subst (λ z. Accesses G request.strand m z) same.1 x))

-- a write races with whatever a read races with
write_covers : Covers kinds.Write kinds.Read
write_covers kinds.Write race = refl
write_covers kinds.Bump race = refl
write_covers kinds.Read race = refl
write_covers third race = absurd (cc)

pub read_beside_write_law : ReadBesideWriteLaw
read_beside_write_law shape kept_shape H G j i leaves c = verdict_stays (IsReadByWriter G) shape kept_shape H G j i leaves c covered
  where
    covered : (request : Request) (kind : Kind) → IsReadByWriter G request → cell_access request.act ≡ Some (access_of kind c) →
        (covering : Kind) × Covers covering kind × Accesses G request.strand covering c
    covered request k (d, is, x) q =
        let same = one_access (ap cell_access is) q in
        (kinds.Write, subst (Covers kinds.Write) same.0 write_covers, subst (λ z. Accesses G request.strand kinds.Write z) same.1 x)

pub other_locations_law : OtherLocationsLaw
other_locations_law shape kept_shape H G j i c leaves = verdict_stays (IsOfOther c) shape kept_shape H G j i leaves c (λ request k other q. absurd (other k q))

pub equal_locations_law : EqualLocationsLaw
equal_locations_law shape H j c d same = (
  (λ r. (location_here shape H j d).1 (race_covered (control_part H) H H c d (λ s k x. (k, covers_self k, (same s k).0 x)) ((location_here shape H j c).0 r))),
  (λ r. (location_here shape H j c).1 (race_covered (control_part H) H H d c (λ s k x. (k, covers_self k, (same s k).1 x)) ((location_here shape H j d).0 r))),
)

-- what may be left out may be by a weaker condition
pub leaves_more : (May Might : Request → Type 0) → ((request : Request) → May request → Might request) → {whole kept : Entries} → LeavesOut May whole kept → LeavesOut Might whole kept
leaves_more May Might more nothing = nothing
leaves_more May Might more (keeps rest same) = keeps (leaves_more May Might more rest) same
leaves_more May Might more (omits {entry = e} rest i may) = omits (leaves_more May Might more rest) i (more e.request may)

pub left_out_location_law : LeftOutLocationLaw
left_out_location_law shape kept_shape H G j i c d differ same leaves =
    (((λ r. (stays c differ).0 (first.1 r)), (λ r. first.0 ((stays c differ).1 r))), stays)
  where
    first : HasRefusal H c ↔ HasRefusal H d
    first = equal_locations_law shape H j c d same

    stays : (other : ℕ) → other ≢ d → HasRefusal H other ↔ HasRefusal G other
    stays other differs =
        other_locations_law shape kept_shape H G j i other
        (leaves_more (IsOfCell d) (IsOfOther other) (λ request of_cell k q. differs (one_access q of_cell.1).1) leaves)
