-- A spawn of a function in which nothing is accessed may be left out.
use Rattle.std.proofs.Common.{◌≡◌, inl, inr, ℕ, true, Some, None, [], ◌∷◌, Contains, refl, sym, ap, ◌∙◌, subst, subst₂}
use Rattle.model_accesses.specs.declared.kind.Kind.{Kind}
use Rattle.model_accesses.specs.declared.request.Act.{Act}
use Rattle.model_accesses.specs.declared.request.Act.TheVariants as act
use Rattle.model_accesses.specs.Asking.{access_asked}
use Rattle.model_strands.specs.Address.{Address}
use Rattle.model_strands.specs.History.{History}
use Rattle.model_strands.specs.Strands.{Begun}
use Rattle.model_strands.specs.Legal.{Legal}
use Rattle.model_strands.specs.Addresses.{address}
use Rattle.law_addresses.specs.Address.{parallel}
use Rattle.law_addresses.proofs.Extremes.{contains-head, contains-tail, contains-cases}
use Rattle.law_strands.proofs.Branches.{stability_law}
use Rattle.law_strands.proofs.Orders.{parallel_iff}
use Rattle.model_histories.specs.declared.answer.Entry.{Entry}
use Rattle.model_histories.specs.Entries.{Entries, control_part}
use Rattle.model_histories.specs.Shapes.{Shape}
use Rattle.model_histories.specs.Legal.{IsLegal}
use Rattle.model_races.specs.Accesses.{cell_access}
use Rattle.law_traces.specs.Locations.{access_of, Accesses}
use Rattle.law_traces.specs.Sets.{AccessesAt, Covers}
use Rattle.law_traces.specs.Spawns.{renamed, GoesThrough, IsSpawned, LeavesOutSpawn, nothing, keeps, omits}
use Rattle.law_traces.specs.Laws.{RemainingLaw, EmptySpawnLaw}
use Rattle.law_traces.proofs.Histories.{none_in, legal_part, extends_all, begun_by}
use Rattle.law_traces.proofs.Sets.{accessing_begun, covers_self, race_carried, set_law}
use Rattle.law_traces.proofs.Renamings.{AreTold, parallel_renamed}
use Rattle.law_traces.proofs.Behind.{none_beyond}

-- two addresses of begun strands that are not the spawned function's
told : (history : History) → Legal history → (spawner : Address) (blocks : ℕ) → GoesThrough history spawner blocks → (strand other : ℕ) →
    Begun history strand → Begun history other → (IsSpawned spawner (address history strand) → ⊥) → (IsSpawned spawner (address history other) → ⊥) →
    AreTold spawner blocks (address history strand) (address history other)
told h l spawner blocks through s u bs bu not_s not_u = record {
  first = not_s;
  second = not_u;
  first_joined = λ p beyond. none_beyond l spawner blocks through s u bs bu p beyond;
  second_joined = λ p beyond. none_beyond l spawner blocks through u s bu bs p beyond;
}

pub remaining_law : RemainingLaw
remaining_law h g lh lg spawner blocks through s u bs bu not_s not_u s' u' bs' bu' at_s at_u =
    let same : parallel (address g s') (address g u') ≡ parallel (address h s) (address h u) =
    subst₂ (λ v w. parallel v w ≡ parallel (address h s) (address h u)) (sym at_s) (sym at_u)
    (parallel_renamed spawner blocks (address h s) (address h u) (told h lh spawner blocks through s u bs bu not_s not_u)) in (
      (λ p. (parallel_iff g lg s' u' bs' bu').1 (same ∙ (parallel_iff h lh s u bs bu).0 p)),
      (λ p. (parallel_iff h lh s u bs bu).1 (sym same ∙ (parallel_iff g lg s' u' bs' bu').0 p)),
    )

-- an act that is no access of anything is none of a cell
no_access : (asked : Act) {kind : Kind} {cell : ℕ} → access_asked asked ≡ None → cell_access asked ≡ Some (access_of kind cell) → ⊥
no_access (act.Read l) n q = cc
no_access (act.Write l v) n q = cc
no_access (act.Bump l v) n q = cc
no_access (act.Update l v) n q = cc
no_access (act.Put l v) n q = cc
no_access (act.Get l) n q = cc
no_access act.Spawn n q = cc
no_access act.Sync n q = cc
no_access act.Call n q = cc
no_access act.Return n q = cc

-- an address stays as a history goes on
module _ (shape : Shape) (entry : Entry) (entries : Entries) (legal : IsLegal shape (entry ∷ entries)) where
  stays : (one : Entry) → Contains entries one → address (control_part (entry ∷ entries)) one.request.strand ≡ address (control_part entries) one.request.strand
  stays one h = (stability_law (control_part entries) (control_part (entry ∷ entries)) (extends_all (entry ∷ []) entries)
      (legal_part shape (entry ∷ entries) legal) one.request.strand (begun_by shape entries legal.0 one h)).0.same_address

  stays_here : address (control_part (entry ∷ entries)) entry.request.strand ≡ address (control_part entries) entry.request.strand
  stays_here = (stability_law (control_part entries) (control_part (entry ∷ entries)) (extends_all (entry ∷ []) entries)
      (legal_part shape (entry ∷ entries) legal) entry.request.strand (inl legal.1.runs)).0.same_address

module _ (shape kept_shape : Shape) (spawner : Address) (blocks : ℕ) where
  -- an access of the whole history is one of the other, at the address without the spawn
  record IsKept (whole kept : Entries) (strand : ℕ) (kind : Kind) (cell : ℕ) : Type 0 where
    its_strand : ℕ
    its_address : address (control_part kept) its_strand ≡ renamed spawner blocks (address (control_part whole) strand)
    accesses : Accesses kept its_strand kind cell

  access_kept : {whole kept : Entries} → LeavesOutSpawn spawner blocks whole kept → IsLegal shape whole → IsLegal kept_shape kept → (strand : ℕ) (kind : Kind) (cell : ℕ) →
      Accesses whole strand kind cell → IsKept whole kept strand kind cell
  access_kept nothing l i s k c (one, h, at, q) = absurd (none_in one h)
  access_kept (keeps {whole = H} {kept = G} {entry = e} {other = f} rest acts places) l i s k c (one, h, at, q) = elim (contains-cases e one H h) [
    | inl is ↦ record {
      its_strand = f.request.strand;
      its_address = stays_here kept_shape f G i ∙ places ∙ ap (renamed spawner blocks)
          (sym (stays_here shape e H l) ∙ ap (address (control_part (e ∷ H))) (ap (λ (x : Entry). x.request.strand) (sym is) ∙ at));
      accesses = (f, contains-head f G, refl, ap cell_access (sym acts) ∙ ap (λ (x : Entry). cell_access x.request.act) (sym is) ∙ q);
    }
    | inr t ↦ (
        let d = access_kept rest l.0 i.0 s k c (one, t, at, q) in
        let x = d.accesses in
        record {
          its_strand = d.its_strand;
          its_address = subst (λ z. address (control_part (f ∷ G)) z ≡ address (control_part G) z) x.2 (stays kept_shape f G i x.0 x.1) ∙ d.its_address ∙
              ap (renamed spawner blocks) (sym (subst (λ z. address (control_part (e ∷ H)) z ≡ address (control_part H) z) at (stays shape e H l one t)));
          accesses = (x.0, contains-tail f x.0 G x.1, x.2, x.3);
        })
  ]
  access_kept (omits {whole = H} {kept = G} {entry = e} rest none) l i s k c (one, h, at, q) = elim (contains-cases e one H h) [
    | inl is ↦ absurd (no_access e.request.act none (ap (λ (x : Entry). cell_access x.request.act) (sym is) ∙ q))
    | inr t ↦ (
        let d = access_kept rest l.0 i s k c (one, t, at, q) in
        record {
          its_strand = d.its_strand;
          its_address = d.its_address ∙ ap (renamed spawner blocks)
              (sym (subst (λ z. address (control_part (e ∷ H)) z ≡ address (control_part H) z) at (stays shape e H l one t)));
          accesses = d.accesses;
        })
  ]

  -- and the other way round
  record WasAsked (whole kept : Entries) (strand : ℕ) (kind : Kind) (cell : ℕ) : Type 0 where
    its_strand : ℕ
    its_address : address (control_part kept) strand ≡ renamed spawner blocks (address (control_part whole) its_strand)
    accesses : Accesses whole its_strand kind cell

  access_asked_before : {whole kept : Entries} → LeavesOutSpawn spawner blocks whole kept → IsLegal shape whole → IsLegal kept_shape kept → (strand : ℕ) (kind : Kind) (cell : ℕ) →
      Accesses kept strand kind cell → WasAsked whole kept strand kind cell
  access_asked_before nothing l i s k c (one, h, at, q) = absurd (none_in one h)
  access_asked_before (keeps {whole = H} {kept = G} {entry = e} {other = f} rest acts places) l i s k c (one, h, at, q) = elim (contains-cases f one G h) [
    | inl is ↦ record {
      its_strand = e.request.strand;
      its_address = ap (address (control_part (f ∷ G))) (sym at ∙ ap (λ (x : Entry). x.request.strand) is) ∙ stays_here kept_shape f G i ∙ places ∙
          ap (renamed spawner blocks) (sym (stays_here shape e H l));
      accesses = (e, contains-head e H, refl, ap cell_access acts ∙ ap (λ (x : Entry). cell_access x.request.act) (sym is) ∙ q);
    }
    | inr t ↦ (
        let d = access_asked_before rest l.0 i.0 s k c (one, t, at, q) in
        let x = d.accesses in
        record {
          its_strand = d.its_strand;
          its_address = subst (λ z. address (control_part (f ∷ G)) z ≡ address (control_part G) z) at (stays kept_shape f G i one t) ∙ d.its_address ∙
              ap (renamed spawner blocks) (sym (subst (λ z. address (control_part (e ∷ H)) z ≡ address (control_part H) z) x.2 (stays shape e H l x.0 x.1)));
          accesses = (x.0, contains-tail e x.0 H x.1, x.2, x.3);
        })
  ]
  access_asked_before (omits {whole = H} {kept = G} {entry = e} rest none) l i s k c y =
      let d = access_asked_before rest l.0 i s k c y in
      let x = d.accesses in
      record {
        its_strand = d.its_strand;
        its_address = d.its_address ∙ ap (renamed spawner blocks)
            (sym (subst (λ z. address (control_part (e ∷ H)) z ≡ address (control_part H) z) x.2 (stays shape e H l x.0 x.1)));
        accesses = (x.0, contains-tail e x.0 H x.1, x.2, x.3);
      }

-- an address of a begun strand that is not the spawned function's, and the one without the spawn
record Carried (history : History) (spawner : Address) (blocks : ℕ) (at to : Address) : Type 0 where
  strand : ℕ
  begun : Begun history strand
  its_address : address history strand ≡ at
  not_spawned : IsSpawned spawner at → ⊥
  renames : to ≡ renamed spawner blocks at

carried_parallel : (history : History) → Legal history → (spawner : Address) (blocks : ℕ) → GoesThrough history spawner blocks → (a b to other_to : Address) →
    Carried history spawner blocks a to → Carried history spawner blocks b other_to → parallel to other_to ≡ parallel a b
carried_parallel h l spawner blocks through a b a' b' x y =
    let told_there : AreTold spawner blocks (address h x.strand) (address h y.strand) =
    told h l spawner blocks through x.strand y.strand x.begun y.begun (subst (λ z. IsSpawned spawner z → ⊥) (sym x.its_address) x.not_spawned)
    (subst (λ z. IsSpawned spawner z → ⊥) (sym y.its_address) y.not_spawned) in
    let told_here : AreTold spawner blocks a b = subst₂ (AreTold spawner blocks) x.its_address y.its_address told_there in
    subst₂ (λ v w. parallel v w ≡ parallel a b) (sym x.renames) (sym y.renames) (parallel_renamed spawner blocks a b told_here)

pub empty_spawn_law : EmptySpawnLaw
empty_spawn_law shape kept_shape H G j i spawner blocks empty through leaves c = (
  (λ r. (set_law kept_shape G i c).1 (race_carried H G c c (Carried (control_part H) spawner blocks) forth keeps_parallel ((set_law shape H j c).0 r))),
  (λ r. (set_law shape H j c).1 (race_carried G H c c (λ at to. Carried (control_part H) spawner blocks to at) back brings_parallel ((set_law kept_shape G i c).0 r))),
)
  where
    legal : Legal (control_part H)
    legal = legal_part shape H j.legal

    forth : (at : Address) (kind : Kind) → AccessesAt H at kind c →
        (to : Address) × (covering : Kind) × Carried (control_part H) spawner blocks at to × Covers covering kind × AccessesAt G to covering c
    forth a k (s, at, x) =
        let d = access_kept shape kept_shape spawner blocks leaves j.legal i.legal s k c x in
        let carried : Carried (control_part H) spawner blocks a (renamed spawner blocks a) = record {
          strand = s;
          begun = accessing_begun shape H j.legal s k c x;
          its_address = at;
          not_spawned = empty a k c (s, at, x);
          renames = refl;
        } in
        (renamed spawner blocks a, k, carried, covers_self k, (d.its_strand, d.its_address ∙ ap (renamed spawner blocks) at, d.accesses))

    back : (at : Address) (kind : Kind) → AccessesAt G at kind c →
        (to : Address) × (covering : Kind) × Carried (control_part H) spawner blocks to at × Covers covering kind × AccessesAt H to covering c
    back a k (s, at, x) =
        let d = access_asked_before shape kept_shape spawner blocks leaves j.legal i.legal s k c x in
        let there = address (control_part H) d.its_strand in
        let carried : Carried (control_part H) spawner blocks there a = record {
          strand = d.its_strand;
          begun = accessing_begun shape H j.legal d.its_strand k c d.accesses;
          its_address = refl;
          not_spawned = empty there k c (d.its_strand, refl, d.accesses);
          renames = sym at ∙ d.its_address;
        } in
        (there, k, carried, covers_self k, (d.its_strand, refl, d.accesses))

    keeps_parallel : (at other to other_to : Address) → Carried (control_part H) spawner blocks at to → Carried (control_part H) spawner blocks other other_to →
        parallel at other ≡ true → parallel to other_to ≡ true
    keeps_parallel a b a' b' x y p = carried_parallel (control_part H) legal spawner blocks through a b a' b' x y ∙ p

    brings_parallel : (at other to other_to : Address) → Carried (control_part H) spawner blocks to at → Carried (control_part H) spawner blocks other_to other →
        parallel at other ≡ true → parallel to other_to ≡ true
    brings_parallel a b a' b' x y p = sym (carried_parallel (control_part H) legal spawner blocks through a' b' a b x y) ∙ p
