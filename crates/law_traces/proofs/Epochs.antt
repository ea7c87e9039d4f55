-- What is done to a cell after a moment at which no block is open may be taken as done to another cell.
use Rattle.std.proofs.Common.{◌≡◌, ◌↔◌, ◌⊎◌, inl, inr, ℕ, true, false, eqb, Some, [], ◌∷◌, ◌++◌, Contains, refl, sym, ap, ◌∙◌, subst}
use Rattle.std.proofs.lemmas.Bool.Decides.{eqb_tells}
use Rattle.std.proofs.lemmas.List.Elements.{Contains-append_left, Contains-append_right, Contains-append_cases}
use Rattle.model_accesses.specs.declared.kind.Kind.{Kind}
use Rattle.model_accesses.specs.declared.kind.Kind.TheVariants as kinds
use Rattle.model_accesses.specs.declared.request.Act.{Act}
use Rattle.model_accesses.specs.declared.request.Act.TheVariants as act
use Rattle.model_strands.specs.History.{History}
use Rattle.model_strands.specs.Strands.{Begun, Running}
use Rattle.model_strands.specs.Legal.{Legal}
use Rattle.model_strands.specs.Dag.{Reaches, IsParallel}
use Rattle.model_strands.specs.Extensions.{Extends}
use Rattle.law_addresses.proofs.Extremes.{contains-head, contains-tail, contains-cases}
use Rattle.model_histories.specs.declared.answer.Entry.{Entry}
use Rattle.model_histories.specs.Entries.{Entries, control_part}
use Rattle.model_histories.specs.Shapes.{Shape}
use Rattle.model_histories.specs.Legal.{IsLegal}
use Rattle.model_races.specs.declared.access.CellAccess.{CellAccess}
use Rattle.model_races.specs.Accesses.{cell_access}
use Rattle.law_strands.proofs.Branches.{stability_law}
use Rattle.law_traces.specs.Locations.{access_of, Accesses, HasRefusal, HasRaceAt}
use Rattle.law_traces.specs.Epochs.{HasNoOpenBlock, renumbered, moved, AskChanged, unchanged}
use Rattle.law_traces.specs.Laws.{EpochLaw}
use Rattle.law_traces.proofs.Histories.{none_in, legal_part, extends_all, parallel_stays, begun_by}
use Rattle.law_traces.proofs.Locations.{accesses_same}
use Rattle.law_traces.proofs.Controls.{control_act, same_event}
use Rattle.law_traces.proofs.Sets.{location_here, accessing_begun, covers_self, race_covered}
use Rattle.law_traces.proofs.Moments.{reaches_later}

-- ---- what was done before is ordered before what is done later

legal_earlier : (shape : Shape) (later earlier : Entries) → IsLegal shape (later ++ earlier) → IsLegal shape earlier
legal_earlier shape [] H l = l
legal_earlier shape (e ∷ later) H l = legal_earlier shape later H l.0

module _ (shape : Shape) (earlier : Entries) (closed : HasNoOpenBlock (control_part earlier)) where
  -- by the entry's strand, as it makes the entry
  at_entry : (later : Entries) → IsLegal shape (later ++ earlier) → (strand : ℕ) → Running (control_part (later ++ earlier)) strand → (other : ℕ) →
      Begun (control_part earlier) other → Reaches (control_part (later ++ earlier)) other strand
  at_entry later l s run u begun = go (control_part (later ++ earlier)) (extends_all later earlier) (legal_part shape (later ++ earlier) l) run
    where
      go : (longer : History) → Extends longer (control_part earlier) → Legal longer → Running longer s → Reaches longer u s
      go longer (events, is) legal runs =
          let P : History → Type 0 = λ h. Reaches h u s in
          subst P is (reaches_later (control_part earlier) closed events (subst Legal (sym is) legal) s (subst (λ h. Running h s) (sym is) runs) u begun)

  never_parallel : (later : Entries) → IsLegal shape (later ++ earlier) → (one : Entry) → Contains later one → (other : ℕ) →
      Begun (control_part earlier) other → IsParallel (control_part (later ++ earlier)) other one.request.strand → ⊥
  never_parallel [] l one h u begun p = none_in one h
  never_parallel (e ∷ later) l one h u begun p = elim (contains-cases e one later h) [
    | inl is ↦ (
        let q = back e.request.strand (inl l.1.runs) (subst (λ (x : Entry). IsParallel (control_part (e ∷ later ++ earlier)) u x.request.strand) is p) in
        q.0 (at_entry later l.0 e.request.strand l.1.runs u begun))
    | inr t ↦ never_parallel later l.0 one t u begun
        (back one.request.strand (begun_by shape (later ++ earlier) l.0 one (Contains-append_left later earlier one t)) p)
  ]
    where
      here : Begun (control_part (later ++ earlier)) u
      here = (stability_law (control_part earlier) (control_part (later ++ earlier)) (extends_all later earlier) (legal_part shape (later ++ earlier) l.0) u begun).0.begun

      back : (strand : ℕ) → Begun (control_part (later ++ earlier)) strand → IsParallel (control_part (e ∷ later ++ earlier)) u strand →
          IsParallel (control_part (later ++ earlier)) u strand
      back s b p = (parallel_stays (control_part (later ++ earlier)) (control_part (e ∷ later ++ earlier)) (extends_all (e ∷ []) (later ++ earlier))
          (legal_part shape (e ∷ later ++ earlier) l) u s here b).1 p

-- ---- acts that are done to another cell

same_cell : (cell fresh location : ℕ) → location ≡ cell → renumbered cell fresh location ≡ fresh
same_cell c f x e = go (eqb_tells x c)
  where
    go : ((eqb x c ≡ true) × (x ≡ c)) ⊎ ((eqb x c ≡ false) × (x ≡ c → ⊥)) → renumbered c f x ≡ f
    go (inl t) = rw t.0 refl
    go (inr t) = absurd (t.1 e)

other_cell : (cell fresh location : ℕ) → ((location ≡ cell) × (renumbered cell fresh location ≡ fresh)) ⊎ (renumbered cell fresh location ≡ location)
other_cell c f x = go (eqb_tells x c)
  where
    go : ((eqb x c ≡ true) × (x ≡ c)) ⊎ ((eqb x c ≡ false) × (x ≡ c → ⊥)) → ((x ≡ c) × (renumbered c f x ≡ f)) ⊎ (renumbered c f x ≡ x)
    go (inl t) = inl (t.1, rw t.0 refl)
    go (inr t) = inr (rw t.0 refl)

-- an act that is an access of a cell, by its kind
data IsAccessOf (asked : Act) (kind : Kind) (cell : ℕ) : Type 0 where
  reading : asked ≡ act.Read cell → kind ≡ kinds.Read → IsAccessOf asked kind cell
  writing : (value : ℕ) → asked ≡ act.Write cell value → kind ≡ kinds.Write → IsAccessOf asked kind cell
  bumping : (value : ℕ) → asked ≡ act.Bump cell value → kind ≡ kinds.Bump → IsAccessOf asked kind cell

access_by : (asked : Act) (kind : Kind) (cell : ℕ) → cell_access asked ≡ Some (access_of kind cell) → IsAccessOf asked kind cell
access_by (act.Read l) k c q = let same = accesses_same q in
    reading (ap (λ (z : CellAccess). act.Read z.location) same) (sym (ap (λ (z : CellAccess). z.kind) same))
access_by (act.Write l v) k c q = let same = accesses_same q in
    writing v (ap (λ (z : CellAccess). act.Write z.location v) same) (sym (ap (λ (z : CellAccess). z.kind) same))
access_by (act.Bump l v) k c q = let same = accesses_same q in
    bumping v (ap (λ (z : CellAccess). act.Bump z.location v) same) (sym (ap (λ (z : CellAccess). z.kind) same))
access_by asked k c q = absurd (cc)

-- an access of the cell is then one of the fresh cell
moved_there : (cell fresh : ℕ) (asked : Act) (kind : Kind) → cell_access asked ≡ Some (access_of kind cell) → cell_access (moved cell fresh asked) ≡ Some (access_of kind fresh)
moved_there c f asked k q = go (access_by asked k c q)
  where
    go : IsAccessOf asked k c → cell_access (moved c f asked) ≡ Some (access_of k f)
    go (reading e g) = rw (e, g) (ap (λ z. Some (access_of kinds.Read z)) (same_cell c f c refl))
    go (writing v e g) = rw (e, g) (ap (λ z. Some (access_of kinds.Write z)) (same_cell c f c refl))
    go (bumping v e g) = rw (e, g) (ap (λ z. Some (access_of kinds.Bump z)) (same_cell c f c refl))

-- an access of another location stays
not_moved : (cell fresh location : ℕ) → (location ≡ cell → ⊥) → renumbered cell fresh location ≡ location
not_moved c f x differ = elim (other_cell c f x) [ inl t ↦ absurd (differ t.0) | inr t ↦ t ]

moved_past : (cell fresh location : ℕ) → (location ≡ cell → ⊥) → (asked : Act) (kind : Kind) → cell_access asked ≡ Some (access_of kind location) →
    cell_access (moved cell fresh asked) ≡ Some (access_of kind location)
moved_past c f l differ asked k q = go (access_by asked k l q)
  where
    go : IsAccessOf asked k l → cell_access (moved c f asked) ≡ Some (access_of k l)
    go (reading e g) = rw (e, g) (ap (λ z. Some (access_of kinds.Read z)) (not_moved c f l differ))
    go (writing v e g) = rw (e, g) (ap (λ z. Some (access_of kinds.Write z)) (not_moved c f l differ))
    go (bumping v e g) = rw (e, g) (ap (λ z. Some (access_of kinds.Bump z)) (not_moved c f l differ))

-- what is now an access of a location was one of it, or of the cell where the location is the fresh one
moved_as : (cell fresh location : ℕ) (kind : Kind) (there : ℕ) (its_kind : Kind) → Some (access_of its_kind (renumbered cell fresh location)) ≡ Some (access_of kind there) →
    ((there ≡ fresh) × (Some (access_of its_kind location) ≡ Some (access_of kind cell))) ⊎ (Some (access_of its_kind location) ≡ Some (access_of kind there))
moved_as c f x k l m q =
    let same = accesses_same q in
    let kinds_are : m ≡ k = ap (λ (z : CellAccess). z.kind) same in
    let cells_are : renumbered c f x ≡ l = ap (λ (z : CellAccess). z.location) same in
    elim (other_cell c f x) [
      | inl t ↦ inl (sym cells_are ∙ t.1, ap (λ z. Some (access_of m z)) t.0 ∙ ap (λ z. Some (access_of z c)) kinds_are)
      | inr t ↦ inr (ap (λ z. Some (access_of m z)) (sym t) ∙ q)
    ]

moved_back : (cell fresh : ℕ) (asked : Act) (kind : Kind) (location : ℕ) → cell_access (moved cell fresh asked) ≡ Some (access_of kind location) →
    ((location ≡ fresh) × (cell_access asked ≡ Some (access_of kind cell))) ⊎ (cell_access asked ≡ Some (access_of kind location))
moved_back c f (act.Read x) k l q = moved_as c f x k l kinds.Read q
moved_back c f (act.Write x v) k l q = moved_as c f x k l kinds.Write q
moved_back c f (act.Bump x v) k l q = moved_as c f x k l kinds.Bump q
moved_back c f act.Spawn k l q = inr q
moved_back c f act.Sync k l q = inr q
moved_back c f act.Call k l q = inr q
moved_back c f act.Return k l q = inr q
moved_back c f (act.Update x v) k l q = inr q
moved_back c f (act.Put x v) k l q = inr q
moved_back c f (act.Get x) k l q = inr q

moved_control : (cell fresh : ℕ) (asked : Act) → control_act (moved cell fresh asked) ≡ control_act asked
moved_control c f (act.Read x) = refl
moved_control c f (act.Write x v) = refl
moved_control c f (act.Bump x v) = refl
moved_control c f act.Spawn = refl
moved_control c f act.Sync = refl
moved_control c f act.Call = refl
moved_control c f act.Return = refl
moved_control c f (act.Update x v) = refl
moved_control c f (act.Put x v) = refl
moved_control c f (act.Get x) = refl

-- ---- entries and those that ask with changed acts

module _ (change : Act → Act) where
  changed_entry : (entries others : Entries) → AskChanged change entries others → (one : Entry) → Contains entries one →
      (other : Entry) × Contains others other × (other.request.strand ≡ one.request.strand) × (other.request.act ≡ change one.request.act)
  changed_entry [] [] asks one h = absurd (none_in one h)
  changed_entry [] (f ∷ G) asks one h = absurd asks
  changed_entry (e ∷ H) [] asks one h = absurd asks
  changed_entry (e ∷ H) (f ∷ G) asks one h = elim (contains-cases e one H h) [
    | inl is ↦ (f, contains-head f G, asks.0 ∙ ap (λ (x : Entry). x.request.strand) (sym is), asks.1 ∙ ap (λ (x : Entry). change x.request.act) (sym is))
    | inr t ↦ (let x = changed_entry H G asks.2 one t in (x.0, contains-tail f x.0 G x.1, x.2, x.3))
  ]

  entry_changed : (entries others : Entries) → AskChanged change entries others → (other : Entry) → Contains others other →
      (one : Entry) × Contains entries one × (other.request.strand ≡ one.request.strand) × (other.request.act ≡ change one.request.act)
  entry_changed [] [] asks one h = absurd (none_in one h)
  entry_changed [] (f ∷ G) asks one h = absurd asks
  entry_changed (e ∷ H) [] asks one h = absurd asks
  entry_changed (e ∷ H) (f ∷ G) asks one h = elim (contains-cases f one G h) [
    | inl is ↦ (e, contains-head e H, ap (λ (x : Entry). x.request.strand) is ∙ asks.0, ap (λ (x : Entry). x.request.act) is ∙ asks.1)
    | inr t ↦ (let x = entry_changed H G asks.2 one t in (x.0, contains-tail e x.0 H x.1, x.2, x.3))
  ]

  -- acts of control stay, so the control part does
  module _ (shape other_shape : Shape) (stays : (asked : Act) → control_act (change asked) ≡ control_act asked) where
    parts_alone : (entries others : Entries) → AskChanged change entries others → IsLegal shape entries → IsLegal other_shape others →
        control_part entries ≡ control_part others
    parts_alone [] [] asks l i = refl
    parts_alone [] (f ∷ G) asks l i = absurd asks
    parts_alone (e ∷ H) [] asks l i = absurd asks
    parts_alone (e ∷ H) (f ∷ G) asks l i =
        same_event shape other_shape H G e f l i (parts_alone H G asks.2 l.0 i.0) asks.0 (ap control_act asks.1 ∙ stays e.request.act)

    parts_behind : (entries others before other_before : Entries) → AskChanged change entries others → IsLegal shape (entries ++ before) →
        IsLegal other_shape (others ++ other_before) → control_part before ≡ control_part other_before →
        control_part (entries ++ before) ≡ control_part (others ++ other_before)
    parts_behind [] [] H' G' asks l i same = same
    parts_behind [] (f ∷ G) H' G' asks l i same = absurd asks
    parts_behind (e ∷ H) [] H' G' asks l i same = absurd asks
    parts_behind (e ∷ H) (f ∷ G) H' G' asks l i same =
        same_event shape other_shape (H ++ H') (G ++ G') e f l i (parts_behind H G H' G' asks.2 l.0 i.0 same) asks.0 (ap control_act asks.1 ∙ stays e.request.act)

-- ---- the law

module _ (later earlier moved_later same_earlier : Entries) (cell fresh : ℕ) (moves : AskChanged (moved cell fresh) later moved_later)
    (same : AskChanged unchanged earlier same_earlier) where
  -- an access of the cell is one of the fresh cell where it came later, and stays where it came earlier
  carried : (strand : ℕ) (kind : Kind) → Accesses (later ++ earlier) strand kind cell →
      (Accesses later strand kind cell × Accesses (moved_later ++ same_earlier) strand kind fresh) ⊎
      (Accesses earlier strand kind cell × Accesses (moved_later ++ same_earlier) strand kind cell)
  carried s k (one, h, at, q) = elim (Contains-append_cases later earlier one h) [
    | inl t ↦ (
        let (other, there, strands, acts) = changed_entry (moved cell fresh) later moved_later moves one t in
        inl ((one, t, at, q), (other, Contains-append_left moved_later same_earlier other there, strands ∙ at, ap cell_access acts ∙ moved_there cell fresh one.request.act k q)))
    | inr t ↦ (
        let (other, there, strands, acts) = changed_entry unchanged earlier same_earlier same one t in
        inr ((one, t, at, q), (other, Contains-append_right moved_later same_earlier other there, strands ∙ at, ap cell_access acts ∙ q)))
  ]

  -- and an access of either was one of the cell
  brought : ((strand : ℕ) (kind : Kind) → Accesses (later ++ earlier) strand kind fresh → ⊥) → (location : ℕ) → (location ≡ cell) ⊎ (location ≡ fresh) →
      (strand : ℕ) (kind : Kind) → Accesses (moved_later ++ same_earlier) strand kind location → Accesses (later ++ earlier) strand kind cell
  brought none l which s k (other, h, at, q) = elim (Contains-append_cases moved_later same_earlier other h) [
    | inl t ↦ (
        let (one, there, strands, acts) = entry_changed (moved cell fresh) later moved_later moves other t in
        elim (moved_back cell fresh one.request.act k l (ap cell_access (sym acts) ∙ q)) [
          | inl p ↦ (one, Contains-append_left later earlier one there, sym strands ∙ at, p.1)
          | inr p ↦ by_either which (one, Contains-append_left later earlier one there, sym strands ∙ at, p)
        ])
    | inr t ↦ (
        let (one, there, strands, acts) = entry_changed unchanged earlier same_earlier same other t in
        by_either which (one, Contains-append_right later earlier one there, sym strands ∙ at, ap cell_access (sym acts) ∙ q))
  ]
    where
      by_either : (l ≡ cell) ⊎ (l ≡ fresh) → Accesses (later ++ earlier) s k l → Accesses (later ++ earlier) s k cell
      by_either (inl e) x = subst (λ z. Accesses (later ++ earlier) s k z) e x
      by_either (inr e) x = absurd (none s k (subst (λ z. Accesses (later ++ earlier) s k z) e x))

  -- an access of a third cell stays
  carried_other : (location : ℕ) → (location ≡ cell → ⊥) → (strand : ℕ) (kind : Kind) → Accesses (later ++ earlier) strand kind location →
      Accesses (moved_later ++ same_earlier) strand kind location
  carried_other l differ s k (one, h, at, q) = elim (Contains-append_cases later earlier one h) [
    | inl t ↦ (
        let (other, there, strands, acts) = changed_entry (moved cell fresh) later moved_later moves one t in
        (other, Contains-append_left moved_later same_earlier other there, strands ∙ at, ap cell_access acts ∙ moved_past cell fresh l differ one.request.act k q))
    | inr t ↦ (
        let (other, there, strands, acts) = changed_entry unchanged earlier same_earlier same one t in
        (other, Contains-append_right moved_later same_earlier other there, strands ∙ at, ap cell_access acts ∙ q))
  ]

  brought_other : (location : ℕ) → (location ≡ fresh → ⊥) → (strand : ℕ) (kind : Kind) → Accesses (moved_later ++ same_earlier) strand kind location →
      Accesses (later ++ earlier) strand kind location
  brought_other l differ s k (other, h, at, q) = elim (Contains-append_cases moved_later same_earlier other h) [
    | inl t ↦ (
        let (one, there, strands, acts) = entry_changed (moved cell fresh) later moved_later moves other t in
        elim (moved_back cell fresh one.request.act k l (ap cell_access (sym acts) ∙ q)) [
          | inl p ↦ absurd (differ p.0)
          | inr p ↦ (one, Contains-append_left later earlier one there, sym strands ∙ at, p)
        ])
    | inr t ↦ (
        let (one, there, strands, acts) = entry_changed unchanged earlier same_earlier same other t in
        (one, Contains-append_right later earlier one there, sym strands ∙ at, ap cell_access (sym acts) ∙ q))
  ]

pub epoch_law : EpochLaw
epoch_law shape moved_shape later earlier moved_later same_earlier j i closed c f none moves same = (
  (
    (λ r. forth ((location_here shape (later ++ earlier) j c).0 r)),
    (λ r. elim r [
      | inl x ↦ (location_here shape (later ++ earlier) j c).1 (back c (inl refl) ((location_here moved_shape (moved_later ++ same_earlier) i c).0 x))
      | inr x ↦ (location_here shape (later ++ earlier) j c).1 (back f (inr refl) ((location_here moved_shape (moved_later ++ same_earlier) i f).0 x))
    ]),
  ),
  others,
)
  where
    part : control_part (later ++ earlier) ≡ control_part (moved_later ++ same_earlier)
    part =
        parts_behind (moved c f) shape moved_shape (moved_control c f) later moved_later earlier same_earlier moves j.legal i.legal
        (parts_alone unchanged shape moved_shape (λ asked. refl) earlier same_earlier same (legal_earlier shape later earlier j.legal)
        (legal_earlier moved_shape moved_later same_earlier i.legal))

    ordered : (strand other_strand : ℕ) (kind other_kind : Kind) → Accesses earlier strand kind c → Accesses later other_strand other_kind c →
        IsParallel (control_part (later ++ earlier)) strand other_strand → ⊥
    ordered s u k m x y p =
        never_parallel shape earlier closed later j.legal y.0 y.1 s (accessing_begun shape earlier (legal_earlier shape later earlier j.legal) s k c x)
        (subst (λ z. IsParallel (control_part (later ++ earlier)) s z) (sym y.2) p)

    forth : HasRaceAt (control_part (later ++ earlier)) (later ++ earlier) c → HasRefusal (moved_later ++ same_earlier) c ⊎ HasRefusal (moved_later ++ same_earlier) f
    forth (s, u, k, m, x, y, rule, p) =
        go (carried later earlier moved_later same_earlier c f moves same s k x) (carried later earlier moved_later same_earlier c f moves same u m y)
      where
        p' : IsParallel (control_part (moved_later ++ same_earlier)) s u
        p' = subst (λ dag. IsParallel dag s u) part p

        go : (Accesses later s k c × Accesses (moved_later ++ same_earlier) s k f) ⊎ (Accesses earlier s k c × Accesses (moved_later ++ same_earlier) s k c) →
            (Accesses later u m c × Accesses (moved_later ++ same_earlier) u m f) ⊎ (Accesses earlier u m c × Accesses (moved_later ++ same_earlier) u m c) →
            HasRefusal (moved_later ++ same_earlier) c ⊎ HasRefusal (moved_later ++ same_earlier) f
        go (inl a) (inl b) = inr ((location_here moved_shape (moved_later ++ same_earlier) i f).1 (s, u, k, m, a.1, b.1, rule, p'))
        go (inl a) (inr b) = absurd (ordered u s m k b.0 a.0 (p.1, p.0))
        go (inr a) (inl b) = absurd (ordered s u k m a.0 b.0 p)
        go (inr a) (inr b) = inl ((location_here moved_shape (moved_later ++ same_earlier) i c).1 (s, u, k, m, a.1, b.1, rule, p'))

    back : (location : ℕ) → (location ≡ c) ⊎ (location ≡ f) → HasRaceAt (control_part (moved_later ++ same_earlier)) (moved_later ++ same_earlier) location →
        HasRaceAt (control_part (later ++ earlier)) (later ++ earlier) c
    back l which (s, u, k, m, x, y, rule, p) = (
      s,
      u,
      k,
      m,
      brought later earlier moved_later same_earlier c f moves same none l which s k x,
      brought later earlier moved_later same_earlier c f moves same none l which u m y,
      rule,
      subst (λ dag. IsParallel dag s u) (sym part) p,
    )

    others : (other : ℕ) → (other ≡ c → ⊥) → (other ≡ f → ⊥) → HasRefusal (later ++ earlier) other ↔ HasRefusal (moved_later ++ same_earlier) other
    others d not_cell not_fresh = (
      (λ r. (location_here moved_shape (moved_later ++ same_earlier) i d).1 (subst (λ dag. HasRaceAt dag (moved_later ++ same_earlier) d) part
          (race_covered (control_part (later ++ earlier)) (later ++ earlier) (moved_later ++ same_earlier) d d
          (λ s k x. (k, covers_self k, carried_other later earlier moved_later same_earlier c f moves same d not_cell s k x)) ((location_here shape (later ++ earlier) j d).0 r)))),
      (λ r. (location_here shape (later ++ earlier) j d).1
          (race_covered (control_part (later ++ earlier)) (moved_later ++ same_earlier) (later ++ earlier) d d
          (λ s k x. (k, covers_self k, brought_other later earlier moved_later same_earlier c f moves same d not_fresh s k x))
          (subst (λ dag. HasRaceAt dag (moved_later ++ same_earlier) d) (sym part) ((location_here moved_shape (moved_later ++ same_earlier) i d).0 r)))),
    )
