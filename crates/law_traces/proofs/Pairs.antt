-- Of the pairs of accesses that conflict the near ones decide whether a cell has a race.
use Rattle.std.proofs.Common.{◌≡◌, ◌⊎◌, ◌↔◌, inl, inr, ℕ, suc, ◌<◌, ◌+◌, Bool, true, false, Option, Some, None, [], ◌∷◌, ◌++◌, length, Contains, append_assoc, refl, sym, ap, ◌∙◌, subst, subst₂, arith, zero}
use Rattle.std.proofs.lemmas.List.Elements.{Contains-append_right, Contains-append_cases}
use Rattle.std.proofs.lemmas.List.{length-append}
use Rattle.model_accesses.specs.declared.kind.Kind.{Kind}
use Rattle.model_accesses.specs.declared.kind.Rule.{Rule}
use Rattle.model_accesses.specs.declared.kind.Rule.TheVariants.{Free, Race, View}
use Rattle.model_accesses.specs.Table.{rule_between}
use Rattle.model_strands.specs.Address.{Address}
use Rattle.model_strands.specs.Addresses.{address}
use Rattle.model_strands.specs.History.{History}
use Rattle.model_strands.specs.Strands.{Begun, Running}
use Rattle.model_strands.specs.Legal.{Legal}
use Rattle.model_strands.specs.Dag.{stay, Reaches, IsParallel}
use Rattle.model_strands.specs.Extensions.{Extends}
use Rattle.law_addresses.specs.Address.{reaches, parallel}
use Rattle.law_addresses.proofs.Extremes.{contains-head, contains-tail, contains-cases}
use Rattle.law_addresses.proofs.Extensions.{parallel-append}
use Rattle.law_addresses.proofs.Relations.{parallel-self, parallel-comm}
use Rattle.law_strands.proofs.Law.{reach_precedes, precedes_reach}
use Rattle.law_strands.proofs.Leads.{path_then}
use Rattle.law_strands.proofs.Sinks.{running_law}
use Rattle.law_strands.proofs.Branches.{stability_law}
use Rattle.law_strands.proofs.Orders.{parallel_iff}
use Rattle.law_strands.proofs.Updates.{same_or_not}
use Rattle.model_histories.specs.declared.answer.Entry.{Entry}
use Rattle.model_histories.specs.Entries.{Entries, control_part}
use Rattle.model_histories.specs.Shapes.{Shape}
use Rattle.model_histories.specs.Legal.{IsLegal}
use Rattle.model_races.specs.declared.access.CellAccess.{CellAccess}
use Rattle.model_races.specs.Accesses.{cell_access}
use Rattle.model_races.specs.Judged.{IsJudged}
use Rattle.law_traces.specs.Locations.{access_of, Accesses, HasRefusal, HasRaceAt}
use Rattle.law_traces.specs.Sets.{HasRaceBetween}
use Rattle.law_traces.specs.Pairs.{IsNear, HasNearRaceAt, StandsForPair, HasRefusedPair, deed_of}
use Rattle.law_traces.specs.Laws.{NearPairLaw, PairCellLaw, KeptPairsLaw}
use Rattle.law_traces.proofs.Histories.{none_in, legal_part, extends_earlier, extends_self, parallel_stays, begun_by}
use Rattle.law_traces.proofs.Locations.{race_back, accesses_same, location_law}
use Rattle.law_traces.proofs.Sets.{accessing_begun, set_law}

-- ---- of two entries' strands the earlier one reaches the later one, or they are parallel

true_or_not : (test : Bool) → (test ≡ true) ⊎ (test ≡ true → ⊥)
true_or_not true = inl refl
true_or_not false = inr (λ e. cc)

module _ (shape : Shape) (whole : History) (legal : Legal whole) where
  pub earlier_reaches : (later : Entries) (second : Entry) (before : Entries) → IsLegal shape (later ++ (second ∷ before)) →
      Extends whole (control_part (later ++ (second ∷ before))) → (first : Entry) → Contains before first →
      Reaches whole first.request.strand second.request.strand ⊎ IsParallel whole first.request.strand second.request.strand
  earlier_reaches (e ∷ later) two H l ext one h = earlier_reaches later two H l.0 (extends_earlier whole e (later ++ (two ∷ H)) ext) one h
  earlier_reaches [] two H l ext one h = go (true_or_not (reaches (address now s) (address now u)))
    where
      now : History
      now = control_part H

      s : ℕ
      s = one.request.strand

      u : ℕ
      u = two.request.strand

      onward : Extends whole now
      onward = extends_earlier whole two H ext

      its_legal : Legal now
      its_legal = legal_part shape H l.0

      begun : Begun now s
      begun = begun_by shape H l.0 one h

      running : Running now u
      running = l.1.runs

      go : (reaches (address now s) (address now u) ≡ true) ⊎ (reaches (address now s) (address now u) ≡ true → ⊥) → Reaches whole s u ⊎ IsParallel whole s u
      go (inl r) = inl (((stability_law now whole onward legal s begun).1 u (inl running)).reach.1 (precedes_reach now its_legal s u begun (inl running) r))
      go (inr not) =
          let forth : Reaches now s u → ⊥ = λ r. not (reach_precedes now its_legal s u r) in
          inr ((parallel_stays now whole onward legal s u begun (inl running)).0 (
            forth,
            (λ r. let same : u ≡ s = running_law now its_legal u s running r in forth (subst (λ z. Reaches now z u) same stay)),
          ))

-- ---- an access between two others

is_race : (rule : Rule) → (rule ≡ Race) ⊎ (rule ≡ Race → ⊥)
is_race Race = inl refl
is_race Free = inr (λ e. cc)
is_race View = inr (λ e. cc)

-- this access, where it is one, is of the cell and conflicts with both
abbrev Both : ℕ → Kind → Kind → Option CellAccess → Type 0
Both cell kind other_kind found =
    (third : Kind) × (found ≡ Some (access_of third cell)) × (rule_between kind third ≡ Race) × (rule_between third other_kind ≡ Race)

abbrev ConflictsWithBoth : ℕ → Kind → Kind → Entry → Type 0
ConflictsWithBoth cell kind other_kind entry = Both cell kind other_kind (cell_access entry.request.act)

same_kind : {kind other : Kind} {cell other_cell : ℕ} → Some (access_of kind cell) ≡ Some (access_of other other_cell) → kind ≡ other
same_kind q = ap (λ (z : CellAccess). z.kind) (accesses_same q)

same_cell : {access : CellAccess} {kind : Kind} {cell : ℕ} → Some access ≡ Some (access_of kind cell) → access.location ≡ cell
same_cell q = ap (λ (z : CellAccess). z.location) (accesses_same q)

not_found : {access : CellAccess} → None ≡ Some access → ⊥
not_found q = cc

conflicts_or_not : (cell : ℕ) (kind other_kind : Kind) (found : Option CellAccess) → Both cell kind other_kind found ⊎ (Both cell kind other_kind found → ⊥)
conflicts_or_not c k m None = inr (λ x. not_found x.1)
conflicts_or_not c k m (Some access) = elim (same_or_not access.location c) [
  | inl at ↦ of_cell access.kind access.location at (is_race (rule_between k access.kind)) (is_race (rule_between access.kind m))
  | inr differ ↦ inr (λ x. differ (same_cell x.1))
]
  where
    of_cell : (third : Kind) (place : ℕ) → place ≡ c → (rule_between k third ≡ Race) ⊎ (rule_between k third ≡ Race → ⊥) →
        (rule_between third m ≡ Race) ⊎ (rule_between third m ≡ Race → ⊥) → Both c k m (Some (access_of third place)) ⊎ (Both c k m (Some (access_of third place)) → ⊥)
    of_cell t place at (inl a) (inl b) = inl (t, ap (λ z. Some (access_of t z)) at, a, b)
    of_cell t place at (inr a) b = inr (λ x. a (subst (λ z. rule_between k z ≡ Race) (sym (same_kind x.1)) x.2))
    of_cell t place at (inl a) (inr b) = inr (λ x. b (subst (λ z. rule_between z m ≡ Race) (sym (same_kind x.1)) x.3))

-- one of these entries conflicts with both, with those after it and those before it
record Between (cell : ℕ) (kind other_kind : Kind) (entries : Entries) : Type 0 where
  after : Entries
  entry : Entry
  before : Entries
  stand : entries ≡ after ++ (entry ∷ before)
  conflicts : ConflictsWithBoth cell kind other_kind entry

find_between : (cell : ℕ) (kind other_kind : Kind) (entries : Entries) →
    Between cell kind other_kind entries ⊎ ((entry : Entry) → Contains entries entry → ConflictsWithBoth cell kind other_kind entry → ⊥)
find_between c k m [] = inr (λ e h x. none_in e h)
find_between c k m (e ∷ H) = go (conflicts_or_not c k m (cell_access e.request.act)) (find_between c k m H)
  where
    go : ConflictsWithBoth c k m e ⊎ (ConflictsWithBoth c k m e → ⊥) →
        Between c k m H ⊎ ((entry : Entry) → Contains H entry → ConflictsWithBoth c k m entry → ⊥) →
        Between c k m (e ∷ H) ⊎ ((entry : Entry) → Contains (e ∷ H) entry → ConflictsWithBoth c k m entry → ⊥)
    go (inl x) others = inl (record { after = []; entry = e; before = H; stand = refl; conflicts = x })
    go (inr none) (inl t) = inl (record { after = e ∷ t.after; entry = t.entry; before = t.before; stand = ap (λ z. e ∷ z) t.stand; conflicts = t.conflicts })
    go (inr none) (inr others) = inr (λ one h x. elim (contains-cases e one H h) [
      | inl is ↦ none (subst (ConflictsWithBoth c k m) is x)
      | inr t ↦ others one t x
    ])

-- ---- near pairs

record Splits (entries : Entries) (entry : Entry) : Type 0 where
  after : Entries
  before : Entries
  stand : entries ≡ after ++ (entry ∷ before)

split_at : (entries : Entries) (entry : Entry) → Contains entries entry → Splits entries entry
split_at [] one h = absurd (none_in one h)
split_at (e ∷ H) one h = elim (contains-cases e one H h) [
  | inl is ↦ record { after = []; before = H; stand = ap (λ z. z ∷ H) (sym is) }
  | inr t ↦ (let found = split_at H one t in record { after = e ∷ found.after; before = found.before; stand = ap (λ z. e ∷ z) found.stand })
]

-- the entry is contained where it stands
stands_there : (after : Entries) (entry : Entry) (before : Entries) → Contains (after ++ (entry ∷ before)) entry
stands_there after e before = Contains-append_right after (e ∷ before) e (contains-head e before)

module _ (shape : Shape) (entries : Entries) (judged : IsJudged shape entries) (whole : History) (ext : Extends whole (control_part entries)) (legal : Legal whole) (cell : ℕ) where
  ordered : (later : Entries) (second : Entry) (before : Entries) → entries ≡ later ++ (second ∷ before) → (first : Entry) → Contains before first →
      Reaches whole first.request.strand second.request.strand ⊎ IsParallel whole first.request.strand second.request.strand
  ordered later two H is one h =
      earlier_reaches shape whole legal later two H (subst (IsLegal shape) is judged.legal) (subst (λ z. Extends whole (control_part z)) is ext) one h

  -- where two accesses with so many entries between them, or fewer, race, the strands of a near pair are parallel
  abbrev RaceNear : ℕ → Type 0
  RaceNear fuel =
      (later : Entries) (second : Entry) (between : Entries) (first : Entry) (earlier : Entries) → length between < fuel →
      entries ≡ later ++ (second ∷ (between ++ (first ∷ earlier))) → (kind other_kind : Kind) → cell_access first.request.act ≡ Some (access_of kind cell) →
      cell_access second.request.act ≡ Some (access_of other_kind cell) → rule_between kind other_kind ≡ Race →
      IsParallel whole first.request.strand second.request.strand → HasNearRaceAt whole entries cell

  -- the two are near, or a nearer pair races
  nearer : (fuel : ℕ) → RaceNear fuel → RaceNear (suc fuel)
  nearer fuel within later two between one earlier below is k m x y rule p = go (find_between cell k m between)
    where
      go : Between cell k m between ⊎ ((entry : Entry) → Contains between entry → ConflictsWithBoth cell k m entry → ⊥) → HasNearRaceAt whole entries cell
      go (inr none) = (
        one,
        two,
        k,
        m,
        record {
          later = later;
          between = between;
          earlier = earlier;
          stand = is;
          first_is = x;
          second_is = y;
          conflict = rule;
          none_between = λ entry third h q a b. none entry h (third, q, a, b);
        },
        p,
      )
      go (inl t) = middle (ordered (later ++ (two ∷ t.after)) t.entry rest front one (stands_there t.before one earlier))
          (ordered later two (t.after ++ (t.entry ∷ rest)) back t.entry (stands_there t.after t.entry rest))
        where
          rest : Entries
          rest = t.before ++ (one ∷ earlier)

          back : entries ≡ later ++ (two ∷ (t.after ++ (t.entry ∷ rest)))
          back = is ∙ ap (λ z. later ++ (two ∷ (z ++ (one ∷ earlier)))) t.stand ∙ ap (λ z. later ++ (two ∷ z)) (append_assoc t.after (t.entry ∷ t.before) (one ∷ earlier))

          front : entries ≡ (later ++ (two ∷ t.after)) ++ (t.entry ∷ rest)
          front = back ∙ sym (append_assoc later (two ∷ t.after) (t.entry ∷ rest))

          lengths : length between ≡ length t.after + suc (length t.before)
          lengths = ap length t.stand ∙ length-append t.after (t.entry ∷ t.before)

          middle : Reaches whole one.request.strand t.entry.request.strand ⊎ IsParallel whole one.request.strand t.entry.request.strand →
              Reaches whole t.entry.request.strand two.request.strand ⊎ IsParallel whole t.entry.request.strand two.request.strand →
              HasNearRaceAt whole entries cell
          middle (inr apart) other =
              within (later ++ (two ∷ t.after)) t.entry t.before one earlier (omega (arith, below, lengths)) front k t.conflicts.0 x t.conflicts.1
              t.conflicts.2 apart
          middle (inl r) (inr apart) =
              within later two t.after t.entry rest (omega (arith, below, lengths)) back t.conflicts.0 m t.conflicts.1 y t.conflicts.3 apart
          middle (inl r) (inl q) = absurd (p.0 (path_then r q))

  near_within : (fuel : ℕ) → RaceNear fuel
  near_within zero = λ later two between one earlier below. absurd (omega (arith, below))
  near_within (suc fuel) = nearer fuel (near_within fuel)

  near_race : HasRaceAt whole entries cell → HasNearRaceAt whole entries cell
  near_race (s, u, k, m, x, y, rule, p) = go (split_at entries x.0 x.1)
    where
      apart : IsParallel whole x.0.request.strand y.0.request.strand
      apart = subst₂ (IsParallel whole) (sym x.2) (sym y.2) p

      go : Splits entries x.0 → HasNearRaceAt whole entries cell
      go at = elim (Contains-append_cases at.after (x.0 ∷ at.before) y.0 (subst (λ z. Contains z y.0) at.stand y.1)) [
        | inl h ↦ (
            let t = split_at at.after y.0 h in
            near_within (suc (length t.before)) t.after y.0 t.before x.0 at.before (omega arith)
            (at.stand ∙ ap (λ z. z ++ (x.0 ∷ at.before)) t.stand ∙ append_assoc t.after (y.0 ∷ t.before) (x.0 ∷ at.before)) k m x.3 y.3 rule apart)
        | inr h ↦ elim (contains-cases x.0 y.0 at.before h) [
          | inl is ↦ absurd (apart.0 (subst (λ (z : Entry). Reaches whole x.0.request.strand z.request.strand) (sym is) stay))
          | inr h ↦ (
              let t = split_at at.before y.0 h in
              near_within (suc (length t.after)) at.after x.0 t.after y.0 t.before (omega arith)
              (at.stand ∙ ap (λ z. at.after ++ (x.0 ∷ z)) t.stand) m k y.3 x.3 (race_back k m rule) (apart.1, apart.0))
        ]
      ]

  first_accesses : (first : Entry) (kind : Kind) (second : Entry) (other_kind : Kind) → IsNear entries cell first kind second other_kind →
      Accesses entries first.request.strand kind cell
  first_accesses one k two m near = (
    one,
    subst (λ z. Contains z one) (sym near.stand)
        (Contains-append_right near.later (two ∷ (near.between ++ (one ∷ near.earlier))) one
        (contains-tail two one (near.between ++ (one ∷ near.earlier)) (stands_there near.between one near.earlier))),
    refl,
    near.first_is,
  )

  second_accesses : (first : Entry) (kind : Kind) (second : Entry) (other_kind : Kind) → IsNear entries cell first kind second other_kind →
      Accesses entries second.request.strand other_kind cell
  second_accesses one k two m near = (
    two,
    subst (λ z. Contains z two) (sym near.stand) (stands_there near.later two (near.between ++ (one ∷ near.earlier))),
    refl,
    near.second_is,
  )

  near_is_race : HasNearRaceAt whole entries cell → HasRaceAt whole entries cell
  near_is_race (one, two, k, m, near, p) =
      (one.request.strand, two.request.strand, k, m, first_accesses one k two m near, second_accesses one k two m near, near.conflict, p)

pub near_pair_law : NearPairLaw
near_pair_law shape H j whole ext legal c = (
  (λ r. near_race shape H j whole ext legal c ((location_law shape H j whole ext legal c).0 r)),
  (λ r. (location_law shape H j whole ext legal c).1 (near_is_race shape H j whole ext legal c r)),
)

-- ---- cells that stand for pairs

never_parallel : (at other place : Address) → at ≡ place → other ≡ place → parallel at other ≡ true → ⊥
never_parallel a b c e g p =
    let self : parallel c c ≡ true = subst₂ (λ v w. parallel v w ≡ true) e g p in
    let none = parallel-self c in
    cc

pub pair_cell_law : PairCellLaw
pair_cell_law h legal shape G j s u bs bu k m d stands = ((λ r. to ((set_law shape G j d).0 r)), (λ r. (set_law shape G j d).1 (from r)))
  where
    first : Address
    first = stands.kept_front ++ stands.rest

    second : Address
    second = stands.kept_front ++ stands.other_rest

    moved : parallel (address h s) (address h u) ≡ parallel first second
    moved = subst₂ (λ v w. parallel v w ≡ parallel first second) (sym stands.strand_at) (sym stands.other_at)
        (parallel-append stands.front stands.rest stands.other_rest ∙ sym (parallel-append stands.kept_front stands.rest stands.other_rest))

    apart : parallel first second ≡ true → IsParallel h s u
    apart p = (parallel_iff h legal s u bs bu).1 (moved ∙ p)

    to : HasRaceBetween G d → (rule_between k m ≡ Race) × IsParallel h s u
    to (a, b, k', m', x, y, rule, p) = go (stands.only a k' x) (stands.only b m' y)
      where
        go : ((a ≡ first) × (k' ≡ k)) ⊎ ((a ≡ second) × (k' ≡ m)) → ((b ≡ first) × (m' ≡ k)) ⊎ ((b ≡ second) × (m' ≡ m)) →
            (rule_between k m ≡ Race) × IsParallel h s u
        go (inl e) (inl g) = absurd (never_parallel a b first e.0 g.0 p)
        go (inr e) (inr g) = absurd (never_parallel a b second e.0 g.0 p)
        go (inl e) (inr g) = (
          subst₂ (λ v w. rule_between v w ≡ Race) e.1 g.1 rule,
          apart (subst₂ (λ v w. parallel v w ≡ true) e.0 g.0 p),
        )
        go (inr e) (inl g) = (
          race_back m k (subst₂ (λ v w. rule_between v w ≡ Race) e.1 g.1 rule),
          apart (parallel-comm first second ∙ subst₂ (λ v w. parallel v w ≡ true) e.0 g.0 p),
        )

    from : (rule_between k m ≡ Race) × IsParallel h s u → HasRaceBetween G d
    from (rule, p) = (
      first,
      second,
      k,
      m,
      stands.done,
      stands.other_done,
      rule,
      sym moved ∙ (parallel_iff h legal s u bs bu).0 p,
    )

pub kept_pairs_law : KeptPairsLaw
kept_pairs_law shape kept_shape H G j i c pairs = ((λ r. to ((near_pair_law shape H j here ext legal c).0 r)), from)
  where
    here : History
    here = control_part H

    ext : Extends here here
    ext = extends_self here

    legal : Legal here
    legal = legal_part shape H j.legal

    -- a cell that stands for a near pair is refused where its strands are parallel
    verdict : (first : Entry) (kind : Kind) (second : Entry) (other_kind : Kind) (near : IsNear H c first kind second other_kind) (pair_cell : ℕ) →
        StandsForPair here (deed_of first kind) (deed_of second other_kind) G pair_cell →
        HasRefusal G pair_cell ↔ ((rule_between kind other_kind ≡ Race) × IsParallel here first.request.strand second.request.strand)
    verdict one k two m near d stands =
        pair_cell_law here legal kept_shape G i one.request.strand two.request.strand
        (accessing_begun shape H j.legal one.request.strand k c (first_accesses shape H j here ext legal c one k two m near))
        (accessing_begun shape H j.legal two.request.strand m c (second_accesses shape H j here ext legal c one k two m near)) k m d stands

    to : HasNearRaceAt here H c → HasRefusedPair H c G
    to (one, two, k, m, near, p) =
        let (d, stands) = pairs one two k m near p in
        (one, two, k, m, d, near, stands, (verdict one k two m near d stands).1 (near.conflict, p))

    from : HasRefusedPair H c G → HasRefusal H c
    from (one, two, k, m, d, near, stands, r) =
        (near_pair_law shape H j here ext legal c).1 (one, two, k, m, near, ((verdict one k two m near d stands).0 r).1)
