-- A cell has a race exactly where some access of it is refused.
use Rattle.std.proofs.Common.{rules, ◌≡◌, ◌⊎◌, inl, inr, ℕ, suc, Bool, true, false, [], ◌∷◌, length, Option, Some, None, Contains, refl, sym, ap, ◌∙◌, subst}
use Rattle.std.proofs.lemmas.List.Elements.{Contains-append_left, Contains-append_right, Contains-append_cases}
use Rattle.std.specs.Prelude.{if◌then◌else◌, MatchOption}
use Rattle.std.specs.Option.{option_map, option_to_list}
use Rattle.model_accesses.specs.declared.kind.Kind.{Kind}
use Rattle.model_accesses.specs.declared.kind.Rule.TheVariants.{Race}
use Rattle.model_accesses.specs.Table.{rule_between}
use Rattle.model_accesses.specs.declared.request.Act.{Act}
use Rattle.model_accesses.specs.declared.request.Act.TheVariants as act
use Rattle.model_strands.specs.History.{History}
use Rattle.model_strands.specs.Legal.{Legal}
use Rattle.model_strands.specs.Strands.{Begun}
use Rattle.model_strands.specs.Dag.{stay, Reaches, IsParallel}
use Rattle.model_strands.specs.Extensions.{Extends}
use Rattle.law_addresses.proofs.Extremes.{contains-head, contains-tail, contains-cases}
use Rattle.model_accesses.specs.Accesses.{Access}
use Rattle.model_races.specs.declared.access.CellAccess.{CellAccess}
use Rattle.model_histories.specs.declared.answer.Answer.{Answer}
use Rattle.model_histories.specs.declared.answer.Answer.TheVariants.{Granted, Value, Refused}
use Rattle.model_histories.specs.declared.answer.Entry.{Entry}
use Rattle.model_histories.specs.Entries.{Entries, control_part}
use Rattle.model_histories.specs.Shapes.{Shape}
use Rattle.model_histories.specs.Legal.{Belongs, IsLegal}
use Rattle.model_races.specs.Accesses.{cell_access, is_granted, access_at, granted}
use Rattle.model_races.specs.Verdicts.{IsRefused, IsRightVerdict, MemoryIsJudged}
use Rattle.law_traces.specs.Locations.{access_of, Accesses, HasRefusal, HasRaceAt}
use Rattle.law_traces.specs.Laws.{LocationLaw}
use Rattle.law_traces.proofs.Histories.{none_in, extends_earlier, parallel_stays, begun_by}

rule_symmetric : (kind other : Kind) → rule_between kind other ≡ rule_between other kind
rule_symmetric kind other = search rules

pub race_back : (kind other : Kind) → rule_between kind other ≡ Race → rule_between other kind ≡ Race
race_back kind other race = rule_symmetric other kind ∙ race

pub accesses_same : {one other : CellAccess} → Some one ≡ Some other → one ≡ other
accesses_same e = cc

-- an access of a cell is granted or refused
granted_or_refused : (act : Act) (answer : Answer) (cell : CellAccess) → Belongs act answer → cell_access act ≡ Some cell → (is_granted answer ≡ true) ⊎ IsRefused answer
granted_or_refused (act.Read l) (Value v) cell b q = inl refl
granted_or_refused (act.Read l) (Refused rule w) cell b q = inr tt
granted_or_refused (act.Read l) _ cell b q = absurd b
granted_or_refused (act.Write l v) Granted cell b q = inl refl
granted_or_refused (act.Write l v) (Refused rule w) cell b q = inr tt
granted_or_refused (act.Write l v) _ cell b q = absurd b
granted_or_refused (act.Bump l v) Granted cell b q = inl refl
granted_or_refused (act.Bump l v) (Refused rule w) cell b q = inr tt
granted_or_refused (act.Bump l v) _ cell b q = absurd b
granted_or_refused _ answer cell b q = cc

abbrev made : ℕ → ℕ → CellAccess → Access
made number strand cell = record { strand = strand; kind = cell.kind; location = cell.location; entry = number }

abbrev cell_of : Access → CellAccess
cell_of access = record { kind = access.kind; location = access.location }

listed_access : (is_done : Bool) (found : Option CellAccess) (number strand : ℕ) (access : Access) →
    Contains (option_to_list (if is_done then option_map (made number strand) found else None)) access →
    (access.strand ≡ strand) × (found ≡ Some (cell_of access))
listed_access true (Some cell) n s a h = elim (contains-cases (made n s cell) a [] h) [
  | inl e ↦ (ap (λ z. z.strand) e, ap (λ z. Some (cell_of z)) (sym e))
  | inr none ↦ absurd (none_in a none)
]
listed_access true None n s a h = absurd (none_in a h)
listed_access false found n s a h = absurd (none_in a h)

access_there : (is_done : Bool) (found : Option CellAccess) (number strand : ℕ) (cell : CellAccess) → is_done ≡ true → found ≡ Some cell →
    Contains (option_to_list (if is_done then option_map (made number strand) found else None)) (made number strand cell)
access_there is_done found n s cell d f =
    subst (λ b. Contains (option_to_list (if b then option_map (made n s) found else None)) (made n s cell)) (sym d)
    (subst (λ o. Contains (option_to_list (option_map (made n s) o)) (made n s cell)) (sym f) (contains-head (made n s cell) []))

-- a granted access is one that was asked for
pub asked_access : (entries : Entries) (access : Access) → Contains (granted entries) access → Accesses entries access.strand access.kind access.location
asked_access [] a h = absurd (none_in a h)
asked_access (e ∷ H) a h = elim (Contains-append_cases (granted H) (option_to_list (access_at (suc (length H)) e)) a h) [
  | inl k ↦ (let t = asked_access H a k in (t.0, contains-tail e t.0 H t.1, t.2, t.3))
  | inr k ↦ (
      let p = listed_access (is_granted e.answer) (cell_access e.request.act) (suc (length H)) e.request.strand a k in
      (e, contains-head e H, sym p.0, p.1))
]

-- the granted access of an entry
record IsListed (entries : Entries) (strand : ℕ) (kind : Kind) (cell : ℕ) : Type 0 where
  access : Access
  listed : Contains (granted entries) access
  strand_is : access.strand ≡ strand
  kind_is : access.kind ≡ kind
  cell_is : access.location ≡ cell

granted_access : (entries : Entries) (entry : Entry) (kind : Kind) (cell : ℕ) → Contains entries entry → is_granted entry.answer ≡ true →
    cell_access entry.request.act ≡ Some (access_of kind cell) → IsListed entries entry.request.strand kind cell
granted_access [] one k c h g q = absurd (none_in one h)
granted_access (e ∷ H) one k c h g q = elim (contains-cases e one H h) [
  | inl is ↦ record {
    access = made (suc (length H)) e.request.strand (access_of k c);
    listed = Contains-append_right (granted H) (option_to_list (access_at (suc (length H)) e)) (made (suc (length H)) e.request.strand (access_of k c))
        (access_there (is_granted e.answer) (cell_access e.request.act) (suc (length H)) e.request.strand (access_of k c)
        (subst (λ (x : Entry). is_granted x.answer ≡ true) is g) (subst (λ (x : Entry). cell_access x.request.act ≡ Some (access_of k c)) is q));
    strand_is = ap (λ (x : Entry). x.request.strand) (sym is);
    kind_is = refl;
    cell_is = refl;
  }
  | inr t ↦ (
      let d = granted_access H one k c t g q in
      record {
        access = d.access;
        listed = Contains-append_left (granted H) (option_to_list (access_at (suc (length H)) e)) d.access d.listed;
        strand_is = d.strand_is;
        kind_is = d.kind_is;
        cell_is = d.cell_is;
      })
]

-- what an entry's access has for an answer is right
right_answer : (entry : Entry) (entries : Entries) (access : CellAccess) → MemoryIsJudged (entry ∷ entries) → cell_access entry.request.act ≡ Some access →
    IsRightVerdict entries entry.request.strand access entry.answer
right_answer e H a judged is = subst (λ o. MatchOption o (Unit {0}) (λ one. IsRightVerdict H e.request.strand one e.answer)) is judged.1

later_refusal : (entry : Entry) (entries : Entries) (cell : ℕ) → HasRefusal entries cell → HasRefusal (entry ∷ entries) cell
later_refusal e H c (one, k, h, q, r) = (one, k, contains-tail e one H h, q, r)

later_access : (entry : Entry) (entries : Entries) (strand : ℕ) (kind : Kind) (cell : ℕ) → Accesses entries strand kind cell → Accesses (entry ∷ entries) strand kind cell
later_access e H s k c (one, h, at, q) = (one, contains-tail e one H h, at, q)

module _ (shape : Shape) (whole : History) (legal : Legal whole) where
  -- a refused access is of a strand that is parallel to that of an earlier one
  raced : (entries : Entries) → IsLegal shape entries → MemoryIsJudged entries → Extends whole (control_part entries) → (cell : ℕ) →
      HasRefusal entries cell → HasRaceAt whole entries cell
  raced [] l j ext c (one, k, h, q, r) = absurd (none_in one h)
  raced (e ∷ H) l j ext c (one, k, h, q, r) = elim (contains-cases e one H h) [
    | inl is ↦ (
        let q' : cell_access e.request.act ≡ Some (access_of k c) = subst (λ (x : Entry). cell_access x.request.act ≡ Some (access_of k c)) is q in
        let race = (right_answer e H (access_of k c) j q').refused.0 (subst (λ (x : Entry). IsRefused x.answer) is r) in
        let a = race.0 in
        let asked = asked_access H a race.1.0 in
        let begun = subst (Begun (control_part H)) asked.2 (begun_by shape H l.0 asked.0 asked.1) in (
          a.strand,
          e.request.strand,
          a.kind,
          k,
          later_access e H a.strand a.kind c (subst (λ z. Accesses H a.strand a.kind z) race.1.1 asked),
          (e, contains-head e H, refl, q'),
          race.1.2,
          (parallel_stays (control_part H) whole (extends_earlier whole e H ext) legal a.strand e.request.strand begun (inl l.1.runs)).0 race.1.3,
        ))
    | inr t ↦ (
        let (s, u, m, n, x, y, rule, p) = raced H l.0 j.0 (extends_earlier whole e H ext) c (one, k, t, q, r) in
        (s, u, m, n, later_access e H s m c x, later_access e H u n c y, rule, p))
  ]

  -- of two accesses that race the later is refused, or the earlier
  against_earlier : (entry : Entry) (entries : Entries) → IsLegal shape (entry ∷ entries) → MemoryIsJudged (entry ∷ entries) → Extends whole (control_part entries) →
      (cell : ℕ) (kind other_kind : Kind) (other : ℕ) → cell_access entry.request.act ≡ Some (access_of kind cell) → Accesses entries other other_kind cell →
      rule_between other_kind kind ≡ Race → IsParallel whole other entry.request.strand → HasRefusal (entry ∷ entries) cell
  against_earlier e H l j ext c k m u q (one, h, at, q') rule p =
      elim (granted_or_refused one.request.act one.answer (access_of m c) (belongs_by H l.0 one h) q') [
        | inl g ↦ (
            let d = granted_access H one m c h g q' in
            let begun = begun_by shape H l.0 one h in
            let p' = (parallel_stays (control_part H) whole ext legal one.request.strand e.request.strand begun (inl l.1.runs)).1
            (subst (λ z. IsParallel whole z e.request.strand) (sym at) p) in (
              e,
              k,
              contains-head e H,
              q,
              (right_answer e H (access_of k c) j q).refused.1 (
                d.access,
                (
                  d.listed,
                  d.cell_is,
                  subst (λ z. rule_between z k ≡ Race) (sym d.kind_is) rule,
                  subst (λ z. IsParallel (control_part H) z e.request.strand) (sym d.strand_is) p',
                ),
              ),
            ))
        | inr r ↦ (one, m, contains-tail e one H h, q', r)
      ]
    where
      belongs_by : (entries : Entries) → IsLegal shape entries → (entry : Entry) → Contains entries entry → Belongs entry.request.act entry.answer
      belongs_by [] l one h = absurd (none_in one h)
      belongs_by (e ∷ H) l one h = elim (contains-cases e one H h) [
        | inl is ↦ subst (λ (x : Entry). Belongs x.request.act x.answer) (sym is) l.1.belongs
        | inr t ↦ belongs_by H l.0 one t
      ]

  refused : (entries : Entries) → IsLegal shape entries → MemoryIsJudged entries → Extends whole (control_part entries) → (cell : ℕ) →
      HasRaceAt whole entries cell → HasRefusal entries cell
  refused [] l j ext c (s, u, k, m, x, y, rule, p) = absurd (none_in x.0 x.1)
  refused (e ∷ H) l j ext c (s, u, k, m, x, y, rule, p) =
      go (λ a b. refused H l.0 j.0 earlier c (s, u, k, m, (x.0, a, x.2, x.3), (y.0, b, y.2, y.3), rule, p))
      (contains-cases e x.0 H x.1) (contains-cases e y.0 H y.1)
    where
      earlier : Extends whole (control_part H)
      earlier = extends_earlier whole e H ext

      go : (Contains H x.0 → Contains H y.0 → HasRefusal H c) → (x.0 ≡ e) ⊎ Contains H x.0 → (y.0 ≡ e) ⊎ Contains H y.0 → HasRefusal (e ∷ H) c
      go older (inl a) (inl b) =
          let same : s ≡ u = sym x.2 ∙ ap (λ (z : Entry). z.request.strand) (a ∙ sym b) ∙ y.2 in
          absurd (p.0 (subst (λ z. Reaches whole s z) same stay))
      go older (inl a) (inr b) =
          against_earlier e H l j earlier c k m u (subst (λ (z : Entry). cell_access z.request.act ≡ Some (access_of k c)) a x.3) (y.0, b, y.2, y.3)
          (race_back k m rule) (subst (λ z. IsParallel whole u z) (sym x.2 ∙ ap (λ (z : Entry). z.request.strand) a) (p.1, p.0))
      go older (inr a) (inl b) =
          against_earlier e H l j earlier c m k s (subst (λ (z : Entry). cell_access z.request.act ≡ Some (access_of m c)) b y.3) (x.0, a, x.2, x.3)
          rule (subst (λ z. IsParallel whole s z) (sym y.2 ∙ ap (λ (z : Entry). z.request.strand) b) p)
      go older (inr a) (inr b) = later_refusal e H c (older a b)

pub location_law : LocationLaw
location_law shape entries judged whole ext legal cell = (
  raced shape whole legal entries judged.legal judged.memory ext cell,
  refused shape whole legal entries judged.legal judged.memory ext cell,
)
