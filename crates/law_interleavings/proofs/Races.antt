-- In a clean history deeds that conflict are ordered.
use Rattle.std.proofs.Common.{rules, ◌≡◌, ◌⊎◌, inl, inr, ℕ, suc, Bool, true, false, [], ◌∷◌, length, Option, Some, None, Contains, refl, sym, ap, ◌∙◌, subst, subst₂}
use Rattle.std.proofs.lemmas.List.Elements.{Contains-append_left, Contains-append_right, Contains-append_cases}
use Rattle.std.specs.Prelude.{if◌then◌else◌, MatchOption}
use Rattle.std.specs.Option.{option_map, option_to_list}
use Rattle.model_accesses.specs.declared.kind.Kind.{Kind}
use Rattle.model_accesses.specs.declared.kind.Rule.TheVariants.{Race}
use Rattle.model_accesses.specs.Table.{rule_between}
use Rattle.law_addresses.specs.Address.{reaches}
use Rattle.law_addresses.proofs.Extremes.{contains-head, contains-cases}
use Rattle.law_addresses.proofs.Relations.{reaches-self}
use Rattle.model_accesses.specs.declared.request.Act.{Act}
use Rattle.model_accesses.specs.declared.request.Act.TheVariants.{Read, Write, Bump}
use Rattle.model_strands.specs.Strands.{Begun}
use Rattle.model_strands.specs.Dag.{IsParallel}
use Rattle.model_strands.specs.Addresses.{address}
use Rattle.law_strands.proofs.Words.{precedes_or_not}
use Rattle.law_strands.proofs.Law.{reach_precedes, precedes_reach}
use Rattle.model_accesses.specs.Accesses.{Access}
use Rattle.model_races.specs.declared.access.CellAccess.{CellAccess}
use Rattle.model_histories.specs.declared.answer.Answer.{Answer}
use Rattle.model_histories.specs.declared.answer.Answer.TheVariants.{Granted, Value, Refused}
use Rattle.model_histories.specs.declared.answer.Entry.{Entry}
use Rattle.model_histories.specs.Entries.{Entries, control_part}
use Rattle.model_histories.specs.Shapes.{Shape}
use Rattle.model_histories.specs.Legal.{Belongs, IsLegal}
use Rattle.model_races.specs.Accesses.{cell_access, is_granted, access_at, granted}
use Rattle.model_races.specs.Verdicts.{IsRefused, IsRightVerdict, MemoryIsJudged}
use Rattle.model_histories.specs.Extensions.{IsCleanAnswer}
use Rattle.law_interleavings.proofs.Control.{legal_part, none_listed}
use Rattle.law_interleavings.specs.Traces.{Notes, Occurrence, occurrence_address, occurrence_of, trace}
use Rattle.law_interleavings.proofs.Swaps.{Member}
use Rattle.law_interleavings.proofs.Traces.{placed, begun_on}
use Rattle.law_interleavings.proofs.Spoken.{NoneRefused}

-- the two acts are accesses of one cell, and conflict
pub record Conflict (one other : Act) : Type 0 where
  pub first : CellAccess
  pub second : CellAccess
  pub is_first : cell_access one ≡ Some first
  pub is_second : cell_access other ≡ Some second
  pub location : first.location ≡ second.location
  pub rule : rule_between first.kind second.kind ≡ Race

rule_symmetric : (old new : Kind) → rule_between old new ≡ rule_between new old
rule_symmetric old new = search rules

pub conflict_back : (one other : Act) → Conflict one other → Conflict other one
conflict_back a b c =
    record {
      first = c.second;
      second = c.first;
      is_first = c.is_second;
      is_second = c.is_first;
      location = sym c.location;
      rule = rule_symmetric c.second.kind c.first.kind ∙ c.rule;
    }

-- an access that is not refused is granted
access_granted : (act : Act) (answer : Answer) (cell : CellAccess) → Belongs act answer → IsCleanAnswer answer → cell_access act ≡ Some cell → is_granted answer ≡ true
access_granted (Read l) (Value v) cell b c q = refl
access_granted (Read l) (Refused rule w) cell b c q = absurd c
access_granted (Read l) _ cell b c q = absurd b
access_granted (Write l v) Granted cell b c q = refl
access_granted (Write l v) (Refused rule w) cell b c q = absurd c
access_granted (Write l v) _ cell b c q = absurd b
access_granted (Bump l v) Granted cell b c q = refl
access_granted (Bump l v) (Refused rule w) cell b c q = absurd c
access_granted (Bump l v) _ cell b c q = absurd b
access_granted _ answer cell b c q = cc

abbrev made : ℕ → ℕ → CellAccess → Access
made number strand cell = record { strand = strand; kind = cell.kind; location = cell.location; entry = number }

abbrev cell_of_access : Access → CellAccess
cell_of_access access = record { kind = access.kind; location = access.location }

listed_access : (is_done : Bool) (found : Option CellAccess) (number strand : ℕ) (access : Access) →
    Contains (option_to_list (if is_done then option_map (made number strand) found else None)) access →
    (access.strand ≡ strand) × (found ≡ Some (cell_of_access access))
listed_access true (Some cell) n s a h = elim (contains-cases (made n s cell) a [] h) [
  | inl e ↦ (ap (λ z. z.strand) e, ap (λ z. Some (cell_of_access z)) (sym e))
  | inr none ↦ absurd (none_listed a none)
]
listed_access true None n s a h = absurd (none_listed a h)
listed_access false found n s a h = absurd (none_listed a h)

access_there : (is_done : Bool) (found : Option CellAccess) (number strand : ℕ) (cell : CellAccess) → is_done ≡ true → found ≡ Some cell →
    Contains (option_to_list (if is_done then option_map (made number strand) found else None)) (made number strand cell)
access_there is_done found n s cell d f =
    subst (λ b. Contains (option_to_list (if b then option_map (made n s) found else None)) (made n s cell)) (sym d)
    (subst (λ o. Contains (option_to_list (option_map (made n s) o)) (made n s cell)) (sym f) (contains-head (made n s cell) []))

module _ {Note : Type 0} (shape : Shape) (T : Notes Note) where
  -- the deed of a granted access
  pub record AccessDeed (H : Entries) (access : Access) : Type 0 where
    pub deed : Occurrence Note
    pub done : Member (trace T H) deed
    pub at : occurrence_address deed ≡ address (control_part H) access.strand
    pub begun : Begun (control_part H) access.strand
    pub is : cell_access deed.newest.act ≡ Some (cell_of_access access)

  pub access_deed : (H : Entries) → IsLegal shape H → (access : Access) → Contains (granted H) access → AccessDeed H access
  access_deed [] l a h = absurd (none_listed a h)
  access_deed (e ∷ H) l a h = go (access_deed H l.0 a) (Contains-append_cases (granted H) (option_to_list (access_at (suc (length H)) e)) a h)
    where
      go : (Contains (granted H) a → AccessDeed H a) → Contains (granted H) a ⊎ Contains (option_to_list (access_at (suc (length H)) e)) a → AccessDeed (e ∷ H) a
      go older (inl k) =
          let d = older k in
          let t = begun_on shape H e l a.strand d.begun in
          record { deed = d.deed; done = inr d.done; at = d.at ∙ sym t.1; begun = t.0; is = d.is }
      go older (inr k) =
          let p = listed_access (is_granted e.answer) (cell_access e.request.act) (suc (length H)) e.request.strand a k in
          let t = begun_on shape H e l e.request.strand (inl l.1.runs) in
          record {
            deed = occurrence_of T H e;
            done = inl refl;
            at = placed shape T H e l ∙ sym t.1 ∙ ap (address (control_part (e ∷ H))) (sym p.0);
            begun = subst (Begun (control_part (e ∷ H))) (sym p.0) t.0;
            is = p.1;
          }

  -- the granted access of a deed
  pub record DeedAccess (H : Entries) (deed : Occurrence Note) (cell : CellAccess) : Type 0 where
    pub access : Access
    pub listed : Contains (granted H) access
    pub kind : access.kind ≡ cell.kind
    pub location : access.location ≡ cell.location
    pub at : address (control_part H) access.strand ≡ occurrence_address deed
    pub begun : Begun (control_part H) access.strand

  pub deed_access : (H : Entries) → IsLegal shape H → NoneRefused H → (y : Occurrence Note) → Member (trace T H) y → (cell : CellAccess) →
      cell_access y.newest.act ≡ Some cell → DeedAccess H y cell
  deed_access [] l c y m cell q = absurd m
  deed_access (e ∷ H) l c y (inr m) cell q =
      let d = deed_access H l.0 c.1 y m cell q in
      let t = begun_on shape H e l d.access.strand d.begun in
      record {
        access = d.access;
        listed = Contains-append_left (granted H) (option_to_list (access_at (suc (length H)) e)) d.access d.listed;
        kind = d.kind;
        location = d.location;
        at = t.1 ∙ d.at;
        begun = t.0;
      }
  deed_access (e ∷ H) l c y (inl n) cell q =
      let is : cell_access e.request.act ≡ Some cell = ap (λ z. cell_access z.newest.act) (sym n) ∙ q in
      let g = access_granted e.request.act e.answer cell l.1.belongs c.0 is in
      let t = begun_on shape H e l e.request.strand (inl l.1.runs) in
      let a = made (suc (length H)) e.request.strand cell in
      record {
        access = a;
        listed = Contains-append_right (granted H) (option_to_list (access_at (suc (length H)) e)) a
            (access_there (is_granted e.answer) (cell_access e.request.act) (suc (length H)) e.request.strand cell g is);
        kind = refl;
        location = refl;
        at = t.1 ∙ sym (placed shape T H e l) ∙ sym (ap occurrence_address n);
        begun = t.0;
      }

  -- strands neither of whose addresses reaches the other are parallel
  apart_parallel : (H : Entries) → IsLegal shape H → (s u : ℕ) → (reaches (address (control_part H) s) (address (control_part H) u) ≡ true → ⊥) →
      (reaches (address (control_part H) u) (address (control_part H) s) ≡ true → ⊥) → IsParallel (control_part H) s u
  apart_parallel H l s u p q = (
    (λ r. p (reach_precedes (control_part H) (legal_part shape H l) s u r)),
    (λ r. q (reach_precedes (control_part H) (legal_part shape H l) u s r)),
  )

  not_refused : (answer : Answer) → IsCleanAnswer answer → IsRefused answer → ⊥
  not_refused (Refused rule w) c r = c
  not_refused _ c r = absurd r

  abbrev AreComparable : Occurrence Note → Occurrence Note → Type 0
  AreComparable x y = (reaches (occurrence_address x) (occurrence_address y) ≡ true) ⊎ (reaches (occurrence_address y) (occurrence_address x) ≡ true)

  -- a deed and an earlier one with which it conflicts
  earlier_compared : (H : Entries) (e : Entry) → IsLegal shape (e ∷ H) → MemoryIsJudged (e ∷ H) → NoneRefused (e ∷ H) → (y : Occurrence Note) →
      Member (trace T H) y → Conflict y.newest.act e.request.act → AreComparable y (occurrence_of T H e)
  earlier_compared H e l j c y m k =
      let a = deed_access H l.0 c.1 y m k.first k.is_first in
      let at_new = placed shape T H e l in
      let right : IsRightVerdict H e.request.strand k.second e.answer =
      subst (λ o. MatchOption o (Unit {0}) (λ one. IsRightVerdict H e.request.strand one e.answer)) k.is_second j.1 in
      let none : IsParallel (control_part H) a.access.strand e.request.strand → ⊥ =
      λ p. not_refused e.answer c.0 (right.refused.1 (a.access, (a.listed, a.location ∙ k.location, ap (λ z. rule_between z k.second.kind) a.kind ∙ k.rule, p))) in
      elim (precedes_or_not (address (control_part H) a.access.strand) (address (control_part H) e.request.strand)) [
        | inl r ↦ inl (subst₂ (λ u v. reaches u v ≡ true) a.at (sym at_new) r)
        | inr p ↦ elim (precedes_or_not (address (control_part H) e.request.strand) (address (control_part H) a.access.strand)) [
          | inl r ↦ inr (subst₂ (λ u v. reaches u v ≡ true) (sym at_new) a.at r)
          | inr q ↦ absurd (none (apart_parallel H l.0 a.access.strand e.request.strand p q))
        ]
      ]

  -- two deeds that conflict
  pub compared : (H : Entries) → IsLegal shape H → MemoryIsJudged H → NoneRefused H → (x y : Occurrence Note) → Member (trace T H) x → Member (trace T H) y →
      Conflict x.newest.act y.newest.act → AreComparable x y
  compared [] l j c x y m n k = absurd m
  compared (e ∷ H) l j c x y (inl p) (inl q) k = inl (subst (λ z. reaches z (occurrence_address y) ≡ true) (ap occurrence_address (q ∙ sym p)) (reaches-self (occurrence_address y)))
  compared (e ∷ H) l j c x y (inr m) (inr n) k = compared H l.0 j.0 c.1 x y m n k
  compared (e ∷ H) l j c x y (inr m) (inl q) k =
      subst (AreComparable x) (sym q) (earlier_compared H e l j c x m (subst (λ z. Conflict x.newest.act z.newest.act) q k))
  compared (e ∷ H) l j c x y (inl p) (inr n) k =
      let t = earlier_compared H e l j c y n (conflict_back e.request.act y.newest.act (subst (λ z. Conflict z.newest.act y.newest.act) p k)) in
      subst (λ z. AreComparable z y) (sym p) (elim t [ inl r ↦ inr r | inr r ↦ inl r ])

  -- so a deed that conflicts with none but comparable ones is not refused
  pub no_race : (H : Entries) (e : Entry) → IsLegal shape (e ∷ H) → MemoryIsJudged (e ∷ H) → (cell : CellAccess) → cell_access e.request.act ≡ Some cell →
      ((y : Occurrence Note) → Member (trace T H) y → Conflict y.newest.act e.request.act → AreComparable y (occurrence_of T H e)) → IsRefused e.answer → ⊥
  no_race H e l j cell is all refused =
      let right : IsRightVerdict H e.request.strand cell e.answer =
      subst (λ o. MatchOption o (Unit {0}) (λ one. IsRightVerdict H e.request.strand one e.answer)) is j.1 in
      let race = right.refused.0 refused in
      let a = race.0 in
      let d = access_deed H l.0 a race.1.0 in
      let at_new = placed shape T H e l in
      let k : Conflict d.deed.newest.act e.request.act =
      record { first = cell_of_access a; second = cell; is_first = d.is; is_second = is; location = race.1.1; rule = race.1.2 } in
      elim (all d.deed d.done k) [
        | inl r ↦ race.1.3.0 (precedes_reach (control_part H) (legal_part shape H l.0) a.strand e.request.strand d.begun (inl l.1.runs)
            (subst₂ (λ u v. reaches u v ≡ true) d.at at_new r))
        | inr r ↦ race.1.3.1 (precedes_reach (control_part H) (legal_part shape H l.0) e.request.strand a.strand (inl l.1.runs) d.begun
            (subst₂ (λ u v. reaches u v ≡ true) at_new d.at r))
      ]
