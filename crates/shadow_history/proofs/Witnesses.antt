-- The latest parallel access of each kind, and the witness among them.
use Rattle.std.proofs.Common.{◌≡◌, ◌⊎◌, ◌↔◌, ◌≤◌, inl, inr, ℕ, false, not, IsTrue, IsSome, Option, Some, None, List, Contains, refl, sym, ap, ◌∙◌, subst}
use Rattle.model_accesses.specs.declared.kind.Kind.{Kind}
use Rattle.model_accesses.specs.declared.kind.Rule.TheVariants.{Race}
use Rattle.model_accesses.specs.Table.{rule_between}
use Rattle.law_addresses.specs.Address.{english, hebrew, english_before, hebrew_before}
use Rattle.law_addresses.proofs.Orders.{english-ranks, hebrew-ranks, before-total}
use Rattle.law_addresses.proofs.Relations.{cases_same}
use Rattle.law_addresses.proofs.Extremes.{before-passes}
use Rattle.model_strands.specs.History.{History}
use Rattle.model_strands.specs.Strands.{Running}
use Rattle.model_strands.specs.Legal.{Legal}
use Rattle.model_strands.specs.Dag.{IsParallel}
use Rattle.model_strands.specs.Addresses.{address}
use Rattle.law_strands.specs.Addresses.{IsEnglishBefore, IsHebrewBefore}
use Rattle.shadow_history.specs.declared.cell.Extremes.{Extremes}
use Rattle.model_accesses.specs.declared.witness.Witness.{Witness}
use Rattle.model_accesses.specs.Accesses.{Access, Races, access_of_witness}
use Rattle.shadow_history.specs.Accesses.{HaveAllBegun, IsExtreme}
use Rattle.shadow_history.specs.Witnesses.{place, NoneIsParallel, IsLatestParallel, IsWitness}
use Rattle.shadow_history.specs.Shadow.{access_of, AreExtremes}
use Rattle.shadow_history.proofs.Parallel.{parallel-english, parallel-hebrew, parallel-later}

module _ (history : History) (accesses : List Access) (location : ℕ) (kind : Kind) (strand : ℕ) (extremes : Extremes) (legal : Legal history)
    (runs : Running history strand) (begun : HaveAllBegun history accesses) (are : AreExtremes history accesses location kind extremes) where
  -- no access is later than the running strand in either order
  pub none-parallel : (IsEnglishBefore history strand extremes.english.strand → ⊥) → (IsHebrewBefore history strand extremes.hebrew.strand → ⊥) →
      NoneIsParallel history accesses location kind strand
  none-parallel not_english not_hebrew access added par = elim (parallel-later history legal strand runs access.strand (begun access added.0) par) [
    | inl h ↦ not_english (before-passes english english-ranks (address history strand) (address history access.strand)
        (address history extremes.english.strand) h (are.english.last.none_after access added))
    | inr h ↦ not_hebrew (before-passes hebrew hebrew-ranks (address history strand) (address history access.strand)
        (address history extremes.hebrew.strand) h (are.hebrew.last.none_after access added))
  ]

  -- the English-last strand is later than the running one in one of the orders
  pub latest-english : IsEnglishBefore history strand extremes.english.strand ⊎ IsHebrewBefore history strand extremes.english.strand →
      IsLatestParallel history accesses strand (access_of location kind extremes.english)
  latest-english later = record {
    parallel = elim later [
      | inl h ↦ parallel-english history legal strand runs extremes.english.strand (begun _ are.english.last.is_member.0) h
      | inr h ↦ parallel-hebrew history legal strand runs extremes.english.strand (begun _ are.english.last.is_member.0) h
    ];
    extreme = inl are.english;
  }

  -- it is not, and the Hebrew-last strand is
  pub latest-hebrew : (IsEnglishBefore history strand extremes.english.strand → ⊥) → (IsHebrewBefore history strand extremes.english.strand → ⊥) →
      IsHebrewBefore history strand extremes.hebrew.strand → IsLatestParallel history accesses strand (access_of location kind extremes.hebrew)
  latest-hebrew not_english not_hebrew later = record {
    parallel = parallel-hebrew history legal strand runs extremes.hebrew.strand (begun _ are.hebrew.last.is_member.0) later;
    extreme = inr (no_other, are.hebrew);
  }
    where
      no_other : (other : Access) → other.location ≡ location → other.kind ≡ kind → IsExtreme english history accesses other →
          IsParallel history other.strand strand → ⊥
      no_other other same_location same_kind extreme par =
          elim (parallel-later history legal strand runs other.strand (begun other extreme.last.is_member.0) par) [
            | inl h ↦ not_english (subst (λ a. IsTrue (english_before (address history strand) a)) same h)
            | inr h ↦ not_hebrew (subst (λ a. IsTrue (hebrew_before (address history strand) a)) same h)
          ]
        where
          not_before : english_before (address history extremes.english.strand) (address history other.strand) ≡ false
          not_before = are.english.last.none_after other (extreme.last.is_member.0, same_location, same_kind)

          not_after : english_before (address history other.strand) (address history extremes.english.strand) ≡ false
          not_after = extreme.last.none_after (access_of location kind extremes.english)
              (are.english.last.is_member.0, sym same_location, sym same_kind)

          same : address history other.strand ≡ address history extremes.english.strand
          same = elim (cases_same (address history other.strand) (address history extremes.english.strand)) [
            | inl e ↦ e
            | inr apart ↦ (
                let turned = before-total english english-ranks (address history other.strand) (address history extremes.english.strand) apart in
                let clash : not false ≡ false = sym (ap not not_after) ∙ (sym turned ∙ not_before) in
                absurd (cc)
                )
          ]

-- the access that is the latest parallel one is of the list
listed : (history : History) (accesses : List Access) (strand : ℕ) (access : Access) → IsLatestParallel history accesses strand access → Contains accesses access
listed history accesses strand access latest = elim latest.extreme [
  | inl extreme ↦ extreme.last.is_member.0
  | inr extreme ↦ extreme.1.last.is_member.0
]

-- the latest parallel access of a kind that conflicts, where no kind before it that conflicts has any
pub witness-found : (history : History) (accesses : List Access) (location : ℕ) (kind : Kind) (strand : ℕ) (earlier : Kind) (witness : Witness) →
    rule_between earlier kind ≡ Race →
    ((other : Kind) → (place earlier ≤ place other) ⊎ (rule_between other kind ≡ Race → NoneIsParallel history accesses location other strand)) →
    (witness.kind ≡ earlier) × IsLatestParallel history accesses strand (access_of_witness location witness) →
    IsWitness history accesses location kind strand witness
witness-found history accesses location kind strand earlier witness conflict before_it (same_kind, latest) = record {
  races = (listed history accesses strand (access_of_witness location witness) latest, refl, rw same_kind conflict, latest.parallel);
  first_kind = λ access races. elim (before_it access.kind) [
    | inl le ↦ rw same_kind le
    | inr none ↦ absurd (none races.2 access (races.0, races.1, refl) races.3)
  ];
  latest = latest;
}

pub exact-found : (history : History) (accesses : List Access) (location : ℕ) (kind : Kind) (strand : ℕ) (witness : Witness) →
    IsWitness history accesses location kind strand witness → IsSome (Some witness) ↔ ((access : Access) × Races history accesses location kind strand access)
exact-found history accesses location kind strand witness is = (λ t. (access_of_witness location witness, is.races), λ t. refl)

pub exact-none : (history : History) (accesses : List Access) (location : ℕ) (kind : Kind) (strand : ℕ) (found : Option Witness) → found ≡ None →
    ((other : Kind) → rule_between other kind ≡ Race → NoneIsParallel history accesses location other strand) →
    IsSome found ↔ ((access : Access) × Races history accesses location kind strand access)
exact-none history accesses location kind strand found is none = (
  λ t. absurd (let some = rw is at t in cc),
  λ (access, races). absurd (none access.kind races.2 access (races.0, races.1, refl) races.3),
)
