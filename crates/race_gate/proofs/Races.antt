-- Races stay as a history grows.
use Rattle.std.proofs.Common.{◌≡◌, ◌<◌, ◌⊎◌, inl, inr, ℕ, suc, Bool, true, false, Option, Some, None, [], ◌∷◌, ◌++◌, length, Contains, append_assoc, refl, sym, ap, subst, arith}
use Rattle.std.proofs.lemmas.List.Elements.{Contains-append_cases}
use Rattle.std.specs.Prelude.{MatchOption, if◌then◌else◌}
use Rattle.std.specs.Option.{option_map, option_to_list}
use Rattle.model_strands.specs.History.{Event, History}
use Rattle.model_strands.specs.Strands.{Begun}
use Rattle.model_strands.specs.Legal.{Allowed, Legal, start, then as grown}
use Rattle.model_strands.specs.Dag.{IsParallel}
use Rattle.model_strands.specs.Extensions.{Extends as ControlExtends}
use Rattle.law_strands.proofs.Branches.{stability_law}
use Rattle.model_accesses.specs.Accesses.{Access}
use Rattle.shadow_history.specs.Accesses.{HaveAllBegun}
use Rattle.shadow_history.proofs.Added.{listed-cases}
use Rattle.model_races.specs.declared.access.CellAccess.{CellAccess}
use Rattle.model_histories.specs.declared.answer.Entry.{Entry}
use Rattle.model_histories.specs.Entries.{Entries, event_of, with_event, control_part}
use Rattle.model_histories.specs.Shapes.{Shape}
use Rattle.model_histories.specs.Legal.{IsLegal}
use Rattle.model_races.specs.Accesses.{cell_access, is_granted, access_at, granted}
use Rattle.model_races.specs.Verdicts.{IsRightVerdict, MemoryIsJudged}
use Rattle.model_histories.specs.Extensions.{ExtendsEntries}
use Rattle.race_gate.specs.Laws.{RaceLaw}
use Rattle.model_races.specs.Laws.{VerdictLaw}

-- the control part of a legal history is legal
legal-with : (event : Option Event) (history : History) → Legal history → MatchOption event (Unit {0}) (Allowed history) → Legal (with_event event history)
legal-with (Some event) history legal allowed = grown legal allowed
legal-with None history legal allowed = legal

pub legal-part : (shape : Shape) (entries : Entries) → IsLegal shape entries → Legal (control_part entries)
legal-part shape [] legal = start
legal-part shape (entry ∷ entries) legal = legal-with (event_of entry) (control_part entries) (legal-part shape entries legal.0) legal.1.allowed

-- and goes on as the history does
extends-with : (event : Option Event) (longer history : History) → ControlExtends longer history → ControlExtends (with_event event longer) history
extends-with (Some event) longer history (later, same) = (event ∷ later, ap (λ h. event ∷ h) same)
extends-with None longer history extends = extends

pub extends-part : (later entries : Entries) → ControlExtends (control_part (later ++ entries)) (control_part entries)
extends-part [] entries = ([], refl)
extends-part (entry ∷ later) entries = extends-with (event_of entry) (control_part (later ++ entries)) (control_part entries) (extends-part later entries)

pub none-listed : {X : Type 0} (x : X) → Contains [] x → ⊥
none-listed x h = let below : h.0 < 0 = h.1 in absurd (omega arith)

at-strand : (granted : Bool) (found : Option CellAccess) (number strand : ℕ) (access : Access) →
    (if granted then option_map (λ (cell : CellAccess). let made : Access = record { strand = strand; kind = cell.kind; location = cell.location; entry = number } in made) found else None) ≡ Some access →
    access.strand ≡ strand
at-strand true (Some cell) number strand access is = cc
at-strand true None number strand access is = absurd (cc)
at-strand false found number strand access is = absurd (cc)

listed-at : (found : Option Access) (strand : ℕ) → ((access : Access) → found ≡ Some access → access.strand ≡ strand) → (access : Access) →
    Contains (option_to_list found) access → access.strand ≡ strand
listed-at None strand fact access h = absurd (none-listed access h)
listed-at (Some one) strand fact access h =
    elim (listed-cases [] one access h) [ inl k ↦ absurd (none-listed access k) | inr e ↦ rw e (fact one refl) ]

-- a listed access is an earlier one or that of the entry
granted-cases : (entry : Entry) (entries : Entries) (access : Access) → Contains (granted (entry ∷ entries)) access →
    Contains (granted entries) access ⊎ (access.strand ≡ entry.request.strand)
granted-cases entry entries access h = elim (Contains-append_cases (granted entries) (option_to_list (access_at (suc (length entries)) entry)) access h) [
  | inl k ↦ inl k
  | inr k ↦ inr (listed-at (access_at (suc (length entries)) entry) entry.request.strand
      (at-strand (is_granted entry.answer) (cell_access entry.request.act) (suc (length entries)) entry.request.strand) access k)
]

-- the strands of granted accesses have begun
all-begun : (shape : Shape) (entries : Entries) → IsLegal shape entries → HaveAllBegun (control_part entries) (granted entries)
all-begun shape [] legal access h = absurd (none-listed access h)
all-begun shape (entry ∷ entries) legal access h =
    let longer = legal-part shape (entry ∷ entries) legal in
    let extends = extends-part (entry ∷ []) entries in
    let stays : (strand : ℕ) → Begun (control_part entries) strand → Begun (control_part (entry ∷ entries)) strand =
    λ strand begun. (stability_law (control_part entries) (control_part (entry ∷ entries)) extends longer strand begun).0.begun in
    elim (granted-cases entry entries access h) [
      | inl k ↦ stays access.strand (all-begun shape entries legal.0 access k)
      | inr e ↦ stays access.strand (rw e (inl legal.1.runs))
    ]

legal-earlier : (shape : Shape) (later entries : Entries) → IsLegal shape (later ++ entries) → IsLegal shape entries
legal-earlier shape [] entries legal = legal
legal-earlier shape (entry ∷ later) entries legal = legal-earlier shape later entries legal.0

pub race_law : RaceLaw
race_law shape entries longer (later, same) legal' strand runs access =
    let legal : IsLegal shape (later ++ entries) = subst (λ xs. IsLegal shape xs) (sym same) legal' in
    let begun = all-begun shape entries (legal-earlier shape later entries legal) in
    let stay = stability_law (control_part entries) (control_part (later ++ entries)) (extends-part later entries) (legal-part shape (later ++ entries) legal) in
    let part : control_part (later ++ entries) ≡ control_part longer = ap control_part same in
    let to : (earlier : Access) → Contains (granted entries) earlier → IsParallel (control_part entries) earlier.strand strand → IsParallel (control_part longer) earlier.strand strand =
    λ earlier h p. subst (λ dag. IsParallel dag earlier.strand strand) part (
      (λ r. p.0 (((stay earlier.strand (begun earlier h)).1 strand (inl runs)).reach.0 r)),
      (λ r. p.1 (((stay strand (inl runs)).1 earlier.strand (begun earlier h)).reach.0 r)),
    ) in
    let back : (earlier : Access) → Contains (granted entries) earlier → IsParallel (control_part longer) earlier.strand strand → IsParallel (control_part entries) earlier.strand strand =
    λ earlier h q. let p = subst (λ dag. IsParallel dag earlier.strand strand) (sym part) q in (
      (λ r. p.0 (((stay earlier.strand (begun earlier h)).1 strand (inl runs)).reach.1 r)),
      (λ r. p.1 (((stay strand (inl runs)).1 earlier.strand (begun earlier h)).reach.1 r)),
    ) in (
      (λ (earlier, (h, at, rule, p)). (earlier, (h, at, rule, to earlier h p))),
      (λ (earlier, (h, at, rule, q)). (earlier, (h, at, rule, back earlier h q))),
    )

-- each verdict was right when it came
right-then : (later entries : Entries) (entry : Entry) (access : CellAccess) → cell_access entry.request.act ≡ Some access →
    MemoryIsJudged (later ++ entry ∷ entries) → IsRightVerdict entries entry.request.strand access entry.answer
right-then [] entries entry access is judged =
    subst (λ found. MatchOption found (Unit {0}) (λ one. IsRightVerdict entries entry.request.strand one entry.answer)) is judged.1
right-then (newer ∷ later) entries entry access is judged = right-then later entries entry access is judged.0

pub verdict_law : VerdictLaw
verdict_law shape later entries entry access judged is =
    let runs = (legal-earlier shape later (entry ∷ entries) judged.legal).1.runs in
    let extends : ExtendsEntries (later ++ entry ∷ entries) entries = (later ++ entry ∷ [], append_assoc later (entry ∷ []) entries) in
    let stays = race_law shape entries (later ++ entry ∷ entries) extends judged.legal entry.request.strand runs access in
    let refused = (right-then later entries entry access is judged.memory).refused in
    ((λ r. stays.0 (refused.0 r)), (λ race. refused.1 (stays.1 race)))
