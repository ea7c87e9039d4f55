-- Where all findings of a group are sure to be ordered, one sync orders each of them in its trace.
use Rattle.std.proofs.Common.{◌≡◌, inl, inr, ℕ, zero, suc, ◌≤◌, Bool, true, false, not, ◌&&◌, ◌||◌, ◌==◌, nat_lt, List, [], ◌∷◌, Option, Some, None, refl, sym, ap, ◌∙◌, subst, arith}
use Rattle.std.specs.Prelude.{IfSome, slice_get, option_and_then}
use Rattle.std.specs.List.{All}
use Rattle.std.specs.Str.{bytes_eq}
use Rattle.std.proofs.lemmas.Bool.{and_parts, or_cases, eqb-true, ltb-false}
use Rattle.std.proofs.lemmas.Slice.Eq.{bytes_eq-Decides}
use Rattle.std.proofs.lemmas.List.Elements.{All-nil, All-cons, All-head, All-tail}
use Rattle.model_histories.specs.declared.answer.Entry.{Entry}
use Rattle.race_pairs.specs.declared.lineage.Parting.{Parting}
use Rattle.race_pairs.specs.Refusals.{line_in}
use Rattle.race_pairs.specs.Encounters.{IsEncounter}
use Rattle.race_explanations.specs.declared.case.Course.{Course}
use Rattle.race_explanations.specs.declared.finding.Finding.{Finding}
use Rattle.race_explanations.specs.declared.lead.Lead.{Lead}
use Rattle.race_explanations.specs.Settings.{Setting}
use Rattle.race_explanations.specs.Paths.{line_words}
use Rattle.race_explanations.specs.Cases.{spawn_of, onward_of}
use Rattle.race_explanations.specs.FoundGroups.{lead_at, first_place, is_behind, is_ordered_behind, is_ordered_place, leaves_open_place, is_within_lead, is_sure_first, are_sure}
use Rattle.race_explanations.specs.SharedSyncs.{HasPlaceOnLine}
use Rattle.race_explanations.specs.FoundSyncs.{IsLeadIn, IsFoundIn, AreFoundIn, HasPlaceToldAs, IsOrderedAs, IsOrderedPlace, OneSyncOrdersFound}
use Rattle.race_explanations.proofs.OrderedGroups.{not_open, not_found, place_on_line, place_behind}

all_get : {X : Type 0} (P : X → Type 0) (items : List X) (place : ℕ) (one : X) → All P items → slice_get items place ≡ Some one → P one
all_get P [] place one each at = absurd (cc)
all_get P (item ∷ items) zero one each at = let same : item ≡ one = cc in subst P same (All-head P item items each)
all_get P (item ∷ items) (suc place) one each at = all_get P items place one (All-tail P item items each) at

module _ (settings : ℕ → Setting) (traces : ℕ → List Entry) where
  -- a place on a line is one that is told as the line
  told_as : (setting : Setting) (entries : List Entry) (line : ℕ) (q : Parting) (told : List ℕ) → line_words setting.origin line ≡ told →
      HasPlaceOnLine entries line q → HasPlaceToldAs setting entries told q
  told_as setting entries line q told is (number, place, on_line) = (number, place, ap (line_words setting.origin) on_line ∙ is)

  -- the spawner goes on at a place that is told alike
  alike : (other : Lead) (is : IsLeadIn settings traces other) (told : List ℕ) → other.onward.items ≡ told → (q : Parting) → is.encounter.parting ≡ Some q →
      HasPlaceToldAs (settings other.trace) (traces other.trace) told q
  alike other is told same q parts =
      let e = is.encounter in
      let lead = is.is_lead in
      told_as (settings other.trace) (traces other.trace) (line_in (settings other.trace).lines (onward_of e)) q told (sym lead.onward_is ∙ same)
      (place_on_line (traces other.trace) is.is_trace.legal (settings other.trace).lines is.is_trace.lines_are is.pair is.pair e e q q is.is_encounter
      is.is_encounter parts parts refl (omega arith))

  -- the encounter of a lead of the same trace
  in_trace_of : (first : Lead) (is : IsLeadIn settings traces first) (trace : ℕ) → first.trace ≡ trace →
      IsEncounter (traces trace) is.pair is.encounter × (line_words (settings trace).origin (line_in (settings trace).lines (onward_of is.encounter)) ≡ first.onward.items)
  in_trace_of first is trace same =
      subst (λ (t : ℕ). IsEncounter (traces t) is.pair is.encounter ×
      (line_words (settings t).origin (line_in (settings t).lines (onward_of is.encounter)) ≡ first.onward.items)) same
      (is.is_encounter, sym is.is_lead.onward_is)

  -- the spawner goes on behind the first one in one call
  behind : (first other : Lead) → IsLeadIn settings traces first → (is : IsLeadIn settings traces other) → is_behind first other ≡ true → (q : Parting) →
      is.encounter.parting ≡ Some q → HasPlaceToldAs (settings other.trace) (traces other.trace) first.onward.items q
  behind first other one is after q parts =
      let both = and_parts (other.trace == first.trace && other.course.spawn == first.course.spawn) (not (nat_lt other.course.onward first.course.onward)) after in
      let here = and_parts (other.trace == first.trace) (other.course.spawn == first.course.spawn) both.0 in
      let same_trace : other.trace ≡ first.trace = eqb-true other.trace first.trace here.0 in
      let same_spawn : other.course.spawn ≡ first.course.spawn = eqb-true other.course.spawn first.course.spawn here.1 in
      let late : first.course.onward ≤ other.course.onward =
      ltb-false other.course.onward first.course.onward (not_found (nat_lt other.course.onward first.course.onward) both.1) in
      let there = in_trace_of first one other.trace (sym same_trace) in
      let first_spawn : first.course.spawn ≡ spawn_of one.encounter = ap (λ (c : Course). c.spawn) one.is_lead.course_is in
      let other_spawn : other.course.spawn ≡ spawn_of is.encounter = ap (λ (c : Course). c.spawn) is.is_lead.course_is in
      let first_onward : first.course.onward ≡ onward_of one.encounter = ap (λ (c : Course). c.onward) one.is_lead.course_is in
      let other_onward : other.course.onward ≡ onward_of is.encounter = ap (λ (c : Course). c.onward) is.is_lead.course_is in
      told_as (settings other.trace) (traces other.trace) (line_in (settings other.trace).lines (onward_of one.encounter)) q first.onward.items there.1
      (place_behind (traces other.trace) is.is_trace.legal (settings other.trace).lines is.is_trace.lines_are one.pair is.pair one.encounter is.encounter q
      there.0 is.is_encounter parts (sym first_spawn ∙ (sym same_spawn ∙ other_spawn)) (omega (arith, late, first_onward, other_onward)))

  ordered_lead : (first other : Lead) → IsLeadIn settings traces first → is_ordered_behind (Some first) (Some other) ≡ true →
      IsOrderedAs settings traces first.onward.items other
  ordered_lead first other one ordered = λ is. by is is.encounter.parting refl
    where
      by : (is : IsLeadIn settings traces other) (parting : Option Parting) → is.encounter.parting ≡ parting →
          IfSome parting (HasPlaceToldAs (settings other.trace) (traces other.trace) first.onward.items)
      by is None e = tt
      by is (Some q) e = elim (or_cases (bytes_eq other.onward.items first.onward.items) (is_behind first other) ordered) [
        | inl same ↦ alike other is first.onward.items ((bytes_eq-Decides other.onward.items first.onward.items).0 same) q e
        | inr after ↦ behind first other one is after q e
      ]

  module _ (findings : List Finding) (are : AreFoundIn settings traces findings) where
    lead_in : (place : ℕ) (lead : Lead) → lead_at findings place ≡ Some lead → IsLeadIn settings traces lead
    lead_in place lead at = by (slice_get findings place) refl at
      where
        by : (found : Option Finding) → slice_get findings place ≡ found → option_and_then (λ (finding : Finding). finding.lead) found ≡ Some lead →
            IsLeadIn settings traces lead
        by None e at = absurd (cc)
        by (Some finding) e at =
            subst (λ (o : Option Lead). IfSome o (IsLeadIn settings traces)) at (all_get (IsFoundIn settings traces) findings place finding are e)

    -- each is ordered where none is left open
    each_ordered : (first : ℕ) (found : Bool) (places : List ℕ) → leaves_open_place findings first found places ≡ false →
        (found ≡ false) × All (λ place. is_ordered_place findings first place ≡ true) places
    each_ordered first found [] e = (e, All-nil (λ place. is_ordered_place findings first place ≡ true))
    each_ordered first found (place ∷ places) e =
        let rest = each_ordered first (found || not (is_ordered_place findings first place)) places e in
        let both = not_open found (is_ordered_place findings first place) rest.0 in
        (both.0, All-cons (λ other. is_ordered_place findings first other ≡ true) place places both.1 rest.1)

    ordered_place : (first : Lead) (place : ℕ) → IsLeadIn settings traces first → is_ordered_behind (Some first) (lead_at findings place) ≡ true →
        IsOrderedPlace settings traces first.onward.items findings place
    ordered_place first place one ordered = by (lead_at findings place) refl ordered
      where
        by : (other : Option Lead) → lead_at findings place ≡ other → is_ordered_behind (Some first) other ≡ true →
            IfSome other (IsOrderedAs settings traces first.onward.items)
        by None e o = tt
        by (Some other) e o = ordered_lead first other one o

    all_places : (head : ℕ) (first : Lead) → lead_at findings head ≡ Some first → (places : List ℕ) →
        All (λ place. is_ordered_place findings head place ≡ true) places → All (IsOrderedPlace settings traces first.onward.items findings) places
    all_places head first at [] each = All-nil (IsOrderedPlace settings traces first.onward.items findings)
    all_places head first at (place ∷ places) each =
        let here : is_ordered_behind (Some first) (lead_at findings place) ≡ true =
        subst (λ (o : Option Lead). is_ordered_behind o (lead_at findings place) ≡ true) at
        (All-head (λ other. is_ordered_place findings head other ≡ true) place places each) in
        All-cons (IsOrderedPlace settings traces first.onward.items findings) place places (ordered_place first place (lead_in head first at) here)
        (all_places head first at places (All-tail (λ other. is_ordered_place findings head other ≡ true) place places each))

    -- the sync that is told orders each, where it is sure to
    pub sync_orders_found : (places : List ℕ) → are_sure findings places ≡ true → OneSyncOrdersFound settings traces findings places
    sync_orders_found places sure = by (first_place findings None places) refl sure
      where
        by : (head : Option ℕ) → first_place findings None places ≡ head → is_sure_first findings head places ≡ true →
            OneSyncOrdersFound settings traces findings places
        by None e o = cc
        by (Some head) e o = here (lead_at findings head) refl
          where
            both : (is_within_lead (lead_at findings head) ≡ true) × (not (leaves_open_place findings head false places) ≡ true)
            both = and_parts (is_within_lead (lead_at findings head)) (not (leaves_open_place findings head false places)) o

            here : (lead : Option Lead) → lead_at findings head ≡ lead → OneSyncOrdersFound settings traces findings places
            here None at = let inside = both.0 in let never : is_within_lead None ≡ true = ap is_within_lead (sym at) ∙ inside in absurd (cc)
            here (Some first) at =
                let each = each_ordered head false places (not_found (leaves_open_place findings head false places) both.1) in
                (first, ap (option_and_then (lead_at findings)) e ∙ at, all_places head first at places each.1)
