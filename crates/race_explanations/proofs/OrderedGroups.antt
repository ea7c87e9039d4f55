-- Where all of a group are sure to be ordered, one sync orders each of them.
use Rattle.std.proofs.Common.{◌≡◌, ◌⊎◌, inl, inr, ℕ, zero, suc, ◌<◌, ◌≤◌, Bool, true, false, not, ◌||◌, ◌==◌, nat_lt, if◌then◌else◌, List, [], ◌∷◌, ◌++◌, map, reverse, Option, Some, None, refl, sym, ap, ◌∙◌, subst, arith}
use Rattle.std.specs.Prelude.{IfSome, slice_get, unwrap_or}
use Rattle.std.specs.Option.{option_map}
use Rattle.std.specs.List.{All}
use Rattle.std.proofs.lemmas.Bool.{and_parts, eqb-true, ltb-false}
use Rattle.std.proofs.lemmas.List.Elements.{All-nil, All-cons, All-head, All-tail}
use Rattle.model_histories.specs.declared.answer.Entry.{Entry}
use Rattle.model_histories.specs.Shapes.{Shape}
use Rattle.model_histories.specs.Legal.{IsLegal}
use Rattle.race_pairs.specs.declared.lineage.Parting.{Parting}
use Rattle.race_pairs.specs.declared.race.Pair.{Pair}
use Rattle.race_pairs.specs.declared.encounter.Encounter.{Encounter}
use Rattle.race_pairs.specs.Refusals.{line_in}
use Rattle.race_pairs.specs.Encounters.{PartAt, GoesOn, IsEncounter}
use Rattle.race_pairs.specs.Syncs.{IsPlaceToSync}
use Rattle.race_pairs.proofs.SharedSyncs.{orders_both, line_of_place, spawn_numbered}
use Rattle.race_explanations.specs.declared.case.Case.{Case}
use Rattle.race_explanations.specs.declared.case.Course.{Course}
use Rattle.race_explanations.specs.Settings.{Setting}
use Rattle.race_explanations.specs.Cases.{AreCases, none, more, spawn_of, onward_of, course_of}
use Rattle.race_explanations.specs.Names.{are_in_one_call}
use Rattle.race_explanations.specs.Groups.{course_if, courses_of, before, nearer, first_among, is_ordered, leaves_open, is_sure_of, is_sure_at}
use Rattle.race_explanations.specs.SharedSyncs.{HasPlaceOnLine, IsOrderedOnLine, OneSyncOrders}

-- Two encounters.

module _ (told : List Entry) (legal : (shape : Shape) × IsLegal shape (reverse told)) (lines : List ℕ)
    (lines_are : lines ≡ map (λ (entry : Entry). entry.request.line) told) where
  -- the spawner goes on somewhere, and the spawn has a number
  parts_at : (pair : Pair) (e : Encounter) (p : Parting) → IsEncounter told pair e → e.parting ≡ Some p →
      PartAt told pair (Some p) × GoesOn told pair (Some p) (Some (onward_of e)) × (0 < p.entry)
  parts_at pair e p is at =
      let parts : PartAt told pair (Some p) = subst (PartAt told pair) at is.parting in
      let goes : GoesOn told pair (Some p) e.onward = subst (λ (o : Option Parting). GoesOn told pair o e.onward) at is.onward in
      let found : e.onward ≡ Some goes.0 = goes.2 in
      let whole : e.onward ≡ Some (onward_of e) = found ∙ ap (λ (o : Option ℕ). Some (unwrap_or o 0)) (sym found) in
      (parts, subst (GoesOn told pair (Some p)) whole goes, spawn_numbered told legal pair p e.onward parts goes)

  -- where the spawner goes on for the first is a place to sync for the other
  pub place_on_line : (pair other : Pair) (e f : Encounter) (p q : Parting) → IsEncounter told pair e → IsEncounter told other f → e.parting ≡ Some p →
      f.parting ≡ Some q → p.entry ≡ q.entry → onward_of e ≤ onward_of f → HasPlaceOnLine told (line_in lines (onward_of e)) q
  place_on_line pair other e f p q is other_is at other_at same le =
      let here = parts_at pair e p is at in
      let there = parts_at other f q other_is other_at in
      let place : IsPlaceToSync (reverse told) q (onward_of e) =
      orders_both told legal pair other p q (onward_of e) (onward_of f) here.0 here.1 there.0 there.1 same le in
      (onward_of e, place, sym (ap (λ (all : List ℕ). line_in all (onward_of e)) lines_are ∙ line_of_place told q (onward_of e) place))

  -- the same where their spawns have one number, which is 0 where there is none
  pub place_behind : (pair other : Pair) (e f : Encounter) (q : Parting) → IsEncounter told pair e → IsEncounter told other f → f.parting ≡ Some q →
      spawn_of e ≡ spawn_of f → onward_of e ≤ onward_of f → HasPlaceOnLine told (line_in lines (onward_of e)) q
  place_behind pair other e f q is other_is at same le = by e.parting refl
    where
      spawn_at : q.entry ≡ spawn_of e
      spawn_at = ap (λ (o : Option Parting). unwrap_or (option_map (λ (p : Parting). p.entry) o) 0) (sym at) ∙ sym same

      by : (parting : Option Parting) → e.parting ≡ parting → HasPlaceOnLine told (line_in lines (onward_of e)) q
      by None nowhere_parts =
          let nowhere : spawn_of e ≡ 0 = ap (λ (o : Option Parting). unwrap_or (option_map (λ (p : Parting). p.entry) o) 0) nowhere_parts in
          let numbered = (parts_at other f q other_is at).2 in absurd (omega (arith, spawn_at, nowhere, numbered))
      by (Some p) some =
          let entry_is : p.entry ≡ q.entry =
          sym (spawn_at ∙ ap (λ (o : Option Parting). unwrap_or (option_map (λ (p : Parting). p.entry) o) 0) some) in
          place_on_line pair other e f p q is other_is some at entry_is le

-- The cases.

at_last : (cases : List Case) (one : Case) (place : ℕ) (case : Case) → slice_get (cases ++ one ∷ []) place ≡ Some case →
    (slice_get cases place ≡ Some case) ⊎ (one ≡ case)
at_last [] one zero case at = inr (cc)
at_last [] one (suc place) case at = absurd (cc)
at_last (other ∷ cases) one zero case at = inl at
at_last (other ∷ cases) one (suc place) case at = at_last cases one place case at

case_at : (entries : List Entry) {pairs : List Pair} {cases : List Case} → AreCases entries pairs cases → (place : ℕ) (case : Case) →
    slice_get cases place ≡ Some case → (pair : Pair) × IsEncounter entries pair case.encounter
case_at entries none place case at = absurd (cc)
case_at entries (more {cases = cases} pair one are is) place case at = elim (at_last cases one place case at) [
  | inl there ↦ case_at entries are place case there
  | inr here ↦ (pair, subst (λ (c : Case). IsEncounter entries pair c.encounter) here is.is_encounter)
]

-- Bools.

pub not_open : (found ordered : Bool) → (found || not ordered) ≡ false → (found ≡ false) × (ordered ≡ true)
not_open false true e = (refl, refl)
not_open false false e = cc
not_open true true e = cc
not_open true false e = cc

on_line_or_behind : (on_line at_spawn behind : Bool) → (if on_line then true else (if at_spawn then not behind else false)) ≡ true →
    (on_line ≡ true) ⊎ ((at_spawn ≡ true) × (behind ≡ false))
on_line_or_behind true at_spawn behind e = inl refl
on_line_or_behind false true false e = inr (refl, refl)
on_line_or_behind false true true e = cc
on_line_or_behind false false behind e = cc

either_has : (P : Course → Type 0) (test : Bool) (one other : Course) → P one → P other → P (if test then one else other)
either_has P true one other h k = h
either_has P false one other h k = k

either_some : (P : Course → Type 0) (test : Bool) (best : Option Course) (other : Course) → IfSome best P → P other →
    IfSome (if test then best else Some other) P
either_some P true best other h k = h
either_some P false best other h k = k

pub not_found : (found : Bool) → not found ≡ true → found ≡ false
not_found false e = refl
not_found true e = cc

-- A group.

module _ (setting : Setting) (cases : List Case) where
  -- the course is that of a case
  abbrev pub IsCourse : Course → Type 0
  IsCourse course = (place : ℕ) × (case : Case) × (slice_get cases place ≡ Some case) × (course_of setting case.encounter ≡ course)

  before_from : (best : Option Course) (course : Course) → IfSome best IsCourse → IsCourse course → IsCourse (before best course)
  before_from None course b is = is
  before_from (Some best) course b is = either_has IsCourse (nat_lt course.line best.line) course best is b

  first_from : (best : Option Course) (places : List ℕ) → IfSome best IsCourse → IfSome (first_among best (courses_of setting cases places)) IsCourse
  first_from best [] b = b
  first_from best (place ∷ places) b = by (slice_get cases place) refl (λ more. first_from more places)
    where
      by : (at : Option Case) → slice_get cases place ≡ at →
          ((more : Option Course) → IfSome more IsCourse → IfSome (first_among more (courses_of setting cases places)) IsCourse) →
          IfSome (first_among best (course_if setting at ++ courses_of setting cases places)) IsCourse
      by None e rest = rest best b
      by (Some case) e rest =
          let course = course_of setting case.encounter in
          let is : IsCourse course = (place, case, e, refl) in
          rest (nearer best course) (either_some IsCourse course.is_round best (before best course) b (before_from best course b is))

  -- each is ordered where none is left open
  abbrev pub IsOrderedAt : Course → ℕ → Type 0
  IsOrderedAt first place = IfSome (slice_get cases place) (λ case. is_ordered first (course_of setting case.encounter) ≡ true)

  each_ordered : (first : Course) (found : Bool) (places : List ℕ) → leaves_open first found (courses_of setting cases places) ≡ false →
      (found ≡ false) × All (IsOrderedAt first) places
  each_ordered first found [] e = (e, All-nil (IsOrderedAt first))
  each_ordered first found (place ∷ places) e = by (slice_get cases place) refl e (λ before. each_ordered first before places)
    where
      by : (at : Option Case) → slice_get cases place ≡ at → leaves_open first found (course_if setting at ++ courses_of setting cases places) ≡ false →
          ((before : Bool) → leaves_open first before (courses_of setting cases places) ≡ false → (before ≡ false) × All (IsOrderedAt first) places) →
          (found ≡ false) × All (IsOrderedAt first) (place ∷ places)
      by None at closed ih =
          let rest = ih found closed in
          let here : IsOrderedAt first place =
          subst (λ (c : Option Case). IfSome c (λ case. is_ordered first (course_of setting case.encounter) ≡ true)) (sym at) tt in
          (rest.0, All-cons (IsOrderedAt first) place places here rest.1)
      by (Some case) at closed ih =
          let rest = ih (found || not (is_ordered first (course_of setting case.encounter))) closed in
          let both = not_open found (is_ordered first (course_of setting case.encounter)) rest.0 in
          let here : IsOrderedAt first place =
          subst (λ (c : Option Case). IfSome c (λ case. is_ordered first (course_of setting case.encounter) ≡ true)) (sym at) both.1 in
          (both.0, All-cons (IsOrderedAt first) place places here rest.1)

  module _ (told : List Entry) (legal : (shape : Shape) × IsLegal shape (reverse told))
      (lines_are : setting.lines ≡ map (λ (entry : Entry). entry.request.line) told) {pairs : List Pair} (are : AreCases told pairs cases) where
    -- the one that is behind the first one at its spawn
    behind_first : (first : Course) → IsCourse first → (pair : Pair) (e : Encounter) (q : Parting) → IsEncounter told pair e → e.parting ≡ Some q →
        spawn_of e ≡ first.spawn → first.onward ≤ onward_of e → HasPlaceOnLine told first.line q
    behind_first first (place, case, at, course) pair e q is parts same le =
        let own = case_at told are place case at in
        subst (λ (line : ℕ). HasPlaceOnLine told line q) (ap (λ (c : Course). c.line) course)
        (place_behind told legal setting.lines lines_are own.0 pair case.encounter e q own.1 is parts (ap (λ (c : Course). c.spawn) course ∙ sym same)
        (subst (λ (n : ℕ). n ≤ onward_of e) (sym (ap (λ (c : Course). c.onward) course)) le))

    ordered_case : (first : Course) → IsCourse first → (pair : Pair) (e : Encounter) (q : Parting) → IsEncounter told pair e → e.parting ≡ Some q →
        is_ordered first (course_of setting e) ≡ true → HasPlaceOnLine told first.line q
    ordered_case first from pair e q is parts ordered =
        elim (on_line_or_behind (line_in setting.lines (onward_of e) == first.line) (spawn_of e == first.spawn) (nat_lt (onward_of e) first.onward) ordered) [
          | inl here ↦
              let line : line_in setting.lines (onward_of e) ≡ first.line = eqb-true (line_in setting.lines (onward_of e)) first.line here in
              subst (λ (z : ℕ). HasPlaceOnLine told z q) line
              (place_on_line told legal setting.lines lines_are pair pair e e q q is is parts parts refl (omega arith))
          | inr there ↦ behind_first first from pair e q is parts (eqb-true (spawn_of e) first.spawn there.0) (ltb-false (onward_of e) first.onward there.1)
        ]

    ordered_at : (first : Course) → IsCourse first → (place : ℕ) → IsOrderedAt first place → IsOrderedOnLine told first.line cases place
    ordered_at first from place ordered = by (slice_get cases place) refl ordered
      where
        by : (at : Option Case) → slice_get cases place ≡ at → IfSome at (λ case. is_ordered first (course_of setting case.encounter) ≡ true) →
            IfSome at (λ case. IfSome case.encounter.parting (HasPlaceOnLine told first.line))
        by None at o = tt
        by (Some case) at o = here case.encounter.parting refl
          where
            here : (parting : Option Parting) → case.encounter.parting ≡ parting → IfSome parting (HasPlaceOnLine told first.line)
            here None e = tt
            here (Some q) some =
                let own = case_at told are place case at in ordered_case first from own.0 case.encounter q own.1 some o

    all_ordered : (first : Course) → IsCourse first → (places : List ℕ) → All (IsOrderedAt first) places →
        All (IsOrderedOnLine told first.line cases) places
    all_ordered first from [] each = All-nil (IsOrderedOnLine told first.line cases)
    all_ordered first from (place ∷ places) each =
        All-cons (IsOrderedOnLine told first.line cases) place places (ordered_at first from place (All-head (IsOrderedAt first) place places each))
        (all_ordered first from places (All-tail (IsOrderedAt first) place places each))

    -- the sync that is told orders each, where it is sure to
    pub sync_orders : (line : ℕ) (places : List ℕ) → is_sure_at setting cases line places ≡ true → OneSyncOrders setting told cases places
    sync_orders line places sure = by (first_among None (courses_of setting cases places)) refl (first_from None places tt) sure
      where
        by : (first : Option Course) → first_among None (courses_of setting cases places) ≡ first → IfSome first IsCourse →
            is_sure_of setting line first (courses_of setting cases places) ≡ true → OneSyncOrders setting told cases places
        by None is from e = cc
        by (Some first) is from e =
            let closed = (and_parts (are_in_one_call setting.origin line first.line) (not (leaves_open first false (courses_of setting cases places))) e).1 in
            let each = each_ordered first false places (not_found (leaves_open first false (courses_of setting cases places)) closed) in
            (first.line, ap (option_map (λ (course : Course). course.line)) is, all_ordered first from places each.1)
