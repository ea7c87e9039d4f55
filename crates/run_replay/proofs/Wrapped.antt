-- Indexes that wrap where entries are asked.
use Rattle.std.proofs.Common.{◌≡◌, ◌≢◌, inl, inr, ℕ, Bool, true, false, List, [], ◌∷◌, Option, Some, None, refl, sym, ◌∙◌, ap, subst, arith}
use Rattle.std.proofs.Common.{Result, Ok, Err}
use Rattle.std.specs.Prelude.{◌↔◌, ◌==◌, slice_get, cond, OnOk}
use Rattle.std.specs.Option.{option_or}
use Rattle.std.proofs.lemmas.Bool.{eqb-true, eq-eqb}
use Rattle.law_strands.proofs.Updates.{same_or_not}
use Rattle.model_histories.specs.declared.answer.Entry.{Entry}
use Rattle.model_histories.specs.Entries.{Entries}
use Rattle.model_histories.specs.Shapes.{Shape}
use Rattle.model_histories.specs.States.{GateState}
use Rattle.race_gate.proofs.Races.{legal-part}
use Rattle.race_gate.proofs.Answered.{strand-known}
use Rattle.model_bodies.specs.Codes.{Code}
use Rattle.model_programs.specs.declared.target.Target.{Target}
use Rattle.model_programs.specs.Exchanges.{Exchange}
use Rattle.frame_steps.specs.States.{FrameState}
use Rattle.frame_steps.specs.Frames.{IsAfter, Wraps}
use Rattle.frame_steps.proofs.Wrapping.{over_wraps}
use Rattle.model_runs.specs.Frames.{HasFrame, frame_in, said_by}
use Rattle.model_runs.specs.Runs.{IsRunWith}
use Rattle.law_runs.proofs.Histories.{said_same}
use Rattle.run_replay.specs.Turns.{IsEntered}
use Rattle.run_replay.specs.FrameTables.{placed_frames, Plays}
use Rattle.run_replay.specs.declared.frame_table.Slot.{Slot}
use Rattle.run_replay.specs.Slots.{PlaysIn}
use Rattle.run_replay.specs.Wraps.{FrameWraps, EntryWraps, FirstWrap}
use Rattle.run_replay.proofs.Frames.{frame_at_place}
use Rattle.run_replay.proofs.Plays.{item_below, same_some}
use Rattle.run_replay.proofs.Openings.{judged_so}
use Rattle.run_replay.proofs.Played.{frame, house, got, same_slot}

module _ (functions : List Code) (shape : Shape) (gate : GateState) (frames : List FrameState) (places : List ℕ) (plays : Plays functions shape gate (placed_frames frames places)) (entry : Entry) where
  -- the strand of an entry has its place
  pub has_place : (after : GateState) → IsEntered entry gate after → slice_get places entry.request.strand ≡ None → ⊥
  has_place after entered none =
      let judged = judged_so functions shape gate frames places plays entry after entered in
      let known = strand-known (legal-part shape gate.history plays.is_table.run.judged.legal) entry.request.strand judged.legal.1.runs in
      let count = plays.is_table.strands in
      let item = item_below places entry.request.strand (omega arith) in
      let clash : None ≡ Some item.0 = sym none ∙ item.1 in
      cc

  -- whichever the targets of the run
  any_targets : (index : ℕ) → HasFrame gate.history (frame_in gate.history entry.request.strand) → EntryWraps functions shape gate.history entry index →
      FrameWraps functions plays.targets gate.history (frame_in gate.history entry.request.strand) index
  any_targets index has w =
      let n = frame_in gate.history entry.request.strand in
      let run = subst (λ m. IsRunWith functions shape m w.targets gate.history) (same_some w.main plays.main (sym w.is_main ∙ plays.is_main)) w.run in
      let agree = plays.is_table.only w.targets run in
      let said : said_by w.targets gate.history n ≡ said_by plays.targets gate.history n = said_same shape w.targets plays.targets gate.history plays.is_table.run.judged.legal agree n in
      subst (λ (t : Target). Wraps functions t.function t.argument (said_by plays.targets gate.history n) index) (agree n has)
      (subst (λ l. Wraps functions (w.targets n).function (w.targets n).argument l index) said w.wraps)

  frame_wraps : (place : ℕ) → slice_get places entry.request.strand ≡ Some place → (result : Option ℕ) (index : ℕ) →
      (result ≡ Some index) ↔ FrameWraps functions plays.targets gate.history (frame_in gate.history entry.request.strand) index →
      (result ≡ Some index) ↔ EntryWraps functions shape gate.history entry index
  frame_wraps place its_place result index so = (
    (λ e. record { main = plays.main; is_main = plays.is_main; targets = plays.targets; run = plays.is_table.run; wraps = so.0 e }),
    (λ w. so.1 (any_targets index (frame_at_place gate.history place (frame_in gate.history entry.request.strand) (plays.is_table.placed entry.request.strand place its_place)) w)),
  )

  -- by the frame that stands at the place
  pub placed_wraps : (place : ℕ) (one : FrameState) → slice_get places entry.request.strand ≡ Some place → slice_get frames place ≡ Some one → (result : Option ℕ) →
      ((function argument : ℕ) (history : List Exchange) → IsAfter functions function argument history one → (index : ℕ) →
      (result ≡ Some index) ↔ Wraps functions function argument history index) →
      (index : ℕ) → (result ≡ Some index) ↔ EntryWraps functions shape gate.history entry index
  placed_wraps place one its_place at result so index =
      let n = frame_in gate.history entry.request.strand in
      frame_wraps place its_place result index
      (so _ _ _ (plays.is_table.each place n one (plays.is_table.placed entry.request.strand place its_place) at).1 index)

-- by the slot that the frame has
pub slot_wraps : {A : Type 0} (functions : List Code) (shape : Shape) (gate : GateState) (slots : List (Slot A)) (homes places : List ℕ) (plays : PlaysIn functions shape gate slots homes places)
    (entry : Entry) (place : ℕ) (its_place : slice_get places entry.request.strand ≡ Some place) (home : ℕ) (home_is : slice_get homes place ≡ Some home) (slot : Slot A)
    (slot_is : slice_get slots home ≡ Some slot) (result : Option ℕ) →
    (slot.number ≡ place → (function argument : ℕ) (history : List Exchange) → IsAfter functions function argument history slot.frame → (index : ℕ) →
    (result ≡ Some index) ↔ Wraps functions function argument history index) →
    (slot.number ≢ place → result ≡ None) →
    (index : ℕ) → (result ≡ Some index) ↔ EntryWraps functions shape gate.history entry index
slot_wraps {A} functions shape gate slots homes places plays entry place its_place home home_is slot slot_is result own lost index =
    elim (same_or_not slot.number place) [
      | inl e ↦ placed_wraps functions shape gate plays.0 places plays.2 entry place slot.frame its_place
          (got functions shape gate slots homes places plays entry place its_place home home_is slot slot_is e) result (own e) index
      | inr other ↦ (
          let one = frame functions shape gate slots homes places plays entry place its_place home home_is in
          let there = same_slot functions shape gate slots homes places plays entry place its_place home home_is slot slot_is in
          let its_house = house functions shape gate slots homes places plays entry place its_place home home_is in
          let over = its_house.lost (λ e. other (ap (λ (s : Slot A). s.number) (sym there) ∙ e)) in
          subst (λ r. (r ≡ Some index) ↔ EntryWraps functions shape gate.history entry index) (sym (lost other))
          (placed_wraps functions shape gate plays.0 places plays.2 entry place one.0 its_place one.1 None (over_wraps functions one.0 over) index)
          )
    ]

-- one entry more
module _ (functions : List Code) (shape : Shape) (entries : Entries) (entry : Entry) (old new : ℕ → Option ℕ) (wrap : Option ℕ)
    (before : (line index : ℕ) → (old line ≡ Some index) ↔ FirstWrap functions shape entries line index)
    (kept : (line : ℕ) → new line ≡ option_or (old line) (cond (entry.request.line == line) wrap None))
    (wraps : (index : ℕ) → (wrap ≡ Some index) ↔ EntryWraps functions shape entries entry index) where
  here : (line index : ℕ) (o : Option ℕ) → old line ≡ o → (b : Bool) → entry.request.line == line ≡ b →
      (option_or o (cond b wrap None) ≡ Some index) ↔ FirstWrap functions shape (entry ∷ entries) line index
  here line index (Some other) is b same = (
    (λ e. inl ((before line index).0 (is ∙ e))),
    (λ f. elim f [
      | inl first ↦ sym is ∙ (before line index).1 first
      | inr now ↦ absurd (now.0 other ((before line other).0 is))
    ]),
  )
  here line index None is true same = (
    (λ e. inr ((λ other first. no_first other first), eqb-true entry.request.line line same, (wraps index).0 e)),
    (λ f. elim f [
      | inl first ↦ absurd (no_first index first)
      | inr now ↦ (wraps index).1 now.2
    ]),
  )
    where
      no_first : (other : ℕ) → FirstWrap functions shape entries line other → ⊥
      no_first other first = let e : None ≡ Some other = sym is ∙ (before line other).1 first in cc
  here line index None is false same = (
    (λ e. cc),
    (λ f. elim f [
      | inl first ↦ sym is ∙ (before line index).1 first
      | inr now ↦ (let e = eq-eqb entry.request.line line now.1 in cc)
    ]),
  )

  pub more_wraps : (line index : ℕ) → (new line ≡ Some index) ↔ FirstWrap functions shape (entry ∷ entries) line index
  more_wraps line index =
      subst (λ o. (o ≡ Some index) ↔ FirstWrap functions shape (entry ∷ entries) line index) (sym (kept line)) (here line index (old line) refl (entry.request.line == line) refl)

-- before the first entry
pub first_wraps : (functions : List Code) (shape : Shape) (old : ℕ → Option ℕ) → ((line : ℕ) → old line ≡ None) →
    (line index : ℕ) → (old line ≡ Some index) ↔ FirstWrap functions shape [] line index
first_wraps functions shape old none line index = ((λ e. let k : None ≡ Some index = sym (none line) ∙ e in cc), (λ f. absurd f))

-- a fact on an Ok, from two others
pub both_ok : {T E : Type 0} (r : Result T E) (P Q : Type 0) → OnOk r P → Q → OnOk r (P × Q)
both_ok (Ok v) P Q p q = (p, q)
both_ok (Err e) P Q p q = tt
