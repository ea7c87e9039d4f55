-- What becomes of homes as frames go on, begin and end.
use Rattle.std.proofs.Common.{◌≡◌, ◌≢◌, ◌⊎◌, inl, inr, ℕ, zero, suc, ◌+◌, List, [], ◌∷◌, ◌++◌, length, set, Some, refl, sym, ◌∙◌, ap, subst, arith}
use Rattle.std.specs.Prelude.{slice_get}
use Rattle.std.proofs.lemmas.Option.{slice_get_within}
use Rattle.law_strands.proofs.Updates.{same_or_not}
use Rattle.frame_steps.specs.States.{FrameState}
use Rattle.frame_steps.specs.declared.phase.Phase.TheVariants.{Over}
use Rattle.run_replay.specs.declared.frame_table.Slot.{Slot}
use Rattle.run_replay.specs.Slots.{IsHome, AreHeld}
use Rattle.run_replay.proofs.Items.{got_kept, got_behind, got_cases, got_one, got_set, set_length, append_length}

pub same_item : {A : Type 0} (x y : A) → Some x ≡ Some y → x ≡ y
same_item x y e = cc

set_there : {A : Type 0} (xs : List A) (at : ℕ) (y x : A) → slice_get xs at ≡ Some x → slice_get (set xs at y) at ≡ Some y
set_there [] zero y x h = absurd (cc)
set_there [] (suc at) y x h = absurd (cc)
set_there (z ∷ xs) zero y x h = refl
set_there (z ∷ xs) (suc at) y x h = set_there xs at y x h

set_elsewhere : {A : Type 0} (xs : List A) (at : ℕ) (y : A) (place : ℕ) (x : A) → place ≢ at → slice_get xs place ≡ Some x → slice_get (set xs at y) place ≡ Some x
set_elsewhere [] zero y zero x other h = absurd (cc)
set_elsewhere [] (suc at) y zero x other h = absurd (cc)
set_elsewhere [] zero y (suc place) x other h = absurd (cc)
set_elsewhere [] (suc at) y (suc place) x other h = absurd (cc)
set_elsewhere (z ∷ xs) zero y zero x other h = absurd (other refl)
set_elsewhere (z ∷ xs) zero y (suc place) x other h = h
set_elsewhere (z ∷ xs) (suc at) y zero x other h = h
set_elsewhere (z ∷ xs) (suc at) y (suc place) x other h = set_elsewhere xs at y place x (λ e. other (ap suc e)) h

pub held_alone : {A : Type 0} (slot : Slot A) → slot.number ≡ 0 → AreHeld (slot ∷ []) (0 ∷ []) (slot.frame ∷ [])
held_alone slot first = record {
  counted = refl;
  each = λ number home frame at is.
      let h = got_one 0 home number at in
      record {
        held = slot;
        there = ap (slice_get (slot ∷ [])) (sym h.1);
        own = λ e. (got_one slot.frame frame number is).1;
        lost = λ other. absurd (other (first ∙ sym h.0));
      };
}

module _ {A : Type 0} (slots : List (Slot A)) (homes : List ℕ) (frames : List FrameState) (held : AreHeld slots homes frames) where
  -- the slot of another frame was changed
  elsewhere : (home number at : ℕ) (slot : Slot A) (frame : FrameState) → at ≢ home → IsHome slots at number frame → IsHome (set slots home slot) at number frame
  elsewhere home number at slot frame other old =
      record { held = old.held; there = set_elsewhere slots home slot at old.held other old.there; own = old.own; lost = old.lost }

  -- the slot has the number of another frame now
  over_now : (home number : ℕ) (before slot : Slot A) (frame : FrameState) → slice_get slots home ≡ Some before → slot.number ≢ number → frame.phase ≡ Over → IsHome (set slots home slot) home number frame
  over_now home number before slot frame there other over =
      record { held = slot; there = set_there slots home slot before there; own = λ e. absurd (other e); lost = λ e. over }

  -- a frame goes on
  pub held_turn : (place home : ℕ) (before after : Slot A) → slice_get homes place ≡ Some home → slice_get slots home ≡ Some before → before.number ≡ place → after.number ≡ place →
      AreHeld (set slots home after) homes (set frames place after.frame)
  held_turn place home before after housed there was is = record {
    counted = held.counted ∙ sym (set_length frames place after.frame);
    each = λ number at frame at_home got.
        elim (got_set frames place after.frame number frame got) [
          | inl here ↦ (
              let same : home ≡ at = same_item home at (sym housed ∙ ap (slice_get homes) (sym here.0) ∙ at_home) in
              subst (λ h. IsHome (set slots home after) h number frame) same
              (record { held = after; there = set_there slots home after before there; own = λ e. here.1; lost = λ e. absurd (e (is ∙ sym here.0)) })
              )
          | inr there_is ↦ moved number at frame there_is.0 (held.each number at frame at_home there_is.1)
        ];
  }
    where
      moved : (number at : ℕ) (frame : FrameState) → number ≢ place → IsHome slots at number frame → IsHome (set slots home after) at number frame
      moved number at frame other old =
          elim (same_or_not at home) [
            | inl same ↦ (
                let slot : old.held ≡ before = same_item old.held before (sym old.there ∙ ap (slice_get slots) same ∙ there) in
                let over = old.lost (λ e. other (sym e ∙ ap (λ (s : Slot A). s.number) slot ∙ was)) in
                subst (λ h. IsHome (set slots home after) h number frame) (sym same) (over_now home number before after frame there (λ e. other (sym e ∙ is)) over)
                )
            | inr far ↦ elsewhere home number at after frame far old
          ]

  -- what was held before one more frame
  below : (number : ℕ) (frame : FrameState) → slice_get frames number ≡ Some frame → number ≢ length frames
  below number frame got e = let within = slice_get_within frames number frame got in absurd (omega (arith, e, within))

  -- by where the home and the frame of a number stand
  grown : (slots2 : List (Slot A)) (home : ℕ) (slot : Slot A) → slice_get slots2 home ≡ Some slot → slot.number ≡ length frames →
      ((number at : ℕ) (frame : FrameState) → number ≢ length frames → IsHome slots at number frame → IsHome slots2 at number frame) →
      AreHeld slots2 (homes ++ home ∷ []) (frames ++ slot.frame ∷ [])
  grown slots2 home slot there is kept = record {
    counted = append_length homes (home ∷ []) ∙ ap (λ n. n + 1) held.counted ∙ sym (append_length frames (slot.frame ∷ []));
    each = λ number at frame at_home got. by number at frame (got_cases homes (home ∷ []) number at at_home) (got_cases frames (slot.frame ∷ []) number frame got);
  }
    where
      by : (number at : ℕ) (frame : FrameState) → (slice_get homes number ≡ Some at) ⊎ ((behind : ℕ) × (number ≡ length homes + behind) × (slice_get (home ∷ []) behind ≡ Some at)) →
          (slice_get frames number ≡ Some frame) ⊎ ((behind : ℕ) × (number ≡ length frames + behind) × (slice_get (slot.frame ∷ []) behind ≡ Some frame)) → IsHome slots2 at number frame
      by number at frame (inl h) (inl f) = kept number at frame (below number frame f) (held.each number at frame h f)
      by number at frame (inl h) (inr f) =
          let within = slice_get_within homes number at h in
          let count = held.counted in
          let past = f.1 in
          absurd (omega arith)
      by number at frame (inr h) (inl f) =
          let within = slice_get_within frames number frame f in
          let count = held.counted in
          let past = h.1 in
          absurd (omega arith)
      by number at frame (inr h) (inr f) =
          let one = got_one home at h.0 h.2 in
          let other = got_one slot.frame frame f.0 f.2 in
          let number_is : number ≡ length frames = (let e = f.1 in let z = other.0 in omega arith) in
          record {
            held = slot;
            there = ap (slice_get slots2) (sym one.1) ∙ there;
            own = λ e. other.1;
            lost = λ e. absurd (e (is ∙ sym number_is));
          }

  -- a frame begins in the slot of one that has ended
  pub held_reused : (home : ℕ) (before after : Slot A) → slice_get slots home ≡ Some before → before.frame.phase ≡ Over → after.number ≡ length frames →
      AreHeld (set slots home after) (homes ++ home ∷ []) (frames ++ after.frame ∷ [])
  held_reused home before after there over is = grown (set slots home after) home after (set_there slots home after before there) is kept
    where
      ended : (number : ℕ) (frame : FrameState) → IsHome slots home number frame → frame.phase ≡ Over
      ended number frame old =
          let slot : old.held ≡ before = same_item old.held before (sym old.there ∙ there) in
          elim (same_or_not old.held.number number) [
            | inl own ↦ ap (λ (s : FrameState). s.phase) (sym (old.own own)) ∙ ap (λ (s : Slot A). s.frame.phase) slot ∙ over
            | inr lost ↦ old.lost lost
          ]

      kept : (number at : ℕ) (frame : FrameState) → number ≢ length frames → IsHome slots at number frame → IsHome (set slots home after) at number frame
      kept number at frame other old =
          elim (same_or_not at home) [
            | inl same ↦ (
                let here = subst (λ h. IsHome slots h number frame) same old in
                subst (λ h. IsHome (set slots home after) h number frame) (sym same) (over_now home number before after frame there (λ e. other (sym e ∙ is)) (ended number frame here))
                )
            | inr far ↦ elsewhere home number at after frame far old
          ]

  -- a frame begins in a slot of its own
  pub held_pushed : (slot : Slot A) → slot.number ≡ length frames → AreHeld (slots ++ slot ∷ []) (homes ++ length slots ∷ []) (frames ++ slot.frame ∷ [])
  held_pushed slot is =
      grown (slots ++ slot ∷ []) (length slots) slot (got_behind slots slot []) is
      (λ number at frame other old. record { held = old.held; there = got_kept slots (slot ∷ []) at old.held old.there; own = old.own; lost = old.lost })
