-- The frames of a history by their places.
use Rattle.std.proofs.Common.{◌≡◌, ◌⊎◌, inl, inr, ℕ, zero, suc, ◌+◌, ◌<◌, Bool, true, false, [], ◌∷◌, ◌++◌, length, Some, refl, sym, ◌∙◌, ap, subst, arith}
use Rattle.std.specs.Prelude.{slice_get}
use Rattle.model_accesses.specs.declared.request.Act.{Act}
use Rattle.model_strands.specs.declared.spawned.Spawned.{Spawned}
use Rattle.model_strands.specs.History.{split, History}
use Rattle.model_strands.specs.Strands.{unused}
use Rattle.model_strands.specs.Blocks.{stack}
use Rattle.model_histories.specs.declared.answer.Answer.{Answer}
use Rattle.model_histories.specs.declared.answer.Answer.TheVariants.{Split, Same, Joined, Waits, Resumed, Ended, EndedJoined, Finished}
use Rattle.model_histories.specs.declared.answer.Entry.{Entry}
use Rattle.model_histories.specs.Entries.{Entries, event_between, event_of, control_part}
use Rattle.model_histories.specs.Shapes.{Shape}
use Rattle.model_histories.specs.Legal.{IsLegal}
use Rattle.race_gate.proofs.Races.{legal-part}
use Rattle.model_runs.specs.Frames.{IsSplit, HasFrame, frame_of, frame_in, next_frame}
use Rattle.law_runs.proofs.Strands.{SplitFrames, stays_with, unused_with}
use Rattle.law_runs.proofs.Histories.{begun_before}
use Rattle.run_replay.specs.FrameTables.{begun_by, frames_in, new_places}
use Rattle.run_replay.proofs.Items.{got_kept, got_behind, got_cases, got_one}

split_begins : (answer : Answer) (frame : ℕ) → IsSplit answer → begun_by answer frame ≡ frame ∷ []
split_begins (Split strands) frame is = refl
split_begins answer frame is = absurd is

-- each frame has a place
pub place_of_frame : (entries : Entries) (frame : ℕ) → HasFrame entries frame → (place : ℕ) × (slice_get (frames_in entries) place ≡ Some frame)
place_of_frame [] frame (inl e) = (0, ap Some (sym e))
place_of_frame [] frame (inr none) = elim none [ ]
place_of_frame (entry ∷ entries) frame (inl e) =
    let p = place_of_frame entries frame (inl e) in
    (p.0, got_kept (frames_in entries) (begun_by entry.answer (next_frame entries)) p.0 frame p.1)
place_of_frame (entry ∷ entries) frame (inr (inl s)) =
    let begun = split_begins entry.answer (next_frame entries) s.1 ∙ ap (λ n. n ∷ []) (sym s.0) in
    (length (frames_in entries), subst (λ l. slice_get (frames_in entries ++ l) (length (frames_in entries)) ≡ Some frame) (sym begun) (got_behind (frames_in entries) frame []))
place_of_frame (entry ∷ entries) frame (inr (inr before)) =
    let p = place_of_frame entries frame (inr before) in
    (p.0, got_kept (frames_in entries) (begun_by entry.answer (next_frame entries)) p.0 frame p.1)

-- what an answer begins is a split's frame
begun_one : (answer : Answer) (next place frame : ℕ) → slice_get (begun_by answer next) place ≡ Some frame → (place ≡ 0) × (frame ≡ next) × IsSplit answer
begun_one (Split strands) next place frame h = let k = got_one next frame place h in (k.0, sym k.1, tt)
begun_one answer next zero frame h = absurd (cc)
begun_one answer next (suc place) frame h = absurd (cc)

-- and at each place is a frame
pub frame_at_place : (entries : Entries) (place frame : ℕ) → slice_get (frames_in entries) place ≡ Some frame → HasFrame entries frame
frame_at_place [] place frame h = inl (sym (got_one 0 frame place h).1)
frame_at_place (entry ∷ entries) place frame h =
    elim (got_cases (frames_in entries) (begun_by entry.answer (next_frame entries)) place frame h) [
      | inl k ↦ older (frame_at_place entries place frame k)
      | inr k ↦ (let b = begun_one entry.answer (next_frame entries) k.0 frame k.2 in inr (inl (b.1, b.2)))
    ]
  where
    older : HasFrame entries frame → HasFrame (entry ∷ entries) frame
    older (inl e) = inl e
    older (inr s) = inr (inr s)

-- no frame has two places
pub one_place : (shape : Shape) (entries : Entries) → IsLegal shape entries → (one other frame : ℕ) → slice_get (frames_in entries) one ≡ Some frame →
    slice_get (frames_in entries) other ≡ Some frame → one ≡ other
one_place shape [] legal one other frame h k = (got_one 0 frame one h).0 ∙ sym (got_one 0 frame other k).0
one_place shape (entry ∷ entries) legal one other frame h k =
    by (one_place shape entries legal.0 one other frame)
    (got_cases (frames_in entries) (begun_by entry.answer (next_frame entries)) one frame h)
    (got_cases (frames_in entries) (begun_by entry.answer (next_frame entries)) other frame k)
  where
    clash : (place at : ℕ) → slice_get (frames_in entries) place ≡ Some frame → ((behind : ℕ) × (at ≡ length (frames_in entries) + behind) × (slice_get (begun_by entry.answer (next_frame entries)) behind ≡ Some frame)) → ⊥
    clash place at p b =
        let below = begun_before shape entries legal.0 frame (frame_at_place entries place frame p) in
        let is = (begun_one entry.answer (next_frame entries) b.0 frame b.2).1 in
        absurd (omega arith)

    by : (slice_get (frames_in entries) one ≡ Some frame → slice_get (frames_in entries) other ≡ Some frame → one ≡ other) →
        (slice_get (frames_in entries) one ≡ Some frame) ⊎ ((behind : ℕ) × (one ≡ length (frames_in entries) + behind) × (slice_get (begun_by entry.answer (next_frame entries)) behind ≡ Some frame)) → (slice_get (frames_in entries) other ≡ Some frame) ⊎ ((behind : ℕ) × (other ≡ length (frames_in entries) + behind) × (slice_get (begun_by entry.answer (next_frame entries)) behind ≡ Some frame)) → one ≡ other
    by before (inl p) (inl q) = before p q
    by before (inl p) (inr q) = absurd (clash one other p q)
    by before (inr p) (inl q) = absurd (clash other one q p)
    by before (inr p) (inr q) =
        let a = (begun_one entry.answer (next_frame entries) p.0 frame p.2).0 in
        let b = (begun_one entry.answer (next_frame entries) q.0 frame q.2).0 in
        p.1 ∙ ap (λ n. length (frames_in entries) + n) (a ∙ sym b) ∙ sym q.1

-- Where an entry is a split, and where it is none

-- an answer that is no split begins no frame
pub no_split : (answer : Answer) → ((strands : Spawned) → answer ≡ Split strands → ⊥) → IsSplit answer → ⊥
no_split (Split strands) none is = none strands refl
no_split answer none is = is

pub not_split : (answer : Answer) → (IsSplit answer → ⊥) → (frame : ℕ) → begun_by answer frame ≡ []
not_split (Split strands) calm frame = absurd (calm tt)
not_split answer calm frame = refl

no_event : (strand : ℕ) (act : Act) (answer : Answer) → (IsSplit answer → ⊥) → (s c n j : ℕ) (first : Bool) →
    event_between strand act answer ≡ Some (split s c n j first) → ⊥
no_event strand Act.Spawn (Split strands) calm s c n j first e = calm tt
no_event strand Act.Spawn answer calm s c n j first e = absurd (cc)
no_event strand Act.Sync Same calm s c n j first e = absurd (cc)
no_event strand Act.Sync (Joined k) calm s c n j first e = absurd (cc)
no_event strand Act.Sync Waits calm s c n j first e = absurd (cc)
no_event strand Act.Sync answer calm s c n j first e = absurd (cc)
no_event strand Act.Call Same calm s c n j first e = absurd (cc)
no_event strand Act.Call answer calm s c n j first e = absurd (cc)
no_event strand Act.Return Resumed calm s c n j first e = absurd (cc)
no_event strand Act.Return Ended calm s c n j first e = absurd (cc)
no_event strand Act.Return (EndedJoined k) calm s c n j first e = absurd (cc)
no_event strand Act.Return Finished calm s c n j first e = absurd (cc)
no_event strand Act.Return answer calm s c n j first e = absurd (cc)
no_event strand act answer calm s c n j first e = absurd (cc)

pub same_unused : (entry : Entry) (entries : Entries) → (IsSplit entry.answer → ⊥) → unused (control_part (entry ∷ entries)) ≡ unused (control_part entries)
same_unused entry entries calm =
    unused_with (event_of entry) (control_part entries) (λ s c n j first e. no_event entry.request.strand entry.request.act entry.answer calm s c n j first e)

-- a strand stays in its frame
pub frame_kept : (shape : Shape) (entry : Entry) (entries : Entries) → IsLegal shape (entry ∷ entries) → (strand : ℕ) → strand < unused (control_part entries) →
    frame_in (entry ∷ entries) strand ≡ frame_in entries strand
frame_kept shape entry entries legal strand below =
    stays_with (event_of entry) (control_part entries) (legal-part shape entries legal.0) legal.1.allowed strand below

-- Where strands stand after a split

pub new_count : (h : History) (s c n j : ℕ) (first : Bool) (child spawner : ℕ) →
    unused (split s c n j first ∷ h) ≡ unused h + length (new_places first child spawner)
new_count h s c n j true child spawner = omega arith
new_count h s c n j false child spawner = omega arith

module _ (h : History) (s c n j : ℕ) where
  -- the place is that of the child, whose frame is new, or of the spawner
  pub new_place : (first : Bool) → SplitFrames h s c n j first → (child spawner behind place : ℕ) → slice_get (new_places first child spawner) behind ≡ Some place →
      ((place ≡ child) × (frame_of (stack (split s c n j first ∷ h) (unused h + behind)) ≡ suc (length h))) ⊎
      ((place ≡ spawner) × (frame_of (stack (split s c n j first ∷ h) (unused h + behind)) ≡ frame_of (stack h s)))
  new_place true f child spawner zero place e =
      let is = f.child_is in
      let at : unused h + 0 ≡ c = omega arith in
      let same : child ≡ place = cc in
      inl (sym same, ap (λ x. frame_of (stack (split s c n j true ∷ h) x)) at ∙ f.child)
  new_place true f child spawner (suc zero) place e =
      let is = f.next_is in
      let at : unused h + 1 ≡ n = omega arith in
      let same : spawner ≡ place = cc in
      inr (sym same, ap (λ x. frame_of (stack (split s c n j true ∷ h) x)) at ∙ f.next)
  new_place true f child spawner (suc (suc zero)) place e =
      let is = (f.join refl).0 in
      let at : unused h + 2 ≡ j = omega arith in
      let same : spawner ≡ place = cc in
      inr (sym same, ap (λ x. frame_of (stack (split s c n j true ∷ h) x)) at ∙ (f.join refl).1)
  new_place true f child spawner (suc (suc (suc behind))) place e = absurd (cc)
  new_place false f child spawner zero place e =
      let is = f.child_is in
      let at : unused h + 0 ≡ c = omega arith in
      let same : child ≡ place = cc in
      inl (sym same, ap (λ x. frame_of (stack (split s c n j false ∷ h) x)) at ∙ f.child)
  new_place false f child spawner (suc zero) place e =
      let is = f.next_is in
      let at : unused h + 1 ≡ n = omega arith in
      let same : spawner ≡ place = cc in
      inr (sym same, ap (λ x. frame_of (stack (split s c n j false ∷ h) x)) at ∙ f.next)
  new_place false f child spawner (suc (suc behind)) place e = absurd (cc)
