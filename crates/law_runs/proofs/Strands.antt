-- In which frames strands stand, as control histories go on.
-- h: a history; y: a strand; in a split, s is the spawner, c its child, n its next and j the join
use Rattle.std.proofs.Common.{◌≡◌, ◌≢◌, ℕ, suc, ◌<◌, ◌≤◌, Bool, true, false, Option, Some, None, [], ◌∷◌, length, refl, sym, ◌∙◌, ap, arith}
use Rattle.std.specs.Prelude.{MatchOption}
use Rattle.model_strands.specs.Updated.{updated}
use Rattle.model_strands.specs.History.{Event, split, same, joined, waits, call, resumed, ended, ended_joined, finished, History}
use Rattle.model_strands.specs.Strands.{unused}
use Rattle.model_strands.specs.Blocks.{Stack, root, spawned, called, block, caller, stack}
use Rattle.model_strands.specs.Legal.{Allowed, open_split, next_split, Legal, then as grown}
use Rattle.law_strands.proofs.Updates.{updated_at, updated_off, updated_case}
use Rattle.model_histories.specs.Entries.{with_event}
use Rattle.model_runs.specs.Frames.{frame_of}

-- a caller stands in the frame of what it called
pub caller_frame : (below : Stack) → frame_of (caller below) ≡ frame_of below
caller_frame root = refl
caller_frame (spawned number join) = refl
caller_frame (called number below) = refl
caller_frame (block join below) = refl

-- no frame's number is greater than that of the last event
pub frame_below : (history : History) (strand : ℕ) → frame_of (stack history strand) ≤ length history
frame_below [] x = omega arith
frame_below (split s c n j true ∷ h) x =
    let P : Stack → Type 0 = λ st. frame_of st ≤ suc (length h) in
    let old : (y : ℕ) → P (stack h y) = λ y. let b = frame_below h y in omega arith in
    updated_case P (updated (updated (stack h) c (spawned (suc (length h)) j)) n (block j (stack h s))) j (stack h s) x (λ e. old s)
    (λ no_join. updated_case P (updated (stack h) c (spawned (suc (length h)) j)) n (block j (stack h s)) x (λ e. old s)
    (λ no_next. updated_case P (stack h) c (spawned (suc (length h)) j) x (λ e. omega arith) (λ no_child. old x)))
frame_below (split s c n j false ∷ h) x =
    let P : Stack → Type 0 = λ st. frame_of st ≤ suc (length h) in
    let old : (y : ℕ) → P (stack h y) = λ y. let b = frame_below h y in omega arith in
    updated_case P (updated (stack h) c (spawned (suc (length h)) j)) n (stack h s) x (λ e. old s)
    (λ no_next. updated_case P (stack h) c (spawned (suc (length h)) j) x (λ e. omega arith) (λ no_child. old x))
frame_below (call s ∷ h) x =
    let P : Stack → Type 0 = λ st. frame_of st ≤ suc (length h) in
    let old : (y : ℕ) → P (stack h y) = λ y. let b = frame_below h y in omega arith in
    updated_case P (stack h) s (called (suc (length h)) (stack h s)) x (λ e. old s) (λ other. old x)
frame_below (resumed s ∷ h) x =
    let P : Stack → Type 0 = λ st. frame_of st ≤ suc (length h) in
    let old : (y : ℕ) → P (stack h y) = λ y. let b = frame_below h y in omega arith in
    updated_case P (stack h) s (caller (stack h s)) x (λ e. let b = old s in let k = caller_frame (stack h s) in omega arith) (λ other. old x)
frame_below (same s ∷ h) x = let b = frame_below h x in omega arith
frame_below (joined s j ∷ h) x = let b = frame_below h x in omega arith
frame_below (waits s ∷ h) x = let b = frame_below h x in omega arith
frame_below (ended s ∷ h) x = let b = frame_below h x in omega arith
frame_below (ended_joined s j ∷ h) x = let b = frame_below h x in omega arith
frame_below (finished s ∷ h) x = let b = frame_below h x in omega arith

-- a strand or a reserved join stays in its frame
pub frame_stays : {h : History} {e : Event} → Legal (e ∷ h) → (strand : ℕ) → strand < unused h → frame_of (stack (e ∷ h) strand) ≡ frame_of (stack h strand)
frame_stays (grown {history = h} {event = split s c n j true} l (open_split runs synced child_is next_is join_is)) x lt =
    let no_join : x ≢ j = λ e. absurd (omega arith) in
    let no_next : x ≢ n = λ e. absurd (omega arith) in
    let no_child : x ≢ c = λ e. absurd (omega arith) in
    ap frame_of
    (updated_off (updated (updated (stack h) c (spawned (suc (length h)) j)) n (block j (stack h s))) j (stack h s) x no_join ∙
    updated_off (updated (stack h) c (spawned (suc (length h)) j)) n (block j (stack h s)) x no_next ∙ updated_off (stack h) c (spawned (suc (length h)) j) x no_child)
frame_stays (grown {history = h} {event = split s c n j false} l (next_split runs stands child_is next_is)) x lt =
    let no_next : x ≢ n = λ e. absurd (omega arith) in
    let no_child : x ≢ c = λ e. absurd (omega arith) in
    ap frame_of (updated_off (updated (stack h) c (spawned (suc (length h)) j)) n (stack h s) x no_next ∙ updated_off (stack h) c (spawned (suc (length h)) j) x no_child)
frame_stays (grown {history = h} {event = call s} l a) x lt =
    let P : Stack → Type 0 = λ st. frame_of st ≡ frame_of (stack h x) in
    updated_case P (stack h) s (called (suc (length h)) (stack h s)) x (λ e. ap (λ y. frame_of (stack h y)) (sym e)) (λ other. refl)
frame_stays (grown {history = h} {event = resumed s} l a) x lt =
    let P : Stack → Type 0 = λ st. frame_of st ≡ frame_of (stack h x) in
    updated_case P (stack h) s (caller (stack h s)) x (λ e. caller_frame (stack h s) ∙ ap (λ y. frame_of (stack h y)) (sym e)) (λ other. refl)
frame_stays (grown {history = h} {event = same s} l a) x lt = refl
frame_stays (grown {history = h} {event = joined s j} l a) x lt = refl
frame_stays (grown {history = h} {event = waits s} l a) x lt = refl
frame_stays (grown {history = h} {event = ended s} l a) x lt = refl
frame_stays (grown {history = h} {event = ended_joined s j} l a) x lt = refl
frame_stays (grown {history = h} {event = finished s} l a) x lt = refl

-- Where the strands of a split stand, and their numbers.
pub record SplitFrames (h : History) (s c n j : ℕ) (first : Bool) : Type 0 where
  pub child_is : c ≡ unused h
  pub next_is : n ≡ suc (unused h)
  pub child : frame_of (stack (split s c n j first ∷ h) c) ≡ suc (length h)
  pub next : frame_of (stack (split s c n j first ∷ h) n) ≡ frame_of (stack h s)
  pub join : first ≡ true → (j ≡ suc (suc (unused h))) × (frame_of (stack (split s c n j first ∷ h) j) ≡ frame_of (stack h s))

pub split_frames : (h : History) (s c n j : ℕ) (first : Bool) → Allowed h (split s c n j first) → SplitFrames h s c n j first
split_frames h s c n j true (open_split runs synced child_is next_is join_is) =
    let child_join : c ≢ j = λ e. absurd (omega arith) in
    let child_next : c ≢ n = λ e. absurd (omega arith) in
    let next_join : n ≢ j = λ e. absurd (omega arith) in
    let one = updated (stack h) c (spawned (suc (length h)) j) in
    let two = updated one n (block j (stack h s)) in
    record {
      child_is = child_is;
      next_is = omega arith;
      child = ap frame_of (updated_off two j (stack h s) c child_join ∙ updated_off one n (block j (stack h s)) c child_next ∙ updated_at (stack h) c (spawned (suc (length h)) j) c refl);
      next = ap frame_of (updated_off two j (stack h s) n next_join ∙ updated_at one n (block j (stack h s)) n refl);
      join = λ t. (omega arith, ap frame_of (updated_at two j (stack h s) j refl));
    }
split_frames h s c n j false (next_split runs stands child_is next_is) =
    let child_next : c ≢ n = λ e. absurd (omega arith) in
    let one = updated (stack h) c (spawned (suc (length h)) j) in
    record {
      child_is = child_is;
      next_is = omega arith;
      child = ap frame_of (updated_off one n (stack h s) c child_next ∙ updated_at (stack h) c (spawned (suc (length h)) j) c refl);
      next = ap frame_of (updated_at one n (stack h s) n refl);
      join = λ t. cc;
    }

-- the same with an event that there may be
pub stays_with : (event : Option Event) (h : History) → Legal h → MatchOption event (Unit {0}) (Allowed h) → (strand : ℕ) → strand < unused h →
    frame_of (stack (with_event event h) strand) ≡ frame_of (stack h strand)
stays_with (Some event) h l a x lt = frame_stays (grown l a) x lt
stays_with None h l a x lt = refl

pub unused_with : (event : Option Event) (h : History) → ((s c n j : ℕ) (first : Bool) → event ≡ Some (split s c n j first) → ⊥) → unused (with_event event h) ≡ unused h
unused_with (Some (split s c n j first)) h calm = absurd (calm s c n j first refl)
unused_with (Some (same s)) h calm = refl
unused_with (Some (joined s j)) h calm = refl
unused_with (Some (waits s)) h calm = refl
unused_with (Some (call s)) h calm = refl
unused_with (Some (resumed s)) h calm = refl
unused_with (Some (ended s)) h calm = refl
unused_with (Some (ended_joined s j)) h calm = refl
unused_with (Some (finished s)) h calm = refl
unused_with None h calm = refl

pub longer_with : (event : Option Event) (h : History) → length h ≤ length (with_event event h)
longer_with (Some event) h = omega arith
longer_with None h = omega arith
