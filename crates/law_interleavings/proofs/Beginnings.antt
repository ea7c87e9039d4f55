-- Frames and where they begin: different frames begin at different addresses.
use Rattle.std.proofs.Common.{◌≡◌, ◌⊎◌, inl, inr, ℕ, suc, ◌<◌, ◌≤◌, true, false, ◌∷◌, length, refl, sym, ap, ◌∙◌, arith}
use Rattle.model_strands.specs.Address.{child, extended}
use Rattle.model_strands.specs.History.{Event, split, same, joined, waits, call, resumed, ended, ended_joined, finished, History}
use Rattle.model_strands.specs.Strands.{unused}
use Rattle.model_strands.specs.Legal.{Allowed, Legal, start, then}
use Rattle.model_strands.specs.Addresses.{address}
use Rattle.law_strands.proofs.Updates.{same_or_not, updated_at, updated_off}
use Rattle.law_strands.proofs.Range.{ranges, child_seen}
use Rattle.law_strands.proofs.Holders.{holders, Splitting, splitting}
use Rattle.law_strands.proofs.Addresses.{addresses}
use Rattle.law_strands.proofs.Kept.{address_stays}
use Rattle.law_interleavings.specs.Fronts.{first_front, moved_by, front, IsBegun}
use Rattle.law_interleavings.specs.Traces.{beginning}
use Rattle.law_interleavings.proofs.Fronts.{begun_frame_below}

pub beginning_stays : (h : History) (e : Event) (frame : ℕ) → frame ≤ length h → beginning (e ∷ h) frame ≡ beginning h frame
beginning_stays h (split s c n j first) f le = updated_off (beginning h) (suc (length h)) _ f (omega arith)
beginning_stays h (same s) f le = refl
beginning_stays h (joined s j) f le = refl
beginning_stays h (waits s) f le = refl
beginning_stays h (call s) f le = refl
beginning_stays h (resumed s) f le = refl
beginning_stays h (ended s) f le = refl
beginning_stays h (ended_joined s j) f le = refl
beginning_stays h (finished s) f le = refl

-- a frame after an event: it opens, or is as it was but for the move
pub data Later (h : History) (e : Event) (frame : ℕ) : Type 0 where
  opens : frame ≡ suc (length h) → front (e ∷ h) frame ≡ first_front (beginning (e ∷ h) frame) → Later h e frame
  moves_on : front (e ∷ h) frame ≡ moved_by h e (front h) frame → beginning (e ∷ h) frame ≡ beginning h frame → Later h e frame

pub later : (h : History) (e : Event) (frame : ℕ) → Later h e frame
later h (split s c n j first) f = elim (same_or_not f (suc (length h))) [
  | inl q ↦ opens q (updated_at (moved_by h (split s c n j first) (front h)) (suc (length h)) _ f q
      ∙ ap first_front (sym (updated_at (beginning h) (suc (length h)) (extended (address h s) child) f q)))
  | inr q ↦ moves_on (updated_off (moved_by h (split s c n j first) (front h)) (suc (length h)) _ f q) (updated_off (beginning h) (suc (length h)) _ f q)
]
later h (same s) f = moves_on refl refl
later h (joined s j) f = moves_on refl refl
later h (waits s) f = moves_on refl refl
later h (call s) f = moves_on refl refl
later h (resumed s) f = moves_on refl refl
later h (ended s) f = moves_on refl refl
later h (ended_joined s j) f = moves_on refl refl
later h (finished s) f = moves_on refl refl

-- a frame is begun by this event or was before
abbrev pub IsFirst : History → Event → ℕ → Type 0
IsFirst history event frame =
    (frame ≡ suc (length history)) × ((number : ℕ) × (number < unused (event ∷ history)) × (unused history ≤ number) ×
    (address (event ∷ history) number ≡ beginning (event ∷ history) frame))

pub begun_now : {h : History} {e : Event} → Legal h → Allowed h e → (frame : ℕ) → IsBegun (e ∷ h) frame → IsFirst h e frame ⊎ IsBegun h frame
begun_now {h = h} {e = split s c n j first} l a f (inl q) =
    let w : Splitting h s c n j first = splitting h s c n j first (ranges l) (holders l) a in
    inl (
      q,
      (
        c,
        omega (arith, w.numbers.child_is, w.numbers.grows),
        omega (arith, w.numbers.child_is),
        (child_seen h s c n j first w.numbers).2 ∙ sym (updated_at (beginning h) (suc (length h)) (extended (address h s) child) f q),
      ),
    )
begun_now {h = h} {e = split s c n j first} l a f (inr b) = inr b
begun_now {h = h} {e = same s} l a f b = inr b
begun_now {h = h} {e = joined s j} l a f b = inr b
begun_now {h = h} {e = waits s} l a f b = inr b
begun_now {h = h} {e = call s} l a f b = inr b
begun_now {h = h} {e = resumed s} l a f b = inr b
begun_now {h = h} {e = ended s} l a f b = inr b
begun_now {h = h} {e = ended_joined s j} l a f b = inr b
begun_now {h = h} {e = finished s} l a f b = inr b

unused_grows : (h : History) (e : Event) → unused h ≤ unused (e ∷ h)
unused_grows h (split s c n j true) = omega arith
unused_grows h (split s c n j false) = omega arith
unused_grows h (same s) = omega arith
unused_grows h (joined s j) = omega arith
unused_grows h (waits s) = omega arith
unused_grows h (call s) = omega arith
unused_grows h (resumed s) = omega arith
unused_grows h (ended s) = omega arith
unused_grows h (ended_joined s j) = omega arith
unused_grows h (finished s) = omega arith

-- the first strand of a frame
abbrev FirstStrand : History → ℕ → Type 0
FirstStrand history frame = (number : ℕ) × (number < unused history) × (address history number ≡ beginning history frame)

first_later : {h : History} {e : Event} → Legal h → Allowed h e → (frame : ℕ) → IsBegun h frame → (number : ℕ) → number < unused h →
    address h number ≡ beginning h frame → (number < unused (e ∷ h)) × (address (e ∷ h) number ≡ beginning (e ∷ h) frame)
first_later {h = h} {e = e} l a f b n lt q =
    let g = unused_grows h e in
    (omega (arith, g, lt), address_stays (then l a) n lt ∙ q ∙ sym (beginning_stays h e f (begun_frame_below h f b)))

pub first_strand : {h : History} → Legal h → (frame : ℕ) → IsBegun h frame → FirstStrand h frame
first_strand start f b = (0, omega arith, refl)
first_strand (then {history = h} {event = e} l a) f b = go (first_strand l f) (begun_now l a f b)
  where
    go : (IsBegun h f → FirstStrand h f) → IsFirst h e f ⊎ IsBegun h f → FirstStrand (e ∷ h) f
    go older (inl t) = (t.1.0, t.1.1, t.1.3)
    go older (inr q) = let t = older q in let u = first_later l a f q t.0 t.1 t.2 in (t.0, u.0, u.1)

-- a new frame begins where no other did
new_alone : {h : History} {e : Event} (l : Legal h) (a : Allowed h e) (f g : ℕ) → IsFirst h e f → IsBegun h g → beginning (e ∷ h) f ≡ beginning (e ∷ h) g → ⊥
new_alone {h = h} {e = e} l a f g t b q =
    let u = first_strand l g b in
    let v = first_later l a g b u.0 u.1 u.2 in
    let same_number : t.1.0 ≡ u.0 = (addresses (then l a)).distinct t.1.0 u.0 t.1.1 v.0 (t.1.3 ∙ q ∙ sym v.1) in
    let lt : u.0 < unused h = u.1 in
    let ge : unused h ≤ t.1.0 = t.1.2 in
    omega (arith, same_number, lt, ge)

pub beginning_alone : {h : History} → Legal h → (frame other : ℕ) → IsBegun h frame → IsBegun h other → beginning h frame ≡ beginning h other → frame ≡ other
beginning_alone start f g b c q = b ∙ sym c
beginning_alone (then {history = h} {event = e} l a) f g b c q = go (beginning_alone l f g) (begun_now l a f b) (begun_now l a g c)
  where
    go : (IsBegun h f → IsBegun h g → beginning h f ≡ beginning h g → f ≡ g) → IsFirst h e f ⊎ IsBegun h f → IsFirst h e g ⊎ IsBegun h g → f ≡ g
    go older (inl t) (inl u) = t.0 ∙ sym u.0
    go older (inl t) (inr u) = absurd (new_alone l a f g t u q)
    go older (inr t) (inl u) = absurd (new_alone l a g f u t (sym q))
    go older (inr t) (inr u) = older t u (sym (beginning_stays h e f (begun_frame_below h f t)) ∙ q ∙ beginning_stays h e g (begun_frame_below h g u))
