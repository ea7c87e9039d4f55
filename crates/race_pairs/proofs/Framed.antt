-- Frames of a strand, entry by entry.
-- h: a history; x: a strand; k: the number of an event; in a split, s is the spawner, c its child, n its next and j the join
use Rattle.std.proofs.Common.{◌≡◌, ◌≢◌, ◌⊎◌, inl, inr, Bool, true, false, Option, Some, None, ℕ, suc, ◌<◌, ◌≤◌, List, [], ◌∷◌, ◌++◌, length, refl, ◌∙◌, arith}
use Rattle.std.proofs.lemmas.Bool.{false≢true}
use Rattle.model_strands.specs.History.{Event, split, same, joined, waits, call, resumed, ended, ended_joined, finished, History}
use Rattle.model_strands.specs.Strands.{unused}
use Rattle.model_strands.specs.Legal.{Legal, Allowed, open_split, next_split, then, function_call, called_return}
use Rattle.law_strands.proofs.Updates.{updated_at, updated_off, updated_case}
use Rattle.law_strands.proofs.Places.{running_below}
use Rattle.law_strands.proofs.Range.{ranges}
use Rattle.model_histories.specs.Entries.{Entries, event_of, with_event, control_part}
use Rattle.race_pairs.specs.Frames.{behind, with_frame, frames}
use Rattle.race_pairs.proofs.Made.{legal_rest}
use Rattle.race_pairs.proofs.Numbers.{legal_before}

-- The split of a spawn.

pub split_goes_on : (first : Bool) (spawner child next join strand : ℕ) → ((first ≡ true) × (strand ≡ join)) ⊎ (strand ≡ next) → (number : ℕ) (frames : ℕ → List ℕ) →
    with_frame (Some (split spawner child next join first)) number frames strand ≡ frames spawner
split_goes_on true spawner child next join strand (inl t) number frames = updated_at _ join (frames spawner) strand t.1
split_goes_on true spawner child next join strand (inr e) number frames =
    updated_case (λ (xs : List ℕ). xs ≡ frames spawner) _ join (frames spawner) strand (λ _. refl) (λ _. updated_at _ next (frames spawner) strand e)
split_goes_on false spawner child next join strand (inl t) number frames = absurd (false≢true t.0)
split_goes_on false spawner child next join strand (inr e) number frames = updated_at _ next (frames spawner) strand e

pub split_child : (first : Bool) (spawner child next join strand : ℕ) → (first ≡ true → strand ≢ join) → strand ≢ next → strand ≡ child → (number : ℕ) (frames : ℕ → List ℕ) →
    with_frame (Some (split spawner child next join first)) number frames strand ≡ number ∷ frames spawner
split_child true spawner child next join strand nj nn e number frames =
    updated_off _ join (frames spawner) strand (nj refl) ∙ (updated_off _ next (frames spawner) strand nn ∙ updated_at frames child (number ∷ frames spawner) strand e)
split_child false spawner child next join strand nj nn e number frames =
    updated_off _ next (frames spawner) strand nn ∙ updated_at frames child (number ∷ frames spawner) strand e

pub split_elsewhere : (first : Bool) (spawner child next join strand : ℕ) → (first ≡ true → strand ≢ join) → strand ≢ next → strand ≢ child → (number : ℕ) (frames : ℕ → List ℕ) →
    with_frame (Some (split spawner child next join first)) number frames strand ≡ frames strand
split_elsewhere true spawner child next join strand nj nn nc number frames =
    updated_off _ join (frames spawner) strand (nj refl) ∙ (updated_off _ next (frames spawner) strand nn ∙ updated_off frames child (number ∷ frames spawner) strand nc)
split_elsewhere false spawner child next join strand nj nn nc number frames =
    updated_off _ next (frames spawner) strand nn ∙ updated_off frames child (number ∷ frames spawner) strand nc

-- it leaves the frames of the strands that were there
pub split_old : (h : History) (s c n j k : ℕ) (first : Bool) (f : ℕ → List ℕ) → Allowed h (split s c n j first) → (x : ℕ) → x < unused h →
    with_frame (Some (split s c n j first)) k f x ≡ f x
split_old h s c n j k true f (open_split run sy ce ne je) x lt = split_elsewhere true s c n j x (λ e. omega arith) (omega arith) (omega arith) k f
split_old h s c n j k false f (next_split run st ce ne) x lt = split_elsewhere false s c n j x (λ e. absurd (cc)) (omega arith) (omega arith) k f

-- Strands that nothing has made.

-- one event more gives no frames to what is still unused
unmade_with : (h : History) (event : Option Event) (k : ℕ) (f : ℕ → List ℕ) → Legal (with_event event h) → ((x : ℕ) → unused h ≤ x → f x ≡ []) →
    (x : ℕ) → unused (with_event event h) ≤ x → with_frame event k f x ≡ []
unmade_with h (Some (split s c n j true)) k f (then l (open_split run sy ce ne je)) none x le =
    split_elsewhere true s c n j x (λ e. omega arith) (omega arith) (omega arith) k f ∙ none x (omega arith)
unmade_with h (Some (split s c n j false)) k f (then l (next_split run st ce ne)) none x le =
    split_elsewhere false s c n j x (λ e. absurd (cc)) (omega arith) (omega arith) k f ∙ none x (omega arith)
unmade_with h (Some (call s)) k f (then l (function_call run)) none x le =
    let known = running_below h (ranges l) s run in
    updated_off f s (k ∷ f s) x (omega (arith, known)) ∙ none x le
unmade_with h (Some (resumed s)) k f (then l (called_return run st)) none x le =
    let known = running_below h (ranges l) s run in
    updated_off f s (behind (f s)) x (omega (arith, known)) ∙ none x le
unmade_with h (Some (same s)) k f l none x le = none x le
unmade_with h (Some (joined s j)) k f l none x le = none x le
unmade_with h (Some (waits s)) k f l none x le = none x le
unmade_with h (Some (ended s)) k f l none x le = none x le
unmade_with h (Some (ended_joined s j)) k f l none x le = none x le
unmade_with h (Some (finished s)) k f l none x le = none x le
unmade_with h None k f l none x le = none x le

unmade : (entries : Entries) → Legal (control_part entries) → (x : ℕ) → unused (control_part entries) ≤ x → frames entries x ≡ []
unmade [] l x le = refl
unmade (entry ∷ entries) l x le =
    unmade_with (control_part entries) (event_of entry) (suc (length entries)) (frames entries) l
    (unmade entries (legal_rest (event_of entry) (control_part entries) l)) x le

pub unused_with : (h : History) (event : Option Event) → unused h ≤ unused (with_event event h)
unused_with h (Some (split s c n j true)) = omega arith
unused_with h (Some (split s c n j false)) = omega arith
unused_with h (Some (call s)) = omega arith
unused_with h (Some (resumed s)) = omega arith
unused_with h (Some (same s)) = omega arith
unused_with h (Some (joined s j)) = omega arith
unused_with h (Some (waits s)) = omega arith
unused_with h (Some (ended s)) = omega arith
unused_with h (Some (ended_joined s j)) = omega arith
unused_with h (Some (finished s)) = omega arith
unused_with h None = omega arith

pub unused_before : (later earlier : Entries) → unused (control_part earlier) ≤ unused (control_part (later ++ earlier))
unused_before [] earlier = omega arith
unused_before (entry ∷ later) earlier =
    omega (arith, unused_before later earlier, unused_with (control_part (later ++ earlier)) (event_of entry))

-- a strand that no entry has made had no frames before either
pub none_before : (later earlier : Entries) → Legal (control_part (later ++ earlier)) → (x : ℕ) → unused (control_part (later ++ earlier)) ≤ x → frames earlier x ≡ []
none_before later earlier l x le =
    unmade earlier (legal_before later earlier l) x (omega (arith, unused_before later earlier))
