-- How many strands there are, followed back from entry to entry.
use Rattle.std.proofs.Common.{◌≡◌, ℕ, ◌+◌, ◌-◌, ◌<◌, ◌≤◌, Bool, true, false, List, ◌∷◌, length, get_or, take, reverse, Option, Some, None, refl, sym, ap, ◌∙◌, subst, arith}
use Rattle.std.specs.Prelude.{MatchOption, if◌then◌else◌}
use Rattle.std.proofs.lemmas.List.{take_all}
use Rattle.model_strands.specs.declared.spawned.Spawned.{Spawned}
use Rattle.model_strands.specs.History.{Event, split, same, joined, waits, call, resumed, ended, ended_joined, finished, History}
use Rattle.model_strands.specs.Strands.{unused}
use Rattle.model_strands.specs.Legal.{Legal, open_split, next_split, then as later}
use Rattle.model_histories.specs.declared.answer.Entry.{Entry}
use Rattle.model_histories.specs.Entries.{Entries, event_of, with_event, control_part}
use Rattle.race_pairs.specs.Makers.{Began}
use Rattle.race_pairs.proofs.Made.{split_made}
use Rattle.race_pairs.proofs.Numbers.{so_far, legal_next}

-- the strands of all entries are those of the first so many
abbrev pub AreCounted : List Entry → ℕ → Type 0
AreCounted told at = unused (control_part (reverse told)) ≡ unused (control_part (reverse (take at told)))

pub all_counted : (told : List Entry) (at : ℕ) → at ≡ length told → AreCounted told at
all_counted told at is = ap (λ (xs : List Entry). unused (control_part (reverse xs))) (sym (take_all at told (omega arith)))

pub none_counted : (told : List Entry) (at : ℕ) → at ≡ 0 → AreCounted told at → 1 ≡ unused (control_part (reverse told))
none_counted told at none counted = sym (counted ∙ ap (λ (n : ℕ). unused (control_part (reverse (take n told)))) none)

unsplit : (event : Option Event) → ((s c n j : ℕ) (first : Bool) → event ≡ Some (split s c n j first) → ⊥) → (h : History) →
    unused (with_event event h) ≡ unused h
unsplit (Some (split s c n j first)) none h = absurd (none s c n j first refl)
unsplit (Some (same s)) none h = refl
unsplit (Some (joined s j)) none h = refl
unsplit (Some (waits s)) none h = refl
unsplit (Some (call s)) none h = refl
unsplit (Some (resumed s)) none h = refl
unsplit (Some (ended s)) none h = refl
unsplit (Some (ended_joined s j)) none h = refl
unsplit (Some (finished s)) none h = refl
unsplit None none h = refl

one_back : (told : List Entry) (at : ℕ) (d : Entry) → (at ≡ 0 → ⊥) → at ≤ length told → AreCounted told at →
    unused (control_part (reverse told)) ≡ unused (control_part (get_or told (at - 1) d ∷ reverse (take (at - 1) told)))
one_back told at d some within counted =
    let one : at - 1 + 1 ≡ at = omega arith in
    let below : at - 1 < length told = omega arith in
    let here : reverse (take at told) ≡ get_or told (at - 1) d ∷ reverse (take (at - 1) told) =
    subst (λ (n : ℕ). reverse (take n told) ≡ get_or told (at - 1) d ∷ reverse (take (at - 1) told)) one (so_far told (at - 1) d below) in
    counted ∙ ap (λ (xs : Entries). unused (control_part xs)) here

pub other_counted : (told : List Entry) (at : ℕ) (d : Entry) → (at ≡ 0 → ⊥) → at ≤ length told → (found : Option Spawned) →
    MatchOption found ((spawned : Spawned) → Began (get_or told (at - 1) d) spawned → ⊥) (Began (get_or told (at - 1) d)) →
    ((spawned : Spawned) → found ≡ Some spawned → ⊥) → AreCounted told at → AreCounted told (at - 1)
other_counted told at d some within (Some one) found none counted = absurd (none one refl)
other_counted told at d some within None found none counted =
    one_back told at d some within counted ∙
    unsplit (event_of (get_or told (at - 1) d))
    (λ s c n j first e. (let made = split_made (get_or told (at - 1) d).request.strand (get_or told (at - 1) d).request.act (get_or told (at - 1) d).answer s c n j first e in
    found made.0 (made.2, made.3))) (control_part (reverse (take (at - 1) told)))

behind_split : (s c n j : ℕ) (first : Bool) (h : History) → Legal (split s c n j first ∷ h) → unused (split s c n j first ∷ h) ≡ c + (if first then 3 else 2)
behind_split s c n j true h (later l (open_split run sy ce ne je)) = omega arith
behind_split s c n j false h (later l (next_split run st ce ne)) = omega arith

pub spawn_counted : (told : List Entry) (at : ℕ) (d : Entry) → (at ≡ 0 → ⊥) → at ≤ length told → Legal (control_part (reverse told)) → (found : Option Spawned) →
    MatchOption found ((spawned : Spawned) → Began (get_or told (at - 1) d) spawned → ⊥) (Began (get_or told (at - 1) d)) →
    (spawned : Spawned) → found ≡ Some spawned → AreCounted told at → spawned.child + (if spawned.first then 3 else 2) ≡ unused (control_part (reverse told))
spawn_counted told at d some within l (Some one) found spawned is counted =
    let one_is : one ≡ spawned = cc in
    let began = subst (Began (get_or told (at - 1) d)) one_is found in
    let below : at - 1 < length told = omega arith in
    let event_is : event_of (get_or told (at - 1) d) ≡ Some (split (get_or told (at - 1) d).request.strand spawned.child spawned.next spawned.join spawned.first) = rw (began.0, began.1) refl in
    let legal = subst (λ (o : Option Event). Legal (with_event o (control_part (reverse (take (at - 1) told))))) event_is (legal_next told (at - 1) d below l) in
    sym (one_back told at d some within counted ∙
    (ap (λ (o : Option Event). unused (with_event o (control_part (reverse (take (at - 1) told))))) event_is ∙
    behind_split (get_or told (at - 1) d).request.strand spawned.child spawned.next spawned.join spawned.first (control_part (reverse (take (at - 1) told))) legal))
spawn_counted told at d some within l None found spawned is counted = absurd (cc)
