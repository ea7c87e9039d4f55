-- Statuses of a strand, followed back from entry to entry.
use Rattle.std.proofs.Common.{◌≡◌, ◌≢◌, ◌⊎◌, inl, inr, ℕ, suc, ◌+◌, ◌-◌, ◌<◌, ◌≤◌, Bool, true, false, List, [], ◌∷◌, ◌++◌, length, get_or, take, drop, reverse, refl, sym, ap, ◌∙◌, subst, arith}
use Rattle.std.proofs.lemmas.Bool.{false≢true}
use Rattle.std.proofs.lemmas.List.{reverse-append, take-append-drop}
use Rattle.model_strands.specs.declared.spawned.Spawned.{Spawned}
use Rattle.model_strands.specs.History.{split, History}
use Rattle.model_strands.specs.Updated.{updated}
use Rattle.model_strands.specs.Strands.{Status, absent, reserved, running, over, status}
use Rattle.law_strands.proofs.Updates.{updated_at, updated_off}
use Rattle.model_histories.specs.declared.answer.Entry.{Entry}
use Rattle.model_histories.specs.Entries.{Entries, control_part}
use Rattle.model_histories.specs.Legal.{IsLegal}
use Rattle.model_histories.specs.Shapes.{Shape}
use Rattle.race_pairs.specs.declared.standing.Effect.{Effect}
use Rattle.race_pairs.specs.declared.standing.Effect.TheVariants.{Begins, Ends, Reserves, Stays}
use Rattle.race_pairs.specs.Makers.{HasNumber, Began}
use Rattle.race_pairs.specs.Standings.{status_behind, IsEnd, IsKeptBack}
use Rattle.race_pairs.proofs.Numbers.{so_far, number_next}

-- ---- what a split makes of a strand

pub split_join : (spawner child next join strand : ℕ) (first : Bool) → first ≡ true → strand ≡ join → (history : History) →
    status (split spawner child next join first ∷ history) strand ≡ reserved
split_join spawner child next join strand true is e history = updated_at _ join reserved strand e
split_join spawner child next join strand false is e history = absurd (false≢true is)

-- what an if with an `and` in its condition tells
pub not_both : (first : Bool) (A : Type 0) → ((first ≡ true) × (A → ⊥)) ⊎ (first ≡ false) → first ≡ true → A → ⊥
not_both first A (inl t) e a = t.1 a
not_both first A (inr t) e a = false≢true (sym t ∙ e)

pub split_next : (spawner child next join strand : ℕ) (first : Bool) → (first ≡ true → strand ≢ join) → strand ≡ next → (history : History) →
    status (split spawner child next join first ∷ history) strand ≡ running
split_next spawner child next join strand true apart e history = updated_off _ join reserved strand (apart refl) ∙ updated_at _ next running strand e
split_next spawner child next join strand false apart e history = updated_at _ next running strand e

-- the strand is neither the join of a first split nor its next
pub split_off : (spawner child next join strand : ℕ) (first : Bool) → (first ≡ true → strand ≢ join) → strand ≢ next → (history : History) (is : Status) →
    updated (updated (status history) spawner over) child running strand ≡ is → status (split spawner child next join first ∷ history) strand ≡ is
split_off spawner child next join strand true apart off history is before =
    updated_off _ join reserved strand (apart refl) ∙ (updated_off _ next running strand off ∙ before)
split_off spawner child next join strand false apart off history is before = updated_off _ next running strand off ∙ before

-- ---- one entry back

-- the entry at a place of a slice, and those before and behind it
parts_at : (told : List Entry) (at : ℕ) (d : Entry) → (at ≡ 0 → ⊥) → at ≤ length told →
    reverse told ≡ reverse (drop at told) ++ get_or told (at - 1) d ∷ reverse (take (at - 1) told)
parts_at told at d some within =
    let one : at - 1 + 1 ≡ at = omega arith in
    let below : at - 1 < length told = omega arith in
    let here : reverse (take at told) ≡ get_or told (at - 1) d ∷ reverse (take (at - 1) told) =
    subst (λ (n : ℕ). reverse (take n told) ≡ get_or told (at - 1) d ∷ reverse (take (at - 1) told)) one (so_far told (at - 1) d below) in
    ap (λ (xs : Entries). reverse xs) (sym (take-append-drop at told)) ∙ reverse-append (take at told) (drop at told) ∙
    ap (λ (xs : Entries). reverse (drop at told) ++ xs) here

number_at : (told : List Entry) (at : ℕ) → (at ≡ 0 → ⊥) → at ≤ length told → at ≡ suc (length (reverse (take (at - 1) told)))
number_at told at some within =
    let below : at - 1 < length told = omega arith in
    let next = number_next told (at - 1) below in
    omega (arith, next, some)

-- the status behind some entries, by those so far
abbrev pub IsBehind : List Entry → ℕ → ℕ → Type 0
IsBehind told strand at = status (control_part (reverse told)) strand ≡ status (control_part (reverse (take at told))) strand

-- what an entry makes of a strand
abbrev pub Makes : Entry → ℕ → Effect → Type 0
Makes entry strand effect = (entries : Entries) → status (control_part (entry ∷ entries)) strand ≡ status_behind effect (status (control_part entries) strand)

back : (told : List Entry) (strand at : ℕ) (d : Entry) (effect : Effect) → (at ≡ 0 → ⊥) → at ≤ length told → Makes (get_or told (at - 1) d) strand effect →
    IsBehind told strand at → status (control_part (reverse told)) strand ≡ status_behind effect (status (control_part (reverse (take (at - 1) told))) strand)
back told strand at d effect some within makes behind =
    let one : at - 1 + 1 ≡ at = omega arith in
    let below : at - 1 < length told = omega arith in
    let here : reverse (take at told) ≡ get_or told (at - 1) d ∷ reverse (take (at - 1) told) =
    subst (λ (n : ℕ). reverse (take n told) ≡ get_or told (at - 1) d ∷ reverse (take (at - 1) told)) one (so_far told (at - 1) d below) in
    behind ∙ ap (λ (xs : Entries). status (control_part xs) strand) here ∙ makes (reverse (take (at - 1) told))

pub stays_back : (told : List Entry) (strand at : ℕ) (d : Entry) (effect : Effect) → effect ≡ Stays → (at ≡ 0 → ⊥) → at ≤ length told →
    Makes (get_or told (at - 1) d) strand effect → IsBehind told strand at → IsBehind told strand (at - 1)
stays_back told strand at d effect is some within makes behind =
    back told strand at d effect some within makes behind ∙ ap (λ (e : Effect). status_behind e (status (control_part (reverse (take (at - 1) told))) strand)) is

pub begins_back : (told : List Entry) (strand at : ℕ) (d : Entry) (effect : Effect) → effect ≡ Begins → (at ≡ 0 → ⊥) → at ≤ length told →
    Makes (get_or told (at - 1) d) strand effect → IsBehind told strand at → status (control_part (reverse told)) strand ≡ running
begins_back told strand at d effect is some within makes behind =
    back told strand at d effect some within makes behind ∙ ap (λ (e : Effect). status_behind e (status (control_part (reverse (take (at - 1) told))) strand)) is

-- the strand of an entry of a legal history ran before it
ran_before : (shape : Shape) (later earlier : Entries) (entry : Entry) → IsLegal shape (later ++ entry ∷ earlier) →
    status (control_part earlier) entry.request.strand ≡ running
ran_before shape [] earlier entry legal = legal.1.runs
ran_before shape (x ∷ later) earlier entry legal = ran_before shape later earlier entry legal.0

has_at : (later earlier : Entries) (entry : Entry) → HasNumber (later ++ entry ∷ earlier) (suc (length earlier)) entry
has_at [] earlier entry = inl (refl, refl)
has_at (x ∷ later) earlier entry = inr (has_at later earlier entry)

pub ends_back : (told : List Entry) (strand at : ℕ) (d : Entry) (effect : Effect) (shape : Shape) → effect ≡ Ends → (at ≡ 0 → ⊥) → at ≤ length told →
    Makes (get_or told (at - 1) d) strand effect → strand ≡ (get_or told (at - 1) d).request.strand → IsBehind told strand at → IsLegal shape (reverse told) →
    IsEnd (reverse told) at strand
ends_back told strand at d effect shape is some within makes asked behind legal =
    let entry = get_or told (at - 1) d in
    let earlier = reverse (take (at - 1) told) in
    let later = reverse (drop at told) in
    let parts = parts_at told at d some within in
    let ends : (entries : Entries) → status (control_part (entry ∷ entries)) strand ≡ over =
    λ entries. makes entries ∙ ap (λ (e : Effect). status_behind e (status (control_part entries) strand)) is in
    record {
      earlier = earlier;
      entry = entry;
      later = later;
      whole = parts;
      number_is = number_at told at some within;
      asked = sym asked;
      ran = ap (λ (n : ℕ). status (control_part earlier) n) asked ∙
          ran_before shape later earlier entry (subst (λ (xs : Entries). IsLegal shape xs) parts legal);
      ended = ends earlier;
      is_over = back told strand at d effect some within makes behind ∙ ap (λ (e : Effect). status_behind e (status (control_part earlier) strand)) is;
    }

pub reserves_back : (told : List Entry) (strand at : ℕ) (d : Entry) (effect : Effect) → effect ≡ Reserves → (at ≡ 0 → ⊥) → at ≤ length told →
    Makes (get_or told (at - 1) d) strand effect →
    ((spawned : Spawned) × Began (get_or told (at - 1) d) spawned × (spawned.first ≡ true) × (spawned.join ≡ strand)) → IsBehind told strand at →
    IsKeptBack (reverse told) at strand
reserves_back told strand at d effect is some within makes kept behind =
    let entry = get_or told (at - 1) d in
    let earlier = reverse (take (at - 1) told) in
    let has : HasNumber (reverse told) at entry =
    subst (λ (xs : Entries). HasNumber xs at entry) (sym (parts_at told at d some within))
    (subst (λ (n : ℕ). HasNumber (reverse (drop at told) ++ entry ∷ earlier) n entry) (sym (number_at told at some within)) (has_at (reverse (drop at told)) earlier entry)) in
    record {
      spawner = entry.request.strand;
      spawned = kept.0;
      spawn = (entry, has, refl, kept.1);
      opens = kept.2;
      join = kept.3;
      is_reserved = back told strand at d effect some within makes behind ∙ ap (λ (e : Effect). status_behind e (status (control_part earlier) strand)) is;
    }

-- before all entries strand 0 runs, and there is no other
pub first_back : (told : List Entry) (strand at : ℕ) → at ≡ 0 → strand ≡ 0 → IsBehind told strand at → status (control_part (reverse told)) strand ≡ running
first_back told strand at none is behind = behind ∙ ap (λ (n : ℕ). status (control_part (reverse (take n told))) strand) none ∙ updated_at _ 0 running strand is

pub absent_back : (told : List Entry) (strand at : ℕ) → at ≡ 0 → strand ≢ 0 → IsBehind told strand at → status (control_part (reverse told)) strand ≡ absent
absent_back told strand at none off behind = behind ∙ ap (λ (n : ℕ). status (control_part (reverse (take n told))) strand) none ∙ updated_off _ 0 running strand off
