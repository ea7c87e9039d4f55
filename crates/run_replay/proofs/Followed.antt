-- Entries that are judged, one after another.
-- d: an entry, where a list has none
use Rattle.std.proofs.Common.{◌≡◌, ◌⊎◌, inl, inr, ℕ, ◌+◌, ◌<◌, ◌≤◌, List, [], ◌∷◌, ◌++◌, length, reverse, take, drop, get_or, slice_get, Some, None, refl, sym, ◌∙◌, ap, subst, arith}
use Rattle.std.proofs.lemmas.List.{take-append-drop, reverse-append, length-reverse, length-take-le}
use Rattle.std.proofs.lemmas.Option.{slice_get_cases}
use Rattle.model_histories.specs.declared.answer.Entry.{Entry}
use Rattle.model_histories.specs.Entries.{Entries}
use Rattle.model_histories.specs.Shapes.{Shape, most_entries}
use Rattle.model_histories.specs.States.{GateState}
use Rattle.model_races.specs.Judged.{IsJudged}
use Rattle.run_replay.specs.Turns.{IsEntered}
use Rattle.run_replay.proofs.Told.{more_played}

judged_shorter : (shape : Shape) (later entries : Entries) → IsJudged shape (later ++ entries) → IsJudged shape entries
judged_shorter shape [] entries j = j
judged_shorter shape (entry ∷ later) entries j =
    judged_shorter shape later entries (record { legal = j.legal.0; memory = j.memory.0; reducers = j.reducers.0 })

-- the first so many entries are judged
pub judged_first : (shape : Shape) (entries : List Entry) (index : ℕ) → IsJudged shape (reverse entries) → IsJudged shape (reverse (take index entries))
judged_first shape entries index j =
    let parts : reverse entries ≡ reverse (drop index entries) ++ reverse (take index entries) =
    ap reverse (sym (take-append-drop index entries)) ∙ reverse-append (take index entries) (drop index entries) in
    judged_shorter shape (reverse (drop index entries)) (reverse (take index entries)) (subst (IsJudged shape) parts j)

-- the state of a gate with one entry more
abbrev pub with_one : GateState → Entry → GateState
with_one state entry = record state { history = entry ∷ state.history }

pub entered_next : (shape : Shape) (entries : List Entry) (index : ℕ) (state : GateState) (d : Entry) → IsJudged shape (reverse entries) →
    index < most_entries → index < length entries → state.shape ≡ shape → state.limit ≡ most_entries → state.history ≡ reverse (take index entries) →
    IsEntered (get_or entries index d) state (with_one state (get_or entries index d))
entered_next shape entries index state d judged within below shape_is limit_is history =
    let entry = get_or entries index d in
    let longer : entry ∷ state.history ≡ reverse (take (index + 1) entries) = more_played entries index d state.history (entry ∷ state.history) below refl history in
    let counted : length state.history ≡ index = ap length history ∙ length-reverse (take index entries) ∙ length-take-le index entries (omega (arith, below)) in
    record {
      shape = refl;
      limit = refl;
      stopped = refl;
      history = refl;
      below = omega (arith, counted, limit_is, within, below);
      judged = subst (λ s. IsJudged s (entry ∷ state.history)) (sym shape_is) (subst (IsJudged shape) (sym longer) (judged_first shape entries (index + 1) judged));
    }

-- so many entries were played
pub so_many : (entries : List Entry) (index : ℕ) (history : Entries) → index < length entries → history ≡ reverse (take index entries) → length history ≡ index
so_many entries index history below is = ap length is ∙ length-reverse (take index entries) ∙ length-take-le index entries (omega (arith, below))

-- what holds of each gate that has entered the next entry holds of one
pub one_further : (shape : Shape) (entries : List Entry) (index : ℕ) (state : GateState) (d : Entry) → IsJudged shape (reverse entries) →
    index < most_entries → index < length entries → state.shape ≡ shape → state.limit ≡ most_entries → state.history ≡ reverse (take index entries) →
    (P : GateState → Type 0) → ((next : GateState) → IsEntered (get_or entries index d) state next → P next) →
    (next : GateState) × P next × (next.history ≡ reverse (take (index + 1) entries))
one_further shape entries index state d judged within below shape_is limit_is history P holds =
    let next = with_one state (get_or entries index d) in (
      next,
      holds next (entered_next shape entries index state d judged within below shape_is limit_is history),
      more_played entries index d state.history next.history below refl history,
    )

-- the entry at a place within a list
pub entry_there : (entries : List Entry) (index : ℕ) → index < length entries → (entry : Entry) × (slice_get entries index ≡ Some entry)
entry_there entries index below = there (slice_get_cases entries index).1 where
  there : ((entry : Entry) × (index < length entries) × (slice_get entries index ≡ Some entry) × (get_or entries index entry ≡ entry))
      ⊎ ((length entries ≤ index) × (slice_get entries index ≡ None)) → (entry : Entry) × (slice_get entries index ≡ Some entry)
  there (inl found) = (found.0, found.2)
  there (inr past) = absurd (omega (arith, below, past.0))
