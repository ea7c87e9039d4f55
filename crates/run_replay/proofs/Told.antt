-- What a replay tells at its end.
use Rattle.std.proofs.Common.{◌≡◌, ◌⊎◌, ℕ, zero, suc, ◌+◌, ◌<◌, List, [], ◌∷◌, ◌++◌, length, reverse, take, drop, append_assoc, Result, Ok, Err, refl, sym, ◌∙◌, ap, subst, arith}
use Rattle.std.specs.Prelude.{get_or, OnOk}
use Rattle.std.proofs.lemmas.List.{take_more, take-append-drop, reverse-append, length-reverse}
use Rattle.std.proofs.Math.Seq.{take-length}
use Rattle.model_histories.specs.declared.answer.Entry.{Entry}
use Rattle.model_histories.specs.Entries.{Entries}
use Rattle.model_histories.specs.Shapes.{Shape, most_entries}
use Rattle.model_histories.specs.States.{GateState}
use Rattle.model_races.specs.Verdicts.{IsRefused}
use Rattle.model_histories.specs.Extensions.{IsFinished}
use Rattle.model_bodies.specs.Codes.{Code}
use Rattle.frame_steps.specs.States.{FrameState}
use Rattle.model_runs.specs.Runs.{IsRun, IsFinishedRun}
use Rattle.run_replay.specs.FrameTables.{placed_frames, Plays, IsMisfit}
use Rattle.run_replay.specs.declared.replays.ReplayFault.{ReplayFault}
use Rattle.run_replay.specs.declared.replays.ReplayFault.TheVariants.{Strange, Unfinished, Memory}
use Rattle.run_replay.specs.Replays.{IsUnfinishedRun, IsStrange}
use Rattle.run_replay.proofs.Openings.{plays_run, told}

-- what holds anyway holds at Ok
pub always_ok : {T E : Type 0} (result : Result T E) (P : Type 0) → P → OnOk result P
always_ok (Ok value) P holds = holds
always_ok (Err fault) P holds = tt

one_later : {A : Type 0} (xs : List A) (index : ℕ) (x : A) → index < length xs → x ≡ get_or xs index x → take (index + 1) xs ≡ take index xs ++ x ∷ []
one_later xs index x below is = take_more xs index x below ∙ ap (λ y. take index xs ++ y ∷ []) (sym is)

parted : {A : Type 0} (xs : List A) (index : ℕ) (x : A) → index < length xs → x ≡ get_or xs index x → xs ≡ take index xs ++ x ∷ drop (index + 1) xs
parted xs index x below is =
    sym (take-append-drop (index + 1) xs) ∙ ap (λ l. l ++ drop (index + 1) xs) (one_later xs index x below is) ∙
    append_assoc (take index xs) (x ∷ []) (drop (index + 1) xs)

-- an item is what is read there
read_there : {A : Type 0} (xs : List A) (index : ℕ) (other : A) → index < length xs → get_or xs index other ≡ get_or xs index (get_or xs index other)
read_there [] index other below = absurd (omega arith)
read_there (x ∷ xs) zero other below = refl
read_there (x ∷ xs) (suc index) other below = read_there xs index other (omega arith)

-- with one more entry the newest stands first
pub more_played : (entries : List Entry) (index : ℕ) (other : Entry) (old new : Entries) → index < length entries → new ≡ get_or entries index other ∷ old →
    old ≡ reverse (take index entries) → new ≡ reverse (take (index + 1) entries)
more_played entries index other old new below played before =
    played ∙ ap (λ l. get_or entries index other ∷ l) before ∙
    sym (ap reverse (take_more entries index other below) ∙ reverse-append (take index entries) (get_or entries index other ∷ []))

module _ (functions : List Code) (shape : Shape) (gate : GateState) (frames : List FrameState) (places : List ℕ) (plays : Plays functions shape gate (placed_frames frames places))
    (entries : List Entry) (index : ℕ) (history : gate.history ≡ reverse (take index entries)) where
  strange_there : (entry : Entry) (number : ℕ) → index < length entries → entry ≡ get_or entries index entry → number ≡ suc (length gate.history) →
      IsMisfit functions shape entry gate → IsStrange functions shape entries number
  strange_there entry number below is place misfit = record {
    earlier = take index entries;
    entry = entry;
    later = drop (index + 1) entries;
    all = parted entries index entry below is;
    place = place ∙ ap suc (ap length history ∙ length-reverse (take index entries));
    before = subst (IsRun functions shape) history (plays_run functions shape gate frames places plays);
    strange = told functions shape entry (reverse (take index entries)) number (place ∙ ap (λ l. suc (length l)) history)
        (subst (λ (l : Entries). IsRun functions shape (entry ∷ l) → (length l ≡ most_entries) ⊎ IsRefused entry.answer) history misfit);
  }

  pub strange_at : (other : Entry) (number : ℕ) → index < length entries → number ≡ suc (length gate.history) →
      IsMisfit functions shape (get_or entries index other) gate → IsStrange functions shape entries number
  strange_at other number below place misfit = strange_there (get_or entries index other) number below (read_there entries index other below) place misfit

  all_played : index ≡ length entries → gate.history ≡ reverse entries
  all_played e = history ∙ ap (λ n. reverse (take n entries)) e ∙ ap reverse (take-length entries)

  pub run_of_all : index ≡ length entries → IsRun functions shape (reverse entries)
  run_of_all e = subst (IsRun functions shape) (all_played e) (plays_run functions shape gate frames places plays)

  pub finished_all : index ≡ length entries → IsFinished gate.history → IsFinishedRun functions shape (reverse entries)
  finished_all e f = (run_of_all e, subst IsFinished (all_played e) f)

  pub unfinished_all : index ≡ length entries → (IsFinished gate.history → ⊥) → IsUnfinishedRun functions shape (reverse entries)
  unfinished_all e none = (run_of_all e, (λ f. none (subst IsFinished (sym (all_played e)) f)))

-- an answer tells of no other fault
module _ {T : Type 0} where
  abbrev IsOther : Result T ReplayFault → ReplayFault → Type 0
  IsOther result fault = result ≡ Err fault → ⊥

  pub ok-other : (answer : T) (fault : ReplayFault) → IsOther (Ok answer) fault
  ok-other answer fault e = cc

  pub memory-unfinished : IsOther (Err Memory) Unfinished
  memory-unfinished e = cc

  pub memory-strange : (number : ℕ) → IsOther (Err Memory) (Strange number)
  memory-strange number e = cc

  pub strange-unfinished : (number : ℕ) → IsOther (Err (Strange number)) Unfinished
  strange-unfinished number e = cc

  pub unfinished-strange : (number : ℕ) → IsOther (Err Unfinished) (Strange number)
  unfinished-strange number e = cc
