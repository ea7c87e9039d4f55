-- Acts of control and accesses, and the books of reducers that there may be.
use Rattle.std.proofs.Common.{◌≡◌, ◌<◌, ℕ, length, Option, Some, None, sym, ◌∙◌, ap, subst, arith}
use Rattle.model_accesses.specs.declared.request.Act.{Act}
use Rattle.model_strands.specs.History.{Event, History}
use Rattle.model_strands.specs.Legal.{Allowed}
use Rattle.sp_labels.specs.Roster.{Roster}
use Rattle.model_histories.specs.declared.answer.Answer.{Answer}
use Rattle.race_gate.specs.Books.{Books, TakesEvent, KeepsRunning, KeepsStill, KeepsOn, AnsweredAct, AnswersAccess, OptionHasReducer, OptionKeepsStill, OptionKeepsSome, OptionKeepsRunning, OptionAnswersAccess}
use Rattle.race_gate.specs.Steps.{GoesOn}
use Rattle.race_gate.proofs.Entering.{last_allowed}

pub still-some : (old new : Option Books) (history : History) → OptionKeepsStill old new → OptionKeepsSome old history → OptionKeepsSome new history
still-some None None history still some = tt
still-some None (Some new) history still some = absurd still
still-some (Some old) None history still some = absurd still
still-some (Some old) (Some new) history still (steps, earlier, kept, same) = (steps, earlier, still.keeps steps earlier kept, same)

pub still-by : (option : Option Books) (one new : Books) → option ≡ Some one → KeepsStill one new → OptionKeepsStill option (Some new)
still-by None one new is still = absurd (cc)
still-by (Some found) one new is still = let same : one ≡ found = cc in subst (λ b. KeepsStill b new) same still

-- the answer's event comes next
pub takes-event : (books : Books) (option : Option Books) (history : History) (strand : ℕ) (act : Act) (answer : Answer) (strands : Roster) → option ≡ Some books →
    OptionKeepsSome option history → GoesOn history strand act answer strands → TakesEvent books strand answer
takes-event books None history strand act answer strands is some goes = absurd (cc)
takes-event books (Some one) history strand act answer strands is (steps, earlier, kept, same) goes =
    let same_books : one ≡ books = cc in
    let found : TakesEvent one strand answer =
    (act, goes.event, goes.is, (steps, earlier, kept, subst (λ h. Allowed h goes.event) (sym same) (last_allowed goes.follows.legal))) in
    subst (λ b. TakesEvent b strand answer) same_books found

-- books that were kept still go on with the event
pub on-still : (old between new : Books) (event : Event) → KeepsStill old between → KeepsOn between new event → KeepsOn old new event
on-still old between new event still on = record {
  monoids = on.monoids ∙ still.monoids;
  keeps = λ steps earlier kept allowed. on.keeps steps earlier (still.keeps steps earlier kept) allowed;
}

pub running-still : (option : Option Books) (one new : Books) (strand : ℕ) → option ≡ Some one → KeepsStill one new → OptionKeepsRunning option strand → KeepsRunning new strand
running-still None one new strand is still none = absurd none
running-still (Some found) one new strand is still (steps, earlier, kept, runs) =
    let same : one ≡ found = cc in
    let stays = subst (λ b. KeepsStill b new) same still in
    (steps, earlier, stays.keeps steps earlier kept, runs)

pub known-still : (option : Option Books) (one new : Books) (reducer : ℕ) → option ≡ Some one → KeepsStill one new → OptionHasReducer option reducer →
    reducer < length new.views.monoids
known-still None one new reducer is still known = absurd known
known-still (Some found) one new reducer is still known =
    let same : one ≡ found = cc in let stays = subst (λ b. KeepsStill b new) same still in omega (arith, ap length stays.monoids)

-- an access after room was made for it
pub answers-still : (option : Option Books) (one between new : Books) (done : AnsweredAct) → option ≡ Some one →
    KeepsStill one between → AnswersAccess between new done → OptionAnswersAccess option (Some new) done
answers-still None one between new done is still answers = absurd (cc)
answers-still (Some found) one between new done is still answers =
    let same : one ≡ found = cc in
    let stays = subst (λ b. KeepsStill b between) same still in
    record {
      monoids = answers.monoids ∙ stays.monoids;
      answered = λ steps earlier kept runs. answers.answered steps earlier (stays.keeps steps earlier kept) runs;
    }
