-- What the check of the logs of a gate answers.
use Rattle.std.proofs.Common.{◌≡◌, ◌↔◌, ℕ, ◌+◌, ◌<◌, ◌≤◌, Bool, true, false, true≢false, IsTrue, List, length, take, get_or, reverse, Result, Ok, Err, IsErrOf, ap, sym, subst, arith, ◌∙◌}
use Rattle.std.specs.List.{sum_by}
use Rattle.std.proofs.lemmas.List.{reverse-reverse, take_all}
use Rattle.std.proofs.lemmas.List.Sums.{sum_by_more, sum_by-take-le}
use Rattle.model_histories.specs.declared.answer.Entry.{Entry}
use Rattle.locked_replay.specs.declared.fault.RunFault.{RunFault}
use Rattle.locked_replay.specs.declared.fault.RunFault.TheVariants.{Limit, Stopped, Torn, Strange, Memory}
use Rattle.locked_replay.specs.declared.worker.WorkerLog.{WorkerLog}
use Rattle.locked_replay.specs.Logs.{all_asked, AreTheirs, AreWhole}

module _ {T : Type 0} where
  abbrev IsOther : Result T RunFault → RunFault → Type 0
  IsOther result fault = result ≡ Err fault → ⊥

  pub ok-other : (answer : T) (fault : RunFault) → IsOther (Ok answer) fault
  ok-other answer fault e = cc

  pub stopped-torn : IsOther (Err Stopped) Torn
  stopped-torn e = cc

  pub memory-torn : IsOther (Err Memory) Torn
  memory-torn e = cc

  -- none is told of these two
  pub stopped-faults : IsOther (Err Stopped) Limit × IsOther (Err Stopped) Strange
  stopped-faults = ((λ e. cc), (λ e. cc))

  pub memory-faults : IsOther (Err Memory) Limit × IsOther (Err Memory) Strange
  memory-faults = ((λ e. cc), (λ e. cc))

  pub torn-faults : IsOther (Err Torn) Limit × IsOther (Err Torn) Strange
  torn-faults = ((λ e. cc), (λ e. cc))

  -- a gate that goes on is not told as stopped
  goes-on : (result : Result T RunFault) {stopped shown : Bool} → IsOther result Stopped → shown ≡ stopped → shown ≡ false → (result ≡ Err Stopped) ↔ (stopped ≡ true)
  goes-on result other is going = ((λ e. absurd (other e)), (λ stops. absurd (true≢false (sym stops ∙ sym is ∙ going))))

  pub ok-goes_on : (answer : T) {stopped shown : Bool} → shown ≡ stopped → shown ≡ false → (Ok answer ≡ Err Stopped) ↔ (stopped ≡ true)
  ok-goes_on answer = goes-on (Ok answer) (ok-other answer Stopped)

  pub memory-goes_on : {stopped shown : Bool} → shown ≡ stopped → shown ≡ false → IsErrOf {T = T} (Err Memory) Stopped ↔ (stopped ≡ true)
  memory-goes_on = goes-on (Err Memory) (λ e. cc)

  pub torn-goes_on : {stopped shown : Bool} → shown ≡ stopped → shown ≡ false → IsErrOf {T = T} (Err Torn) Stopped ↔ (stopped ≡ true)
  torn-goes_on = goes-on (Err Torn) (λ e. cc)

module _ {L A : Type 0} (logs : List (WorkerLog L A)) {history : List Entry} (entries : List Entry) (kept : reverse entries ≡ history) where
  of_entries : AreWhole (reverse history) logs → AreWhole entries logs
  of_entries = subst (λ (es : List Entry). AreWhole es logs) (ap reverse (sym kept) ∙ reverse-reverse entries)

  -- logs that are not whole
  pub torn-theirs : {theirs : Bool} → IsTrue theirs ↔ AreTheirs entries logs → theirs ≡ false → AreWhole (reverse history) logs → ⊥
  torn-theirs told others whole = let w = of_entries whole in true≢false (sym (told.1 (w.rise, w.receipts)) ∙ others)

  pub torn-asked : {asked number : ℕ} → number ≡ length entries → asked ≡ all_asked logs → (asked ≡ number → ⊥) → AreWhole (reverse history) logs → ⊥
  torn-asked number_is asked_is other whole = other (asked_is ∙ (of_entries whole).counted ∙ sym number_is)

  pub torn-many : {number most : ℕ} → number ≡ length entries → number < most → most ≤ all_asked logs → AreWhole (reverse history) logs → ⊥
  torn-many number_is within many whole = omega (arith, number_is, within, many, (of_entries whole).counted)

  -- logs that are
  pub whole-told : {theirs : Bool} {asked number : ℕ} → IsTrue theirs ↔ AreTheirs entries logs → theirs ≡ true → number ≡ length entries → asked ≡ all_asked logs → asked ≡ number →
      AreWhole (reverse history) logs
  whole-told told same number_is asked_is all =
      let theirs = told.0 same in
      subst (λ (es : List Entry). AreWhole es logs) (sym (ap reverse (sym kept) ∙ reverse-reverse entries))
      (record { rise = theirs.0; receipts = theirs.1; counted = sym asked_is ∙ all ∙ number_is })

-- more than any number that fits are not so many
pub too_many : {many number most known : ℕ} → number ≡ known → number < most → most ≤ many → many ≡ known → ⊥
too_many is within over same = omega (arith, is, within, over, same)

-- a sum with one summand more
module _ {X : Type 0} (f : X → ℕ) (xs : List X) where
  pub sum_next : (at : ℕ) (x : X) {before amount sum : ℕ} → at < length xs → x ≡ get_or xs at x → before ≡ sum_by f (take at xs) → amount ≡ f x → sum ≡ before + amount →
      sum ≡ sum_by f (take (at + 1) xs)
  sum_next at x low is before amount sum = omega (arith, sum, before, amount, ap f is, sum_by_more f xs at x low)

  pub sum_beyond : (at : ℕ) (x : X) {before amount most : ℕ} → at < length xs → x ≡ get_or xs at x → before ≡ sum_by f (take at xs) → amount ≡ f x → (before + amount < most → ⊥) →
      most ≤ sum_by f xs
  sum_beyond at x low is before amount beyond =
      omega (arith, beyond, before, amount, ap f is, sum_by_more f xs at x low, sum_by-take-le f xs (at + 1))

  pub sum_all : (at : ℕ) {sum : ℕ} → length xs ≤ at → sum ≡ sum_by f (take at xs) → sum ≡ sum_by f xs
  sum_all at end is = is ∙ ap (sum_by f) (take_all at xs end)
