-- Entries from the oldest on, and from the newest on.
use Rattle.std.proofs.Common.{◌≡◌, ℕ, Bool, List, reverse, IsTrue, refl, ap, sym, subst, ◌∙◌, inl, inr}
use Rattle.std.proofs.lemmas.List.{reverse-reverse}
use Rattle.std.proofs.lemmas.List.Sorted.{IsPermutation-reverse, IsPermutation-sym, All-permutation}
use Rattle.model_histories.specs.declared.answer.Entry.{Entry}
use Rattle.model_histories.specs.Entries.{Entries}
use Rattle.model_histories.specs.Extensions.{IsCleanAnswer, IsClean}
use Rattle.model_histories.specs.Shapes.{Shape}
use Rattle.model_histories.specs.States.{GateState}
use Rattle.model_bodies.specs.Codes.{Code}
use Rattle.run_replay.specs.declared.replays.ReplayFault.{ReplayFault}
use Rattle.run_replay.specs.declared.replays.ReplayFault.TheVariants as replay_fault
use Rattle.run_replay.specs.Replays.{IsUnfinishedRun, IsStrange}
use Rattle.locked_replay.specs.declared.fault.RunFault.TheVariants as run_fault
use Rattle.locked_replay.specs.Strange.{run_fault_of, IsStrangeGate}

pub oldest_first : (listed : List Entry) (entries : Entries) → reverse listed ≡ entries → listed ≡ reverse entries
oldest_first listed entries same = sym (reverse-reverse listed) ∙ ap reverse same

-- what tells whether the entries are clean tells it in either order
pub clean_either : (listed : List Entry) (told : Bool) → (IsTrue told → IsClean listed) × (IsClean listed → IsTrue told) →
    (IsTrue told → IsClean (reverse listed)) × (IsClean (reverse listed) → IsTrue told)
clean_either listed told tells =
    let turned = IsPermutation-reverse listed in (
      (λ t. All-permutation (λ entry. IsCleanAnswer entry.answer) listed (reverse listed) turned (tells.0 t)),
      (λ clean. tells.1 (All-permutation (λ entry. IsCleanAnswer entry.answer) (reverse listed) listed (IsPermutation-sym listed (reverse listed) turned) clean)),
    )

-- what a fault of `replay` that is not want of memory says of the gate whose history was replayed
pub told_strange : (functions : List Code) (shape : Shape) (gate : GateState) (listed : List Entry) (fault : ReplayFault) → reverse listed ≡ gate.history →
    (fault ≡ replay_fault.Unfinished → IsUnfinishedRun functions shape (reverse listed)) →
    ((number : ℕ) → fault ≡ replay_fault.Strange number → IsStrange functions shape listed number) → run_fault_of fault ≡ run_fault.Strange →
    IsStrangeGate functions shape gate
told_strange functions shape gate listed (replay_fault.Strange number) same unfinished strange told =
    let oldest = oldest_first listed gate.history same in
    inr (inl (number, subst (λ (l : List Entry). IsStrange functions shape l number) oldest (strange number refl)))
told_strange functions shape gate listed replay_fault.Unfinished same unfinished strange told =
    inr (inr (subst (λ (l : Entries). IsUnfinishedRun functions shape l) same (unfinished refl)))
told_strange functions shape gate listed replay_fault.Memory same unfinished strange told =
    let clash : run_fault.Memory ≡ run_fault.Strange = told in absurd (cc)
