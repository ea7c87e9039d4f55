-- What is gathered of a gate that was behind its lock.
use Rattle.std.proofs.Common.{◌≡◌, ◌↔◌, ℕ, List, reverse, Result, Ok, Err, true, IsTrue, IfOk, OnOk, IfErr, sym, ap, ◌∙◌, subst}
use Rattle.std.proofs.lemmas.List.{reverse-reverse}
use Rattle.model_histories.specs.declared.answer.Entry.{Entry}
use Rattle.model_histories.specs.Entries.{Entries}
use Rattle.model_histories.specs.Shapes.{Shape}
use Rattle.model_races.specs.Judged.{IsJudged}
use Rattle.model_races.specs.Memory.{IsMemory}
use Rattle.model_histories.specs.Extensions.{IsClean}
use Rattle.model_histories.specs.States.{GateState}
use Rattle.race_gate.specs.States.{IsRight}
use Rattle.program_text.specs.declared.program.Program.{Program}
use Rattle.program_text.specs.Shapes.{shape_in}
use Rattle.model_runs.specs.Runs.{IsFinishedRun}
use Rattle.model_runs.specs.Laws.{IsElided, AllAgree}
use Rattle.locked_replay.specs.declared.fault.RunFault.{RunFault}
use Rattle.locked_replay.specs.declared.worker.WorkerLog.{WorkerLog}
use Rattle.locked_replay.specs.declared.whole.Whole.{Whole}
use Rattle.locked_replay.specs.Logs.{AreWhole}
use Rattle.locked_replay.specs.Faults.{HasFault}
use Rattle.locked_replay.specs.Laws.{SpeaksForAll}
use Rattle.locked_replay.specs.Strange.{IsStrangeGate}
use Rattle.locked_replay.proofs.Faulted.{run_faulted}
use Rattle.locked_replay.proofs.Wholes.{program_law}

pub if_ok : {A E : Type 0} {P Q : A → Type 0} (result : Result A E) → IfOk result P → ((a : A) → P a → Q a) → IfOk result Q
if_ok (Ok a) p f = f a p
if_ok (Err e) p f = tt

pub if_err : {A E : Type 0} {P Q : E → Type 0} (result : Result A E) → IfErr result P → ((e : E) → P e → Q e) → IfErr result Q
if_err (Ok a) p f = tt
if_err (Err e) p f = f e p

module _ {L A B : Type 0} (program : Program B) (gate : GateState) (logs : List (WorkerLog L A)) where
  -- a whole run is that of the gate
  pub record IsGathered (whole : Whole A) : Type 0 where
    pub shape : gate.shape ≡ shape_in program
    pub entries : reverse whole.entries.items ≡ gate.history
    pub memory : whole.memory.items ≡ gate.memory
    pub clean : IsTrue whole.clean ↔ IsClean (reverse whole.entries.items)
    pub run : IsFinishedRun program.functions (shape_in program) (reverse whole.entries.items)

  pub gathered : (result : Result (Whole A) RunFault) → OnOk result (gate.shape ≡ shape_in program) → IfOk result (λ whole. reverse whole.entries.items ≡ gate.history) →
      IfOk result (λ whole. whole.memory.items ≡ gate.memory) → IfOk result (λ whole. IsTrue whole.clean ↔ IsClean (reverse whole.entries.items)) →
      IfOk result (λ whole. IsFinishedRun program.functions (shape_in program) (reverse whole.entries.items)) → IfOk result IsGathered
  gathered (Ok whole) shape entries memory clean run = record { shape = shape; entries = entries; memory = memory; clean = clean; run = run }
  gathered (Err fault) shape entries memory clean run = tt

  module _ (whole : Whole A) (g : IsGathered whole) where
    pub its_logs : AreWhole (reverse gate.history) logs → AreWhole whole.entries.items logs
    its_logs = subst (λ (l : List Entry). AreWhole l logs) (sym (ap reverse g.entries) ∙ reverse-reverse whole.entries.items)

    pub its_memory : IsMemory gate.shape.cells gate.history gate.memory → IsMemory (shape_in program).cells (reverse whole.entries.items) whole.memory.items
    its_memory is =
        subst (λ (h : Entries). IsMemory (shape_in program).cells h whole.memory.items) (sym g.entries)
        (subst (λ (m : List ℕ). IsMemory (shape_in program).cells gate.history m) (sym g.memory)
        (subst (λ (s : Shape). IsMemory s.cells gate.history gate.memory) g.shape is))

    speaks : IsTrue whole.clean → SpeaksForAll program.functions (shape_in program) (reverse whole.entries.items)
    speaks clean = program_law program (reverse whole.entries.items) g.run (g.clean.0 clean)

    pub its_elision : IsTrue whole.clean → IsElided program.functions (shape_in program) (reverse whole.entries.items)
    its_elision clean = (speaks clean).elided

    pub its_schedules : IsTrue whole.clean → AllAgree program.functions (shape_in program) (reverse whole.entries.items)
    its_schedules clean = (speaks clean).agree

  -- why there is none, behind logs that are whole
  pub unfinished : {T : Type 0} (checked : Result T RunFault) (result : Result (Whole A) RunFault) → (checked ≡ Err RunFault.Stopped → ⊥) →
      (gate.stopped ≡ true → checked ≡ Err RunFault.Stopped) → AreWhole (reverse gate.history) logs →
      (result ≡ Err RunFault.Strange → IsStrangeGate program.functions (shape_in program) gate) →
      (result ≡ Err RunFault.Limit → ⊥) × (result ≡ Err RunFault.Stopped → ⊥) × (result ≡ Err RunFault.Torn → ⊥) →
      IfErr result (HasFault program.functions (shape_in program) gate logs)
  unfinished checked (Ok whole) going stops whole_logs strange others = tt
  unfinished checked (Err fault) going stops whole_logs strange others =
      run_faulted program.functions (shape_in program) gate logs checked fault going stops whole_logs
      (λ same. strange (ap (λ (f : RunFault). Err f) same)) (λ same. others.0 (ap (λ (f : RunFault). Err f) same))
      (λ same. others.1 (ap (λ (f : RunFault). Err f) same)) (λ same. others.2 (ap (λ (f : RunFault). Err f) same))

  pub faulted : IsJudged gate.shape gate.history → IsMemory gate.shape.cells gate.history gate.memory → (fault : RunFault) →
      HasFault program.functions (shape_in program) gate logs fault →
      (behind : GateState) × IsRight behind × HasFault program.functions (shape_in program) behind logs fault
  faulted judged memory fault has = (gate, record { judged = judged; memory = memory }, has)
