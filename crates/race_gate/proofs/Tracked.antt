-- A request that has no fault is answered.
use Rattle.std.proofs.Common.{◌≡◌, ℕ, suc, ◌<◌, List, length, Option, Some, None, Result, Ok, Err, refl, sym, subst, arith}
use Rattle.std.specs.Prelude.{MatchResult, IfOk, IfErr, OnErr, slice_index}
use Rattle.model_accesses.specs.declared.request.Act.TheVariants.{Return}
use Rattle.model_accesses.specs.declared.request.Request.{Request}
use Rattle.model_strands.specs.History.{Event, History}
use Rattle.model_strands.specs.Strands.{Running}
use Rattle.model_strands.specs.Blocks.{stack, IsSynced}
use Rattle.sp_labels.specs.Roster.{Roster, Follows, HasFewLeft}
use Rattle.shadow_history.specs.declared.cell.Cell.{Cell}
use Rattle.model_accesses.specs.Accesses.{Access}
use Rattle.shadow_history.specs.Shadow.{Remembers}
use Rattle.race_gate.specs.declared.access.ControlAct.{ControlAct}
use Rattle.race_gate.specs.declared.access.CellAct.{CellAct}
use Rattle.race_gate.specs.declared.access.ReducerAct.{ReducerAct}
use Rattle.model_histories.specs.declared.answer.Answer.{Answer}
use Rattle.model_histories.specs.declared.fault.GateFault.{GateFault}
use Rattle.model_histories.specs.declared.fault.GateFault.TheVariants.{Memory}
use Rattle.model_histories.specs.Entries.{event_between, control_part}
use Rattle.model_histories.specs.Legal.{Belongs}
use Rattle.race_gate.specs.Accesses.{act_of_control, act_of_cell, act_of_reducer, access_of, reducer_of}
use Rattle.model_races.specs.Memory.{effect_on_cell}
use Rattle.model_races.specs.Verdicts.{IfValue}
use Rattle.race_gate.specs.Books.{Books, KeepsStill, KeepsOn, answered_act, OptionKeepsStill, OptionKeepsOn, OptionKeepsRunning, OptionHasReducer, OptionAnswersAccess}
use Rattle.model_histories.specs.States.{GateState}
use Rattle.race_gate.specs.Kept.{TracksState, IsKept, IsReady, with_entry}
use Rattle.race_gate.specs.Steps.{FollowsWith, GoesOn, numbered_access, IsJudgedBy, TakesPlace}
use Rattle.race_gate.proofs.Followed.{running-in-each, synced-in-each, few-in-each}
use Rattle.race_gate.proofs.Numbers.{not_few}
use Rattle.race_gate.proofs.Entering.{in-cells, cell-asked, in-reducers, books-known, books-running, kept-follows, entered-access, entered-control, entered-reducer, kept-still}

module _ (state : GateState) (tracks : TracksState) (memory : List ℕ) (request : Request) (number : ℕ) (ready : IsReady state tracks memory request number) where
  -- what the steps ask for
  pub ready-runs : (history : History) → Follows tracks.strands history → Running history request.strand
  ready-runs history follows = running-in-each _ _ history ready.kept.follows follows request.strand ready.faultless.runs

  pub ready-synced : request.act ≡ Return → (history : History) → Follows tracks.strands history → IsSynced (stack history request.strand)
  ready-synced returns history follows =
      synced-in-each _ _ history ready.kept.follows follows request.strand ready.faultless.runs (ready.faultless.synced returns)

  pub ready-numbers : (history : History) → Follows tracks.strands history → HasFewLeft history → ⊥
  ready-numbers history follows few =
      not_few _ _ ready.faultless.below ready.kept.limited (few-in-each _ _ history ready.kept.follows follows few)

  pub ready-follows : FollowsWith tracks.strands tracks.reducers
  ready-follows = kept-follows _ _ ready.kept

  pub ready-known : (act : ReducerAct) → request.act ≡ act_of_reducer act → OptionHasReducer tracks.reducers (reducer_of act)
  ready-known act is = books-known state.shape _ _ _ ready.kept.reducers (in-reducers _ _ act is ready.faultless.in_range)

  pub ready-running : (act : ReducerAct) → request.act ≡ act_of_reducer act → OptionKeepsRunning tracks.reducers request.strand
  ready-running act is = books-running state.shape _ _ _ _ ready.kept.reducers (in-reducers _ _ act is ready.faultless.in_range) ready.faultless.runs

  pub ready-in_cells : (act : CellAct) → request.act ≡ act_of_cell act → (access_of act).location < state.shape.cells
  ready-in_cells act is = in-cells _ _ _ (cell-asked _ act is) ready.faultless.in_range

  pub ready-in_shadow : (act : CellAct) → request.act ≡ act_of_cell act → (access_of act).location < length tracks.shadow
  ready-in_shadow act is = let below = ready-in_cells act is in omega (arith, ready.kept.locations)

  pub ready-in_memory : (act : CellAct) → request.act ≡ act_of_cell act → (access_of act).location < length memory
  ready-in_memory act is =
      let below = ready-in_cells act is in
      subst (λ (cells : List ℕ). (access_of act).location < length cells) (sym ready.cells) (omega (arith, ready.kept.right.memory.len))

  numbered : number ≡ suc (length state.history)
  numbered = omega (arith, ready.numbered)

  -- what they answer
  pub answers-cell : (act : CellAct) (answer : Answer) (marks : List Cell) (cells : List ℕ) → request.act ≡ act_of_cell act → Belongs (act_of_cell act) answer →
      ((history : History) (accesses : List Access) → Follows tracks.strands history → Remembers tracks.shadow history accesses →
      IsJudgedBy history accesses (numbered_access number request.strand (access_of act)) answer marks) → length marks ≡ length tracks.shadow →
      IfValue answer (λ value. value ≡ slice_index memory (access_of act).location) → TakesPlace (effect_on_cell (act_of_cell act) answer) memory cells →
      IsKept (with_entry state request answer cells) (record tracks { shadow = marks })
  answers-cell act answer marks cells is belongs judged len value takes =
      entered-access state tracks ready.kept (record { request = request; answer = answer }) ready.faultless (access_of act) marks cells number numbered
      (cell-asked _ act is) (ready-in_cells act is) (subst (λ asked. Belongs asked answer) (sym is) belongs) (judged _ _ ready.kept.follows ready.kept.remembers)
      (subst (λ xs. IfValue answer (λ value. value ≡ slice_index xs (access_of act).location)) ready.cells value)
      (subst (λ asked. TakesPlace (effect_on_cell asked answer) state.memory cells) (sym is)
      (subst (λ xs. TakesPlace (effect_on_cell (act_of_cell act) answer) xs cells) ready.cells takes)) len

  answers-control : (act : ControlAct) (after : Roster) (others : Option Books) (result : Result Answer GateFault) → request.act ≡ act_of_control act →
      IfOk result (λ answer. (history : History) → Follows tracks.strands history → GoesOn history request.strand (act_of_control act) answer after) →
      IfOk result (λ answer. (event : Event) → event_between request.strand (act_of_control act) answer ≡ Some event → OptionKeepsOn tracks.reducers others event) →
      IfErr result (λ fault. fault ≡ Memory) → OnErr result (after ≡ tracks.strands) → OnErr result (OptionKeepsStill tracks.reducers others) →
      MatchResult result
      (λ answer. IsKept (with_entry state request answer memory) (record tracks { strands = after; reducers = others }))
      (λ fault. (fault ≡ Memory) × IsKept state (record tracks { strands = after; reducers = others }))
  answers-control act after others (Ok answer) is goes on none same still =
      subst (λ cells. IsKept (with_entry state request answer cells) (record tracks { strands = after; reducers = others })) (sym ready.cells)
      (entered-control state tracks ready.kept (record { request = request; answer = answer }) ready.faultless act after others is
      (subst (λ asked. GoesOn (control_part state.history) request.strand asked answer after) (sym is) (goes _ ready.kept.follows))
      (subst (λ asked. (event : Event) → event_between request.strand asked answer ≡ Some event → OptionKeepsOn tracks.reducers others event) (sym is) on))
  answers-control act after others (Err fault) is goes on none same still = (none, kept-still state tracks after others ready.kept same still)

  -- the same where the program has no reducers, and where it has some
  pub answers-strands : (act : ControlAct) (after : Roster) (result : Result Answer GateFault) → request.act ≡ act_of_control act → tracks.reducers ≡ None →
      IfOk result (λ answer. (history : History) → Follows tracks.strands history → GoesOn history request.strand (act_of_control act) answer after) →
      IfErr result (λ fault. fault ≡ Memory) → OnErr result (after ≡ tracks.strands) → MatchResult result
      (λ answer. IsKept (with_entry state request answer memory) (record tracks { strands = after }))
      (λ fault. (fault ≡ Memory) × IsKept state (record tracks { strands = after }))
  answers-strands act after (Ok answer) is without goes none same =
      answers-control act after tracks.reducers (Ok answer) is goes (λ event between. subst (λ books. OptionKeepsOn books books event) (sym without) tt) tt tt tt
  answers-strands act after (Err fault) is without goes none same =
      answers-control act after tracks.reducers (Err fault) is tt tt none same (subst (λ books. OptionKeepsStill books books) (sym without) tt)

  pub answers-with : (act : ControlAct) (after : Roster) (books others : Books) (result : Result Answer GateFault) → request.act ≡ act_of_control act →
      tracks.reducers ≡ Some books →
      IfOk result (λ answer. (history : History) → Follows tracks.strands history → GoesOn history request.strand (act_of_control act) answer after) →
      IfOk result (λ answer. (event : Event) → event_between request.strand (act_of_control act) answer ≡ Some event → KeepsOn books others event) →
      IfErr result (λ fault. fault ≡ Memory) → OnErr result (after ≡ tracks.strands) → OnErr result (KeepsStill books others) → MatchResult result
      (λ answer. IsKept (with_entry state request answer memory) (record tracks { strands = after; reducers = Some others }))
      (λ fault. (fault ≡ Memory) × IsKept state (record tracks { strands = after; reducers = Some others }))
  answers-with act after books others result is there goes on none same still =
      answers-control act after (Some others) result is goes
      (subst (λ kept. IfOk result (λ answer. (event : Event) → event_between request.strand (act_of_control act) answer ≡ Some event → OptionKeepsOn kept (Some others) event)) (sym there) on)
      none same (subst (λ kept. OnErr result (OptionKeepsStill kept (Some others))) (sym there) still)

  pub answers-reducer : (act : ReducerAct) (others : Option Books) (result : Result Answer GateFault) → request.act ≡ act_of_reducer act →
      IfOk result (λ answer. OptionAnswersAccess tracks.reducers others (answered_act number request.strand (act_of_reducer act) answer)) →
      IfErr result (λ fault. fault ≡ Memory) → OnErr result (OptionKeepsStill tracks.reducers others) → MatchResult result
      (λ answer. IsKept (with_entry state request answer memory) (record tracks { reducers = others }))
      (λ fault. (fault ≡ Memory) × IsKept state (record tracks { reducers = others }))
  answers-reducer act others (Ok answer) is answers none still =
      subst (λ cells. IsKept (with_entry state request answer cells) (record tracks { reducers = others })) (sym ready.cells)
      (entered-reducer state tracks ready.kept (record { request = request; answer = answer }) ready.faultless act others number numbered is
      (subst (λ asked. OptionAnswersAccess tracks.reducers others (answered_act number request.strand asked answer)) (sym is) answers))
  answers-reducer act others (Err fault) is answers none still = (none, kept-still state tracks tracks.strands others ready.kept refl still)

-- cells that were not handed on are as they were
pub with-same-cells : (P : Answer → Type 0) (K : Type 0) (cells : List ℕ) (result : Result Answer GateFault) →
    MatchResult result P (λ fault. (fault ≡ Memory) × K) → MatchResult result P (λ fault. (fault ≡ Memory) × (cells ≡ cells) × K)
with-same-cells P K cells (Ok answer) done = done
with-same-cells P K cells (Err fault) done = (done.0, refl, done.1)
