-- The turn of a frame, and the gate's answer.
use Rattle.std.proofs.Common.{◌≡◌, ◌≢◌, inl, inr, ℕ, ◌<◌, Bool, true, false, List, [], ◌∷◌, ◌++◌, length, Option, Some, None, refl, sym, ◌∙◌, ap, subst, arith}
use Rattle.std.specs.Prelude.{IsTrue, IfSome}
use Rattle.model_bodies.specs.declared.statement.Statement.{Statement}
use Rattle.model_bodies.specs.declared.statement.Statement.TheVariants.{Let, Read, Write, Bump, Update, Put, Get, Spawn, Call, Sync, ParallelFor, If, Else, End}
use Rattle.model_accesses.specs.declared.request.Act.{Act}
use Rattle.model_accesses.specs.declared.request.Request.{Request}
use Rattle.model_histories.specs.declared.answer.Answer.{Answer}
use Rattle.model_histories.specs.declared.answer.Entry.{Entry}
use Rattle.model_histories.specs.declared.reply.Receipt.{Receipt}
use Rattle.model_histories.specs.declared.fault.GateFault.{GateFault}
use Rattle.model_histories.specs.declared.fault.GateFault.TheVariants.{Stopped, Limit, NotRunning, BadName, Unsynced, Memory}
use Rattle.model_histories.specs.Entries.{control_part}
use Rattle.model_histories.specs.States.{GateState}
use Rattle.model_races.specs.Judged.{IsJudged}
use Rattle.model_histories.specs.Faults.{IsFaultless, HasCause, HasNoneBefore}
use Rattle.model_histories.specs.Replies.{IsEntered as EntersReceipt}
use Rattle.model_bodies.specs.Codes.{Code}
use Rattle.model_programs.specs.declared.target.Target.{Target}
use Rattle.model_programs.specs.Values.{Registers}
use Rattle.model_programs.specs.Exchanges.{Exchange}
use Rattle.frame_steps.specs.Activations.{asked_act}
use Rattle.frame_steps.specs.declared.phase.Phase.TheVariants.{Over}
use Rattle.frame_steps.specs.Exchanges.{asked_target}
use Rattle.frame_steps.specs.Stacks.{StackDialogue}
use Rattle.frame_steps.specs.States.{FrameState}
use Rattle.frame_steps.specs.Frames.{Stands, Wants, IsAfter, CanFollow, MayAnswer, stack_in}
use Rattle.model_programs.specs.Dialogue.{Part}
use Rattle.model_runs.specs.Frames.{target_of}
use Rattle.run_replay.specs.Turns.{asks, target_or, IsTurn, HasNoTurn, IsEntered, IsOdd}
use Rattle.run_replay.proofs.Determined.{determined, return_synced}

-- Which acts spawn

fits_as : (one act : Act) (first target : Option Target) → Some one ≡ Some act → first ≡ target → ((other : Target) → target_of one (target_or first other) ≡ first) →
    (other : Target) → target_of act (target_or target other) ≡ target
fits_as one act first target e f fits other =
    let same : one ≡ act = cc in
    subst (λ t. target_of act (target_or t other) ≡ t) f (subst (λ a. target_of a (target_or first other) ≡ first) same (fits other))

asked_fits : (statement : Option Statement) (registers : Registers) (act : Act) (target : Option Target) → asked_act statement registers ≡ Some act →
    asked_target statement registers ≡ target → (other : Target) → target_of act (target_or target other) ≡ target
asked_fits None registers act target e f = fits_as Act.Return act None target e f (λ other. refl)
asked_fits (Some (Read line register location)) registers act target e f = fits_as _ act None target e f (λ other. refl)
asked_fits (Some (Write line location value)) registers act target e f = fits_as _ act None target e f (λ other. refl)
asked_fits (Some (Bump line location value)) registers act target e f = fits_as _ act None target e f (λ other. refl)
asked_fits (Some (Update line reducer value)) registers act target e f = fits_as _ act None target e f (λ other. refl)
asked_fits (Some (Put line reducer value)) registers act target e f = fits_as _ act None target e f (λ other. refl)
asked_fits (Some (Get line register reducer)) registers act target e f = fits_as _ act None target e f (λ other. refl)
asked_fits (Some (Spawn line function argument)) registers act target e f = fits_as _ act (Some _) target e f (λ other. refl)
asked_fits (Some (Call line function argument)) registers act target e f = fits_as _ act None target e f (λ other. refl)
asked_fits (Some (Sync line)) registers act target e f = fits_as _ act None target e f (λ other. refl)
asked_fits (Some (Let line register value)) registers act target e f = absurd (cc)
asked_fits (Some (ParallelFor line register count function)) registers act target e f = absurd (cc)
asked_fits (Some (If line register otherwise)) registers act target e f = absurd (cc)
asked_fits (Some (Else line to)) registers act target e f = absurd (cc)
asked_fits (Some (End line)) registers act target e f = absurd (cc)

wants_fit : (functions : List Code) (frame : FrameState) (x : Exchange) → Wants functions frame x → (other : Target) → target_of x.act (target_or x.target other) ≡ x.target
wants_fit functions frame x w = asked_fits _ _ x.act x.target w.follows.act w.follows.target

no_target : (act : Act) (target : Target) → (act ≡ Act.Spawn → ⊥) → None ≡ target_of act target
no_target Act.Spawn target other = absurd (other refl)
no_target act target other = refl

-- a frame that wants another act spawns nothing
pub none_spawned : (functions : List Code) (frame : FrameState) (x : Exchange) → Wants functions frame x → (x.act ≡ Act.Spawn → ⊥) → None ≡ x.target
none_spawned functions frame x w other =
    let some : Target = record { function = 0; argument = 0 } in no_target x.act (target_or x.target some) other ∙ wants_fit functions frame x w some

module _ (functions : List Code) (entry : Entry) (before middle : FrameState)
    (sought : (function argument : ℕ) (history : List Exchange) → IsAfter functions function argument history before → IsAfter functions function argument history middle)
    (only : (function argument : ℕ) (history : List Exchange) (x : Exchange) → IsAfter functions function argument history before →
    CanFollow functions function argument history x → Wants functions middle x) where
  -- a frame that wants another act or line does not go on so
  pub other_want : (act : Act) (line : ℕ) → ((x : Exchange) → Wants functions middle x → (x.act ≡ act) × (x.line ≡ line)) →
      (act ≡ entry.request.act → line ≡ entry.request.line → ⊥) → HasNoTurn functions entry before
  other_want act line wants other = λ function argument history target a can.
      let w = wants (asks entry target) (only function argument history (asks entry target) a can) in
      other (sym w.0) (sym w.1)

  pub other_answer : (MayAnswer functions middle entry.answer → ⊥) → HasNoTurn functions entry before
  other_answer none = λ function argument history target a can.
      none (record { exchange = asks entry target; wants = only function argument history (asks entry target) a can; is = refl })

  pub turned : (after : FrameState) (act : Act) (line : ℕ) (target : Option Target) →
      ((x : Exchange) → Wants functions middle x → (x.act ≡ act) × (x.line ≡ line)) → act ≡ entry.request.act → line ≡ entry.request.line →
      ((x : Exchange) → Wants functions middle x → target ≡ x.target) → IfSome target (λ one. one.function < length functions) →
      MayAnswer functions middle entry.answer →
      ((function argument : ℕ) (history : List Exchange) (x : Exchange) → IsAfter functions function argument history middle → Wants functions middle x →
      x.answer ≡ entry.answer → IsAfter functions function argument (history ++ x ∷ []) after) →
      Stands functions after → IsTurn functions entry target before after
  turned after act line target wants act_is line_is spawns there belongs goes stands =
      let x = belongs.exchange in
      let w = belongs.wants in
      let a : x.act ≡ entry.request.act = (wants x w).0 ∙ act_is in
      let l : x.line ≡ entry.request.line = (wants x w).1 ∙ line_is in
      let t : x.target ≡ target = sym (spawns x w) in
      let e : x ≡ asks entry target = λ i. record { act = a i; line = l i; target = t i; answer = belongs.is i } in
      record {
        stands = stands;
        there = there;
        fits = λ other. subst (λ y. target_of y.act (target_or y.target other) ≡ y.target) e (wants_fit functions middle x w other);
        goes_on = λ function argument history b.
            subst (λ y. IsAfter functions function argument (history ++ y ∷ []) after) e (goes function argument history x (sought function argument history b) w belongs.is);
        only = λ function argument history y b can. sym (spawns y (only function argument history y b can));
      }

-- a frame that is over does not go on
pub over_none : (functions : List Code) (entry : Entry) (before : FrameState) → before.phase ≡ Over → HasNoTurn functions entry before
over_none functions entry before over function argument history target a can =
    let none = subst (λ p. StackDialogue functions Part (stack_in functions p before.top before.callers) (asks entry target ∷ [])) over ((a.goes_on Part (asks entry target ∷ [])).1 can) in
    nothing (asks entry target) none
  where
    nothing : (x : Exchange) → x ∷ [] ≡ [] → ⊥
    nothing x e = cc

-- What a gate's reply tells of an entry

pub entered : (entry : Entry) (before after : GateState) (receipt : Receipt) → EntersReceipt before entry.request receipt after → IsJudged after.shape after.history →
    receipt.answer ≡ entry.answer → IsEntered entry before after
entered entry before after receipt e judged same = record {
  shape = ap (λ (s : GateState). s.shape) e.after;
  limit = ap (λ (s : GateState). s.limit) e.after;
  stopped = ap (λ (s : GateState). s.stopped) e.after;
  history = ap (λ (s : GateState). s.history) e.after ∙ ap (λ (a : Answer). let made : Entry = record { request = entry.request; answer = a } in made ∷ before.history) same;
  below = e.faultless.below;
  judged = judged;
}

pub odd_answer : (entry : Entry) (before after : GateState) (receipt : Receipt) → EntersReceipt before entry.request receipt after → IsJudged after.shape after.history →
    (receipt.answer ≡ entry.answer → ⊥) → IsOdd entry before
odd_answer entry before after receipt e judged other = λ going given.
    let made : Entry = record { request = entry.request; answer = receipt.answer } in
    let right : IsJudged before.shape (made ∷ before.history) = subst (λ (s : GateState). IsJudged s.shape s.history) e.after judged in
    elim (determined before.shape before.history entry.request.strand entry.request.line entry.request.act receipt.answer entry.answer right given) [
      | inl same ↦ absurd (other same)
      | inr refused ↦ inr refused
    ]

pub odd_fault : (entry : Entry) (before : GateState) (fault : GateFault) → (fault ≡ Memory → ⊥) → HasCause before entry.request fault → IsOdd entry before
odd_fault entry before Stopped not_memory cause = λ going given. absurd (clash before.stopped cause going)
  where
    clash : (b : Bool) → IsTrue b → b ≡ false → ⊥
    clash b t e = let both : true ≡ false = sym t ∙ e in cc
odd_fault entry before Limit not_memory cause = λ going given. inl cause
odd_fault entry before NotRunning not_memory cause = λ going given. absurd (cause given.legal.1.runs)
odd_fault entry before BadName not_memory cause = λ going given. absurd (cause given.legal.1.in_range)
odd_fault entry before Unsynced not_memory cause = λ going given.
    absurd (cause.1 (return_synced (control_part before.history) entry.request.strand entry.request.act entry.answer cause.0 given.legal.1.belongs given.legal.1.allowed))
odd_fault entry before Memory not_memory cause = λ going given. absurd (not_memory refl)

-- a request that was entered is at no fault but want of memory
pub entered_clean : (state : GateState) (request : Request) → IsFaultless state request → (fault : GateFault) → fault ≢ Memory → HasCause state request fault → ⊥
entered_clean state request f Stopped other cause = let going : state.stopped ≡ false = f.going in cc
entered_clean state request f Limit other cause = let below = f.below in omega arith
entered_clean state request f NotRunning other cause = cause f.runs
entered_clean state request f BadName other cause = cause f.in_range
entered_clean state request f Unsynced other cause = cause.1 (f.synced cause.0)
entered_clean state request f Memory other cause = other refl

-- and so is one for which there was no memory
pub memory_clean : (state : GateState) (request : Request) → HasNoneBefore state request Memory → (fault : GateFault) → fault ≢ Memory → HasCause state request fault → ⊥
memory_clean state request none Stopped other cause = none Stopped (omega arith) cause
memory_clean state request none Limit other cause = none Limit (omega arith) cause
memory_clean state request none NotRunning other cause = none NotRunning (omega arith) cause
memory_clean state request none BadName other cause = none BadName (omega arith) cause
memory_clean state request none Unsynced other cause = none Unsynced (omega arith) cause
memory_clean state request none Memory other cause = other refl
