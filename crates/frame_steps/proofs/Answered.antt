-- What an answer does to a frame, case by case.
use Rattle.std.proofs.Common.{◌≡◌, ℕ, false, List, Some, None, refl, sym, ◌∙◌, subst}
use Rattle.std.proofs.Common.{Result, Ok, Err}
use Rattle.std.specs.Prelude.{◌≢◌, OnOk, OnErr, IfErr, IsTrue}
use Rattle.std.proofs.lemmas.Option.{slice_get_within}
use Rattle.model_bodies.specs.declared.statement.Operand.{Operand}
use Rattle.model_bodies.specs.declared.statement.Statement.{Statement}
use Rattle.model_bodies.specs.declared.statement.Statement.TheVariants.{Call}
use Rattle.model_bodies.specs.Codes.{Code}
use Rattle.model_bodies.specs.Sound.{IsSound}
use Rattle.model_bodies.specs.Trees.{Step}
use Rattle.model_histories.specs.declared.answer.Answer.{Answer}
use Rattle.model_histories.specs.declared.answer.Answer.TheVariants.{Same}
use Rattle.model_programs.specs.Values.{Registers, value_of}
use Rattle.model_programs.specs.Answers.{IsReturned}
use Rattle.frame_steps.specs.Requests.{answered}
use Rattle.frame_steps.specs.Activations.{left, statement_of, is_plain, IsInPlace}
use Rattle.frame_steps.specs.declared.frame.FrameFault.{FrameFault}
use Rattle.frame_steps.specs.declared.phase.Phase.TheVariants.{Running, Wanting}
use Rattle.frame_steps.specs.Joins.{join_after}
use Rattle.frame_steps.specs.States.{FrameState}
use Rattle.frame_steps.specs.Frames.{Stands, MayAnswer, IsAnswered, IsCalled, IsLeft, began_by}
use Rattle.frame_steps.proofs.Standings.{called_there}
use Rattle.frame_steps.proofs.Histories.{leave_stands, leave_belongs, leave_after, leave_returned, call_stands, call_belongs, wants_call, call_after, answer_stands, answer_belongs, answer_after}

module _ {T : Type 0} (functions : List Code) where
  -- an answer that does not belong
  pub refused : (before : FrameState) (answer : Answer) → Stands functions before → (MayAnswer functions before answer → ⊥) → IsAnswered {T = T} functions before answer (Err FrameFault.Strange) before
  refused before answer s strange = record { stands = s; belongs = tt; goes_on = tt; unasked = tt; room = tt; err = refl; strange = λ e. strange; memory = λ e. cc }

  -- the return of the topmost function
  pub left_answered : (before after : FrameState) (answer : Answer) (r : Result T FrameFault) → Stands functions before → before.phase ≡ Wanting → statement_of functions before.top ≡ None → OnOk r (IsLeft answer before after) → OnOk r (IsReturned (began_by before.callers) answer) → OnOk r (after.phase ≢ Wanting) → OnOk r (after.has_room ≡ before.has_room) → OnErr r (after ≡ before) → IfErr r (λ fault. (fault ≡ FrameFault.Strange) × (IsReturned (began_by before.callers) answer → ⊥)) → IsAnswered functions before answer r after
  left_answered before after answer (Ok v) s wanting none l r on kept e f =
      record {
        stands = leave_stands functions before after answer s l;
        belongs = leave_belongs functions before answer wanting none r;
        goes_on = leave_after functions before after answer s wanting none l;
        unasked = on;
        room = λ x w other. kept;
        err = tt;
        strange = λ k. cc;
        memory = λ k. cc;
      }
  left_answered before after answer (Err fault) s wanting none l r on kept e f =
      record {
        stands = subst (λ k. Stands functions k) (sym e) s;
        belongs = tt;
        goes_on = tt;
        unasked = tt;
        room = tt;
        err = e;
        strange = λ k m. f.1 (leave_returned functions before answer none m);
        memory = λ k. (let a : fault ≡ FrameFault.Memory = cc in let b : FrameFault.Strange ≡ FrameFault.Memory = sym f.0 ∙ a in cc);
      }

  -- a call
  pub call_answered : (cells reducers : ℕ) (before after : FrameState) (line function : ℕ) (argument : Operand) (value : ℕ) (answer : Answer) (r : Result T FrameFault) → IsSound cells reducers functions → Stands functions before → before.phase ≡ Wanting → statement_of functions before.top ≡ Some (Call line function argument) → value ≡ value_of argument before.top.registers → answer ≡ Same → OnOk r (IsCalled functions function value before after) → OnErr r (after ≡ before) → IfErr r (λ fault. (fault ≡ FrameFault.Memory) × (before.has_room ≡ false)) → IsAnswered functions before answer r after
  call_answered cells reducers before after line function argument value answer (Ok u) sound s wanting e v same k f m =
      let known = called_there functions cells reducers before.top line function argument sound s.top e in
      record {
        stands = call_stands functions before after function value s (slice_get_within functions function known.0 known.1) k;
        belongs = subst (λ a. MayAnswer functions before a) (sym same) (call_belongs functions before line function argument wanting e);
        goes_on = λ root given history x a w is. call_after functions cells reducers before after line function argument value sound s wanting e v k root given history x a w;
        unasked = λ b. (let d : Wanting ≡ Running = sym b ∙ k.running in cc);
        room = λ x w other. absurd (other (wants_call functions before line function argument x e w));
        err = tt;
        strange = λ b. cc;
        memory = λ b. cc;
      }
  call_answered cells reducers before after line function argument value answer (Err fault) sound s wanting e v same k f m =
      record {
        stands = subst (λ b. Stands functions b) (sym f) s;
        belongs = tt;
        goes_on = tt;
        unasked = tt;
        room = tt;
        err = f;
        strange = λ b. (let a : fault ≡ FrameFault.Strange = cc in let c : FrameFault.Memory ≡ FrameFault.Strange = sym m.0 ∙ a in cc);
        memory = λ b. (m.1, (λ x w. wants_call functions before line function argument x e w), subst (λ a. MayAnswer functions before a) (sym same) (call_belongs functions before line function argument wanting e));
      }

  -- any other answer that belongs
  pub statement_answered : (before after : FrameState) (statement : Statement) (answer : Answer) (registers : Registers) (v : T) → Stands functions before → before.phase ≡ Wanting → statement_of functions before.top ≡ Some statement → answered statement answer before.top.registers ≡ Some registers → IsInPlace functions after.top → after.top.function ≡ before.top.function → after.top.registers ≡ registers → after.top.join ≡ join_after answer before.top.join → ((t : Statement) → statement_of functions before.top ≡ Some t → IsTrue (is_plain t) → left functions before.top ≡ Step t (left functions after.top)) → after.callers ≡ before.callers → after.phase ≡ Running → after.has_room ≡ before.has_room → IsAnswered {T = T} functions before answer (Ok v) after
  statement_answered before after statement answer registers v s wanting e r place function_is registers_is join behind callers running kept =
      record {
        stands = answer_stands functions before after s place callers running;
        belongs = answer_belongs functions before statement answer registers s wanting e r;
        goes_on = answer_after functions before after statement answer registers s wanting e r function_is registers_is join behind callers running;
        unasked = λ b. (let d : Wanting ≡ Running = sym b ∙ running in cc);
        room = λ x w other. kept;
        err = tt;
        strange = λ b. cc;
        memory = λ b. cc;
      }
