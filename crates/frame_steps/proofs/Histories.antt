-- Frames and what was said so far.
use Rattle.std.proofs.Common.{◌≡◌, ◌≢◌, ℕ, ◌<◌, ◌↔◌, List, [], ◌∷◌, ◌++◌, Option, Some, None, inl, inr, refl, sym, ap, ◌∙◌, subst, map, reverse, length, append_assoc, append-nil}
use Rattle.std.specs.Prelude.{slice_get, IsTrue}
use Rattle.std.proofs.lemmas.List.{reverse-append}
use Rattle.model_bodies.specs.declared.statement.Operand.{Operand}
use Rattle.model_bodies.specs.declared.statement.Statement.{Statement}
use Rattle.model_bodies.specs.declared.statement.Statement.TheVariants.{Call}
use Rattle.model_bodies.specs.Codes.{Code}
use Rattle.model_bodies.specs.Sound.{IsSound}
use Rattle.model_bodies.specs.Trees.{Step}
use Rattle.model_accesses.specs.declared.request.Act.{Act}
use Rattle.model_histories.specs.declared.answer.Answer.{Answer}
use Rattle.model_histories.specs.declared.answer.Answer.TheVariants.{Same, Resumed, Ended, EndedJoined, Finished}
use Rattle.frame_steps.specs.declared.request.Want.{Want}
use Rattle.frame_steps.specs.declared.activation.Turn.TheVariants.{Plainly}
use Rattle.frame_steps.specs.declared.activation.Activation.{Activation}
use Rattle.model_programs.specs.Values.{Registers, first_registers, value_of}
use Rattle.frame_steps.specs.Scripts.{PassesAll}
use Rattle.model_programs.specs.Answers.{FromSpawn, IsReturned}
use Rattle.model_programs.specs.Exchanges.{Exchange}
use Rattle.model_programs.specs.Dialogue.{Extent, Whole, Part, Dialogue, DialogueOf}
use Rattle.frame_steps.specs.Requests.{Asks, act_of, next_line, answered}
use Rattle.frame_steps.specs.Activations.{left, end_line_of, statement_of, asked_act, is_plain, IsInPlace}
use Rattle.model_programs.specs.Scripts.{script}
use Rattle.frame_steps.proofs.Places.{found}
use Rattle.frame_steps.proofs.Turns.{asks_plain}
use Rattle.frame_steps.specs.declared.phase.Phase.{Phase}
use Rattle.frame_steps.specs.declared.phase.Phase.TheVariants.{Running, Wanting, Over}
use Rattle.frame_steps.specs.Exchanges.{Belongs, Follows, asked_line, asked_target}
use Rattle.frame_steps.specs.Stacks.{StackDialogue, StackComes, ComesBefore, SameStack, NextStack, origin_of}
use Rattle.frame_steps.specs.Joins.{join_after, joins_step, joins_after}
use Rattle.frame_steps.specs.States.{FrameState}
use Rattle.frame_steps.specs.Frames.{standing, callers_of, stack_in, stack_of, joins_in, joins_of, Stands, Wants, IsAfter, CanFollow, MayAnswer, IsCalled, IsLeft, began_by}
use Rattle.frame_steps.proofs.Replies.{act_is, is_same, answered_belongs, belongs_answered}
use Rattle.frame_steps.proofs.Comings.{comes_with}
use Rattle.frame_steps.proofs.Dialogues.{stack_only, stack_may, stack_stopped}
use Rattle.frame_steps.proofs.Standings.{begun_standing, begun_place, return_left, asking_tree, called_there, callers_pushed, goes_to, goes_on, calls, returned_by, resumes, ends, origins, line_at, item_of_pushed, item_kept, item_pushed, no_item}

-- a dialogue of the function that is there
pub dialogue_with : (functions : List Code) (function argument : ℕ) (extent : Extent) (said : List Exchange) → DialogueOf functions function argument extent said →
    (code : Code) → slice_get functions function ≡ Some code → Dialogue functions FromSpawn extent code.end_line (script code) (first_registers argument) said
dialogue_with functions function argument extent said d code is =
    subst (λ (c : Code). Dialogue functions FromSpawn extent c.end_line (script c) (first_registers argument) said) (same _ d.there is) d.says
  where
    same : (found : Option Code) → found ≡ Some d.code → found ≡ Some code → d.code ≡ code
    same found e f = cc

joins_more : (joins : List (Option ℕ)) (history : List Exchange) (x : Exchange) → joins_after joins (history ++ x ∷ []) ≡ joins_step x.act x.answer (joins_after joins history)
joins_more joins [] x = refl
joins_more joins (y ∷ history) x = joins_more (joins_step y.act y.answer joins) history x

-- the joins of a frame that is not over
joins_open : (phase : Phase) (top : Activation) (callers : List Activation) → phase ≢ Over → joins_in phase top callers ≡ top.join ∷ map (λ a. a.join) (reverse callers)
joins_open Running top callers h = refl
joins_open Wanting top callers h = refl
joins_open Over top callers h = absurd (h refl)

module _ (functions : List Code) where
  pub open_stack : (phase : Phase) (top : Activation) (callers : List Activation) → phase ≢ Over → stack_in functions phase top callers ≡ standing functions top ∷ callers_of functions callers
  open_stack Running top callers h = refl
  open_stack Wanting top callers h = refl
  open_stack Over top callers h = absurd (h refl)

  wanting_stack : (frame : FrameState) → frame.phase ≡ Wanting → stack_of functions frame ≡ standing functions frame.top ∷ callers_of functions frame.callers
  wanting_stack frame e = ap (λ p. stack_in functions p frame.top frame.callers) e

  running_stack : (frame : FrameState) → frame.phase ≡ Running → stack_of functions frame ≡ standing functions frame.top ∷ callers_of functions frame.callers
  running_stack frame e = ap (λ p. stack_in functions p frame.top frame.callers) e

  pub over_stack : (frame : FrameState) → frame.phase ≡ Over → stack_of functions frame ≡ []
  over_stack frame e = ap (λ p. stack_in functions p frame.top frame.callers) e

  -- a frame at its function's begin
  pub begun_stands : (frame : FrameState) (function : ℕ) → function < length functions → frame.phase ≡ Running → frame.callers ≡ [] → frame.top.function ≡ function → frame.top.place ≡ 0 → frame.top.turn ≡ Plainly → Stands functions frame
  begun_stands frame function h running callers f p t =
      record {
        top = begun_place functions frame.top function h f p t;
        callers = λ k caller e. absurd (no_item k caller (ap (λ l. slice_get l k) (sym callers) ∙ e));
        asking = λ w. absurd (let e : Running ≡ Wanting = sym running ∙ w in cc);
      }

  pub begun_after : (frame : FrameState) (function argument : ℕ) → function < length functions → frame.phase ≡ Running → frame.callers ≡ [] → frame.top.function ≡ function → frame.top.place ≡ 0 → frame.top.registers ≡ first_registers argument → frame.top.join ≡ None → frame.top.turn ≡ Plainly → IsAfter functions function argument [] frame
  begun_after frame function argument h running callers f p r j t =
      let o = found functions function h in
      let s = begun_standing functions frame.top function argument o.0 o.1 f p r t in
      let e = running_stack frame running ∙ ap (λ l. standing functions frame.top ∷ callers_of functions l) callers ∙ ap (λ b. b ∷ []) s in
      record {
        goes_on = λ extent said. (
          (λ d. record { code = o.0; there = o.1; says = subst (λ k. StackDialogue functions extent k said) e d }),
          (λ d. subst (λ k. StackDialogue functions extent k said) (sym e) (dialogue_with functions function argument extent said d o.0 o.1)),
        );
        joins = ap (λ q. joins_in q frame.top frame.callers) running ∙ ap (λ l. frame.top.join ∷ map (λ a. a.join) (reverse l)) callers ∙ ap (λ k. k ∷ []) j;
        comes = λ statement registers said. (
          (λ d. record { code = o.0; there = o.1; comes = subst (λ k. StackComes functions statement registers k said) e d }),
          (λ d. subst (λ k. StackComes functions statement registers k said) (sym e) (comes_with functions function argument said statement registers d o.0 o.1)),
        );
      }

  -- statements that ask nothing leave what was said
  same_after : (before after : FrameState) → SameStack functions (stack_of functions before) (stack_of functions after) → joins_of after ≡ joins_of before → (function argument : ℕ) (history : List Exchange) → IsAfter functions function argument history before → IsAfter functions function argument history after
  same_after before after s j function argument history a =
      record {
        goes_on = λ extent said. ((λ d. (a.goes_on extent said).0 (s.back extent said d)), (λ d. s.on extent said ((a.goes_on extent said).1 d)));
        joins = j ∙ a.joins;
        comes = λ statement registers said. (
          (λ d. (a.comes statement registers said).0 ((s.comes statement registers said).1 d)),
          (λ d. (s.comes statement registers said).0 ((a.comes statement registers said).1 d)),
        );
      }

  -- an exchange adds to what was said
  next_after : (before after : FrameState) (x : Exchange) → NextStack functions x (stack_of functions before) (stack_of functions after) → joins_of after ≡ joins_step x.act x.answer (joins_of before) → (function argument : ℕ) (history : List Exchange) → IsAfter functions function argument history before → IsAfter functions function argument (history ++ x ∷ []) after
  next_after before after x n j function argument history a =
      let shape : Extent → List Exchange → Type 0 = λ extent said. DialogueOf functions function argument extent said in
      record {
        goes_on = λ extent said. (
          (λ d. subst (shape extent) (sym (append_assoc history (x ∷ []) said)) ((a.goes_on extent (x ∷ said)).0 (n.back extent said d))),
          (λ d. n.on extent said ((a.goes_on extent (x ∷ said)).1 (subst (shape extent) (append_assoc history (x ∷ []) said) d))),
        );
        joins = j ∙ ap (λ l. joins_step x.act x.answer l) a.joins ∙ sym (joins_more (None ∷ []) history x);
        comes = λ statement registers said.
            let same = append_assoc history (x ∷ []) said in
            let place : List Exchange → Type 0 = λ l. ComesBefore functions function argument l statement registers in (
              (λ d. subst place (sym same) ((a.comes statement registers (x ∷ said)).0 ((n.comes statement registers said).1 d))),
              (λ d. (n.comes statement registers said).0 ((a.comes statement registers (x ∷ said)).1 (subst place same d))),
            );
      }

  -- what was said to a frame that is over is a whole dialogue
  pub over_whole : (frame : FrameState) → frame.phase ≡ Over → (function argument : ℕ) (history : List Exchange) → IsAfter functions function argument history frame → DialogueOf functions function argument Whole history
  over_whole frame over function argument history a =
      subst (λ l. DialogueOf functions function argument Whole l) (append-nil history) ((a.goes_on Whole []).0 (subst (λ s. StackDialogue functions Whole s []) (sym (over_stack frame over)) refl))

  -- what was said is a dialogue, which may go on
  pub after_part : (frame : FrameState) (function argument : ℕ) (history : List Exchange) → IsAfter functions function argument history frame → DialogueOf functions function argument Part history
  after_part frame function argument history a =
      subst (λ l. DialogueOf functions function argument Part l) (append-nil history) ((a.goes_on Part []).0 (stack_stopped functions (stack_of functions frame)))

  -- a frame whose topmost function went on to what it asks
  pub sought_after : (before after : FrameState) → before.phase ≢ Over → after.phase ≡ Wanting → after.callers ≡ before.callers → after.top.function ≡ before.top.function → after.top.join ≡ before.top.join → PassesAll (left functions before.top) before.top.registers (left functions after.top) after.top.registers → (function argument : ℕ) (history : List Exchange) → IsAfter functions function argument history before → IsAfter functions function argument history after
  sought_after before after going wanting callers function_is join passes =
      let below = callers_of functions before.callers in
      let first = open_stack before.phase before.top before.callers going in
      let second = wanting_stack after wanting ∙ ap (λ l. standing functions after.top ∷ callers_of functions l) callers in
      let s = subst (λ b. SameStack functions b (stack_of functions after)) (sym first) (subst (λ a. SameStack functions (standing functions before.top ∷ below) a) (sym second) (goes_to functions before.top after.top below function_is passes)) in
      let j = ap (λ p. joins_in p after.top after.callers) wanting ∙ ap (λ l. after.top.join ∷ map (λ a. a.join) (reverse l)) callers ∙ ap (λ k. k ∷ map (λ a. a.join) (reverse before.callers)) join ∙ sym (joins_open before.phase before.top before.callers going) in
      same_after before after s j

  -- what a frame wants is what its topmost function asks
  pub wants_asked : (frame : FrameState) (want : Want) (x : Exchange) → IsInPlace functions frame.top → asked_act (statement_of functions frame.top) frame.top.registers ≡ Some want.act → Asks (left functions frame.top) (end_line_of functions frame.top.function) frame.top.registers want → Wants functions frame x → (x.act ≡ want.act) × (x.line ≡ want.line)
  wants_asked frame want x p act asks w =
      let t = asking_tree functions frame.top (statement_of functions frame.top) want.act p refl act in
      let l = ap (λ u. next_line u (end_line_of functions frame.top.function)) t.1 ∙ line_at (statement_of functions frame.top) t.0 (end_line_of functions frame.top.function) in
      (act_is x.act want.act (sym w.follows.act ∙ act), sym w.follows.line ∙ sym l ∙ asks.line)

  -- what a frame wants is all that can follow
  pub wanted_follows : (cells reducers : ℕ) (frame : FrameState) (act : Act) → IsSound cells reducers functions → IsInPlace functions frame.top → frame.phase ≡ Wanting → asked_act (statement_of functions frame.top) frame.top.registers ≡ Some act → (function argument : ℕ) (history : List Exchange) → IsAfter functions function argument history frame → (x : Exchange) → CanFollow functions function argument history x ↔ Wants functions frame x
  wanted_follows cells reducers frame act sound p wanting asks function argument history a x =
      let callers = callers_of functions frame.callers in
      let end_line = end_line_of functions frame.top.function in
      let statement = statement_of functions frame.top in
      let t = asking_tree functions frame.top statement act p refl asks in
      let e = wanting_stack frame wanting ∙ ap (λ u. record { rest = u; end_line = end_line; registers = frame.top.registers } ∷ callers) t.1 in (
        (λ d. record {
          wanting = wanting;
          follows = stack_only functions end_line statement t.0 frame.top.registers callers act x [] asks (subst (λ s. StackDialogue functions Part s (x ∷ [])) e ((a.goes_on Part (x ∷ [])).1 d));
        }),
        (λ w. (a.goes_on Part (x ∷ [])).0 (subst (λ s. StackDialogue functions Part s (x ∷ [])) (sym e) (stack_may functions end_line statement t.0 frame.top.registers callers x (λ line callee argument' h. called_there functions cells reducers frame.top line callee argument' sound p h) w.follows))),
      )

  -- what is wanted, before a known statement
  wants_follow : (frame : FrameState) (statement : Option Statement) (x : Exchange) → statement_of functions frame.top ≡ statement → Wants functions frame x → Follows (origin_of (callers_of functions frame.callers)) statement (end_line_of functions frame.top.function) frame.top.registers x
  wants_follow frame statement x e w = subst (λ s. Follows (origin_of (callers_of functions frame.callers)) s (end_line_of functions frame.top.function) frame.top.registers x) e w.follows

  -- an answer that belongs to a known statement
  may_answer : (frame : FrameState) (statement : Option Statement) (act : Act) (answer : Answer) → frame.phase ≡ Wanting → statement_of functions frame.top ≡ statement → asked_act statement frame.top.registers ≡ Some act → Belongs (origin_of (callers_of functions frame.callers)) act answer → MayAnswer functions frame answer
  may_answer frame statement act answer wanting e a b =
      let x : Exchange = record { act = act; line = asked_line statement (end_line_of functions frame.top.function); target = asked_target statement frame.top.registers; answer = answer } in
      let f : Follows (origin_of (callers_of functions frame.callers)) statement (end_line_of functions frame.top.function) frame.top.registers x = record { act = a; line = refl; target = refl; answer = b } in
      record { exchange = x; wants = record { wanting = wanting; follows = subst (λ s. Follows (origin_of (callers_of functions frame.callers)) s (end_line_of functions frame.top.function) frame.top.registers x) (sym e) f }; is = refl }

  ended_stands : (before after : FrameState) → Stands functions before → after.phase ≡ Over → after.top ≡ before.top → after.callers ≡ [] → Stands functions after
  ended_stands before after s o t e =
      record {
        top = subst (λ a. IsInPlace functions a) (sym t) s.top;
        callers = λ k caller h. absurd (no_item k caller (ap (λ xs. slice_get xs k) (sym e) ∙ h));
        asking = λ w. absurd (let c : Over ≡ Wanting = sym o ∙ w in cc);
      }

  -- after a return
  pub leave_stands : (before after : FrameState) (answer : Answer) → Stands functions before → IsLeft answer before after → Stands functions after
  leave_stands before after Resumed s l =
      record {
        top = s.callers (length after.callers) after.top (ap (λ xs. slice_get xs (length after.callers)) l.0 ∙ item_pushed after.callers after.top);
        callers = λ k caller h. s.callers k caller (ap (λ xs. slice_get xs k) l.0 ∙ item_kept after.callers after.top k caller h);
        asking = λ w. absurd (let c : Running ≡ Wanting = sym l.1 ∙ w in cc);
      }
  leave_stands before after Ended s l = ended_stands before after s l.3 l.1 l.2
  leave_stands before after (EndedJoined join) s l = ended_stands before after s l.3 l.1 l.2
  leave_stands before after Finished s l = ended_stands before after s l.3 l.1 l.2
  leave_stands before after _ s l = absurd l

  pub leave_belongs : (before : FrameState) (answer : Answer) → before.phase ≡ Wanting → statement_of functions before.top ≡ None → IsReturned (began_by before.callers) answer → MayAnswer functions before answer
  leave_belongs before answer wanting none r = may_answer before None Act.Return answer wanting none refl (subst (λ o. IsReturned o answer) (sym (origins functions before.callers)) r)

  -- an answer to the return of the topmost function is one to a return
  pub leave_returned : (before : FrameState) (answer : Answer) → statement_of functions before.top ≡ None → MayAnswer functions before answer → IsReturned (began_by before.callers) answer
  leave_returned before answer none m =
      let r = (returned_by functions _ _ before.top.registers m.exchange (wants_follow before None m.exchange none m.wants)).1 in
      subst (λ o. IsReturned o answer) (origins functions before.callers) (subst (λ a. IsReturned (origin_of (callers_of functions before.callers)) a) m.is r)

  leave_next : (before after : FrameState) (x : Exchange) → Stands functions before → before.phase ≡ Wanting → statement_of functions before.top ≡ None → IsLeft x.answer before after → Wants functions before x → NextStack functions x (stack_of functions before) (stack_of functions after)
  leave_next before after x s wanting none l w =
      subst (λ b. NextStack functions x b (stack_of functions after)) (sym (wanting_stack before wanting)) (by x.answer l (wants_follow before None x none w))
    where
      resumed : before.callers ≡ after.callers ++ after.top ∷ [] → after.phase ≡ Running → Follows (origin_of (callers_of functions before.callers)) None (end_line_of functions before.top.function) before.top.registers x → NextStack functions x (standing functions before.top ∷ callers_of functions before.callers) (stack_of functions after)
      resumed e running f =
          let k = ap (λ l. callers_of functions l) e ∙ callers_pushed functions after.callers after.top in
          let f' = subst (λ l. Follows (origin_of l) None (end_line_of functions before.top.function) before.top.registers x) k f in
          subst (λ a. NextStack functions x (standing functions before.top ∷ callers_of functions before.callers) a) (sym (running_stack after running))
          (subst (λ l. NextStack functions x (standing functions before.top ∷ l) (standing functions after.top ∷ callers_of functions after.callers)) (sym k)
          (resumes functions before.top (standing functions after.top) (callers_of functions after.callers) x (return_left functions before.top s.top none) f'))

      ended : before.callers ≡ [] → after.phase ≡ Over → Follows (origin_of (callers_of functions before.callers)) None (end_line_of functions before.top.function) before.top.registers x → NextStack functions x (standing functions before.top ∷ callers_of functions before.callers) (stack_of functions after)
      ended e over f =
          let k = ap (λ l. callers_of functions l) e in
          let f' = subst (λ l. Follows (origin_of l) None (end_line_of functions before.top.function) before.top.registers x) k f in
          subst (λ a. NextStack functions x (standing functions before.top ∷ callers_of functions before.callers) a) (sym (over_stack after over))
          (subst (λ l. NextStack functions x (standing functions before.top ∷ l) []) (sym k) (ends functions before.top x (return_left functions before.top s.top none) f'))

      by : (answer : Answer) → IsLeft answer before after → Follows (origin_of (callers_of functions before.callers)) None (end_line_of functions before.top.function) before.top.registers x → NextStack functions x (standing functions before.top ∷ callers_of functions before.callers) (stack_of functions after)
      by Resumed l f = resumed l.0 l.1 f
      by Ended l f = ended l.0 l.3 f
      by (EndedJoined join) l f = ended l.0 l.3 f
      by Finished l f = ended l.0 l.3 f
      by _ l f = absurd l

  leave_joins : (before after : FrameState) (x : Exchange) → before.phase ≡ Wanting → statement_of functions before.top ≡ None → IsLeft x.answer before after → Wants functions before x → joins_of after ≡ joins_step x.act x.answer (joins_of before)
  leave_joins before after x wanting none l w =
      let act = sym (returned_by functions _ _ before.top.registers x (wants_follow before None x none w)).0 in
      let second : joins_step x.act x.answer (joins_of before) ≡ map (λ b. b.join) (reverse before.callers) = ap (λ b. joins_step b x.answer (joins_of before)) act ∙ ap (λ p. joins_step Act.Return x.answer (joins_in p before.top before.callers)) wanting in
      by x.answer l ∙ sym second
    where
      ended : before.callers ≡ [] → after.phase ≡ Over → joins_of after ≡ map (λ b. b.join) (reverse before.callers)
      ended e over = ap (λ p. joins_in p after.top after.callers) over ∙ sym (ap (λ c. map (λ b. b.join) (reverse c)) e)

      by : (answer : Answer) → IsLeft answer before after → joins_of after ≡ map (λ b. b.join) (reverse before.callers)
      by Resumed l = ap (λ p. joins_in p after.top after.callers) l.1 ∙ sym (ap (λ c. map (λ b. b.join) c) (ap (λ c. reverse c) l.0 ∙ reverse-append after.callers (after.top ∷ [])))
      by Ended l = ended l.0 l.3
      by (EndedJoined join) l = ended l.0 l.3
      by Finished l = ended l.0 l.3
      by _ l = absurd l

  pub leave_after : (before after : FrameState) (answer : Answer) → Stands functions before → before.phase ≡ Wanting → statement_of functions before.top ≡ None → IsLeft answer before after → (function argument : ℕ) (history : List Exchange) (x : Exchange) → IsAfter functions function argument history before → Wants functions before x → x.answer ≡ answer → IsAfter functions function argument (history ++ x ∷ []) after
  leave_after before after answer s wanting none l function argument history x a w e =
      let l' = subst (λ b. IsLeft b before after) (sym e) l in
      next_after before after x (leave_next before after x s wanting none l' w) (leave_joins before after x wanting none l' w) function argument history a

  -- after a call
  pub call_stands : (before after : FrameState) (function argument : ℕ) → Stands functions before → function < length functions → IsCalled functions function argument before after → Stands functions after
  call_stands before after function argument s known c =
      record {
        top = begun_place functions after.top function known c.begun.0 c.begun.1 c.begun.4;
        callers = λ k caller h.
            elim (item_of_pushed before.callers c.caller k caller (ap (λ l. slice_get l k) (sym c.callers) ∙ h)) [
              | inl a ↦ s.callers k caller a
              | inr a ↦ subst (λ b. IsInPlace functions b) a c.place
            ];
        asking = λ w. absurd (let e : Running ≡ Wanting = sym c.running ∙ w in cc);
      }

  pub call_belongs : (before : FrameState) (line function : ℕ) (argument : Operand) → before.phase ≡ Wanting → statement_of functions before.top ≡ Some (Call line function argument) → MayAnswer functions before Same
  call_belongs before line function argument wanting e = may_answer before (Some (Call line function argument)) Act.Call Same wanting e refl tt

  pub wants_call : (before : FrameState) (line function : ℕ) (argument : Operand) (x : Exchange) → statement_of functions before.top ≡ Some (Call line function argument) → Wants functions before x → x.act ≡ Act.Call
  wants_call before line function argument x e w = sym (act_is Act.Call x.act (wants_follow before (Some (Call line function argument)) x e w).act)

  -- an answer to a call is Same
  pub call_same : (before : FrameState) (line function : ℕ) (argument : Operand) (answer : Answer) → statement_of functions before.top ≡ Some (Call line function argument) → MayAnswer functions before answer → answer ≡ Same
  call_same before line function argument answer e m =
      let f = wants_follow before (Some (Call line function argument)) m.exchange e m.wants in
      let b = subst (λ a. Belongs (origin_of (callers_of functions before.callers)) a m.exchange.answer) (sym (act_is Act.Call m.exchange.act f.act)) f.answer in
      sym m.is ∙ is_same m.exchange.answer b

  pub call_after : (cells reducers : ℕ) (before after : FrameState) (line function : ℕ) (argument : Operand) (value : ℕ) → IsSound cells reducers functions → Stands functions before → before.phase ≡ Wanting → statement_of functions before.top ≡ Some (Call line function argument) → value ≡ value_of argument before.top.registers → IsCalled functions function value before after → (root given : ℕ) (history : List Exchange) (x : Exchange) → IsAfter functions root given history before → Wants functions before x → IsAfter functions root given (history ++ x ∷ []) after
  call_after cells reducers before after line function argument value sound s wanting e v c root given history x a w =
      let callers = callers_of functions before.callers in
      let f = wants_follow before (Some (Call line function argument)) x e w in
      let callee = called_there functions cells reducers before.top line function argument sound s.top e in
      let begun = begun_standing functions after.top function (value_of argument before.top.registers) callee.0 callee.1 c.begun.0 c.begun.1 (c.begun.2 ∙ ap first_registers v) c.begun.4 in
      let n = calls functions before.top c.caller after.top callers line function argument callee.0 x callee.1 (c.behind (Call line function argument) e refl) c.same.0 c.same.1 begun f in
      let stack = running_stack after c.running ∙ ap (λ l. standing functions after.top ∷ callers_of functions l) c.callers ∙ ap (λ l. standing functions after.top ∷ l) (callers_pushed functions before.callers c.caller) in
      let next = subst (λ b. NextStack functions x b (stack_of functions after)) (sym (wanting_stack before wanting)) (subst (λ k. NextStack functions x (standing functions before.top ∷ callers) k) (sym stack) n) in
      let act = wants_call before line function argument x e w in
      let first = ap (λ p. joins_in p after.top after.callers) c.running ∙ ap (λ j. j ∷ map (λ b. b.join) (reverse after.callers)) c.begun.3 ∙ ap (λ l. None ∷ map (λ b. b.join) (reverse l)) c.callers ∙ ap (λ l. None ∷ map (λ b. b.join) l) (reverse-append before.callers (c.caller ∷ [])) ∙ ap (λ j. None ∷ j ∷ map (λ b. b.join) (reverse before.callers)) c.same.2 in
      let second = ap (λ b. joins_step b x.answer (joins_of before)) act ∙ ap (λ p. None ∷ joins_in p before.top before.callers) wanting in
      next_after before after x next (first ∙ sym second) root given history a

  -- after any other answer
  pub answer_stands : (before after : FrameState) → Stands functions before → IsInPlace functions after.top → after.callers ≡ before.callers → after.phase ≡ Running → Stands functions after
  answer_stands before after s p callers running =
      record {
        top = p;
        callers = λ k caller h. s.callers k caller (ap (λ l. slice_get l k) (sym callers) ∙ h);
        asking = λ w. absurd (let e : Running ≡ Wanting = sym running ∙ w in cc);
      }

  -- what the statement of a frame that wants asks
  wanted_act : (before : FrameState) (statement : Statement) → Stands functions before → before.phase ≡ Wanting → statement_of functions before.top ≡ Some statement → (act : Act) × (act_of statement before.top.registers ≡ Some act)
  wanted_act before statement s wanting e = let a = s.asking wanting in (a.0, ap (λ o. asked_act o before.top.registers) (sym e) ∙ a.1)

  pub answer_belongs : (before : FrameState) (statement : Statement) (answer : Answer) (after : Registers) → Stands functions before → before.phase ≡ Wanting → statement_of functions before.top ≡ Some statement → answered statement answer before.top.registers ≡ Some after → MayAnswer functions before answer
  answer_belongs before statement answer after s wanting e r =
      let a = wanted_act before statement s wanting e in
      may_answer before (Some statement) a.0 answer wanting e a.1 (answered_belongs (origin_of (callers_of functions before.callers)) statement answer before.top.registers after a.0 a.1 r)

  pub answer_after : (before after : FrameState) (statement : Statement) (answer : Answer) (registers : Registers) → Stands functions before → before.phase ≡ Wanting → statement_of functions before.top ≡ Some statement → answered statement answer before.top.registers ≡ Some registers → after.top.function ≡ before.top.function → after.top.registers ≡ registers → after.top.join ≡ join_after answer before.top.join → ((s : Statement) → statement_of functions before.top ≡ Some s → IsTrue (is_plain s) → left functions before.top ≡ Step s (left functions after.top)) → after.callers ≡ before.callers → after.phase ≡ Running → (function argument : ℕ) (history : List Exchange) (x : Exchange) → IsAfter functions function argument history before → Wants functions before x → x.answer ≡ answer → IsAfter functions function argument (history ++ x ∷ []) after
  answer_after before after statement answer registers s wanting e r function_is registers_is join behind callers running function argument history x a w is =
      let below = callers_of functions before.callers in
      let act = wanted_act before statement s wanting e in
      let f = wants_follow before (Some statement) x e w in
      let r' : answered statement x.answer before.top.registers ≡ Some after.top.registers = ap (λ b. answered statement b before.top.registers) is ∙ r ∙ ap Some (sym registers_is) in
      let n = goes_on functions before.top after.top below statement x (behind statement e (asks_plain statement before.top.registers act.0 act.1)) function_is f r' in
      let stack = running_stack after running ∙ ap (λ l. standing functions after.top ∷ callers_of functions l) callers in
      let next = subst (λ b. NextStack functions x b (stack_of functions after)) (sym (wanting_stack before wanting)) (subst (λ k. NextStack functions x (standing functions before.top ∷ below) k) (sym stack) n) in
      let first = ap (λ p. joins_in p after.top after.callers) running ∙ ap (λ j. j ∷ map (λ b. b.join) (reverse after.callers)) (join ∙ ap (λ b. join_after b before.top.join) (sym is)) ∙ ap (λ l. join_after x.answer before.top.join ∷ map (λ b. b.join) (reverse l)) callers in
      let second = ap (λ p. joins_step x.act x.answer (joins_in p before.top before.callers)) wanting ∙ by statement x.act before.top.join (map (λ b. b.join) (reverse before.callers)) f.act r' in
      next_after before after x next (first ∙ sym second) function argument history a
    where
      by : (s : Statement) (act : Act) (join : Option ℕ) (joins : List (Option ℕ)) → act_of s before.top.registers ≡ Some act → answered s x.answer before.top.registers ≡ Some after.top.registers → joins_step act x.answer (join ∷ joins) ≡ join_after x.answer join ∷ joins
      by s Act.Spawn join joins a e = refl
      by s Act.Sync join joins a e = refl
      by s (Act.Read cell) join joins a e = refl
      by s (Act.Write cell value) join joins a e = refl
      by s (Act.Bump cell value) join joins a e = refl
      by s (Act.Update reducer value) join joins a e = refl
      by s (Act.Put reducer value) join joins a e = refl
      by s (Act.Get reducer) join joins a e = refl
      by (Call line function argument) Act.Call join joins a e = cc
      by _ Act.Call join joins a e = cc
      by (Call line function argument) Act.Return join joins a e = cc
      by _ Act.Return join joins a e = cc

  -- an answer that a statement is not given does not belong to what is wanted
  pub answer_strange : (before : FrameState) (statement : Statement) (answer : Answer) → ((line function : ℕ) (argument : Operand) → statement ≡ Call line function argument → ⊥) → statement_of functions before.top ≡ Some statement → answered statement answer before.top.registers ≡ None → MayAnswer functions before answer → ⊥
  answer_strange before statement answer not_call e r m =
      let f = wants_follow before (Some statement) m.exchange e m.wants in
      elim (belongs_answered (origin_of (callers_of functions before.callers)) statement answer before.top.registers m.exchange.act f.act (subst (λ b. Belongs (origin_of (callers_of functions before.callers)) m.exchange.act b) m.is f.answer)) [
        | inl c ↦ not_call c.0 c.1 c.2 c.3
        | inr a ↦ (let k : None ≡ Some a.0 = sym r ∙ a.1 in cc)
      ]
