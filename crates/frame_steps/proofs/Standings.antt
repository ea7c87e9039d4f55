-- Stacks of activations before and after an answer.
use Rattle.std.proofs.Common.{◌≡◌, ℕ, zero, suc, ◌<◌, ◌⊎◌, inl, inr, List, [], ◌∷◌, ◌++◌, Option, Some, None, refl, sym, ap, ◌∙◌, subst, arith, length, map, reverse}
use Rattle.std.specs.Prelude.{slice_get, OnOk, OnErr, IfErr}
use Rattle.std.proofs.Common.{Result, Ok, Err}
use Rattle.std.proofs.lemmas.List.{reverse-append}
use Rattle.std.proofs.lemmas.Bool.{ltb-true}
use Rattle.model_bodies.specs.declared.statement.Operand.{Operand}
use Rattle.model_bodies.specs.declared.statement.Statement.{Statement}
use Rattle.model_bodies.specs.declared.statement.Statement.TheVariants.{Call}
use Rattle.model_bodies.specs.Codes.{Code}
use Rattle.model_bodies.specs.Sound.{IsSound}
use Rattle.model_bodies.specs.Trees.{Tree, Done, Step}
use Rattle.model_accesses.specs.declared.request.Act.{Act}
use Rattle.model_histories.specs.declared.answer.Answer.{Answer}
use Rattle.model_histories.specs.declared.answer.Answer.TheVariants.{Same, Resumed}
use Rattle.frame_steps.specs.declared.activation.Turn.TheVariants.{Plainly}
use Rattle.frame_steps.specs.declared.activation.Activation.{Activation}
use Rattle.model_programs.specs.Values.{Registers, first_registers, value_of}
use Rattle.model_programs.specs.Scripts.{script}
use Rattle.frame_steps.specs.Scripts.{PassesAll}
use Rattle.model_programs.specs.Answers.{Origin, FromCall, FromSpawn, IsReturned}
use Rattle.model_programs.specs.Exchanges.{Exchange, exchange}
use Rattle.frame_steps.specs.Requests.{next_line, answered}
use Rattle.frame_steps.specs.Activations.{left_on, left_by, left, end_line_by, end_line_of, statement_of, asked_act, IsTurn, IsInPlace}
use Rattle.frame_steps.proofs.Places.{found}
use Rattle.frame_steps.proofs.Turns.{none_left, asking_left}
use Rattle.frame_steps.proofs.Located.{left_is, statement_is, sound_of, statement_within}
use Rattle.frame_steps.specs.Exchanges.{Belongs, Follows, asked_line, tree_at}
use Rattle.frame_steps.specs.Stacks.{Standing, SameStack, NextStack, origin_of}
use Rattle.frame_steps.specs.Frames.{standing, callers_of, began_by}
use Rattle.frame_steps.proofs.Replies.{act_is, is_same}
use Rattle.frame_steps.proofs.Dialogues.{follows_is, returns_is, passed_stack, answer_stack, call_stack, return_stack, last_return}

module _ (functions : List Code) where
  -- an activation at its begin
  pub begun_standing : (a : Activation) (function argument : ℕ) (code : Code) → slice_get functions function ≡ Some code → a.function ≡ function → a.place ≡ 0 → a.registers ≡ first_registers argument → a.turn ≡ Plainly → standing functions a ≡ record { rest = script code; end_line = code.end_line; registers = first_registers argument }
  begun_standing a function argument code h f p r t =
      let e : slice_get functions a.function ≡ Some code = ap (λ k. slice_get functions k) f ∙ h in
      let l : left functions a ≡ script code = ap (λ o. left_by o a) e ∙ ap (λ k. left_on code k a.turn) p ∙ ap (λ k. left_on code 0 k) t in
      let n : end_line_of functions a.function ≡ code.end_line = ap end_line_by e in
      λ i. record { rest = l i; end_line = n i; registers = r i }

  pub begun_place : (a : Activation) (function : ℕ) → function < length functions → a.function ≡ function → a.place ≡ 0 → a.turn ≡ Plainly → IsInPlace functions a
  begun_place a function h f p t =
      let o = found functions function h in
      record { code = o.0; known = ap (λ k. slice_get functions k) f ∙ o.1; stands = record { within = omega arith; turn = subst (λ u. IsTurn (length functions) u) (sym t) tt } }

  -- what is left before the return, and before what is asked
  pub return_left : (a : Activation) → IsInPlace functions a → statement_of functions a ≡ None → left functions a ≡ Done
  return_left a p e = left_is functions p.code a p.known ∙ none_left p.code a.place a.turn (sym (statement_is functions p.code a p.known) ∙ e)

  pub asking_tree : (a : Activation) (statement : Option Statement) (act : Act) → IsInPlace functions a → statement_of functions a ≡ statement → asked_act statement a.registers ≡ Some act → (rest : Tree) × (left functions a ≡ tree_at statement rest)
  asking_tree a None act p e k = (Done, return_left a p e)
  asking_tree a (Some statement) act p e k =
      let r = asking_left p.code a.place a.turn statement a.registers act (sym (statement_is functions p.code a p.known) ∙ e) k in
      (r.0, left_is functions p.code a p.known ∙ r.1)

  -- a function that is called is there
  pub called_there : (cells reducers : ℕ) (a : Activation) (line function : ℕ) (argument : Operand) → IsSound cells reducers functions → IsInPlace functions a → statement_of functions a ≡ Some (Call line function argument) → (callee : Code) × (slice_get functions function ≡ Some callee)
  called_there cells reducers a line function argument sound p e =
      found functions function (ltb-true function (length functions) (statement_within cells reducers (length functions) p.code a.place a.turn _ (sound_of cells reducers functions a.function p.code sound p.known) p.stands.turn (sym (statement_is functions p.code a p.known) ∙ e)))

  -- one more caller
  pub callers_pushed : (callers : List Activation) (caller : Activation) → callers_of functions (callers ++ caller ∷ []) ≡ standing functions caller ∷ callers_of functions callers
  callers_pushed callers caller = ap (λ l. map (standing functions) l) (reverse-append callers (caller ∷ []))

  -- statements that ask nothing
  pub goes_to : (before after : Activation) (callers : List Standing) → after.function ≡ before.function → PassesAll (left functions before) before.registers (left functions after) after.registers → SameStack functions (standing functions before ∷ callers) (standing functions after ∷ callers)
  goes_to before after callers e p =
      subst (λ k. SameStack functions (standing functions before ∷ callers) (record { rest = left functions after; end_line = end_line_of functions k; registers = after.registers } ∷ callers)) (sym e)
      (passed_stack functions (end_line_of functions before.function) (left functions before) (left functions after) before.registers after.registers callers p)

  -- an answer after which the function goes on
  pub goes_on : (before after : Activation) (callers : List Standing) (statement : Statement) (x : Exchange) → left functions before ≡ Step statement (left functions after) → after.function ≡ before.function → Follows (origin_of callers) (Some statement) (end_line_of functions before.function) before.registers x → answered statement x.answer before.registers ≡ Some after.registers → NextStack functions x (standing functions before ∷ callers) (standing functions after ∷ callers)
  goes_on before after callers statement x l e f r =
      let end_line = end_line_of functions before.function in
      subst (λ k. NextStack functions x (standing functions before ∷ callers) (record { rest = left functions after; end_line = end_line_of functions k; registers = after.registers } ∷ callers)) (sym e)
      (subst (λ t. NextStack functions x (record { rest = t; end_line = end_line; registers = before.registers } ∷ callers) (record { rest = left functions after; end_line = end_line; registers = after.registers } ∷ callers)) (sym l)
      (subst (λ y. NextStack functions y (record { rest = Step statement (left functions after); end_line = end_line; registers = before.registers } ∷ callers) (record { rest = left functions after; end_line = end_line; registers = after.registers } ∷ callers)) (follows_is (origin_of callers) statement end_line before.registers x f)
      (answer_stack functions end_line statement (left functions after) before.registers after.registers callers x.act x.answer f.act r)))

  pub called_same : (origin : Origin) (line function : ℕ) (argument : Operand) (end_line : ℕ) (registers : Registers) (x : Exchange) → Follows origin (Some (Call line function argument)) end_line registers x → exchange Act.Call line Same ≡ x
  called_same origin line function argument end_line registers x f =
      let a = act_is Act.Call x.act f.act in
      let s = is_same x.answer (subst (λ b. Belongs origin b x.answer) (sym a) f.answer) in
      let l = f.line in
      let t = f.target in
      λ i. record { act = a i; line = l i; target = t i; answer = sym s i }

  -- a call
  pub calls : (before caller begun : Activation) (callers : List Standing) (line function : ℕ) (argument : Operand) (callee : Code) (x : Exchange) → slice_get functions function ≡ Some callee → left functions before ≡ Step (Call line function argument) (left functions caller) → caller.function ≡ before.function → caller.registers ≡ before.registers → standing functions begun ≡ record { rest = script callee; end_line = callee.end_line; registers = first_registers (value_of argument before.registers) } → Follows (origin_of callers) (Some (Call line function argument)) (end_line_of functions before.function) before.registers x → NextStack functions x (standing functions before ∷ callers) (standing functions begun ∷ standing functions caller ∷ callers)
  calls before caller begun callers line function argument callee x known l e r b f =
      let end_line = end_line_of functions before.function in
      let here : Standing = record { rest = left functions caller; end_line = end_line; registers = before.registers } in
      let c : here ≡ standing functions caller = λ i. record { rest = left functions caller; end_line = end_line_of functions (sym e i); registers = sym r i } in
      subst (λ s. NextStack functions x (standing functions before ∷ callers) (s ∷ standing functions caller ∷ callers)) (sym b)
      (subst (λ s. NextStack functions x (standing functions before ∷ callers) (record { rest = script callee; end_line = callee.end_line; registers = first_registers (value_of argument before.registers) } ∷ s ∷ callers)) c
      (subst (λ t. NextStack functions x (record { rest = t; end_line = end_line; registers = before.registers } ∷ callers) (record { rest = script callee; end_line = callee.end_line; registers = first_registers (value_of argument before.registers) } ∷ here ∷ callers)) (sym l)
      (subst (λ y. NextStack functions y (record { rest = Step (Call line function argument) (left functions caller); end_line = end_line; registers = before.registers } ∷ callers) (record { rest = script callee; end_line = callee.end_line; registers = first_registers (value_of argument before.registers) } ∷ here ∷ callers)) (called_same (origin_of callers) line function argument end_line before.registers x f)
      (call_stack functions end_line (left functions caller) before.registers callers line function argument callee known))))

  pub returned_by : (origin : Origin) (end_line : ℕ) (registers : Registers) (x : Exchange) → Follows origin None end_line registers x → (Act.Return ≡ x.act) × IsReturned origin x.answer
  returned_by origin end_line registers x f = let e = act_is Act.Return x.act f.act in (e, subst (λ a. Belongs origin a x.answer) (sym e) f.answer)

  -- a return of a called function
  pub resumes : (before : Activation) (caller : Standing) (callers : List Standing) (x : Exchange) → left functions before ≡ Done → Follows FromCall None (end_line_of functions before.function) before.registers x → NextStack functions x (standing functions before ∷ caller ∷ callers) (caller ∷ callers)
  resumes before caller callers x l f =
      let end_line = end_line_of functions before.function in
      let by : (answer : Answer) → IsReturned FromCall answer → answer ≡ Resumed = elim [ Resumed ↦ λ t. refl | _ ↦ λ t. absurd t ] in
      let a = by x.answer (returned_by FromCall end_line before.registers x f).1 in
      subst (λ t. NextStack functions x (record { rest = t; end_line = end_line; registers = before.registers } ∷ caller ∷ callers) (caller ∷ callers)) (sym l)
      (subst (λ y. NextStack functions y (record { rest = Done; end_line = end_line; registers = before.registers } ∷ caller ∷ callers) (caller ∷ callers)) (ap (λ b. exchange Act.Return end_line b) (sym a) ∙ returns_is FromCall end_line before.registers x f)
      (return_stack functions end_line before.registers caller callers))

  -- the return of the spawned function
  pub ends : (before : Activation) (x : Exchange) → left functions before ≡ Done → Follows FromSpawn None (end_line_of functions before.function) before.registers x → NextStack functions x (standing functions before ∷ []) []
  ends before x l f =
      let end_line = end_line_of functions before.function in
      subst (λ t. NextStack functions x (record { rest = t; end_line = end_line; registers = before.registers } ∷ []) []) (sym l)
      (subst (λ y. NextStack functions y (record { rest = Done; end_line = end_line; registers = before.registers } ∷ []) []) (returns_is FromSpawn end_line before.registers x f)
      (last_return functions end_line before.registers x.answer (returned_by FromSpawn end_line before.registers x f).1))

  origin_pushed : (callers : List Activation) (caller : Activation) → origin_of (map (standing functions) (callers ++ caller ∷ [])) ≡ FromCall
  origin_pushed [] caller = refl
  origin_pushed (x ∷ callers) caller = refl

  -- who began the topmost function
  pub origins : (callers : List Activation) → origin_of (callers_of functions callers) ≡ began_by callers
  origins [] = refl
  origins (caller ∷ callers) = ap (λ l. origin_of (map (standing functions) l)) (reverse-append (caller ∷ []) callers) ∙ origin_pushed (reverse callers) caller

-- the line of what is asked
pub line_at : (statement : Option Statement) (rest : Tree) (end_line : ℕ) → next_line (tree_at statement rest) end_line ≡ asked_line statement end_line
line_at None rest end_line = refl
line_at (Some statement) rest end_line = refl

pub item_of_pushed : {A : Type 0} (xs : List A) (y : A) (k : ℕ) (x : A) → slice_get (xs ++ y ∷ []) k ≡ Some x → (slice_get xs k ≡ Some x) ⊎ (y ≡ x)
item_of_pushed [] y zero x h = inr cc
item_of_pushed [] y (suc k) x h = cc
item_of_pushed (z ∷ xs) y zero x h = inl h
item_of_pushed (z ∷ xs) y (suc k) x h = item_of_pushed xs y k x h

pub item_kept : {A : Type 0} (xs : List A) (y : A) (k : ℕ) (x : A) → slice_get xs k ≡ Some x → slice_get (xs ++ y ∷ []) k ≡ Some x
item_kept [] y zero x h = cc
item_kept [] y (suc k) x h = cc
item_kept (z ∷ xs) y zero x h = h
item_kept (z ∷ xs) y (suc k) x h = item_kept xs y k x h

pub item_pushed : {A : Type 0} (xs : List A) (y : A) → slice_get (xs ++ y ∷ []) (length xs) ≡ Some y
item_pushed [] y = refl
item_pushed (z ∷ xs) y = item_pushed xs y

pub no_item : {A : Type 0} (k : ℕ) (x : A) → slice_get [] k ≡ Some x → ⊥
no_item zero x h = cc
no_item (suc k) x h = cc

-- a fact on an Ok, from others
pub on_ok : {T E : Type 0} (r : Result T E) (P Q : Type 0) → (P → Q) → OnOk r P → OnOk r Q
on_ok (Ok v) P Q f p = f p
on_ok (Err e) P Q f p = tt

-- a fact whichever the result
pub by_result : {T E : Type 0} (r : Result T E) (P Q S : Type 0) → (P → S) → (Q → S) → OnOk r P → OnErr r Q → S
by_result (Ok v) P Q S f g p q = f p
by_result (Err e) P Q S f g p q = g q

-- a fact on an error
pub on_fault : {T E : Type 0} (r : Result T E) (fault : E) (P : E → Type 0) → r ≡ Err fault → IfErr r P → P fault
on_fault (Ok v) fault P e h = cc
on_fault (Err f) fault P e h = let k : f ≡ fault = cc in subst P k h
