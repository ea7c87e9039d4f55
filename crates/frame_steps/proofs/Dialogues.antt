-- Dialogues statement by statement.
use Rattle.std.proofs.Common.{◌≡◌, ℕ, List, [], ◌∷◌, ◌++◌, ◌⊎◌, inl, inr, Option, Some, None, refl, sym, ap, ◌∙◌, subst, append_assoc}
use Rattle.std.specs.Prelude.{◌↔◌, slice_get}
use Rattle.model_bodies.specs.declared.statement.Operand.{Operand}
use Rattle.model_bodies.specs.declared.statement.Statement.{Statement}
use Rattle.model_bodies.specs.declared.statement.Statement.TheVariants.{Read, Write, Bump, Update, Put, Get, Spawn, Call, Sync}
use Rattle.model_bodies.specs.Codes.{Code}
use Rattle.model_bodies.specs.Trees.{Tree, Done, Step}
use Rattle.model_accesses.specs.declared.request.Act.{Act}
use Rattle.model_histories.specs.declared.answer.Answer.{Answer}
use Rattle.model_histories.specs.declared.answer.Answer.TheVariants.{Same, Resumed}
use Rattle.model_programs.specs.Values.{Registers, first_registers, value_of}
use Rattle.model_programs.specs.Scripts.{script, Passes}
use Rattle.frame_steps.specs.Scripts.{PassesAll, none_passed, one_more}
use Rattle.model_programs.specs.Answers.{Origin, FromCall, FromSpawn, IsReturned}
use Rattle.model_programs.specs.Exchanges.{Exchange, exchange}
use Rattle.model_programs.specs.Dialogue.{Extent, Whole, Part, Dialogue, stopped, passed, read, write, bump, update, put, get, spawned, called, in_call, synced, returned}
use Rattle.frame_steps.specs.Requests.{act_of, answered}
use Rattle.frame_steps.specs.Activations.{asked_act}
use Rattle.frame_steps.specs.Exchanges.{Belongs, Follows, asked, tree_at}
use Rattle.frame_steps.specs.Stacks.{Standing, StackDialogue, StackComes, SameStack, NextStack, origin_of, goes_onward, goes_inward, goes_outward}
use Rattle.frame_steps.proofs.Comings.{passes_once, passes_silent, answered_silent, past_all, onward, inward, outward, ends_there}
use Rattle.frame_steps.proofs.Replies.{was_read, was_got, was_written, was_updated, was_split, was_synced, act_is, is_same, belongs_answered}

pub follows_is : (origin : Origin) (statement : Statement) (end_line : ℕ) (registers : Registers) (x : Exchange) → Follows origin (Some statement) end_line registers x → asked x.act statement registers x.answer ≡ x
follows_is origin statement end_line registers x f = λ i. record { act = x.act; line = f.line i; target = f.target i; answer = x.answer }

pub returns_is : (origin : Origin) (end_line : ℕ) (registers : Registers) (x : Exchange) → Follows origin None end_line registers x → exchange Act.Return end_line x.answer ≡ x
returns_is origin end_line registers x f = let e = act_is _ x.act f.act in λ i. record { act = e i; line = f.line i; target = f.target i; answer = x.answer }

module _ (functions : List Code) where
  pass_on : (origin : Origin) (extent : Extent) (end_line : ℕ) (rest later : Tree) (registers changed : Registers) (said : List Exchange) → Passes rest registers later changed → Dialogue functions origin extent end_line rest registers said → Dialogue functions origin extent end_line later changed said
  pass_on origin extent end_line rest later registers changed said p stopped = stopped
  pass_on origin extent end_line rest later registers changed said p (passed {later = later'} {changed = changed'} q d) =
      let e = passes_once rest later' later registers changed' changed q p in
      subst (λ l. Dialogue functions origin extent end_line l changed said) e.0 (subst (λ r. Dialogue functions origin extent end_line later' r said) e.1 d)
  pass_on origin extent end_line rest later registers changed said p (read a h d) = elim p [ ]
  pass_on origin extent end_line rest later registers changed said p (write a h d) = elim p [ ]
  pass_on origin extent end_line rest later registers changed said p (bump a h d) = elim p [ ]
  pass_on origin extent end_line rest later registers changed said p (update a h d) = elim p [ ]
  pass_on origin extent end_line rest later registers changed said p (put a h d) = elim p [ ]
  pass_on origin extent end_line rest later registers changed said p (get a h d) = elim p [ ]
  pass_on origin extent end_line rest later registers changed said p (spawned a h d) = elim p [ ]
  pass_on origin extent end_line rest later registers changed said p (called f i o j) = elim p [ ]
  pass_on origin extent end_line rest later registers changed said p (in_call f i) = elim p [ ]
  pass_on origin extent end_line rest later registers changed said p (synced a h d) = elim p [ ]
  pass_on origin extent end_line rest later registers changed said p (returned a h) = elim p [ ]

  -- what can follow a statement that asks
  only_step : (origin : Origin) (extent : Extent) (end_line : ℕ) (statement : Statement) (rest : Tree) (registers : Registers) (x : Exchange) (said : List Exchange) (act : Act) → act_of statement registers ≡ Some act → Dialogue functions origin extent end_line (Step statement rest) registers (x ∷ said) → Follows origin (Some statement) end_line registers x
  only_step origin extent end_line statement rest registers x said act e (passed p d) = let k = passes_silent statement rest _ registers _ p in cc
  only_step origin extent end_line statement rest registers x said act e (read {register = register} a h d) = record { act = refl; line = refl; target = refl; answer = was_read register a registers _ h }
  only_step origin extent end_line statement rest registers x said act e (write a h d) = record { act = refl; line = refl; target = refl; answer = was_written a registers _ h }
  only_step origin extent end_line statement rest registers x said act e (bump a h d) = record { act = refl; line = refl; target = refl; answer = was_written a registers _ h }
  only_step origin extent end_line statement rest registers x said act e (update a h d) = record { act = refl; line = refl; target = refl; answer = was_updated a registers _ h }
  only_step origin extent end_line statement rest registers x said act e (put a h d) = record { act = refl; line = refl; target = refl; answer = was_written a registers _ h }
  only_step origin extent end_line statement rest registers x said act e (get {register = register} a h d) = record { act = refl; line = refl; target = refl; answer = was_got register a registers _ h }
  only_step origin extent end_line statement rest registers x said act e (spawned a h d) = record { act = refl; line = refl; target = refl; answer = was_split a registers _ h }
  only_step origin extent end_line statement rest registers x said act e (called f i o j) = record { act = refl; line = refl; target = refl; answer = tt }
  only_step origin extent end_line statement rest registers x said act e (in_call f i) = record { act = refl; line = refl; target = refl; answer = tt }
  only_step origin extent end_line statement rest registers x said act e (synced a h d) = record { act = refl; line = refl; target = refl; answer = was_synced a registers _ h }

  only_done : (origin : Origin) (extent : Extent) (end_line : ℕ) (registers : Registers) (x : Exchange) (said : List Exchange) → Dialogue functions origin extent end_line Done registers (x ∷ said) → Follows origin None end_line registers x
  only_done origin extent end_line registers x said (passed p d) = elim p [ ]
  only_done origin extent end_line registers x said (returned a h) = record { act = refl; line = refl; target = refl; answer = h }

  only : (origin : Origin) (extent : Extent) (end_line : ℕ) (statement : Option Statement) (rest : Tree) (registers : Registers) (x : Exchange) (said : List Exchange) (act : Act) → asked_act statement registers ≡ Some act → Dialogue functions origin extent end_line (tree_at statement rest) registers (x ∷ said) → Follows origin statement end_line registers x
  only origin extent end_line None rest registers x said act e d = only_done origin extent end_line registers x said d
  only origin extent end_line (Some statement) rest registers x said act e d = only_step origin extent end_line statement rest registers x said act e d

  -- after an answer the rest goes on
  on : (origin : Origin) (extent : Extent) (end_line : ℕ) (statement : Statement) (rest : Tree) (registers after : Registers) (x : Exchange) (said : List Exchange) → answered statement x.answer registers ≡ Some after → Dialogue functions origin extent end_line (Step statement rest) registers (x ∷ said) → Dialogue functions origin extent end_line rest after said
  on origin extent end_line statement rest registers after x said e (passed p d) = absurd (let k = passes_silent statement rest _ registers _ p in answered_silent statement registers x.answer after k e)
  on origin extent end_line statement rest registers after x said e (read {after = other} a h d) = let k : other ≡ after = cc in subst (λ r. Dialogue functions origin extent end_line rest r said) k d
  on origin extent end_line statement rest registers after x said e (write {after = other} a h d) = let k : other ≡ after = cc in subst (λ r. Dialogue functions origin extent end_line rest r said) k d
  on origin extent end_line statement rest registers after x said e (bump {after = other} a h d) = let k : other ≡ after = cc in subst (λ r. Dialogue functions origin extent end_line rest r said) k d
  on origin extent end_line statement rest registers after x said e (update {after = other} a h d) = let k : other ≡ after = cc in subst (λ r. Dialogue functions origin extent end_line rest r said) k d
  on origin extent end_line statement rest registers after x said e (put {after = other} a h d) = let k : other ≡ after = cc in subst (λ r. Dialogue functions origin extent end_line rest r said) k d
  on origin extent end_line statement rest registers after x said e (get {after = other} a h d) = let k : other ≡ after = cc in subst (λ r. Dialogue functions origin extent end_line rest r said) k d
  on origin extent end_line statement rest registers after x said e (spawned {after = other} a h d) = let k : other ≡ after = cc in subst (λ r. Dialogue functions origin extent end_line rest r said) k d
  on origin extent end_line statement rest registers after x said e (synced {after = other} a h d) = let k : other ≡ after = cc in subst (λ r. Dialogue functions origin extent end_line rest r said) k d
  on origin extent end_line statement rest registers after x said e (called f i o j) = cc
  on origin extent end_line statement rest registers after x said e (in_call f i) = cc

  -- and what goes on after an answer can follow it
  back : (origin : Origin) (extent : Extent) (end_line : ℕ) (statement : Statement) (rest : Tree) (registers after : Registers) (act : Act) (answer : Answer) (said : List Exchange) → act_of statement registers ≡ Some act → answered statement answer registers ≡ Some after → Dialogue functions origin extent end_line rest after said → Dialogue functions origin extent end_line (Step statement rest) registers (asked act statement registers answer ∷ said)
  back origin extent end_line (Read line register location) rest registers after act answer said a e d = subst (λ b. Dialogue functions origin extent end_line (Step (Read line register location) rest) registers (asked b (Read line register location) registers answer ∷ said)) (act_is _ act a) (read answer e d)
  back origin extent end_line (Write line location value) rest registers after act answer said a e d = subst (λ b. Dialogue functions origin extent end_line (Step (Write line location value) rest) registers (asked b (Write line location value) registers answer ∷ said)) (act_is _ act a) (write answer e d)
  back origin extent end_line (Bump line location value) rest registers after act answer said a e d = subst (λ b. Dialogue functions origin extent end_line (Step (Bump line location value) rest) registers (asked b (Bump line location value) registers answer ∷ said)) (act_is _ act a) (bump answer e d)
  back origin extent end_line (Update line reducer value) rest registers after act answer said a e d = subst (λ b. Dialogue functions origin extent end_line (Step (Update line reducer value) rest) registers (asked b (Update line reducer value) registers answer ∷ said)) (act_is _ act a) (update answer e d)
  back origin extent end_line (Put line reducer value) rest registers after act answer said a e d = subst (λ b. Dialogue functions origin extent end_line (Step (Put line reducer value) rest) registers (asked b (Put line reducer value) registers answer ∷ said)) (act_is _ act a) (put answer e d)
  back origin extent end_line (Get line register reducer) rest registers after act answer said a e d = subst (λ b. Dialogue functions origin extent end_line (Step (Get line register reducer) rest) registers (asked b (Get line register reducer) registers answer ∷ said)) (act_is _ act a) (get answer e d)
  back origin extent end_line (Spawn line function argument) rest registers after act answer said a e d = subst (λ b. Dialogue functions origin extent end_line (Step (Spawn line function argument) rest) registers (asked b (Spawn line function argument) registers answer ∷ said)) (act_is _ act a) (spawned answer e d)
  back origin extent end_line (Sync line) rest registers after act answer said a e d = subst (λ b. Dialogue functions origin extent end_line (Step (Sync line) rest) registers (asked b (Sync line) registers answer ∷ said)) (act_is _ act a) (synced answer e d)
  back origin extent end_line _ rest registers after act answer said a e d = cc

  -- a whole dialogue says something
  whole_done : (origin : Origin) (end_line : ℕ) (registers : Registers) → Dialogue functions origin Whole end_line Done registers [] → ⊥
  whole_done origin end_line registers (passed p d) = elim p [ ]

  whole_step : (origin : Origin) (end_line : ℕ) (statement : Statement) (rest : Tree) (registers : Registers) (act : Act) → act_of statement registers ≡ Some act → Dialogue functions origin Whole end_line (Step statement rest) registers [] → ⊥
  whole_step origin end_line statement rest registers act e (passed p d) = let k = passes_silent statement rest _ registers _ p in cc

  whole_says : (origin : Origin) (end_line : ℕ) (statement : Option Statement) (rest : Tree) (registers : Registers) (act : Act) → asked_act statement registers ≡ Some act → Dialogue functions origin Whole end_line (tree_at statement rest) registers [] → ⊥
  whole_says origin end_line None rest registers act e d = whole_done origin end_line registers d
  whole_says origin end_line (Some statement) rest registers act e d = whole_step origin end_line statement rest registers act e d

  -- two places in a function with the same dialogues
  record Alike (end_line : ℕ) (rest rest' : Tree) (registers registers' : Registers) : Type 0 where
    on : (origin : Origin) (extent : Extent) (said : List Exchange) → Dialogue functions origin extent end_line rest registers said → Dialogue functions origin extent end_line rest' registers' said
    back : (origin : Origin) (extent : Extent) (said : List Exchange) → Dialogue functions origin extent end_line rest' registers' said → Dialogue functions origin extent end_line rest registers said

  alike_stack : (end_line : ℕ) (rest rest' : Tree) (registers registers' : Registers) (callers : List Standing) →
      ((statement : Statement) (asking : Registers) (said : List Exchange) → StackComes functions statement asking (record { rest = rest; end_line = end_line; registers = registers } ∷ callers) said ↔ StackComes functions statement asking (record { rest = rest'; end_line = end_line; registers = registers' } ∷ callers) said) →
      Alike end_line rest rest' registers registers' → SameStack functions (record { rest = rest; end_line = end_line; registers = registers } ∷ callers) (record { rest = rest'; end_line = end_line; registers = registers' } ∷ callers)
  alike_stack end_line rest rest' registers registers' [] c a = record { on = a.on FromSpawn; back = a.back FromSpawn; comes = c }
  alike_stack end_line rest rest' registers registers' (caller ∷ callers) c a =
      record {
        on = λ extent said. elim [ inl d ↦ inl (d.0, a.on FromCall Part said d.1) | inr s ↦ inr (s.0, s.1, a.on FromCall Whole s.0 s.2, s.3, s.4) ];
        back = λ extent said. elim [ inl d ↦ inl (d.0, a.back FromCall Part said d.1) | inr s ↦ inr (s.0, s.1, a.back FromCall Whole s.0 s.2, s.3, s.4) ];
        comes = c;
      }

  alike_all : (end_line : ℕ) (rest later : Tree) (registers changed : Registers) → PassesAll rest registers later changed → Alike end_line rest later registers changed
  alike_all end_line rest later registers changed none_passed = record { on = λ o e said d. d; back = λ o e said d. d }
  alike_all end_line rest later registers changed (one_more {second = between} {between = middle} a p) =
      let first = alike_all end_line rest between registers middle a in
      record { on = λ o e said d. pass_on o e end_line between later middle changed said p (first.on o e said d); back = λ o e said d. first.back o e said (passed p d) }

  -- statements that ask nothing change no dialogue
  pub passed_stack : (end_line : ℕ) (rest later : Tree) (registers changed : Registers) (callers : List Standing) → PassesAll rest registers later changed → SameStack functions (record { rest = rest; end_line = end_line; registers = registers } ∷ callers) (record { rest = later; end_line = end_line; registers = changed } ∷ callers)
  passed_stack end_line rest later registers changed callers p = alike_stack end_line rest later registers changed callers (λ statement asking said. past_all functions statement asking end_line rest later registers changed callers said p) (alike_all end_line rest later registers changed p)

  -- an answer after which the function goes on
  pub answer_stack : (end_line : ℕ) (statement : Statement) (rest : Tree) (registers after : Registers) (callers : List Standing) (act : Act) (answer : Answer) → act_of statement registers ≡ Some act → answered statement answer registers ≡ Some after → NextStack functions (asked act statement registers answer) (record { rest = Step statement rest; end_line = end_line; registers = registers } ∷ callers) (record { rest = rest; end_line = end_line; registers = after } ∷ callers)
  answer_stack end_line statement rest registers after [] act answer a e =
      record {
        on = λ extent said d. on FromSpawn extent end_line statement rest registers after (asked act statement registers answer) said e d;
        back = λ extent said d. back FromSpawn extent end_line statement rest registers after act answer said a e d;
        comes = λ t r said. ((λ d. onward functions t r end_line statement rest registers after [] (asked act statement registers answer) said e d), (λ d. goes_onward e d));
      }
  answer_stack end_line statement rest registers after (caller ∷ callers) act answer a e =
      let x = asked act statement registers answer in
      let inside : (extent : Extent) (said : List Exchange) (inner outer : List Exchange) → Dialogue functions FromCall Whole end_line (Step statement rest) registers inner → StackDialogue functions extent (caller ∷ callers) outer → x ∷ said ≡ inner ++ outer → StackDialogue functions extent (record { rest = rest; end_line = end_line; registers = after } ∷ caller ∷ callers) said =
      λ extent said. elim [
        | [] ↦ λ outer w s j. absurd (whole_says FromCall end_line (Some statement) rest registers act a w)
        | y ∷ inner ↦ λ outer w s j.
            let h : y ≡ x = cc in
            let k : said ≡ inner ++ outer = cc in
            inr (inner, outer, on FromCall Whole end_line statement rest registers after x inner e (subst (λ z. Dialogue functions FromCall Whole end_line (Step statement rest) registers (z ∷ inner)) h w), s, k)
      ] in
      record {
        on = λ extent said. elim [ inl d ↦ inl (d.0, on FromCall Part end_line statement rest registers after x said e d.1) | inr s ↦ inside extent said s.0 s.1 s.2 s.3 s.4 ];
        back = λ extent said. elim [ inl d ↦ inl (d.0, back FromCall Part end_line statement rest registers after act answer said a e d.1) | inr s ↦ inr (x ∷ s.0, s.1, back FromCall Whole end_line statement rest registers after act answer s.0 a e s.2, s.3, ap (λ l. x ∷ l) s.4) ];
        comes = λ t r said. ((λ d. onward functions t r end_line statement rest registers after (caller ∷ callers) x said e d), (λ d. goes_onward e d));
      }

  call_inner : (end_line : ℕ) (rest : Tree) (registers : Registers) (origin : Origin) (line function : ℕ) (argument : Operand) (callee : Code) (x : Exchange) (said : List Exchange) → slice_get functions function ≡ Some callee → Dialogue functions origin Whole end_line (Step (Call line function argument) rest) registers (x ∷ said) → (inner : List Exchange) × (outer : List Exchange) × Dialogue functions FromCall Whole callee.end_line (script callee) (first_registers (value_of argument registers)) inner × Dialogue functions origin Whole end_line rest registers outer × (said ≡ inner ++ outer)
  call_inner end_line rest registers origin line function argument callee x said h (passed p d) = elim p [ ]
  call_inner end_line rest registers origin line function argument callee x said h (called {inner = inner} {outer = outer} {callee = found} f i o j) =
      let e : found ≡ callee = cc in
      (inner, outer, subst (λ g. Dialogue functions FromCall Whole g.end_line (script g) (first_registers (value_of argument registers)) inner) e i, o, j)

  call_part : (end_line : ℕ) (rest : Tree) (registers : Registers) (origin : Origin) (extent : Extent) (line function : ℕ) (argument : Operand) (callee : Code) (x : Exchange) (said : List Exchange) → slice_get functions function ≡ Some callee → Dialogue functions origin extent end_line (Step (Call line function argument) rest) registers (x ∷ said) → ((extent ≡ Part) × Dialogue functions FromCall Part callee.end_line (script callee) (first_registers (value_of argument registers)) said) ⊎ ((inner : List Exchange) × (outer : List Exchange) × Dialogue functions FromCall Whole callee.end_line (script callee) (first_registers (value_of argument registers)) inner × Dialogue functions origin extent end_line rest registers outer × (said ≡ inner ++ outer))
  call_part end_line rest registers origin extent line function argument callee x said h (passed p d) = elim p [ ]
  call_part end_line rest registers origin extent line function argument callee x said h (called {inner = inner} {outer = outer} {callee = found} f i o j) =
      let e : found ≡ callee = cc in
      inr (inner, outer, subst (λ g. Dialogue functions FromCall Whole g.end_line (script g) (first_registers (value_of argument registers)) inner) e i, o, j)
  call_part end_line rest registers origin extent line function argument callee x said h (in_call {callee = found} f i) =
      let e : found ≡ callee = cc in
      inl (refl, subst (λ g. Dialogue functions FromCall Part g.end_line (script g) (first_registers (value_of argument registers)) said) e i)

  -- a call puts the called function on the stack
  pub call_stack : (end_line : ℕ) (rest : Tree) (registers : Registers) (callers : List Standing) (line function : ℕ) (argument : Operand) (callee : Code) → slice_get functions function ≡ Some callee → NextStack functions (exchange Act.Call line Same) (record { rest = Step (Call line function argument) rest; end_line = end_line; registers = registers } ∷ callers) (record { rest = script callee; end_line = callee.end_line; registers = first_registers (value_of argument registers) } ∷ record { rest = rest; end_line = end_line; registers = registers } ∷ callers)
  call_stack end_line rest registers [] line function argument callee h =
      record {
        on = λ extent said d. call_part end_line rest registers FromSpawn extent line function argument callee (exchange Act.Call line Same) said h d;
        back = λ extent said. elim [ inl d ↦ subst (λ e. Dialogue functions FromSpawn e end_line (Step (Call line function argument) rest) registers (exchange Act.Call line Same ∷ said)) (sym d.0) (in_call h d.1) | inr s ↦ called h s.2 s.3 s.4 ];
        comes = λ t r said. ((λ d. inward functions t r end_line rest registers [] line function argument callee (exchange Act.Call line Same) said h d), (λ d. goes_inward h d));
      }
  call_stack end_line rest registers (caller ∷ callers) line function argument callee h =
      let x = exchange Act.Call line Same in
      let here : List Standing = record { rest = rest; end_line = end_line; registers = registers } ∷ caller ∷ callers in
      let inside : (extent : Extent) (said : List Exchange) (inner outer : List Exchange) → Dialogue functions FromCall Whole end_line (Step (Call line function argument) rest) registers inner → StackDialogue functions extent (caller ∷ callers) outer → x ∷ said ≡ inner ++ outer → StackDialogue functions extent (record { rest = script callee; end_line = callee.end_line; registers = first_registers (value_of argument registers) } ∷ here) said =
      λ extent said. elim [
        | [] ↦ λ outer w s j. absurd (whole_says FromCall end_line (Some (Call line function argument)) rest registers Act.Call refl w)
        | y ∷ inner ↦ λ outer w s j.
            let k : said ≡ inner ++ outer = cc in
            let c = call_inner end_line rest registers FromCall line function argument callee y inner h w in
            inr (c.0, c.1 ++ outer, c.2, inr (c.1, outer, c.3, s, refl), k ∙ ap (λ l. l ++ outer) c.4 ∙ append_assoc c.0 c.1 outer)
      ] in
      record {
        on = λ extent said. elim [
          | inl d ↦ (elim (call_part end_line rest registers FromCall Part line function argument callee x said h d.1) [ inl p ↦ inl (d.0, p.1) | inr s ↦ inr (s.0, s.1, s.2, inl (d.0, s.3), s.4) ])
          | inr s ↦ inside extent said s.0 s.1 s.2 s.3 s.4
        ];
        back = λ extent said. elim [
          | inl d ↦ inl (d.0, in_call h d.1)
          | inr s ↦ (elim s.3 [
            | inl d ↦ inl (d.0, called h s.2 d.1 s.4)
            | inr t ↦ inr (x ∷ (s.0 ++ t.0), t.1, called h s.2 t.2 refl, t.3, ap (λ l. x ∷ l) (s.4 ∙ ap (λ l. s.0 ++ l) t.4 ∙ sym (append_assoc s.0 t.0 t.1)))
          ])
        ];
        comes = λ t r said. ((λ d. inward functions t r end_line rest registers (caller ∷ callers) line function argument callee x said h d), (λ d. goes_inward h d));
      }

  -- a stack may stop anywhere
  pub stack_stopped : (stack : List Standing) → StackDialogue functions Part stack []
  stack_stopped [] = refl
  stack_stopped (top ∷ []) = stopped
  stack_stopped (top ∷ caller ∷ callers) = inl (refl, stopped)

  return_says : (end_line : ℕ) (registers : Registers) (origin : Origin) (extent : Extent) (x : Exchange) (said : List Exchange) → Dialogue functions origin extent end_line Done registers (x ∷ said) → said ≡ []
  return_says end_line registers origin extent x said (passed p d) = elim p [ ]
  return_says end_line registers origin extent x said (returned a h) = refl

  -- a return takes the function off the stack
  pub return_stack : (end_line : ℕ) (registers : Registers) (caller : Standing) (callers : List Standing) → NextStack functions (exchange Act.Return end_line Resumed) (record { rest = Done; end_line = end_line; registers = registers } ∷ caller ∷ callers) (caller ∷ callers)
  return_stack end_line registers caller callers =
      let x = exchange Act.Return end_line Resumed in
      let inside : (extent : Extent) (said : List Exchange) (inner outer : List Exchange) → Dialogue functions FromCall Whole end_line Done registers inner → StackDialogue functions extent (caller ∷ callers) outer → x ∷ said ≡ inner ++ outer → StackDialogue functions extent (caller ∷ callers) said =
      λ extent said. elim [
        | [] ↦ λ outer w s j. absurd (whole_says FromCall end_line None Done registers Act.Return refl w)
        | y ∷ inner ↦ λ outer w s j.
            let n = return_says end_line registers FromCall Whole y inner w in
            let k : said ≡ inner ++ outer = cc in
            subst (λ l. StackDialogue functions extent (caller ∷ callers) l) (sym (k ∙ ap (λ l. l ++ outer) n)) s
      ] in
      record {
        on = λ extent said. elim [
          | inl d ↦ subst (λ l. StackDialogue functions extent (caller ∷ callers) l) (sym (return_says end_line registers FromCall Part x said d.1)) (subst (λ e. StackDialogue functions e (caller ∷ callers) []) (sym d.0) (stack_stopped (caller ∷ callers)))
          | inr s ↦ inside extent said s.0 s.1 s.2 s.3 s.4
        ];
        back = λ extent said s. inr (x ∷ [], said, returned Resumed tt, s, refl);
        comes = λ t r said. ((λ d. outward functions t r end_line registers caller callers x said d), (λ d. goes_outward d));
      }

  -- the last return
  pub last_return : (end_line : ℕ) (registers : Registers) (answer : Answer) → IsReturned FromSpawn answer → NextStack functions (exchange Act.Return end_line answer) (record { rest = Done; end_line = end_line; registers = registers } ∷ []) []
  last_return end_line registers answer a =
      record {
        on = λ extent said d. return_says end_line registers FromSpawn extent (exchange Act.Return end_line answer) said d;
        back = λ extent said e. subst (λ l. Dialogue functions FromSpawn extent end_line Done registers (exchange Act.Return end_line answer ∷ l)) (sym e) (returned answer a);
        comes = λ t r said. ((λ d. ends_there functions t r end_line registers (exchange Act.Return end_line answer) said d), (λ d. absurd d));
      }

  -- what can follow a stack
  pub stack_only : (end_line : ℕ) (statement : Option Statement) (rest : Tree) (registers : Registers) (callers : List Standing) (act : Act) (x : Exchange) (said : List Exchange) → asked_act statement registers ≡ Some act → StackDialogue functions Part (record { rest = tree_at statement rest; end_line = end_line; registers = registers } ∷ callers) (x ∷ said) → Follows (origin_of callers) statement end_line registers x
  stack_only end_line statement rest registers [] act x said a d = only FromSpawn Part end_line statement rest registers x said act a d
  stack_only end_line statement rest registers (caller ∷ callers) act x said a (inl d) = only FromCall Part end_line statement rest registers x said act a d.1
  stack_only end_line statement rest registers (caller ∷ callers) act x said a (inr s) =
      let inside : (inner outer : List Exchange) → Dialogue functions FromCall Whole end_line (tree_at statement rest) registers inner → x ∷ said ≡ inner ++ outer → Follows FromCall statement end_line registers x =
      elim [
        | [] ↦ λ outer w j. absurd (whole_says FromCall end_line statement rest registers act a w)
        | y ∷ inner ↦ λ outer w j.
            let e : y ≡ x = cc in
            subst (λ z. Follows FromCall statement end_line registers z) e (only FromCall Whole end_line statement rest registers y inner act a w)
      ] in
      inside s.0 s.1 s.2 s.4

  part_stack : (end_line : ℕ) (rest : Tree) (registers : Registers) (callers : List Standing) (said : List Exchange) → Dialogue functions (origin_of callers) Part end_line rest registers said → StackDialogue functions Part (record { rest = rest; end_line = end_line; registers = registers } ∷ callers) said
  part_stack end_line rest registers [] said d = d
  part_stack end_line rest registers (caller ∷ callers) said d = inl (refl, d)

  may_call : (origin : Origin) (end_line line function : ℕ) (argument : Operand) (callee : Code) (rest : Tree) (registers : Registers) (act : Act) (answer : Answer) → slice_get functions function ≡ Some callee → Act.Call ≡ act → Belongs origin act answer → Dialogue functions origin Part end_line (Step (Call line function argument) rest) registers (asked act (Call line function argument) registers answer ∷ [])
  may_call origin end_line line function argument callee rest registers act answer known a b =
      let s = is_same answer (subst (λ z. Belongs origin z answer) (sym a) b) in
      subst (λ z. Dialogue functions origin Part end_line (Step (Call line function argument) rest) registers (asked z (Call line function argument) registers answer ∷ [])) a
      (subst (λ z. Dialogue functions origin Part end_line (Step (Call line function argument) rest) registers (asked Act.Call (Call line function argument) registers z ∷ [])) (sym s) (in_call known stopped))

  may_step : (origin : Origin) (end_line : ℕ) (statement : Statement) (rest : Tree) (registers : Registers) (act : Act) (answer : Answer) → ((line function : ℕ) (argument : Operand) → statement ≡ Call line function argument → (callee : Code) × (slice_get functions function ≡ Some callee)) → act_of statement registers ≡ Some act → Belongs origin act answer → Dialogue functions origin Part end_line (Step statement rest) registers (asked act statement registers answer ∷ [])
  may_step origin end_line statement rest registers act answer known a b =
      elim (belongs_answered origin statement answer registers act a b) [
        | inl c ↦ (let k = known c.0 c.1 c.2 c.3 in subst (λ s. Dialogue functions origin Part end_line (Step s rest) registers (asked act s registers answer ∷ [])) (sym c.3) (may_call origin end_line c.0 c.1 c.2 k.0 rest registers act answer k.1 (act_is Act.Call act (subst (λ s. act_of s registers ≡ Some act) c.3 a)) b))
        | inr r ↦ back origin Part end_line statement rest registers r.0 act answer [] a r.1 stopped
      ]

  -- what follows a stack
  pub stack_may : (end_line : ℕ) (statement : Option Statement) (rest : Tree) (registers : Registers) (callers : List Standing) (x : Exchange) → ((line function : ℕ) (argument : Operand) → statement ≡ Some (Call line function argument) → (callee : Code) × (slice_get functions function ≡ Some callee)) → Follows (origin_of callers) statement end_line registers x → StackDialogue functions Part (record { rest = tree_at statement rest; end_line = end_line; registers = registers } ∷ callers) (x ∷ [])
  stack_may end_line None rest registers callers x known f =
      let e = act_is Act.Return x.act f.act in
      part_stack end_line Done registers callers (x ∷ []) (subst (λ z. Dialogue functions (origin_of callers) Part end_line Done registers (z ∷ [])) (returns_is (origin_of callers) end_line registers x f) (returned x.answer (subst (λ a. Belongs (origin_of callers) a x.answer) (sym e) f.answer)))
  stack_may end_line (Some statement) rest registers callers x known f =
      part_stack end_line (Step statement rest) registers callers (x ∷ []) (subst (λ z. Dialogue functions (origin_of callers) Part end_line (Step statement rest) registers (z ∷ [])) (follows_is (origin_of callers) statement end_line registers x f) (may_step (origin_of callers) end_line statement rest registers x.act x.answer (λ line function argument e. known line function argument (ap Some e)) f.act f.answer))
