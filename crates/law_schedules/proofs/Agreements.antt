-- What a function asks is determined by what it was answered.
use Rattle.std.proofs.Common.{◌≡◌, ℕ, ◌⊎◌, inl, inr, List, [], ◌∷◌, ◌++◌, Option, Some, None, refl, sym, ap, ◌∙◌, subst}
use Rattle.std.specs.Prelude.{slice_get}
use Rattle.model_bodies.specs.declared.statement.Register.{Register}
use Rattle.model_bodies.specs.declared.statement.Operand.{Operand}
use Rattle.model_bodies.specs.declared.statement.Statement.{Statement}
use Rattle.model_bodies.specs.declared.statement.Statement.TheVariants.{Read, Write, Bump, Update, Put, Get, Spawn, Call, Sync}
use Rattle.model_bodies.specs.Codes.{Code}
use Rattle.model_bodies.specs.Trees.{Tree, Done, Step}
use Rattle.model_accesses.specs.declared.request.Act.{Act}
use Rattle.model_histories.specs.declared.answer.Answer.{Answer}
use Rattle.model_histories.specs.declared.answer.Answer.TheVariants.{Split, Same, Joined, Waits, Resumed, Granted, Value, Refused, Unset}
use Rattle.model_programs.specs.Values.{Registers, first_registers, value_of}
use Rattle.model_programs.specs.Scripts.{script, Passes}
use Rattle.frame_steps.specs.Scripts.{PassesAll, none_passed, one_more}
use Rattle.model_programs.specs.Answers.{Origin, FromCall, FromSpawn, IsReturned, after_read, after_get, after_write, after_update, after_spawn, after_sync}
use Rattle.model_programs.specs.Exchanges.{Exchange, exchange}
use Rattle.model_programs.specs.Dialogue.{Extent, Whole, Part, Dialogue, passed, read, write, bump, update, put, get, spawned, called, in_call, synced, returned}
use Rattle.frame_steps.specs.Requests.{act_of, answered}
use Rattle.frame_steps.specs.Activations.{asked_act}
use Rattle.frame_steps.proofs.Histories.{dialogue_with}
use Rattle.frame_steps.specs.Exchanges.{Follows, tree_at}
use Rattle.frame_steps.specs.Stacks.{Standing, StackDialogue, NextStack, origin_of}
use Rattle.frame_steps.proofs.Replies.{act_is, belongs_answered}
use Rattle.frame_steps.proofs.Dialogues.{follows_is, returns_is, passed_stack, answer_stack, call_stack, return_stack, last_return, stack_only}
use Rattle.frame_steps.proofs.Standings.{called_same, returned_by}
use Rattle.law_schedules.specs.Agreement.{AreAlike, Agree, AgreementLaw}

-- after alike answers the registers are the same

same_read : (register : Register) (one other : Answer) (registers after others : Registers) → AreAlike one other →
    after_read register one registers ≡ Some after → after_read register other registers ≡ Some others → after ≡ others
same_read register (Value v) (Value w) registers after others a e f = let k = a.same_value in cc
same_read register (Value v) (Refused rule witness) registers after others a e f = absurd a.other_clean
same_read register (Value v) _ registers after others a e f = cc
same_read register (Refused rule witness) _ registers after others a e f = absurd a.one_clean
same_read register _ _ registers after others a e f = cc

same_get : (register : Register) (one other : Answer) (registers after others : Registers) → AreAlike one other →
    after_get register one registers ≡ Some after → after_get register other registers ≡ Some others → after ≡ others
same_get register (Value v) (Value w) registers after others a e f = let k = a.same_value in cc
same_get register (Value v) (Refused rule witness) registers after others a e f = absurd a.other_clean
same_get register (Value v) Unset registers after others a e f = absurd a.other_clean
same_get register (Value v) _ registers after others a e f = cc
same_get register (Refused rule witness) _ registers after others a e f = absurd a.one_clean
same_get register Unset _ registers after others a e f = absurd a.one_clean
same_get register _ _ registers after others a e f = cc

same_write : (one other : Answer) (registers after others : Registers) → AreAlike one other → after_write one registers ≡ Some after →
    after_write other registers ≡ Some others → after ≡ others
same_write Granted Granted registers after others a e f = cc
same_write Granted (Refused rule witness) registers after others a e f = absurd a.other_clean
same_write Granted _ registers after others a e f = cc
same_write (Refused rule witness) _ registers after others a e f = absurd a.one_clean
same_write _ _ registers after others a e f = cc

updates : (answer : Answer) (registers after : Registers) → after_update answer registers ≡ Some after → after_update Granted registers ≡ Some after
updates Granted registers after e = e
updates _ registers after e = cc

spawns : (answer : Answer) (registers after : Registers) → after_spawn answer registers ≡ Some after → registers ≡ after
spawns (Split strands) registers after e = cc
spawns _ registers after e = cc

syncs : (answer : Answer) (registers after : Registers) → after_sync answer registers ≡ Some after → registers ≡ after
syncs Same registers after e = cc
syncs (Joined join) registers after e = cc
syncs Waits registers after e = cc
syncs _ registers after e = cc

same_after : (statement : Statement) (one other : Answer) (registers after others : Registers) → AreAlike one other →
    answered statement one registers ≡ Some after → answered statement other registers ≡ Some others → after ≡ others
same_after (Read line register location) one other registers after others a e f = same_read register one other registers after others a e f
same_after (Write line location value) one other registers after others a e f = same_write one other registers after others a e f
same_after (Bump line location value) one other registers after others a e f = same_write one other registers after others a e f
same_after (Update line reducer value) one other registers after others a e f =
    let x = updates one registers after e in let y = updates other registers others f in cc
same_after (Put line reducer value) one other registers after others a e f = same_write one other registers after others a e f
same_after (Get line register reducer) one other registers after others a e f = same_get register one other registers after others a e f
same_after (Spawn line function argument) one other registers after others a e f = sym (spawns one registers after e) ∙ spawns other registers others f
same_after (Sync line) one other registers after others a e f = sym (syncs one registers after e) ∙ syncs other registers others f
same_after _ one other registers after others a e f = cc

passes_before : (first second third : Tree) (before between after : Registers) → Passes first before second between →
    PassesAll second between third after → PassesAll first before third after
passes_before first second third before between after p none_passed = one_more none_passed p
passes_before first second third before between after p (one_more a q) = one_more (passes_before first second _ before between _ p a) q

module _ (functions : List Code) where
  -- a call is of a function that is there
  abbrev IsKnown : Option Statement → Type 0
  IsKnown None = Unit {0}
  IsKnown (Some (Call line function argument)) = (callee : Code) × (slice_get functions function ≡ Some callee)
  IsKnown (Some _) = Unit {0}

  -- where a dialogue first asks
  record Asking (rest : Tree) (registers : Registers) (x : Exchange) : Type 0 where
    statement : Option Statement
    later : Tree
    changed : Registers
    passes : PassesAll rest registers (tree_at statement later) changed
    act : asked_act statement changed ≡ Some x.act
    known : IsKnown statement

  at_once : (statement : Option Statement) (later : Tree) (registers : Registers) (x : Exchange) → asked_act statement registers ≡ Some x.act →
      IsKnown statement → Asking (tree_at statement later) registers x
  at_once statement later registers x a k =
      record { statement = statement; later = later; changed = registers; passes = none_passed; act = a; known = k }

  asking : (origin : Origin) (extent : Extent) (end_line : ℕ) (rest : Tree) (registers : Registers) (x : Exchange) (said : List Exchange) →
      Dialogue functions origin extent end_line rest registers (x ∷ said) → Asking rest registers x
  asking origin extent end_line rest registers x said (passed {later = later} {changed = changed} p d) =
      let a = asking origin extent end_line later changed x said d in
      record {
        statement = a.statement;
        later = a.later;
        changed = a.changed;
        passes = passes_before rest later (tree_at a.statement a.later) registers changed a.changed p a.passes;
        act = a.act;
        known = a.known;
      }
  asking origin extent end_line rest registers x said (read {rest = later} {line = line} {register = register} {location = location} a h d) =
      at_once (Some (Read line register location)) later registers x refl tt
  asking origin extent end_line rest registers x said (write {rest = later} {line = line} {location = location} {value = value} a h d) =
      at_once (Some (Write line location value)) later registers x refl tt
  asking origin extent end_line rest registers x said (bump {rest = later} {line = line} {location = location} {value = value} a h d) =
      at_once (Some (Bump line location value)) later registers x refl tt
  asking origin extent end_line rest registers x said (update {rest = later} {line = line} {reducer = reducer} {value = value} a h d) =
      at_once (Some (Update line reducer value)) later registers x refl tt
  asking origin extent end_line rest registers x said (put {rest = later} {line = line} {reducer = reducer} {value = value} a h d) =
      at_once (Some (Put line reducer value)) later registers x refl tt
  asking origin extent end_line rest registers x said (get {rest = later} {line = line} {reducer = reducer} {register = register} a h d) =
      at_once (Some (Get line register reducer)) later registers x refl tt
  asking origin extent end_line rest registers x said (spawned {rest = later} {line = line} {function = function} {argument = argument} a h d) =
      at_once (Some (Spawn line function argument)) later registers x refl tt
  asking origin extent end_line rest registers x said (synced {rest = later} {line = line} a h d) =
      at_once (Some (Sync line)) later registers x refl tt
  asking origin extent end_line rest registers x said (called {rest = later} {line = line} {function = function} {argument = argument} {callee = callee} f i o j) =
      at_once (Some (Call line function argument)) later registers x refl (callee, f)
  asking origin extent end_line rest registers x said (in_call {rest = later} {line = line} {function = function} {argument = argument} {callee = callee} f i) =
      at_once (Some (Call line function argument)) later registers x refl (callee, f)
  asking origin extent end_line rest registers x said (returned a h) = at_once None Done registers x refl tt

  whole_not_empty : (origin : Origin) (end_line : ℕ) (rest : Tree) (registers : Registers) → Dialogue functions origin Whole end_line rest registers [] → ⊥
  whole_not_empty origin end_line rest registers (passed p d) = whole_not_empty origin end_line _ _ d

  stack_asking : (extent : Extent) (top : Standing) (callers : List Standing) (x : Exchange) (said : List Exchange) →
      StackDialogue functions extent (top ∷ callers) (x ∷ said) → Asking top.rest top.registers x
  stack_asking extent top [] x said d = asking FromSpawn extent top.end_line top.rest top.registers x said d
  stack_asking extent top (caller ∷ callers) x said (inl d) = asking FromCall Part top.end_line top.rest top.registers x said d.1
  stack_asking extent top (caller ∷ callers) x said (inr s) =
      let inside : (inner outer : List Exchange) → Dialogue functions FromCall Whole top.end_line top.rest top.registers inner →
      x ∷ said ≡ inner ++ outer → Asking top.rest top.registers x =
      elim [
        | [] ↦ λ outer w j. absurd (whole_not_empty FromCall top.end_line top.rest top.registers w)
        | y ∷ inner ↦ λ outer w j.
            let e : y ≡ x = cc in
            subst (λ z. Asking top.rest top.registers z) e (asking FromCall Whole top.end_line top.rest top.registers y inner w)
      ] in
      inside s.0 s.1 s.2 s.4

  -- a dialogue of any extent is one that may have stopped
  pub dialogue_part : (origin : Origin) (extent : Extent) (end_line : ℕ) (rest : Tree) (registers : Registers) (said : List Exchange) →
      Dialogue functions origin extent end_line rest registers said → Dialogue functions origin Part end_line rest registers said
  dialogue_part origin Part end_line rest registers said d = d
  dialogue_part origin Whole end_line rest registers said (passed p d) = passed p (dialogue_part origin Whole end_line _ _ said d)
  dialogue_part origin Whole end_line rest registers said (read a h d) = read a h (dialogue_part origin Whole end_line _ _ _ d)
  dialogue_part origin Whole end_line rest registers said (write a h d) = write a h (dialogue_part origin Whole end_line _ _ _ d)
  dialogue_part origin Whole end_line rest registers said (bump a h d) = bump a h (dialogue_part origin Whole end_line _ _ _ d)
  dialogue_part origin Whole end_line rest registers said (update a h d) = update a h (dialogue_part origin Whole end_line _ _ _ d)
  dialogue_part origin Whole end_line rest registers said (put a h d) = put a h (dialogue_part origin Whole end_line _ _ _ d)
  dialogue_part origin Whole end_line rest registers said (get a h d) = get a h (dialogue_part origin Whole end_line _ _ _ d)
  dialogue_part origin Whole end_line rest registers said (spawned a h d) = spawned a h (dialogue_part origin Whole end_line _ _ _ d)
  dialogue_part origin Whole end_line rest registers said (called f i o j) = called f i (dialogue_part origin Whole end_line _ _ _ o) j
  dialogue_part origin Whole end_line rest registers said (synced a h d) = synced a h (dialogue_part origin Whole end_line _ _ _ d)
  dialogue_part origin Whole end_line rest registers said (returned a h) = returned a h

  stack_part : (extent : Extent) (stack : List Standing) (said : List Exchange) → StackDialogue functions extent stack said →
      StackDialogue functions Part stack said
  stack_part extent [] said d = d
  stack_part extent (top ∷ []) said d = dialogue_part FromSpawn extent top.end_line top.rest top.registers said d
  stack_part extent (top ∷ caller ∷ callers) said (inl d) = inl (refl, d.1)
  stack_part extent (top ∷ caller ∷ callers) said (inr s) = inr (s.0, s.1, s.2, stack_part extent (caller ∷ callers) s.1 s.3, s.4)

  -- the stack after two answers that are alike
  record Both (x y : Exchange) (before : List Standing) : Type 0 where
    after : List Standing
    one : NextStack functions x before after
    other : NextStack functions y before after

  abbrev standing_at : Tree → ℕ → Registers → Standing
  standing_at rest end_line registers = record { rest = rest; end_line = end_line; registers = registers }

  by_answer : (end_line : ℕ) (statement : Statement) (later : Tree) (registers after : Registers) (callers : List Standing) (x : Exchange) →
      act_of statement registers ≡ Some x.act → Follows (origin_of callers) (Some statement) end_line registers x →
      answered statement x.answer registers ≡ Some after →
      NextStack functions x (standing_at (Step statement later) end_line registers ∷ callers) (standing_at later end_line after ∷ callers)
  by_answer end_line statement later registers after callers x a f e =
      subst (λ z. NextStack functions z (standing_at (Step statement later) end_line registers ∷ callers) (standing_at later end_line after ∷ callers))
      (follows_is (origin_of callers) statement end_line registers x f)
      (answer_stack functions end_line statement later registers after callers x.act x.answer a e)

  both_answered : (end_line : ℕ) (statement : Statement) (later : Tree) (registers : Registers) (callers : List Standing) (x y : Exchange) →
      Follows (origin_of callers) (Some statement) end_line registers x → Follows (origin_of callers) (Some statement) end_line registers y →
      AreAlike x.answer y.answer → (after : Registers) × (answered statement x.answer registers ≡ Some after) →
      (after : Registers) × (answered statement y.answer registers ≡ Some after) →
      Both x y (standing_at (Step statement later) end_line registers ∷ callers)
  both_answered end_line statement later registers callers x y f g alike a b =
      let e = same_after statement x.answer y.answer registers a.0 b.0 alike a.1 b.1 in
      record {
        after = standing_at later end_line a.0 ∷ callers;
        one = by_answer end_line statement later registers a.0 callers x f.act f a.1;
        other = by_answer end_line statement later registers a.0 callers y g.act g (b.1 ∙ ap (λ z. Some z) (sym e));
      }

  both_called : (end_line : ℕ) (line function : ℕ) (argument : Operand) (callee : Code) → slice_get functions function ≡ Some callee →
      (later : Tree) (registers : Registers) (callers : List Standing) (x y : Exchange) →
      Follows (origin_of callers) (Some (Call line function argument)) end_line registers x →
      Follows (origin_of callers) (Some (Call line function argument)) end_line registers y →
      Both x y (standing_at (Step (Call line function argument) later) end_line registers ∷ callers)
  both_called end_line line function argument callee k later registers callers x y f g =
      let before = standing_at (Step (Call line function argument) later) end_line registers ∷ callers in
      let after = standing_at (script callee) callee.end_line (first_registers (value_of argument registers)) ∷ standing_at later end_line registers ∷ callers in
      let n = call_stack functions end_line later registers callers line function argument callee k in
      record {
        after = after;
        one = subst (λ z. NextStack functions z before after) (called_same functions (origin_of callers) line function argument end_line registers x f) n;
        other = subst (λ z. NextStack functions z before after) (called_same functions (origin_of callers) line function argument end_line registers y g) n;
      }

  both_step : (end_line : ℕ) (statement : Statement) (later : Tree) (registers : Registers) (callers : List Standing) (x y : Exchange) →
      IsKnown (Some statement) → Follows (origin_of callers) (Some statement) end_line registers x →
      Follows (origin_of callers) (Some statement) end_line registers y → AreAlike x.answer y.answer →
      Both x y (standing_at (Step statement later) end_line registers ∷ callers)
  both_step end_line statement later registers callers x y k f g alike =
      go (belongs_answered (origin_of callers) statement x.answer registers x.act f.act f.answer)
      (belongs_answered (origin_of callers) statement y.answer registers y.act g.act g.answer)
    where
      a_call : (line function : ℕ) × (argument : Operand) × (statement ≡ Call line function argument) → Both x y (standing_at (Step statement later) end_line registers ∷ callers)
      a_call c =
          let n = subst (λ s. IsKnown (Some s)) c.3 k in
          subst (λ s. Both x y (standing_at (Step s later) end_line registers ∷ callers)) (sym c.3)
          (both_called end_line c.0 c.1 c.2 n.0 n.1 later registers callers x y
          (subst (λ s. Follows (origin_of callers) (Some s) end_line registers x) c.3 f)
          (subst (λ s. Follows (origin_of callers) (Some s) end_line registers y) c.3 g))

      go : ((line function : ℕ) × (argument : Operand) × (statement ≡ Call line function argument)) ⊎ ((after : Registers) × (answered statement x.answer registers ≡ Some after)) →
          ((line function : ℕ) × (argument : Operand) × (statement ≡ Call line function argument)) ⊎ ((after : Registers) × (answered statement y.answer registers ≡ Some after)) →
          Both x y (standing_at (Step statement later) end_line registers ∷ callers)
      go (inl c) _ = a_call c
      go (inr a) (inl c) = a_call c
      go (inr a) (inr b) = both_answered end_line statement later registers callers x y f g alike a b

  resumed : (answer : Answer) → IsReturned FromCall answer → answer ≡ Resumed
  resumed Resumed h = refl
  resumed _ h = absurd h

  both_done : (end_line : ℕ) (registers : Registers) (callers : List Standing) (x y : Exchange) →
      Follows (origin_of callers) None end_line registers x → Follows (origin_of callers) None end_line registers y →
      Both x y (standing_at Done end_line registers ∷ callers)
  both_done end_line registers [] x y f g =
      let by : (z : Exchange) → Follows FromSpawn None end_line registers z → NextStack functions z (standing_at Done end_line registers ∷ []) [] =
      λ z h. subst (λ u. NextStack functions u (standing_at Done end_line registers ∷ []) []) (returns_is FromSpawn end_line registers z h)
      (last_return functions end_line registers z.answer (returned_by functions FromSpawn end_line registers z h).1) in
      record { after = []; one = by x f; other = by y g }
  both_done end_line registers (caller ∷ callers) x y f g =
      let by : (z : Exchange) → Follows FromCall None end_line registers z →
      NextStack functions z (standing_at Done end_line registers ∷ caller ∷ callers) (caller ∷ callers) =
      λ z h.
      let r = resumed z.answer (returned_by functions FromCall end_line registers z h).1 in
      subst (λ u. NextStack functions u (standing_at Done end_line registers ∷ caller ∷ callers) (caller ∷ callers))
      (ap (λ b. exchange Act.Return end_line b) (sym r) ∙ returns_is FromCall end_line registers z h)
      (return_stack functions end_line registers caller callers) in
      record { after = caller ∷ callers; one = by x f; other = by y g }

  both : (end_line : ℕ) (statement : Option Statement) (later : Tree) (registers : Registers) (callers : List Standing) (x y : Exchange) →
      IsKnown statement → Follows (origin_of callers) statement end_line registers x → Follows (origin_of callers) statement end_line registers y →
      AreAlike x.answer y.answer → Both x y (standing_at (tree_at statement later) end_line registers ∷ callers)
  both end_line None later registers callers x y k f g alike = both_done end_line registers callers x y f g
  both end_line (Some statement) later registers callers x y k f g alike = both_step end_line statement later registers callers x y k f g alike

  -- two dialogues of one stack agree
  pub stacks_agree : (said others : List Exchange) (one other : Extent) (stack : List Standing) → StackDialogue functions one stack said →
      StackDialogue functions other stack others → Agree said others
  stacks_agree [] others one other stack d e = tt
  stacks_agree (x ∷ said) [] one other stack d e = tt
  stacks_agree (x ∷ said) (y ∷ others) one other [] d e = cc
  stacks_agree (x ∷ said) (y ∷ others) one other (top ∷ callers) d e =
      let a = stack_asking one top callers x said d in
      let here : List Standing = standing_at (tree_at a.statement a.later) top.end_line a.changed ∷ callers in
      let same = passed_stack functions top.end_line top.rest (tree_at a.statement a.later) top.registers a.changed callers a.passes in
      let d' = same.on one (x ∷ said) d in
      let e' = same.on other (y ∷ others) e in
      let f = stack_only functions top.end_line a.statement a.later a.changed callers x.act x said a.act (stack_part one here (x ∷ said) d') in
      let g = stack_only functions top.end_line a.statement a.later a.changed callers x.act y others a.act (stack_part other here (y ∷ others) e') in
      let act : Some x.act ≡ Some y.act = sym f.act ∙ g.act in (
        act_is x.act y.act act,
        sym f.line ∙ g.line,
        sym f.target ∙ g.target,
        λ alike.
            let b = both top.end_line a.statement a.later a.changed callers x y a.known f g alike in
            stacks_agree said others one other b.after (b.one.on one said d') (b.other.on other others e'),
      )

  -- two dialogues of one function at one argument agree
  pub dialogues_agree : (one other : Extent) (end_line : ℕ) (rest : Tree) (registers : Registers) (said others : List Exchange) →
      Dialogue functions FromSpawn one end_line rest registers said → Dialogue functions FromSpawn other end_line rest registers others →
      Agree said others
  dialogues_agree one other end_line rest registers said others d e =
      stacks_agree said others one other (standing_at rest end_line registers ∷ []) d e

-- what a function asks is determined by what it was answered
pub agreement_law : AgreementLaw
agreement_law functions function argument one other said others d e =
    dialogues_agree functions one other e.code.end_line (script e.code) (first_registers argument) said others
    (dialogue_with functions function argument one said d e.code e.there) e.says
