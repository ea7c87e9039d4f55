-- Before which statements functions come.
use Rattle.std.proofs.Common.{◌≡◌, ℕ, List, [], ◌∷◌, Option, Some, None, refl, subst}
use Rattle.std.specs.Prelude.{◌↔◌, slice_get}
use Rattle.model_accesses.specs.declared.request.Act.{Act}
use Rattle.model_histories.specs.declared.answer.Answer.{Answer}
use Rattle.model_bodies.specs.declared.statement.Operand.{Operand}
use Rattle.model_bodies.specs.declared.statement.Statement.{Statement}
use Rattle.model_bodies.specs.declared.statement.Statement.TheVariants.{Let, Call, ParallelFor, If, Else, End}
use Rattle.model_bodies.specs.Codes.{Code}
use Rattle.model_bodies.specs.Trees.{Tree, Done, Step}
use Rattle.model_programs.specs.Values.{Registers, first_registers, value_of}
use Rattle.model_programs.specs.Scripts.{script, Passes, assigned, first_part, second_part, counted}
use Rattle.model_programs.specs.Exchanges.{Exchange}
use Rattle.frame_steps.specs.Scripts.{PassesAll, none_passed, one_more}
use Rattle.frame_steps.specs.Requests.{act_of, answered}
use Rattle.frame_steps.specs.Stacks.{Standing, Comes, StackComes, ComesBefore, stands_here, goes_past, goes_onward, goes_inward, goes_outward}

-- a statement passes in one way
pub passes_once : (rest first second : Tree) (registers one two : Registers) → Passes rest registers first one → Passes rest registers second two → (first ≡ second) × (one ≡ two)
passes_once rest first second registers one two assigned assigned = (refl, refl)
passes_once rest first second registers one two (first_part h) (first_part k) = (refl, refl)
passes_once rest first second registers one two (first_part h) (second_part k) = absurd (h k)
passes_once rest first second registers one two (second_part h) (first_part k) = absurd (k h)
passes_once rest first second registers one two (second_part h) (second_part k) = (refl, refl)
passes_once rest first second registers one two counted counted = (refl, refl)

-- it asks nothing
pub passes_silent : (statement : Statement) (rest later : Tree) (registers changed : Registers) → Passes (Step statement rest) registers later changed → act_of statement registers ≡ None
passes_silent statement rest later registers changed assigned = refl
passes_silent statement rest later registers changed counted = refl

-- a statement that asks nothing is not answered
pub answered_silent : (statement : Statement) (registers : Registers) (answer : Answer) (after : Registers) → act_of statement registers ≡ None → answered statement answer registers ≡ Some after → ⊥
answered_silent (Let line register value) registers answer after k e = cc
answered_silent (ParallelFor line register count function) registers answer after k e = cc
answered_silent (If line register otherwise) registers answer after k e = cc
answered_silent (Else line to) registers answer after k e = cc
answered_silent (End line) registers answer after k e = cc
answered_silent _ registers answer after k e = cc

module _ (functions : List Code) (statement : Statement) (registers : Registers) where
  past : (end_line : ℕ) (rest later : Tree) (before changed : Registers) (callers : List Standing) (said : List Exchange) → Passes rest before later changed →
      Comes functions statement registers end_line rest before callers said → Comes functions statement registers end_line later changed callers said
  past end_line rest later before changed callers said p (stands_here a) = let k = passes_silent statement _ later registers changed p in cc
  past end_line rest later before changed callers said p (goes_past {later = other} {changed = now} q d) =
      let e = passes_once rest other later before now changed q p in
      subst (λ l. Comes functions statement registers end_line l changed callers said) e.0 (subst (λ r. Comes functions statement registers end_line other r callers said) e.1 d)
  past end_line rest later before changed callers said p (goes_onward {asked = asked} {after = after} {x = x} e d) =
      absurd (let k = passes_silent asked _ later before changed p in answered_silent asked before x.answer after k e)
  past end_line rest later before changed callers said p (goes_inward h d) = elim p [ ]
  past end_line rest later before changed callers said p (goes_outward d) = elim p [ ]

  -- statements that ask nothing
  pub past_all : (end_line : ℕ) (rest later : Tree) (before changed : Registers) (callers : List Standing) (said : List Exchange) → PassesAll rest before later changed →
      Comes functions statement registers end_line rest before callers said ↔ Comes functions statement registers end_line later changed callers said
  past_all end_line rest later before changed callers said none_passed = ((λ d. d), (λ d. d))
  past_all end_line rest later before changed callers said (one_more {second = second} {between = between} all one) =
      let first = past_all end_line rest second before between callers said all in
      ((λ d. past end_line second later between changed callers said one (first.0 d)), (λ d. first.1 (goes_past one d)))

  -- behind an answer
  pub onward : (end_line : ℕ) (asked : Statement) (rest : Tree) (before after : Registers) (callers : List Standing) (x : Exchange) (said : List Exchange) →
      answered asked x.answer before ≡ Some after → Comes functions statement registers end_line (Step asked rest) before callers (x ∷ said) →
      Comes functions statement registers end_line rest after callers said
  onward end_line asked rest before after callers x said e (goes_past p d) = absurd (let k = passes_silent asked rest _ before _ p in answered_silent asked before x.answer after k e)
  onward end_line asked rest before after callers x said e (goes_onward {after = other} h d) =
      let k : other ≡ after = cc in subst (λ r. Comes functions statement registers end_line rest r callers said) k d
  onward end_line asked rest before after callers x said e (goes_inward h d) = cc

  -- out of it
  pub outward : (end_line : ℕ) (before : Registers) (caller : Standing) (callers : List Standing) (x : Exchange) (said : List Exchange) →
      Comes functions statement registers end_line Done before (caller ∷ callers) (x ∷ said) → StackComes functions statement registers (caller ∷ callers) said
  outward end_line before caller callers x said (goes_past p d) = elim p [ ]
  outward end_line before caller callers x said (goes_outward d) = d

  pub ends_there : (end_line : ℕ) (before : Registers) (x : Exchange) (said : List Exchange) → Comes functions statement registers end_line Done before [] (x ∷ said) → ⊥
  ends_there end_line before x said (goes_past p d) = elim p [ ]

  -- before a statement that asks
  pub comes_here : (end_line : ℕ) (asked : Statement) (rest : Tree) (before : Registers) (callers : List Standing) (act : Act) → act_of asked before ≡ Some act →
      Comes functions statement registers end_line (Step asked rest) before callers [] → (statement ≡ asked) × (registers ≡ before)
  comes_here end_line asked rest before callers act a (stands_here h) = (refl, refl)
  comes_here end_line asked rest before callers act a (goes_past p d) = absurd (let k = passes_silent asked rest _ before _ p in none_asked k)
    where
      none_asked : act_of asked before ≡ None → ⊥
      none_asked k = cc

  -- before the return
  pub none_left_here : (end_line : ℕ) (before : Registers) (callers : List Standing) → Comes functions statement registers end_line Done before callers [] → ⊥
  none_left_here end_line before callers (goes_past p d) = elim p [ ]

-- into a called function
pub inward : (functions : List Code) (statement : Statement) (registers : Registers) (end_line : ℕ) (rest : Tree) (before : Registers) (callers : List Standing) (line function : ℕ) (argument : Operand)
    (callee : Code) (x : Exchange) (said : List Exchange) →
    slice_get functions function ≡ Some callee → Comes functions statement registers end_line (Step (Call line function argument) rest) before callers (x ∷ said) →
    Comes functions statement registers callee.end_line (script callee) (first_registers (value_of argument before))
    (record { rest = rest; end_line = end_line; registers = before } ∷ callers) said
inward functions statement registers end_line rest before callers line function argument callee x said h (goes_past p d) = elim p [ ]
inward functions statement registers end_line rest before callers line function argument callee x said h (goes_onward e d) = cc
inward functions statement registers end_line rest before callers line function argument callee x said h (goes_inward {callee = found} f d) =
    let e : found ≡ callee = cc in
    subst (λ (g : Code). Comes functions statement registers g.end_line (script g) (first_registers (value_of argument before))
    (record { rest = rest; end_line = end_line; registers = before } ∷ callers) said) e d

-- so comes the function that is there
pub comes_with : (functions : List Code) (function argument : ℕ) (said : List Exchange) (statement : Statement) (registers : Registers) →
    ComesBefore functions function argument said statement registers → (code : Code) → slice_get functions function ≡ Some code →
    Comes functions statement registers code.end_line (script code) (first_registers argument) [] said
comes_with functions function argument said statement registers c code is =
    subst (λ (g : Code). Comes functions statement registers g.end_line (script g) (first_registers argument) [] said) (same _ c.there is) c.comes
  where
    same : (found : Option Code) → found ≡ Some c.code → found ≡ Some code → c.code ≡ code
    same found e f = cc
