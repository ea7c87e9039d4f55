-- Activations in their program.
use Rattle.std.proofs.lemmas.Bool.{ltb-true, lt-ltb, leb-true, le-leb}
use Rattle.std.proofs.lemmas.Option.{slice_get_within, get_or_from_slice_get}
use Rattle.model_accesses.specs.Limits.{most_cells}
use Rattle.model_accesses.specs.declared.request.Act.{Act}
use Rattle.model_bodies.specs.declared.statement.Operand.{Operand}
use Rattle.model_bodies.specs.declared.statement.Expression.{Expression}
use Rattle.model_bodies.specs.declared.statement.Location.{Location}
use Rattle.model_bodies.specs.declared.statement.Location.TheVariants.{Cell, Element}
use Rattle.model_bodies.specs.declared.statement.Statement.TheVariants.{Let, Read, Write, Bump, Update, Put, Get, Spawn, Call, Sync}
use Rattle.model_bodies.specs.Sound.{is_located, is_within, IsSoundBody, IsSound}
use Rattle.frame_steps.specs.declared.activation.Turn.{Turn}
use Rattle.frame_steps.specs.declared.activation.Turn.TheVariants.{Plainly, Numbering, Spawning, Returning}
use Rattle.model_programs.specs.Values.{Registers, cell_of}
use Rattle.frame_steps.specs.Scripts.{PassesAll}
use Rattle.model_bodies.specs.Lines.{line_of}
use Rattle.frame_steps.specs.Requests.{act_of, next_act, next_line, Asks, is_placed, IsNamed}
use Rattle.frame_steps.proofs.Places.{lt_or_le}
use Rattle.frame_steps.proofs.Turns.{body_statement, end_statement, none_left, asking_left}
use Rattle.std.proofs.Common.{◌≡◌, ℕ, ◌+◌, ◌<◌, ◌≤◌, inl, inr, List, Some, None, Bool, true, false, refl, sym, ap, ◌∙◌, subst, arith, length}
use Rattle.std.specs.Prelude.{slice_get, IsTrue, nat_lt, nat_le, ◌&&◌, if◌then◌else◌}
use Rattle.std.specs.List.{All}
use Rattle.model_bodies.specs.declared.statement.Statement.{Statement}
use Rattle.model_bodies.specs.Codes.{Code}
use Rattle.model_bodies.specs.Trees.{Step}
use Rattle.frame_steps.specs.declared.activation.Activation.{Activation}
use Rattle.frame_steps.specs.Activations.{left_in, left_by, left, statement_on, statement_in, statement_by, statement_of, end_line_by, end_line_of, asked_act, IsTurn, StandsIn, IsInPlace}

module _ (functions : List Code) (code : Code) where
  -- in the function that was found
  pub stands_in : (activation : Activation) → slice_get functions activation.function ≡ Some code → IsInPlace functions activation → StandsIn (length functions) code.body activation
  stands_in activation h p = let k = p.known in let e : p.code ≡ code = cc in subst (λ f. StandsIn (length functions) f.body activation) e p.stands

  -- the function is the same
  pub same_function : (before after : Activation) → slice_get functions before.function ≡ Some code → after.function ≡ before.function → slice_get functions after.function ≡ Some code
  same_function before after h e = ap (λ k. slice_get functions k) e ∙ h

  pub in_place : (activation : Activation) → slice_get functions activation.function ≡ Some code → StandsIn (length functions) code.body activation → IsInPlace functions activation
  in_place activation h s = record { code = code; known = h; stands = s }

  -- what is left of it, its statement and its last line
  pub left_is : (activation : Activation) → slice_get functions activation.function ≡ Some code → left functions activation ≡ left_in code activation
  left_is activation h = ap (λ o. left_by o activation) h

  pub statement_is : (activation : Activation) → slice_get functions activation.function ≡ Some code → statement_of functions activation ≡ statement_in code activation
  statement_is activation h = ap (λ o. statement_by o activation) h

  pub end_line_is : (activation : Activation) → slice_get functions activation.function ≡ Some code → end_line_of functions activation.function ≡ code.end_line
  end_line_is activation h = ap end_line_by h

  -- behind a statement
  pub behind_is : (before after : Activation) (statement : Statement) → slice_get functions before.function ≡ Some code → after.function ≡ before.function → left_in code before ≡ Step statement (left_in code after) → left functions before ≡ Step statement (left functions after)
  behind_is before after statement h e l = left_is before h ∙ l ∙ ap (λ t. Step statement t) (sym (left_is after (same_function before after h e)))

  -- what is passed
  pub passed_is : (before after : Activation) → slice_get functions before.function ≡ Some code → after.function ≡ before.function → PassesAll (left_in code before) before.registers (left_in code after) after.registers → PassesAll (left functions before) before.registers (left functions after) after.registers
  passed_is before after h e p =
      subst (λ t. PassesAll t before.registers (left functions after) after.registers) (sym (left_is before h))
      (subst (λ t. PassesAll (left_in code before) before.registers t after.registers) (sym (left_is after (same_function before after h e))) p)

  -- before the return
  pub return_asks : (activation : Activation) → slice_get functions activation.function ≡ Some code → statement_in code activation ≡ None → Asks (left functions activation) (end_line_of functions activation.function) activation.registers (record { act = Act.Return; line = code.end_line })
  return_asks activation h e =
      let l = left_is activation h ∙ none_left code activation.place activation.turn e in
      record {
        act = ap (λ t. next_act t activation.registers) l;
        line = ap (λ t. next_line t (end_line_of functions activation.function)) l ∙ end_line_is activation h;
      }

  -- before a statement
  pub statement_asks : (activation : Activation) (statement : Statement) (act : Act) → slice_get functions activation.function ≡ Some code → statement_in code activation ≡ Some statement → act_of statement activation.registers ≡ Some act → Asks (left functions activation) (end_line_of functions activation.function) activation.registers (record { act = act; line = line_of statement })
  statement_asks activation statement act h e a =
      let r = asking_left code activation.place activation.turn statement activation.registers act e a in
      let l = left_is activation h ∙ r.1 in
      record { act = ap (λ t. next_act t activation.registers) l ∙ a; line = ap (λ t. next_line t (end_line_of functions activation.function)) l }

  pub statement_asked : (activation : Activation) (statement : Statement) (act : Act) → slice_get functions activation.function ≡ Some code → statement_in code activation ≡ Some statement → act_of statement activation.registers ≡ Some act → asked_act (statement_of functions activation) activation.registers ≡ Some act
  statement_asked activation statement act h e a = ap (λ o. asked_act o activation.registers) (statement_is activation h ∙ e) ∙ a

-- an item of a list of which all are so
all_at : {A : Type 0} (P : A → Type 0) (xs : List A) (k : ℕ) (x : A) → All P xs → slice_get xs k ≡ Some x → P x
all_at P xs k x a h = subst P (get_or_from_slice_get xs k x x h) (a k x (slice_get_within xs k x h))

act_is : (one other : Act) → Some one ≡ Some other → one ≡ other
act_is one other e = cc

module _ (cells reducers : ℕ) where
  -- a body of a sound program
  pub sound_of : (functions : List Code) (k : ℕ) (code : Code) → IsSound cells reducers functions → slice_get functions k ≡ Some code → IsSoundBody cells reducers (length functions) code.body
  sound_of functions k code s h = all_at (λ c. IsSoundBody cells reducers (length functions) c.body) functions k code s h

  -- the statement of an activation names what is there
  pub statement_within : (functions : ℕ) (code : Code) (place : ℕ) (turn : Turn) (statement : Statement) → IsSoundBody cells reducers functions code.body → IsTurn functions turn → statement_on code place turn ≡ Some statement → IsTrue (is_within cells reducers functions statement)
  statement_within functions code place Plainly statement s t e =
      elim (lt_or_le place (length code.body)) [
        | inl h ↦ all_at (λ x. IsTrue (is_within cells reducers functions x)) code.body place statement s.within (body_statement code place h statement e)
        | inr h ↦ ap (λ x. is_within cells reducers functions x) (end_statement code place Plainly statement refl h e)
      ]
  statement_within functions code place (Numbering line register function number count) statement s t e = by (nat_lt number count) e
    where
      by : (b : Bool) → Some (if b then Let line register (Expression.Plain (Operand.Number number)) else Sync line) ≡ Some statement → IsTrue (is_within cells reducers functions statement)
      by true e = let k : Let line register (Expression.Plain (Operand.Number number)) ≡ statement = cc in sym (ap (λ x. is_within cells reducers functions x) k)
      by false e = let k : Sync line ≡ statement = cc in sym (ap (λ x. is_within cells reducers functions x) k)
  statement_within functions code place (Spawning line register function number count) statement s t e =
      let k : Spawn line function (Operand.Number number) ≡ statement = cc in
      sym (ap (λ x. is_within cells reducers functions x) k) ∙ lt-ltb function functions t.0
  statement_within functions code place Returning statement s t e = cc

  both : (a b : Bool) → IsTrue (a && b) → IsTrue a × IsTrue b
  both true true e = (refl, refl)
  both true false e = cc
  both false b e = cc

  located : (location : Location) (registers : Registers) → IsTrue (is_located cells location) → cell_of location registers < cells
  located (Cell cell) registers e = ltb-true cell cells e
  located (Element first count index) registers e =
      let b = both (nat_lt 0 count) (nat_le (first + count) cells) e in
      let p = ltb-true 0 count b.0 in
      let q = leb-true (first + count) cells b.1 in
      omega arith

  located_most : cells ≤ most_cells → (location : Location) → IsTrue (is_located cells location) → IsTrue (is_located most_cells location)
  located_most few (Cell cell) e = let p = ltb-true cell cells e in lt-ltb cell most_cells (omega arith)
  located_most few (Element first count index) e =
      let b = both (nat_lt 0 count) (nat_le (first + count) cells) e in
      let q = leb-true (first + count) cells b.1 in
      let r : first + count ≤ most_cells = omega arith in
      let s = le-leb (first + count) most_cells r in
      let t = b.0 in
      ap (λ x. x && nat_le (first + count) most_cells) t ∙ s

  pub placed : (functions : ℕ) (statement : Statement) → cells ≤ most_cells → IsTrue (is_within cells reducers functions statement) → IsTrue (is_placed statement)
  placed functions (Read line register location) few e = located_most few location e
  placed functions (Write line location value) few e = located_most few location e
  placed functions (Bump line location value) few e = located_most few location e
  placed functions _ few e = refl

  pub named : (functions : ℕ) (statement : Statement) (registers : Registers) (act : Act) → IsTrue (is_within cells reducers functions statement) → act_of statement registers ≡ Some act → IsNamed cells reducers act
  named functions (Read line register location) registers act e a = subst (λ x. IsNamed cells reducers x) (act_is _ act a) (located location registers e)
  named functions (Write line location value) registers act e a = subst (λ x. IsNamed cells reducers x) (act_is _ act a) (located location registers e)
  named functions (Bump line location value) registers act e a = subst (λ x. IsNamed cells reducers x) (act_is _ act a) (located location registers e)
  named functions (Update line reducer value) registers act e a = subst (λ x. IsNamed cells reducers x) (act_is _ act a) (ltb-true reducer reducers e)
  named functions (Put line reducer value) registers act e a = subst (λ x. IsNamed cells reducers x) (act_is _ act a) (ltb-true reducer reducers e)
  named functions (Get line register reducer) registers act e a = subst (λ x. IsNamed cells reducers x) (act_is _ act a) (ltb-true reducer reducers e)
  named functions (Spawn line function argument) registers act e a = subst (λ x. IsNamed cells reducers x) (act_is _ act a) tt
  named functions (Call line function argument) registers act e a = subst (λ x. IsNamed cells reducers x) (act_is _ act a) tt
  named functions (Sync line) registers act e a = subst (λ x. IsNamed cells reducers x) (act_is _ act a) tt
  named functions _ registers act e a = cc
