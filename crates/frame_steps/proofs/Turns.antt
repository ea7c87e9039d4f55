-- What is left of a function at each turn.
use Rattle.std.proofs.Common.{◌≡◌, ◌≢◌, ℕ, suc, ◌+◌, ◌-◌, ◌*◌, ◌<◌, ◌≤◌, ◌⊎◌, inl, inr, ◌∷◌, Some, None, Bool, true, false, refl, sym, ap, ◌∙◌, subst, arith, length, drop}
use Rattle.std.specs.Prelude.{slice_get, slice_index, slice_set, IsTrue, nat_lt, if◌then◌else◌}
use Rattle.std.proofs.lemmas.Option.{slice_get_past}
use Rattle.std.proofs.lemmas.List.{drop_all}
use Rattle.std.proofs.lemmas.Bool.{ltb-true, lt-ltb}
use Rattle.model_bodies.specs.declared.statement.Register.{Register}
use Rattle.model_bodies.specs.declared.statement.Operand.{Operand}
use Rattle.model_bodies.specs.declared.statement.Expression.{Expression}
use Rattle.model_bodies.specs.declared.statement.Statement.{Statement}
use Rattle.model_bodies.specs.declared.statement.Statement.TheVariants.{Let, Sync, Spawn, ParallelFor, If, Else, End}
use Rattle.model_bodies.specs.Bodies.{EndsAt}
use Rattle.model_bodies.specs.Codes.{Code}
use Rattle.model_bodies.specs.Trees.{Tree, Done, Step, Choice, and_then, left_of}
use Rattle.frame_steps.specs.declared.activation.Turn.{Turn}
use Rattle.frame_steps.specs.declared.activation.Turn.TheVariants.{Plainly, Numbering, Spawning, Returning}
use Rattle.model_programs.specs.Values.{Registers, value_of, result_of}
use Rattle.model_programs.specs.Scripts.{closing, numbers, assigned, first_part, second_part, counted}
use Rattle.frame_steps.specs.Scripts.{PassesAll, none_passed, one_more}
use Rattle.frame_steps.specs.Activations.{left_at, left_on, statement_or, statement_on, is_plain, steps_ahead}
use Rattle.model_accesses.specs.declared.request.Act.{Act}
use Rattle.frame_steps.specs.Requests.{act_of}
use Rattle.frame_steps.proofs.Trees.{plain_left, and_then_assoc, if_left}
use Rattle.frame_steps.proofs.Places.{drop_at, found, lt_or_le}

-- a statement that stands in the body alone, and no `pfor` has as one of its own
abbrev pub is_flat : Statement → Bool
is_flat (Let line register value) = false
is_flat (Sync line) = false
is_flat (Spawn line function argument) = false
is_flat _ = true

-- a statement of a body, and where it stands
pub record Flat (code : Code) (place : ℕ) (turn : Turn) (statement : Statement) : Type 0 where
  pub plainly : turn ≡ Plainly
  pub within : place < length code.body
  pub at : slice_get code.body place ≡ Some statement
  pub left : left_on code place turn ≡ and_then (left_of (statement ∷ drop (place + 1) code.body)) (closing code.end_line)

not_lt : (m n : ℕ) → n ≤ m → nat_lt m n ≡ false
not_lt m n h = by (nat_lt m n) (λ t. ltb-true m n t)
  where
    by : (b : Bool) → (b ≡ true → m < n) → b ≡ false
    by true f = absurd (let k = f refl in omega arith)
    by false f = refl

module _ (code : Code) (place : ℕ) where
  -- the statement at a place of the body
  pub body_statement : place < length code.body → (statement : Statement) → statement_on code place Plainly ≡ Some statement → slice_get code.body place ≡ Some statement
  body_statement h statement e =
      let f = found code.body place h in
      let k = ap (λ o. statement_or o (Sync code.end_line)) f.1 in
      let s : f.0 ≡ statement = cc in
      f.1 ∙ ap Some s

  -- behind a statement of the body
  pub plain_step : (turn : Turn) (statement : Statement) → turn ≡ Plainly → place < length code.body → statement_on code place turn ≡ Some statement → IsTrue (is_plain statement) → left_on code place turn ≡ Step statement (left_on code (place + 1) turn)
  plain_step turn statement is h e p =
      let at = body_statement h statement (subst (λ t. statement_on code place t ≡ Some statement) is e) in
      let l : left_at code place ≡ Step statement (left_at code (place + 1)) = ap (λ s. and_then (left_of s) (closing code.end_line)) (drop_at code.body place statement at) ∙ ap (λ t. and_then t (closing code.end_line)) (plain_left statement (drop (place + 1) code.body) p) in
      subst (λ t. left_on code place t ≡ Step statement (left_on code (place + 1) t)) (sym is) l

  -- the sync at the function's end
  pub end_statement : (turn : Turn) (statement : Statement) → turn ≡ Plainly → length code.body ≤ place → statement_on code place turn ≡ Some statement → statement ≡ Sync code.end_line
  end_statement turn statement is h e =
      let k = subst (λ t. statement_on code place t ≡ Some statement) is e in
      let n = ap (λ o. statement_or o (Sync code.end_line)) (slice_get_past code.body place h) in
      cc

  pub end_step : (turn : Turn) (statement : Statement) → turn ≡ Plainly → length code.body ≤ place → statement_on code place turn ≡ Some statement → left_on code place turn ≡ Step statement Done
  end_step turn statement is h e =
      let s = end_statement turn statement is h e in
      let l : left_at code place ≡ closing code.end_line = ap (λ s. and_then (left_of s) (closing code.end_line)) (drop_all place code.body h) in
      ap (λ t. left_on code place t) is ∙ l ∙ ap (λ s. Step s Done) (sym s)

  -- no `pfor` has it as one of its own
  is_plainly : (turn : Turn) (statement : Statement) → IsTrue (is_flat statement) → statement_on code place turn ≡ Some statement → turn ≡ Plainly
  is_plainly Plainly statement p e = refl
  is_plainly (Numbering line register function number count) statement p e = absurd (by (nat_lt number count) e)
    where
      by : (b : Bool) → Some (if b then Let line register (Expression.Plain (Operand.Number number)) else Sync line) ≡ Some statement → ⊥
      by true e = let k : Let line register (Expression.Plain (Operand.Number number)) ≡ statement = cc in let q = ap is_flat k in cc
      by false e = let k : Sync line ≡ statement = cc in let q = ap is_flat k in cc
  is_plainly (Spawning line register function number count) statement p e = let k : Spawn line function (Operand.Number number) ≡ statement = cc in let q = ap is_flat k in cc
  is_plainly Returning statement p e = cc

  pub flat : (turn : Turn) (statement : Statement) → IsTrue (is_flat statement) → place ≤ length code.body → statement_on code place turn ≡ Some statement → Flat code place turn statement
  flat turn statement p w e =
      let is = is_plainly turn statement p e in
      let e' = subst (λ t. statement_on code place t ≡ Some statement) is e in
      let h : place < length code.body = by (lt_or_le place (length code.body)) is in
      let at = body_statement h statement e' in
      record {
        plainly = is;
        within = h;
        at = at;
        left = ap (λ t. left_on code place t) is ∙ ap (λ s. and_then (left_of s) (closing code.end_line)) (drop_at code.body place statement at);
      }
    where
      by : (place < length code.body) ⊎ (length code.body ≤ place) → turn ≡ Plainly → place < length code.body
      by (inl h) is = h
      by (inr h) is = absurd (let s = end_statement turn statement is h e in let q = ap is_flat s in cc)

  -- what is left elsewhere in the body
  there : (turn : Turn) (to : ℕ) → turn ≡ Plainly → left_at code to ≡ left_on code to turn
  there turn to is = ap (λ t. left_on code to t) (sym is)

  -- an `if` whose register is not 0
  pub if_first : (turn : Turn) (line : ℕ) (register : Register) (otherwise : ℕ) (registers : Registers) → Flat code place turn (If line register otherwise) → slice_index registers register.index ≢ 0 → PassesAll (left_on code place turn) registers (left_on code (place + 1) turn) registers
  if_first turn line register otherwise registers f test =
      let c = if_left line register otherwise (drop (place + 1) code.body) in
      let before = f.left ∙ ap (λ t. and_then t (closing code.end_line)) c.whole in
      let after : and_then c.first (and_then c.later (closing code.end_line)) ≡ left_on code (place + 1) turn = sym (and_then_assoc c.first c.later (closing code.end_line)) ∙ ap (λ t. and_then t (closing code.end_line)) (sym c.here) ∙ there turn (place + 1) f.plainly in
      subst (λ t. PassesAll t registers (left_on code (place + 1) turn) registers) (sym before)
      (subst (λ t. PassesAll (Choice line register c.first c.second (and_then c.later (closing code.end_line))) registers t registers) after (one_more none_passed (first_part test)))

  -- an `if` whose register is 0
  pub if_second : (turn : Turn) (line : ℕ) (register : Register) (otherwise : ℕ) (registers : Registers) → Flat code place turn (If line register otherwise) → slice_index registers register.index ≡ 0 → EndsAt code.body place otherwise → PassesAll (left_on code place turn) registers (left_on code otherwise turn) registers
  if_second turn line register otherwise registers f test ends =
      let c = if_left line register otherwise (drop (place + 1) code.body) in
      let before = f.left ∙ ap (λ t. and_then t (closing code.end_line)) c.whole in
      let after : and_then c.second (and_then c.later (closing code.end_line)) ≡ left_on code otherwise turn = sym (and_then_assoc c.second c.later (closing code.end_line)) ∙ ap (λ t. and_then t (closing code.end_line)) (sym c.there ∙ ap left_of (sym ends.2)) ∙ there turn otherwise f.plainly in
      subst (λ t. PassesAll t registers (left_on code otherwise turn) registers) (sym before)
      (subst (λ t. PassesAll (Choice line register c.first c.second (and_then c.later (closing code.end_line))) registers t registers) after (one_more none_passed (second_part test)))

  -- an `else` or an `end`, behind which the same is left
  pub part_over : (turn : Turn) (statement : Statement) (to : ℕ) (registers : Registers) → Flat code place turn statement → left_of (drop to code.body) ≡ left_of (statement ∷ drop (place + 1) code.body) → PassesAll (left_on code place turn) registers (left_on code to turn) registers
  part_over turn statement to registers f e =
      subst (λ t. PassesAll (left_on code place turn) registers t registers) (f.left ∙ ap (λ t. and_then t (closing code.end_line)) (sym e) ∙ there turn to f.plainly) none_passed

  -- a `pfor`
  pub loop_begins : (turn : Turn) (line : ℕ) (register : Register) (count : Operand) (function : ℕ) (registers : Registers) → Flat code place turn (ParallelFor line register count function) → PassesAll (left_on code place turn) registers (left_on code (place + 1) (Numbering line register function 0 (value_of count registers))) registers
  loop_begins turn line register count function registers f =
      let n : value_of count registers ≡ value_of count registers - 0 = omega arith in
      subst (λ t. PassesAll t registers (left_on code (place + 1) (Numbering line register function 0 (value_of count registers))) registers) (sym f.left)
      (subst (λ k. PassesAll (Step (ParallelFor line register count function) (left_at code (place + 1))) registers (numbers line register function 0 k (left_at code (place + 1))) registers) n (one_more none_passed counted))

  -- a `let`
  pub let_passes : (turn : Turn) (line : ℕ) (register : Register) (value : Expression) (registers : Registers) (later : Tree) → left_on code place turn ≡ Step (Let line register value) later → PassesAll (left_on code place turn) registers later (slice_set registers register.index (result_of value registers))
  let_passes turn line register value registers later e =
      subst (λ t. PassesAll t registers later (slice_set registers register.index (result_of value registers))) (sym e) (one_more none_passed assigned)

-- fewer steps are ahead
pub fewer : (length place to : ℕ) (turn : Turn) → turn ≡ Plainly → place < to → place < length → steps_ahead length to turn < steps_ahead length place turn
fewer length place to turn is later within =
    let d : 2 * (length - to) < 2 * (length - place) = omega arith in
    subst (λ t. steps_ahead length to t < steps_ahead length place t) (sym is) d

pub fewer_numbers : (length place line : ℕ) (register : Register) (function number count : ℕ) (turn : Turn) → turn ≡ Plainly → place < length → steps_ahead length (place + 1) (Numbering line register function number count) < steps_ahead length place turn
fewer_numbers length place line register function number count turn is within =
    let d : 2 * (length - (place + 1)) + 1 < 2 * (length - place) = omega arith in
    subst (λ t. 2 * (length - (place + 1)) + 1 < steps_ahead length place t) (sym is) d

pub passes_more : (first second third : Tree) (before between after : Registers) → PassesAll first before second between → PassesAll second between third after → PassesAll first before third after
passes_more first second third before between after a none_passed = a
passes_more first second third before between after a (one_more b p) = one_more (passes_more first _ _ before _ _ a b) p

-- a statement that asks stands in a tree as itself
pub asks_plain : (statement : Statement) (registers : Registers) (act : Act) → act_of statement registers ≡ Some act → IsTrue (is_plain statement)
asks_plain (If line register otherwise) registers act e = cc
asks_plain (Else line after) registers act e = cc
asks_plain (End line) registers act e = cc
asks_plain _ registers act e = refl

-- where nothing but the return is left
pub none_left : (code : Code) (place : ℕ) (turn : Turn) → statement_on code place turn ≡ None → left_on code place turn ≡ Done
none_left code place Plainly e = cc
none_left code place (Numbering line register function number count) e = cc
none_left code place (Spawning line register function number count) e = cc
none_left code place Returning e = refl

-- what is left before a statement that asks
pub asking_left : (code : Code) (place : ℕ) (turn : Turn) (statement : Statement) (registers : Registers) (act : Act) → statement_on code place turn ≡ Some statement → act_of statement registers ≡ Some act → (rest : Tree) × (left_on code place turn ≡ Step statement rest)
asking_left code place Plainly statement registers act e a =
    elim (lt_or_le place (length code.body)) [
      | inl h ↦ (left_at code (place + 1), plain_step code place Plainly statement refl h e (asks_plain statement registers act a))
      | inr h ↦ (Done, end_step code place Plainly statement refl h e)
    ]
asking_left code place (Numbering line register function number count) statement registers act e a =
    elim (lt_or_le number count) [
      | inl h ↦ absurd (let b = lt-ltb number count h in let k = subst (λ b. Some (if b then Let line register (Expression.Plain (Operand.Number number)) else Sync line) ≡ Some statement) b e in let q : Let line register (Expression.Plain (Operand.Number number)) ≡ statement = cc in let r = ap (λ s. act_of s registers) q in cc)
      | inr h ↦ (let b : nat_lt number count ≡ false = not_lt number count h in let k = subst (λ b. Some (if b then Let line register (Expression.Plain (Operand.Number number)) else Sync line) ≡ Some statement) b e in let q : Sync line ≡ statement = cc in let z : count - number ≡ 0 = omega arith in (left_at code place, ap (λ n. numbers line register function number n (left_at code place)) z ∙ ap (λ s. Step s (left_at code place)) q))
    ]
asking_left code place (Spawning line register function number count) statement registers act e a =
    let q : Spawn line function (Operand.Number number) ≡ statement = cc in
    (numbers line register function (suc number) (count - suc number) (left_at code place), ap (λ s. Step s (numbers line register function (suc number) (count - suc number) (left_at code place))) q)
asking_left code place Returning statement registers act e a = cc
