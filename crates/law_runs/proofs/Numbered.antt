-- What a function asks with is a number of 64 bits, where its argument is one and the values that it was given are.
use Rattle.std.proofs.Common.{◌≡◌, ℕ, zero, suc, ◌+◌, ◌-◌, ◌*◌, ◌%◌, ◌<◌, ◌^◌, Bool, true, false, List, [], ◌∷◌, ◌++◌, Option, Some, None, refl, sym, subst, arith}
use Rattle.std.specs.Prelude.{IsTrue, ◌&&◌, nat_lt, if◌then◌else◌, slice_get, slice_index, slice_set, replicate}
use Rattle.std.specs.List.{All}
use Rattle.std.proofs.lemmas.Bool.Decides.{nat_tests}
use Rattle.std.proofs.lemmas.List.Elements.{All-head, All-tail}
use Rattle.model_bodies.specs.declared.statement.Register.{Register}
use Rattle.model_bodies.specs.declared.statement.Operand.{Operand}
use Rattle.model_bodies.specs.declared.statement.Operand.TheVariants.{Number, Held}
use Rattle.model_bodies.specs.declared.statement.Expression.{Expression}
use Rattle.model_bodies.specs.declared.statement.Expression.TheVariants.{Plain, Sum, Difference, Product, Less}
use Rattle.model_bodies.specs.declared.statement.Statement.{Statement}
use Rattle.model_bodies.specs.declared.statement.Statement.TheVariants.{If, Else, End}
use Rattle.model_bodies.specs.Codes.{Code}
use Rattle.model_bodies.specs.Trees.{Tree, Done, Step, Choice, and_then, Around, choose, divide, read_of, before, behind, left_of}
use Rattle.model_bodies.specs.Trees as trees
use Rattle.model_bodies.specs.Sound.{is_numbered, is_numbered_expression, is_numbered_location, has_numbers, IsSound}
use Rattle.model_histories.specs.declared.answer.Answer.{Answer}
use Rattle.model_histories.specs.declared.answer.Answer.TheVariants.{Split, Same, Joined, Waits, Granted, Value, Refused, Unset}
use Rattle.model_programs.specs.declared.target.Target.{Target}
use Rattle.model_programs.specs.Values.{Registers, first_registers, with_ok, value_of, result_of}
use Rattle.model_programs.specs.Scripts.{script, closing, numbers, Passes, assigned, first_part, second_part, counted}
use Rattle.model_programs.specs.Answers.{Origin, after_read, after_get, after_write, after_update, after_spawn, after_sync}
use Rattle.model_programs.specs.Exchanges.{Exchange}
use Rattle.model_programs.specs.Dialogue.{Extent, Dialogue, stopped, passed, read, write, bump, update, put, get, spawned, called, in_call, synced, returned}
use Rattle.frame_steps.proofs.Located.{sound_of}
use Rattle.model_programs.specs.Dialogue.{DialogueOf}
use Rattle.model_runs.specs.Serial.{value_given}
use Rattle.law_runs.specs.Numbers.{IsNumbered}

-- ---- registers

abbrev AreNumbers : Registers → Type 0
AreNumbers registers = (index : ℕ) → slice_index registers index < 2 ^ 64

set_numbers : (registers : Registers) → AreNumbers registers → (index value : ℕ) → value < 2 ^ 64 → AreNumbers (slice_set registers index value)
set_numbers [] n index value lt at = n at
set_numbers (x ∷ registers) n zero value lt zero = lt
set_numbers (x ∷ registers) n zero value lt (suc at) = n (suc at)
set_numbers (x ∷ registers) n (suc index) value lt zero = n zero
set_numbers (x ∷ registers) n (suc index) value lt (suc at) = set_numbers registers (λ k. n (suc k)) index value lt at

zeros : (count : ℕ) → AreNumbers (replicate count 0)
zeros zero at = omega arith
zeros (suc count) zero = omega arith
zeros (suc count) (suc at) = zeros count at

first_numbers : (argument : ℕ) → argument < 2 ^ 64 → AreNumbers (first_registers argument)
first_numbers argument lt = set_numbers (slice_set (replicate 17 0) 0 1) (set_numbers (replicate 17 0) (zeros 17) 0 1 (omega arith)) 1 argument lt

ok_numbers : (registers : Registers) → AreNumbers registers → (ok : ℕ) → ok < 2 ^ 64 → AreNumbers (with_ok ok registers)
ok_numbers registers n ok lt = set_numbers registers n 0 ok lt

-- ---- operands

both : (a b : Bool) → IsTrue (a && b) → IsTrue a × IsTrue b
both true true e = (refl, refl)
both true false e = cc
both false b e = cc

value_number : (registers : Registers) → AreNumbers registers → (operand : Operand) → IsTrue (is_numbered operand) → value_of operand registers < 2 ^ 64
value_number registers n (Number number) w = grind (arith, nat_tests)
value_number registers n (Held register) w = n register.index

remainder : (n : ℕ) → n % 2 ^ 64 < 2 ^ 64
remainder n = omega arith

choice_number : (b : Bool) → (if b then 1 else 0) < 2 ^ 64
choice_number true = omega arith
choice_number false = omega arith

result_number : (registers : Registers) → AreNumbers registers → (value : Expression) → IsTrue (is_numbered_expression value) → result_of value registers < 2 ^ 64
result_number registers n (Plain a) w = value_number registers n a w
result_number registers n (Sum a b) w = remainder (value_of a registers + value_of b registers)
result_number registers n (Difference a b) w = remainder (value_of a registers + (2 ^ 64 - value_of b registers))
result_number registers n (Product a b) w = remainder (value_of a registers * value_of b registers)
result_number registers n (Less a b) w = choice_number (nat_lt (value_of a registers) (value_of b registers))

-- ---- what is left of a function

abbrev IsWritten : Tree → Type 0
IsWritten Done = Unit {0}
IsWritten (Step statement rest) = IsTrue (has_numbers statement) × IsWritten rest
IsWritten (Choice line register first second rest) = IsWritten first × IsWritten second × IsWritten rest

then_written : (tree later : Tree) → IsWritten tree → IsWritten later → IsWritten (and_then tree later)
then_written Done later w v = v
then_written (Step statement rest) later w v = (w.0, then_written rest later w.1 v)
then_written (Choice line register first second rest) later w v = (w.0, w.1, then_written rest later w.2 v)

abbrev AroundWritten : List Around → Type 0
AroundWritten [] = Unit {0}
AroundWritten (one ∷ more) = IsWritten one.second × IsWritten one.rest × AroundWritten more

abbrev ReadWritten : trees.Read → Type 0
ReadWritten found = IsWritten found.here × AroundWritten found.around

chosen_written : (line : ℕ) (register : Register) (first : Tree) (around : List Around) → IsWritten first → AroundWritten around → ReadWritten (choose line register first around)
chosen_written line register first [] w a = ((w, tt, tt), tt)
chosen_written line register first (one ∷ more) w a = ((w, a.0, a.1), a.2)

divided_written : (second : Tree) (around : List Around) → IsWritten second → AroundWritten around → ReadWritten (divide second around)
divided_written second [] w a = (tt, (w, tt, tt))
divided_written second (one ∷ more) w a = (tt, (w, a.1, a.2))

before_written : (statement : Statement) (found : trees.Read) → IsTrue (has_numbers statement) → ReadWritten found → ReadWritten (before statement found)
before_written (If line register otherwise) found s w = chosen_written line register found.here found.around w.0 w.1
before_written (Else line after) found s w = divided_written found.here found.around w.0 w.1
before_written (End line) found s w = (tt, (tt, w.0, w.1))
before_written statement found s w = ((s, w.0), w.1)

read_written : (body : List Statement) → All (λ statement. IsTrue (has_numbers statement)) body → ReadWritten (read_of body)
read_written [] all = (tt, tt)
read_written (statement ∷ body) all =
    before_written statement (read_of body) (All-head (λ s. IsTrue (has_numbers s)) statement body all)
    (read_written body (All-tail (λ s. IsTrue (has_numbers s)) statement body all))

behind_written : (around : List Around) → AroundWritten around → IsWritten (behind around)
behind_written [] a = tt
behind_written (one ∷ more) a = then_written one.rest (behind more) a.1 (behind_written more a.2)

script_written : (code : Code) → All (λ statement. IsTrue (has_numbers statement)) code.body → IsWritten (script code)
script_written code all =
    let w = read_written code.body all in
    then_written (left_of code.body) (closing code.end_line)
    (then_written (read_of code.body).here (behind (read_of code.body).around) w.0 (behind_written (read_of code.body).around w.1)) (refl, tt)

small : (number : ℕ) → number < 2 ^ 64 → IsTrue (nat_lt number (2 ^ 64))
small number lt = grind (arith, nat_tests)

numbers_written : (line : ℕ) (register : Register) (function number remaining : ℕ) (rest : Tree) → number + remaining < 2 ^ 64 → IsWritten rest →
    IsWritten (numbers line register function number remaining rest)
numbers_written line register function number zero rest lt w = (refl, w)
numbers_written line register function number (suc remaining) rest lt w =
    let here = small number (omega arith) in
    (here, (here, numbers_written line register function (suc number) remaining rest (omega arith) w))

passes_numbers : {rest later : Tree} {registers changed : Registers} → Passes rest registers later changed → IsWritten rest → AreNumbers registers →
    IsWritten later × AreNumbers changed
passes_numbers {registers = registers} (assigned {register = register} {value = value}) w n =
    (w.1, set_numbers registers n register.index (result_of value registers) (result_number registers n value w.0))
passes_numbers (first_part {first = first} {rest = rest} held) w n = (then_written first rest w.0 w.2, n)
passes_numbers (second_part {second = second} {rest = rest} held) w n = (then_written second rest w.1 w.2, n)
passes_numbers {registers = registers} (counted {line = line} {function = function} {register = register} {count = count} {rest = rest}) w n =
    let lt = value_number registers n count w.0 in
    (numbers_written line register function 0 (value_of count registers) rest (omega arith) w.1, n)

-- ---- answers

abbrev pub IsGiven : Option ℕ → Type 0
IsGiven None = Unit {0}
IsGiven (Some value) = value < 2 ^ 64

read_numbers : (register : Register) (answer : Answer) (registers after : Registers) → AreNumbers registers → IsGiven (value_given answer) →
    after_read register answer registers ≡ Some after → AreNumbers after
read_numbers register (Value v) registers after n given e =
    let same : slice_set (with_ok 1 registers) register.index v ≡ after = cc in
    subst AreNumbers same (set_numbers (with_ok 1 registers) (ok_numbers registers n 1 (omega arith)) register.index v given)
read_numbers register (Refused rule witness) registers after n given e =
    let same : with_ok 0 registers ≡ after = cc in subst AreNumbers same (ok_numbers registers n 0 (omega arith))
read_numbers register _ registers after n given e = absurd (cc)

get_numbers : (register : Register) (answer : Answer) (registers after : Registers) → AreNumbers registers → IsGiven (value_given answer) →
    after_get register answer registers ≡ Some after → AreNumbers after
get_numbers register (Value v) registers after n given e =
    let same : slice_set (with_ok 1 registers) register.index v ≡ after = cc in
    subst AreNumbers same (set_numbers (with_ok 1 registers) (ok_numbers registers n 1 (omega arith)) register.index v given)
get_numbers register (Refused rule witness) registers after n given e =
    let same : with_ok 0 registers ≡ after = cc in subst AreNumbers same (ok_numbers registers n 0 (omega arith))
get_numbers register Unset registers after n given e =
    let same : with_ok 0 registers ≡ after = cc in subst AreNumbers same (ok_numbers registers n 0 (omega arith))
get_numbers register _ registers after n given e = absurd (cc)

write_numbers : (answer : Answer) (registers after : Registers) → AreNumbers registers → after_write answer registers ≡ Some after → AreNumbers after
write_numbers Granted registers after n e = let same : with_ok 1 registers ≡ after = cc in subst AreNumbers same (ok_numbers registers n 1 (omega arith))
write_numbers (Refused rule witness) registers after n e =
    let same : with_ok 0 registers ≡ after = cc in subst AreNumbers same (ok_numbers registers n 0 (omega arith))
write_numbers _ registers after n e = absurd (cc)

update_numbers : (answer : Answer) (registers after : Registers) → AreNumbers registers → after_update answer registers ≡ Some after → AreNumbers after
update_numbers Granted registers after n e = let same : with_ok 1 registers ≡ after = cc in subst AreNumbers same (ok_numbers registers n 1 (omega arith))
update_numbers _ registers after n e = absurd (cc)

spawn_numbers : (answer : Answer) (registers after : Registers) → AreNumbers registers → after_spawn answer registers ≡ Some after → AreNumbers after
spawn_numbers (Split strands) registers after n e = let same : registers ≡ after = cc in subst AreNumbers same n
spawn_numbers _ registers after n e = absurd (cc)

sync_numbers : (answer : Answer) (registers after : Registers) → AreNumbers registers → after_sync answer registers ≡ Some after → AreNumbers after
sync_numbers Same registers after n e = let same : registers ≡ after = cc in subst AreNumbers same n
sync_numbers (Joined join) registers after n e = let same : registers ≡ after = cc in subst AreNumbers same n
sync_numbers Waits registers after n e = let same : registers ≡ after = cc in subst AreNumbers same n
sync_numbers _ registers after n e = absurd (cc)

-- ---- dialogues

abbrev pub IsTarget : Option Target → Type 0
IsTarget None = Unit {0}
IsTarget (Some target) = target.argument < 2 ^ 64

-- the values of acts and the arguments of spawned functions are numbers of 64 bits, as long as those that were given are
abbrev pub AreAsked : List Exchange → Type 0
AreAsked [] = Unit {0}
AreAsked (x ∷ said) = IsNumbered x.act × IsTarget x.target × (IsGiven (value_given x.answer) → AreAsked said)

asked_append : (inner outer : List Exchange) → AreAsked inner → AreAsked outer → AreAsked (inner ++ outer)
asked_append [] outer a b = b
asked_append (x ∷ inner) outer a b = (a.0, a.1, λ given. asked_append inner outer (a.2 given) b)

module _ (cells reducers : ℕ) (functions : List Code) (sound : IsSound cells reducers functions) where
  callee_written : (function : ℕ) (callee : Code) → slice_get functions function ≡ Some callee → IsWritten (script callee)
  callee_written function callee h = script_written callee (sound_of cells reducers functions function callee sound h).numbers

  asked : {origin : Origin} {extent : Extent} {end_line : ℕ} {rest : Tree} {registers : Registers} {said : List Exchange} →
      Dialogue functions origin extent end_line rest registers said → IsWritten rest → AreNumbers registers → AreAsked said
  asked stopped w n = tt
  asked (passed p d) w n = let q = passes_numbers p w n in asked d q.0 q.1
  asked {registers = registers} (read {after = after} {register = register} a h d) w n =
      (tt, tt, λ given. asked d w.1 (read_numbers register a registers after n given h))
  asked {registers = registers} (write {after = after} {location = location} {value = value} a h d) w n =
      let v = (both (is_numbered_location location) (is_numbered value) w.0).1 in
      (value_number registers n value v, tt, λ given. asked d w.1 (write_numbers a registers after n h))
  asked {registers = registers} (bump {after = after} {location = location} {value = value} a h d) w n =
      let v = (both (is_numbered_location location) (is_numbered value) w.0).1 in
      (value_number registers n value v, tt, λ given. asked d w.1 (write_numbers a registers after n h))
  asked {registers = registers} (update {after = after} {value = value} a h d) w n =
      (value_number registers n value w.0, tt, λ given. asked d w.1 (update_numbers a registers after n h))
  asked {registers = registers} (put {after = after} {value = value} a h d) w n =
      (value_number registers n value w.0, tt, λ given. asked d w.1 (write_numbers a registers after n h))
  asked {registers = registers} (get {after = after} {register = register} a h d) w n =
      (tt, tt, λ given. asked d w.1 (get_numbers register a registers after n given h))
  asked {registers = registers} (spawned {after = after} {argument = argument} a h d) w n =
      (tt, value_number registers n argument w.0, λ given. asked d w.1 (spawn_numbers a registers after n h))
  asked {registers = registers} (called {inner = inner} {outer = outer} {function = function} {argument = argument} {callee = callee} f i o j) w n =
      let inside = asked i (callee_written function callee f) (first_numbers (value_of argument registers) (value_number registers n argument w.0)) in
      (tt, tt, λ given. subst AreAsked (sym j) (asked_append inner outer inside (asked o w.1 n)))
  asked {registers = registers} (in_call {function = function} {argument = argument} {callee = callee} f i) w n =
      (tt, tt, λ given. asked i (callee_written function callee f) (first_numbers (value_of argument registers) (value_number registers n argument w.0)))
  asked {registers = registers} (synced {after = after} a h d) w n = (tt, tt, λ given. asked d w.1 (sync_numbers a registers after n h))
  asked (returned a h) w n = (tt, tt, λ given. tt)

  -- the dialogues of a function that is spawned
  pub spawned_asked : (function argument : ℕ) (extent : Extent) (said : List Exchange) → argument < 2 ^ 64 → DialogueOf functions function argument extent said →
      AreAsked said
  spawned_asked function argument extent said lt d =
      asked d.says (callee_written function d.code d.there) (first_numbers argument lt)
