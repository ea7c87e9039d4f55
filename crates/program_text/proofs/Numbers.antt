-- The numbers that are written in a statement are of 64 bits.
use Rattle.std.proofs.Common.{ℕ, ◌∷◌, [], List, Bool, true, false, arith, refl}
use Rattle.std.specs.Prelude.{Option, IsTrue, ◌&&◌}
use Rattle.std.proofs.lemmas.Bool.Decides.{nat_tests}
use Rattle.model_bodies.specs.declared.statement.Operand.{Operand}
use Rattle.model_bodies.specs.declared.statement.Operand.TheVariants.{Number, Held}
use Rattle.model_bodies.specs.declared.statement.Expression.{Expression}
use Rattle.model_bodies.specs.declared.statement.Expression.TheVariants.{Plain as PlainOperand, Sum, Difference, Product, Less}
use Rattle.model_bodies.specs.declared.statement.Location.{Location}
use Rattle.model_bodies.specs.declared.statement.Location.TheVariants.{Cell, Element}
use Rattle.model_bodies.specs.declared.statement.Statement.{Statement}
use Rattle.model_bodies.specs.declared.statement.Statement.TheVariants.{Let, Read, Write, Bump, Update, Put, Get, Spawn, Call, Sync, ParallelFor, If, Else, End}
use Rattle.program_lines.specs.Scopes.{NameScope}
use Rattle.program_lines.specs.Places.{Place, OperandWord, LocationWord, Value, OfOperand, OfLocation, OperandMeans, LocationMeans, WordMeans}
use Rattle.program_lines.specs.Table.{Placed, WordsMean}
use Rattle.program_lines.specs.Grammar.{Does, ItemMeans, statement_values, expression_values}
use Rattle.model_bodies.specs.Sound.{is_numbered, is_numbered_expression, is_numbered_location, has_numbers}

-- of a word's meaning

abbrev IsNumberedValue : Value → Type 0
IsNumberedValue (OfOperand operand) = IsTrue (is_numbered operand)
IsNumberedValue (OfLocation location) = IsTrue (is_numbered_location location)
IsNumberedValue value = Unit {0}

abbrev AreNumberedValues : List Value → Type 0
AreNumberedValues [] = Unit {0}
AreNumberedValues (value ∷ values) = IsNumberedValue value × AreNumberedValues values

operand_numbered : (registers : List (List ℕ)) (word : List ℕ) (operand : Operand) → OperandMeans registers word operand → IsTrue (is_numbered operand)
operand_numbered registers word (Number number) m = let most = m.2 in grind (arith, nat_tests)
operand_numbered registers word (Held register) m = refl

location_numbered : (scope : NameScope) (word : List ℕ) (location : Location) → LocationMeans scope word location → IsTrue (is_numbered_location location)
location_numbered scope word (Cell cell) m = refl
location_numbered scope word (Element first count index) m = operand_numbered scope.registers m.1 index m.3.2

word_numbered : (scope : NameScope) (place : Place) (word : List ℕ) (value : Value) → WordMeans scope place word value → IsNumberedValue value
word_numbered scope OperandWord word (OfOperand operand) m = operand_numbered scope.registers word operand m
word_numbered scope LocationWord word (OfLocation location) m = location_numbered scope word location m
word_numbered scope place word (OfOperand operand) m = absurd m
word_numbered scope place word (OfLocation location) m = absurd m
word_numbered scope place word value m = tt

words_numbered : (scope : NameScope) (pairs : List Placed) (values : List Value) → WordsMean scope pairs values → AreNumberedValues values
words_numbered scope [] [] m = tt
words_numbered scope [] (value ∷ values) m = absurd m
words_numbered scope (pair ∷ pairs) [] m = absurd m
words_numbered scope (pair ∷ pairs) (value ∷ values) m = (word_numbered scope pair.0 pair.1 value m.0, words_numbered scope pairs values m.1)

-- of what a line says

both : (a b : Bool) → IsTrue a → IsTrue b → IsTrue (a && b)
both true b h k = k
both false b h k = cc

expression_numbered : (value : Expression) → AreNumberedValues (expression_values value) → IsTrue (is_numbered_expression value)
expression_numbered (PlainOperand operand) n = n.0
expression_numbered (Sum left right) n = both (is_numbered left) (is_numbered right) n.0 n.1.1.0
expression_numbered (Difference left right) n = both (is_numbered left) (is_numbered right) n.0 n.1.1.0
expression_numbered (Product left right) n = both (is_numbered left) (is_numbered right) n.0 n.1.1.0
expression_numbered (Less left right) n = both (is_numbered left) (is_numbered right) n.0 n.1.1.0

values_numbered : (statement : Statement) (named : Option (List ℕ)) → AreNumberedValues (statement_values statement named) → IsTrue (has_numbers statement)
values_numbered (Let line register value) named n = expression_numbered value n.1.1
values_numbered (Read line register location) named n = n.1.0
values_numbered (Write line location value) named n = both (is_numbered_location location) (is_numbered value) n.0 n.1.0
values_numbered (Bump line location value) named n = both (is_numbered_location location) (is_numbered value) n.0 n.1.0
values_numbered (Update line reducer value) named n = n.1.0
values_numbered (Put line reducer value) named n = n.1.0
values_numbered (Get line register reducer) named n = refl
values_numbered (Spawn line function argument) named n = n.1.0
values_numbered (Call line function argument) named n = n.1.0
values_numbered (Sync line) named n = refl
values_numbered (ParallelFor line register count function) named n = n.1.0
values_numbered (If line register otherwise) named n = refl
values_numbered (Else line after) named n = refl
values_numbered (End line) named n = refl

-- a statement that a line says has numbers of 64 bits
pub does_numbered : (scope : NameScope) (at : ℕ) (ws : List (List ℕ)) (statement : Statement) (named : Option (List ℕ)) → ItemMeans at scope ws (Does statement named)
    → IsTrue (has_numbers statement)
does_numbered scope at ws statement named m = values_numbered statement named (words_numbered scope m.2.0 (statement_values statement named) m.2.2)
