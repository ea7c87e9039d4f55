-- Words mean one thing at most, and so do lines.
use Rattle.std.proofs.Common.{◌≡◌, ℕ, ◌<◌, ◌∷◌, [], List, refl, sym, ◌∙◌, ap, subst, lit<, inl, inr}
use Rattle.std.specs.Prelude.{Option, Some, None}
use denote.Struct.Props.{props}
use Rattle.model_accesses.specs.declared.kind.Kind.TheVariants as kind
use Rattle.text_words.specs.declared.value.Mem.{Mem}
use Rattle.model_reducers.specs.declared.monoid.Monoid.{Monoid}
use Rattle.model_reducers.specs.declared.monoid.Monoid.TheVariants.{Sum as SumMonoid}
use Rattle.text_words.specs.Limits.{max_value}
use Rattle.trace_text.specs.Lines as trace
use Rattle.trace_text.proofs.CellWords.{same_some, name_no_bracket, no_element, digits_begin}
use Rattle.trace_text.proofs.Once.{number_once, same_element, word_once as common_once}
use Rattle.program_lines.specs.declared.keyword.Keyword.{Keyword}
use Rattle.program_lines.specs.declared.keyword.Keyword.TheVariants as begin
use Rattle.program_lines.specs.declared.operator.Operator.TheVariants.{Plus, Minus, Times, Below}
use Rattle.model_bodies.specs.declared.statement.Register.{Register}
use Rattle.model_bodies.specs.declared.statement.Operand.{Operand}
use Rattle.model_bodies.specs.declared.statement.Operand.TheVariants.{Number, Held}
use Rattle.model_bodies.specs.declared.statement.Location.{Location}
use Rattle.model_bodies.specs.declared.statement.Location.TheVariants.{Cell, Element}
use Rattle.model_bodies.specs.declared.statement.Expression.{Expression}
use Rattle.model_bodies.specs.declared.statement.Expression.TheVariants.{Plain as PlainOperand, Sum, Difference, Product, Less}
use Rattle.model_bodies.specs.declared.statement.Statement.{Statement}
use Rattle.model_bodies.specs.declared.statement.Statement.TheVariants.{Let, Read, Write, Bump, Update, Put, Get, Spawn, Call, Sync, ParallelFor, If, Else, End}
use Rattle.program_lines.specs.Scopes.{NameScope, register_named}
use Rattle.program_lines.specs.Places.{Place, Common, FreshName, OperandWord, LocationWord, AssignedRegister, KnownRegister, FunctionName, ParameterName, Sign, Exactly, Value, Plain, OfOperand, OfLocation, OfRegister, OfAssigned, OfSign, Nothing, WordMeans, OperandMeans, ElementMeans, LocationMeans, AssignedMeans}
use Rattle.program_lines.specs.Grammar.{Item, Blank, Declared, Reduces, Begins, Does, Decides, Otherwise, Ends, ItemMeans, number_if_there, keyword_of_statement, statement_values}
use Rattle.program_lines.proofs.Keywords.{sign_once}
use Rattle.trace_text.proofs.LineFaults.{IsSaid, said_once, said_clean}
use Rattle.trace_text.proofs.Formed.{first_or, behind_first}
use Rattle.text_words.specs.declared.fault.Cause.{Cause}
use Rattle.program_lines.specs.Faults.{WordsFault}
use Rattle.program_lines.proofs.Outcomes.{clear}
use Rattle.program_lines.proofs.LocationWords.{name_no_digit, unnamed}

-- ---- registers

abbrev register_at : (index : ℕ) → index < 17 → Register
register_at index h = record { index = index; in_range = h }

registers_alike : (i j : ℕ) (a : i < 17) (b : j < 17) → i ≡ j → register_at i a ≡ register_at j b
registers_alike i j a b e =
    subst (λ (k : ℕ). (h : k < 17) → register_at i a ≡ register_at k h) e
    (λ h. let prop : IsProp (i < 17) = hlevel props in ap (register_at i) (prop a h)) b

pub same_register : (register other : Register) → register.index ≡ other.index → register ≡ other
same_register register other e = registers_alike register.index other.index register.in_range other.in_range e

-- ---- operands and locations

register_once : (registers : List (List ℕ)) (word : List ℕ) (a b : Register) → register_named registers word ≡ Some a.index → register_named registers word ≡ Some b.index → a ≡ b
register_once registers word a b m n = same_register a b (same_some _ _ _ m n)

operand_once : (registers : List (List ℕ)) (word : List ℕ) (a b : Operand) → OperandMeans registers word a → OperandMeans registers word b → a ≡ b
operand_once registers word (Number a) (Number b) m n = ap Number (number_once 0 max_value word a b m n)
operand_once registers word (Number a) (Held b) m n = absurd (name_no_digit word n.0 (digits_begin word m.0.0 m.0.1))
operand_once registers word (Held a) (Number b) m n = absurd (name_no_digit word m.0 (digits_begin word n.0.0 n.0.1))
operand_once registers word (Held a) (Held b) m n = ap Held (register_once registers word a b m.1 n.1)

same_location : (a b x y : ℕ) (i j : Operand) → a ≡ b → x ≡ y → i ≡ j → Element a x i ≡ Element b y j
same_location a b x y i j e f g =
    ap (λ (t : ℕ). Element t x i) e ∙ (ap (λ (t : ℕ). Element b t i) f ∙ ap (λ (t : Operand). Element b y t) g)

element_once : (scope : NameScope) (name index : List ℕ) (a b x y : ℕ) (i j : Operand) → ElementMeans scope name index a x i → ElementMeans scope name index b y j → Element a x i ≡ Element b y j
element_once scope name index a b x y i j m n =
    let mem : m.1.0 ≡ n.1.0 = same_some _ _ _ m.1.1.0 n.1.1.0 in
    same_location a b x y i j
    (m.1.2 ∙ (ap (λ (t : Mem). t.first) mem ∙ sym n.1.2))
    (m.1.3 ∙ (ap (λ (t : Mem). t.cells) mem ∙ sym n.1.3))
    (operand_once scope.registers index i j m.2 n.2)

location_once : (scope : NameScope) (word : List ℕ) (a b : Location) → LocationMeans scope word a → LocationMeans scope word b → a ≡ b
location_once scope word (Cell a) (Cell b) m n =
    let mem : m.1 ≡ n.1 = same_some _ _ _ m.2.0 n.2.0 in
    ap Cell (m.3 ∙ (ap (λ (t : Mem). t.first) mem ∙ sym n.3))
location_once scope word (Cell a) (Element b y j) m n = absurd (no_element word n.0 n.1 (name_no_bracket word m.0) n.2)
location_once scope word (Element a x i) (Cell b) m n = absurd (no_element word m.0 m.1 (name_no_bracket word n.0) m.2)
location_once scope word (Element a x i) (Element b y j) m n =
    let same = same_element m.0 n.0 m.1 n.1 m.3.0 n.3.0 (sym m.2 ∙ n.2) in
    element_once scope n.0 n.1 a b x y i j
    (subst (λ (w : List ℕ). ElementMeans scope n.0 w a x i) same.1 (subst (λ (w : List ℕ). ElementMeans scope w m.1 a x i) same.0 m.3)) n.3

assigned_once : (registers : List (List ℕ)) (word : List ℕ) (a b : Register) (v w : Option (List ℕ)) → AssignedMeans registers word a v → AssignedMeans registers word b w
    → OfAssigned a v ≡ OfAssigned b w
assigned_once registers word a b None None m n = ap (λ (t : Register). OfAssigned t None) (register_once registers word a b m.1 n.1)
assigned_once registers word a b None (Some w) m n = absurd (unnamed _ _ m.1 n.2)
assigned_once registers word a b (Some v) None m n = absurd (unnamed _ _ n.1 m.2)
assigned_once registers word a b (Some v) (Some w) m n =
    ap (λ (t : Register). OfAssigned t (Some v)) (same_register a b (m.3 ∙ sym n.3)) ∙ ap (λ (t : List ℕ). OfAssigned b (Some t)) (m.0 ∙ sym n.0)

-- ---- words in their places

module _ (scope : NameScope) where
  pub word_once : (place : Place) (word : List ℕ) (v w : Value) → WordMeans scope place word v → WordMeans scope place word w → v ≡ w
  word_once (Common place) word (Plain v) (Plain w) m n = ap Plain (common_once scope.known place word v w m n)
  word_once FreshName word (Plain (trace.OfName a)) (Plain (trace.OfName b)) m n = ap (λ (t : List ℕ). Plain (trace.OfName t)) (m.0 ∙ sym n.0)
  word_once OperandWord word (OfOperand a) (OfOperand b) m n = ap OfOperand (operand_once scope.registers word a b m n)
  word_once LocationWord word (OfLocation a) (OfLocation b) m n = ap OfLocation (location_once scope word a b m n)
  word_once AssignedRegister word (OfAssigned a v) (OfAssigned b w) m n = assigned_once scope.registers word a b v w m n
  word_once KnownRegister word (OfRegister a) (OfRegister b) m n = ap OfRegister (register_once scope.registers word a b m.1 n.1)
  word_once FunctionName word (Plain (trace.OfNumber a)) (Plain (trace.OfNumber b)) m n = ap (λ (t : ℕ). Plain (trace.OfNumber t)) (same_some _ _ _ m.1 n.1)
  word_once ParameterName word (Plain (trace.OfName a)) (Plain (trace.OfName b)) m n = ap (λ (t : List ℕ). Plain (trace.OfName t)) (m.0 ∙ sym n.0)
  word_once Sign word (OfSign a) (OfSign b) m n = ap OfSign (sign_once a b (sym m ∙ n))
  word_once (Exactly other) word Nothing Nothing m n = refl
  word_once (Common place) word (Plain v) w m n = absurd n
  word_once FreshName word (Plain (trace.OfName a)) w m n = absurd n
  word_once OperandWord word (OfOperand a) w m n = absurd n
  word_once LocationWord word (OfLocation a) w m n = absurd n
  word_once AssignedRegister word (OfAssigned a v) w m n = absurd n
  word_once KnownRegister word (OfRegister a) w m n = absurd n
  word_once FunctionName word (Plain (trace.OfNumber a)) w m n = absurd n
  word_once ParameterName word (Plain (trace.OfName a)) w m n = absurd n
  word_once Sign word (OfSign a) w m n = absurd n
  word_once (Exactly other) word Nothing w m n = absurd n
  word_once place word v w m n = absurd m

-- ---- items, from their keyword and values

abbrev first_register : Register
first_register = register_at 0 (lit< tt)

abbrev pub register_in : Value → Register
register_in (OfAssigned register named) = register
register_in (OfRegister register) = register
register_in value = first_register

abbrev pub named_in : Value → Option (List ℕ)
named_in (OfAssigned register named) = named
named_in value = None

abbrev pub operand_in : Value → Operand
operand_in (OfOperand operand) = operand
operand_in value = Number 0

abbrev pub location_in : Value → Location
location_in (OfLocation location) = location
location_in value = Cell 0

abbrev pub number_in : Value → ℕ
number_in (Plain (trace.OfNumber number)) = number
number_in value = 0

abbrev pub name_in : Value → List ℕ
name_in (Plain (trace.OfName name)) = name
name_in value = []

abbrev pub monoid_in : Value → Monoid
monoid_in (Plain (trace.OfMonoid monoid)) = monoid
monoid_in value = SumMonoid

abbrev pub count_in : List Value → Option ℕ
count_in [] = None
count_in (value ∷ values) = Some (number_in value)

abbrev pub joined_by : Value → Operand → Operand → Expression
joined_by (OfSign Plus) left right = Sum left right
joined_by (OfSign Minus) left right = Difference left right
joined_by (OfSign Times) left right = Product left right
joined_by (OfSign Below) left right = Less left right
joined_by value left right = PlainOperand left

abbrev pub expression_in : List Value → Expression
expression_in (left ∷ sign ∷ right ∷ values) = joined_by sign (operand_in left) (operand_in right)
expression_in (left ∷ values) = PlainOperand (operand_in left)
expression_in values = PlainOperand (Number 0)

abbrev pub access_by : ℕ → Keyword → Value → Value → Item
access_by at (begin.Access kind.Read) a b = Does (Read at (register_in a) (location_in b)) (named_in a)
access_by at (begin.Access kind.Write) a b = Does (Write at (location_in a) (operand_in b)) None
access_by at (begin.Access kind.Bump) a b = Does (Bump at (location_in a) (operand_in b)) None
access_by at (begin.Access kind.Update) a b = Does (Update at (number_in a) (operand_in b)) None
access_by at (begin.Access kind.Put) a b = Does (Put at (number_in a) (operand_in b)) None
access_by at (begin.Access kind.Get) a b = Does (Get at (register_in a) (number_in b)) (named_in a)
access_by at begin.Spawn a b = Does (Spawn at (number_in a) (operand_in b)) None
access_by at begin.Call a b = Does (Call at (number_in a) (operand_in b)) None
access_by at begin.Reducer a b = Reduces (name_in a) (monoid_in b)
access_by at begin.Func a b = Begins (name_in a) (name_in b)
access_by at keyword a b = Blank

abbrev pub first_of_values : List Value → Value
first_of_values = first_or Nothing

abbrev pub item_by : ℕ → Keyword → List Value → Item
item_by at begin.Mem values = Declared (name_in (first_of_values values)) (count_in (behind_first values))
item_by at begin.Let values = Does (Let at (register_in (first_of_values values)) (expression_in (behind_first (behind_first values)))) (named_in (first_of_values values))
item_by at begin.Sync values = Does (Sync at) None
item_by at begin.ParallelFor values =
    Does (ParallelFor at (register_in (first_of_values values)) (operand_in (first_of_values (behind_first values))) (number_in (first_of_values (behind_first (behind_first values))))) (named_in (first_of_values values))
item_by at begin.If values = Decides (register_in (first_of_values values))
item_by at begin.Else values = Otherwise
item_by at begin.End values = Ends
item_by at keyword values = access_by at keyword (first_of_values values) (first_of_values (behind_first values))

-- a statement that names no new register
unnamed_statement : (made : ℕ → Statement) (at line : ℕ) (named : Option (List ℕ)) → named ≡ None → line ≡ at → Does (made at) None ≡ Does (made line) named
unnamed_statement made at line named n e = ap (λ (t : ℕ). Does (made t) None) (sym e) ∙ ap (λ (t : Option (List ℕ)). Does (made line) t) (sym n)

naming_statement : (made : ℕ → Statement) (at line : ℕ) (named : Option (List ℕ)) → line ≡ at → Does (made at) named ≡ Does (made line) named
naming_statement made at line named e = ap (λ (t : ℕ). Does (made t) named) (sym e)

let_back : (at : ℕ) (register : Register) (value : Expression) (named : Option (List ℕ)) (line : ℕ) → line ≡ at
    → item_by at begin.Let (statement_values (Let line register value) named) ≡ Does (Let line register value) named
let_back at register (PlainOperand a) named line e = naming_statement (λ t. Let t register (PlainOperand a)) at line named e
let_back at register (Sum a b) named line e = naming_statement (λ t. Let t register (Sum a b)) at line named e
let_back at register (Difference a b) named line e = naming_statement (λ t. Let t register (Difference a b)) at line named e
let_back at register (Product a b) named line e = naming_statement (λ t. Let t register (Product a b)) at line named e
let_back at register (Less a b) named line e = naming_statement (λ t. Let t register (Less a b)) at line named e

module _ (at : ℕ) (scope : NameScope) (ws : List (List ℕ)) where
  statement_said : (statement : Statement) (named : Option (List ℕ)) → ItemMeans at scope ws (Does statement named)
      → item_by at (keyword_of_statement statement) (statement_values statement named) ≡ Does statement named
  statement_said (Let line register value) named m = let_back at register value named line m.1
  statement_said (Read line register location) named m = naming_statement (λ t. Read t register location) at line named m.1
  statement_said (Write line location value) named m = unnamed_statement (λ t. Write t location value) at line named m.0 m.1
  statement_said (Bump line location value) named m = unnamed_statement (λ t. Bump t location value) at line named m.0 m.1
  statement_said (Update line reducer value) named m = unnamed_statement (λ t. Update t reducer value) at line named m.0 m.1
  statement_said (Put line reducer value) named m = unnamed_statement (λ t. Put t reducer value) at line named m.0 m.1
  statement_said (Get line register reducer) named m = naming_statement (λ t. Get t register reducer) at line named m.1
  statement_said (Spawn line function argument) named m = unnamed_statement (λ t. Spawn t function argument) at line named m.0 m.1
  statement_said (Call line function argument) named m = unnamed_statement (λ t. Call t function argument) at line named m.0 m.1
  statement_said (Sync line) named m = unnamed_statement Sync at line named m.0 m.1
  statement_said (ParallelFor line register count function) named m = naming_statement (λ t. ParallelFor t register count function) at line named m.1
  statement_said (If line register otherwise) named m = absurd m.0
  statement_said (Else line after) named m = absurd m.0
  statement_said (End line) named m = absurd m.0

  count_back : (count : Option ℕ) → count_in (number_if_there count) ≡ count
  count_back None = refl
  count_back (Some number) = refl

  said : (item : Item) → ItemMeans at scope ws item → IsSaid (clear scope) scope.known.version Blank (item_by at) ws item
  said Blank m = inl (refl, m)
  said (Declared name count) m = inr (begin.Mem, Plain (trace.OfName name) ∷ number_if_there count, m, ap (Declared name) (count_back count))
  said (Reduces name monoid) m = inr (begin.Reducer, Plain (trace.OfName name) ∷ Plain (trace.OfMonoid monoid) ∷ [], m, refl)
  said (Begins name parameter) m = inr (begin.Func, Plain (trace.OfName name) ∷ Plain (trace.OfName parameter) ∷ [], m, refl)
  said (Does statement named) m = inr (keyword_of_statement statement, statement_values statement named, m.2, statement_said statement named m)
  said (Decides register) m = inr (begin.If, OfRegister register ∷ [], m, refl)
  said Otherwise m = inr (begin.Else, [], m, refl)
  said Ends m = inr (begin.End, [], m, refl)

  -- the words of a line say one thing at most
  pub item_once : (i j : Item) → ItemMeans at scope ws i → ItemMeans at scope ws j → i ≡ j
  item_once i j m n = said_once (clear scope) scope.known.version Blank (item_by at) ws (word_once scope) i j (said i m) (said j n)

-- and have no fault where they say something
pub item_clean : (scope : NameScope) (at : ℕ) (ws : List (List ℕ)) (item : Item) → ItemMeans at scope ws item → (cause : Cause) → WordsFault scope ws cause → ⊥
item_clean scope at ws item m = said_clean (clear scope) scope.known.version Blank (item_by at) ws item (said at scope ws item m)
