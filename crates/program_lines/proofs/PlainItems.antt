-- Values in their places, printed and read again.
use Rattle.std.proofs.Common.{◌≡◌, ℕ, suc, ◌+◌, ◌-◌, ◌≤◌, ◌∷◌, ◌++◌, [], List, length, true, false, Bool, cond, arith, refl, sym, ap, subst, ◌∙◌, get_or, inl, inr, append_assoc}
use Rattle.std.specs.Prelude.{Option, Some, None, IsTrue}
use Rattle.std.specs.List.{All, AllByRecursion, position_from}
use Rattle.std.specs.Str.{bytes_eq}
use Rattle.std.specs.Cmp.Lexicographic.{bytes_decides}
use Rattle.model_accesses.specs.declared.kind.Kind.TheVariants as kind
use Rattle.text_words.specs.declared.value.Mem.{Mem}
use Rattle.text_words.specs.Text.{words, IsTextLine, IsName}
use Rattle.text_words.specs.Limits.{max_value}
use Rattle.text_words.specs.Names.{SingleMeans, IsDeclared}
use Rattle.trace_text.specs.Lines as trace
use Rattle.trace_text.specs.Shapes.{is_numbered}
use Rattle.trace_text.specs.Printing.{spaced}
use Rattle.trace_text.proofs.CellWords.{found_of_all}
use Rattle.trace_text.proofs.PlainPlaces.{IsSmall, first_or_later, position_above, same_memory, found_name, single_plain, brackets, word_plain as common_plain}
use Rattle.trace_text.specs.Plain.{IsPlain, ArePlain}
use Rattle.trace_text.proofs.PlainWords.{decimal_number, decimal_plain, name_plain, words_spaced, text_spaced}
use Rattle.trace_text.proofs.LineWords.{says_plain as words_say_plain}
use Rattle.program_lines.specs.declared.keyword.Keyword.{Keyword}
use Rattle.program_lines.specs.declared.keyword.Keyword.TheVariants as begin
use Rattle.program_lines.specs.declared.operator.Operator.{Operator}
use Rattle.program_lines.specs.declared.operator.Operator.TheVariants.{Plus, Minus, Times, Below}
use Rattle.model_bodies.specs.declared.statement.Register.{Register}
use Rattle.model_bodies.specs.declared.statement.Expression.{Expression}
use Rattle.model_bodies.specs.declared.statement.Expression.TheVariants.{Plain as PlainOperand, Sum, Difference, Product, Less}
use Rattle.model_bodies.specs.declared.statement.Operand.{Operand}
use Rattle.model_bodies.specs.declared.statement.Operand.TheVariants.{Number, Held}
use Rattle.model_bodies.specs.declared.statement.Location.{Location}
use Rattle.model_bodies.specs.declared.statement.Location.TheVariants.{Cell, Element}
use Rattle.model_bodies.specs.declared.statement.Statement.{Statement}
use Rattle.model_bodies.specs.declared.statement.Statement.TheVariants.{Let, Read, Write, Bump, Update, Put, Get, Spawn, Call, Sync, ParallelFor, If, Else, End}
use Rattle.program_lines.specs.Scopes.{NameScope, ok_word, register_named, function_named, IsFresh}
use Rattle.program_lines.specs.Places.{Place, Common, FreshName, OperandWord, LocationWord, AssignedRegister, KnownRegister, FunctionName, ParameterName, Sign, Exactly, Value, Plain, OfOperand, OfLocation, OfRegister, OfAssigned, OfSign, Nothing, WordMeans, OperandMeans, RegisterMeans, ElementMeans, LocationMeans, IsRegisterName, sign_spelling}
use Rattle.program_lines.specs.Table.{table, spelling, wanted, optional, Says}
use Rattle.program_lines.specs.Grammar.{Item, Blank, Declared, Reduces, Begins, Does, Decides, Otherwise, Ends, ItemMeans, number_if_there, keyword_of_statement, expression_values, statement_values}
use Rattle.program_lines.specs.Printing.{name_of_register, name_of_function, operand_word, memory_name, name_of_array, location_word, plain_word, words_for, statement_words, item_words, scope_behind}

-- ---- places

abbrev IsPrintable : Place → Type 0
IsPrintable (Common place) = IsSmall place
IsPrintable (Exactly word) = IsPlain word
IsPrintable place = Unit {0}

equals_plain : IsPlain (61 ∷ [])
equals_plain = (omega arith, (refl, tt))

printable_wanted : (keyword : Keyword) → AllByRecursion IsPrintable (wanted keyword)
printable_wanted begin.Mem = (tt, tt)
printable_wanted begin.Reducer = (tt, (tt, tt))
printable_wanted begin.Func = (tt, (tt, tt))
printable_wanted begin.Let = (tt, (equals_plain, (tt, tt)))
printable_wanted (begin.Access kind.Write) = (tt, (tt, tt))
printable_wanted (begin.Access kind.Bump) = (tt, (tt, tt))
printable_wanted (begin.Access kind.Read) = (tt, (tt, tt))
printable_wanted (begin.Access kind.Update) = (tt, (tt, tt))
printable_wanted (begin.Access kind.Put) = (tt, (tt, tt))
printable_wanted (begin.Access kind.Get) = (tt, (tt, tt))
printable_wanted begin.Spawn = (tt, (tt, tt))
printable_wanted begin.Call = (tt, (tt, tt))
printable_wanted begin.Sync = tt
printable_wanted begin.ParallelFor = (tt, (tt, (tt, tt)))
printable_wanted begin.If = (tt, tt)
printable_wanted begin.Else = tt
printable_wanted begin.End = tt

printable_optional : (keyword : Keyword) → AllByRecursion IsPrintable (optional keyword)
printable_optional begin.Mem = (omega arith, tt)
printable_optional begin.Let = (tt, (tt, tt))
printable_optional keyword = tt

spelling_plain : (keyword : Keyword) → IsPlain (spelling keyword)
spelling_plain begin.Mem = (omega arith, (refl, (refl, (refl, tt))))
spelling_plain begin.Reducer = (omega arith, (refl, (refl, (refl, (refl, (refl, (refl, (refl, tt))))))))
spelling_plain begin.Func = (omega arith, (refl, (refl, (refl, (refl, tt)))))
spelling_plain begin.Let = (omega arith, (refl, (refl, (refl, tt))))
spelling_plain (begin.Access kind.Write) = (omega arith, (refl, (refl, (refl, (refl, (refl, tt))))))
spelling_plain (begin.Access kind.Bump) = (omega arith, (refl, (refl, (refl, (refl, tt)))))
spelling_plain (begin.Access kind.Read) = (omega arith, (refl, (refl, (refl, (refl, tt)))))
spelling_plain (begin.Access kind.Update) = (omega arith, (refl, (refl, (refl, (refl, (refl, (refl, tt)))))))
spelling_plain (begin.Access kind.Put) = (omega arith, (refl, (refl, (refl, tt))))
spelling_plain (begin.Access kind.Get) = (omega arith, (refl, (refl, (refl, tt))))
spelling_plain begin.Spawn = (omega arith, (refl, (refl, (refl, (refl, (refl, tt))))))
spelling_plain begin.Call = (omega arith, (refl, (refl, (refl, (refl, tt)))))
spelling_plain begin.Sync = (omega arith, (refl, (refl, (refl, (refl, tt)))))
spelling_plain begin.ParallelFor = (omega arith, (refl, (refl, (refl, (refl, tt)))))
spelling_plain begin.If = (omega arith, (refl, (refl, tt)))
spelling_plain begin.Else = (omega arith, (refl, (refl, (refl, (refl, tt)))))
spelling_plain begin.End = (omega arith, (refl, (refl, (refl, tt))))

sign_plain : (operator : Operator) → IsPlain (sign_spelling operator)
sign_plain Plus = (omega arith, (refl, tt))
sign_plain Minus = (omega arith, (refl, tt))
sign_plain Times = (omega arith, (refl, tt))
sign_plain Below = (omega arith, (refl, tt))

-- ---- names in lists

-- the name with this number is the one that was found
name_at : (names more : List (List ℕ)) (word : List ℕ) (from number : ℕ) → position_from (bytes_eq word) from names ≡ Some number → get_or (names ++ more) (number - from) [] ≡ word
name_at [] more word from number e = cc
name_at (name ∷ names) more word from number e =
    elim (first_or_later (bytes_eq word name) from number (position_from (bytes_eq word) (from + 1) names) e) [
      | inl f ↦ (let d : number - from ≡ 0 = omega (arith, f.1) in
          ap (λ (n : ℕ). get_or (name ∷ (names ++ more)) n []) d ∙ sym ((bytes_decides word name).0 f.0))
      | inr f ↦ (let later = position_above (bytes_eq word) names (from + 1) number f.1 in
          let d : number - from ≡ suc (number - (from + 1)) = omega arith in
          ap (λ (n : ℕ). get_or (name ∷ (names ++ more)) n []) d ∙ name_at names more word (from + 1) number f.1)
    ]

name_behind : (names more : List (List ℕ)) (name : List ℕ) → get_or (names ++ name ∷ more) (length names) [] ≡ name
name_behind [] more name = refl
name_behind (first ∷ names) more name = name_behind names more name

register_by : (here : Bool) (registers more : List (List ℕ)) (word : List ℕ) (index : ℕ) → bytes_eq word ok_word ≡ here
    → cond here (Some 0) (position_from (bytes_eq word) 1 registers) ≡ Some index → name_of_register (registers ++ more) index ≡ word
register_by true registers more word index b e =
    let zero_is : 0 ≡ index = cc in
    ap (name_of_register (registers ++ more)) (sym zero_is) ∙ sym ((bytes_decides word ok_word).0 b)
register_by false registers more word index b e =
    let past = position_above (bytes_eq word) registers 1 index e in
    let next : index ≡ suc (index - 1) = omega arith in
    ap (name_of_register (registers ++ more)) next ∙ name_at registers more word 1 index e

register_plain : (registers more : List (List ℕ)) (word : List ℕ) (index : ℕ) → register_named registers word ≡ Some index → name_of_register (registers ++ more) index ≡ word
register_plain registers more word index e = register_by (bytes_eq word ok_word) registers more word index refl e

function_plain : (functions : List (List ℕ)) (word : List ℕ) (number : ℕ) → function_named functions word ≡ Some number → name_of_function functions number ≡ word
function_plain functions word number e =
    ap (λ (n : ℕ). get_or functions n []) (let d : number ≡ number - 0 = omega arith in d)
    ∙ (ap (λ (ns : List (List ℕ)). get_or ns (number - 0) []) (sym (append_nil functions)) ∙ name_at functions [] word 0 number e)
  where
    append_nil : (ns : List (List ℕ)) → ns ++ [] ≡ ns
    append_nil [] = refl
    append_nil (n ∷ ns) = ap (λ (t : List (List ℕ)). n ∷ t) (append_nil ns)

-- where a register is new, the first of the names behind those that are known is its name
abbrev Leads : List (List ℕ) → Value → Type 0
Leads rest (OfAssigned register (Some name)) = (more : List (List ℕ)) × (rest ≡ name ∷ more)
Leads rest value = Unit {0}

module _ (scope : NameScope) (rest : List (List ℕ)) (numbered : IsTrue (is_numbered 0 scope.known.mems)) (some : All (λ (mem : Mem). 1 ≤ mem.cells) scope.known.mems) where
  abbrev all_registers : List (List ℕ)
  all_registers = scope.registers ++ rest

  abbrev printed : NameScope
  printed = record { known = scope.known; functions = scope.functions; begun = 0; registers = all_registers }

  operand_plain : (word : List ℕ) (operand : Operand) → OperandMeans scope.registers word operand
      → OperandMeans scope.registers (operand_word all_registers operand) operand × IsPlain (operand_word all_registers operand)
  operand_plain word (Number n) m =
      let small : n ≤ max_value = m.2 in
      ((decimal_number n small, m.1, m.2), decimal_plain n small)
  operand_plain word (Held register) m =
      let same = register_plain scope.registers rest word register.index m.1 in
      (subst (λ (w : List ℕ). RegisterMeans scope.registers w register) (sym same) m, subst IsPlain (sym same) (name_plain word m.0))

  array_plain : (name : List ℕ) (mem : Mem) (first : ℕ) → IsDeclared scope.known.mems name true mem → first ≡ mem.first → name_of_array scope.known.mems first ≡ name
  array_plain name mem first d e =
      let one : 1 ≤ mem.cells = found_of_all (λ (x : Mem). 1 ≤ x.cells) _ scope.known.mems mem some d.0 in
      let found = same_memory 0 scope.known.mems (λ (x : Mem). bytes_eq name x.name) mem 0 numbered d.0 (omega arith) in
      let at : first ≡ mem.first + 0 = e ∙ (let z : mem.first ≡ mem.first + 0 = omega arith in z) in
      ap (name_of_array scope.known.mems) at ∙ (ap memory_name found ∙ sym (found_name scope.known.mems name mem d.0))

  location_plain : (word : List ℕ) (location : Location) → LocationMeans scope word location
      → LocationMeans scope (location_word scope.known.mems all_registers location) location × IsPlain (location_word scope.known.mems all_registers location)
  location_plain word (Cell cell) m =
      let same = single_plain scope.known.mems word cell numbered some m in
      (subst (λ (w : List ℕ). SingleMeans scope.known.mems w cell) (sym same) m, subst IsPlain (sym same) (name_plain word m.0))
  location_plain word (Element first count operand) m =
      let name = m.0 in
      let means = m.3 in
      let same = array_plain name means.1.0 first means.1.1 means.1.2 in
      let index = operand_plain m.1 operand means.2 in
      let own : ElementMeans scope name (operand_word all_registers operand) first count operand = (means.0, means.1, index.0) in
      let moved = subst (λ (n : List ℕ). ElementMeans scope n (operand_word all_registers operand) first count operand) (sym same) own in
      let plain = subst IsPlain (sym same) (name_plain name means.0) in (
        (name_of_array scope.known.mems first, operand_word all_registers operand, refl, moved),
        brackets (name_of_array scope.known.mems first) (operand_word all_registers operand) plain index.1,
      )

  assigned_plain : (word : List ℕ) (value : Value) (same : plain_word printed AssignedRegister value ≡ word) → IsName word → WordMeans scope AssignedRegister word value
      → WordMeans scope AssignedRegister (plain_word printed AssignedRegister value) value × IsPlain (plain_word printed AssignedRegister value)
  assigned_plain word value same named m =
      (subst (λ (w : List ℕ). WordMeans scope AssignedRegister w value) (sym same) m, subst IsPlain (sym same) (name_plain word named))

  new_register : (index : ℕ) (name : List ℕ) → index ≡ length scope.registers + 1 → ((more : List (List ℕ)) × (rest ≡ name ∷ more)) → name_of_register all_registers index ≡ name
  new_register index name e l =
      let next : index ≡ suc (length scope.registers) = omega arith in
      ap (name_of_register all_registers) next
      ∙ (ap (λ (t : List (List ℕ)). get_or (scope.registers ++ t) (length scope.registers) []) l.1 ∙ name_behind scope.registers l.0 name)

  -- what a word means, the plain word for it means
  word_plain : (place : Place) (word : List ℕ) (value : Value) → IsPrintable place → Leads rest value → WordMeans scope place word value
      → WordMeans scope place (plain_word printed place value) value × IsPlain (plain_word printed place value)
  word_plain (Common place) word (Plain value) s l m = common_plain scope.known numbered some place word value s m
  word_plain FreshName word (Plain (trace.OfName name)) s l m =
      let named : IsName name = subst IsName (sym m.0) m.1 in
      ((refl, named, subst (λ (w : List ℕ). IsFresh scope w) (sym m.0) m.2), name_plain name named)
  word_plain OperandWord word (OfOperand operand) s l m = operand_plain word operand m
  word_plain LocationWord word (OfLocation location) s l m = location_plain word location m
  word_plain AssignedRegister word (OfAssigned register None) s l m =
      assigned_plain word (OfAssigned register None) (register_plain scope.registers rest word register.index m.1) m.0.0 m
  word_plain AssignedRegister word (OfAssigned register (Some name)) s l m =
      assigned_plain word (OfAssigned register (Some name)) (new_register register.index name m.3 l ∙ m.0) m.1.0 m
  word_plain KnownRegister word (OfRegister register) s l m =
      let same = register_plain scope.registers rest word register.index m.1 in
      (subst (λ (w : List ℕ). RegisterMeans scope.registers w register) (sym same) m, subst IsPlain (sym same) (name_plain word m.0))
  word_plain FunctionName word (Plain (trace.OfNumber number)) s l m =
      let same = function_plain scope.functions word number m.1 in
      ((subst IsName (sym same) m.0, ap (function_named scope.functions) same ∙ m.1), subst IsPlain (sym same) (name_plain word m.0))
  word_plain ParameterName word (Plain (trace.OfName name)) s l m =
      let named : IsRegisterName name = subst IsRegisterName (sym m.0) m.1 in
      ((refl, named), name_plain name named.0)
  word_plain Sign word (OfSign operator) s l m = (refl, sign_plain operator)
  word_plain (Exactly other) word Nothing s l m = (refl, s)
  word_plain place word value s l m = absurd m

  -- ---- lines

  abbrev PlainSays : Keyword → List Value → Type 0
  PlainSays keyword values = Says scope (words_for printed keyword values) keyword values × ArePlain (words_for printed keyword values)

  -- what words say, their plain words say
  says_plain : (ws : List (List ℕ)) (keyword : Keyword) (values : List Value) → AllByRecursion (Leads rest) values → Says scope ws keyword values → PlainSays keyword values
  says_plain ws keyword values l says =
      words_say_plain (WordMeans scope) (plain_word printed) IsPlain IsPrintable (Leads rest) word_plain table printable_wanted printable_optional spelling_plain
      scope.known.version ws keyword values l says

  same_words : (statement : Statement) (named : Option (List ℕ))
      → words_for printed (keyword_of_statement statement) (statement_values statement named) ≡ statement_words printed statement
  same_words (Let line register value) named = refl
  same_words (Read line register location) named = refl
  same_words (Write line location value) named = refl
  same_words (Bump line location value) named = refl
  same_words (Update line reducer value) named = refl
  same_words (Put line reducer value) named = refl
  same_words (Get line register reducer) named = refl
  same_words (Spawn line function argument) named = refl
  same_words (Call line function argument) named = refl
  same_words (Sync line) named = refl
  same_words (ParallelFor line register count function) named = refl
  same_words (If line register otherwise) named = refl
  same_words (Else line after) named = refl
  same_words (End line) named = refl

  lead_numbers : (count : Option ℕ) → AllByRecursion (Leads rest) (number_if_there count)
  lead_numbers None = tt
  lead_numbers (Some number) = (tt, tt)

-- ---- items

-- the names behind the registers that are known
abbrev behind : Item → List (List ℕ) → List (List ℕ)
behind (Does statement (Some name)) more = name ∷ more
behind item more = more

lead_expression : (rest : List (List ℕ)) (value : Expression) → AllByRecursion (Leads rest) (expression_values value)
lead_expression rest (PlainOperand operand) = (tt, tt)
lead_expression rest (Sum left right) = (tt, (tt, (tt, tt)))
lead_expression rest (Difference left right) = (tt, (tt, (tt, tt)))
lead_expression rest (Product left right) = (tt, (tt, (tt, tt)))
lead_expression rest (Less left right) = (tt, (tt, (tt, tt)))

lead_assigned : (statement : Statement) (register : Register) (named : Option (List ℕ)) (more : List (List ℕ)) → Leads (behind (Does statement named) more) (OfAssigned register named)
lead_assigned statement register None more = tt
lead_assigned statement register (Some name) more = (more, refl)

lead_statement : (statement : Statement) (named : Option (List ℕ)) (more : List (List ℕ)) → AllByRecursion (Leads (behind (Does statement named) more)) (statement_values statement named)
lead_statement (Let line register value) named more = (lead_assigned (Let line register value) register named more, (tt, lead_expression (behind (Does (Let line register value) named) more) value))
lead_statement (Read line register location) named more = (lead_assigned (Read line register location) register named more, (tt, tt))
lead_statement (Write line location value) named more = (tt, (tt, tt))
lead_statement (Bump line location value) named more = (tt, (tt, tt))
lead_statement (Update line reducer value) named more = (tt, (tt, tt))
lead_statement (Put line reducer value) named more = (tt, (tt, tt))
lead_statement (Get line register reducer) named more = (lead_assigned (Get line register reducer) register named more, (tt, tt))
lead_statement (Spawn line function argument) named more = (tt, (tt, tt))
lead_statement (Call line function argument) named more = (tt, (tt, tt))
lead_statement (Sync line) named more = tt
lead_statement (ParallelFor line register count function) named more = (lead_assigned (ParallelFor line register count function) register named more, (tt, (tt, tt)))
lead_statement (If line register otherwise) named more = (tt, tt)
lead_statement (Else line after) named more = tt
lead_statement (End line) named more = tt

abbrev pub IsPlainItem : ℕ → NameScope → Item → List (List ℕ) → Type 0
IsPlainItem at scope item line = ItemMeans at scope line item × ArePlain line

module _ (at : ℕ) (scope : NameScope) (ws : List (List ℕ)) (item_more : List (List ℕ)) (numbered : IsTrue (is_numbered 0 scope.known.mems)) (some : All (λ (mem : Mem). 1 ≤ mem.cells) scope.known.mems) where
  does_printed : (statement : Statement) (named : Option (List ℕ)) → ItemMeans at scope ws (Does statement named)
      → IsPlainItem at scope (Does statement named)
      (statement_words (record { known = scope.known; functions = scope.functions; begun = 0; registers = scope.registers ++ behind (Does statement named) item_more }) statement)
  does_printed statement named m =
      let rest = behind (Does statement named) item_more in
      let p = says_plain scope rest numbered some ws (keyword_of_statement statement) (statement_values statement named) (lead_statement statement named item_more) m.2 in
      subst (IsPlainItem at scope (Does statement named)) (same_words scope rest numbered some statement named) ((m.0, m.1, p.0), p.1)

  -- what some words say in their scope, the plain words say
  pub item_printed : (item : Item) → ItemMeans at scope ws item → IsPlainItem at scope item (item_words (scope_behind scope item item_more) item)
  item_printed Blank m = (refl, tt)
  item_printed (Declared name count) m = says_plain scope item_more numbered some ws begin.Mem (Plain (trace.OfName name) ∷ number_if_there count) (tt, lead_numbers scope item_more numbered some count) m
  item_printed (Reduces name monoid) m = says_plain scope item_more numbered some ws begin.Reducer (Plain (trace.OfName name) ∷ Plain (trace.OfMonoid monoid) ∷ []) (tt, (tt, tt)) m
  item_printed (Begins name parameter) m = says_plain scope item_more numbered some ws begin.Func (Plain (trace.OfName name) ∷ Plain (trace.OfName parameter) ∷ []) (tt, (tt, tt)) m
  item_printed (Does statement None) m = does_printed statement None m
  item_printed (Does statement (Some name)) m =
      let all : scope.registers ++ name ∷ item_more ≡ (scope.registers ++ name ∷ []) ++ item_more = simp append_assoc in
      subst
      (λ (rs : List (List ℕ)). IsPlainItem at scope (Does statement (Some name))
      (statement_words (record { known = scope.known; functions = scope.functions; begun = 0; registers = rs }) statement))
      all (does_printed statement (Some name) m)
  item_printed (Decides register) m = says_plain scope item_more numbered some ws begin.If (OfRegister register ∷ []) (tt, tt) m
  item_printed Otherwise m = says_plain scope item_more numbered some ws begin.Else [] tt m
  item_printed Ends m = says_plain scope item_more numbered some ws begin.End [] tt m

-- the words of an item that some words say in the scope say it
pub item_plain : (at : ℕ) (scope : NameScope) (ws : List (List ℕ)) (item : Item) (more : List (List ℕ)) → IsTrue (is_numbered 0 scope.known.mems)
    → All (λ (mem : Mem). 1 ≤ mem.cells) scope.known.mems → ItemMeans at scope ws item
    → ItemMeans at scope (item_words (scope_behind scope item more) item) item × ArePlain (item_words (scope_behind scope item more) item)
item_plain at scope ws item more numbered some m = item_printed at scope ws more numbered some item m

-- plain words are read again from their line
pub plain_again : (line : List (List ℕ)) → ArePlain line → words (spaced line) ≡ line
plain_again [] h = refl
plain_again (word ∷ line) h = words_spaced word line h

pub item_text : (at : ℕ) (scope : NameScope) (ws more : List (List ℕ)) (item : Item) → IsTrue (is_numbered 0 scope.known.mems)
    → All (λ (mem : Mem). 1 ≤ mem.cells) scope.known.mems → ItemMeans at scope ws item
    → IsTextLine (spaced (item_words (scope_behind scope item more) item)) × ItemMeans at scope (words (spaced (item_words (scope_behind scope item more) item))) item
item_text at scope ws more item numbered some m =
    let p = item_plain at scope ws item more numbered some m in
    let line = item_words (scope_behind scope item more) item in
    (text_spaced line p.1, subst (λ (w : List (List ℕ)). ItemMeans at scope w item) (sym (plain_again line p.1)) p.0)
