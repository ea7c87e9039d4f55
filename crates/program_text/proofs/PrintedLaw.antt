-- The plain text of what a text means, a line at a time.
use Rattle.std.proofs.Common.{◌≡◌, ◌≢◌, ℕ, suc, ◌+◌, ◌-◌, ◌≤◌, ◌∷◌, ◌++◌, [], List, length, map, arith, refl, sym, ap, subst, ◌∙◌, append_assoc, replicate, length-append}
use Rattle.std.specs.Prelude.{Option, Some, None, codes, option_map, MatchOption}
use Rattle.std.proofs.lemmas.List.{append-nil, map_push}
use Rattle.text_words.specs.declared.value.Mem.{Mem}
use Rattle.text_words.specs.declared.value.Reducer.{Reducer}
use Rattle.model_reducers.specs.declared.monoid.Monoid.{Monoid}
use Rattle.text_words.specs.Text.{lines, words, IsTextLine}
use Rattle.text_words.specs.Limits.{most_lines}
use Rattle.text_words.specs.Values.{Known}
use Rattle.text_words.specs.Declarations.{memory_at, reducer_at}
use Rattle.trace_text.specs.Printing.{spaced, Entry, OfMemory, OfReducer, declarations}
use Rattle.trace_text.proofs.PlainWords.{AreText, lines_ended}
use Rattle.trace_text.proofs.PlainLines.{AreLater, later_weaker, memory_first, reducer_first, same_known, plain_header}
use Rattle.model_bodies.specs.declared.statement.Register.{Register}
use Rattle.model_bodies.specs.declared.statement.Statement.{Statement}
use Rattle.model_bodies.specs.declared.statement.Statement.TheVariants.{If, Else, End}
use Rattle.program_lines.specs.Scopes.{NameScope}
use Rattle.program_lines.specs.Grammar.{Item, Blank, Declared, Reduces, Begins, Does, Decides, Otherwise, Ends}
use Rattle.model_bodies.specs.Lines.{line_of}
use Rattle.program_lines.specs.Printing.{item_words, statement_words, registers_behind, scope_behind}
use Rattle.program_lines.proofs.PlainItems.{item_text}
use Rattle.program_text.specs.declared.open_function.Part.{Part}
use Rattle.model_bodies.specs.Codes.{Code}
use Rattle.program_text.specs.Functions.{functions_of}
use Rattle.program_text.specs.Drafts.{Open, Draft, Contents, begun, begun_by, registers_of, scope_of, first_open, with_register, with_statement, with_choice, divided_by, with_part_ended, code_of, with_end}
use Rattle.program_text.specs.Grammar.{IsFirst, LineMeans, LinesMean, LinesOfProgram, TextMeans, EndMeans, extended, ended, ended_by, nothing}
use Rattle.program_text.specs.Printing.{Row, names_of, declared_row, begin_row, statement_row, end_row, body_rows, rows_of_functions, rows, lines_from, plain_lines, plain_text}
use Rattle.program_text.proofs.Listed.{functions_are, functions_again}
use Rattle.program_text.proofs.Kept.{IsKept, kept_extended, kept_nothing}
use Rattle.program_text.proofs.PrintedRows.{end_rows}

abbrev line_of_row : Row → ℕ
line_of_row row = row.line

-- ---- what is left behind what was read so far

module _ (names : List (List ℕ)) (contents : Contents) where
  abbrev rows_of : List (List ℕ) → List Statement → List Row
  rows_of registers body = body_rows contents.known names registers body

  abbrev functions_left : List Code → List Row
  functions_left functions = rows_of_functions contents.known names functions

  -- what is left of an open function, and the functions behind it
  record IsOpen (functions : List Code) (current : Open) (left : List Row) : Type 0 where
    pub code : Code
    pub behind : List Code
    pub more : List (List ℕ)
    pub rest : List Row
    pub functions_are : contents.functions ≡ functions ++ code ∷ behind
    pub name_is : code.name ≡ current.name
    pub parameter_is : code.parameter ≡ current.parameter
    pub line_is : code.line ≡ current.line
    pub registers_are : code.registers ≡ current.registers ++ more
    pub body_is : rows_of code.registers code.body ≡ rows_of code.registers current.body ++ rest
    pub left_is : left ≡ rest ++ end_row code ∷ functions_left behind

  abbrev IsRest : List Code → Option Open → List Row → Type 0
  IsRest functions None left = (behind : List Code) × (contents.functions ≡ functions ++ behind) × (left ≡ functions_left behind)
  IsRest functions (Some current) left = IsOpen functions current left

  abbrev all_rows : List Mem → List Reducer → List Row → List Row
  all_rows ms rs left = map (declared_row contents.known) (declarations ms rs) ++ left

  record IsLeft (at : ℕ) (so_far : Draft) : Type 0 where
    pub ms : List Mem
    pub rs : List Reducer
    pub left : List Row
    pub version_is : contents.known.version ≡ so_far.known.version
    pub mems_are : contents.known.mems ≡ so_far.known.mems ++ ms
    pub reducers_are : contents.known.reducers ≡ so_far.known.reducers ++ rs
    pub later_mems : AreLater (λ (m : Mem). m.line) at ms
    pub later_reducers : AreLater (λ (r : Reducer). r.line) at rs
    pub later : AreLater line_of_row at (all_rows ms rs left)
    pub closed : 1 ≤ begun so_far → (ms ≡ []) × (rs ≡ [])
    pub rest : IsRest so_far.functions so_far.current left
    pub means : LinesMean names at so_far (lines_from at (all_rows ms rs left)) contents

  left_nothing : (at : ℕ) (so_far : Draft) → EndMeans so_far contents → IsLeft at so_far
  left_nothing at so_far m = record {
    ms = [];
    rs = [];
    left = [];
    version_is = ap (λ (c : Contents). c.known.version) m.2;
    mems_are = ap (λ (c : Contents). c.known.mems) m.2 ∙ sym (append-nil so_far.known.mems);
    reducers_are = ap (λ (c : Contents). c.known.reducers) m.2 ∙ sym (append-nil so_far.known.reducers);
    later_mems = tt;
    later_reducers = tt;
    later = tt;
    closed = λ _. (refl, refl);
    rest = subst (λ (c : Option Open). IsRest so_far.functions c []) (sym m.0)
        ([], ap (λ (c : Contents). c.functions) m.2 ∙ sym (append-nil so_far.functions), refl);
    means = m;
  }

  -- a blank line before the next row
  blank_before : (at : ℕ) (rs : List Row) (so_far : Draft) → at ≤ most_lines → AreLater line_of_row (at + 1) rs
      → LinesMean names (at + 1) so_far (lines_from (at + 1) rs) contents → LinesMean names at so_far (lines_from at rs) contents
  blank_before at [] so_far l h m = m
  blank_before at (row ∷ rs) so_far l h m =
      let more : row.line - at ≡ suc (row.line - (at + 1)) = omega (arith, h.0) in
      subst (λ (n : ℕ). LinesMean names at so_far (replicate {A = List ℕ} n [] ++ row.text ∷ lines_from (row.line + 1) rs) contents) (sym more)
      (Blank, (l, none_is_text, refl, tt, tt), m)
    where
      none_is_text : IsTextLine []
      none_is_text = λ i d k. absurd (omega arith)

  -- a row on its own line
  row_here : (at : ℕ) (row : Row) (rs : List Row) (so_far : Draft) (item : Item) → row.line ≡ at → LineMeans names at so_far row.text item
      → LinesMean names (at + 1) (extended at so_far item) (lines_from (at + 1) rs) contents → LinesMean names at so_far (lines_from at (row ∷ rs)) contents
  row_here at row rs so_far item same m h =
      let none : row.line - at ≡ 0 = omega (arith, same) in
      subst (λ (n : ℕ). LinesMean names at so_far (replicate {A = List ℕ} n [] ++ row.text ∷ lines_from (row.line + 1) rs) contents) (sym none)
      (subst (λ (n : ℕ). LinesMean names at so_far (row.text ∷ lines_from (n + 1) rs) contents) (sym same) (item, m, h))

  left_blank : (at : ℕ) (so_far : Draft) → at ≤ most_lines → IsLeft (at + 1) so_far → IsLeft at so_far
  left_blank at so_far l left = record {
    ms = left.ms;
    rs = left.rs;
    left = left.left;
    version_is = left.version_is;
    mems_are = left.mems_are;
    reducers_are = left.reducers_are;
    later_mems = later_weaker _ at left.ms left.later_mems;
    later_reducers = later_weaker _ at left.rs left.later_reducers;
    later = later_weaker line_of_row at _ left.later;
    closed = left.closed;
    rest = left.rest;
    means = blank_before at (all_rows left.ms left.rs left.left) so_far l left.later left.means;
  }

  -- what a line says, its plain words say
  plain_here : (at : ℕ) (so_far : Draft) (line : List ℕ) (item : Item) (more : List (List ℕ)) → IsKept names so_far → LineMeans names at so_far line item
      → LineMeans names at so_far (spaced (item_words (scope_behind (scope_of names so_far) item more) item)) item
  plain_here at so_far line item more kept m =
      let plain = item_text at (scope_of names so_far) (words line) more item kept.numbered kept.not_empty m.2 in
      (m.0, plain.0, plain.1, m.3, m.4)

  left_memory : (at : ℕ) (so_far : Draft) (line : List ℕ) (name : List ℕ) (count : Option ℕ) → IsKept names so_far → LineMeans names at so_far line (Declared name count)
      → IsLeft (at + 1) (extended at so_far (Declared name count)) → IsLeft at so_far
  left_memory at so_far line name count kept m left =
      let mem : Mem = memory_at at so_far.known.mems name count in
      let here : LineMeans names at so_far (declared_row contents.known (OfMemory mem)).text (Declared name count) =
      subst (λ (l : List ℕ). LineMeans names at so_far l (Declared name count)) (memory_text at so_far.known.mems name count (scope_behind (scope_of names so_far) (Declared name count) [])) (plain_here at so_far line (Declared name count) [] kept m) in
      let first : all_rows (mem ∷ left.ms) left.rs left.left ≡ declared_row contents.known (OfMemory mem) ∷ all_rows left.ms left.rs left.left =
      ap (λ (es : List Entry). map (declared_row contents.known) es ++ left.left) (memory_first mem left.ms left.rs left.later_reducers) in
      record {
        ms = mem ∷ left.ms;
        rs = left.rs;
        left = left.left;
        version_is = left.version_is;
        mems_are = left.mems_are ∙ append_assoc so_far.known.mems (mem ∷ []) left.ms;
        reducers_are = left.reducers_are;
        later_mems = (omega arith, later_weaker _ at left.ms left.later_mems);
        later_reducers = later_weaker _ at left.rs left.later_reducers;
        later = subst (λ (t : List Row). AreLater line_of_row at t) (sym first) (omega arith, later_weaker line_of_row at _ left.later);
        closed = λ some. absurd (let none : begun so_far ≡ 0 = m.3 in omega (arith, some, none));
        rest = left.rest;
        means = subst (λ (t : List Row). LinesMean names at so_far (lines_from at t) contents) (sym first)
            (row_here at (declared_row contents.known (OfMemory mem)) (all_rows left.ms left.rs left.left) so_far (Declared name count) refl here left.means);
      }
    where
      memory_text : (at : ℕ) (mems : List Mem) (name : List ℕ) (count : Option ℕ) (scope : NameScope)
          → spaced (item_words scope (Declared name count)) ≡ (declared_row contents.known (OfMemory (memory_at at mems name count))).text
      memory_text at mems name None scope = refl
      memory_text at mems name (Some n) scope = refl

  left_reducer : (at : ℕ) (so_far : Draft) (line : List ℕ) (name : List ℕ) (monoid : Monoid) → IsKept names so_far → LineMeans names at so_far line (Reduces name monoid)
      → IsLeft (at + 1) (extended at so_far (Reduces name monoid)) → IsLeft at so_far
  left_reducer at so_far line name monoid kept m left =
      let reducer : Reducer = reducer_at at name monoid in
      let here : LineMeans names at so_far (declared_row contents.known (OfReducer reducer)).text (Reduces name monoid) = plain_here at so_far line (Reduces name monoid) [] kept m in
      let first : all_rows left.ms (reducer ∷ left.rs) left.left ≡ declared_row contents.known (OfReducer reducer) ∷ all_rows left.ms left.rs left.left =
      ap (λ (es : List Entry). map (declared_row contents.known) es ++ left.left) (reducer_first reducer left.ms left.rs left.later_mems) in
      record {
        ms = left.ms;
        rs = reducer ∷ left.rs;
        left = left.left;
        version_is = left.version_is;
        mems_are = left.mems_are;
        reducers_are = left.reducers_are ∙ append_assoc so_far.known.reducers (reducer ∷ []) left.rs;
        later_mems = later_weaker _ at left.ms left.later_mems;
        later_reducers = (omega arith, later_weaker _ at left.rs left.later_reducers);
        later = subst (λ (t : List Row). AreLater line_of_row at t) (sym first) (omega arith, later_weaker line_of_row at _ left.later);
        closed = λ some. absurd (let none : begun so_far ≡ 0 = m.3 in omega (arith, some, none));
        rest = left.rest;
        means = subst (λ (t : List Row). LinesMean names at so_far (lines_from at t) contents) (sym first)
            (row_here at (declared_row contents.known (OfReducer reducer)) (all_rows left.ms left.rs left.left) so_far (Reduces name monoid) refl here left.means);
      }

  -- all declarations are known where a function has begun
  known_is : (at : ℕ) (so_far : Draft) → 1 ≤ begun so_far → IsLeft at so_far → contents.known ≡ so_far.known
  known_is at so_far some left =
      let none = left.closed some in
      same_known contents.known so_far.known left.version_is
      (left.mems_are ∙ (ap (λ (ms : List Mem). so_far.known.mems ++ ms) none.0 ∙ append-nil so_far.known.mems))
      (left.reducers_are ∙ (ap (λ (rs : List Reducer). so_far.known.reducers ++ rs) none.1 ∙ append-nil so_far.known.reducers))

  -- one more row of a function
  left_row : (at : ℕ) (so_far : Draft) (item : Item) (row : Row) (left : IsLeft (at + 1) (extended at so_far item)) → (extended at so_far item).known ≡ so_far.known
      → 1 ≤ begun (extended at so_far item) → row.line ≡ at → LineMeans names at so_far row.text item → IsRest so_far.functions so_far.current (row ∷ left.left) → IsLeft at so_far
  left_row at so_far item row left same some line here rest =
      let none = left.closed some in
      let known = known_is (at + 1) (extended at so_far item) some left ∙ same in
      let alone : all_rows left.ms left.rs left.left ≡ left.left =
      ap (λ (ms : List Mem). all_rows ms left.rs left.left) none.0 ∙ ap (λ (rs : List Reducer). all_rows [] rs left.left) none.1 in
      record {
        ms = [];
        rs = [];
        left = row ∷ left.left;
        version_is = ap (λ (k : Known). k.version) known;
        mems_are = ap (λ (k : Known). k.mems) known ∙ sym (append-nil so_far.known.mems);
        reducers_are = ap (λ (k : Known). k.reducers) known ∙ sym (append-nil so_far.known.reducers);
        later_mems = tt;
        later_reducers = tt;
        later = (omega (arith, line), subst (λ (t : List Row). AreLater line_of_row at t) alone (later_weaker line_of_row at _ left.later));
        closed = λ _. (refl, refl);
        rest = rest;
        means = row_here at row left.left so_far item line here
            (subst (λ (t : List Row). LinesMean names (at + 1) (extended at so_far item) (lines_from (at + 1) t) contents) alone left.means);
      }

  one_begun : (functions : List Code) (current : Option Open) (d : Open) → current ≡ Some d → 1 ≤ begun_by functions current
  one_begun functions current d e = subst (λ (c : Option Open). 1 ≤ begun_by functions c) (sym e) (omega arith)

  left_begin : (at : ℕ) (so_far : Draft) (line : List ℕ) (name parameter : List ℕ) → IsKept names so_far → LineMeans names at so_far line (Begins name parameter)
      → IsLeft (at + 1) (extended at so_far (Begins name parameter)) → IsLeft at so_far
  left_begin at so_far line name parameter kept m left =
      let left_open : IsOpen so_far.functions (first_open at name parameter) left.left = left.rest in
      let code = left_open.code in
      let here = plain_here at so_far line (Begins name parameter) [] kept m in
      let text : (begin_row code).text ≡ spaced (codes "func" ∷ name ∷ parameter ∷ []) =
      ap (λ (n : List ℕ). spaced (codes "func" ∷ n ∷ code.parameter ∷ [])) left_open.name_is ∙ ap (λ (p : List ℕ). spaced (codes "func" ∷ name ∷ p ∷ [])) left_open.parameter_is in
      let whole : begin_row code ∷ left.left ≡ functions_left (code ∷ left_open.behind) =
      ap (λ (t : List Row). begin_row code ∷ t)
      (left_open.left_is ∙ (ap (λ (t : List Row). t ++ end_row code ∷ functions_left left_open.behind) (sym left_open.body_is)
      ∙ sym (append_assoc (rows_of code.registers code.body) (end_row code ∷ []) (functions_left left_open.behind)))) in
      let rest : IsRest so_far.functions None (begin_row code ∷ left.left) = (code ∷ left_open.behind, left_open.functions_are, whole) in
      left_row at so_far (Begins name parameter) (begin_row code) left refl (omega arith) left_open.line_is
      (subst (λ (l : List ℕ). LineMeans names at so_far l (Begins name parameter)) (sym text) here)
      (subst (λ (c : Option Open). IsRest so_far.functions c (begin_row code ∷ left.left)) (sym m.3) rest)

  -- ---- statements

  statement_text : (so_far : Draft) (registers : List (List ℕ)) (statement : Statement) → contents.known ≡ so_far.known
      → (statement_row contents.known names registers statement).text ≡ spaced (statement_words (record { known = so_far.known; functions = names; begun = 0; registers = registers }) statement)
  statement_text so_far registers statement e =
      ap (λ (k : Known). (statement_row k names registers statement).text) e

  -- a line that adds a statement to the open function
  left_statement : (at : ℕ) (so_far : Draft) (line : List ℕ) (item : Item) (c d : Open) (statement : Statement) (named : List (List ℕ))
      → so_far.current ≡ Some c → (extended at so_far item).current ≡ Some d → (extended at so_far item).functions ≡ so_far.functions → (extended at so_far item).known ≡ so_far.known
      → d.name ≡ c.name → d.parameter ≡ c.parameter → d.line ≡ c.line → d.registers ≡ c.registers ++ named → registers_behind (scope_of names so_far) item ≡ c.registers ++ named
      → ((registers : List (List ℕ)) → rows_of registers d.body ≡ rows_of registers c.body ++ statement_row contents.known names registers statement ∷ [])
      → line_of statement ≡ at → ((scope : NameScope) → item_words scope item ≡ statement_words scope statement)
      → IsKept names so_far → LineMeans names at so_far line item → IsLeft (at + 1) (extended at so_far item) → IsLeft at so_far
  left_statement at so_far line item c d statement named e f functions known name parameter begin registers with body own same_words kept m left =
      let some : 1 ≤ begun (extended at so_far item) = one_begun (extended at so_far item).functions (extended at so_far item).current d f in
      let left_open : IsOpen so_far.functions d left.left =
      subst (λ (fs : List Code). IsOpen fs d left.left) functions (subst (λ (o : Option Open). IsRest (extended at so_far item).functions o left.left) f left.rest) in
      let all = left_open.code.registers in
      let row : Row = statement_row contents.known names all statement in
      let alike : all ≡ registers_behind (scope_of names so_far) item ++ left_open.more =
      left_open.registers_are ∙ ap (λ (t : List (List ℕ)). t ++ left_open.more) (registers ∙ sym with) in
      let text : row.text ≡ spaced (item_words (scope_behind (scope_of names so_far) item left_open.more) item) =
      statement_text so_far all statement (known_is (at + 1) (extended at so_far item) some left ∙ known)
      ∙ (ap (λ (t : List (List ℕ)). spaced (statement_words (record { known = so_far.known; functions = names; begun = 0; registers = t }) statement)) alike
      ∙ ap spaced (sym (same_words (scope_behind (scope_of names so_far) item left_open.more)))) in
      let here : LineMeans names at so_far row.text item =
      subst (λ (l : List ℕ). LineMeans names at so_far l item) (sym text) (plain_here at so_far line item left_open.more kept m) in
      let rest : IsOpen so_far.functions c (row ∷ left.left) = record {
        code = left_open.code;
        behind = left_open.behind;
        more = named ++ left_open.more;
        rest = row ∷ left_open.rest;
        functions_are = left_open.functions_are;
        name_is = left_open.name_is ∙ name;
        parameter_is = left_open.parameter_is ∙ parameter;
        line_is = left_open.line_is ∙ begin;
        registers_are = left_open.registers_are ∙ (ap (λ (t : List (List ℕ)). t ++ left_open.more) registers ∙ append_assoc c.registers named left_open.more);
        body_is = left_open.body_is ∙ (ap (λ (t : List Row). t ++ left_open.rest) (body all) ∙ append_assoc (rows_of all c.body) (row ∷ []) left_open.rest);
        left_is = ap (λ (t : List Row). row ∷ t) left_open.left_is;
      } in
      left_row at so_far item row left known some own here (subst (λ (o : Option Open). IsRest so_far.functions o (row ∷ left.left)) (sym e) rest)

  some_open : (current : Option Open) → current ≢ None → (c : Open) × (current ≡ Some c)
  some_open None n = absurd (n refl)
  some_open (Some c) n = (c, refl)

  pushed : (registers : List (List ℕ)) (body : List Statement) (statement : Statement)
      → rows_of registers (body ++ statement ∷ []) ≡ rows_of registers body ++ statement_row contents.known names registers statement ∷ []
  pushed registers body statement = map_push (statement_row contents.known names registers) body statement

  pushed_behind : (registers : List (List ℕ)) (place to : ℕ) (body : List Statement) (statement : Statement)
      → rows_of registers (with_end place to body ++ statement ∷ []) ≡ rows_of registers body ++ statement_row contents.known names registers statement ∷ []
  pushed_behind registers place to body statement =
      pushed registers (with_end place to body) statement
      ∙ ap (λ (t : List Row). t ++ statement_row contents.known names registers statement ∷ []) (end_rows contents.known names registers place to body)

  left_does : (at : ℕ) (so_far : Draft) (line : List ℕ) (statement : Statement) (named : Option (List ℕ)) → IsKept names so_far → LineMeans names at so_far line (Does statement named)
      → IsLeft (at + 1) (extended at so_far (Does statement named)) → IsLeft at so_far
  left_does at so_far line statement None kept m left =
      let o = some_open so_far.current m.3 in
      left_statement at so_far line (Does statement None) o.0 (with_statement o.0 statement) statement [] o.1 (ap (option_map (λ c. with_statement c statement)) o.1) refl refl refl refl refl
      (sym (append-nil o.0.registers)) (ap registers_of o.1 ∙ sym (append-nil o.0.registers)) (λ registers. pushed registers o.0.body statement) m.2.1 (λ scope. refl) kept m left
  left_does at so_far line statement (Some name) kept m left =
      let o = some_open so_far.current m.3 in
      left_statement at so_far line (Does statement (Some name)) o.0 (with_statement (with_register o.0 (Some name)) statement) statement (name ∷ []) o.1
      (ap (option_map (λ c. with_statement (with_register c (Some name)) statement)) o.1) refl refl refl refl refl
      refl (ap (λ (c : Option Open). registers_of c ++ name ∷ []) o.1) (λ registers. pushed registers o.0.body statement) m.2.1 (λ scope. refl) kept m left

  left_decides : (at : ℕ) (so_far : Draft) (line : List ℕ) (register : Register) → IsKept names so_far → LineMeans names at so_far line (Decides register)
      → IsLeft (at + 1) (extended at so_far (Decides register)) → IsLeft at so_far
  left_decides at so_far line register kept m left =
      let o = some_open so_far.current m.3 in
      left_statement at so_far line (Decides register) o.0 (with_choice at o.0 register) (If at register 0) [] o.1 (ap (option_map (λ c. with_choice at c register)) o.1) refl refl refl refl refl
      (sym (append-nil o.0.registers)) (ap registers_of o.1 ∙ sym (append-nil o.0.registers)) (λ registers. pushed registers o.0.body (If at register 0)) refl (λ scope. refl) kept m left

  in_part : (current : Option Open) → MatchOption current ⊥ (λ c. IsFirst c.parts) → (c : Open) × (part : Part) × (parts : List Part) × (current ≡ Some c) × (c.parts ≡ part ∷ parts)
  in_part None h = absurd h
  in_part (Some c) h = by c.parts refl h
    where
      by : (parts : List Part) → c.parts ≡ parts → IsFirst parts → (d : Open) × (part : Part) × (others : List Part) × (Some c ≡ Some d) × (d.parts ≡ part ∷ others)
      by [] e k = absurd k
      by (part ∷ others) e k = (c, part, others, refl, e)

  left_else : (at : ℕ) (so_far : Draft) (line : List ℕ) → IsKept names so_far → LineMeans names at so_far line Otherwise → IsLeft (at + 1) (extended at so_far Otherwise) → IsLeft at so_far
  left_else at so_far line kept m left =
      let o = in_part so_far.current m.3 in
      let c = o.0 in
      let f : (extended at so_far Otherwise).current ≡ Some (divided_by at c (o.1 ∷ o.2)) =
      ap (option_map (λ t. divided_by at t t.parts)) o.3 ∙ ap (λ (ps : List Part). Some (divided_by at c ps)) o.4 in
      left_statement at so_far line Otherwise c (divided_by at c (o.1 ∷ o.2)) (Else at 0) [] o.3 f refl refl refl refl refl
      (sym (append-nil c.registers)) (ap registers_of o.3 ∙ sym (append-nil c.registers)) (λ registers. pushed_behind registers o.1.place (length c.body + 1) c.body (Else at 0))
      refl (λ scope. refl) kept m left

  left_end : (at : ℕ) (so_far : Draft) (line : List ℕ) → IsKept names so_far → LineMeans names at so_far line Ends → IsLeft (at + 1) (extended at so_far Ends) → IsLeft at so_far
  left_end at so_far line kept m left =
      let o = some_open so_far.current m.3 in
      by o.0 o.0.parts o.1 refl
    where
      by : (c : Open) (parts : List Part) → so_far.current ≡ Some c → c.parts ≡ parts → IsLeft at so_far
      by c [] e p =
          let same : extended at so_far Ends ≡ ended_by at so_far c [] = ap (ended at so_far) e ∙ ap (ended_by at so_far c) p in
          let code : Code = code_of at c in
          let after : IsLeft (at + 1) (ended_by at so_far c []) = subst (λ (d : Draft). IsLeft (at + 1) d) same left in
          let some : 1 ≤ begun (extended at so_far Ends) =
          subst (λ (d : Draft). 1 ≤ begun d) (sym same) (omega (arith, length-append so_far.functions (code ∷ []))) in
          let rest = subst (λ (d : Draft). IsRest d.functions d.current left.left) same left.rest in
          let left_open : IsOpen so_far.functions c (end_row code ∷ left.left) = record {
            code = code;
            behind = rest.0;
            more = [];
            rest = [];
            functions_are = rest.1 ∙ append_assoc so_far.functions (code ∷ []) rest.0;
            name_is = refl;
            parameter_is = refl;
            line_is = refl;
            registers_are = sym (append-nil c.registers);
            body_is = sym (append-nil (rows_of c.registers c.body));
            left_is = ap (λ (t : List Row). end_row code ∷ t) rest.2;
          } in
          left_row at so_far Ends (end_row code) left (ap (λ (d : Draft). d.known) same) some refl (plain_here at so_far line Ends [] kept m)
          (subst (λ (t : Option Open). IsRest so_far.functions t (end_row code ∷ left.left)) (sym e) left_open)
      by c (part ∷ parts) e p =
          let same : extended at so_far Ends ≡ ended_by at so_far c (part ∷ parts) = ap (ended at so_far) e ∙ ap (ended_by at so_far c) p in
          left_statement at so_far line Ends c (with_part_ended at c part parts) (End at) [] e (ap (λ (d : Draft). d.current) same) (ap (λ (d : Draft). d.functions) same) (ap (λ (d : Draft). d.known) same) refl refl refl
          (sym (append-nil c.registers)) (ap registers_of e ∙ sym (append-nil c.registers)) (λ registers. pushed_behind registers part.place (length c.body + 1) c.body (End at))
          refl (λ scope. refl) kept m left

  left_by : (at : ℕ) (so_far : Draft) (line : List ℕ) (item : Item) → IsKept names so_far → LineMeans names at so_far line item → IsLeft (at + 1) (extended at so_far item) → IsLeft at so_far
  left_by at so_far line Blank kept m left = left_blank at so_far m.0 left
  left_by at so_far line (Declared name count) kept m left = left_memory at so_far line name count kept m left
  left_by at so_far line (Reduces name monoid) kept m left = left_reducer at so_far line name monoid kept m left
  left_by at so_far line (Begins name parameter) kept m left = left_begin at so_far line name parameter kept m left
  left_by at so_far line (Does statement named) kept m left = left_does at so_far line statement named kept m left
  left_by at so_far line (Decides register) kept m left = left_decides at so_far line register kept m left
  left_by at so_far line Otherwise kept m left = left_else at so_far line kept m left
  left_by at so_far line Ends kept m left = left_end at so_far line kept m left

  left_lines : (at : ℕ) (so_far : Draft) (ls : List (List ℕ)) → IsKept names so_far → LinesMean names at so_far ls contents → IsLeft at so_far
  left_lines at so_far [] kept m = left_nothing at so_far m
  left_lines at so_far (line ∷ ls) kept m =
      left_by at so_far line m.0 kept m.1 (left_lines (at + 1) (extended at so_far m.0) ls (kept_extended names at so_far line kept m.0 m.1) m.2)

  texts_of : (at : ℕ) (so_far : Draft) (ls : List (List ℕ)) → LinesMean names at so_far ls contents → AreText ls
  texts_of at so_far [] m = tt
  texts_of at so_far (line ∷ ls) m = (m.1.1, texts_of (at + 1) (extended at so_far m.0) ls m.2)

-- ---- the whole text

plain_by : (ls : List (List ℕ)) (contents : Contents) → LinesOfProgram ls contents → TextMeans (plain_text contents) contents
plain_by [] contents m = absurd m
plain_by (first ∷ rest) contents m =
    let version = contents.known.version in
    let names = names_of contents.functions in
    let body : LinesMean names 2 (nothing version) rest contents =
    subst (λ (ns : List (List ℕ)). LinesMean ns 2 (nothing version) rest contents) (functions_are version rest contents m.1) m.1 in
    let left = left_lines names contents 2 (nothing version) rest (kept_nothing names version) body in
    let behind = left.rest in
    let all : all_rows names contents left.ms left.rs left.left ≡ rows contents =
    ap (λ (ms : List Mem). all_rows names contents ms left.rs left.left) (sym left.mems_are)
    ∙ (ap (λ (rs : List Reducer). all_rows names contents contents.known.mems rs left.left) (sym left.reducers_are)
    ∙ ap (λ (t : List Row). all_rows names contents contents.known.mems contents.known.reducers t)
    (behind.2 ∙ ap (λ (fs : List Code). rows_of_functions contents.known names fs) (sym behind.1))) in
    let means : LinesMean names 2 (nothing version) (lines_from 2 (rows contents)) contents =
    subst (λ (t : List Row). LinesMean names 2 (nothing version) (lines_from 2 t) contents) all left.means in
    let again : LinesMean (functions_of (lines_from 2 (rows contents))) 2 (nothing version) (lines_from 2 (rows contents)) contents =
    subst (λ (ns : List (List ℕ)). LinesMean ns 2 (nothing version) (lines_from 2 (rows contents)) contents)
    (sym (functions_again version (lines_from 2 (rows contents)) contents means)) means in
    let header = plain_header version in
    let same : lines (plain_text contents) ≡ plain_lines contents =
    lines_ended (plain_lines contents) (header.0, texts_of names contents 2 (nothing version) (lines_from 2 (rows contents)) means) in
    subst (λ (ls : List (List ℕ)). LinesOfProgram ls contents) (sym same) (header, again)

-- what some text means, its plain text means
pub plain_means : (text : List ℕ) (contents : Contents) → TextMeans text contents → TextMeans (plain_text contents) contents
plain_means text contents m = plain_by (lines text) contents m
