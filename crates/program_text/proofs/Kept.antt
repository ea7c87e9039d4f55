-- What every program keeps, a line at a time.
use Rattle.std.proofs.Common.{◌≡◌, ℕ, suc, ◌<◌, ◌≤◌, ◌+◌, ◌∷◌, ◌++◌, [], List, Bool, true, false, length, length as len, arith, refl, sym, ap, subst, ◌∙◌, zero-add}
use Rattle.std.specs.Prelude.{Option, Some, None, MatchOption, ◌&&◌, option_map, IsTrue, nat_lt, nat_le}
use Rattle.std.specs.List.{All, list_all}
use Rattle.std.proofs.lemmas.Bool.Decides.{nat_tests}
use Rattle.std.proofs.lemmas.List.{length_push}
use Rattle.std.proofs.lemmas.List.Folds.{list_all-map}
use Rattle.std.proofs.lemmas.List.Sums.{AllPass-from_list_all, list_all-from_AllPass}
use Rattle.std.proofs.lemmas.List.Elements.{All-append, All-from_recursion}
use Rattle.text_words.specs.declared.value.Mem.{Mem}
use Rattle.text_words.specs.declared.value.Version.{Version}
use Rattle.text_words.specs.Text.{words, lines}
use Rattle.model_accesses.specs.Limits.{most_cells}
use Rattle.model_reducers.specs.Limits.{most_reducers}
use Rattle.text_words.specs.Declarations.{cells_of, memory_at, reducer_at}
use Rattle.trace_text.specs.Shapes.{is_numbered}
use Rattle.trace_text.proofs.Kept.{cells_push, numbered_push}
use Rattle.model_bodies.specs.declared.statement.Register.{Register}
use Rattle.model_bodies.specs.declared.statement.Location.{Location}
use Rattle.model_bodies.specs.declared.statement.Location.TheVariants.{Cell, Element}
use Rattle.model_bodies.specs.declared.statement.Statement.{Statement}
use Rattle.model_bodies.specs.declared.statement.Statement.TheVariants.{Read, Write, Bump, Update, Put, Get, Spawn, Call, ParallelFor, If, Else, End}
use Rattle.program_lines.specs.Scopes.{NameScope}
use Rattle.program_lines.specs.Grammar.{Item, Blank, Declared, Reduces, Begins, Does, Decides, Otherwise, Ends, ItemMeans}
use Rattle.program_text.specs.declared.open_function.Part.{Part}
use Rattle.model_bodies.specs.Codes.{Code}
use Rattle.model_bodies.specs.Sound.{max_functions, max_statements, is_located, is_within, has_numbers, IsSoundBody}
use Rattle.model_bodies.specs.Bodies.{part_end}
use Rattle.program_text.specs.Drafts.{Open, Draft, Contents, begun, begun_by, scope_of, with_register, with_statement, with_choice, with_else, divided_by, with_part_ended, with_end, ending, code_of, held}
use Rattle.program_text.specs.Grammar.{IsFirst, LineMeans, LinesMean, extended, ended, ended_by, with_open, nothing}
use Rattle.program_lines.proofs.Within.{IsLocated, IsWithinScope, does_within}
use Rattle.program_text.proofs.Numbers.{does_numbered}
use Rattle.program_text.proofs.Said.{length_said}
use Rattle.program_text.proofs.Linked.{IsBuilt, shape, Plain as PlainShape, built_nothing, built_plain, built_choice, built_else, built_end, map_ended, ended_size, linked_whole, divided_whole, balanced_whole}

-- ---- bodies

abbrev part_none : Statement → Type 0
part_none statement = part_end (Some statement) ≡ None

-- what a body keeps, where there are so many cells, reducers and functions
abbrev pub AreWithin : (cells reducers functions : ℕ) → List Statement → Type 0
AreWithin cells reducers functions body = All (λ statement. IsTrue (is_within cells reducers functions statement)) body

abbrev pub AreNumbered : List Statement → Type 0
AreNumbered body = All (λ statement. IsTrue (has_numbers statement)) body

abbrev pub OpenKept : (cells reducers functions lines : ℕ) → Open → Type 0
OpenKept cells reducers functions lines current =
    IsBuilt current.body current.parts × (length current.body < lines) × AreWithin cells reducers functions current.body × AreNumbered current.body

abbrev pub CurrentKept : (cells reducers functions lines : ℕ) → Option Open → Type 0
CurrentKept cells reducers functions lines None = Unit {0}
CurrentKept cells reducers functions lines (Some current) = OpenKept cells reducers functions lines current

abbrev pub AreSound : (cells reducers functions : ℕ) → List Code → Type 0
AreSound cells reducers functions codes = All (λ code. IsSoundBody cells reducers functions code.body) codes

-- what a test says of each statement, where it does not look at the places that an `if` and an `else` name
module _ (test : Statement → Bool) (same : (to : ℕ) (statement : Statement) → test (ending to statement) ≡ test statement) where
  all_push : (body : List Statement) (statement : Statement) → All (λ s. IsTrue (test s)) body → IsTrue (test statement)
      → All (λ s. IsTrue (test s)) (body ++ statement ∷ [])
  all_push body statement h k =
      All-append (λ (s : Statement). IsTrue (test s)) body (statement ∷ []) h (All-from_recursion (λ (s : Statement). IsTrue (test s)) (statement ∷ []) (k, tt))

  all_ended : (place to : ℕ) (body : List Statement) → All (λ s. IsTrue (test s)) body → All (λ s. IsTrue (test s)) (with_end place to body)
  all_ended place to body h =
      let before : list_all test body ≡ true = list_all-from_AllPass test body h in
      let kept : list_all test (with_end place to body) ≡ list_all test body =
      sym (list_all-map (λ (b : Bool). b) test (with_end place to body))
      ∙ (ap (list_all (λ (b : Bool). b)) (map_ended test same place to body) ∙ list_all-map (λ (b : Bool). b) test body) in
      AllPass-from_list_all test (with_end place to body) (kept ∙ before)

numbers_ending : (to : ℕ) (statement : Statement) → has_numbers (ending to statement) ≡ has_numbers statement
numbers_ending to (If line register otherwise) = refl
numbers_ending to (Else line after) = refl
numbers_ending to statement = refl

numbers_push : (body : List Statement) (statement : Statement) → AreNumbered body → IsTrue (has_numbers statement) → AreNumbered (body ++ statement ∷ [])
numbers_push body statement h k = all_push has_numbers numbers_ending body statement h k

numbers_ended : (place to : ℕ) (body : List Statement) → AreNumbered body → AreNumbered (with_end place to body)
numbers_ended place to body h = all_ended has_numbers numbers_ending place to body h

module _ (cells reducers functions : ℕ) where
  within_ending : (to : ℕ) (statement : Statement) → is_within cells reducers functions (ending to statement) ≡ is_within cells reducers functions statement
  within_ending to (If line register otherwise) = refl
  within_ending to (Else line after) = refl
  within_ending to statement = refl

  within_push : (body : List Statement) (statement : Statement) → AreWithin cells reducers functions body → IsTrue (is_within cells reducers functions statement)
      → AreWithin cells reducers functions (body ++ statement ∷ [])
  within_push body statement h k = all_push (is_within cells reducers functions) within_ending body statement h k

  within_ended : (place to : ℕ) (body : List Statement) → AreWithin cells reducers functions body → AreWithin cells reducers functions (with_end place to body)
  within_ended place to body h = all_ended (is_within cells reducers functions) within_ending place to body h

  -- ---- one more line of the open function

  module _ (n at : ℕ) where
    kept_plain : (current : Open) (statement : Statement) → shape statement ≡ PlainShape → part_none statement → IsTrue (is_within cells reducers functions statement) → IsTrue (has_numbers statement)
        → OpenKept cells reducers functions n current → OpenKept cells reducers functions (n + 1) (with_statement current statement)
    kept_plain current statement plain none within numbers h = (
      built_plain current.body current.parts statement plain none h.0,
      (let l = length_push current.body statement in omega (arith, l, h.1)),
      within_push current.body statement h.2 within,
      numbers_push current.body statement h.3 numbers,
    )

    kept_statement : (current : Open) (named : Option (List ℕ)) (statement : Statement) → shape statement ≡ PlainShape → part_none statement → IsTrue (is_within cells reducers functions statement) → IsTrue (has_numbers statement)
        → OpenKept cells reducers functions n current → OpenKept cells reducers functions (n + 1) (with_statement (with_register current named) statement)
    kept_statement current None statement plain none within numbers h = kept_plain current statement plain none within numbers h
    kept_statement current (Some name) statement plain none within numbers h = kept_plain current statement plain none within numbers h

    kept_choice : (current : Open) (register : Register) → OpenKept cells reducers functions n current → OpenKept cells reducers functions (n + 1) (with_choice at current register)
    kept_choice current register h = (
      built_choice current.body current.parts at register h.0,
      (let l = length_push current.body (If at register 0) in omega (arith, l, h.1)),
      within_push current.body (If at register 0) h.2 refl,
      numbers_push current.body (If at register 0) h.3 refl,
    )

    kept_else : (current : Open) (parts : List Part) → current.parts ≡ parts → IsFirst parts → OpenKept cells reducers functions n current → OpenKept cells reducers functions (n + 1) (divided_by at current parts)
    kept_else current [] e first h = absurd first
    kept_else current (part ∷ parts) e first h =
        let body = with_end part.place (length current.body + 1) current.body in (
          built_else current.body part parts at (subst (λ (ps : List Part). IsBuilt current.body ps) e h.0) first,
          (let l = length_push body (Else at 0) in let s = ended_size part.place (length current.body + 1) current.body in omega (arith, l, s, h.1)),
          within_push body (Else at 0) (within_ended part.place (length current.body + 1) current.body h.2) refl,
          numbers_push body (Else at 0) (numbers_ended part.place (length current.body + 1) current.body h.3) refl,
        )

    kept_end : (current : Open) (part : Part) (parts : List Part) → current.parts ≡ part ∷ parts → OpenKept cells reducers functions n current
        → OpenKept cells reducers functions (n + 1) (with_part_ended at current part parts)
    kept_end current part parts e h =
        let body = with_end part.place (length current.body + 1) current.body in (
          built_end current.body part parts at (subst (λ (ps : List Part). IsBuilt current.body ps) e h.0),
          (let l = length_push body (End at) in let s = ended_size part.place (length current.body + 1) current.body in omega (arith, l, s, h.1)),
          within_push body (End at) (within_ended part.place (length current.body + 1) current.body h.2) refl,
          numbers_push body (End at) (numbers_ended part.place (length current.body + 1) current.body h.3) refl,
        )

    current_map : (f : Open → Open) (current : Option Open) → ((o : Open) → current ≡ Some o → OpenKept cells reducers functions n o → OpenKept cells reducers functions (n + 1) (f o))
        → CurrentKept cells reducers functions n current → CurrentKept cells reducers functions (n + 1) (option_map f current)
    current_map f None h k = tt
    current_map f (Some current) h k = h current refl k

-- ---- drafts

pub record IsKept (names : List (List ℕ)) (so_far : Draft) : Type 0 where
  pub numbered : IsTrue (is_numbered 0 so_far.known.mems)
  pub not_empty : All (λ (mem : Mem). 1 ≤ mem.cells) so_far.known.mems
  pub few_cells : cells_of so_far.known.mems ≤ most_cells
  pub few_reducers : len so_far.known.reducers ≤ most_reducers
  pub few_functions : begun so_far ≤ max_functions
  pub few_lines : so_far.lines ≤ max_statements + 1
  pub sound : AreSound (cells_of so_far.known.mems) (len so_far.known.reducers) (len names) so_far.functions
  pub current : CurrentKept (cells_of so_far.known.mems) (len so_far.known.reducers) (len names) so_far.lines so_far.current

none_begun : (functions : List Code) (current : Option Open) → begun_by functions current ≡ 0 → (functions ≡ []) × (current ≡ None)
none_begun [] None e = (refl, refl)
none_begun (code ∷ functions) None e = let clash : suc (length functions) ≡ 0 = e in absurd (omega (arith, clash))
none_begun functions (Some current) e = absurd (omega (arith, e))

begun_map : (functions : List Code) (f : Open → Open) (current : Option Open) → begun_by functions (option_map f current) ≡ begun_by functions current
begun_map functions f None = refl
begun_map functions f (Some current) = refl

no_codes : (cells reducers functions : ℕ) (codes : List Code) → codes ≡ [] → AreSound cells reducers functions codes
no_codes cells reducers functions codes e =
    subst (λ (cs : List Code). AreSound cells reducers functions cs) (sym e) (All-from_recursion (λ (code : Code). IsSoundBody cells reducers functions code.body) [] tt)

no_current : (cells reducers functions lines : ℕ) (current : Option Open) → current ≡ None → CurrentKept cells reducers functions lines current
no_current cells reducers functions lines current e = subst (λ (c : Option Open). CurrentKept cells reducers functions lines c) (sym e) tt

located : (scope : NameScope) (location : Location) → IsLocated scope location → IsTrue (is_located (cells_of scope.known.mems) location)
located scope (Cell cell) h = grind (arith, nat_tests)
located scope (Element first count index) h = both (nat_lt 0 count) (nat_le (first + count) (cells_of scope.known.mems)) (grind (arith, nat_tests)) (grind (arith, nat_tests))
  where
    both : (a b : Bool) → IsTrue a → IsTrue b → IsTrue (a && b)
    both true b h k = k
    both false b h k = cc

below : (m n : ℕ) → m < n → IsTrue (nat_lt m n)
below m n h = grind (arith, nat_tests)

within_scope : (scope : NameScope) (statement : Statement) → IsWithinScope scope statement
    → IsTrue (is_within (cells_of scope.known.mems) (len scope.known.reducers) (len scope.functions) statement)
within_scope scope (Read line register location) h = located scope location h
within_scope scope (Write line location value) h = located scope location h
within_scope scope (Bump line location value) h = located scope location h
within_scope scope (Update line reducer value) h = below reducer (len scope.known.reducers) h
within_scope scope (Put line reducer value) h = below reducer (len scope.known.reducers) h
within_scope scope (Get line register reducer) h = below reducer (len scope.known.reducers) h
within_scope scope (Spawn line function argument) h = below function (len scope.functions) h
within_scope scope (Call line function argument) h = below function (len scope.functions) h
within_scope scope (ParallelFor line register count function) h = below function (len scope.functions) h
within_scope scope statement h = refl

plain_shape : (at : ℕ) (scope : NameScope) (ws : List (List ℕ)) (statement : Statement) (named : Option (List ℕ)) → ItemMeans at scope ws (Does statement named)
    → (shape statement ≡ PlainShape) × part_none statement
plain_shape at scope ws (If line register otherwise) named m = absurd m.0
plain_shape at scope ws (Else line after) named m = absurd m.0
plain_shape at scope ws (End line) named m = absurd m.0
plain_shape at scope ws statement named m = (refl, refl)

module _ (names : List (List ℕ)) (at : ℕ) (before : Draft) (line : List ℕ) (kept : IsKept names before) where
  -- the open function grew
  kept_open : (f : Open → Open) → before.lines ≤ max_statements
      → ((o : Open) → before.current ≡ Some o → OpenKept (cells_of before.known.mems) (len before.known.reducers) (len names) before.lines o
      → OpenKept (cells_of before.known.mems) (len before.known.reducers) (len names) (before.lines + 1) (f o))
      → IsKept names (with_open before (option_map f before.current))
  kept_open f room h = record {
    numbered = kept.numbered;
    not_empty = kept.not_empty;
    few_cells = kept.few_cells;
    few_reducers = kept.few_reducers;
    few_functions = let e = begun_map before.functions f before.current in omega (arith, e, kept.few_functions);
    few_lines = omega (arith, room);
    sound = kept.sound;
    current = current_map (cells_of before.known.mems) (len before.known.reducers) (len names) before.lines at f before.current h kept.current;
  }

  ended_kept_by : (current : Open) (parts : List Part) → before.lines ≤ max_statements → before.current ≡ Some current → current.parts ≡ parts
      → OpenKept (cells_of before.known.mems) (len before.known.reducers) (len names) before.lines current → IsKept names (ended_by at before current parts)
  ended_kept_by current [] room e none h =
      let built : IsBuilt current.body [] = subst (λ (ps : List Part). IsBuilt current.body ps) none h.0 in
      let count : begun before ≡ length before.functions + 1 = ap (begun_by before.functions) e in
      record {
        numbered = kept.numbered;
        not_empty = kept.not_empty;
        few_cells = kept.few_cells;
        few_reducers = kept.few_reducers;
        few_functions = let l = length_push before.functions (code_of at current) in omega (arith, l, count, kept.few_functions);
        few_lines = omega (arith, room);
        sound = All-append (λ (code : Code). IsSoundBody (cells_of before.known.mems) (len before.known.reducers) (len names) code.body) before.functions (code_of at current ∷ []) kept.sound
            (All-from_recursion (λ (code : Code). IsSoundBody (cells_of before.known.mems) (len before.known.reducers) (len names) code.body) (code_of at current ∷ [])
            (record { few = omega (arith, h.1, room); within = h.2; numbers = h.3; linked = linked_whole current.body built; divided = divided_whole current.body built; balanced = balanced_whole current.body built }, tt));
        current = tt;
      }
  ended_kept_by current (part ∷ parts) room e some h = record {
    numbered = kept.numbered;
    not_empty = kept.not_empty;
    few_cells = kept.few_cells;
    few_reducers = kept.few_reducers;
    few_functions = let count : begun before ≡ length before.functions + 1 = ap (begun_by before.functions) e in omega (arith, count, kept.few_functions);
    few_lines = omega (arith, room);
    sound = kept.sound;
    current = kept_end (cells_of before.known.mems) (len before.known.reducers) (len names) before.lines at current part parts some h;
  }

  ended_kept : (current : Option Open) → before.lines ≤ max_statements → before.current ≡ current
      → CurrentKept (cells_of before.known.mems) (len before.known.reducers) (len names) before.lines current → IsKept names (ended at before current)
  ended_kept None room e h = kept
  ended_kept (Some current) room e h = ended_kept_by current current.parts room e refl h

  pub kept_extended : (item : Item) → LineMeans names at before line item → IsKept names (extended at before item)
  kept_extended Blank m = kept
  kept_extended (Declared name length) m =
      let mem = memory_at at before.known.mems name length in
      let none = none_begun before.functions before.current m.3 in
      record {
        numbered = numbered_push 0 before.known.mems mem kept.numbered (sym (zero-add (cells_of before.known.mems)));
        not_empty = All-append (λ (x : Mem). 1 ≤ x.cells) before.known.mems (mem ∷ []) kept.not_empty
            (All-from_recursion (λ (x : Mem). 1 ≤ x.cells) (mem ∷ []) (length_said (scope_of names before) (words line) name length m.2, tt));
        few_cells = let e = cells_push before.known.mems mem in omega (arith, e, m.4);
        few_reducers = kept.few_reducers;
        few_functions = kept.few_functions;
        few_lines = kept.few_lines;
        sound = no_codes _ _ _ before.functions none.0;
        current = no_current _ _ _ _ before.current none.1;
      }
  kept_extended (Reduces name monoid) m =
      let none = none_begun before.functions before.current m.3 in
      record {
        numbered = kept.numbered;
        not_empty = kept.not_empty;
        few_cells = kept.few_cells;
        few_reducers = let e = length_push before.known.reducers (reducer_at at name monoid) in omega (arith, e, m.4);
        few_functions = kept.few_functions;
        few_lines = kept.few_lines;
        sound = no_codes _ _ _ before.functions none.0;
        current = no_current _ _ _ _ before.current none.1;
      }
  kept_extended (Begins name parameter) m = record {
    numbered = kept.numbered;
    not_empty = kept.not_empty;
    few_cells = kept.few_cells;
    few_reducers = kept.few_reducers;
    few_functions = let e : begun before ≡ len before.functions = ap (begun_by before.functions) m.3 in omega (arith, e, m.4.1);
    few_lines = omega (arith, m.4.0);
    sound = kept.sound;
    current = (
      built_nothing,
      omega arith,
      All-from_recursion (λ (s : Statement). IsTrue (is_within (cells_of before.known.mems) (len before.known.reducers) (len names) s)) [] tt,
      All-from_recursion (λ (s : Statement). IsTrue (has_numbers s)) [] tt,
    );
  }
  kept_extended (Does statement named) m =
      let plain = plain_shape at (scope_of names before) (words line) statement named m.2 in
      let within = within_scope (scope_of names before) statement
      (does_within (scope_of names before) kept.numbered kept.not_empty at (words line) statement named m.2) in
      kept_open (λ current. with_statement (with_register current named) statement) m.4
      (λ o is. kept_statement (cells_of before.known.mems) (len before.known.reducers) (len names) before.lines at o named statement plain.0 plain.1 within
      (does_numbered (scope_of names before) at (words line) statement named m.2))
  kept_extended (Decides register) m =
      kept_open (λ current. with_choice at current register) m.4.0
      (λ o is. kept_choice (cells_of before.known.mems) (len before.known.reducers) (len names) before.lines at o register)
  kept_extended Otherwise m =
      kept_open (λ current. with_else at current) m.4
      (λ o is. kept_else (cells_of before.known.mems) (len before.known.reducers) (len names) before.lines at o o.parts refl
      (subst (λ (current : Option Open). MatchOption current ⊥ (λ (c : Open). IsFirst c.parts)) is m.3))
  kept_extended Ends m = ended_kept before.current m.4 refl kept.current

pub kept_nothing : (names : List (List ℕ)) (version : Version) → IsKept names (nothing version)
kept_nothing names version = record {
  numbered = refl;
  not_empty = All-from_recursion (λ (mem : Mem). 1 ≤ mem.cells) [] tt;
  few_cells = omega arith;
  few_reducers = omega arith;
  few_functions = omega arith;
  few_lines = omega arith;
  sound = no_codes 0 0 (len names) [] refl;
  current = tt;
}

-- what is read at the end
pub record IsHeld (names : List (List ℕ)) (contents : Contents) : Type 0 where
  pub last : Draft
  pub kept : IsKept names last
  pub none_open : last.current ≡ None
  pub is : contents ≡ held last

pub kept_lines : (names : List (List ℕ)) (at : ℕ) (before : Draft) (ls : List (List ℕ)) (contents : Contents) → IsKept names before → LinesMean names at before ls contents
    → IsHeld names contents
kept_lines names at before [] contents kept m = record { last = before; kept = kept; none_open = m.0; is = m.2 }
kept_lines names at before (line ∷ ls) contents kept m =
    kept_lines names (at + 1) (extended at before m.0) ls contents (kept_extended names at before line kept m.0 m.1) m.2
