-- The functions that the lines of a program make known are those that it has.
use Rattle.std.proofs.Common.{◌≡◌, ℕ, suc, ◌+◌, ◌<◌, ◌≤◌, ◌∷◌, ◌++◌, [], List, Bool, true, false, cond, length, arith, refl, sym, ap, ◌∙◌, subst, append_assoc}
use Rattle.std.proofs.Common.{length-append}
use Rattle.std.specs.Prelude.{◌&&◌, ◌||◌, IsTrue, Option, Some, None, codes, option_map}
use Rattle.std.specs.List.{list_all, list_any, position_from, position_or_len, before_first}
use Rattle.std.specs.Str.{bytes_eq}
use Rattle.std.proofs.lemmas.List.{append-nil, length-map, map_push}
use Rattle.std.proofs.lemmas.List.Sums.{list_all-from_AllPass}
use Rattle.std.proofs.lemmas.List.Elements.{All-take}
use Rattle.text_words.specs.Text.{words, IsTextLine, is_hash, is_text_byte}
use Rattle.text_words.specs.declared.value.Version.{Version}
use Rattle.program_lines.specs.declared.keyword.Keyword.{Keyword}
use Rattle.program_lines.specs.declared.keyword.Keyword.TheVariants as word
use Rattle.model_bodies.specs.declared.statement.Statement.{Statement}
use Rattle.model_bodies.specs.declared.statement.Statement.TheVariants.{Let, Read, Write, Bump, Update, Put, Get, Spawn, Call, Sync, ParallelFor, If, Else, End}
use Rattle.program_lines.specs.Scopes.{NameScope}
use Rattle.program_lines.specs.Places.{Value}
use Rattle.program_lines.specs.Table.{spelling, Says}
use Rattle.program_lines.specs.Grammar.{Item, Blank, Declared, Reduces, Begins, Does, Decides, Otherwise, Ends, keyword_of_statement}
use Rattle.program_text.specs.declared.open_function.Part.{Part}
use Rattle.model_bodies.specs.Codes.{Code}
use Rattle.program_text.specs.Functions.{is_name_word, function_in, function_named, with_function, functions_from, functions_of}
use Rattle.program_text.specs.Drafts.{Open, Draft, Contents, begun, begun_by, scope_of, code_of, with_register, divided_by}
use Rattle.program_text.specs.Grammar.{IsInOrder, LineMeans, LinesMean, extended, ended, ended_by, nothing}
use Rattle.program_text.specs.Printing.{names_of}
use Rattle.program_text.proofs.Knowing.{word_of_name}
use Rattle.program_text.proofs.Said.{begins_words}

-- ---- names of the functions that have begun

abbrev pub current_name : Option Open → List (List ℕ)
current_name None = []
current_name (Some current) = current.name ∷ []

abbrev pub begun_names : Draft → List (List ℕ)
begun_names so_far = names_of so_far.functions ++ current_name so_far.current

count_begun : (so_far : Draft) → length (begun_names so_far) ≡ begun so_far
count_begun so_far = by so_far.functions so_far.current
  where
    by : (functions : List Code) (current : Option Open) → length (names_of functions ++ current_name current) ≡ begun_by functions current
    by functions None = ap length (append-nil (names_of functions)) ∙ length-map functions _
    by functions (Some current) =
        length-append (names_of functions) (current.name ∷ []) ∙ ap (λ (n : ℕ). n + 1) (length-map functions (λ (code : Code). code.name))

-- the names that one more item makes known
abbrev pub names_in : Item → List (List ℕ)
names_in (Begins name parameter) = name ∷ []
names_in item = []

name_kept : (current : Open) (named : Option (List ℕ)) → (with_register current named).name ≡ current.name
name_kept current None = refl
name_kept current (Some name) = refl

named_kept : (f : Open → Open) (current : Option Open) → ((c : Open) → (f c).name ≡ c.name) → current_name (option_map f current) ≡ current_name current
named_kept f None h = refl
named_kept f (Some current) h = ap (λ (n : List ℕ). n ∷ []) (h current)

ended_names : (at : ℕ) (so_far : Draft) (current : Option Open) → so_far.current ≡ current → begun_names (ended at so_far current) ≡ begun_names so_far
ended_names at so_far None e = refl
ended_names at so_far (Some current) e = by current.parts
  where
    closed : names_of (so_far.functions ++ code_of at current ∷ []) ++ [] ≡ names_of so_far.functions ++ current.name ∷ []
    closed = append-nil _ ∙ map_push (λ (code : Code). code.name) so_far.functions (code_of at current)

    by : (parts : List Part) → begun_names (ended_by at so_far current parts) ≡ begun_names so_far
    by [] = closed ∙ ap (λ (c : Option Open). names_of so_far.functions ++ current_name c) (sym e)
    by (part ∷ parts) = ap (λ (c : Option Open). names_of so_far.functions ++ current_name c) (sym e)

divided_name : (at : ℕ) (current : Open) (parts : List Part) → (divided_by at current parts).name ≡ current.name
divided_name at current [] = refl
divided_name at current (part ∷ parts) = refl

pub extended_names : (at : ℕ) (so_far : Draft) (item : Item) → IsInOrder so_far item → begun_names (extended at so_far item) ≡ begun_names so_far ++ names_in item
extended_names at so_far Blank o = sym (append-nil _)
extended_names at so_far (Declared name count) o = sym (append-nil _)
extended_names at so_far (Reduces name monoid) o = sym (append-nil _)
extended_names at so_far (Begins name parameter) o =
    ap (λ (t : List (List ℕ)). t ++ name ∷ []) (sym (append-nil (names_of so_far.functions)) ∙ ap (λ (c : Option Open). names_of so_far.functions ++ current_name c) (sym o))
extended_names at so_far (Does statement named) o =
    ap (λ (t : List (List ℕ)). names_of so_far.functions ++ t) (named_kept _ so_far.current (λ c. name_kept c named)) ∙ sym (append-nil _)
extended_names at so_far (Decides register) o = ap (λ (t : List (List ℕ)). names_of so_far.functions ++ t) (named_kept _ so_far.current (λ c. refl)) ∙ sym (append-nil _)
extended_names at so_far Otherwise o = ap (λ (t : List (List ℕ)). names_of so_far.functions ++ t) (named_kept _ so_far.current (λ c. divided_name at c c.parts)) ∙ sym (append-nil _)
extended_names at so_far Ends o = ended_names at so_far so_far.current refl ∙ sym (append-nil _)

-- ---- what a line makes known

other_word : (first : List ℕ) (arguments : List (List ℕ)) → bytes_eq first (codes "func") ≡ false → function_in (first ∷ arguments) ≡ None
other_word first [] e = refl
other_word first (name ∷ []) e = refl
other_word first (name ∷ parameter ∷ []) e = ap (λ (b : Bool). cond (b && is_name_word name && is_name_word parameter) (Some name) None) e
other_word first (name ∷ parameter ∷ more ∷ rest) e = refl

statement_word : (statement : Statement) → bytes_eq (spelling (keyword_of_statement statement)) (codes "func") ≡ false
statement_word (Let line register value) = refl
statement_word (Read line register location) = refl
statement_word (Write line location value) = refl
statement_word (Bump line location value) = refl
statement_word (Update line reducer value) = refl
statement_word (Put line reducer value) = refl
statement_word (Get line register reducer) = refl
statement_word (Spawn line function argument) = refl
statement_word (Call line function argument) = refl
statement_word (Sync line) = refl
statement_word (ParallelFor line register count function) = refl
statement_word (If line register otherwise) = refl
statement_word (Else line after) = refl
statement_word (End line) = refl

said_none : (scope : NameScope) (ws : List (List ℕ)) (keyword : Keyword) (values : List Value) → bytes_eq (spelling keyword) (codes "func") ≡ false → Says scope ws keyword values → function_in ws ≡ None
said_none scope ws keyword values e says = ap function_in says.1.1 ∙ other_word (spelling keyword) says.1.0 e

-- ---- words of a line

text_before : (line : List ℕ) → IsTextLine line → list_all is_text_byte (before_first is_hash line) ≡ true
text_before line h =
    list_all-from_AllPass is_text_byte (before_first is_hash line) (All-take (λ (byte : ℕ). IsTrue (is_text_byte byte)) (position_or_len is_hash line) line h)

line_names : (line : List ℕ) (r : Option (List ℕ)) → IsTextLine line → function_in (words line) ≡ r → function_named line ≡ r
line_names line r t e = ap (λ (b : Bool). cond b (function_in (words line)) None) (text_before line t) ∙ e

-- a name that has not begun is none of those that have
found_below : (name : List ℕ) (from : ℕ) (names more : List (List ℕ)) → list_any (bytes_eq name) names ≡ true
    → (number : ℕ) × (position_from (bytes_eq name) from (names ++ more) ≡ Some number) × (number < from + length names)
found_below name from [] more e = cc
found_below name from (first ∷ names) more e = by (bytes_eq name first) e (found_below name (from + 1) names more)
  where
    by : (b : Bool) → (b || list_any (bytes_eq name) names) ≡ true
        → (list_any (bytes_eq name) names ≡ true → (number : ℕ) × (position_from (bytes_eq name) (from + 1) (names ++ more) ≡ Some number) × (number < from + 1 + length names))
        → (number : ℕ) × (cond b (Some from) (position_from (bytes_eq name) (from + 1) (names ++ more)) ≡ Some number) × (number < from + suc (length names))
    by true e f = (from, refl, omega arith)
    by false e f = let later = f e in (later.0, later.1, omega (arith, later.2))

bool_cases : (b : Bool) → (b ≡ true → ⊥) → b ≡ false
bool_cases true h = absurd (h refl)
bool_cases false h = refl

not_there : (name : List ℕ) (names more : List (List ℕ)) (count : ℕ) → length names ≡ count
    → ((number : ℕ) → position_from (bytes_eq name) 0 (names ++ more) ≡ Some number → count ≤ number) → list_any (bytes_eq name) names ≡ false
not_there name names more count l h =
    bool_cases (list_any (bytes_eq name) names) (λ e. let f = found_below name 0 names more e in let k = h f.0 f.1 in absurd (omega (arith, k, f.2, l)))

-- what the line of an item makes known
module _ (names more : List (List ℕ)) (at : ℕ) (so_far : Draft) (line : List ℕ) (prefix : names ≡ begun_names so_far ++ more) where
  none_known : function_in (words line) ≡ None → IsTextLine line → with_function (begun_names so_far) (function_named line) ≡ begun_names so_far ++ []
  none_known e t = ap (with_function (begun_names so_far)) (line_names line None t e) ∙ sym (append-nil _)

  pub known_step : (item : Item) → LineMeans names at so_far line item → with_function (begun_names so_far) (function_named line) ≡ begun_names so_far ++ names_in item
  known_step Blank m = none_known (ap function_in m.2) m.1
  known_step (Declared name count) m = none_known (said_none (scope_of names so_far) (words line) word.Mem _ refl m.2) m.1
  known_step (Reduces name monoid) m = none_known (said_none (scope_of names so_far) (words line) word.Reducer _ refl m.2) m.1
  known_step (Does statement named) m = none_known (said_none (scope_of names so_far) (words line) (keyword_of_statement statement) _ (statement_word statement) m.2.2) m.1
  known_step (Decides register) m = none_known (said_none (scope_of names so_far) (words line) word.If _ refl m.2) m.1
  known_step Otherwise m = none_known (said_none (scope_of names so_far) (words line) word.Else _ refl m.2) m.1
  known_step Ends m = none_known (said_none (scope_of names so_far) (words line) word.End _ refl m.2) m.1
  known_step (Begins name parameter) m =
      let says = m.2 in
      let b = begins_words (scope_of names so_far) name parameter says.1.0 says.0 says.1.3 says.2 in
      let ws : words line ≡ codes "func" ∷ name ∷ parameter ∷ [] = says.1.1 ∙ ap (λ (t : List (List ℕ)). codes "func" ∷ t) b.0 in
      let named : function_in (words line) ≡ Some name =
      ap function_in ws
      ∙ (ap (λ (t : Bool). cond (t && is_name_word parameter) (Some name) None) (word_of_name name b.1)
      ∙ ap (λ (t : Bool). cond t (Some name) None) (word_of_name parameter b.2)) in
      let new : list_any (bytes_eq name) (begun_names so_far) ≡ false =
      not_there name (begun_names so_far) more (begun so_far) (count_begun so_far)
      (subst (λ (ns : List (List ℕ)). (number : ℕ) → position_from (bytes_eq name) 0 ns ≡ Some number → begun so_far ≤ number) prefix b.3) in
      ap (with_function (begun_names so_far)) (line_names line (Some name) m.1 named)
      ∙ ap (λ (t : Bool). cond t (begun_names so_far) (begun_names so_far ++ name ∷ [])) new

-- ---- all lines

more_names : (names : List (List ℕ)) (ls : List (List ℕ)) → (more : List (List ℕ)) × (functions_from names ls ≡ names ++ more)
more_names names [] = ([], sym (append-nil names))
more_names names (line ∷ ls) =
    let first = by names (function_named line) in
    let rest = more_names (with_function names (function_named line)) ls in
    (first.0 ++ rest.0, rest.1 ∙ (ap (λ (t : List (List ℕ)). t ++ rest.0) first.1 ∙ append_assoc names first.0 rest.0))
  where
    by_there : (b : Bool) (names : List (List ℕ)) (name : List ℕ) → (more : List (List ℕ)) × (cond b names (names ++ name ∷ []) ≡ names ++ more)
    by_there true names name = ([], sym (append-nil names))
    by_there false names name = (name ∷ [], refl)

    by : (names : List (List ℕ)) (name : Option (List ℕ)) → (more : List (List ℕ)) × (with_function names name ≡ names ++ more)
    by names None = ([], sym (append-nil names))
    by names (Some name) = by_there (list_any (bytes_eq name) names) names name

ended_with : (so_far : Draft) (contents : Contents) → so_far.current ≡ None → contents ≡ record { known = so_far.known; functions = so_far.functions } → names_of contents.functions ≡ begun_names so_far
ended_with so_far contents e f =
    ap (λ (c : Contents). names_of c.functions) f
    ∙ (sym (append-nil (names_of so_far.functions)) ∙ ap (λ (c : Option Open). names_of so_far.functions ++ current_name c) (sym e))

-- the text's functions are those of the program
text_functions : (names : List (List ℕ)) (at : ℕ) (so_far : Draft) (ls : List (List ℕ)) (contents : Contents) → names ≡ functions_from (begun_names so_far) ls
    → LinesMean names at so_far ls contents → names ≡ names_of contents.functions
text_functions names at so_far [] contents e m = e ∙ sym (ended_with so_far contents m.0 m.2)
text_functions names at so_far (line ∷ ls) contents e m =
    let more = more_names (begun_names so_far) (line ∷ ls) in
    let step = known_step names more.0 at so_far line (e ∙ more.1) m.0 m.1 ∙ sym (extended_names at so_far m.0 m.1.3) in
    text_functions names (at + 1) (extended at so_far m.0) ls contents (e ∙ ap (λ (t : List (List ℕ)). functions_from t ls) step) m.2

-- what has begun leads the functions of the program
leads : (names : List (List ℕ)) (at : ℕ) (so_far : Draft) (ls : List (List ℕ)) (contents : Contents) → LinesMean names at so_far ls contents
    → (more : List (List ℕ)) × (names_of contents.functions ≡ begun_names so_far ++ more)
leads names at so_far [] contents m = ([], ended_with so_far contents m.0 m.2 ∙ sym (append-nil _))
leads names at so_far (line ∷ ls) contents m =
    let rest = leads names (at + 1) (extended at so_far m.0) ls contents m.2 in
    (names_in m.0 ++ rest.0, rest.1 ∙ (ap (λ (t : List (List ℕ)). t ++ rest.0) (extended_names at so_far m.0 m.1.3) ∙ append_assoc (begun_names so_far) (names_in m.0) rest.0))

-- lines that are read where the functions are those of the program make these known
lines_functions : (names : List (List ℕ)) (at : ℕ) (so_far : Draft) (ls : List (List ℕ)) (contents : Contents) → names ≡ names_of contents.functions
    → LinesMean names at so_far ls contents → functions_from (begun_names so_far) ls ≡ names_of contents.functions
lines_functions names at so_far [] contents e m = sym (ended_with so_far contents m.0 m.2)
lines_functions names at so_far (line ∷ ls) contents e m =
    let more = leads names at so_far (line ∷ ls) contents m in
    let step = known_step names more.0 at so_far line (e ∙ more.1) m.0 m.1 ∙ sym (extended_names at so_far m.0 m.1.3) in
    ap (λ (t : List (List ℕ)). functions_from t ls) step ∙ lines_functions names (at + 1) (extended at so_far m.0) ls contents e m.2

-- the functions of a text that means a program are the program's
pub functions_are : (version : Version) (ls : List (List ℕ)) (contents : Contents) → LinesMean (functions_of ls) 2 (nothing version) ls contents → functions_of ls ≡ names_of contents.functions
functions_are version ls contents m = text_functions (functions_of ls) 2 (nothing version) ls contents refl m

-- so they are as many
pub as_many : (version : Version) (ls : List (List ℕ)) (contents : Contents) → LinesMean (functions_of ls) 2 (nothing version) ls contents → length (functions_of ls) ≡ length contents.functions
as_many version ls contents m = ap length (functions_are version ls contents m) ∙ length-map contents.functions (λ (code : Code). code.name)

-- and lines that mean it with its functions have these
pub functions_again : (version : Version) (ls : List (List ℕ)) (contents : Contents) → LinesMean (names_of contents.functions) 2 (nothing version) ls contents → functions_of ls ≡ names_of contents.functions
functions_again version ls contents m = lines_functions (names_of contents.functions) 2 (nothing version) ls contents refl m
