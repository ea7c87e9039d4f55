-- Each statement and each `end` of a program that a text means stands on a line of the text, and `bump` in version 2 alone.
use Rattle.std.proofs.Common.{◌≡◌, ℕ, ◌+◌, ◌≤◌, ◌∷◌, ◌++◌, [], List, Option, Some, None, arith, refl, sym, subst}
use Rattle.std.specs.Prelude.{slice_get, option_map}
use Rattle.std.specs.List.{AllByRecursion}
use Rattle.text_words.specs.declared.value.Version.{Version}
use Rattle.text_words.specs.Text.{lines, words}
use Rattle.text_words.specs.Limits.{most_lines}
use Rattle.text_words.specs.Names.{IsSecond}
use Rattle.model_bodies.specs.declared.statement.Statement.{Statement}
use Rattle.model_bodies.specs.declared.statement.Statement.TheVariants.{Bump, If, Else, End}
use Rattle.program_lines.specs.Grammar.{Item, Blank, Declared, Reduces, Begins, Does, Decides, Otherwise, Ends, ItemMeans}
use Rattle.model_bodies.specs.Lines.{line_of}
use Rattle.program_text.specs.declared.open_function.Part.{Part}
use Rattle.model_bodies.specs.Codes.{Code}
use Rattle.program_text.specs.Drafts.{Open, Draft, Contents, scope_of, with_register, with_statement, with_choice, with_else, divided_by, with_end, ended_at, ending, code_of}
use Rattle.program_text.specs.Grammar.{LineMeans, LinesMean, LinesOfProgram, TextMeans, extended, ended, ended_by, nothing}
use Rattle.run_traces.proofs.Elements.{get_all, set_all, append_all}

abbrev pub IsLine : ℕ → Type 0
IsLine line = (1 ≤ line) × (line ≤ most_lines)

abbrev pub HasBump : Version → Statement → Type 0
HasBump version (Bump line location value) = IsSecond version
HasBump version statement = Unit {0}

abbrev pub IsMarked : Version → Statement → Type 0
IsMarked version statement = IsLine (line_of statement) × HasBump version statement

abbrev pub AreMarked : Version → List Statement → Type 0
AreMarked version body = AllByRecursion (IsMarked version) body

abbrev pub IsMarkedCode : Version → Code → Type 0
IsMarkedCode version code = IsLine code.end_line × AreMarked version code.body

abbrev IsMarkedOpen : Version → Option Open → Type 0
IsMarkedOpen version None = Unit {0}
IsMarkedOpen version (Some current) = AreMarked version current.body

abbrev IsMarkedDraft : Version → Draft → Type 0
IsMarkedDraft version so_far =
    (so_far.known.version ≡ version) × AllByRecursion (IsMarkedCode version) so_far.functions × IsMarkedOpen version so_far.current

ending_marked : (version : Version) (to : ℕ) (statement : Statement) → IsMarked version statement → IsMarked version (ending to statement)
ending_marked version to (If line register otherwise) h = h
ending_marked version to (Else line after) h = h
ending_marked version to statement h = h

ended_marked : (version : Version) (place to : ℕ) (body : List Statement) → AreMarked version body → AreMarked version (with_end place to body)
ended_marked version place to body h = by (slice_get body place) refl
  where
    by : (o : Option Statement) → slice_get body place ≡ o → AreMarked version (ended_at o place to body)
    by None e = h
    by (Some s) e = set_all (IsMarked version) body place (ending to s) h (ending_marked version to s (get_all (IsMarked version) body place s h e))

push_marked : (version : Version) (body : List Statement) (statement : Statement) → AreMarked version body → IsMarked version statement
    → AreMarked version (body ++ statement ∷ [])
push_marked version body statement h k = append_all (IsMarked version) body (statement ∷ []) h (k, tt)

statement_marked : (version : Version) (current : Open) (named : Option (List ℕ)) (statement : Statement) → AreMarked version current.body → IsMarked version statement
    → AreMarked version (with_statement (with_register current named) statement).body
statement_marked version current None statement h k = push_marked version current.body statement h k
statement_marked version current (Some name) statement h k = push_marked version current.body statement h k

map_marked : (version : Version) (f : Open → Open) (current : Option Open) → ((o : Open) → AreMarked version o.body → AreMarked version (f o).body) → IsMarkedOpen version current
    → IsMarkedOpen version (option_map f current)
map_marked version f None g h = tt
map_marked version f (Some o) g h = g o h

divided_marked : (version : Version) (at : ℕ) (current : Open) (parts : List Part) → IsLine at → AreMarked version current.body → AreMarked version (divided_by at current parts).body
divided_marked version at current [] l h = h
divided_marked version at current (part ∷ parts) l h =
    push_marked version (with_end part.place _ current.body) (Else at 0) (ended_marked version part.place _ current.body h) (l, tt)

ended_by_marked : (version : Version) (at : ℕ) (before : Draft) (current : Open) (parts : List Part) → IsLine at → IsMarkedDraft version before → AreMarked version current.body
    → IsMarkedDraft version (ended_by at before current parts)
ended_by_marked version at before current [] l h k =
    (h.0, append_all (IsMarkedCode version) before.functions (code_of at current ∷ []) h.1 ((l, k), tt), tt)
ended_by_marked version at before current (part ∷ parts) l h k =
    (h.0, h.1, push_marked version (with_end part.place _ current.body) (End at) (ended_marked version part.place _ current.body k) (l, tt))

all_ended : (version : Version) (at : ℕ) (before : Draft) (current : Option Open) → IsLine at → IsMarkedDraft version before → IsMarkedOpen version current
    → IsMarkedDraft version (ended at before current)
all_ended version at before None l h k = h
all_ended version at before (Some current) l h k = ended_by_marked version at before current current.parts l h k

has_bump : (version : Version) (names : List (List ℕ)) (at : ℕ) (before : Draft) (ws : List (List ℕ)) (statement : Statement) (named : Option (List ℕ)) → before.known.version ≡ version
    → ItemMeans at (scope_of names before) ws (Does statement named) → HasBump version statement
has_bump version names at before ws (Bump line location value) named e m = subst IsSecond e m.2.1.2
has_bump version names at before ws statement named e m = tt

does_marked : (version : Version) (names : List (List ℕ)) (at : ℕ) (before : Draft) (ws : List (List ℕ)) (statement : Statement) (named : Option (List ℕ)) → IsLine at → before.known.version ≡ version
    → ItemMeans at (scope_of names before) ws (Does statement named) → IsMarked version statement
does_marked version names at before ws statement named l e m = (subst IsLine (sym m.1) l, has_bump version names at before ws statement named e m)

extended_marked : (version : Version) (names : List (List ℕ)) (at : ℕ) (before : Draft) (line : List ℕ) (item : Item) → 1 ≤ at → LineMeans names at before line item → IsMarkedDraft version before
    → IsMarkedDraft version (extended at before item)
extended_marked version names at before line Blank l m h = h
extended_marked version names at before line (Declared name length) l m h = h
extended_marked version names at before line (Reduces name monoid) l m h = h
extended_marked version names at before line (Begins name parameter) l m h = (h.0, h.1, tt)
extended_marked version names at before line (Does statement named) l m h =
    let k = does_marked version names at before (words line) statement named (l, m.0) h.0 m.2 in
    (h.0, h.1, map_marked version (λ current. with_statement (with_register current named) statement) before.current (λ o b. statement_marked version o named statement b k) h.2)
extended_marked version names at before line (Decides register) l m h =
    (h.0, h.1, map_marked version (λ current. with_choice at current register) before.current (λ o b. push_marked version o.body (If at register 0) b ((l, m.0), tt)) h.2)
extended_marked version names at before line Otherwise l m h =
    (h.0, h.1, map_marked version (λ current. with_else at current) before.current (λ o b. divided_marked version at o o.parts (l, m.0) b) h.2)
extended_marked version names at before line Ends l m h = all_ended version at before before.current (l, m.0) h h.2

lines_marked : (version : Version) (names : List (List ℕ)) (at : ℕ) (before : Draft) (ls : List (List ℕ)) (contents : Contents) → 1 ≤ at → LinesMean names at before ls contents → IsMarkedDraft version before
    → AllByRecursion (IsMarkedCode version) contents.functions
lines_marked version names at before [] contents l m h = subst (λ (c : Contents). AllByRecursion (IsMarkedCode version) c.functions) (sym m.2) h.1
lines_marked version names at before (line ∷ ls) contents l m h =
    lines_marked version names (at + 1) (extended at before m.0) ls contents (omega arith) m.2 (extended_marked version names at before line m.0 l m.1 h)

marked_by : (ls : List (List ℕ)) (contents : Contents) → LinesOfProgram ls contents → AllByRecursion (IsMarkedCode contents.known.version) contents.functions
marked_by [] contents m = absurd m
marked_by (first ∷ rest) contents m = lines_marked contents.known.version _ 2 (nothing contents.known.version) rest contents (omega arith) m.1 (refl, tt, tt)

pub marked_of_text : (text : List ℕ) (contents : Contents) → TextMeans text contents → AllByRecursion (IsMarkedCode contents.known.version) contents.functions
marked_of_text text contents m = marked_by (lines text) contents m
