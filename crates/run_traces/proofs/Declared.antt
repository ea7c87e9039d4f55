-- What a program declares: names that are new, cells that are numbered, and no limit is passed.
use Rattle.std.proofs.Common.{◌≡◌, ℕ, ◌+◌, ◌<◌, ◌≤◌, ◌∷◌, ◌++◌, [], List, Bool, true, false, cond, length, map, arith, refl, sym, ap, ◌∙◌, subst, append_assoc, zero-add}
use Rattle.std.specs.Prelude.{Option, Some, None, unwrap_or, is_some}
use Rattle.std.specs.List.{AllByRecursion, position_from}
use Rattle.std.specs.Str.{bytes_eq}
use Rattle.std.specs.Cmp.Lexicographic.{bytes_decides}
use Rattle.std.proofs.lemmas.List.{append-nil, map_push, length_push}
use Rattle.text_words.specs.declared.value.Version.{Version}
use Rattle.model_reducers.specs.declared.monoid.Monoid.{Monoid}
use Rattle.text_words.specs.declared.value.Mem.{Mem}
use Rattle.text_words.specs.declared.value.Reducer.{Reducer}
use Rattle.text_words.specs.Text.{lines, words, IsName}
use Rattle.model_accesses.specs.Limits.{most_cells}
use Rattle.model_reducers.specs.Limits.{most_reducers}
use Rattle.text_words.specs.Values.{Known}
use Rattle.text_words.specs.Names.{memory_named, reducer_named, HasMonoid}
use Rattle.text_words.specs.Declarations.{cells_of, memory_at, reducer_at}
use Rattle.trace_text.specs.Lines as trace
use Rattle.trace_text.specs.Lines.{OfName, OfMonoid}
use Rattle.trace_text.proofs.Kept.{cells_cons}
use Rattle.program_lines.specs.declared.keyword.Keyword.TheVariants as word
use Rattle.program_lines.specs.Scopes.{NameScope}
use Rattle.program_lines.specs.Places.{Common, FreshName, Plain, WordMeans}
use Rattle.trace_text.proofs.LineOutcomes.{first_means}
use Rattle.program_lines.specs.Table.{Placed, placed, WordsMean}
use Rattle.program_lines.specs.Grammar.{Item, Blank, Declared, Reduces, Begins, Does, Decides, Otherwise, Ends}
use Rattle.program_text.specs.declared.open_function.Part.{Part}
use Rattle.program_text.specs.Drafts.{Open, Draft, Contents, scope_of}
use Rattle.program_text.specs.Grammar.{LineMeans, LinesMean, LinesOfProgram, TextMeans, extended, ended, ended_by, nothing}
use Rattle.program_text.proofs.Said.{first_said, said, length_said}
use Rattle.run_traces.proofs.Elements.{append_all}

-- ---- names

-- the name is none of these
abbrev pub IsNew : List (List ℕ) → List ℕ → Type 0
IsNew [] name = Unit {0}
IsNew (x ∷ names) name = (bytes_eq name x ≡ false) × IsNew names name

pub new_append : (names more : List (List ℕ)) (name : List ℕ) → IsNew names name → IsNew more name → IsNew (names ++ more) name
new_append [] more name h k = k
new_append (x ∷ names) more name h k = (h.0, new_append names more name h.1 k)

pub new_before : (names more : List (List ℕ)) (name : List ℕ) → IsNew (names ++ more) name → IsNew names name
new_before [] more name h = tt
new_before (x ∷ names) more name h = (h.0, new_before names more name h.1)

pub new_behind : (names more : List (List ℕ)) (name : List ℕ) → IsNew (names ++ more) name → IsNew more name
new_behind [] more name h = h
new_behind (x ∷ names) more name h = new_behind names more name h.1

abbrev pub name_of : Mem → List ℕ
name_of mem = mem.name

abbrev pub reducer_name : Reducer → List ℕ
reducer_name reducer = reducer.name

none_by : {X : Type 0} (b : Bool) (x : X) (rest : Option X) → cond b (Some x) rest ≡ None → (b ≡ false) × (rest ≡ None)
none_by true x rest e = cc
none_by false x rest e = (refl, e)

pub new_memory : (mems : List Mem) (name : List ℕ) → memory_named mems name ≡ None → IsNew (map name_of mems) name
new_memory [] name e = tt
new_memory (mem ∷ mems) name e =
    let parts = none_by (bytes_eq name mem.name) mem (memory_named mems name) e in
    (parts.0, new_memory mems name parts.1)

pub no_memory : (mems : List Mem) (name : List ℕ) → IsNew (map name_of mems) name → memory_named mems name ≡ None
no_memory [] name h = refl
no_memory (mem ∷ mems) name h = ap (λ (b : Bool). cond b (Some mem) (memory_named mems name)) h.0 ∙ no_memory mems name h.1

pub new_reducer : (from : ℕ) (reducers : List Reducer) (name : List ℕ) → position_from (λ (r : Reducer). bytes_eq name r.name) from reducers ≡ None → IsNew (map reducer_name reducers) name
new_reducer from [] name e = tt
new_reducer from (r ∷ reducers) name e =
    let parts = none_by (bytes_eq name r.name) from (position_from (λ (x : Reducer). bytes_eq name x.name) (from + 1) reducers) e in
    (parts.0, new_reducer (from + 1) reducers name parts.1)

pub no_reducer : (from : ℕ) (reducers : List Reducer) (name : List ℕ) → IsNew (map reducer_name reducers) name → position_from (λ (r : Reducer). bytes_eq name r.name) from reducers ≡ None
no_reducer from [] name h = refl
no_reducer from (r ∷ reducers) name h =
    ap (λ (b : Bool). cond b (Some from) (position_from (λ (x : Reducer). bytes_eq name x.name) (from + 1) reducers)) h.0 ∙ no_reducer (from + 1) reducers name h.1

turned : (a b : List ℕ) → bytes_eq a b ≡ false → bytes_eq b a ≡ false
turned a b e = by (bytes_eq b a) refl
  where
    by : (c : Bool) → bytes_eq b a ≡ c → c ≡ false
    by false f = refl
    by true f =
        let same : b ≡ a = (bytes_decides b a).0 f in
        let whole : bytes_eq a b ≡ true = (bytes_decides a b).1 (sym same) in
        cc

-- ---- memories

-- a memory as a line declares it, behind these names and cells
abbrev pub IsMemory : List (List ℕ) → ℕ → Mem → Type 0
IsMemory names first mem =
    IsName mem.name × IsNew names mem.name × (mem.first ≡ first) × (1 ≤ mem.cells) × (first + mem.cells ≤ most_cells) × (mem.array ≡ false → mem.cells ≡ 1)

abbrev pub AreMemories : List (List ℕ) → ℕ → List Mem → Type 0
AreMemories names first [] = Unit {0}
AreMemories names first (mem ∷ mems) = IsMemory names first mem × AreMemories (names ++ mem.name ∷ []) (first + mem.cells) mems

pub one_more_memory : (names : List (List ℕ)) (first : ℕ) (mems : List Mem) (mem : Mem) → AreMemories names first mems → (all : List (List ℕ)) → all ≡ names ++ map name_of mems
    → (total : ℕ) → total ≡ first + cells_of mems → IsMemory all total mem → AreMemories names first (mems ++ mem ∷ [])
one_more_memory names first [] mem h all e total f k =
    let none : total ≡ first = omega (arith, f) in
    (subst (λ (n : ℕ). IsMemory names n mem) none (subst (λ (ns : List (List ℕ)). IsMemory ns total mem) (e ∙ append-nil names) k), tt)
one_more_memory names first (x ∷ mems) mem h all e total f k = (
  h.0,
  one_more_memory (names ++ x.name ∷ []) (first + x.cells) mems mem h.1 all (e ∙ sym (append_assoc names (x.name ∷ []) (map name_of mems))) total
      (omega (arith, f, cells_cons x mems)) k,
)

-- ---- reducers

abbrev pub IsReducer : Version → List (List ℕ) → Reducer → Type 0
IsReducer version names reducer = IsName reducer.name × IsNew names reducer.name × HasMonoid version reducer.monoid

abbrev pub AreReducers : Version → List (List ℕ) → List Reducer → Type 0
AreReducers version names [] = Unit {0}
AreReducers version names (reducer ∷ reducers) = IsReducer version names reducer × AreReducers version (names ++ reducer.name ∷ []) reducers

pub one_more_reducer : (version : Version) (names : List (List ℕ)) (reducers : List Reducer) (reducer : Reducer) → AreReducers version names reducers → (all : List (List ℕ)) → all ≡ names ++ map reducer_name reducers
    → IsReducer version all reducer → AreReducers version names (reducers ++ reducer ∷ [])
one_more_reducer version names [] reducer h all e k = (subst (λ (ns : List (List ℕ)). IsReducer version ns reducer) (e ∙ append-nil names) k, tt)
one_more_reducer version names (x ∷ reducers) reducer h all e k =
    (h.0, one_more_reducer version (names ++ x.name ∷ []) reducers reducer h.1 all (e ∙ sym (append_assoc names (x.name ∷ []) (map reducer_name reducers))) k)

-- ---- what is declared

-- the reducers have other names than the memories
abbrev pub AreApart : List (List ℕ) → List Reducer → Type 0
AreApart names reducers = AllByRecursion (λ (r : Reducer). IsNew names r.name) reducers

pub record AreDeclared (known : Known) : Type 0 where
  pub memories : AreMemories [] 0 known.mems
  pub reducers : AreReducers known.version [] known.reducers
  pub apart : AreApart (map name_of known.mems) known.reducers
  pub few : length known.reducers ≤ most_reducers

apart_more : (names : List (List ℕ)) (name : List ℕ) (reducers : List Reducer) → AreApart names reducers → IsNew (map reducer_name reducers) name → AreApart (names ++ name ∷ []) reducers
apart_more names name [] h k = tt
apart_more names name (r ∷ reducers) h k =
    (new_append names (name ∷ []) r.name h.0 (turned name r.name k.0, tt), apart_more names name reducers h.1 k.1)

monoid_said : (scope : NameScope) (rest : List (List ℕ)) (more : List Placed) (monoid : Monoid) → placed (Common trace.MonoidWord ∷ []) [] rest ≡ Some more
    → WordsMean scope more (Plain (OfMonoid monoid) ∷ []) → HasMonoid scope.known.version monoid
monoid_said scope rest more monoid e m = (first_means (WordMeans scope) (Common trace.MonoidWord) [] [] rest more (Plain (OfMonoid monoid)) [] e m).3.0

single : (count : Option ℕ) → is_some count ≡ false → unwrap_or count 1 ≡ 1
single None e = refl
single (Some n) e = cc

memory_declared : (known : Known) (at : ℕ) (name : List ℕ) (count : Option ℕ) → AreDeclared known → IsName name → memory_named known.mems name ≡ None → reducer_named known.reducers name ≡ None
    → 1 ≤ unwrap_or count 1 → cells_of known.mems + unwrap_or count 1 ≤ most_cells → AreDeclared (record known { mems = known.mems ++ memory_at at known.mems name count ∷ [] })
memory_declared known at name count h is free other some room =
    let mem : Mem = memory_at at known.mems name count in
    record {
      memories = one_more_memory [] 0 known.mems mem h.memories (map name_of known.mems) refl (cells_of known.mems) (sym (zero-add (cells_of known.mems)))
          (is, new_memory known.mems name free, refl, some, room, single count);
      reducers = h.reducers;
      apart = subst (λ (ns : List (List ℕ)). AreApart ns known.reducers) (sym (map_push name_of known.mems mem))
          (apart_more (map name_of known.mems) name known.reducers h.apart (new_reducer 0 known.reducers name other));
      few = h.few;
    }

reducer_declared : (known : Known) (at : ℕ) (name : List ℕ) (monoid : Monoid) → AreDeclared known → IsName name → memory_named known.mems name ≡ None → reducer_named known.reducers name ≡ None
    → HasMonoid known.version monoid → length known.reducers < most_reducers → AreDeclared (record known { reducers = known.reducers ++ reducer_at at name monoid ∷ [] })
reducer_declared known at name monoid h is free other has room =
    let reducer : Reducer = reducer_at at name monoid in
    record {
      memories = h.memories;
      reducers = one_more_reducer known.version [] known.reducers reducer h.reducers (map reducer_name known.reducers) refl (is, new_reducer 0 known.reducers name other, has);
      apart = append_all (λ (r : Reducer). IsNew (map name_of known.mems) r.name) known.reducers (reducer ∷ []) h.apart (new_memory known.mems name free, tt);
      few = omega (arith, length_push known.reducers reducer, room);
    }

ended_same : (at : ℕ) (before : Draft) (current : Open) (parts : List Part) → (ended_by at before current parts).known ≡ before.known
ended_same at before current [] = refl
ended_same at before current (part ∷ parts) = refl

known_ended : (at : ℕ) (before : Draft) (current : Option Open) → (ended at before current).known ≡ before.known
known_ended at before None = refl
known_ended at before (Some current) = ended_same at before current current.parts

extended_declared : (names : List (List ℕ)) (at : ℕ) (before : Draft) (line : List ℕ) (item : Item) → LineMeans names at before line item → AreDeclared before.known → AreDeclared (extended at before item).known
extended_declared names at before line Blank m h = h
extended_declared names at before line (Declared name count) m h =
    let s = said names at before (words line) (Declared name count) m.2 in
    memory_declared before.known at name count h s.0 s.1.0 s.1.1 (length_said (scope_of names before) (words line) name count m.2) m.4
extended_declared names at before line (Reduces name monoid) m h =
    let s = said names at before (words line) (Reduces name monoid) m.2 in
    let first = first_said (scope_of names before) (words line) word.Reducer FreshName (Common trace.MonoidWord ∷ []) (Plain (OfName name)) (Plain (OfMonoid monoid) ∷ []) refl m.2 in
    reducer_declared before.known at name monoid h s.0 s.1.0 s.1.1 (monoid_said (scope_of names before) first.2 first.1 monoid first.5 first.4) m.4
extended_declared names at before line (Begins name parameter) m h = h
extended_declared names at before line (Does statement named) m h = h
extended_declared names at before line (Decides register) m h = h
extended_declared names at before line Otherwise m h = h
extended_declared names at before line Ends m h = subst AreDeclared (sym (known_ended at before before.current)) h

lines_declared : (names : List (List ℕ)) (at : ℕ) (before : Draft) (ls : List (List ℕ)) (contents : Contents) → LinesMean names at before ls contents → AreDeclared before.known → AreDeclared contents.known
lines_declared names at before [] contents m h = subst (λ (c : Contents). AreDeclared c.known) (sym m.2) h
lines_declared names at before (line ∷ ls) contents m h =
    lines_declared names (at + 1) (extended at before m.0) ls contents m.2 (extended_declared names at before line m.0 m.1 h)

declared_by : (ls : List (List ℕ)) (contents : Contents) → LinesOfProgram ls contents → AreDeclared contents.known
declared_by [] contents m = absurd m
declared_by (first ∷ rest) contents m =
    lines_declared _ 2 (nothing contents.known.version) rest contents m.1 (record { memories = tt; reducers = tt; apart = tt; few = omega arith })

-- what a text means is declared so
pub declared_of_text : (text : List ℕ) (contents : Contents) → TextMeans text contents → AreDeclared contents.known
declared_of_text text contents m = declared_by (lines text) contents m
