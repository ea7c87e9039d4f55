-- The plain text of the trace of a run means that trace.
use Rattle.std.proofs.Common.{◌≡◌, ℕ, ◌+◌, ◌≤◌, ◌<◌, ◌∷◌, ◌++◌, [], List, Bool, true, false, cond, length, map, arith, refl, sym, ap, ◌∙◌, subst, append_assoc}
use Rattle.std.specs.Prelude.{Option, Some, None, unwrap_or, is_some}
use Rattle.std.specs.List.{AllByRecursion}
use Rattle.std.proofs.lemmas.List.{append-nil, map_push, length_push}
use Rattle.std.proofs.lemmas.List.Elements.{recursion_from_All}
use Rattle.text_words.specs.declared.value.Version.{Version}
use Rattle.model_accesses.specs.declared.request.Act.{Act}
use Rattle.text_words.specs.declared.value.Mem.{Mem}
use Rattle.text_words.specs.declared.value.Reducer.{Reducer}
use Rattle.text_words.specs.declared.value.TraceLine.{TraceLine}
use Rattle.text_words.specs.Text.{lines}
use Rattle.model_accesses.specs.Limits.{most_cells}
use Rattle.model_reducers.specs.Limits.{most_reducers}
use Rattle.text_words.specs.Limits.{most_requests, most_lines}
use Rattle.text_words.specs.Values.{Known, Contents}
use Rattle.text_words.specs.Declarations.{cells_of, memory_at}
use Rattle.trace_text.specs.declared.keyword.Keyword.TheVariants.{Mem as MemWord, Reducer as ReducerWord}
use Rattle.trace_text.specs.Lines.{OfName, OfNumber, OfMonoid, asks, operands, if_there}
use Rattle.trace_text.specs.Grammar.{Declared, Reduces, Asked, LineMeans, LinesMean, LinesOfTrace, extended, nothing}
use Rattle.trace_text.specs.Printing.{Entry as Line, OfMemory, OfReducer, OfRequest, entry_text, length_of, plain_line, plain_lines, plain_text, lines_from, entries as lines_in}
use Rattle.trace_text.proofs.Kept.{IsKept, kept_extended, kept_nothing, cells_push, cells_cons}
use Rattle.trace_text.proofs.PlainWords.{AreText, lines_ended}
use Rattle.trace_text.proofs.PlainPlaces.{says_plain}
use Rattle.trace_text.proofs.PlainLines.{plain_header}
use Rattle.model_histories.specs.declared.answer.Entry.{Entry}
use Rattle.run_traces.specs.Traces.{mems_from, reducers_from, requests_from, behind_declarations, known_in_trace, trace_contents}
use Rattle.run_traces.specs.Fitting.{IsSayable, IsFitting}
use Rattle.run_traces.specs.Laws.{MeaningLaw}
use Rattle.run_traces.proofs.Fitted.{fitting_law}
use Rattle.run_traces.proofs.Declared.{AreMemories, IsMemory, AreReducers, IsReducer, AreApart, IsNew, AreDeclared, name_of, reducer_name, no_memory, no_reducer, declared_of_text}
use Rattle.run_traces.proofs.Sayings.{says_memory, says_reducer, says_request}
use Rattle.run_traces.proofs.Rows.{lines_of, lines_row}

-- ---- the line of a memory

count_is : (array : Bool) (cells : ℕ) → (array ≡ false → cells ≡ 1) → unwrap_or (cond array (Some cells) None) 1 ≡ cells
count_is true cells h = refl
count_is false cells h = sym (h refl)

array_is : (array : Bool) (cells : ℕ) → is_some (cond array (Some cells) None) ≡ array
array_is true cells = refl
array_is false cells = refl

count_in : (array : Bool) (cells n : ℕ) → cond array (Some cells) None ≡ Some n → cells ≡ n
count_in true cells n e = cc
count_in false cells n e = cc

memory_text : (known other : Known) (name : List ℕ) (count : Option ℕ) → plain_line known MemWord (OfName name ∷ if_there count) ≡ plain_line other MemWord (OfName name ∷ if_there count)
memory_text known other name None = refl
memory_text known other name (Some n) = refl

abbrev FitEntry : Known → Entry → Type 0
FitEntry known entry = IsFitting known entry.request

abbrev asked : Known → List TraceLine → Contents
asked known lines = record { known = known; lines = lines }

module _ (version : Version) where
  abbrev with_reducers : List Mem → List Reducer → Contents
  with_reducers mems reducers = record { known = record { version = version; mems = mems; reducers = reducers }; lines = [] }

  abbrev with_mems : List Mem → Contents
  with_mems mems = with_reducers mems []

  memory_line : (printed : Known) (at : ℕ) (done : List Mem) (mem : Mem) → at ≤ most_lines → IsKept (with_mems done) → IsMemory (map name_of done) (cells_of done) mem
      → LineMeans at (with_mems done) (entry_text printed (OfMemory (record mem { line = at }))) (Declared mem.name (length_of mem))
  memory_line printed at done mem l kept h =
      let known : Known = (with_mems done).known in
      let low : 1 ≤ mem.cells = h.3 in
      let few : cells_of done + mem.cells ≤ most_cells = h.4 in
      let count : unwrap_or (length_of mem) 1 ≡ mem.cells = count_is mem.array mem.cells h.5 in
      let says = says_memory known mem.name (length_of mem) h.0 (no_memory done mem.name h.1, refl)
      (λ n e. let same : mem.cells ≡ n = count_in mem.array mem.cells n e in (omega (arith, low, same), omega (arith, few, same))) in
      let plain = says_plain known kept.numbered kept.not_empty says.0 MemWord (OfName mem.name ∷ if_there (length_of mem)) says.1 in
      subst (λ (text : List ℕ). LineMeans at (with_mems done) text (Declared mem.name (length_of mem))) (memory_text known printed mem.name (length_of mem))
      (l, plain.0, plain.1, refl, omega (arith, few, count))

  memory_is : (at : ℕ) (done : List Mem) (mem : Mem) → IsMemory (map name_of done) (cells_of done) mem → memory_at at done mem.name (length_of mem) ≡ record mem { line = at }
  memory_is at done mem h =
      let made : ℕ → Bool → ℕ → Mem = λ cells array first. record { name = mem.name; cells = cells; array = array; first = first; line = at } in
      ap (λ (n : ℕ). made n (is_some (length_of mem)) (cells_of done)) (count_is mem.array mem.cells h.5)
      ∙ (ap (λ (b : Bool). made mem.cells b (cells_of done)) (array_is mem.array mem.cells) ∙ ap (made mem.cells mem.array) (sym h.2))

  mems_mean : (printed : Known) (contents : Contents) (more : List Line) (at after : ℕ) (done rest all : List Mem) → after ≡ at + length rest → all ≡ done ++ mems_from at rest → after ≤ most_lines + 1
      → IsKept (with_mems done) → AreMemories (map name_of done) (cells_of done) rest
      → (IsKept (with_mems all) → LinesMean after (with_mems all) (map (entry_text printed) more) contents)
      → LinesMean at (with_mems done) (map (entry_text printed) (map OfMemory (mems_from at rest) ++ more)) contents
  mems_mean printed contents more at after done [] all e f l kept h then =
      let same : after ≡ at = omega (arith, e) in
      let whole : all ≡ done = f ∙ append-nil done in
      subst (λ (n : ℕ). LinesMean n (with_mems done) (map (entry_text printed) more) contents) same
      (subst (λ (ms : List Mem). LinesMean after (with_mems ms) (map (entry_text printed) more) contents) whole
      (then (subst (λ (ms : List Mem). IsKept (with_mems ms)) (sym whole) kept)))
  mems_mean printed contents more at after done (mem ∷ rest) all e f l kept h then =
      let line : Mem = record mem { line = at } in
      let item = Declared mem.name (length_of mem) in
      let m = memory_line printed at done mem (omega (arith, e, l)) kept h.0 in
      let next : extended at (with_mems done) item ≡ with_mems (done ++ line ∷ []) = ap (λ (x : Mem). with_mems (done ++ x ∷ [])) (memory_is at done mem h.0) in
      let names : map name_of (done ++ line ∷ []) ≡ map name_of done ++ mem.name ∷ [] = map_push name_of done line in
      let cells : cells_of (done ++ line ∷ []) ≡ cells_of done + mem.cells = cells_push done line in (
        item,
        m,
        subst (λ (c : Contents). LinesMean (at + 1) c (map (entry_text printed) (map OfMemory (mems_from (at + 1) rest) ++ more)) contents) (sym next)
            (mems_mean printed contents more (at + 1) after (done ++ line ∷ []) rest all (omega (arith, e)) (f ∙ sym (append_assoc done (line ∷ []) (mems_from (at + 1) rest))) l
            (subst IsKept next (kept_extended at (with_mems done) (entry_text printed (OfMemory line)) kept item m))
            (subst (λ (ns : List (List ℕ)). AreMemories ns (cells_of (done ++ line ∷ [])) rest) (sym names) (subst (λ (n : ℕ). AreMemories (map name_of done ++ mem.name ∷ []) n rest) (sym cells) h.1)) then),
      )

  -- ---- the line of a reducer

  module _ (mems : List Mem) where
    reducer_line : (printed : Known) (at : ℕ) (done : List Reducer) (reducer : Reducer) → at ≤ most_lines → IsKept (with_reducers mems done) → IsReducer version (map reducer_name done) reducer
        → IsNew (map name_of mems) reducer.name → length done < most_reducers
        → LineMeans at (with_reducers mems done) (entry_text printed (OfReducer (record reducer { line = at }))) (Reduces reducer.name reducer.monoid)
    reducer_line printed at done reducer l kept h free room =
        let known : Known = (with_reducers mems done).known in
        let says = says_reducer known reducer.name reducer.monoid h.0 (no_memory mems reducer.name free, no_reducer 0 done reducer.name h.1) h.2 in
        let plain = says_plain known kept.numbered kept.not_empty says.0 ReducerWord (OfName reducer.name ∷ OfMonoid reducer.monoid ∷ []) says.1 in
        (l, plain.0, plain.1, refl, room)

    reducers_mean : (printed : Known) (contents : Contents) (more : List Line) (at after : ℕ) (done rest all : List Reducer) → after ≡ at + length rest → all ≡ done ++ reducers_from at rest → after ≤ most_lines + 1
        → IsKept (with_reducers mems done) → AreReducers version (map reducer_name done) rest → AreApart (map name_of mems) rest → length done + length rest ≤ most_reducers
        → (IsKept (with_reducers mems all) → LinesMean after (with_reducers mems all) (map (entry_text printed) more) contents)
        → LinesMean at (with_reducers mems done) (map (entry_text printed) (map OfReducer (reducers_from at rest) ++ more)) contents
    reducers_mean printed contents more at after done [] all e f l kept h apart few then =
        let same : after ≡ at = omega (arith, e) in
        let whole : all ≡ done = f ∙ append-nil done in
        subst (λ (n : ℕ). LinesMean n (with_reducers mems done) (map (entry_text printed) more) contents) same
        (subst (λ (rs : List Reducer). LinesMean after (with_reducers mems rs) (map (entry_text printed) more) contents) whole
        (then (subst (λ (rs : List Reducer). IsKept (with_reducers mems rs)) (sym whole) kept)))
    reducers_mean printed contents more at after done (reducer ∷ rest) all e f l kept h apart few then =
        let line : Reducer = record reducer { line = at } in
        let item = Reduces reducer.name reducer.monoid in
        let m = reducer_line printed at done reducer (omega (arith, e, l)) kept h.0 apart.0 (omega (arith, few)) in
        let names : map reducer_name (done ++ line ∷ []) ≡ map reducer_name done ++ reducer.name ∷ [] = map_push reducer_name done line in (
          item,
          m,
          reducers_mean printed contents more (at + 1) after (done ++ line ∷ []) rest all (omega (arith, e)) (f ∙ sym (append_assoc done (line ∷ []) (reducers_from (at + 1) rest))) l
              (kept_extended at (with_reducers mems done) (entry_text printed (OfReducer line)) kept item m)
              (subst (λ (ns : List (List ℕ)). AreReducers version ns rest) (sym names) h.1) apart.1 (omega (arith, few, length_push done line)) then,
        )

-- ---- the line of a request

module _ (known : Known) (memories : AreMemories [] 0 known.mems) (reducers : AreReducers known.version [] known.reducers) where
  request_line : (at : ℕ) (done : List TraceLine) (entry : Entry) → at ≤ most_lines → IsKept (asked known done) → FitEntry known entry → length done < most_requests
      → LineMeans at (asked known done) (entry_text known (OfRequest (record { at = at; request = entry.request; marked = true }))) (Asked (record { at = at; request = entry.request; marked = true }))
  request_line at done entry l kept fit room =
      let request = entry.request in
      let says = says_request known kept.numbered memories reducers request.strand request.line fit.strand fit.marked fit.mark request.act fit.act in
      let plain = says_plain known kept.numbered kept.not_empty says.0 (asks request.act) (OfNumber request.strand ∷ (operands request.act ++ if_there (Some request.line))) says.1 in
      (l, plain.0, (Some request.line, plain.1, refl, refl, refl), tt, room)

  requests_mean : (at : ℕ) (done all : List TraceLine) (rest : List Entry) → all ≡ done ++ requests_from at rest → at + length rest ≤ most_lines + 1 → length done + length rest ≤ most_requests
      → IsKept (asked known done) → AllByRecursion (FitEntry known) rest → LinesMean at (asked known done) (map (entry_text known) (map OfRequest (requests_from at rest))) (asked known all)
  requests_mean at done all [] f l few kept fit = ap (asked known) (f ∙ append-nil done)
  requests_mean at done all (entry ∷ rest) f l few kept fit =
      let line : TraceLine = record { at = at; request = entry.request; marked = true } in
      let m = request_line at done entry (omega (arith, l)) kept fit.0 (omega (arith, few)) in (
        Asked line,
        m,
        requests_mean (at + 1) (done ++ line ∷ []) all rest (f ∙ sym (append_assoc done (line ∷ []) (requests_from (at + 1) rest))) (omega (arith, l)) (omega (arith, few, length_push done line))
            (kept_extended at (asked known done) (entry_text known (OfRequest line)) kept (Asked line) m) fit.1,
      )

-- ---- the declarations on other lines

memories_from : (names : List (List ℕ)) (first at : ℕ) (mems : List Mem) → AreMemories names first mems → AreMemories names first (mems_from at mems)
memories_from names first at [] h = tt
memories_from names first at (mem ∷ mems) h = (h.0, memories_from (names ++ mem.name ∷ []) (first + mem.cells) (at + 1) mems h.1)

declared_reducers_from : (version : Version) (names : List (List ℕ)) (at : ℕ) (reducers : List Reducer) → AreReducers version names reducers → AreReducers version names (reducers_from at reducers)
declared_reducers_from version names at [] h = tt
declared_reducers_from version names at (reducer ∷ reducers) h = (h.0, declared_reducers_from version (names ++ reducer.name ∷ []) (at + 1) reducers h.1)

names_from : (at : ℕ) (mems : List Mem) → map name_of (mems_from at mems) ≡ map name_of mems
names_from at [] = refl
names_from at (mem ∷ mems) = ap (λ (ns : List (List ℕ)). mem.name ∷ ns) (names_from (at + 1) mems)

pub cells_from : (at : ℕ) (mems : List Mem) → cells_of (mems_from at mems) ≡ cells_of mems
cells_from at [] = refl
cells_from at (mem ∷ mems) =
    let first : cells_of (mems_from at (mem ∷ mems)) ≡ mem.cells + cells_of (mems_from (at + 1) mems) = cells_cons (record mem { line = at }) (mems_from (at + 1) mems) in
    first ∙ (ap (λ (n : ℕ). mem.cells + n) (cells_from (at + 1) mems) ∙ sym (cells_cons mem mems))

count_from : (at : ℕ) (reducers : List Reducer) → length (reducers_from at reducers) ≡ length reducers
count_from at [] = refl
count_from at (reducer ∷ reducers) = omega (arith, count_from (at + 1) reducers)

few_memories : (names : List (List ℕ)) (first : ℕ) (mems : List Mem) → AreMemories names first mems → first ≤ most_cells → first + length mems ≤ most_cells
few_memories names first [] h l = omega (arith, l)
few_memories names first (mem ∷ mems) h l =
    let rest = few_memories (names ++ mem.name ∷ []) (first + mem.cells) mems h.1 h.0.4 in
    let low : 1 ≤ mem.cells = h.0.3 in
    omega (arith, rest, low)

module _ (known : Known) where
  abbrev behind_mems : ℕ
  behind_mems = 2 + length known.mems

  sayable_in : (act : Act) → IsSayable known act → IsSayable (known_in_trace known) act
  sayable_in (Act.Read cell) s = omega (arith, s, cells_from 2 known.mems)
  sayable_in (Act.Write cell value) s = (omega (arith, s.0, cells_from 2 known.mems), s.1)
  sayable_in (Act.Bump cell value) s = (omega (arith, s.0, cells_from 2 known.mems), s.1, s.2)
  sayable_in (Act.Update reducer value) s = (omega (arith, s.0, count_from behind_mems known.reducers), s.1)
  sayable_in (Act.Put reducer value) s = (omega (arith, s.0, count_from behind_mems known.reducers), s.1)
  sayable_in (Act.Get reducer) s = omega (arith, s, count_from behind_mems known.reducers)
  sayable_in act s = tt

  fit_in : (entries : List Entry) → AllByRecursion (FitEntry known) entries → AllByRecursion (FitEntry (known_in_trace known)) entries
  fit_in [] h = tt
  fit_in (entry ∷ entries) h =
      (record { strand = h.0.strand; marked = h.0.marked; mark = h.0.mark; act = sayable_in entry.request.act h.0.act }, fit_in entries h.1)

-- ---- the whole text

texts_of : (at : ℕ) (so_far : Contents) (ls : List (List ℕ)) (contents : Contents) → LinesMean at so_far ls contents → AreText ls
texts_of at so_far [] contents m = tt
texts_of at so_far (line ∷ ls) contents m = (m.1.1, texts_of (at + 1) (extended at so_far m.0) ls contents m.2)

lines_mean : (known : Known) (entries : List Entry) → AreDeclared known → AllByRecursion (FitEntry known) entries → length entries ≤ 1000000
    → LinesMean 2 (nothing known.version) (map (entry_text (known_in_trace known)) (lines_of known entries)) (asked (known_in_trace known) (requests_from (behind_declarations known) entries))
lines_mean known entries declared fit few =
    let printed : Known = known_in_trace known in
    let contents : Contents = asked printed (requests_from (behind_declarations known) entries) in
    let mems : List Mem = mems_from 2 known.mems in
    let reducers : List Reducer = reducers_from (2 + length known.mems) known.reducers in
    let many = few_memories [] 0 known.mems declared.memories (omega arith) in
    mems_mean known.version printed contents (map OfReducer reducers ++ map OfRequest (requests_from (behind_declarations known) entries)) 2 (2 + length known.mems) [] known.mems mems refl refl
    (omega (arith, many)) (kept_nothing known.version) declared.memories
    (λ kept. reducers_mean known.version mems printed contents (map OfRequest (requests_from (behind_declarations known) entries)) (2 + length known.mems) (behind_declarations known) [] known.reducers reducers refl refl
    (omega (arith, many, declared.few)) kept declared.reducers (subst (λ (ns : List (List ℕ)). AreApart ns known.reducers) (sym (names_from 2 known.mems)) declared.apart) (omega (arith, declared.few))
    (λ all. requests_mean printed (memories_from [] 0 2 known.mems declared.memories) (declared_reducers_from known.version [] (2 + length known.mems) known.reducers declared.reducers)
    (behind_declarations known) [] (requests_from (behind_declarations known) entries) entries refl (omega (arith, many, declared.few, few)) (omega (arith, few)) all (fit_in known entries fit)))

pub meaning_law : MeaningLaw
meaning_law text program means entries run =
    let contents : Contents = trace_contents program entries in
    let printed : Known = contents.known in
    let m : LinesMean 2 (nothing program.known.version) (lines_from printed 2 (lines_in contents)) contents =
    subst (λ (ls : List (List ℕ)). LinesMean 2 (nothing program.known.version) ls contents) (sym (lines_row printed program entries))
    (lines_mean program.known entries (declared_of_text text program means) (recursion_from_All (FitEntry program.known) entries (fitting_law text program means entries run)) run.few) in
    let header = plain_header program.known.version in
    let same : lines (plain_text contents) ≡ plain_lines contents =
    lines_ended (plain_lines contents) (header.0, texts_of 2 (nothing program.known.version) (lines_from printed 2 (lines_in contents)) contents m) in
    subst (λ (ls : List (List ℕ)). LinesOfTrace ls contents) (sym same) (header, m)
