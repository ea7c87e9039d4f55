-- What is printed of the trace of a run.
use Rattle.std.proofs.Common.{◌≡◌, ℕ, ◌+◌, ◌∷◌, ◌++◌, [], List, Bool, true, false, cond, map, refl, sym, ap, ◌∙◌, append_assoc, suc, ◌<◌, get_or, drop, drop-cons, add-one}
use Rattle.std.specs.Prelude.{Some, codes, flat_map, slice_index_or, length}
use Rattle.std.specs.List.{find}
use Rattle.std.specs.Fmt.{decimal}
use Rattle.std.proofs.lemmas.List.{append-nil}
use Rattle.std.proofs.lemmas.Grind.{flat_map-append}
use Rattle.model_accesses.specs.declared.request.Act.{Act}
use Rattle.model_accesses.specs.declared.request.Act.TheVariants.{Read, Write, Bump, Update, Put, Get}
use Rattle.text_words.specs.declared.value.Mem.{Mem}
use Rattle.model_reducers.specs.declared.monoid.Monoid.{Monoid}
use Rattle.text_words.specs.declared.value.Reducer.{Reducer}
use Rattle.model_accesses.specs.declared.request.Request.{Request}
use Rattle.text_words.specs.declared.value.TraceLine.{TraceLine}
use Rattle.text_words.specs.Declarations.{cells_of}
use Rattle.text_words.specs.Values.{Known, version_spelling}
use Rattle.trace_text.specs.Lines.{spelling, asks}
use Rattle.trace_text.specs.Shapes.{has_cell, name_found, name_of_cell}
use Rattle.trace_text.specs.Printing.{Entry as Line, OfMemory, OfReducer, OfRequest, entry_text, operand_text, name_of_reducer, plain_text, lines_from, entries as lines_in}
use Rattle.trace_text.proofs.Printed.{request_text}
use Rattle.model_histories.specs.declared.answer.Answer.{Answer}
use Rattle.model_histories.specs.declared.answer.Entry.{Entry}
use Rattle.model_histories.specs.Shapes.{Shape}
use Rattle.program_text.specs.Drafts.{Contents}
use Rattle.run_traces.specs.Traces.{mems_from, reducers_from, requests_from, behind_declarations, known_in_trace, trace_contents}
use Rattle.run_traces.specs.Texts.{lines_text, line_of_request, mems_text, reducers_text, requests_text}
use Rattle.run_traces.specs.Laws.{RequestsLaw, ShapeLaw}
use Rattle.run_traces.proofs.Rows.{lines_of, lines_row}
use Rattle.run_traces.proofs.Written.{cells_from}

-- ---- the laws of requests and shape

requests_are : (at : ℕ) (entries : List Entry) → map (λ (line : TraceLine). line.request) (requests_from at entries) ≡ map (λ (entry : Entry). entry.request) entries
requests_are at [] = refl
requests_are at (entry ∷ entries) = ap (λ (rs : List Request). entry.request ∷ rs) (requests_are (at + 1) entries)

pub requests_law : RequestsLaw
requests_law program entries = requests_are (behind_declarations program.known) entries

monoids_from : (at : ℕ) (reducers : List Reducer) → map (λ (r : Reducer). r.monoid) (reducers_from at reducers) ≡ map (λ (r : Reducer). r.monoid) reducers
monoids_from at [] = refl
monoids_from at (r ∷ reducers) = ap (λ (ms : List Monoid). r.monoid ∷ ms) (monoids_from (at + 1) reducers)

pub shape_law : ShapeLaw
shape_law program entries =
    let known = program.known in
    let made : ℕ → List Monoid → Shape = λ cells monoids. record { cells = cells; monoids = monoids } in
    let from : ℕ = 2 + length known.mems in
    ap (λ (n : ℕ). made n (map (λ (r : Reducer). r.monoid) (reducers_from from known.reducers))) (cells_from 2 known.mems)
    ∙ ap (made (cells_of known.mems)) (monoids_from from known.reducers)

-- ---- names are the same on other lines

names_from : (at : ℕ) (reducers : List Reducer) → map (λ (r : Reducer). r.name) (reducers_from at reducers) ≡ map (λ (r : Reducer). r.name) reducers
names_from at [] = refl
names_from at (r ∷ reducers) = ap (λ (ns : List (List ℕ)). r.name ∷ ns) (names_from (at + 1) reducers)

cell_from : (cell at : ℕ) (mems : List Mem) → name_of_cell (mems_from at mems) cell ≡ name_of_cell mems cell
cell_from cell at [] = refl
cell_from cell at (mem ∷ mems) = by (has_cell cell mem) (cell_from cell (at + 1) mems)
  where
    by : (b : Bool) → name_found cell (find (has_cell cell) (mems_from (at + 1) mems)) ≡ name_found cell (find (has_cell cell) mems)
        → name_found cell (cond b (Some (record mem { line = at })) (find (has_cell cell) (mems_from (at + 1) mems))) ≡ name_found cell (cond b (Some mem) (find (has_cell cell) mems))
    by true h = refl
    by false h = h

module _ (known : Known) where
  abbrev printed : Known
  printed = known_in_trace known

  reducer_from : (reducer : ℕ) → name_of_reducer printed.reducers reducer ≡ name_of_reducer known.reducers reducer
  reducer_from reducer = ap (λ (ns : List (List ℕ)). slice_index_or ns reducer []) (names_from _ known.reducers)

  operands_from : (act : Act) → operand_text printed act ≡ operand_text known act
  operands_from (Read cell) = ap (λ (name : List ℕ). 32 ∷ name) (cell_from cell 2 known.mems)
  operands_from (Write cell value) = ap (λ (name : List ℕ). 32 ∷ (name ++ 32 ∷ decimal value)) (cell_from cell 2 known.mems)
  operands_from (Bump cell value) = ap (λ (name : List ℕ). 32 ∷ (name ++ 32 ∷ decimal value)) (cell_from cell 2 known.mems)
  operands_from (Update reducer value) = ap (λ (name : List ℕ). 32 ∷ (name ++ 32 ∷ decimal value)) (reducer_from reducer)
  operands_from (Put reducer value) = ap (λ (name : List ℕ). 32 ∷ (name ++ 32 ∷ decimal value)) (reducer_from reducer)
  operands_from (Get reducer) = ap (λ (name : List ℕ). 32 ∷ name) (reducer_from reducer)
  operands_from act = refl

  request_from : (at : ℕ) (request : Request) → entry_text printed (OfRequest (record { at = at; request = request; marked = true })) ≡ entry_text known (line_of_request request)
  request_from at request =
      request_text printed (record { at = at; request = request; marked = true })
      ∙ (ap (λ (operands : List ℕ). spelling (asks request.act) ++ 32 ∷ (decimal request.strand ++ (operands ++ 32 ∷ 64 ∷ decimal request.line))) (operands_from request.act)
      ∙ sym (request_text known (record { at = 0; request = request; marked = true })))

  -- ---- lines

  requests_from_text : (at : ℕ) (entries : List Entry) → lines_text printed (map OfRequest (requests_from at entries)) ≡ requests_text known entries
  requests_from_text at [] = refl
  requests_from_text at (entry ∷ entries) =
      ap (λ (text : List ℕ). (text ++ 10 ∷ []) ++ lines_text printed (map OfRequest (requests_from (at + 1) entries))) (request_from at entry.request)
      ∙ ap (λ (text : List ℕ). (entry_text known (line_of_request entry.request) ++ 10 ∷ []) ++ text) (requests_from_text (at + 1) entries)

mems_from_text : (known : Known) (at : ℕ) (mems : List Mem) → lines_text known (map OfMemory (mems_from at mems)) ≡ mems_text known mems
mems_from_text known at [] = refl
mems_from_text known at (mem ∷ mems) = ap (λ (text : List ℕ). (entry_text known (OfMemory mem) ++ 10 ∷ []) ++ text) (mems_from_text known (at + 1) mems)

reducers_from_text : (known : Known) (at : ℕ) (reducers : List Reducer) → lines_text known (map OfReducer (reducers_from at reducers)) ≡ reducers_text known reducers
reducers_from_text known at [] = refl
reducers_from_text known at (r ∷ reducers) = ap (λ (text : List ℕ). (entry_text known (OfReducer r) ++ 10 ∷ []) ++ text) (reducers_from_text known (at + 1) reducers)

fed : (known : Known) (lines : List Line) → flat_map (λ (line : List ℕ). line ++ 10 ∷ []) (map (entry_text known) lines) ≡ lines_text known lines
fed known [] = refl
fed known (line ∷ lines) = ap (λ (text : List ℕ). (entry_text known line ++ 10 ∷ []) ++ text) (fed known lines)

body_is : (program : Contents) (entries : List Entry)
    → flat_map (λ (line : List ℕ). line ++ 10 ∷ []) (lines_from (known_in_trace program.known) 2 (lines_in (trace_contents program entries)))
    ≡ mems_text (known_in_trace program.known) program.known.mems ++ (reducers_text (known_in_trace program.known) program.known.reducers ++ requests_text program.known entries)
body_is program entries =
    let known = program.known in
    let printed : Known = known_in_trace known in
    let mems = map OfMemory (mems_from 2 known.mems) in
    let reducers = map OfReducer (reducers_from (2 + length known.mems) known.reducers) in
    let requests = map OfRequest (requests_from (behind_declarations known) entries) in
    let one = λ (line : Line). entry_text printed line ++ 10 ∷ [] in
    ap (flat_map (λ (line : List ℕ). line ++ 10 ∷ [])) (lines_row printed program entries)
    ∙ (fed printed (lines_of known entries)
    ∙ (flat_map-append one mems (reducers ++ requests)
    ∙ (ap (λ (text : List ℕ). lines_text printed mems ++ text) (flat_map-append one reducers requests)
    ∙ (ap (λ (text : List ℕ). text ++ (lines_text printed reducers ++ lines_text printed requests)) (mems_from_text printed 2 known.mems)
    ∙ (ap (λ (text : List ℕ). mems_text printed known.mems ++ (text ++ lines_text printed requests)) (reducers_from_text printed _ known.reducers)
    ∙ ap (λ (text : List ℕ). mems_text printed known.mems ++ (reducers_text printed known.reducers ++ text)) (requests_from_text known _ entries))))))

regroup : (first version mems reducers requests : List ℕ) → ((((first ++ 32 ∷ version) ++ 10 ∷ []) ++ mems) ++ reducers) ++ requests ≡ ((first ++ 32 ∷ (version ++ [])) ++ 10 ∷ []) ++ (mems ++ (reducers ++ requests))
regroup first version mems reducers requests =
    let line : List ℕ = first ++ 32 ∷ version in
    let same : first ++ 32 ∷ (version ++ []) ≡ line = ap (λ (v : List ℕ). first ++ 32 ∷ v) (append-nil version) in
    append_assoc ((line ++ 10 ∷ []) ++ mems) reducers requests
    ∙ (append_assoc (line ++ 10 ∷ []) mems (reducers ++ requests) ∙ ap (λ (l : List ℕ). (l ++ 10 ∷ []) ++ (mems ++ (reducers ++ requests))) (sym same))

-- one more line
pub line_fed : (known : Known) (line : Line) (more : List Line) (old put new whole : List ℕ) → put ≡ old ++ entry_text known line → new ≡ put ++ 10 ∷ []
    → old ++ lines_text known (line ∷ more) ≡ whole → new ++ lines_text known more ≡ whole
line_fed known line more old put new whole e f g =
    let text = entry_text known line in
    let rest = lines_text known more in
    ap (λ (t : List ℕ). t ++ rest) (f ∙ ap (λ (t : List ℕ). t ++ 10 ∷ []) e)
    ∙ (ap (λ (t : List ℕ). t ++ rest) (append_assoc old text (10 ∷ [])) ∙ (append_assoc old (text ++ 10 ∷ []) rest ∙ g))

pub drop_item : {X : Type 0} (xs : List X) (i : ℕ) (x : X) → i < length xs → x ≡ get_or xs i x → drop i xs ≡ x ∷ drop (i + 1) xs
drop_item xs i x l e = rw (add-one, drop-cons xs i x) (ap (λ y. y ∷ drop (suc i) xs) (sym e))

-- what is appended in turn is the plain text
pub text_is : (program : Contents) (entries : List Entry) (begun named headed first second whole : List ℕ) → begun ≡ codes "cilk" → named ≡ begun ++ 32 ∷ version_spelling program.known.version
    → headed ≡ named ++ 10 ∷ [] → first ≡ headed ++ mems_text (known_in_trace program.known) program.known.mems
    → second ≡ first ++ reducers_text (known_in_trace program.known) program.known.reducers → whole ≡ second ++ requests_text program.known entries
    → whole ≡ plain_text (trace_contents program entries)
text_is program entries begun named headed first second whole a b c d e f =
    let printed : Known = known_in_trace program.known in
    let version = version_spelling program.known.version in
    let mems = mems_text printed program.known.mems in
    let reducers = reducers_text printed program.known.reducers in
    let requests = requests_text program.known entries in
    let parts : whole ≡ ((((codes "cilk" ++ 32 ∷ version) ++ 10 ∷ []) ++ mems) ++ reducers) ++ requests =
    f ∙ ap (λ (text : List ℕ). text ++ requests)
    (e ∙ ap (λ (text : List ℕ). text ++ reducers)
    (d ∙ ap (λ (text : List ℕ). text ++ mems) (c ∙ ap (λ (text : List ℕ). text ++ 10 ∷ []) (b ∙ ap (λ (text : List ℕ). text ++ 32 ∷ version) a)))) in
    parts ∙ (regroup (codes "cilk") version mems reducers requests
    ∙ ap (λ (text : List ℕ). ((codes "cilk" ++ 32 ∷ (version ++ [])) ++ 10 ∷ []) ++ text) (sym (body_is program entries)))

-- ---- the entries of a slice

abbrev pub no_entry : Entry
no_entry = record {
  request = record { strand = 0; line = 0; act = Act.Spawn };
  answer = Answer.Split (record { child = 0; next = 0; join = 0; first = false });
}

pub drop_entry : (entries : List Entry) (i : ℕ) → i < length entries → drop i entries ≡ get_or entries i no_entry ∷ drop (i + 1) entries
drop_entry entries i l = rw (add-one, drop-cons entries i no_entry) refl
